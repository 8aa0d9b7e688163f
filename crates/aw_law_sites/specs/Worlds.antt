-- A world: one site for each role, all messages ever sent, which of them were delivered, and the choices taken.
use Rattle.std.specs.Prelude.{◌≡◌, ℕ, zero, suc, Bool, true, false, List, [], ◌∷◌, ◌++◌, map, Option, Some, None, slice_get, slice_set}
use Rattle.aw_term.specs.Names.{Node, Ref, root}
use Rattle.aw_term.specs.Rules.{Grammar, get, upto}
use Rattle.aw_term.specs.Choices.{Choice, Start, Develop, Answer, Taken}
use Rattle.aw_term.specs.Held.{Held, insert_all}
use Rattle.aw_apply.specs.Messages.{Message, Received, New}
use Rattle.aw_base.specs.ChoiceFits.{choice_ok}
use Rattle.aw_law_sites.specs.Homes.{home}
use Rattle.aw_law_sites.specs.Sites.{Site, empty_site, Reaction}
use Rattle.aw_law_sites.specs.Choosing.{Chosen, No, Did, choose}
use Rattle.aw_law_sites.specs.Reacting.{receive}

-- the sites by role, the messages in the order in which they were sent, which of them were delivered, and the choices in the order in which
-- they were taken
pub record World : Type 0 where
  pub sites : List Site
  pub messages : List Message
  pub delivered : List Bool
  pub taken : List Choice

-- no site holds anything
abbrev pub empty_world : Grammar → Bool → World
empty_world g loads = record { sites = map (empty_site loads) (upto 0 g.roles); messages = []; delivered = []; taken = [] }

-- the site of a role
abbrev pub site_at : World → ℕ → Site
site_at w role = get (empty_site false role) w.sites role

-- the nodes held at these sites, in order
abbrev pub gather : List Site → List Held
gather [] = []
gather (s ∷ ss) = insert_all s.held (gather ss)

-- the node that a choice is about
abbrev pub node_of : Choice → Node
node_of (Start s k) = root s k
node_of (Develop n r args) = n

-- one site reacted: what it sent comes last, undelivered
abbrev pub with_site : World → ℕ → Reaction → World
with_site w role x = record w { sites = slice_set w.sites role x.site; messages = w.messages ++ x.sent; delivered = w.delivered ++ map (λ m. false) x.sent }

-- a choice, or the delivery of the message with this number
pub data Move : Type 0 where
  Chooses : (choice : Choice) → Move
  Delivers : (number : ℕ) → Move

-- what is replied to an event
pub data Reply : Type 0 where
  Answered : (answer : Answer Ref) → Reply
  IsNew : Reply
  Again : Reply
  NoMessage : Reply

-- the world after an event, and the reply to it
pub record Stepped : Type 0 where
  pub world : World
  pub reply : Reply

-- a refused choice changes nothing, and a taken one is noted
abbrev pub chosen_at : World → ℕ → Choice → Chosen → Stepped
chosen_at w role c (No a) = record { world = w; reply = Answered a }
chosen_at w role c (Did x) = record { world = record (with_site w role x) { taken = w.taken ++ c ∷ [] }; reply = Answered Taken }

-- a choice goes to the home of its node
abbrev pub choose_in : Grammar → World → Choice → Stepped
choose_in g w c = chosen_at w (home g (node_of c)) c (choose g (site_at w (home g (node_of c))) c)

-- this message was delivered
abbrev pub mark_delivered : ℕ → World → World
mark_delivered k w = record w { delivered = slice_set w.delivered k true }

-- what is new changes the site that it came to
abbrev pub received_at : World → ℕ → ℕ → Received Reaction → Stepped
received_at w k to (New x) = record { world = mark_delivered k (with_site w to x); reply = IsNew }
received_at w k to _ = record { world = mark_delivered k w; reply = Again }

-- no message has this number, or it comes to its role
abbrev pub deliver_on : Grammar → World → ℕ → Option Message → Stepped
deliver_on g w k None = record { world = w; reply = NoMessage }
deliver_on g w k (Some m) = received_at w k m.to (receive g (site_at w m.to) m)

-- a message goes to the role that it is for
abbrev pub deliver : Grammar → World → ℕ → Stepped
deliver g w k = deliver_on g w k (slice_get w.messages k)

-- one event
abbrev pub step : Grammar → World → Move → Stepped
step g w (Chooses c) = choose_in g w c
step g w (Delivers k) = deliver g w k

-- these events in turn
abbrev pub run : Grammar → World → List Move → World
run g w [] = w
run g w (e ∷ es) = run g (step g w e).world es

-- the place of the first that is not set, where the places are counted from i
abbrev pub first_false : ℕ → List Bool → Option ℕ
first_false i [] = None
first_false i (true ∷ ds) = first_false (suc i) ds
first_false i (false ∷ ds) = Some i

-- the number of the first message that was never delivered
abbrev pub undelivered : World → Option ℕ
undelivered w = first_false 0 w.delivered

-- how many are set
abbrev pub count_set : List Bool → ℕ
count_set [] = 0
count_set (true ∷ ds) = suc (count_set ds)
count_set (false ∷ ds) = count_set ds

-- how many are not set
abbrev pub count_open : List Bool → ℕ
count_open [] = 0
count_open (true ∷ ds) = count_open ds
count_open (false ∷ ds) = suc (count_open ds)

-- each message was delivered at least once
abbrev pub IsQuiet : World → Type 0
IsQuiet w = undelivered w ≡ None

-- n times: the first undelivered message is delivered, where there is one
abbrev pub settle : ℕ → Grammar → World → World
settle zero g w = w
settle (suc n) g w = elim (undelivered w) [ None ↦ w | Some k ↦ settle n g (deliver g w k).world ]

-- a choice may be asked of the grammar, and any number may be delivered
abbrev pub MayCome : Grammar → Move → Type 0
MayCome g (Chooses c) = choice_ok g c ≡ true
MayCome g (Delivers k) = Unit {0}

-- the world after these events
abbrev pub world_after : Grammar → Bool → List Move → World
world_after g loads es = run g (empty_world g loads) es
