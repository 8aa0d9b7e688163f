-- A world of the program as a plain one, whatever its workspaces are.
use Rattle.std.specs.Prelude.{◌≡◌, ℕ, ◌<◌, ◌≤◌, if◌then◌else◌, Bool, true, false, List, ◌++◌, map, length, Some, slice_get, slice_set}
use Rattle.aw_term.specs.WellFormed.{Each}
use Rattle.aw_accept.specs.Acyclic.{Pairs}
use Rattle.aw_grammar.specs.declared.grammar.Grammar.{Grammar}
use Rattle.aw_grammar.specs.GrammarOf.{grammar_of}
use Rattle.aw_choice.specs.ChoiceView.{choice_of, answer_of}
use Rattle.aw_choice.specs.declared.choice.Choice.{Choice}
use Rattle.aw_choice.specs.declared.choice.Answer.{Answer}
use Rattle.aw_law_sites.specs.Sites.{Site, Reaction, empty_site}
use Rattle.aw_term.specs.Rules as R
use Rattle.aw_term.specs.Rules.{get}
use Rattle.aw_law_sites.specs.Choosing.{Chosen, answer_to}
use Rattle.aw_apply.specs.Messages.{Received}
use Rattle.aw_law_sites.specs.SiteEvents.{after_choice, after_message}
use Rattle.aw_law_sites.specs.Worlds as P
use Rattle.aw_law_sites.specs.Worlds.{MayCome, world_after}
use Rattle.aw_world.specs.declared.workspace.Workspace.{Ghosts}
use Rattle.aw_msg.specs.declared.message.Message.{Message}
use Rattle.aw_world.specs.declared.moves.Move.{Move}
use Rattle.aw_world.specs.declared.moves.Reply.{Reply}
use Rattle.aw_world.specs.declared.moves.Reply.TheVariants as replies
use Rattle.aw_world.specs.Marks.{marks}
use Rattle.aw_term.specs.SameGrammar.{same_grammar}
use Rattle.aw_msg.specs.MessageView.{message_of}
use Rattle.aw_world.specs.MoveView.{move_of, reply_of}
use Rattle.aw_world.specs.Reactions.{choice_at, message_at}
use Rattle.aw_site.specs.Answers.{sent_by, sent_for}
use Rattle.aw_world.specs.SiteAnswers.{is_new}
use Rattle.aw_out.specs.Report.{Bounded}
use Rattle.aw_print.specs.declared.stack.Printer.{Printer}

-- one workspace for each role, each made for its own role and this grammar
pub record ArePlaced {W : Type 0} (f : Ghosts W) (g : Grammar) (ws : List W) : Type 0 where
  pub count : length ws ≡ (grammar_of g).roles
  pub role : (i : ℕ) (x : W) → slice_get ws i ≡ Some x → f.its_role x ≡ i
  pub grammar : (i : ℕ) (x : W) → slice_get ws i ≡ Some x → same_grammar (f.its_grammar x) (grammar_of g) ≡ true

-- these workspaces, messages, marks and choices, as a plain world
abbrev pub world_of : {W : Type 0} (f : Ghosts W) → Grammar → List W → List Message → List Bool → List Choice → P.World
world_of f g ws ms bs cs = record { sites = map (λ w. f.seen w) ws; messages = map (message_of (grammar_of g)) ms; delivered = marks ms bs; taken = map choice_of cs }

-- they are then those of the plain world that this leads to, and this is its reply
pub record Steps {W : Type 0} (f : Ghosts W) (g : Grammar) (ws : List W) (ms : List Message) (bs : List Bool) (cs : List Choice) (x : P.Stepped) (r : Reply) : Type 0 where
  pub world : world_of f g ws ms bs cs ≡ x.world
  pub reply : reply_of r ≡ x.reply

-- each message is for one of these workspaces
abbrev pub AreAddressed : {W : Type 0} → List W → List Message → Type 0
AreAddressed sites messages = (i : ℕ) (m : Message) → slice_get messages i ≡ Some m → m.to < length sites

-- of these sites this one, at its place, answered a choice so
pub record ChoseAt {W : Type 0} (f : Ghosts W) (g : Grammar) (new : List W) (at : ℕ) (ss : List Site) (s : Site) (old_messages new_messages : List Message) (x : Chosen) (a : Answer) : Type 0 where
  pub answer : answer_of a ≡ answer_to x
  pub sites : map (λ w. f.seen w) new ≡ slice_set ss at (after_choice s x)
  pub messages : map (message_of (grammar_of g)) new_messages ≡ map (message_of (grammar_of g)) old_messages ++ sent_by x

-- this site answered a choice so
pub record ChoseHere {W : Type 0} (f : Ghosts W) (g : R.Grammar) (new : W) (s : Site) (old_messages new_messages : List Message) (x : Chosen) (a : Answer) : Type 0 where
  pub answer : answer_of a ≡ answer_to x
  pub site : f.seen new ≡ after_choice s x
  pub messages : map (message_of g) new_messages ≡ map (message_of g) old_messages ++ sent_by x

-- of these sites this one, at its place, took in a message so
pub record GotAt {W : Type 0} (f : Ghosts W) (g : Grammar) (new : List W) (at : ℕ) (ss : List Site) (s : Site)
    (old_messages new_messages : List Message) (x : Received Reaction) (b : Bool) : Type 0 where
  pub fresh : b ≡ is_new x
  pub sites : map (λ w. f.seen w) new ≡ slice_set ss at (after_message s x)
  pub messages : map (message_of (grammar_of g)) new_messages ≡ map (message_of (grammar_of g)) old_messages ++ sent_for x

-- this site took in a message so
pub record GotHere {W : Type 0} (f : Ghosts W) (g : R.Grammar) (new : W) (s : Site) (old_messages new_messages : List Message) (x : Received Reaction) (b : Bool) : Type 0 where
  pub fresh : b ≡ is_new x
  pub site : f.seen new ≡ after_message s x
  pub messages : map (message_of g) new_messages ≡ map (message_of g) old_messages ++ sent_for x

-- some choices and deliveries lead to this world from the one in which no site holds anything
abbrev pub IsReached : {W : Type 0} (f : Ghosts W) (g : Grammar) → Bool → List W → List Message → List Bool → List Choice → Type 0
IsReached f g loads sites messages flags taken =
    (es : List P.Move) × Each (MayCome (grammar_of g)) es × (world_of f g sites messages flags taken ≡ world_after (grammar_of g) loads es)

-- for each workspace a printer of its own, which can print its lines into this report
abbrev pub KeepEach : {W : Type 0} → Ghosts W → Grammar → Bounded → List W → List Printer → Type 0
KeepEach f g report ws ps = Pairs (λ x p. f.keeps x g report p) ws ps

-- the plain world is as it was
abbrev pub SeenStill : {W : Type 0} → Ghosts W → Grammar → List W → List Message → List Bool → List Choice → List W → List Message → List Bool → List Choice → Type 0
SeenStill f g ws ms bs cs xs ns fs ds = world_of f g xs ns fs ds ≡ world_of f g ws ms bs cs

-- the site of a workspace answers the choice, and the site and messages behind the answer are seen after
abbrev pub Answers : {W : Type 0} → Ghosts W → R.Grammar → W → W → List Message → List Message → Choice → Answer → Type 0
Answers f g w x ms ns c a = ChoseHere f g x (f.seen w) ms ns (choice_at g (f.seen w) c) a

-- the same of that of this role
abbrev pub AnswersAt : {W : Type 0} → Ghosts W → Grammar → List W → List W → ℕ → List Message → List Message → Choice → Answer → Type 0
AnswersAt f g ws xs at ms ns c a =
    let ss = map (λ w. f.seen w) ws in
    let s = get (empty_site false at) ss at in
    ChoseAt f g xs at ss s ms ns (choice_at (grammar_of g) s c) a

-- the site of a workspace takes in the message, and the site and messages behind it are seen after
abbrev pub TakesIn : {W : Type 0} → Ghosts W → R.Grammar → W → W → List Message → List Message → Message → Bool → Type 0
TakesIn f g w x ms ns m new = GotHere f g x (f.seen w) ms ns (message_at g (f.seen w) m) new

-- the site of this role takes in the message, and the sites and messages behind it are seen after
abbrev pub TakesInAt : {W : Type 0} → Ghosts W → Grammar → List W → List W → ℕ → List Message → List Message → Message → Bool → Type 0
TakesInAt f g ws xs at ms ns m new =
    let ss = map (λ w. f.seen w) ws in
    let s = get (empty_site false at) ss at in
    GotAt f g xs at ss s ms ns (message_at (grammar_of g) s m) new

-- the plain world behind this choice is seen after, and the answer is the same; what is delivered stays
abbrev pub Chooses : {W : Type 0} → Ghosts W → Grammar → List W → List Message → List Choice → List W → List Message → List Choice → Choice → Answer → Type 0
Chooses f g ws ms cs xs ns ds c a =
    (flags : List Bool) → length flags ≤ length ms → Steps f g xs ns flags ds (P.choose_in (grammar_of g) (world_of f g ws ms flags cs) (choice_of c)) (replies.Choice a)

-- the reply to a message that was new, or was not
abbrev pub reply_for : Bool → Reply
reply_for new = if new then replies.New else replies.Again

-- the plain world behind this delivery is seen after, and the reply is the same; the choices taken stay
abbrev pub Delivers : {W : Type 0} → Ghosts W → Grammar → List W → List Message → List Bool → List W → List Message → List Bool → ℕ → Reply → Type 0
Delivers f g ws ms bs xs ns fs k r = (cs : List Choice) → Steps f g xs ns fs cs (P.deliver (grammar_of g) (world_of f g ws ms bs cs) k) r

-- the plain world behind this event is seen after, and the reply is the same
abbrev pub Moves : {W : Type 0} → Ghosts W → Grammar → List W → List Message → List Bool → List Choice → List W → List Message → List Bool → List Choice → Move → Reply → Type 0
Moves f g ws ms bs cs xs ns fs ds e r = Steps f g xs ns fs ds (P.step (grammar_of g) (world_of f g ws ms bs cs) (move_of e)) r
