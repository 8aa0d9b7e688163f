-- What holds of every world of an accepted grammar, over all choices and deliveries, late, repeated and out of order.
use Rattle.std.specs.Prelude.{◌≡◌, ℕ, ◌<◌, ◌≤◌, Bool, true, false, List, [], map, length, Some, ◌⊎◌, ◌∷◌, ◌++◌}
use Rattle.aw_list.specs.Members.{Member}
use Rattle.aw_term.specs.Trees.{Never}
use Rattle.aw_term.specs.Names.{Node, Ref, root}
use Rattle.aw_term.specs.Rules.{Ground, Rule, Grammar}
use Rattle.aw_term.specs.Configs.{Done, Config}
use Rattle.aw_term.specs.Choices.{Choice, Start, Develop, Answer, Taken, Developed, Refused, Starts, Takes, undivided, answer}
use Rattle.aw_term.specs.Artifacts.{Words, Item, artifact_text}
use Rattle.aw_term.specs.Runs.{worklist}
use Rattle.aw_term.specs.WellFormed.{Each}
use Rattle.aw_term.specs.Held.{Held}
use Rattle.aw_base.specs.ChoiceFits.{choice_ok}
use Rattle.aw_iograph.specs.Dependence.{IO}
use Rattle.aw_accept.specs.Acyclic.{IsAcyclic}
use Rattle.aw_apply.specs.Messages.{Message, Repeat, New}
use Rattle.aw_law_sites.specs.Joint.{Joint}
use Rattle.aw_law_sites.specs.Laws.{AreAcyclic, SameChoices}
use Rattle.aw_law_sites.specs.Homes.{home}
use Rattle.aw_law_sites.specs.Sites.{Site, empty_site, Reaction}
use Rattle.aw_law_sites.specs.Choosing.{No, outcome, answer_to, choose}
use Rattle.aw_law_sites.specs.Reacting.{receive}
use Rattle.aw_law_sites.specs.Worklists.{open_items}
pub use Rattle.aw_law_sites.specs.Worlds.{MayCome, world_after}
pub use Rattle.aw_law_worlds.specs.Holding.{StaysIn, NodesStay, EquationsStay, HoldsConfig, MeetsNoCircle}
use Rattle.aw_law_sites.specs.Worlds.{World, empty_world, site_at, gather, node_of, Move, Chooses, Delivers, run, IsQuiet, settle}
use Rattle.aw_law_sites.specs.Bounds.{bound_of, settled}
use Rattle.aw_law_sites.specs.SiteEvents.{SiteEvent, Chose, Got, site_step, site_run, all_events}
use Rattle.aw_law_worlds.specs.Invariant.{IsDelivered, IsSent, IsInvariant}
use Rattle.aw_law_worlds.specs.ReadRows.{IsPrinted}

-- P holds after every list of events that may come, with loads and without
abbrev pub InEachWorld : Grammar → (Bool → World → Type 0) → Type 0
InEachWorld g P = (loads : Bool) (es : List Move) → Each (MayCome g) es → P loads (world_after g loads es)

-- what each part of the system holds of the others
abbrev pub InvariantHolds : Grammar → Type 0
InvariantHolds g = InEachWorld g (λ loads w. (x : Joint) × IsInvariant g loads w x)

-- a message that was sent is new or a repeat where it is delivered: never a bad name, never not mine, never a conflict
abbrev pub Knowledge : Grammar → Type 0
Knowledge g = InEachWorld g (λ loads w. (k : ℕ) (m : Message) → IsSent w m k →
    (receive g (site_at w m.to) m ≡ Repeat) ⊎ ((x : Reaction) × (receive g (site_at w m.to) m ≡ New x)))

-- a message that was delivered before is a repeat; and without loads no other is
abbrev pub Repeats : Grammar → Type 0
Repeats g = InEachWorld g (λ loads w. (k : ℕ) (m : Message) → IsSent w m k →
    (IsDelivered w k → receive g (site_at w m.to) m ≡ Repeat) × (loads ≡ false → receive g (site_at w m.to) m ≡ Repeat → IsDelivered w k))

-- no guard at a held node meets a circle, and no choice is answered so
abbrev pub NoCircle : Grammar → Type 0
NoCircle g = InEachWorld g (λ loads w. MeetsNoCircle g w)

-- over all later events
abbrev pub Stays : Grammar → Type 0
Stays g = InEachWorld g (λ loads w. (later : List Move) → Each (MayCome g) later → (a : ℕ) →
    EquationsStay (site_at w a).equations (site_at (run g w later) a).equations × NodesStay (site_at w a).held (site_at (run g w later) a).held)

-- after all later events a rule that is enabled is so still, with the same bound references, or its node is developed
abbrev pub RuleStaysEnabled : Grammar → Type 0
RuleStaysEnabled g = InEachWorld g (λ loads w. (later : List Move) → Each (MayCome g) later →
    (a : ℕ) (n : Node) (r : ℕ) (args : List Ground) (rule : Rule) (bound : List Ref) →
    outcome g (site_at w a) (Develop n r args) ≡ Takes rule bound →
    (outcome g (site_at (run g w later) a) (Develop n r args) ≡ Takes rule bound)
    ⊎ (outcome g (site_at (run g w later) a) (Develop n r args) ≡ Refused Developed))

-- after all later events an enabled start is so still, where it is not made among them
abbrev pub StartStaysEnabled : Grammar → Type 0
StartStaysEnabled g = InEachWorld g (λ loads w. (later : List Move) → Each (MayCome g) later → (s k : ℕ) →
    outcome g (site_at w (home g (root s k))) (Start s k) ≡ Starts → (Member (Chooses (Start s k)) later → Never) →
    outcome g (site_at (run g w later) (home g (root s k))) (Start s k) ≡ Starts)

-- the choices taken have an undivided configuration; at quiet the sites hold just that
abbrev pub QuietHolds : Grammar → Type 0
QuietHolds g = InEachWorld g (λ loads w. (c : Config) × (undivided g [] w.taken ≡ Some c) × (IsQuiet w → HoldsConfig g w c))

-- at quiet a choice has the answer of that configuration
abbrev pub QuietAnswers : Grammar → Type 0
QuietAnswers g = InEachWorld g (λ loads w. (c : Config) × (undivided g [] w.taken ≡ Some c)
    × (IsQuiet w → (x : Choice) → answer_to (choose g (site_at w (home g (node_of x))) x) ≡ answer g c x))

-- the items of these nodes, each over the equations of its own site
abbrev pub own_items : Grammar → World → List Held → List Item
own_items g w [] = []
own_items g w (h ∷ hs) = open_items g h.state (site_at w (home g h.node)).equations h ++ own_items g w hs

-- at quiet the worklists of all sites, put together in the order of nodes, are that of the configuration
abbrev pub QuietWorklists : Grammar → Type 0
QuietWorklists g = InEachWorld g (λ loads w. (c : Config) × (undivided g [] w.taken ≡ Some c)
    × (IsQuiet w → own_items g w (gather w.sites) ≡ worklist g c))

-- one role alone sends no message
abbrev pub OneRole : Grammar → Type 0
OneRole g = g.roles ≡ 1 → InEachWorld g (λ loads w. (w.messages ≡ []) × IsQuiet w)

-- the choices taken have an undivided configuration, which is acyclic; at quiet the sites hold the undivided configuration of the same choices in any
-- order that is allowed
abbrev pub Headline : Grammar → Type 0
Headline g = InEachWorld g (λ loads w. (c : Config) × (undivided g [] w.taken ≡ Some c) × IsAcyclic (IO g) c
    × (IsQuiet w → (ds : List Choice) → SameChoices w.taken ds → (d : Config) → undivided g [] ds ≡ Some d → HoldsConfig g w d))

-- at quiet what is printed from each site's own equations is the artifact text of that configuration, byte for byte
abbrev pub Artifacts : Words → Grammar → Type 0
Artifacts words g = InEachWorld g (λ loads w. IsQuiet w → (ds : List Choice) → SameChoices w.taken ds → (d : Config) → undivided g [] ds ≡ Some d →
    IsPrinted words g w (artifact_text words d) × ((text : List ℕ) → IsPrinted words g w text → text ≡ artifact_text words d))

-- at every moment, quiet or not, each reference has a value over each site's equations, and none leads back to itself
abbrev pub ValuesAreFinite : Grammar → Type 0
ValuesAreFinite g = InEachWorld g (λ loads w. (a : ℕ) → AreAcyclic (site_at w a).equations)

-- so there is one text that is printed from what each site holds alone, and no other
abbrev pub PrintsOne : Words → Grammar → Type 0
PrintsOne words g = InEachWorld g (λ loads w. (text : List ℕ) × IsPrinted words g w text × ((other : List ℕ) → IsPrinted words g w other → other ≡ text))

-- the messages are at most the bound of the choices taken, and settling leaves none undelivered
abbrev pub MessagesAreBounded : Grammar → Type 0
MessagesAreBounded g = InEachWorld g (λ loads w. (length w.messages ≤ bound_of g w.taken) × IsQuiet (settled g w))

-- settling is a list of deliveries
abbrev pub SettlingIsDelivering : Grammar → Type 0
SettlingIsDelivering g = (n : ℕ) (w : World) → (ks : List ℕ) × (settle n g w ≡ run g w (map Delivers ks))

-- a choice that may be asked is at home at a role that is declared
abbrev pub HomesAreRoles : Grammar → Type 0
HomesAreRoles g = (c : Choice) → choice_ok g c ≡ true → home g (node_of c) < g.roles

-- no refusal says that the choice was taken
abbrev pub RefusalsAreNotTaken : Grammar → Type 0
RefusalsAreNotTaken g = (s : Site) (c : Choice) (a : Answer Ref) → choose g s c ≡ No a → a ≡ Taken → Never

-- Whatever choices and messages come, honest or forged: equations stay, and a guard that is decided stays so; a node stays with the references that
-- it inherited, perhaps developed; no message changes a node, and no choice changes another node than its own.
pub record SiteStays (g : Grammar) : Type 0 where
  pub equations : (s : Site) (es : List SiteEvent) → EquationsStay s.equations (site_run g s es).equations
  pub nodes : (s : Site) (es : List SiteEvent) (h : Held) → Member h s.held →
      Member h (site_run g s es).held ⊎ ((r : ℕ) × (args : List Ground) × Member (record h { state = Done r args }) (site_run g s es).held)
  pub message : (s : Site) (m : Message) (h : Held) → Member h s.held → Member h (site_step g s (Got m)).held
  pub choice : (s : Site) (c : Choice) (h : Held) → Member h s.held → (h.node ≡ node_of c → Never) → Member h (site_step g s (Chose c)).held

-- a site of a world is what its own events make of an empty site
abbrev pub SiteIsFold : Grammar → Type 0
SiteIsFold g = (loads : Bool) (es : List Move) (a : ℕ) → a < g.roles →
    site_at (world_after g loads es) a ≡ site_run g (empty_site loads a) (all_events g (empty_world g loads) a es)
