-- Some of the cases: what is kept of a site and of its events where only these cases count.
use Rattle.std.specs.Prelude.{◌≡◌, ℕ, Bool, false, ◌&&◌, List, [], ◌∷◌, filter}
use Rattle.aw_list.specs.Members.{Member}
use Rattle.aw_term.specs.Choices.{Choice}
use Rattle.aw_term.specs.Held.{Held}
use Rattle.aw_term.specs.Names.{Node, Ref, node_lt}
use Rattle.aw_term.specs.Rules.{Grammar}
use Rattle.aw_term.specs.WellFormed.{Each}
use Rattle.aw_store.specs.Equations.{Equation, mentions}
use Rattle.aw_apply.specs.Messages.{Kind, Calls, Asks, Tells, Message}
use Rattle.aw_law_sites.specs.SiteEvents.{SiteEvent, Chose, Got, site_run}
use Rattle.aw_law_sites.specs.Sites.{Site}
use Rattle.aw_law_sites.specs.Worlds.{node_of}

-- some of the cases, each by its start sort and its number
abbrev pub Cases : Type 0
Cases = ℕ → ℕ → Bool

-- the case of a node is one of them
abbrev pub of_node : Cases → Node → Bool
of_node C n = C n.start n.case

-- a reference belongs to the case of its node
abbrev pub of_ref : Cases → Ref → Bool
of_ref C r = of_node C r.node

-- an equation to that of its left side
abbrev pub of_equation : Cases → Equation → Bool
of_equation C e = of_ref C e.left

-- a held node
abbrev pub of_held : Cases → Held → Bool
of_held C h = of_node C h.node

-- a choice to that of its node
abbrev pub of_choice : Cases → Choice → Bool
of_choice C c = of_node C (node_of c)

-- a message to that of its node, its reference or its equation
abbrev pub of_kind : Cases → Kind → Bool
of_kind C (Calls c load) = of_node C c.node
of_kind C (Asks r from) = of_ref C r
of_kind C (Tells e load) = of_equation C e

-- whoever it is for
abbrev pub of_message : Cases → Message → Bool
of_message C m = of_kind C m.kind

-- an event to that of its choice or its message
abbrev pub of_event : Cases → SiteEvent → Bool
of_event C (Chose c) = of_choice C c
of_event C (Got m) = of_message C m

-- what a site holds of these cases
abbrev pub keep_site : Cases → Site → Site
keep_site C s = record {
  role = s.role;
  loads = s.loads;
  held = filter (of_held C) s.held;
  choices = filter (of_choice C) s.choices;
  equations = filter (of_equation C) s.equations;
  asked = λ r. s.asked r && of_ref C r;
  watches = λ r role. s.watches r role && of_ref C r;
  outbox = filter (of_message C) s.outbox;
}

-- each of these references is on this side: of these cases, or of others
abbrev pub AllOn : Cases → Bool → List Ref → Type 0
AllOn C b rs = (r : Ref) → Member r rs → of_ref C r ≡ b

-- no body mentions a case of the other side
abbrev pub AreParted : Cases → List Equation → Type 0
AreParted C es = (e : Equation) → Member e es → AllOn C (of_equation C e) (mentions e.body)

-- no node comes before one that stands in front of it
abbrev pub AreInOrder : List Held → Type 0
AreInOrder [] = Unit {0}
AreInOrder (h ∷ hs) = ((k : Held) → Member k hs → node_lt k.node h.node ≡ false) × AreInOrder hs

-- nothing that a site holds names cases of both sides, and its nodes are in order
pub record IsParted (C : Cases) (s : Site) : Type 0 where
  pub equations : AreParted C s.equations
  pub held : (h : Held) → Member h s.held → AllOn C (of_held C h) h.inherited
  pub ordered : AreInOrder s.held

-- these equations are on this side, and so is what they mention
abbrev pub AreOn : Cases → Bool → List Equation → Type 0
AreOn C b es = (e : Equation) → Member e es → (of_equation C e ≡ b) × AllOn C b (mentions e.body)

-- all names in a message are of one side
abbrev pub IsOneSided : Cases → Kind → Type 0
IsOneSided C (Calls c load) = AllOn C (of_node C c.node) c.inherited × AreOn C (of_node C c.node) load
IsOneSided C (Asks r from) = Unit {0}
IsOneSided C (Tells e load) = AreOn C (of_equation C e) (e ∷ load)

-- a choice names one case alone
abbrev pub IsOneSidedEvent : Cases → SiteEvent → Type 0
IsOneSidedEvent C (Chose c) = Unit {0}
IsOneSidedEvent C (Got m) = IsOneSided C m.kind

-- Whatever comes to a site, honest or forged: where no message names cases of both sides, what the site holds of some cases is what the events of these
-- cases make of it, as if there were no others.
abbrev pub SiteKeepsCases : Grammar → Type 0
SiteKeepsCases g = (C : Cases) (s : Site) (es : List SiteEvent) → IsParted C s → Each (IsOneSidedEvent C) es →
    (keep_site C (site_run g s es) ≡ site_run g (keep_site C s) (filter (of_event C) es)) × IsParted C (site_run g s es)
