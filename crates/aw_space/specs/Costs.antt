-- How many guards a space tests at most.
use Rattle.std.specs.Prelude.{ℕ, ◌+◌, List, [], ◌∷◌, Option, Some, None, count_by, sum_by, nat_eq}
use Rattle.aw_term.specs.Names.{Ref}
use Rattle.aw_term.specs.Rules.{Rule, Grammar}
use Rattle.aw_term.specs.Choices.{Choice, Start, Develop, Outcome, Starts, Takes}
use Rattle.aw_term.specs.Artifacts.{Item}
use Rattle.aw_term.specs.Held.{Held, held_of}
use Rattle.aw_store.specs.Equations.{Equation, find}
use Rattle.aw_apply.specs.Made.{Call, made}
use Rattle.aw_law_sites.specs.Joint.{root_held}
pub use Rattle.aw_standing.specs.Items.{waiting_on}
use Rattle.aw_law_sites.specs.Telling.{calls_in}
use Rattle.aw_law_sites.specs.Receiving.{add_on}
use Rattle.aw_space.specs.Spaces.{Space, outcome, making, with_call, worklist}

-- how many rules are of this sort
abbrev pub rules_of : Grammar → ℕ → ℕ
rules_of g sort = count_by (λ (r : Rule). nat_eq r.sort sort) g.rules

-- how many rules are of the sorts of these nodes
abbrev pub rules_at : Grammar → List Held → ℕ
rules_at g hs = sum_by (λ (h : Held). rules_of g h.sort) hs

-- how many wait for the left sides of these equations
abbrev pub waiting_on_lefts : List Equation → List Item → ℕ
waiting_on_lefts es items = sum_by (λ (e : Equation). waiting_on e.left items) es

-- the nodes that a choice adds here which leads to this
abbrev pub added : Grammar → ℕ → Choice → Outcome Ref Ref → List Held
added g role (Start s k) Starts = root_held s k ∷ []
added g role (Develop n r args) (Takes rule bound) = calls_in g role (made n r rule args bound).calls
added g role _ _ = []

-- a choice: its own guard, those of the nodes that it adds, and those that wait for one of its new equations
abbrev pub choice_cost : Grammar → ℕ → Space → Choice → ℕ
choice_cost g role s c =
    let x = outcome g s c in
    1 + (rules_at g (added g role c x) + waiting_on_lefts (making c x).equations (worklist g s))

-- a call: the guards of its node, which may be held already
abbrev pub call_cost_on : Grammar → Option Held → Call → ℕ
call_cost_on g None c = rules_of g c.sort
call_cost_on g (Some h) c = 0

-- a call, if there is one, where these nodes are held
abbrev pub call_cost : Grammar → List Held → Option Call → ℕ
call_cost g hs None = 0
call_cost g hs (Some c) = call_cost_on g (held_of c.node hs) c

-- equations in turn: the guards that wait for each of them then
abbrev pub learning_cost : Grammar → Space → List Equation → ℕ
learning_cost g s [] = 0
learning_cost g s (e ∷ es) = waiting_on e.left (worklist g s) + learning_cost g (record s { equations = add_on (find s.equations e.left) s.equations e }) es

-- a call, if there is one, and then equations in turn
abbrev pub taking_cost : Grammar → Option Call → List Equation → Space → ℕ
taking_cost g c es s = call_cost g s.held c + learning_cost g (record s { held = with_call c s.held }) es
