-- The worklist of a site: what may be chosen at its open nodes.
use Rattle.std.specs.Prelude.{ℕ, suc, List, [], ◌∷◌, ◌++◌, nat_eq, if◌then◌else◌}
use Rattle.aw_term.specs.Rules.{Rule, Grammar}
use Rattle.aw_term.specs.Configs.{State, Pending, Done}
use Rattle.aw_term.specs.Choices.{after_guard}
use Rattle.aw_term.specs.Runs.{refusal_of}
use Rattle.aw_term.specs.Artifacts.{Item}
use Rattle.aw_term.specs.Held.{Held}
use Rattle.aw_store.specs.Equations.{Map}
use Rattle.aw_apply.specs.Guard.{guard_all}

-- rule number i at an open node: it stands as its guard says, its arguments aside
abbrev pub site_item : Map → Held → ℕ → Rule → Item
site_item k h i rule = record { node = h.node; rule = i; refusal = refusal_of (after_guard h.node rule (guard_all k 1 rule.patterns h.inherited)) }

-- an item for each of these rules that is of the node's sort; the first has number i
abbrev pub site_items : Map → Held → ℕ → List Rule → List Item
site_items k h i [] = []
site_items k h i (rule ∷ rules) = if nat_eq rule.sort h.sort then site_item k h i rule ∷ site_items k h (suc i) rules else site_items k h (suc i) rules

-- none at a developed node
abbrev pub open_items : Grammar → State → Map → Held → List Item
open_items g Pending k h = site_items k h 0 g.rules
open_items g (Done r args) k h = []

-- for each open node in order an item for each rule of its sort, by position
abbrev pub site_worklist : Grammar → Map → List Held → List Item
site_worklist g k [] = []
site_worklist g k (h ∷ hs) = open_items g h.state k h ++ site_worklist g k hs
