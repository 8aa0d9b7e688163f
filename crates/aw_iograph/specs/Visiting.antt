-- When rules were last visited, and when the relations of sorts last grew, by the numbers of visits.
use Rattle.std.specs.Prelude.{◌≡◌, ℕ, ◌<◌, ◌≤◌, List, length, Some, slice_get, slice_index}
use Rattle.aw_grammar.specs.declared.rule.Child.{Child}
use Rattle.aw_grammar.specs.declared.rule.Rule.{Rule}
use Rattle.aw_grammar.specs.declared.grammar.Grammar.{Grammar}
use Rattle.aw_grammar.specs.GrammarView.{rule_of}
use Rattle.aw_iograph.specs.declared.io.Io.{Io}
use Rattle.aw_iograph.specs.declared.visits.Visits.{Visits}
use Rattle.aw_iograph.specs.Dependence.{IsKept}
use Rattle.aw_iograph.specs.Pairs.{Has}

-- each of these children has a sort whose relation last grew before a visit
abbrev pub AreStill : List Child → List ℕ → ℕ → Type 0
AreStill children sorts visit = (n : ℕ) (c : Child) → slice_get children n ≡ Some c → slice_index sorts c.sort < visit

-- a rule was visited, and the relations of its children have not grown since
pub record IsCalm (visits : Visits) (rule : ℕ) (children : List Child) : Type 0 where
  pub visited : 0 < slice_index visits.rules.items rule
  pub still : AreStill children visits.sorts.items (slice_index visits.rules.items rule)

-- a number is kept for each rule and sort, and a rule that is calm has no walk beyond the relations
pub record AreVisited (g : Grammar) (io : Io) (visits : Visits) : Type 0 where
  pub rules : length visits.rules.items ≡ length g.rules
  pub sorts : length visits.sorts.items ≡ length g.sorts
  pub past : (k : ℕ) → slice_index visits.rules.items k ≤ visits.count
  pub kept : (k : ℕ) (r : Rule) → slice_get g.rules k ≡ Some r → IsCalm visits k r.children → IsKept (Has io) (rule_of g.sorts r)
