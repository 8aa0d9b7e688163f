-- Few of each, as in every rule of a grammar.
use Rattle.std.specs.Prelude.{◌≡◌, ℕ, ◌≤◌, List, length, Some, slice_get}
use Rattle.aw_term.specs.Rules as P
use Rattle.aw_term.specs.Limits.{most_inherited, most_results, most_children}
use Rattle.aw_grammar.specs.declared.rule.Child.{Child}
use Rattle.aw_grammar.specs.declared.rule.Rule.{Rule}

-- each child has few arguments
abbrev pub HasFewArgs : List Child → Type 0
HasFewArgs children = (k : ℕ) → (c : Child) → slice_get children k ≡ Some c → length c.args ≤ most_inherited

-- few patterns, results and children, and few arguments of each child
pub record IsSmall (r : Rule) : Type 0 where
  pub patterns : length r.patterns ≤ most_inherited
  pub results : length r.results ≤ most_results
  pub children : length r.children ≤ most_children
  pub args : HasFewArgs r.children

-- the same of a plain rule, and few results of each child
pub record HasFew (r : P.Rule) : Type 0 where
  pub patterns : length r.patterns ≤ most_inherited
  pub results : length r.results ≤ most_results
  pub children : length r.children ≤ most_children
  pub args : (k : ℕ) (c : P.Child) → slice_get r.children k ≡ Some c → length c.args ≤ most_inherited
  pub outs : (k : ℕ) (c : P.Child) → slice_get r.children k ≡ Some c → c.outs ≤ most_results
