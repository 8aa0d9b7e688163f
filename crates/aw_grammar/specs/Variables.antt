-- The names of a rule's variables.
use Rattle.std.specs.Prelude.{◌≡◌, ℕ, true, false, List, map, length}
use Rattle.aw_spelling.specs.Spelling.{is_name}
use Rattle.aw_name_index.specs.Places.{stands}
use Rattle.aw_term.specs.Rules as P
use Rattle.aw_term.specs.WellFormed.{Each, Differ, variables}
use Rattle.aw_grammar.specs.GrammarView.{rule_of}
use Rattle.aw_grammar.specs.declared.rule.Con.{Con}
use Rattle.aw_grammar.specs.declared.rule.Sort.{Sort}
use Rattle.aw_grammar.specs.declared.rule.Rule.{Rule}

-- one for each variable that enters, no two the same, each a name and none a constructor's
pub record VariablesFit (cons vars : List (List ℕ)) (r : P.Rule) : Type 0 where
  pub count : length vars ≡ variables r
  pub differ : Differ vars
  pub free : Each (λ v. stands v cons ≡ false) vars
  pub names : Each (λ v. is_name v ≡ true) vars

-- those of all rules, where these are the constructors and the sorts
abbrev pub AllVariablesFit : List Con → List Sort → List Rule → Type 0
AllVariablesFit cons sorts rules = Each (λ (r : Rule). VariablesFit (map (λ (c : Con). c.name) cons) r.vars (rule_of sorts r)) rules
