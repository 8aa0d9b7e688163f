-- Those of the rules that are at one role.
use Rattle.std.specs.Prelude.{ℕ, Bool, List, nat_eq, filter}
use Rattle.aw_term.specs.Rules as P
use Rattle.aw_term.specs.Rules.{role_of}
use Rattle.aw_grammar.specs.GrammarView.{rule_of, sorts_of}
use Rattle.aw_grammar.specs.declared.rule.Sort.{Sort}
use Rattle.aw_grammar.specs.declared.rule.Rule.{Rule}

-- whether a rule is at a role: its sort is
abbrev pub is_at : List P.Sort → ℕ → P.Rule → Bool
is_at sorts role r = nat_eq (role_of sorts r.sort) role

-- those of the rules that are at a role, in their order
abbrev pub rules_at : List Sort → ℕ → List Rule → List Rule
rules_at sorts role rules = filter (λ r. is_at (sorts_of sorts) role (rule_of sorts r)) rules
