-- What is found of the types of a rule, whatever its sorts are.
use Rattle.std.specs.Prelude.{◌≡◌, ℕ, List, Option}
use Rattle.aw_grammar.specs.declared.rule.Sort.{Sort}
use Rattle.aw_grammar.specs.declared.rule.Rule.{Rule}
use Rattle.aw_grammar.specs.GrammarView.{rule_of}
use Rattle.aw_iograph.specs.declared.occ.Occ.{Occ}
use Rattle.aw_typed.specs.TypeFaults as typing
use Rattle.aw_typed.specs.Typing.{types_of}
use Rattle.aw_typed.specs.declared.data.Types.{Types}

-- these are the types of the rule's parameters
abbrev pub AreParamTypes : Types → List Sort → Rule → List (Option ℕ) → Type 0
AreParamTypes t sorts r params = params ≡ typing.param_types (types_of t) (rule_of sorts r)

-- these are the types of the rule's variables
abbrev pub AreVariableTypes : Types → List Sort → Rule → List (Option ℕ) → Type 0
AreVariableTypes t sorts r vars = vars ≡ typing.variable_types (types_of t) (rule_of sorts r)

-- this is the least occurrence of the rule whose term does not fit, or there is none
abbrev pub IsLeastMisfit : Types → List Sort → Rule → Option Occ → Type 0
IsLeastMisfit t sorts r place = place ≡ typing.rule_misfit (types_of t) (rule_of sorts r)
