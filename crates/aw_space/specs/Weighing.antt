-- What a choice of a rule is weighed as.
use Rattle.std.specs.Prelude.{◌≡◌, ◌≢◌, ℕ, List, length, Some, slice_get}
use Rattle.std.specs.declared.vec.Vec.{Vec}
use Rattle.std.specs.declared.alloc.Global.{Global}
use Rattle.aw_term.specs.Names.{Node, Ref}
use Rattle.aw_term.specs.Rules as P
use Rattle.aw_term.specs.Choices.{Outcome}
use Rattle.aw_grammar.specs.declared.grammar.Grammar.{Grammar}
use Rattle.aw_grammar.specs.declared.rule.Rule.{Rule}
use Rattle.aw_grammar.specs.declared.rule.Sort.{Sort}
use Rattle.aw_grammar.specs.GrammarView.{rule_of}
use Rattle.aw_store.specs.Equations.{Map}
use Rattle.aw_choice.specs.declared.choice.Standing.{Standing}
use Rattle.aw_node_list.specs.declared.held.Held.{Held}
use Rattle.aw_standing.specs.Items.{RuleStands}
use Rattle.aw_apply.specs.declared.telling.Weighed.{Weighed}
use Rattle.aw_apply.specs.declared.telling.Weighed.TheVariants as weighed
use Rattle.aw_apply.specs.Telling.{weighed_of, HasRoom}

-- the rule with this number leads to this
abbrev pub Weighs : P.Grammar → ℕ → Weighed → Outcome Ref Ref → Type 0
Weighs g number w x = (rule : P.Rule) → slice_get g.rules number ≡ Some rule → weighed_of rule w ≡ x

-- where the rule with this number is taken, there is room for a child's step below the node
abbrev pub HasRoomFor : Grammar → ℕ → Node → Weighed → Type 0
HasRoomFor g number n w = (rule : Rule) → slice_get g.rules number ≡ Some rule → HasRoom (length rule.children) n w

-- the rule, whose grammar has these sorts, stands so at a held node
abbrev pub StandsSo : Map → Held → List Sort → Rule → Standing → Type 0
StandsSo k h sorts r s = RuleStands k h.node h.inherited (rule_of sorts r) s

-- it is a refusal
abbrev pub IsRefused : Weighed → Type 0
IsRefused w = (bound : Vec Ref Global) → w ≢ weighed.Takes bound
