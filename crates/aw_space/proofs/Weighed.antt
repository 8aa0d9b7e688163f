-- What is weighed of a rule by how it stands.
use Rattle.std.proofs.Common.{◌≡◌, ℕ, Some, None, slice_get, ap, sym, ◌∙◌}
use Rattle.std.specs.declared.vec.Vec.{Vec}
use Rattle.std.specs.declared.alloc.Global.{Global}
use Rattle.std.specs.Prelude.{option_map}
use Rattle.std.proofs.lemmas.Option.{slice_get-map}
use Rattle.aw_term.specs.Names.{Ref}
use Rattle.aw_term.specs.Rules.{sort_of}
use Rattle.aw_term.specs.Choices as Q
use Rattle.aw_term.specs.Runs.{refusal_of as plain_refusal}
use Rattle.aw_choice.specs.declared.choice.Standing.{Standing}
use Rattle.aw_choice.specs.declared.choice.Answer.{Answer}
use Rattle.aw_grammar.specs.declared.grammar.Grammar.{Grammar}
use Rattle.aw_grammar.specs.declared.rule.Rule.{Rule}
use Rattle.aw_grammar.specs.GrammarOf.{grammar_of}
use Rattle.aw_grammar.specs.GrammarView.{rule_of}
use Rattle.aw_store.specs.Equations.{Map}
use Rattle.aw_apply.specs.declared.telling.Weighed.TheVariants as weighed
use Rattle.aw_node_list.specs.declared.held.Held.{Held}
use Rattle.aw_node_list.specs.HeldView.{sort_or}
use Rattle.aw_standing.specs.Items.{RuleStands, StandsAt}

-- what leads to a refusal is refused so
pub refused_is : (x : Q.Outcome Ref Ref) (a : Q.Answer Ref) → Some a ≡ plain_refusal x → Q.Refused a ≡ x
refused_is (Q.Refused b) a e = cc
refused_is Q.Starts a e = absurd cc
refused_is (Q.Takes rule bound) a e = absurd cc

-- a refusal takes nothing
pub refused_other : (a : Answer) (bound : Vec Ref Global) → weighed.Refused a ≡ weighed.Takes bound → ⊥
refused_other a bound e = absurd cc

-- a rule of the node's sort stands at the open node as it stands by its number
pub stands_there : (g : Grammar) (k : Map) (held : Held) (number : ℕ) (rule : Rule) (sort : ℕ) (s : Standing) → StandsAt (grammar_of g) k held number s → slice_get g.rules number ≡ Some rule →
    sort_or (sort_of (grammar_of g) held.node) ≡ sort → held.done ≡ None → rule.sort ≡ sort → RuleStands k held.node held.inherited (rule_of g.sorts rule) s
stands_there g k held number rule sort s stands here last idle same =
    stands (rule_of g.sorts rule) (slice_get-map (rule_of g.sorts) g.rules number ∙ ap (option_map (rule_of g.sorts)) here) (same ∙ sym last) idle
