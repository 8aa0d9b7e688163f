-- What a choice leads to, as the plain definitions speak of it.
use Rattle.std.specs.Prelude.{◌<◌, List, length}
use Rattle.aw_term.specs.Names.{Node, Ref}
use Rattle.aw_term.specs.Rules.{Value}
use Rattle.aw_term.specs.Choices as Q
use Rattle.aw_name.specs.Limits.{most_steps}
use Rattle.aw_grammar.specs.declared.rule.Sort.{Sort}
use Rattle.aw_grammar.specs.declared.rule.Rule.{Rule}
use Rattle.aw_grammar.specs.GrammarView.{rule_of}
use Rattle.aw_choice.specs.ChoiceView.{answer_of}
use Rattle.aw_plain.specs.declared.outcome.Outcome.{Outcome}
use Rattle.aw_plain.specs.declared.outcome.Outcome.TheVariants.{Refused, Takes}
use Rattle.aw_plain_rows.specs.TreeView.{values_of}

-- what a choice leads to, with its rule and its values as plain ones, where these are the sorts
abbrev pub outcome_of : List Sort → Outcome → Q.Outcome Value Ref
outcome_of sorts (Refused answer) = Q.Refused (answer_of answer)
outcome_of sorts (Takes rule bound) = Q.Takes (rule_of sorts rule.now) (values_of bound)

-- the rule that is taken is such a rule, and the names of its children are not too long
abbrev pub IsTakable : (Rule → Type 0) → Node → Outcome → Type 0
IsTakable IsIt n (Refused answer) = Unit {0}
IsTakable IsIt n (Takes rule bound) = IsIt rule.now × (0 < length rule.now.children → length n.steps < most_steps)
