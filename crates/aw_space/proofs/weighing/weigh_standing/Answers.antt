use Rattle.std.proofs.Common.{◌∙◌, ap, sym}
use Rattle.std.specs.Prelude.{option_map}
use Rattle.aw_choice.specs.ChoiceView.{answer_of}
use Rattle.aw_store.proofs.SlotLemmas.{named_live}
use Rattle.aw_space.proofs.Weighed.{refused_is}
use Rattle.aw_space.proofs.weighing.weigh_standing.Goals as goal

pub returns-in-Some-clause-value : goal.returns-in-Some-clause-value
returns-in-Some-clause-value g c sorts stands =
    refused_is _ (answer_of c.in-Some.answer) (sym (ap (option_map answer_of) c.in-Some.is) ∙ c.refused_by.ensures ∙ stands)

pub test_rule-requires-clause-live : goal.test_rule-requires-clause-live
test_rule-requires-clause-live g c = named_live (g.F.Facts.names c.args.facts.now) c.args.at.slots.now c.args.at.held.now.inherited c.requires.named
