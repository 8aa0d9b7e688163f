use Rattle.std.proofs.Common.{arith}
use Rattle.aw_choice.specs.ChoiceView.{choice_of}
use Rattle.aw_codec.proofs.ChoiceLaws.{choice_law}
use Rattle.aw_codec.proofs.Placing.{finds, is_found}
use Rattle.aw_codec.proofs.choices.decode_choice.Goals as goal

pub returns-clause-found : goal.returns-clause-found
returns-clause-found c = finds choice_law choice_of c.args.bytes.now c.placed_choice.result (λ i. omega (arith, c.type_inv.bytes i)) c.placed_choice.ensures

pub returns-clause-only : goal.returns-clause-only
returns-clause-only c = is_found choice_law choice_of c.args.bytes.now c.placed_choice.result c.placed_choice.ensures
