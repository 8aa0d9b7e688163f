use Rattle.std.proofs.Common.{arith}
use Rattle.aw_codec.proofs.Placing.{finds, is_found}
use Rattle.aw_msg.proofs.MessageLaws.{message_law}
use Rattle.aw_msg.proofs.decoding.decode.Goals as goal

pub returns-clause-found : goal.returns-clause-found
returns-clause-found c = finds message_law (λ m. m) c.args.bytes.now c.placed_message.result (λ i. omega (arith, c.type_inv.bytes i)) c.placed_message.ensures

pub returns-clause-only : goal.returns-clause-only
returns-clause-only c = is_found message_law (λ m. m) c.args.bytes.now c.placed_message.result c.placed_message.ensures
