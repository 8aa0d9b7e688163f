use Rattle.std.proofs.Common.{◌<◌, length, arith}
use Rattle.aw_front.specs.declared.limit.TheConstants.{INPUT_LIMIT}
use Rattle.aw_front.specs.Fronts.{Nothing}
use Rattle.aw_front.specs.Output.{PastInputLimit}
use Rattle.aw_front.proofs.FrontOutputs.{of-past}
use Rattle.aw_book_read.proofs.heads.open_head.Goals as goal

pub returns-then-len-gt-INPUT_LIMIT : goal.returns-then-len-gt-INPUT_LIMIT
returns-then-len-gt-INPUT_LIMIT c =
    let past : INPUT_LIMIT < length c.args.text.now = omega (arith, c.if-len-gt-INPUT_LIMIT.true, c.len.ensures) in
    (PastInputLimit, of-past (λ s. Nothing) c.args.text.now past, c.silent.ensures)
