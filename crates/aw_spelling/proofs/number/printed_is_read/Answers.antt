use Rattle.aw_spelling.proofs.Numbers.{number_again}
use Rattle.aw_spelling.proofs.number.printed_is_read.Goals as goal

pub returns : goal.returns
returns c = number_again
