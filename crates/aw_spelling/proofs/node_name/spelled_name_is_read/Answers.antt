use Rattle.aw_spelling.proofs.NodeNames.{name_again}
use Rattle.aw_spelling.proofs.node_name.spelled_name_is_read.Goals as goal

pub returns : goal.returns
returns c = name_again
