use Rattle.std.proofs.Common.{true, false}
use Rattle.aw_lex.proofs.Words.{joined_kind}
use Rattle.aw_lex.proofs.front.kind_of_joined.Goals as goal

pub returns-then-is_node_name : goal.returns-then-is_node_name
returns-then-is_node_name c = joined_kind c.args.word.now true c.requires c.if-is_node_name.ensures

pub returns-else-is_node_name : goal.returns-else-is_node_name
returns-else-is_node_name c = joined_kind c.args.word.now false c.requires c.if-is_node_name.ensures
