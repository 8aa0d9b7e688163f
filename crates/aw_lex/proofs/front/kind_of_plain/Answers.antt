use Rattle.std.proofs.Common.{sym}
use Rattle.aw_spelling.proofs.NodeNames.{plain_is_no_node}
use Rattle.aw_lex.proofs.Words.{no_kind}
use Rattle.aw_lex.proofs.front.kind_of_plain.Goals as goal

pub returns-else-is_number : goal.returns-else-is_number
returns-else-is_number c =
    let w = c.args.word.now in
    sym (no_kind w (sym c.if-is_plain_name.ensures) (sym c.if-is_number.ensures) (plain_is_no_node w c.requires))
