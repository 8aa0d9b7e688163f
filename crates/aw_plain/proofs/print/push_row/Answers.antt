use Rattle.aw_grammar.specs.GrammarOf.{words_of}
use Rattle.std.proofs.lemmas.Result.{on_ok_weaker}
use Rattle.aw_plain.specs.Pieces.{pending}
use Rattle.aw_plain.proofs.LineLemmas.{row_line}
use Rattle.aw_plain.proofs.print.push_row.Goals as goal

pub returns : goal.returns
returns c =
    let w = words_of c.args.grammar.now in
    on_ok_weaker c.push_bytes-5.result (λ e.
    row_line w c.args.row.now c.args.name.now (pending w c.args.pieces.now.items) _ _ _ _ _ _ _ _ c.as_slice-2.result.now c.as_slice.result.now c.requires.name c.as_slice-2.ensures c.as_slice.ensures
    (c.in_ok-push_bytes.ensures w) (c.in_ok-push_listed.ensures.text w) (c.in_ok-push_bytes-2.ensures w) (c.in_ok-push_listed-2.ensures.text w) (c.in_ok-push_bytes-3.ensures w)
    c.in_ok-push_state.ensures (c.in_ok-push_bytes-4.ensures w) (e w)) c.push_bytes-5.ensures
