use Rattle.std.proofs.Common.{subst, Err}
use Rattle.std.proofs.lemmas.Result.{IfErr-weaker}
use Rattle.std.proofs.lemmas.Result.{on_ok_weaker}
use Rattle.aw_grammar.specs.GrammarOf.{words_of}
use Rattle.aw_out.specs.Report.{Prints}
use Rattle.aw_out.specs.declared.error.PrintFault.{PrintFault}
use Rattle.aw_out.proofs.Printing.{Prints-stopped}
use Rattle.aw_plain.specs.Pieces.{pending}
use Rattle.aw_plain.proofs.PrintLemmas.{gathered, piece_gathered}
use Rattle.aw_plain.proofs.print.print_piece.Goals as goal

pub returns-clause-ok : goal.returns-clause-ok
returns-clause-ok c =
    let w = words_of c.args.grammar.now in
    let e = gathered w c.args.text.now _ c.args.piece.now c.args.pieces.now.items c.begin_piece.new.pieces.items c.in_ok-begin_piece.ensures.opening (c.in_ok-begin_piece.ensures.text w) in
    on_ok_weaker c.add_gathered.result (piece_gathered _ _ (pending w c.begin_piece.new.pieces.items) _ _ e c.add_gathered.new.text) c.add_gathered.ensures.ok

pub returns-clause-err : goal.returns-clause-err
returns-clause-err c =
    let w = words_of c.args.grammar.now in
    let e = gathered w c.args.text.now _ c.args.piece.now c.args.pieces.now.items c.begin_piece.new.pieces.items c.in_ok-begin_piece.ensures.opening (c.in_ok-begin_piece.ensures.text w) in
    IfErr-weaker c.add_gathered.result _ _ (λ (fault : PrintFault) p. subst (λ t. Prints t c.args.report.now c.add_gathered.new.report (Err fault)) e
    (Prints-stopped _ (pending w c.begin_piece.new.pieces.items) _ _ fault p)) c.add_gathered.ensures.err
