use Rattle.std.proofs.Common.{ap, arith, rules, subst}
use Rattle.aw_grammar.specs.GrammarOf.{words_of}
use Rattle.aw_out.specs.Report.{Prints}
use Rattle.aw_plain.specs.Pieces.{pieces_work}
use Rattle.std.proofs.lemmas.List.{nil_from_length}
use Rattle.aw_plain.proofs.PrintLemmas.{work_more, all_gathered, piece_stopped, gathered_last}
use Rattle.aw_plain.proofs.print.print_pieces.Goals as goal

-- the turn ends behind a value of either kind, or behind bytes
pub loop-piece-smaller : goal.loop-piece-smaller
loop-piece-smaller c = omega (arith, c.in_ok-print_piece.ensures.work, ap pieces_work c.in-Some.ensures.items, work_more)

pub loop-piece-smaller-in_ok-print_piece : goal.loop-piece-smaller-in_ok-print_piece
loop-piece-smaller-in_ok-print_piece c = omega (arith, c.in_ok-print_piece.ensures.work, ap pieces_work c.in-Some.ensures.items, work_more)

pub loop-piece-smaller-in_ok-print_piece-2 : goal.loop-piece-smaller-in_ok-print_piece-2
loop-piece-smaller-in_ok-print_piece-2 c = omega (arith, c.in_ok-print_piece.ensures.work, ap pieces_work c.in-Some.ensures.items, work_more)

pub loop-piece-preserved : goal.loop-piece-preserved
loop-piece-preserved c = λ last r next.
    let w = words_of c.args.grammar.now in
    c.loop-piece.invariant last r (subst (λ t. Prints t c.loop-piece.report last r) (all_gathered w c.loop-piece.text c.loop-piece.pieces.items
    c.pop.new.self.items c.in-Some.piece c.in-Some.ensures.items) (c.in_ok-print_piece.ensures.ok last r next))

pub loop-piece-preserved-in_ok-print_piece : goal.loop-piece-preserved-in_ok-print_piece
loop-piece-preserved-in_ok-print_piece c = λ last r next.
    let w = words_of c.args.grammar.now in
    c.loop-piece.invariant last r (subst (λ t. Prints t c.loop-piece.report last r) (all_gathered w c.loop-piece.text c.loop-piece.pieces.items
    c.pop.new.self.items c.in-Some.piece c.in-Some.ensures.items) (c.in_ok-print_piece.ensures.ok last r next))

pub loop-piece-preserved-in_ok-print_piece-2 : goal.loop-piece-preserved-in_ok-print_piece-2
loop-piece-preserved-in_ok-print_piece-2 c = λ last r next.
    let w = words_of c.args.grammar.now in
    c.loop-piece.invariant last r (subst (λ t. Prints t c.loop-piece.report last r) (all_gathered w c.loop-piece.text c.loop-piece.pieces.items
    c.pop.new.self.items c.in-Some.piece c.in-Some.ensures.items) (c.in_ok-print_piece.ensures.ok last r next))

pub returns-in_err-print_piece : goal.returns-in_err-print_piece
returns-in_err-print_piece c =
    let w = words_of c.args.grammar.now in
    let all = all_gathered w c.loop-piece.text c.loop-piece.pieces.items c.pop.new.self.items c.in-Some.piece c.in-Some.ensures.items in
    c.loop-piece.invariant _ _ (piece_stopped _ _ c.loop-piece.report c.print_piece.new.report _ c.from_residual.result all (search rules) c.in_err-print_piece.ensures.err)

pub returns : goal.returns
returns c =
    let none = nil_from_length c.loop-piece.pieces.items (omega (arith, c.in_default.ensures.cases.0, c.loop-piece.pieces.ok.0)) in
    let pushed = subst (λ t. Prints t c.loop-piece.report c.push.new.self c.push.result) c.as_slice.ensures c.push.ensures.prints in
    c.loop-piece.invariant _ _ (gathered_last (words_of c.args.grammar.now) c.loop-piece.text c.loop-piece.pieces.items c.loop-piece.report _ _ none pushed)
