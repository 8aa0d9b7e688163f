use Rattle.std.proofs.Common.{◌≡◌, ◌+◌, length, drop, refl, subst, arith}
use Rattle.std.specs.Prelude.{slice_get, Some}
use Rattle.std.proofs.lemmas.Option.{slice_get_read}
use Rattle.aw_grammar.specs.GrammarOf.{grammar_of}
use Rattle.aw_apply.proofs.GuardLemmas.{part_at as one_dropped}
use Rattle.aw_standing.specs.KeptStates.{IsKeptBut}
use Rattle.aw_space.proofs.Waking.{one_taken, all_dropped, all_here}
use Rattle.aw_space.proofs.learning.wake_all.Goals as goal

pub wake-requires-clause-known : goal.wake-requires-clause-known
wake-requires-clause-known g c =
    let rs = c.args.lefts.now in
    all_here (g.F.Facts.map c.args.facts.now) rs c.loop-left.left-index c.left-item.result
    (slice_get_read rs (length rs) c.loop-left.left-index c.left-item.result refl c.loop-left-test.true c.left-item.is) c.requires.known

pub loop-left-preserved : goal.loop-left-preserved
loop-left-preserved g c =
    let gr = grammar_of c.args.grammar.now in
    let k = g.F.Facts.map c.args.facts.now in
    let names = g.F.Facts.names c.args.facts.now in
    let rs = c.args.lefts.now in
    let i = c.loop-left.left-index in
    let r = c.left-item.result in
    let here : slice_get rs i ≡ Some r = slice_get_read rs (length rs) i r refl c.loop-left-test.true c.left-item.is in
    record {
      fits = c.wake.ensures.fits;
      kept = λ row w. c.wake.ensures.kept row (drop (i + 1) rs) (subst (λ late. IsKeptBut gr row k names late c.loop-left.kept) (one_dropped rs i r here) (c.loop-left.invariant.kept row w));
      room = λ n w e. c.wake.ensures.room n w (c.loop-left.invariant.room n w e);
      fewer = λ most b. c.wake.ensures.fewer most (c.loop-left.invariant.fewer most b);
      steps = λ most b. omega (arith, c.loop-left.invariant.steps most b, c.wake.ensures.steps most (c.loop-left.invariant.fewer most b), one_taken most rs i r here);
    }

pub returns-clause-kept : goal.returns-clause-kept
returns-clause-kept g c row w =
    subst (λ late. IsKeptBut (grammar_of c.args.grammar.now) row (g.F.Facts.map c.args.facts.now) (g.F.Facts.names c.args.facts.now) late c.loop-left.kept)
    (all_dropped c.args.lefts.now c.loop-left.left-index (omega (arith, c.loop-left-test.false))) (c.loop-left.invariant.kept row w)
