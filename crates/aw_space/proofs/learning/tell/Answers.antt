use Rattle.std.proofs.Common.{[], subst, arith}
use Rattle.aw_grammar.specs.GrammarOf.{grammar_of}
use Rattle.aw_store.specs.StoreView.{Adds}
use Rattle.aw_store.specs.declared.facts.Added.TheVariants.{New}
use Rattle.aw_store.proofs.SlotLemmas.{slot-grown}
use Rattle.aw_standing.proofs.ItemLemmas.{pairs_wait}
use Rattle.aw_space.proofs.Waking.{fits_named, named_more, grown_same, grown_by, left_there, told_same}
use Rattle.aw_space.proofs.learning.tell.Goals as goal

pub returns-in_err-told-clause-fits : goal.returns-in_err-told-clause-fits
returns-in_err-told-clause-fits g c = fits_named (grammar_of c.args.grammar.now) _ _ c.args.kept.now c.add.ensures.names c.requires.fits

pub returns-in_err-told-clause-kept : goal.returns-in_err-told-clause-kept
returns-in_err-told-clause-kept g c row w = grown_same (grammar_of c.args.grammar.now) row _ _ _ _ c.args.kept.now c.in_err-told.ensures.err c.add.ensures.names w

pub learn-requires-clause-fits : goal.learn-requires-clause-fits
learn-requires-clause-fits g c = fits_named (grammar_of c.args.grammar.now) _ _ c.args.kept.now c.add.ensures.names c.requires.fits

pub learn-requires-clause-learnt : goal.learn-requires-clause-learnt
learn-requires-clause-learnt g c =
    let k = g.F.Facts.map c.args.facts.now in
    let l = g.F.Facts.map c.add.new.self in
    let adds : Adds k c.args.e New l = subst (λ a. Adds k c.args.e a l) c.in-New.is c.in_ok-told.ensures.added in
    left_there k l (g.F.Facts.names c.add.new.self) _ c.args.slot adds.0 adds.1 (slot-grown _ _ c.args.slot c.args.e.left c.add.ensures.names c.requires.slot)

pub returns-in-New-clause-kept : goal.returns-in-New-clause-kept
returns-in-New-clause-kept g c row w =
    let gr = grammar_of c.args.grammar.now in
    let k = g.F.Facts.map c.args.facts.now in
    let l = g.F.Facts.map c.add.new.self in
    let names = g.F.Facts.names c.add.new.self in
    let adds : Adds k c.args.e New l = subst (λ a. Adds k c.args.e a l) c.in-New.is c.in_ok-told.ensures.added in
    c.learn.ensures.kept row c.args.e.left [] (slot-grown _ names c.args.slot c.args.e.left c.add.ensures.names c.requires.slot)
    (grown_by gr row k l names _ c.args.kept.now adds.1 (named_more gr row k _ names c.args.kept.now c.add.ensures.names w))

pub returns-in-New-clause-steps : goal.returns-in-New-clause-steps
returns-in-New-clause-steps g c row w =
    let gr = grammar_of c.args.grammar.now in
    let k = g.F.Facts.map c.args.facts.now in
    let names = g.F.Facts.names c.add.new.self in
    let kept = c.args.kept.now in
    let here = slot-grown _ names c.args.slot c.args.e.left c.add.ensures.names c.requires.slot in
    omega (
      arith,
      c.learn.ensures.steps,
      pairs_wait names (g.met.F.Facts.once c.add.new.self) c.args.slot c.args.e.left here gr k row.items row.numbers kept.records.items kept.work.waiting
          (named_more gr row k _ names kept c.add.ensures.names w),
    )

pub returns-in_default-clause-fits : goal.returns-in_default-clause-fits
returns-in_default-clause-fits g c = fits_named (grammar_of c.args.grammar.now) _ _ c.args.kept.now c.add.ensures.names c.requires.fits

pub returns-in_default-clause-kept : goal.returns-in_default-clause-kept
returns-in_default-clause-kept g c row w =
    grown_same (grammar_of c.args.grammar.now) row _ _ _ _ c.args.kept.now (told_same _ _ c.args.e c.in_ok-told.told c.in_ok-told.ensures.added c.in_default.not-New) c.add.ensures.names w
