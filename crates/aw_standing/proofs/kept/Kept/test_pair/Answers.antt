use Rattle.std.proofs.Common.{◌∙◌, slice_get, length, map, ap, refl, subst, sym, arith}
use Rattle.std.specs.Prelude.{slice_set}
use Rattle.std.proofs.lemmas.Option.{slice_get_read, slice_get_within}
use Rattle.aw_grammar.specs.GrammarOf.{grammar_of}
use Rattle.aw_standing.specs.Due.{waiting_mark}
use Rattle.aw_standing.specs.Records.{AreRising, mark_rule}
use Rattle.aw_standing.specs.declared.record.Record.{Record}
use Rattle.aw_standing.proofs.Places.{set_at}
use Rattle.aw_standing.proofs.WaitEnds.{known_live}
use Rattle.aw_standing.proofs.KeptLemmas.{taken_waits, kept_again, fits_again, waits_elsewhere, one_record}
use Rattle.aw_standing.proofs.kept.Kept.test_pair.Goals as goal

pub index_mut-entry-requires : goal.index_mut-entry-requires
index_mut-entry-requires g c =
    let xs = c.args.self.now.records.items in
    let w = taken_waits (grammar_of c.args.grammar.now)
    (g.F.Facts.names c.args.facts.now) c.args.slot c.args.pair.node c.args.pair.rule c.requires.fits.0 xs c.args.self.now.work.waiting c.requires.fits.1 in
    omega (arith, slice_get_within xs c.args.pair.node w.1 w.3, c.args.self.now.records.ok)

pub unreachable-requires : goal.unreachable-requires
unreachable-requires g c =
    let xs = c.args.self.now.records.items in
    let n = c.args.pair.node in
    let x = c.index_mut-entry.result.now in
    let w = taken_waits (grammar_of c.args.grammar.now) (g.F.Facts.names c.args.facts.now) c.args.slot n c.args.pair.rule c.requires.fits.0 xs c.args.self.now.work.waiting c.requires.fits.1 in
    let here = slice_get_read xs (length xs) n x refl (slice_get_within xs n w.1 w.3) c.index_mut-entry.ensures.value in
    let same = one_record xs n w.1 x w.3 here in
    let fit = c.requires.fits.1.fit w.0 n x w.2 here in
    c.in_default.ensures.none (subst (λ l. AreRising (map mark_rule l)) (sym c.as_slice.ensures.value) fit.rising) w.4.0
    (ap (λ l. slice_get l w.4.0) (c.as_slice.ensures.value ∙ ap (λ (z : Record). z.marks.items) (sym same)) ∙ w.4.1)

pub look_again-stands-requires-clause-fit : goal.look_again-stands-requires-clause-fit
look_again-stands-requires-clause-fit g c =
    let xs = c.args.self.now.records.items in
    let n = c.args.pair.node in
    let x = c.index_mut-entry.result.now in
    let w = taken_waits (grammar_of c.args.grammar.now) (g.F.Facts.names c.args.facts.now) c.args.slot n c.args.pair.rule c.requires.fits.0 xs c.args.self.now.work.waiting c.requires.fits.1 in
    let here = slice_get_read xs (length xs) n x refl (slice_get_within xs n w.1 w.3) c.index_mut-entry.ensures.value in
    c.requires.fits.1.fit w.0 n x w.2 here

pub look_again-stands-requires-clause-live : goal.look_again-stands-requires-clause-live
look_again-stands-requires-clause-live g c = known_live (g.F.Facts.map c.args.facts.now) (g.F.Facts.names c.args.facts.now) c.args.slot c.requires.learnt

pub returns-clause-kept : goal.returns-clause-kept
returns-clause-kept g c row late f =
    let gr = grammar_of c.args.grammar.now in
    let names = g.F.Facts.names c.args.facts.now in
    let ns = row.numbers in
    let xs = c.args.self.now.records.items in
    let n = c.args.pair.node in
    let x = c.index_mut-entry.result.now in
    let w = taken_waits gr names c.args.slot n c.args.pair.rule ns xs c.args.self.now.work.waiting f.fits in
    let within = slice_get_within xs n w.1 w.3 in
    let here = slice_get_read xs (length xs) n x refl within c.index_mut-entry.ensures.value in
    let mark = ap (λ l. slice_get l c.in-Some.at) (sym c.as_slice.ensures.value) ∙ c.in-Some.ensures.found in
    kept_again gr (g.F.Facts.map c.args.facts.now) names c.args.slot n c.args.pair.rule c.look_again-stands.result ns xs
    (slice_set xs n c.set_mark.new.entry) c.args.self.now.work.waiting c.set_mark.new.work.waiting w.0 c.in-Some.at x c.set_mark.new.entry
    w.2 here mark c.look_again-stands.ensures.live (c.set_mark.ensures.set (waiting_mark c.args.pair.rule c.args.slot) mark) (set_at xs n c.set_mark.new.entry within) row.items late
    (λ h of ends. c.look_again-stands.ensures.told h c.args.pair.rule mark of ends) f

pub returns-clause-fits : goal.returns-clause-fits
returns-clause-fits g c =
    let gr = grammar_of c.args.grammar.now in
    let names = g.F.Facts.names c.args.facts.now in
    let ns = c.requires.fits.0 in
    let xs = c.args.self.now.records.items in
    let n = c.args.pair.node in
    let x = c.index_mut-entry.result.now in
    let w = taken_waits gr names c.args.slot n c.args.pair.rule ns xs c.args.self.now.work.waiting c.requires.fits.1 in
    let within = slice_get_within xs n w.1 w.3 in
    let here = slice_get_read xs (length xs) n x refl within c.index_mut-entry.ensures.value in
    let mark = ap (λ l. slice_get l c.in-Some.at) (sym c.as_slice.ensures.value) ∙ c.in-Some.ensures.found in (
      ns,
      fits_again gr (g.F.Facts.map c.args.facts.now) names c.args.slot n c.args.pair.rule c.look_again-stands.result ns xs
          (slice_set xs n c.set_mark.new.entry) c.args.self.now.work.waiting c.set_mark.new.work.waiting w.0 c.in-Some.at x c.set_mark.new.entry
          w.2 here mark c.look_again-stands.ensures.live (c.set_mark.ensures.set (waiting_mark c.args.pair.rule c.args.slot) mark) (set_at xs n c.set_mark.new.entry within) c.requires.fits.1,
    )

pub returns-clause-waiting : goal.returns-clause-waiting
returns-clause-waiting g c q learnt =
    let gr = grammar_of c.args.grammar.now in
    let names = g.F.Facts.names c.args.facts.now in
    let ns = c.requires.fits.0 in
    let xs = c.args.self.now.records.items in
    let n = c.args.pair.node in
    let x = c.index_mut-entry.result.now in
    let w = taken_waits gr names c.args.slot n c.args.pair.rule ns xs c.args.self.now.work.waiting c.requires.fits.1 in
    let within = slice_get_within xs n w.1 w.3 in
    let here = slice_get_read xs (length xs) n x refl within c.index_mut-entry.ensures.value in
    let mark = ap (λ l. slice_get l c.in-Some.at) (sym c.as_slice.ensures.value) ∙ c.in-Some.ensures.found in
    waits_elsewhere gr (g.F.Facts.map c.args.facts.now) names c.args.slot n c.args.pair.rule c.look_again-stands.result ns xs
    (slice_set xs n c.set_mark.new.entry) c.args.self.now.work.waiting c.set_mark.new.work.waiting w.0 c.in-Some.at x c.set_mark.new.entry
    w.2 here mark c.look_again-stands.ensures.live (c.set_mark.ensures.set (waiting_mark c.args.pair.rule c.args.slot) mark)
    (set_at xs n c.set_mark.new.entry within) c.look_again-stands.ensures.lacks q learnt
