use Rattle.std.proofs.Common.{◌≤◌, ◌∷◌, ◌∙◌, refl, subst, sym, arith}
use Rattle.aw_grammar.specs.GrammarOf.{grammar_of}
use Rattle.aw_work.specs.Triples.{triple, waiting_at}
use Rattle.aw_work.specs.Waits.{Waits}
use Rattle.aw_standing.specs.KeptStates.{AreFit, AreKept}
use Rattle.aw_standing.proofs.DueLemmas.{taken_one, taken_fewer}
use Rattle.aw_standing.proofs.KeptLemmas.{fits_same, kept_same, kept_learnt, count_same}
use Rattle.aw_standing.proofs.kept.Kept.learn.Goals as goal

pub test_pair-requires-clause-fits : goal.test_pair-requires-clause-fits
test_pair-requires-clause-fits g c =
    let self = c.loop-pair.self in
    let ns = c.loop-pair.invariant.fits.0 in (
      ns,
      fits_same (grammar_of c.args.grammar.now) (g.F.Facts.names c.args.facts.now) ns ns self.records.items self.records.items self.work.waiting
          (triple c.args.slot c.in-Some.pair.node c.in-Some.pair.rule ∷ c.take.new.self.waiting) refl refl (λ p. count_same p _ _ c.in-Some.ensures.some) c.loop-pair.invariant.fits.1,
    )

pub loop-pair-smaller : goal.loop-pair-smaller
loop-pair-smaller g c =
    omega (
      arith,
      c.test_pair.ensures.waiting c.args.slot c.requires.learnt,
      taken_one c.args.slot c.in-Some.pair.node c.in-Some.pair.rule c.loop-pair.self.work.waiting
          c.take.new.self.waiting c.in-Some.ensures.some,
    )

pub loop-pair-preserved : goal.loop-pair-preserved
loop-pair-preserved g c =
    let self = c.loop-pair.self in
    record {
      fits = c.test_pair.ensures.fits;
      kept = λ row late f. c.test_pair.ensures.kept row late
          (kept_same (grammar_of c.args.grammar.now) row.items (g.F.Facts.map c.args.facts.now) (g.F.Facts.names c.args.facts.now) late row.numbers row.numbers self.records.items self.records.items
          self.work.waiting (triple c.args.slot c.in-Some.pair.node c.in-Some.pair.rule ∷ c.take.new.self.waiting) refl refl (λ p. count_same p _ _ c.in-Some.ensures.some)
          (c.loop-pair.invariant.kept row late f));
      fewer = λ q e. omega (
        arith,
        c.loop-pair.invariant.fewer q e,
        c.test_pair.ensures.waiting q e,
        taken_fewer q c.args.slot c.in-Some.pair.node c.in-Some.pair.rule
            c.loop-pair.self.work.waiting c.take.new.self.waiting c.in-Some.ensures.some,
      );
      room = λ n w r.
          let old = c.loop-pair.invariant.room n w r in
          c.test_pair.ensures.room n w (record { entries = old.entries; spare = omega (arith, old.spare, c.in-Some.ensures.spare) });
      steps = omega (
        arith,
        c.loop-pair.invariant.steps,
        c.test_pair.ensures.step,
        c.test_pair.ensures.waiting c.args.slot c.requires.learnt,
        taken_one c.args.slot c.in-Some.pair.node c.in-Some.pair.rule c.loop-pair.self.work.waiting c.take.new.self.waiting c.in-Some.ensures.some,
      );
      leads_on = λ r end named on. c.test_pair.ensures.leads_on r end named on ∙ c.loop-pair.invariant.leads_on r end named on;
    }

pub returns-clause-kept : goal.returns-clause-kept
returns-clause-kept g c row r late named f =
    let gr = grammar_of c.args.grammar.now in
    let k = g.F.Facts.map c.args.facts.now in
    let names = g.F.Facts.names c.args.facts.now in
    let self = c.loop-pair.self in
    subst (λ (z : Waits). AreKept gr row.items k names late row.numbers self.records.items z.waiting) (sym c.in_default.ensures.unchanged)
    (kept_learnt gr row.items k names row.numbers self.records.items self.work.waiting c.args.slot r late (g.met.F.Facts.once c.args.facts.now) named c.in_default.ensures.none
    (c.loop-pair.invariant.kept row (r ∷ late) f))

pub returns-clause-fits : goal.returns-clause-fits
returns-clause-fits g c =
    let fits = c.loop-pair.invariant.fits in (
      fits.0,
      subst (λ (z : Waits). AreFit (grammar_of c.args.grammar.now) (g.F.Facts.names c.args.facts.now) fits.0 c.loop-pair.self.records.items z.waiting) (sym c.in_default.ensures.unchanged) fits.1,
    )

pub returns-clause-room : goal.returns-clause-room
returns-clause-room g c n w r =
    let old = c.loop-pair.invariant.room n w r in
    record { entries = old.entries; spare = subst (λ (z : Waits). w ≤ z.spare) (sym c.in_default.ensures.unchanged) old.spare }

pub returns-clause-fewer : goal.returns-clause-fewer
returns-clause-fewer g c q e = subst (λ (z : Waits). waiting_at q z.waiting ≤ waiting_at q c.args.self.now.work.waiting) (sym c.in_default.ensures.unchanged) (c.loop-pair.invariant.fewer q e)
