use Rattle.std.proofs.Common.{◌<◌, length, arith}
use Rattle.std.proofs.lemmas.Option.{slice_get-get_or}
use Rattle.aw_grammar.specs.GrammarOf.{grammar_of}
use Rattle.aw_standing.specs.declared.record.Mark.{Mark}
use Rattle.aw_standing.specs.declared.record.Stands.TheVariants as stands
use Rattle.aw_standing.proofs.AllTested.{tested_none, tested_more, tested_all}
use Rattle.aw_standing.proofs.testing.test_all.Goals as goal

pub loop-at-init : goal.loop-at-init
loop-at-init g c = record {
  tested = tested_none (grammar_of c.args.grammar.now) (g.F.Facts.map c.args.facts.now)
      (g.F.Facts.names c.args.facts.now) c.args.number c.args.entry.now c.args.work.now.waiting c.requires.fit c.requires.fresh;
  spare = omega arith;
  steps = omega arith;
}

pub test_mark-requires-clause-within : goal.test_mark-requires-clause-within
test_mark-requires-clause-within g c =
    omega (arith, c.loop-at.invariant.tested.count, c.loop-at-test.true, c.args.entry.now.marks.ok, c.len-at-end.ensures)

pub test_mark-requires-clause-fit : goal.test_mark-requires-clause-fit
test_mark-requires-clause-fit g c = c.loop-at.invariant.tested.fit

pub test_mark-requires-clause-room : goal.test_mark-requires-clause-room
test_mark-requires-clause-room g c = omega (arith, c.loop-at.invariant.spare, c.requires.room, c.loop-at-test.true, c.len-at-end.ensures)

pub loop-at-preserved : goal.loop-at-preserved
loop-at-preserved g c =
    let ms = c.loop-at.entry.marks.items in
    let i = c.loop-at.at in
    let d : Mark = record { rule = 0; stands = stands.Ready } in
    let within : i < length ms = omega (arith, c.loop-at.invariant.tested.count, c.loop-at-test.true, c.args.entry.now.marks.ok, c.len-at-end.ensures) in
    let here = slice_get-get_or ms i d within in
    record {
      tested = tested_more (grammar_of c.args.grammar.now) (g.F.Facts.map c.args.facts.now) (g.F.Facts.names c.args.facts.now) c.args.number c.args.entry.now c.args.work.now.waiting i
          c.loop-at.entry c.test_mark.new.entry c.loop-at.work.waiting c.test_mark.new.work.waiting _ here (c.test_mark.ensures.tested _ here) c.loop-at.invariant.tested;
      spare = omega (arith, c.loop-at.invariant.spare, c.test_mark.ensures.spare);
      steps = omega (arith, c.loop-at.invariant.steps, c.test_mark.ensures.step);
    }

pub returns-clause-tested : goal.returns-clause-tested
returns-clause-tested g c =
    tested_all (grammar_of c.args.grammar.now) (g.F.Facts.map c.args.facts.now)
    (g.F.Facts.names c.args.facts.now) c.args.number c.args.entry.now c.args.work.now.waiting c.loop-at.at c.loop-at.entry c.loop-at.work.waiting
    (omega (arith, c.loop-at.invariant.tested.count, c.loop-at-test.false, c.args.entry.now.marks.ok, c.len-at-end.ensures)) c.loop-at.invariant.tested
