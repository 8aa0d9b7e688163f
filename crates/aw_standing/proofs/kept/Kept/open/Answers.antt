use Rattle.std.proofs.Common.{length, arith}
use Rattle.std.specs.Prelude.{insert}
use Rattle.aw_grammar.specs.GrammarOf.{grammar_of}
use Rattle.aw_standing.proofs.Opening.{kept_open, fits_open}
use Rattle.aw_standing.proofs.kept.Kept.open.Goals as goal

pub returns-clause-kept : goal.returns-clause-kept
returns-clause-kept g c row at h late within of f =
    kept_open (grammar_of c.args.grammar.now) (g.F.Facts.map c.args.facts.now) (g.F.Facts.names c.args.facts.now) at c.len-number.result row.numbers
    c.args.self.now.records.items c.put_last.new.records.items c.args.self.now.work.waiting c.test_all.new.work.waiting c.args.entry c.test_all.new.entry
    (omega (arith, c.len-number.ensures, c.args.self.now.records.ok)) c.put_last.ensures.items c.test_all.ensures.tested c.test_all.ensures.fit within
    row.items late h of f

pub returns-clause-fits : goal.returns-clause-fits
returns-clause-fits g c =
    let ns = c.requires.fits.0 in (
      insert ns 0 (length ns),
      fits_open (grammar_of c.args.grammar.now) (g.F.Facts.map c.args.facts.now) (g.F.Facts.names c.args.facts.now) 0 c.len-number.result ns
          c.args.self.now.records.items c.put_last.new.records.items c.args.self.now.work.waiting c.test_all.new.work.waiting c.args.entry c.test_all.new.entry
          (omega (arith, c.len-number.ensures, c.args.self.now.records.ok)) c.put_last.ensures.items c.test_all.ensures.tested c.test_all.ensures.fit (omega arith) c.requires.fits.1,
    )
