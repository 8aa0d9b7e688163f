use Rattle.std.proofs.Common.{eq-eqb}
use Rattle.aw_term_reader.specs.Reader.{expected_of, reading_of}
use Rattle.aw_term_reader.proofs.ReaderLemmas.{closes_last}
use Rattle.aw_term_reader.proofs.reader.TermReader.at_close.Goals as goal

pub returns-in_ok-push_term-in-Some : goal.returns-in_ok-push_term-in-Some
returns-in_ok-push_term-in-Some c =
    let r = c.args.self.now in
    closes_last c.args.close c.args.mark r.opened c.pop.new.self c.in-Some.field-0 r.terms (expected_of r.expected) (reading_of c.push_term.new.self)
    c.in-Some.ensures (eq-eqb c.args.mark 41 c.if-mark-eq41.true)
    (cc c.in_ok-push_term-in-Some.ensures)
