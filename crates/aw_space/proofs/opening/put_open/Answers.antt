use Rattle.std.proofs.Common.{◌≤◌, [], length, sym, subst, arith}
use Rattle.std.specs.Prelude.{insert}
use Rattle.aw_grammar.specs.GrammarOf.{grammar_of}
use Rattle.aw_standing.specs.KeptStates.{AreKept}
use Rattle.aw_space.proofs.opening.put_open.Goals as goal

pub open-requires-clause-fits : goal.open-requires-clause-fits
open-requires-clause-fits g c = (c.args.held.now.numbers, c.requires.stands.fits)

pub returns-clause-stands : goal.returns-clause-stands
returns-clause-stands g c =
    let gr = grammar_of c.args.grammar.now in
    let k = g.F.Facts.map c.args.facts.now in
    let names = g.F.Facts.names c.args.facts.now in
    let row = c.args.held.now in
    let kept = c.open.new.self in
    let within : c.put_between.result ≤ length row.numbers = omega (arith, c.put_between.ensures.within, c.requires.stands.beside) in
    subst (λ hs. AreKept gr hs k names [] c.put_between.new.held.numbers kept.records.items kept.work.waiting) (sym c.put_between.ensures.place)
    (subst (λ ns. AreKept gr (insert row.items c.put_between.result c.args.new.held) k names [] ns kept.records.items kept.work.waiting) (sym c.put_between.ensures.numbers)
    (c.open.ensures.kept row c.put_between.result c.args.new.held [] within c.requires.ready.of_node c.requires.stands))
