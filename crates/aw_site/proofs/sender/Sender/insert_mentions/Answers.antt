use Rattle.std.proofs.Common.{◌-◌, List, length, map, sym, subst, arith}
use Rattle.std.proofs.lemmas.List.{append-nil}
use Rattle.aw_term.specs.Names.{Ref}
use Rattle.aw_grammar.specs.GrammarOf.{grammar_of}
use Rattle.aw_store.specs.Equations.{mentions}
use Rattle.aw_store.specs.EquationView.{body_of, equation_of}
use Rattle.aw_law_sites.specs.Asking.{all_mentions}
use Rattle.aw_site.specs.Wanting.{PutsWanted}
use Rattle.aw_site.proofs.Named.{equation_at, body_in}
use Rattle.aw_site.proofs.Wanting.{puts_more, mentions_split}
use Rattle.aw_site.proofs.sender.Sender.insert_mentions.Goals as goal

pub insert_body_refs-requires-clause-valid : goal.insert_body_refs-requires-clause-valid
insert_body_refs-requires-clause-valid g c =
    let gr = grammar_of c.args.self.now.grammar.now in
    let e = c.index-es-es.result in
    body_in gr (equation_of e) (equation_at gr c.args.es.now (length c.args.es.now - 1 - c.loop-i.i) e (omega (arith, c.loop-i-test.true)) c.index-es-es.is c.requires.valid)

pub loop-i-preserved : goal.loop-i-preserved
loop-i-preserved g c =
    let f = g.F.Facts in
    let e = c.index-es-es.result in
    let before = c.loop-i.wanted.items in
    let after = c.insert_body_refs.new.wanted.items in
    puts_more f c.args.self.now c.args.subs.now (λ es. all_mentions (map equation_of es)) mentions_split c.args.es.now c.loop-i.i e
    c.args.wanted.now.items before after c.loop-i-test.true c.index-es-es.is c.loop-i.invariant
    (subst (λ (rs : List Ref). PutsWanted f c.args.self.now c.args.subs.now rs before after) (sym (append-nil (mentions (body_of e.body)))) c.in_ok-insert_body_refs.ensures)
