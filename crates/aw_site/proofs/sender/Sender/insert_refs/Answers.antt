use Rattle.std.proofs.Common.{◌-◌, List, length, refl, arith}
use Rattle.aw_term.specs.Names.{Ref}
use Rattle.aw_grammar.specs.GrammarOf.{grammar_of}
use Rattle.aw_site.proofs.Named.{ref_at}
use Rattle.aw_site.proofs.Wanting.{puts_more}
use Rattle.aw_site.proofs.sender.Sender.insert_refs.Goals as goal

pub insert_wanted-requires-clause-valid : goal.insert_wanted-requires-clause-valid
insert_wanted-requires-clause-valid g c =
    ref_at (grammar_of c.args.self.now.grammar.now) c.args.refs.now (length c.args.refs.now - 1 - c.loop-i.i) c.index-refs-refs.result
    (omega (arith, c.loop-i-test.true)) c.index-refs-refs.is c.requires.valid

pub loop-i-preserved : goal.loop-i-preserved
loop-i-preserved g c =
    puts_more g.F.Facts c.args.self.now c.args.subs.now (λ (rs : List Ref). rs) (λ x xs. refl) c.args.refs.now c.loop-i.i c.index-refs-refs.result
    c.args.wanted.now.items c.loop-i.wanted.items c.insert_wanted.new.wanted.items c.loop-i-test.true c.index-refs-refs.is c.loop-i.invariant c.in_ok-insert_wanted.ensures
