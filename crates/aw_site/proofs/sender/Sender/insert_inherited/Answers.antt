use Rattle.std.proofs.Common.{◌≡◌, ◌-◌, true, length, map, arith}
use Rattle.aw_grammar.specs.GrammarOf.{grammar_of}
use Rattle.aw_law_sites.specs.Asking.{all_inherited}
use Rattle.aw_law_sites.specs.Telling.{calls_in}
use Rattle.aw_law_sites.specs.ValidNames.{call_ok}
use Rattle.aw_apply.specs.declared.making.MadeChild.{MadeChild}
use Rattle.aw_site.proofs.Named.{each_at}
use Rattle.aw_site.specs.Views.{child_call}
use Rattle.aw_site.proofs.Wanting.{puts_more, inherited_split}
use Rattle.aw_site.proofs.sender.Sender.insert_inherited.Goals as goal

pub insert_child_refs-requires-clause-valid : goal.insert_child_refs-requires-clause-valid
insert_child_refs-requires-clause-valid g c =
    let gr = grammar_of c.args.self.now.grammar.now in
    each_at (λ (x : MadeChild). call_ok gr (child_call gr x) ≡ true) c.args.children.now (length c.args.children.now - 1 - c.loop-i.i) c.index-children-children.result
    (omega (arith, c.loop-i-test.true)) c.index-children-children.is c.requires.valid

pub loop-i-preserved : goal.loop-i-preserved
loop-i-preserved g c =
    let gr = grammar_of c.args.self.now.grammar.now in
    let role = c.args.self.now.role in
    puts_more g.F.Facts c.args.self.now c.args.subs.now (λ cs. all_inherited (calls_in gr role (map (child_call gr) cs))) (λ x xs. inherited_split gr role (child_call gr x) (map (child_call gr) xs))
    c.args.children.now c.loop-i.i c.index-children-children.result c.args.wanted.now.items c.loop-i.wanted.items c.insert_child_refs.new.wanted.items
    c.loop-i-test.true c.index-children-children.is c.loop-i.invariant c.in_ok-insert_child_refs.ensures
