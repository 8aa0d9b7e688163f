use Rattle.std.proofs.Common.{◌≡◌, true, map, refl}
use Rattle.std.proofs.lemmas.List.{drop_all}
use Rattle.aw_grammar.specs.GrammarOf.{grammar_of}
use Rattle.aw_site.proofs.Steps.{drop_here}
use Rattle.aw_law_sites.specs.Telling.{calls_out}
use Rattle.aw_site.specs.Views.{child_call}
use Rattle.aw_site.proofs.SentLists.{pushed_more, pushed_all, calls_split}
use Rattle.aw_apply.specs.declared.making.MadeChild.{MadeChild}
use Rattle.aw_law_sites.specs.ValidNames.{call_ok}
use Rattle.aw_site.proofs.Named.{each_at}
use Rattle.aw_site.proofs.sender.Sender.push_calls_out.Goals as goal

pub push_call_out-requires : goal.push_call_out-requires
push_call_out-requires g c =
    let gr = grammar_of c.args.self.now.grammar.now in
    each_at (λ (x : MadeChild). call_ok gr (child_call gr x) ≡ true) c.args.children.now c.loop-child.child-index c.child-item.result c.loop-child-test.true c.child-item.is c.requires

pub loop-child-preserved : goal.loop-child-preserved
loop-child-preserved g c = λ s sends.
    let gr = grammar_of c.args.self.now.grammar.now in
    pushed_more (λ cs. calls_out gr s (map (child_call gr) cs)) (λ x xs. calls_split gr s (child_call gr x) (map (child_call gr) xs)) _ _ _ _ _ c.child-item.result
    (drop_here c.args.children.now c.loop-child.child-index c.child-item.result c.loop-child-test.true c.child-item.is) (c.loop-child.invariant s sends) (c.in_ok-push_call_out.ensures s sends)

pub returns : goal.returns
returns g c = λ s sends.
    let gr = grammar_of c.args.self.now.grammar.now in
    pushed_all (λ cs. calls_out gr s (map (child_call gr) cs)) refl _ _ _ (drop_all c.loop-child.child-index c.args.children.now c.loop-child-test.false) (c.loop-child.invariant s sends)
