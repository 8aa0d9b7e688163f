use Rattle.std.proofs.Common.{◌∙◌, ◌++◌, ap, map, refl}
use Rattle.std.proofs.lemmas.List.{drop_all}
use Rattle.aw_grammar.specs.GrammarOf.{grammar_of}
use Rattle.aw_msg.specs.MessageView.{message_of}
use Rattle.aw_site.proofs.Steps.{drop_here}
use Rattle.aw_store.specs.EquationView.{equation_of}
use Rattle.aw_law_sites.specs.Telling.{tell, tells}
use Rattle.aw_site.proofs.SentLists.{pushed_more, pushed_all, tells_split, tells_one, watchers_are}
use Rattle.aw_site.proofs.Named.{equation_at}
use Rattle.aw_site.proofs.sender.Sender.push_tells.Goals as goal

pub push_told-requires : goal.push_told-requires
push_told-requires g c = equation_at (grammar_of c.args.self.now.grammar.now) c.args.es.now c.loop-e.e-index c.e-item.result c.loop-e-test.true c.e-item.is c.requires

pub loop-e-preserved : goal.loop-e-preserved
loop-e-preserved g c = λ s sends watch.
    let gr = grammar_of c.args.self.now.grammar.now in
    pushed_more (λ es. tells gr s (map equation_of es)) (λ x xs. tells_split gr s (equation_of x) (map equation_of xs)) _ _ _ _ _ c.e-item.result
    (drop_here c.args.es.now c.loop-e.e-index c.e-item.result c.loop-e-test.true c.e-item.is) (c.loop-e.invariant s sends watch)
    (tells_one gr s (equation_of c.e-item.result) _ _ (c.in_ok-push_told.ensures s sends
    ∙ ap (λ roles. map (message_of gr) c.loop-e.sent.items ++ map (tell gr s (equation_of c.e-item.result)) roles)
    (watchers_are c.args.subs.now s c.e-item.result.left c.watchers_of.result c.watchers_of.ensures watch)))

pub returns : goal.returns
returns g c = λ s sends watch.
    let gr = grammar_of c.args.self.now.grammar.now in
    pushed_all (λ es. tells gr s (map equation_of es)) refl _ _ _ (drop_all c.loop-e.e-index c.args.es.now c.loop-e-test.false) (c.loop-e.invariant s sends watch)
