use Rattle.std.proofs.Common.{◌∙◌, ap, sym, refl}
use Rattle.std.proofs.lemmas.List.{drop_all}
use Rattle.aw_grammar.specs.GrammarOf.{grammar_of}
use Rattle.aw_msg.specs.MessageView.{message_of}
use Rattle.aw_site.proofs.Steps.{drop_here}
use Rattle.aw_law_sites.specs.Asking.{ask_message}
use Rattle.aw_site.specs.Plans.{asks_for}
use Rattle.aw_site.proofs.SentLists.{pushed_more, pushed_all, push_map}
use Rattle.aw_site.proofs.Named.{ref_at}
use Rattle.aw_site.proofs.sender.Sender.push_asks.Goals as goal

pub ask-requires : goal.ask-requires
ask-requires g c = ref_at (grammar_of c.args.self.now.grammar.now) c.args.wanted.now c.loop-r.r-index c.r-item.result c.loop-r-test.true c.r-item.is c.requires

pub loop-r-preserved : goal.loop-r-preserved
loop-r-preserved g c = λ s sends.
    let gr = grammar_of c.args.self.now.grammar.now in
    pushed_more (asks_for gr s) (λ x xs. refl) _ _ _ _ _ c.r-item.result
    (drop_here c.args.wanted.now c.loop-r.r-index c.r-item.result c.loop-r-test.true c.r-item.is) (c.loop-r.invariant s sends)
    (push_map (message_of gr) _ _ _ (ask_message gr s.role c.r-item.result) c.in_ok-push.ensures.items (c.in_ok-ask.ensures ∙ ap (λ role. ask_message gr role c.r-item.result) (sym sends.role)))

pub returns : goal.returns
returns g c = λ s sends.
    let gr = grammar_of c.args.self.now.grammar.now in
    pushed_all (asks_for gr s) refl _ _ _ (drop_all c.loop-r.r-index c.args.wanted.now c.loop-r-test.false) (c.loop-r.invariant s sends)
