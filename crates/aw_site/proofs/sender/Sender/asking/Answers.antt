use Rattle.std.proofs.Common.{◌∙◌, ◌++◌, ap, map}
use Rattle.aw_grammar.specs.GrammarOf.{grammar_of}
use Rattle.aw_msg.specs.MessageView.{message_of}
use Rattle.aw_site.specs.Plans.{asks_for}
use Rattle.aw_site.proofs.sender.Sender.asking.Goals as goal

pub returns-clause-sent : goal.returns-clause-sent
returns-clause-sent g c = λ s sends.
    let gr = grammar_of c.args.self.now.grammar.now in
    c.in_ok-push_asks.ensures s sends ∙ ap (λ w. map (message_of gr) c.args.sent.items ++ asks_for gr s w) c.as_slice.ensures.value
