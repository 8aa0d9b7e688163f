use Rattle.std.proofs.Common.{◌∙◌, ◌++◌, ap, map}
use Rattle.std.proofs.lemmas.Result.{IfOk-weaker}
use Rattle.aw_grammar.specs.GrammarOf.{grammar_of}
use Rattle.aw_store.specs.EquationView.{equation_of}
use Rattle.aw_msg.specs.MessageView.{message_of}
use Rattle.aw_law_sites.specs.Asking.{all_mentions}
use Rattle.aw_site.specs.Plans.{asks_for}
use Rattle.aw_site.proofs.Wanting.{puts_both, wanted_put}
use Rattle.aw_law_sites.specs.ValidNames.{refs_ok}
use Rattle.aw_site.proofs.sender.Sender.plan_came.Goals as goal

pub asking-requires : goal.asking-requires
asking-requires g c = c.in_ok-insert_refs.ensures.names (c.in_ok-insert_mentions.ensures.names (ap (refs_ok (grammar_of c.args.self.now.grammar.now)) c.new-wanted.ensures.items))

pub returns-clause-wanted : goal.returns-clause-wanted
returns-clause-wanted g c =
    let f = g.F.Facts in
    let sender = c.args.self.now in
    let subs = c.args.subs.now in
    let inherited = c.args.inherited.now in
    let mentioned = all_mentions (map equation_of c.args.es.now) in
    let none = c.new-wanted.result.items in
    let wanted = c.insert_refs.new.wanted.items in
    IfOk-weaker c.asking.result _ _
    (λ p h s sends shows. h ∙ wanted_put f sender subs (inherited ++ mentioned) none wanted c.new-wanted.ensures.items
    (puts_both f sender subs inherited mentioned none c.insert_mentions.new.wanted.items wanted c.in_ok-insert_mentions.ensures c.in_ok-insert_refs.ensures) s sends shows)
    c.asking.ensures.wanted

pub returns-clause-sent : goal.returns-clause-sent
returns-clause-sent g c =
    let gr = grammar_of c.args.self.now.grammar.now in
    IfOk-weaker c.asking.result _ _ (λ p h s sends. h s sends ∙ ap (λ ms. map (message_of gr) ms ++ asks_for gr s p.wanted.items) c.new.ensures.items) c.asking.ensures.sent
