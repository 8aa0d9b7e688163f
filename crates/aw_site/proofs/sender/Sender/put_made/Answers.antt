use Rattle.std.proofs.Common.{◌∙◌, ◌++◌, ap, sym, map}
use Rattle.aw_grammar.specs.GrammarOf.{grammar_of}
use Rattle.aw_msg.specs.MessageView.{message_of}
use Rattle.aw_store.specs.EquationView.{equation_of}
use Rattle.aw_law_sites.specs.Asking.{all_mentions, all_inherited}
use Rattle.aw_law_sites.specs.Telling.{tells, calls_out, calls_in}
use Rattle.aw_law_sites.specs.ValidNames.{refs_ok}
use Rattle.aw_site.specs.Plans.{wanted_of}
use Rattle.aw_site.specs.Views.{child_call}
use Rattle.aw_site.proofs.Wanting.{puts_both, wanted_put}
use Rattle.aw_site.proofs.sender.Sender.put_made.Goals as goal

pub returns-clause-names : goal.returns-clause-names
returns-clause-names g c = c.in_ok-insert_mentions.ensures.names (c.in_ok-insert_inherited.ensures.names (ap (refs_ok (grammar_of c.args.self.now.grammar.now)) c.requires.none_wanted))

pub returns-clause-wanted : goal.returns-clause-wanted
returns-clause-wanted g c = λ s sends shows.
    let f = g.F.Facts in
    let sender = c.args.self.now in
    let subs = c.args.subs.now in
    let gr = grammar_of sender.grammar.now in
    let inherited = all_inherited (calls_in gr sender.role (map (child_call gr) c.as_slice-3.result.now)) in
    let mentioned = all_mentions (map equation_of c.as_slice-4.result.now) in
    let none = c.args.wanted.now.items in
    let wanted = c.insert_mentions.new.wanted.items in
    wanted_put f sender subs (mentioned ++ inherited) none wanted c.requires.none_wanted
    (puts_both f sender subs mentioned inherited none c.insert_inherited.new.wanted.items wanted c.in_ok-insert_inherited.ensures c.in_ok-insert_mentions.ensures) s sends shows
    ∙ ap (wanted_of gr s) (λ i. all_mentions (map equation_of (c.as_slice-4.ensures i)) ++ all_inherited (calls_in gr (sym sends.role i) (map (child_call gr) (c.as_slice-3.ensures i))))

pub returns-clause-sent : goal.returns-clause-sent
returns-clause-sent g c = λ s sends watch.
    let gr = grammar_of c.args.self.now.grammar.now in
    let called = c.in_ok-push_calls_out.ensures s sends ∙ (λ i. map (message_of gr) (c.requires.none_sent i) ++ calls_out gr s (map (child_call gr) (c.as_slice.ensures i))) in
    c.in_ok-push_tells.ensures s sends watch ∙ (λ i. called i ++ tells gr s (map equation_of (c.as_slice-2.ensures i)))
