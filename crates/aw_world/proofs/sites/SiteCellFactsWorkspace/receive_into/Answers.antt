use Rattle.std.proofs.Common.{◌≡◌, ◌++◌, map, ap, subst, ◌∙◌}
use Rattle.aw_list.proofs.Fronts.{on_err_held as on_err}
use Rattle.aw_accept.specs.declared.accepted.Accepted.{Accepted}
use Rattle.aw_cells.specs.contracts.cells.CellFactsFacts.TheImpl as cells
use Rattle.aw_grammar.specs.GrammarOf.{grammar_of}
use Rattle.aw_msg.specs.MessageView.{message_of}
use Rattle.aw_law_sites.specs.Reacting.{receive}
use Rattle.aw_law_sites.specs.SiteEvents.{after_message}
use Rattle.aw_site.specs.Answers.{sent_for}
use Rattle.aw_site.specs.Seen.{site_seen}
use Rattle.aw_world.specs.SiteAnswers.{is_new}
use Rattle.aw_world.proofs.OwnGrammars.{grows_either}
use Rattle.aw_world.proofs.sites.SiteCellFactsWorkspace.receive_into.Goals as goal

pub returns-in_err-received-clause-err : goal.returns-in_err-received-clause-err
returns-in_err-received-clause-err c = on_err _ c.in_err-received.ensures.err

pub returns-clause-new : goal.returns-clause-new
returns-clause-new c =
    let same = ap (λ (a : Accepted). grammar_of a.grammar) c.accepted-own.ensures in
    c.is_new.ensures _ c.in_ok-received.ensures.answer ∙ ap (λ g. is_new (receive g (site_seen cells.ghosts c.args.self.now) (message_of g c.args.message.now))) same

pub returns-clause-site : goal.returns-clause-site
returns-clause-site c =
    let same = ap (λ (a : Accepted). grammar_of a.grammar) c.accepted-own.ensures in
    let s = site_seen cells.ghosts c.args.self.now in
    c.in_ok-received.ensures.site ∙ ap (λ g. after_message s (receive g s (message_of g c.args.message.now))) same

pub returns-clause-sent : goal.returns-clause-sent
returns-clause-sent c =
    let same = ap (λ (a : Accepted). grammar_of a.grammar) c.accepted-own.ensures in
    let s = site_seen cells.ghosts c.args.self.now in
    subst (λ g. map (message_of g) c.receive_into.new.copy ≡ map (message_of g) c.args.copy.now ++ sent_for (receive g s (message_of g c.args.message.now))) same c.in_ok-received.ensures.copy

pub returns-clause-grows : goal.returns-clause-grows
returns-clause-grows c = grows_either (message_of (grammar_of c.accepted-own.result.now.grammar)) _ c.receive_into.result c.args.copy.now
    c.receive_into.new.copy c.receive_into.ensures.copy c.receive_into.ensures.err_copy
