use Rattle.std.proofs.Common.{◌≡◌, ◌∙◌}
use Rattle.aw_grammar.specs.GrammarOf.{grammar_of}
use Rattle.aw_msg.specs.MessageView.{message_of}
use Rattle.aw_msg.specs.ResponseView.{response_of}
use Rattle.aw_law_nodes.specs.Nodes as N
use Rattle.aw_law_nodes.specs.Told.{told}
use Rattle.aw_law_sites.specs.Reacting.{receive}
use Rattle.aw_site.specs.Seen.{message_at, site_seen, IsShown}
use Rattle.aw_list.proofs.Fronts.{on_err_held as err_any}
use Rattle.aw_node.proofs.SiteReplies.{as_seen, received_site}
use Rattle.aw_node.proofs.sites.SiteNodeWorkspace.receive.Goals as goal

pub returns-in_err-received-clause-err : goal.returns-in_err-received-clause-err
returns-in_err-received-clause-err g c = λ s shown. err_any c.from_residual.result (c.in_err-received.ensures.err ∙ shown)

pub returns-clause-answer : goal.returns-clause-answer
returns-clause-answer g c =
    let gr = grammar_of c.args.g.now.grammar in
    let old = c.args.self.now in
    let m = message_of gr c.args.m.now in
    let x = message_at g.F.Facts c.args.g.now.grammar old c.args.m.now in
    as_seen g.F.Facts old (λ s. (response_of gr c.answered.result ≡ told (N.received s (receive gr s m)).response) × IsShown g.F.Facts c.receive.new.self (N.received s (receive gr s m)).site)
    (c.answered.ensures.reply gr (site_seen g.F.Facts old) x c.in_ok-received.ensures.answer, c.in_ok-received.ensures.site ∙ received_site (site_seen g.F.Facts old) x)
