use Rattle.std.proofs.Common.{sym, subst}
use Rattle.std.specs.Prelude.{IfOk}
use Rattle.aw_journal.specs.EventView.{event_of}
use Rattle.aw_journal.specs.declared.payload.NodeEvent.{NodeEvent}
use Rattle.aw_book_drive.specs.Driving.{grammar_in, types_in, Tries}
use Rattle.aw_book_drive.specs.Journals.{site_event}
use Rattle.aw_book_drive.proofs.driver.try_event.Goals as goal

pub returns-in-Got-clause-tries : goal.returns-in-Got-clause-tries
returns-in-Got-clause-tries g c = λ v moves d.
    let x = c.args.driver.now in
    subst (λ (e : NodeEvent). IfOk c.try_message.result (Tries g.W.Workspace (types_in x) (grammar_in x) c.try_message.new.driver v moves c.args.role (site_event (grammar_in x) (event_of e)))) (sym c.in-Got.is)
    (c.try_message.ensures.tries v moves d)
