use Rattle.std.proofs.Common.{sym, subst}
use Rattle.std.specs.Prelude.{IfOk}
use Rattle.aw_journal.specs.EventView.{event_of}
use Rattle.aw_journal.specs.declared.payload.NodeEvent.{NodeEvent}
use Rattle.aw_law_journals.specs.Journals.{Fits}
use Rattle.aw_law_sites.specs.Worlds as V
use Rattle.aw_term.specs.Trees.{Never}
use Rattle.aw_book_drive.specs.Causes.{IsCause}
use Rattle.aw_book_drive.specs.Driving.{grammar_in, types_in, Drives}
use Rattle.aw_book_drive.specs.Journals.{site_event}
use Rattle.aw_book_drive.proofs.causes.cause_of.Goals as goal

pub returns-in-Took-clause-cause : goal.returns-in-Took-clause-cause
returns-in-Took-clause-cause g c = λ v moves d n.
    let x = c.args.driver.now in
    subst (λ (e : NodeEvent). ((m : V.Move) → Fits (types_in x) (grammar_in x) v c.args.role (site_event (grammar_in x) (event_of e)) m → Never) →
    IfOk c.cause_of_choice.result (λ cause. IsCause (types_in x) (grammar_in x) v x.world.messages c.args.role e cause × Drives g.W.Workspace c.cause_of_choice.new.driver v moves)) (sym c.in-Took.is)
    (c.cause_of_choice.ensures.cause v moves d) n
