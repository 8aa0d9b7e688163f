use Rattle.std.proofs.Common.{◌∙◌, sym, subst}
use Rattle.std.specs.Prelude.{Ok}
use Rattle.aw_grammar.specs.GrammarOf.{declarations_of}
use Rattle.aw_sched.specs.Events.{event_of, line_kind}
use Rattle.aw_sched.specs.LineEvents.{GivesEvent}
use Rattle.aw_sched.specs.Lines.{StartLine}
use Rattle.aw_sched.proofs.LineLaws.{start_bad, start_good, start_unknown}
use Rattle.aw_sched.proofs.lookup.start_event.Goals as goal

pub returns-in-None-clause-gives : goal.returns-in-None-clause-gives
returns-in-None-clause-gives c = start_unknown c.args.g.now c.args.sort.now c.args.case c.in-None.ensures

pub returns-in_ok-of_choice-in-Some-clause-gives : goal.returns-in_ok-of_choice-in-Some-clause-gives
returns-in_ok-of_choice-in-Some-clause-gives c =
    let d = declarations_of c.args.g.now in
    let line = StartLine c.args.sort.now c.args.case in
    subst (λ e. GivesEvent (line_kind d line) (event_of d line) (Ok e)) (sym c.in_ok-of_choice-in-Some.ensures)
    (start_good c.args.g.now c.args.sort.now c.args.case c.in-Some.sort c.in-Some.ensures (sym c.is_start.ensures ∙ c.if-is_start.true))

pub returns-in-Some-2-clause-gives : goal.returns-in-Some-2-clause-gives
returns-in-Some-2-clause-gives c =
    start_bad c.args.g.now c.args.sort.now c.args.case c.in-Some.sort c.in-Some.ensures (sym c.is_start.ensures ∙ c.if-is_start.false)
