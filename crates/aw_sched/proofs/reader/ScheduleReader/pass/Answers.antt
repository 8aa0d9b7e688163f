use Rattle.std.proofs.Common.{rules, ◌≡◌, ◌∷◌, ◌++◌, [], ◌∙◌, refl, sym, subst, Err}
use Rattle.aw_sched.specs.Readers.{Passes, left}
use Rattle.aw_sched.proofs.ReadEvents.{end_read, fault_passes, next_read, none_read}
use Rattle.aw_sched.proofs.reader.ScheduleReader.pass.Goals as goal

pub loop-event-init : goal.loop-event-init
loop-event-init c = record {
  reading = c.requires;
  grammar = refl;
  typed = refl;
  read = ([], none_read c.args.self.now);
}

pub returns-in_err-event-clause-passes : goal.returns-in_err-event-clause-passes
returns-in_err-event-clause-passes c =
    let i = c.loop-event.invariant.read in
    let same : c.from_residual.result ≡ Err c.in_err-event.field-0.0 = search rules in
    subst (Passes c.args.self.now) (sym same) (fault_passes c.args.self.now c.loop-event.self i.0 c.in_err-event.field-0.0 (left c.next.new.self) i.1 c.in_err-event.ensures.next)

pub loop-event-preserved : goal.loop-event-preserved
loop-event-preserved c =
    let i = c.loop-event.invariant in
    let n = c.in_ok-event.ensures in
    record {
      reading = n.reading;
      grammar = n.grammar ∙ i.grammar;
      typed = n.typed ∙ i.typed;
      read = (
        i.read.0 ++ c.in-Some.event ∷ [],
        next_read c.args.self.now c.loop-event.self i.read.0 (left c.next.new.self) i.grammar i.typed i.read.1 c.next.new.self refl
            c.in_ok-event.field-0 c.in-Some.event c.in-Some.is n.next n.fits n.types,
      );
    }

pub returns-clause-passes : goal.returns-clause-passes
returns-clause-passes c =
    let i = c.loop-event.invariant.read in
    (i.0, end_read c.args.self.now c.loop-event.self i.0 c.in_ok-event.field-0 (left c.next.new.self) (search rules) i.1 c.in_ok-event.ensures.next)
