use Rattle.std.proofs.Common.{◌∙◌, sym}
use Rattle.std.proofs.lemmas.Bool.{false≢true}
use Rattle.aw_sched.specs.Readers.{left}
use Rattle.aw_sched.proofs.ReadEvents.{next_is}
use Rattle.aw_sched.proofs.reader.ScheduleReader.next.Goals as goal

pub returns-then-not-is_passed_over-clause-next : goal.returns-then-not-is_passed_over-clause-next
returns-then-not-is_passed_over-clause-next c =
    next_is (left c.args.self.now) (left c.loop-line.self) (left c.read_line-found.new.self) c.read_line-found.result c.loop-line.invariant.same
    (λ e. false≢true (sym c.if-not-is_passed_over.true ∙ c.is_passed_over.ensures.1 e)) c.read_line-found.ensures.next
