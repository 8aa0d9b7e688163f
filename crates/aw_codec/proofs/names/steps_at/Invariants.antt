use Rattle.std.proofs.Common.{◌≡◌, ◌-◌, length}
use Rattle.aw_codec.specs.Reading.{times}
use Rattle.aw_codec.specs.Names.{step}
use Rattle.aw_codec.proofs.Loop.{with_front}
use Rattle.aw_codec.proofs.names.steps_at.Given as goal

abbrev pub invariant-loop : goal.invariant-loop
invariant-loop l = (with_front l.steps.items (times step (l.count - l.counter) l.rest) ≡ times step l.count l.bytes) × (length l.steps.items ≡ l.counter)
