use Rattle.std.proofs.Common.{◌≡◌, ◌-◌}
use Rattle.aw_codec.specs.Reading.{times}
use Rattle.aw_codec.proofs.Loop.{with_front}
use Rattle.aw_msg.specs.Messages.{equation}
use Rattle.aw_msg.proofs.equations.some_equations_at.Given as goal

abbrev pub invariant-loop : goal.invariant-loop
invariant-loop l = with_front l.equations.items (times equation (l.count - l.counter) l.rest) ≡ times equation l.count l.bytes
