use Rattle.std.proofs.Common.{◌≡◌, ◌-◌}
use Rattle.aw_codec.specs.Reading.{times}
use Rattle.aw_codec.specs.Names.{reference}
use Rattle.aw_codec.proofs.Loop.{with_front}
use Rattle.aw_codec.proofs.names.some_refs_at.Given as goal

abbrev pub invariant-loop : goal.invariant-loop
invariant-loop l = with_front l.refs.items (times reference (l.count - l.counter) l.rest) ≡ times reference l.count l.bytes
