use Rattle.std.proofs.Common.{◌≡◌, ◌-◌}
use Rattle.aw_codec.specs.Reading.{times}
use Rattle.aw_codec.proofs.Contents.{content_byte}
use Rattle.aw_codec.proofs.Loop.{with_front}
use Rattle.aw_codec.proofs.texts.content_at.Given as goal

abbrev pub invariant-loop : goal.invariant-loop
invariant-loop l = with_front l.content.items (times content_byte (l.count - l.counter) l.rest) ≡ times content_byte l.count l.bytes
