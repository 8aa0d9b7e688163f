use Rattle.std.proofs.Common.{◌≡◌, ◌&&◌, drop}
use Rattle.std.specs.List.{list_all}
use Rattle.aw_spelling.specs.Spelling.{is_content_byte}
use Rattle.aw_spelling.proofs.name.are_content_bytes.Given as goal

abbrev pub invariant-loop-byte : goal.invariant-loop-byte
invariant-loop-byte l = (l.all && list_all is_content_byte (drop l.byte-index l.b)) ≡ list_all is_content_byte l.b
