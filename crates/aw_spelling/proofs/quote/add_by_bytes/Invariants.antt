use Rattle.std.proofs.Common.{◌≡◌, ◌++◌, take, flat_map}
use Rattle.std.specs.Io.{StartsWith}
use Rattle.aw_spelling.specs.Spelling.{spelled}
use Rattle.aw_spelling.proofs.quote.add_by_bytes.Given as goal

abbrev pub invariant-loop-byte : goal.invariant-loop-byte
invariant-loop-byte l = record {
  added : l.text ≡ l.fn.text ++ flat_map spelled (take l.byte-index l.content);
  kept : StartsWith l.text l.fn.text;
}
