use Rattle.std.specs.Prelude.{◌≡◌, ◌++◌, map, take}
use Rattle.aw_book_read.specs.Checks.{shown_byte}
use Rattle.aw_book_read.proofs.checks.push_shown.Given as goal

-- what is shown of the bytes so far
abbrev pub invariant-bytes : goal.invariant-bytes
invariant-bytes l = l.text ≡ l.fn.text ++ map shown_byte (take l.byte-index l.name)
