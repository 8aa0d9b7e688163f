-- What a reader answers, beside what is to be read.
use Rattle.std.specs.Prelude.{◌≡◌, Option, None, Some, Result, Ok, Err}
use Rattle.aw_term_reader.specs.declared.unread.Unread.{Unread}
use Rattle.aw_term_reader.specs.declared.unread.Unread.TheVariants.{Form, NoMemory}

-- The answer, seen by view, is what is to be read, unless memory ran out.
abbrev pub Gives : {X Y : Type 0} → (X → Y) → Result X Unread → Option Y → Type 0
Gives view (Ok x) read = read ≡ Some (view x)
Gives view (Err Form) read = read ≡ None
Gives view (Err NoMemory) read = Unit {0}
