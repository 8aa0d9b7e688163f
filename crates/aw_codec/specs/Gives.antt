-- What a reader of the program answers, beside what is to be read.
use Rattle.std.specs.Prelude.{◌≡◌, Result, Ok, Err}
use Rattle.aw_codec.specs.Reading as reading
use Rattle.aw_codec.specs.declared.unread.Unread.{Unread}
use Rattle.aw_codec.specs.declared.unread.Unread.TheVariants.{Short, Bad, NoMemory}

-- the fault that is told is the one that is met, unless memory ran out
abbrev pub Fails : {Y : Type 0} → Unread → Result Y reading.Fault → Type 0
Fails Short read = read ≡ Err reading.Short
Fails (Bad left) read = read ≡ Err (reading.Bad left)
Fails NoMemory read = Unit {0}

-- the answer, seen by view, is what is to be read, unless memory ran out
abbrev pub Gives : {X Y : Type 0} → (X → Y) → Result X Unread → Result Y reading.Fault → Type 0
Gives view (Ok x) read = read ≡ Ok (view x)
Gives view (Err e) read = Fails e read
