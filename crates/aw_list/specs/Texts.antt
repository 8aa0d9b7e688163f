-- Where the bytes of a text lie.
use Rattle.std.specs.Prelude.{ℕ, List}
use Rattle.aw_list.specs.declared.text.Bytes.{Bytes}
use Rattle.aw_list.specs.declared.text.Bytes.TheVariants.{Short, Long}

-- the bytes, wherever they lie
abbrev pub bytes_in : Bytes → List ℕ
bytes_in (Short few) = few.items
bytes_in (Long many) = many.items
