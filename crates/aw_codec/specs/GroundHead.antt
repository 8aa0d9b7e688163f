-- A head of the program, as the definitions speak of it.
use Rattle.std.specs.Prelude.{ℕ}
use Rattle.aw_term.specs.Trees as P
use Rattle.aw_codec.specs.declared.grounds.Head.{Head}
use Rattle.aw_codec.specs.declared.grounds.Head.TheVariants.{Con, Num, Text}

-- the head, and how many parts follow it
abbrev pub head_of : Head → P.Head × ℕ
head_of (Con c parts) = (P.Con c, parts)
head_of (Num n) = (P.Num n, 0)
head_of (Text t) = (P.Text t, 0)
