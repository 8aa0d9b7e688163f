-- How arguments are spelled in bytes, and how they are read.
use Rattle.std.specs.Prelude.{ℕ, zero, suc, List, [], ◌∷◌, ◌++◌, length, Ok, Err}
use Rattle.std.specs.List.{flat_map}
use Rattle.std.specs.Int.{w16, w64, to_be_bytes}
use Rattle.aw_term.specs.Trees.{Never, Head, Con, Num, Text, Leaf, Made, Trees, Nil, More, join, count}
use Rattle.aw_term.specs.Rules.{Ground}
use Rattle.aw_term.specs.Limits.{most_parts, most_arguments, most_levels, most_symbols}
use Rattle.aw_codec.specs.Reading.{Short, Bad, Reader, ◌>>=◌, byte, number, such_that, both, seen}
use Rattle.aw_codec.specs.Names.{is_at_most}
use Rattle.aw_codec.specs.Texts.{spelled_text, text}

-- ---- the spelling

-- 1, the constructor in two bytes and the number of its parts; or 2 and a number in eight bytes; or 3 and a text
abbrev pub spelled_head : Head → ℕ → List ℕ
spelled_head (Con c) parts = 1 ∷ (to_be_bytes w16 c ++ parts ∷ [])
spelled_head (Num n) parts = 2 ∷ to_be_bytes w64 n
spelled_head (Text t) parts = 3 ∷ spelled_text t

-- a head, and its parts behind it
abbrev mutual
  pub spelled_ground : Ground → List ℕ
  spelled_ground (Leaf x) = []
  spelled_ground (Made h ts) = spelled_head h (count ts) ++ spelled_parts ts

  pub spelled_parts : Trees Never → List ℕ
  spelled_parts Nil = []
  spelled_parts (More t ts) = spelled_ground t ++ spelled_parts ts

-- how many there are, and each of them
abbrev pub spelled_grounds : List Ground → List ℕ
spelled_grounds ts = length ts ∷ flat_map spelled_ground ts

-- ---- reading

-- a head, and how many parts follow it
unfoldable pub head : Reader (Head × ℕ)
head [] = Err Short
head (zero ∷ rest) = Err (Bad (suc (length rest)))
head (suc zero ∷ rest) = seen (λ x. (Con x.0, x.1)) (both (number w16) (such_that (is_at_most most_parts) byte)) rest
head (suc (suc zero) ∷ rest) = seen (λ n. (Num n, 0)) (number w64) rest
head (suc (suc (suc zero)) ∷ rest) = seen (λ t. (Text t, 0)) text rest
head (suc (suc (suc (suc b))) ∷ rest) = Err (Bad (suc (length rest)))

-- so many, each with what those before it leave of the allowed symbols; what they all leave is told beside them
abbrev pub in_turn : {A : Type 0} → (ℕ → Reader (A × ℕ)) → ℕ → ℕ → Reader (List A × ℕ)
in_turn item zero allowed bytes = Ok (([], allowed), bytes)
in_turn item (suc n) allowed bytes = item allowed bytes >>= λ x. in_turn item n x.0.1 x.1 >>= λ xs. Ok ((x.0.0 ∷ xs.0.0, xs.0.1), xs.1)

-- no term has a place here
abbrev pub no_term : {A : Type 0} → Reader A
no_term [] = Err Short
no_term (b ∷ rest) = Err (Bad (suc (length rest)))

-- a head with the parts that follow it
abbrev pub with_parts : (ℕ → Reader (Ground × ℕ)) → Head × ℕ → ℕ → Reader (Ground × ℕ)
with_parts item h allowed bytes = in_turn item h.1 allowed bytes >>= λ ts. Ok ((Made h.0 (join ts.0.0), ts.0.1), ts.1)

-- a term of at most so many levels and of the allowed symbols
unfoldable pub ground : ℕ → ℕ → Reader (Ground × ℕ)
ground zero allowed bytes = no_term bytes
ground (suc levels) zero bytes = no_term bytes
ground (suc levels) (suc allowed) bytes = head bytes >>= λ h. with_parts (ground levels) h.0 allowed h.1

-- the arguments of a choice, within their limits
unfoldable pub arguments : Reader (List Ground)
arguments bytes = such_that (is_at_most most_arguments) byte bytes >>= λ n. in_turn (ground most_levels) n.0 most_symbols n.1 >>= λ ts. Ok (ts.0.0, ts.1)
