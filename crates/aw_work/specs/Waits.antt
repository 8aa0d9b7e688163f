-- What a contract sees of a waiting index.
use Rattle.std.specs.Prelude.{ℕ, List, [], Option, Some, None, refl}
use Rattle.std.specs.Coded.{Coded, code_by, coded×, coded_ℕ, coded_list}
use Rattle.aw_work.specs.declared.block.Triple.{Triple}
use Rattle.aw_work.specs.Triples.{Stored, triple_code, triples, room}

-- the triples that wait, in the order of their places, and how many more may wait before memory is taken
pub record Waits : Type 0 where
  pub waiting : List Triple
  pub spare : ℕ

-- they are stored as a pair
abbrev pub waits_code : Coded Waits
waits_code =
    code_by (List Triple × ℕ) (coded× (coded_list triple_code) coded_ℕ) (λ w. (w.waiting, w.spare))
    (λ p. record { waiting = p.0; spare = p.1 }) (λ _. refl)

-- the triples of the block, if there is one
abbrev pub waiting_in : Option Stored → List Triple
waiting_in None = []
waiting_in (Some s) = triples s

-- how many more fit into the block, if there is one
abbrev pub spare_in : Option Stored → ℕ
spare_in None = 0
spare_in (Some s) = room s

-- what is seen of an index with this block, or with none
abbrev pub waits_of : Option Stored → Waits
waits_of block = record { waiting = waiting_in block; spare = spare_in block }
