-- A relation of the program: a mark for each pair of each sort.
use Rattle.std.specs.Prelude.{◌≡◌, ℕ, ◌+◌, ◌*◌, ◌-◌, ◌<◌, ◌≤◌, Bool, List, length}
use Rattle.aw_grammar.specs.declared.grammar.Grammar.{Grammar}
use Rattle.aw_iograph.specs.declared.io.Io.{Io}
use Rattle.aw_iograph.specs.Growth.{Marked}

-- the place of a pair's mark
-- (both values are numbered from 1)
abbrev pub mark_of : ℕ → ℕ → ℕ → ℕ
mark_of s i j = s * 64 + ((i - 1) * 8 + (j - 1))

-- a number from 1 to 8
pub record IsNumber (i : ℕ) : Type 0 where
  pub counted : 0 < i
  pub few : i ≤ 8

-- result j of sort s depends on its inherited value i, by these marks
pub record HasMark (marks : List Bool) (s i j : ℕ) : Type 0 where
  pub inherited : IsNumber i
  pub result : IsNumber j
  pub marked : Marked marks (mark_of s i j)

-- the pair is in the relation
abbrev pub Has : Io → ℕ → ℕ → ℕ → Type 0
Has io s i j = HasMark io.marks.items s i j

-- the relation was made for a grammar: it has 64 marks for each sort
abbrev pub IsFor : Grammar → Io → Type 0
IsFor g io = length io.marks.items ≡ length g.sorts * 64

-- the relation was made for a grammar that has the sort
abbrev pub HasSort : Io → ℕ → Type 0
HasSort io s = s * 64 + 64 ≤ length io.marks.items
