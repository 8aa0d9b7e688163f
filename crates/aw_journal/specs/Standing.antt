-- How the file of a journal stands: what lies behind the records that count, and what a node would do with it.
use Rattle.std.specs.Prelude.{ℕ, zero, suc, ◌+◌, List, [], ◌∷◌, length, drop, Bool, false, ◌&&◌, ◌||◌, is_some, None, Some, if◌then◌else◌, ◌==◌, nat_lt}
use Rattle.std.specs.declared.option.Option.{Option}
use Rattle.aw_journal.specs.Events.{Event}
use Rattle.aw_journal.specs.Format.{has_head, u64_in, whole}
use Rattle.aw_journal.specs.declared.standing.Standing.{Standing}
use Rattle.aw_journal.specs.declared.standing.Standing.TheVariants.{Empty, Headless, Sound, Cut, Damaged}

-- what stands from here on, where no record that counts does, and else what stands behind that
abbrev pub or_behind : List ℕ → Option (Event × ℕ) → (ℕ → List ℕ) → List ℕ
or_behind here None more = here
or_behind here (Some first) more = more first.1

-- from the first gate on that is not open or has no whole record behind it, where the first gate stands so many bytes further on
abbrev pub tail_from : ℕ → List ℕ → List ℕ
tail_from k [] = []
tail_from (suc k) (byte ∷ rest) = tail_from k rest
tail_from zero (gate ∷ rest) = if gate == 1 then or_behind (gate ∷ rest) (whole rest) (λ n. tail_from n rest) else gate ∷ rest

-- where the first gate behind an open head stands
abbrev pub first_gate : List ℕ → ℕ
first_gate file = 11 + u64_in (drop 3 file)

-- an open head stands whole, with a gate behind it
abbrev pub has_whole_head : List ℕ → Bool
has_whole_head file = has_head file && nat_lt (first_gate file) (length file)

-- what stands behind the records that count, from the last gate on; the whole file where no head stands
abbrev pub tail_of : List ℕ → List ℕ
tail_of file = if has_whole_head file then tail_from (first_gate file) file else file

-- an open gate with a whole record behind it stands first
abbrev pub begins_record : List ℕ → Bool
begins_record [] = false
begins_record (gate ∷ rest) = gate == 1 && is_some (whole rest)

-- and somewhere
abbrev pub has_record : List ℕ → Bool
has_record [] = false
has_record (byte ∷ rest) = begins_record (byte ∷ rest) || has_record rest

-- a tail without a record: a closed gate and nothing behind it, or what a crash leaves
abbrev pub by_tail : List ℕ → Standing
by_tail [] = Cut
by_tail (gate ∷ []) = if gate == 1 then Cut else Sound
by_tail (gate ∷ byte ∷ rest) = Cut

-- a file without a head and without a record
abbrev pub headless : List ℕ → Standing
headless [] = Empty
headless (byte ∷ rest) = Headless

-- how a file stands with this tail, behind a head that stands whole or with none
abbrev pub standing_by : List ℕ → Bool → Standing
standing_by tail headed = if has_record tail then Damaged else (if headed then by_tail tail else headless tail)

-- how the file of a journal stands
abbrev pub standing : List ℕ → Standing
standing file = standing_by (tail_of file) (has_whole_head file)
