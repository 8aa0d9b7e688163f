-- The triples that have to wait: one for each mark that waits for a slot.
use Rattle.std.specs.Prelude.{◌≡◌, ℕ, Bool, List, [], ◌∷◌, ◌++◌, count_by, Option, Some, None, slice_get}
use Rattle.aw_work.specs.declared.block.Triple.{Triple}
use Rattle.aw_work.specs.Triples.{triple}
use Rattle.aw_standing.specs.declared.record.Stands.{Stands}
use Rattle.aw_standing.specs.declared.record.Stands.TheVariants as stands
use Rattle.aw_standing.specs.declared.record.Mark.{Mark}
use Rattle.aw_standing.specs.declared.record.Record.{Record}

-- that of a rule at the node with this number, where it waits
abbrev pub due_of : ℕ → ℕ → Stands → List Triple
due_of n rule (stands.Waits slot) = triple slot n rule ∷ []
due_of n rule _ = []

-- those of the marks of a node
abbrev pub due_marks : ℕ → List Mark → List Triple
due_marks n [] = []
due_marks n (m ∷ ms) = due_of n m.rule m.stands ++ due_marks n ms

-- those of the record of a node, where there is one
abbrev pub due_record : ℕ → Option Record → List Triple
due_record n None = []
due_record n (Some x) = due_marks n x.marks.items

-- those of the nodes with these numbers
abbrev pub due : List Record → List ℕ → List Triple
due xs [] = []
due xs (n ∷ ns) = due_record n (slice_get xs n) ++ due xs ns

-- each test holds of as many of these as of those: they are the same triples in some order
abbrev pub AreSame : List Triple → List Triple → Type 0
AreSame ts us = (p : Triple → Bool) → count_by p ts ≡ count_by p us

-- the mark of a rule that waits for this slot
abbrev pub waiting_mark : ℕ → ℕ → Mark
waiting_mark rule slot = record { rule = rule; stands = stands.Waits slot }
