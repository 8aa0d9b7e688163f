-- What one test of a rule changes.
use Rattle.std.specs.Prelude.{◌≡◌, ℕ, Bool, ◌+◌, true, List, [], map, length, None, Some, slice_get, count_by}
use Rattle.aw_term.specs.Names.{Ref}
use Rattle.aw_term.specs.Rules.{Grammar}
use Rattle.aw_store.specs.Equations.{Map}
use Rattle.aw_store.specs.NamedRefs.{body_at}
use Rattle.aw_node_list.specs.declared.held.Held.{Held}
use Rattle.aw_work.specs.declared.block.Triple.{Triple}
use Rattle.aw_standing.specs.declared.record.Stands.{Stands}
use Rattle.aw_standing.specs.declared.record.Stands.TheVariants.{Waits, TooDeep}
use Rattle.aw_standing.specs.declared.record.Mark.{Mark}
use Rattle.aw_standing.specs.declared.record.Record.{Record}
use Rattle.aw_standing.specs.Records.{IsOf, IsTold, stand_at, mark_rule, with_stands, has_live}
use Rattle.aw_standing.specs.Due.{due_of, due_marks}

-- where the rule waits for a slot, no equation says what that is
abbrev pub LacksBody : Map → List Ref → Stands → Type 0
LacksBody k names s = (slot : ℕ) → s ≡ Waits slot → body_at k names slot ≡ None

-- The mark m, at this place, stands so now; its rule waits beside what waited, where it stands so. All else stays.
pub record IsSet (n at : ℕ) (m : Mark) (stands : Stands) (old new : Record) (ts us : List Triple) : Type 0 where
  pub marks : new.marks.items ≡ stand_at stands at old.marks.items
  pub slots : new.slots ≡ old.slots
  pub sort : new.sort ≡ old.sort
  pub deep : new.deep ≡ old.deep
  pub waiting : (p : Triple → Bool) → count_by p us ≡ count_by p (due_of n m.rule stands) + count_by p ts

-- And this is how its rule stands.
pub record IsTested (g : Grammar) (k : Map) (names : List Ref) (n at : ℕ) (m : Mark) (old new : Record) (ts us : List Triple) : Type 0 where
  pub stands : Stands
  pub told : (h : Held) → IsOf g names h old → IsTold g k names h (with_stands m stands)
  pub lacks : LacksBody k names stands
  pub live : has_live (length names) stands ≡ true
  pub set : IsSet n at m stands old new ts us

-- a mark that was not tested yet
abbrev pub IsUntested : Mark → Type 0
IsUntested m = m.stands ≡ TooDeep

-- No mark of a record lets its rule wait.
abbrev pub IsFresh : Record → Type 0
IsFresh x = (n : ℕ) → due_marks n x.marks.items ≡ []

-- Each mark says how its rule stands now; those that wait are put beside what waited. All else stays.
pub record AreTested (g : Grammar) (k : Map) (names : List Ref) (n : ℕ) (old new : Record) (ts us : List Triple) : Type 0 where
  pub told : (h : Held) → IsOf g names h old → (j : ℕ) (m : Mark) → slice_get new.marks.items j ≡ Some m → IsTold g k names h m
  pub rules : map mark_rule new.marks.items ≡ map mark_rule old.marks.items
  pub slots : new.slots ≡ old.slots
  pub sort : new.sort ≡ old.sort
  pub deep : new.deep ≡ old.deep
  pub waiting : (p : Triple → Bool) → count_by p us ≡ count_by p (due_marks n new.marks.items) + count_by p ts
