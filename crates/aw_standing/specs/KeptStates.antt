-- What is kept for a list of held nodes: how each rule of its sort stands at each open node, and which of them wait.
use Rattle.std.specs.Prelude.{◌≡◌, ℕ, ◌+◌, ◌<◌, ◌≤◌, false, List, [], insert, length, vec_len, vec_capacity, None, Some, slice_get}
use Rattle.aw_term.specs.Names.{Ref}
use Rattle.aw_term.specs.Rules.{Grammar}
use Rattle.aw_store.specs.Equations.{Map, find}
use Rattle.aw_store.specs.NamedRefs.{is_named}
use Rattle.aw_node_list.specs.declared.held.Held.{Held}
use Rattle.aw_choice.specs.declared.choice.Choice.{Choice}
use Rattle.aw_node_list.specs.InOrder.{done_at}
use Rattle.aw_node_list.specs.Picked.{AreApart}
use Rattle.aw_node_list.specs.Row.{Row}
use Rattle.aw_work.specs.declared.block.Triple.{Triple}
use Rattle.aw_standing.specs.declared.record.Mark.{Mark}
use Rattle.aw_standing.specs.declared.record.Record.{Record}
use Rattle.aw_standing.specs.declared.kept.Kept.{Kept}
use Rattle.aw_standing.specs.Records.{IsFit, IsOf, AreTold, AreLive, WaitsAtEnd}
use Rattle.aw_standing.specs.Due.{due, AreSame}

-- Numbers that are apart, as many as there are records, a fit record under each, and as what waits what the records say.
pub record AreFit (g : Grammar) (names : List Ref) (ns : List ℕ) (xs : List Record) (ts : List Triple) : Type 0 where
  pub counted : length xs ≡ length ns
  pub apart : AreApart ns
  pub known : (i n : ℕ) → slice_get ns i ≡ Some n → n < length xs
  pub fit : (i n : ℕ) (x : Record) → slice_get ns i ≡ Some n → slice_get xs n ≡ Some x → IsFit g names x
  pub waiting : AreSame ts (due xs ns)

-- The numbers stand beside the held nodes. Each record is of its node and says how the rules stand there, but where they wait for one
-- of the late references. Those wait for what the late ones lead to, where that has no equation.
pub record AreKept (g : Grammar) (hs : List Held) (k : Map) (names late : List Ref) (ns : List ℕ) (xs : List Record) (ts : List Triple) : Type 0 where
  pub fits : AreFit g names ns xs ts
  pub beside : length ns ≡ length hs
  pub of_node : (i n : ℕ) (h : Held) (x : Record) → slice_get ns i ≡ Some n → slice_get hs i ≡ Some h → slice_get xs n ≡ Some x → IsOf g names h x
  pub told : (i n : ℕ) (h : Held) (x : Record) → slice_get ns i ≡ Some n → slice_get hs i ≡ Some h → slice_get xs n ≡ Some x →
      AreTold g k names late h x.marks.items
  pub ends : (i n j : ℕ) (h : Held) (x : Record) (m : Mark) → slice_get ns i ≡ Some n → slice_get hs i ≡ Some h → slice_get xs n ≡ Some x →
      slice_get x.marks.items j ≡ Some m → WaitsAtEnd g k names h m

-- what is kept is fit, for nodes with some numbers
abbrev pub IsFitKept : Grammar → List Ref → Kept → Type 0
IsFitKept g names kept = (ns : List ℕ) × AreFit g names ns kept.records.items kept.work.waiting

-- what is kept is so for these nodes by their numbers, where some references just got an equation and what waits for them was not looked
-- at yet
abbrev pub IsKeptBut : Grammar → Row → Map → List Ref → List Ref → Kept → Type 0
IsKeptBut g row k names late kept = AreKept g row.items k names late row.numbers kept.records.items kept.work.waiting

-- each rule stands at each open node as is kept
abbrev pub IsKept : Grammar → Row → Map → List Ref → Kept → Type 0
IsKept g row k names kept = IsKeptBut g row k names [] kept

-- the same where a node was put among these at a place, and has the next number
abbrev pub IsKeptWith : Grammar → Row → ℕ → Held → Map → List Ref → List Ref → Kept → Type 0
IsKeptWith g row at h k names late kept =
    AreKept g (insert row.items at h) k names late (insert row.numbers at (length row.numbers)) kept.records.items kept.work.waiting

-- the same where this choice developed the node at a place
abbrev pub IsKeptDone : Grammar → Row → ℕ → Choice → Map → List Ref → List Ref → Kept → Type 0
IsKeptDone g row at c k names late kept = AreKept g (done_at c at row.items) k names late row.numbers kept.records.items kept.work.waiting

-- what is kept over the one map, but for the late references, is kept over the other, but for the later ones
abbrev pub StaysKept : Grammar → Row → Map → Map → List Ref → List Ref → List Ref → Kept → Type 0
StaysKept g row k l names late later kept = IsKeptBut g row k names late kept → IsKeptBut g row l names later kept

-- there is room for so many more nodes, and for so many more rules to wait
pub record HasRoom (kept : Kept) (nodes waits : ℕ) : Type 0 where
  pub entries : vec_len kept.records + nodes ≤ vec_capacity kept.records
  pub spare : waits ≤ kept.work.spare

-- each reference that got an equation from the one map to the other is among the later ones, as is each that was late before
abbrev pub AreLate : Map → Map → List Ref → List Ref → Type 0
AreLate k l late later = (r : Ref) → is_named later r ≡ false → (is_named late r ≡ false) × (find k r ≡ None → find l r ≡ None)

-- each slot in the marks of the node with this number has a name
abbrev pub AreLiveAt : List Ref → ℕ → Kept → Type 0
AreLiveAt names number kept = (x : Record) → slice_get kept.records.items number ≡ Some x → AreLive names x.marks.items

-- this node, among these, has this number
pub record IsNumbered (row : Row) (number : ℕ) (h : Held) : Type 0 where
  pub place : ℕ
  pub numbered : slice_get row.numbers place ≡ Some number
  pub there : slice_get row.items place ≡ Some h
