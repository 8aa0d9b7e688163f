-- The references that a store has named, each by its place in one list: its slot.
use Rattle.std.specs.Prelude.{◌≡◌, ℕ, Bool, true, false, ◌&&◌, ◌||◌, if◌then◌else◌, List, [], ◌∷◌, ◌++◌, map, Option, Some, None, slice_get, option_and_then, ◌⊎◌}
use Rattle.aw_term.specs.Trees.{Con, Text}
use Rattle.aw_term.specs.Names.{Ref}
use Rattle.aw_store.specs.Refs.{ref_eq}
use Rattle.aw_store.specs.Equations.{Body, Is, Equation, Map, find, mentions}

-- the reference is among the names
abbrev pub is_named : List Ref → Ref → Bool
is_named [] r = false
is_named (n ∷ names) r = ref_eq r n || is_named names r

-- each of these references is among the names
abbrev pub all_named : List Ref → List Ref → Bool
all_named names [] = true
all_named names (r ∷ rs) = is_named names r && all_named names rs

-- the left side is named, and each reference in the body
abbrev pub has_names_of : List Ref → Equation → Bool
has_names_of names e = is_named names e.left && all_named names (mentions e.body)

-- in each of these equations the left side is named, and each reference in the body
abbrev pub has_names : List Ref → Map → Bool
has_names names [] = true
has_names names (e ∷ es) = has_names_of names e && has_names names es

-- no reference is named twice
abbrev pub IsNamedOnce : List Ref → Type 0
IsNamedOnce names = (i j : ℕ) (r : Ref) → slice_get names i ≡ Some r → slice_get names j ≡ Some r → i ≡ j

-- more names may have come; a slot keeps its name
abbrev pub Grows : List Ref → List Ref → Type 0
Grows old new = (more : List Ref) × (new ≡ old ++ more)

-- the references of an equation: its left side, and those that stand in its body
abbrev pub refs_in : Equation → List Ref
refs_in e = e.left ∷ mentions e.body

-- the references of all these equations
abbrev pub all_refs_in : Map → List Ref
all_refs_in [] = []
all_refs_in (e ∷ es) = refs_in e ++ all_refs_in es

-- each reference that is named now was named before, or is one of these
abbrev pub NamesOnly : List Ref → List Ref → List Ref → Type 0
NamesOnly old new rs = (r : Ref) → is_named new r ≡ true → (is_named old r ≡ true) ⊎ (is_named rs r ≡ true)

-- the names with this one among them, at the end where it was not
abbrev pub with_name : List Ref → Ref → List Ref
with_name names r = if is_named names r then names else names ++ r ∷ []

-- what these slots name
abbrev pub names_at : List Ref → List ℕ → List (Option Ref)
names_at names slots = map (slice_get names) slots

-- these slots name these references
abbrev pub AreNamed : List Ref → List ℕ → List Ref → Type 0
AreNamed names slots rs = names_at names slots ≡ map Some rs

-- the body of the reference at a slot, where it has an equation
abbrev pub body_at : Map → List Ref → ℕ → Option Body
body_at k names slot = option_and_then (find k) (slice_get names slot)

-- the parts of a constructor at a slot
abbrev pub con_parts : Option Body → List Ref
con_parts (Some (Is (Con c) parts)) = parts
con_parts _ = []

-- the parts of the constructor at a slot; none where no constructor is there
abbrev pub parts_at : Map → List Ref → ℕ → List Ref
parts_at k names slot = con_parts (body_at k names slot)

-- the text at a slot, where one is there
abbrev pub as_text : Option Body → Option (List ℕ)
as_text (Some (Is (Text t) parts)) = Some t
as_text _ = None

-- the text at a slot, where its reference stands for one
abbrev pub text_at : Map → List Ref → ℕ → Option (List ℕ)
text_at k names slot = as_text (body_at k names slot)
