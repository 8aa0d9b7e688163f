-- Bodies by slots, and what they stand for.
use Rattle.std.specs.Prelude.{ℕ, Bool, true, false, ◌&&◌, List, [], ◌∷◌, length, Option, Some, None, option_map, slice_get, nat_lt, nat_le, nat_eq}
use Rattle.std.specs.Cmp.Lexicographic.{pointwise}
use Rattle.aw_term.specs.Trees as T
use Rattle.aw_term.specs.Names.{Ref}
use Rattle.aw_term.specs.Limits.{most_parts}
use Rattle.aw_store.specs.Equations as P
use Rattle.aw_store.specs.Refs.{ref_eq}
use Rattle.aw_store.specs.declared.equation.Body.{Body}
use Rattle.aw_store.specs.declared.equation.Body.TheVariants as body
use Rattle.aw_store.specs.declared.facts.Kind.{Kind}
use Rattle.aw_store.specs.declared.facts.Kind.TheVariants as kind
use Rattle.aw_cells.specs.declared.stored.Stored.{Stored}
use Rattle.aw_cells.specs.declared.stored.Stored.TheVariants.{Missing, Same, Con, Num, Text}

-- one reference more, where there is one
abbrev pub with_ref : Option Ref → List Ref → List Ref
with_ref None rs = rs
with_ref (Some r) rs = r ∷ rs

-- the references of these slots
abbrev pub refs_of : List Ref → List ℕ → List Ref
refs_of ns [] = []
refs_of ns (s ∷ ss) = with_ref (slice_get ns s) (refs_of ns ss)

-- the body, with each slot in it read as the reference that it names; none where none was written
abbrev pub body_from : List Ref → Stored → Option P.Body
body_from ns Missing = None
body_from ns (Same s) = option_map P.Same (slice_get ns s)
body_from ns (Con c parts) = Some (P.Is (T.Con c) (refs_of ns parts.items))
body_from ns (Num n) = Some (P.Is (T.Num n) [])
body_from ns (Text t) = Some (P.Is (T.Text t) [])

-- each of these slots is one of so many
abbrev pub all_below : ℕ → List ℕ → Bool
all_below n [] = true
all_below n (s ∷ ss) = nat_lt s n && all_below n ss

-- each slot in a body is one of so many, and there are few
abbrev pub fits : ℕ → Stored → Bool
fits n Missing = true
fits n (Same s) = nat_lt s n
fits n (Con c parts) = all_below n parts.items && nat_le (length parts.items) most_parts
fits n (Num m) = true
fits n (Text t) = true

-- whether a body was written
abbrev pub is_written : Stored → Bool
is_written Missing = false
is_written (Same s) = true
is_written (Con c parts) = true
is_written (Num n) = true
is_written (Text t) = true

-- the slots of the parts of a constructor
abbrev pub slots_of : Stored → List ℕ
slots_of (Con c parts) = parts.items
slots_of _ = []

-- the text, where the body is one
abbrev pub text_from : Stored → Option (List ℕ)
text_from (Text t) = Some t
text_from _ = None

-- the kind of a body
abbrev pub kind_from : Stored → Kind
kind_from Missing = kind.Missing
kind_from (Same s) = kind.Same s
kind_from (Con c parts) = kind.Con c (length parts.items)
kind_from (Num n) = kind.Num n
kind_from (Text t) = kind.Text

-- whether this reference is there
abbrev pub is_at : Option Ref → Ref → Bool
is_at None r = false
is_at (Some n) r = ref_eq n r

-- whether these slots have these references
abbrev pub are_at : List Ref → List ℕ → List Ref → Bool
are_at ns [] [] = true
are_at ns (s ∷ ss) (r ∷ rs) = is_at (slice_get ns s) r && are_at ns ss rs
are_at ns _ _ = false

-- whether a body by slots is this one
abbrev pub is_body : List Ref → Stored → Body → Bool
is_body ns (Same s) (body.Same r) = is_at (slice_get ns s) r
is_body ns (Con c parts) (body.Con d rs) = nat_eq c d && are_at ns parts.items rs
is_body ns (Num n) (body.Num m) = nat_eq n m
is_body ns (Text t) (body.Text u) = pointwise nat_eq t u
is_body ns _ _ = false
