-- What lines of types declare: types by name, the shapes of constructors, the carries of sorts, and which results may depend on which inherited values.
use Rattle.std.specs.Prelude.{ℕ, Bool, true, false, ◌&&◌, not, List, [], ◌∷◌, ◌++◌, length, set, codes, nat_eq, nat_le, Option, None, Some, slice_get, option_and_then}
use Rattle.std.specs.List.{list_any}
use Rattle.aw_name_index.specs.Places.{place_of}
use Rattle.aw_grammar.specs.declared.rule.Con.{Con}
use Rattle.aw_grammar.specs.declared.rule.Sort.{Sort}
use Rattle.aw_base.specs.declared.declared.Triple.{Triple}
use Rattle.aw_term_reader.specs.Forms.{◌>>=◌}
use Rattle.aw_typed.specs.declared.data.Shape.{Shape}
use Rattle.aw_typed.specs.declared.data.Carry.{Carry}
use Rattle.aw_typed.specs.declared.data.Types.{Types}

-- nothing is typed
abbrev pub no_types : Types
no_types = record { typed = false; names = []; shapes = []; carries = [] }

-- the names of all types: those that stand from the start, and the declared ones
abbrev pub type_names : Types → List (List ℕ)
type_names t = codes "num" ∷ codes "text" ∷ t.names

-- the numbers of types by their names, where each name is that of a type
abbrev pub types_named : List (List ℕ) → List (List ℕ) → Option (List ℕ)
types_named all [] = Some []
types_named all (n ∷ ns) = do
  i ← place_of n all
  is ← types_named all ns
  Some (i ∷ is)

-- a shape of these types, where each is one
abbrev pub shape_named : List (List ℕ) → List (List ℕ) → List ℕ → Option Shape
shape_named all parts own = do
  ps ← types_named all parts
  o ← place_of own all
  Some (record { parts = ps; own = o })

-- a carry of these types, where each is one
abbrev pub carry_named : List (List ℕ) → List (List ℕ) → List (List ℕ) → Option Carry
carry_named all takes gives = do
  ts ← types_named all takes
  gs ← types_named all gives
  Some (record { takes = ts; gives = gs })

-- what is declared of the item at a place
abbrev pub declared_at : {A : Type 0} → List (Option A) → Option ℕ → Option A
declared_at xs at = option_and_then (λ i. option_and_then (λ x. x) (slice_get xs i)) at

-- what is declared of each item, with this of the one at a place
abbrev pub with_at : {A : Type 0} → List (Option A) → Option ℕ → Option A → List (Option A)
with_at xs None x = xs
with_at xs (Some i) x = set xs i x

-- what stands at a place
abbrev pub item_at : {A : Type 0} → List A → Option ℕ → Option A
item_at xs at = option_and_then (λ i. slice_get xs i) at

-- a shape has another number of parts than its constructor
abbrev pub is_other_arity : Option Con → Option Shape → Bool
is_other_arity None x = false
is_other_arity (Some c) None = false
is_other_arity (Some c) (Some x) = not (nat_eq (length x.parts) c.arity)

-- a carry has another number of inherited values or results than its sort
abbrev pub are_other_counts : Option Sort → Option Carry → Bool
are_other_counts None k = false
are_other_counts (Some s) None = false
are_other_counts (Some s) (Some k) = not (nat_eq (length k.takes) s.takes && nat_eq (length k.gives) s.gives)

-- a position of some, counted from 1
abbrev pub is_position : ℕ → ℕ → Bool
is_position count i = nat_le 1 i && nat_le i count

-- a sort has no inherited value or no result of these numbers
abbrev pub are_no_positions : Option Sort → ℕ → ℕ → Bool
are_no_positions None i j = true
are_no_positions (Some s) i j = not (is_position s.takes i && is_position s.gives j)

-- it is declared of the sort at a place that result j may depend on inherited value i
abbrev pub is_dependence : List Triple → Option ℕ → ℕ → ℕ → Bool
is_dependence ts None i j = false
is_dependence ts (Some s) i j = list_any (λ (t : Triple). nat_eq t.sort s && (nat_eq t.i i && nat_eq t.j j)) ts

-- the same is declared of one more
abbrev pub with_dependence : List Triple → Option ℕ → ℕ → ℕ → List Triple
with_dependence ts None i j = ts
with_dependence ts (Some s) i j = ts ++ record { sort = s; i = i; j = j } ∷ []
