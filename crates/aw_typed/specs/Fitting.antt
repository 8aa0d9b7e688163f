-- Fit: which trees are of a type.
use Rattle.std.specs.Prelude.{ℕ, suc, Bool, true, false, ◌&&◌, List, [], ◌∷◌, ◌++◌, Option, Some, None, nat_eq, if◌then◌else◌}
use Rattle.aw_term.specs.Trees.{Tree, Leaf, Made, Trees, Nil, More}
use Rattle.aw_term.specs.Rules.{Term}
use Rattle.aw_typed.specs.Types.{Shape, Types, head_shape}

-- it is this type
abbrev pub is_type : ℕ → Option ℕ → Bool
is_type t None = false
is_type t (Some u) = nat_eq u t

-- a shape is of this type
abbrev pub has_own : ℕ → Option Shape → Bool
has_own t None = false
has_own t (Some x) = nat_eq x.own t

-- the types of the parts of a shape, or none
abbrev pub part_types : Option Shape → List ℕ
part_types None = []
part_types (Some x) = x.parts

-- A tree fits a type: a constructor its own type where its parts fit theirs, a number and a text theirs, and a leaf where `leaf` says so.
abbrev mutual
  pub fits : {A : Type 0} → Types → (ℕ → A → Bool) → ℕ → Tree A → Bool
  fits T leaf t (Leaf x) = leaf t x
  fits T leaf t (Made h ts) = has_own t (head_shape T h) && parts_fit T leaf (part_types (head_shape T h)) ts

  -- the parts fit these types, one each
  pub parts_fit : {A : Type 0} → Types → (ℕ → A → Bool) → List ℕ → Trees A → Bool
  parts_fit T leaf [] Nil = true
  parts_fit T leaf [] (More x xs) = false
  parts_fit T leaf (t ∷ ts) Nil = false
  parts_fit T leaf (t ∷ ts) (More x xs) = fits T leaf t x && parts_fit T leaf ts xs

-- a list of trees fits these types, one each
abbrev pub all_fit : {A : Type 0} → Types → (ℕ → A → Bool) → List ℕ → List (Tree A) → Bool
all_fit T leaf [] [] = true
all_fit T leaf [] (x ∷ xs) = false
all_fit T leaf (t ∷ ts) [] = false
all_fit T leaf (t ∷ ts) (x ∷ xs) = fits T leaf t x && all_fit T leaf ts xs

-- the first that does not fit its type, counted on from i
abbrev pub first_misfit : {A : Type 0} → Types → (ℕ → A → Bool) → ℕ → List ℕ → List (Tree A) → Option ℕ
first_misfit T leaf i [] [] = None
first_misfit T leaf i [] (x ∷ xs) = Some i
first_misfit T leaf i (t ∷ ts) [] = Some i
first_misfit T leaf i (t ∷ ts) (x ∷ xs) = if fits T leaf t x then first_misfit T leaf (suc i) ts xs else Some i

-- The types of a pattern's variables, from left to right, where the pattern stands at a place of this type: each has the type of its own place.
abbrev mutual
  pub pattern_types : Types → ℕ → Term → List (Option ℕ)
  pattern_types T t (Leaf v) = Some t ∷ []
  pattern_types T t (Made h ps) = parts_types T (part_types (head_shape T h)) ps

  pub parts_types : Types → List ℕ → Trees ℕ → List (Option ℕ)
  parts_types T [] ps = []
  parts_types T (t ∷ ts) Nil = []
  parts_types T (t ∷ ts) (More p ps) = pattern_types T t p ++ parts_types T ts ps

-- the types of the variables of patterns at places of these types
abbrev pub all_pattern_types : Types → List ℕ → List Term → List (Option ℕ)
all_pattern_types T [] ps = []
all_pattern_types T (t ∷ ts) [] = []
all_pattern_types T (t ∷ ts) (p ∷ ps) = pattern_types T t p ++ all_pattern_types T ts ps

-- the first where it is there, and else the second
abbrev pub or_else : {A : Type 0} → Option A → Option A → Option A
or_else None o = o
or_else (Some x) o = Some x

-- the type of the first place, depth first, at which a variable stands in a term that stands at a place of this type
abbrev mutual
  pub place_type : Types → ℕ → ℕ → Term → Option ℕ
  place_type T v t (Leaf x) = if nat_eq x v then Some t else None
  place_type T v t (Made h ts) = part_place T v (part_types (head_shape T h)) ts

  pub part_place : Types → ℕ → List ℕ → Trees ℕ → Option ℕ
  part_place T v [] xs = None
  part_place T v (t ∷ ts) Nil = None
  part_place T v (t ∷ ts) (More x xs) = or_else (place_type T v t x) (part_place T v ts xs)

-- the type of the first place of a variable in terms at places of these types
abbrev pub first_place : Types → ℕ → List ℕ → List Term → Option ℕ
first_place T v [] xs = None
first_place T v (t ∷ ts) [] = None
first_place T v (t ∷ ts) (x ∷ xs) = or_else (place_type T v t x) (first_place T v ts xs)
