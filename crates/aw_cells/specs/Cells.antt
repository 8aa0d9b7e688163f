-- The equations that names and bodies by slots stand for, in the order in which the bodies were written.
use Rattle.std.specs.Prelude.{◌≡◌, ℕ, suc, ◌+◌, Bool, true, false, ◌&&◌, ◌||◌, List, [], ◌∷◌, length, Option, Some, None, slice_get, option_and_then, nat_eq, if◌then◌else◌}
use Rattle.aw_term.specs.Names.{Ref}
use Rattle.aw_store.specs.Equations.{Body, Map}
use Rattle.aw_store.specs.NamedRefs.{has_names, IsNamedOnce}
use Rattle.aw_store.specs.StoreView.{all_few}
use Rattle.aw_cells.specs.declared.stored.Stored.{Stored}
use Rattle.aw_cells.specs.StoredBodies.{body_from, fits, is_written}

-- the body at a slot, where one was written
abbrev pub body_in : List Ref → List Stored → ℕ → Option Body
body_in ns cs s = option_and_then (body_from ns) (slice_get cs s)

-- one equation more, where there are a reference and a body for it
abbrev pub equation_with : Option Ref → Option Body → Map → Map
equation_with (Some r) (Some b) k = record { left = r; body = b } ∷ k
equation_with _ _ k = k

-- the equations of these slots
abbrev pub map_in : List Ref → List Stored → List ℕ → Map
map_in ns cs [] = []
map_in ns cs (s ∷ ss) = equation_with (slice_get ns s) (body_in ns cs s) (map_in ns cs ss)

-- each slot in these bodies is one of so many, and each has few
abbrev pub all_fit : ℕ → List Stored → Bool
all_fit n [] = true
all_fit n (c ∷ cs) = fits n c && all_fit n cs

-- whether a body was written at this slot
abbrev pub is_full : Option Stored → Bool
is_full None = false
is_full (Some c) = is_written c

-- whether a slot is one of these
abbrev pub stands : ℕ → List ℕ → Bool
stands s [] = false
stands s (x ∷ xs) = nat_eq s x || stands s xs

-- how many have no body yet
abbrev pub empty_ones : List Stored → ℕ
empty_ones [] = 0
empty_ones (c ∷ cs) = if is_written c then empty_ones cs else suc (empty_ones cs)

-- What holds of the names, of the bodies, and of the slots in the order in which their bodies were written.
pub record IsSound (ns : List Ref) (cs : List Stored) (order : List ℕ) : Type 0 where
  pub once : IsNamedOnce ns
  pub as_many : length cs ≡ length ns
  pub fitting : all_fit (length ns) cs ≡ true
  pub ordered : (s : ℕ) → stands s order ≡ is_full (slice_get cs s)
  pub counted : length order + empty_ones cs ≡ length cs
  pub named : has_names ns (map_in ns cs order) ≡ true
  pub few : all_few (map_in ns cs order) ≡ true
