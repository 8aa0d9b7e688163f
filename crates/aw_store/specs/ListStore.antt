-- What holds of a store that keeps its equations in a list.
use Rattle.std.specs.Prelude.{◌≡◌, ℕ, suc, true, List, [], ◌∷◌, is_none, if◌then◌else◌}
use Rattle.aw_term.specs.Names.{Ref}
use Rattle.aw_store.specs.Equations.{Map, find}
use Rattle.aw_store.specs.NamedRefs.{has_names, IsNamedOnce}
use Rattle.aw_store.specs.StoreView.{all_few}

-- The names, the equations, and the equations for which memory was taken.
pub record IsSound (names : List Ref) (equations ready : Map) : Type 0 where
  pub once : IsNamedOnce names
  pub named : has_names names equations ≡ true
  pub few : all_few equations ≡ true
  pub ready_named : has_names names ready ≡ true

-- how many of these have no equation yet
abbrev pub lacking : Map → Map → ℕ
lacking k [] = 0
lacking k (e ∷ es) = if is_none (find k e.left) then suc (lacking k es) else lacking k es
