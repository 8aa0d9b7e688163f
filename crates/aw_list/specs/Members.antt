-- What stands in a list.
use Rattle.std.specs.Prelude.{◌≡◌, List, [], ◌∷◌, ◌⊎◌}

-- nothing is of this type
pub data Never : Type 0 where

-- x stands in the list
abbrev pub Member : {A : Type 0} → A → List A → Type 0
Member x [] = Never
Member x (y ∷ ys) = (x ≡ y) ⊎ Member x ys
