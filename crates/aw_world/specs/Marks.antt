-- Marks that stand for the first places of a list only: the places behind them are not marked.
use Rattle.std.specs.Prelude.{ℕ, zero, suc, Bool, true, false, List, [], ◌∷◌}

-- a mark for each of these, of which these are the first
abbrev pub marks : {A : Type 0} → List A → List Bool → List Bool
marks [] bs = []
marks (m ∷ ms) [] = false ∷ marks ms []
marks (m ∷ ms) (b ∷ bs) = b ∷ marks ms bs

-- how many are marked before the first that is not
abbrev pub leading : List Bool → ℕ
leading [] = 0
leading (true ∷ bs) = suc (leading bs)
leading (false ∷ bs) = 0

-- the mark at a place, and none past the last
abbrev pub is_marked : List Bool → ℕ → Bool
is_marked [] i = false
is_marked (b ∷ bs) zero = b
is_marked (b ∷ bs) (suc i) = is_marked bs i
