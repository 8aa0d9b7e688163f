-- Lists whose elements are seen.
use Rattle.std.proofs.Common.{◌≡◌, ℕ, zero, suc, List, [], ◌∷◌, map, refl, sym}
use Rattle.aw_term.specs.Rules.{get}

-- the list at a place, and none past the last
pub get-seen : {A B : Type 0} (f : List A → List B) → f [] ≡ [] → (xs : List (List A)) (r : ℕ) → get [] (map f xs) r ≡ f (get [] xs r)
get-seen f e [] r = sym e
get-seen f e (x ∷ xs) zero = refl
get-seen f e (x ∷ xs) (suc r) = get-seen f e xs r
