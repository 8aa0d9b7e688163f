-- Frames that are answered one by one.
use Rattle.std.specs.Prelude.{◌≡◌, ℕ, ◌<◌, List, [], ◌∷◌, ◌++◌, length, take}
use Rattle.aw_msg.specs.Frames.{Frame}

-- the texts one behind the other
abbrev pub joined : List (List ℕ) → List ℕ
joined [] = []
joined (x ∷ xs) = x ++ joined xs

-- From the one workspace these frames got these replies, in turn, and then it is the other. `answers` tells what one reply does.
abbrev pub AreAnswered : {S : Type 0} → (S → Frame → List ℕ → S → Type 0) → S → List Frame → List (List ℕ) → S → Type 0
AreAnswered {S} answers s [] [] t = t ≡ s
AreAnswered {S} answers s [] (x ∷ xs) t = ⊥
AreAnswered {S} answers s (f ∷ fs) [] t = ⊥
AreAnswered {S} answers s (f ∷ fs) (x ∷ xs) t = (m : S) × answers s f x m × AreAnswered answers m fs xs t

-- all but the last one were written whole, and of the last one a prefix, but not all
pub record IsCutShort (replies : List (List ℕ)) (written : List ℕ) : Type 0 where
  pub whole : List (List ℕ)
  pub last : List ℕ
  pub count : ℕ
  pub are : replies ≡ whole ++ last ∷ []
  pub part : count < length last
  pub written_is : written ≡ joined whole ++ take count last
