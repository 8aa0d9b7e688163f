-- The tests of texts and of heads are exact.
use Rattle.std.proofs.Common.{◌≡◌, true, List, ℕ, [], ◌∷◌, Decides, refl, ap, eq-eqb}
use Rattle.std.specs.Prelude.{nat_eq, ◌&&◌}
use Rattle.std.specs.Cmp.Lexicographic.{pointwise, pointwise_decides}
use Rattle.std.proofs.lemmas.Bool.{eqb-true}
use Rattle.std.proofs.lemmas.Bool.Decides.{Decides-at, Decides-eqb}
use Rattle.aw_term.specs.Trees.{Head, Con, Num, Text, nats_eq, head_eq}

-- the bytes of two texts are the same
pub nats_Decides : (a b : List ℕ) → Decides (nats_eq a b) (a ≡ b)
nats_Decides a b = Decides-at _ _ (by_bytes a b) (pointwise_decides Decides-eqb a b)
  where
    by_bytes : (a b : List ℕ) → nats_eq a b ≡ pointwise nat_eq a b
    by_bytes [] [] = refl
    by_bytes [] (y ∷ ys) = refl
    by_bytes (x ∷ xs) [] = refl
    by_bytes (x ∷ xs) (y ∷ ys) = ap (λ r. nat_eq x y && r) (by_bytes xs ys)

pub head_eq-true : (a b : Head) → head_eq a b ≡ true → a ≡ b
head_eq-true (Con c) (Con d) e = ap Con (eqb-true c d e)
head_eq-true (Num m) (Num n) e = ap Num (eqb-true m n e)
head_eq-true (Text t) (Text u) e = ap Text ((nats_Decides t u).0 e)
head_eq-true (Con c) (Num n) e = absurd cc
head_eq-true (Con c) (Text u) e = absurd cc
head_eq-true (Num m) (Con d) e = absurd cc
head_eq-true (Num m) (Text u) e = absurd cc
head_eq-true (Text t) (Con d) e = absurd cc
head_eq-true (Text t) (Num n) e = absurd cc

pub head_eq-self : (a : Head) → head_eq a a ≡ true
head_eq-self (Con c) = eq-eqb c c refl
head_eq-self (Num n) = eq-eqb n n refl
head_eq-self (Text t) = (nats_Decides t t).1 refl
