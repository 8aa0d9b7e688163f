-- The four words of a kept node.
use Rattle.std.proofs.Common.{◌≡◌, ◌∙◌, ℕ, ◌≤◌, ◌<◌, List, [], ◌∷◌, length, get_or, arith}
use Rattle.aw_run.specs.Words.{command_of, kept_named}

pub four-words : (words : List (List ℕ)) (w s l a b d : List ℕ) → 4 ≤ length words → length words < 5 → w ≡ get_or words 0 w → s ≡ get_or words 2 s →
    l ≡ get_or words 3 l → a ≡ w → b ≡ s → d ≡ l → kept_named a b d ≡ command_of words
four-words [] w s l a b d n m first third fourth p q r = absurd (omega (arith, n))
four-words (e ∷ []) w s l a b d n m first third fourth p q r = absurd (omega (arith, n))
four-words (e ∷ f ∷ []) w s l a b d n m first third fourth p q r = absurd (omega (arith, n))
four-words (e ∷ f ∷ g ∷ []) w s l a b d n m first third fourth p q r = absurd (omega (arith, n))
four-words (e ∷ f ∷ g ∷ h ∷ []) w s l a b d n m first third fourth p q r = λ i. kept_named ((p ∙ first) i) ((q ∙ third) i) ((r ∙ fourth) i)
four-words (e ∷ f ∷ g ∷ h ∷ k ∷ more) w s l a b d n m first third fourth p q r = absurd (omega (arith, m))
