-- Marks of the first places of a list.
use Rattle.std.proofs.Common.{◌≡◌, ℕ, zero, suc, ◌+◌, ◌<◌, ◌≤◌, arith, Bool, true, false, List, [], ◌∷◌, ◌++◌, length, drop, map, get_or, ap, ◌∙◌, refl, Some, None}
use Rattle.std.specs.Prelude.{slice_set}
use Rattle.aw_law_sites.specs.Worlds.{count_open, count_set, first_false}
use Rattle.aw_law_worlds.proofs.Counting.{count_within}
use Rattle.aw_world.specs.Marks.{marks, leading, is_marked}

pub marked_at : (bs : List Bool) (i : ℕ) (b : Bool) → i < length bs → b ≡ get_or bs i b → b ≡ is_marked bs i
marked_at [] i b l e = absurd (omega arith)
marked_at (x ∷ bs) zero b l e = e
marked_at (x ∷ bs) (suc i) b l e = marked_at bs i b (omega arith) e

pub marked_past : (bs : List Bool) (i : ℕ) → length bs ≤ i → false ≡ is_marked bs i
marked_past [] i l = refl
marked_past (x ∷ bs) zero l = absurd (omega arith)
marked_past (x ∷ bs) (suc i) l = marked_past bs i (omega arith)

pub leading_on : (bs : List Bool) (i : ℕ) → is_marked bs i ≡ true → leading (drop i bs) ≡ suc (leading (drop (suc i) bs))
leading_on [] i e = absurd cc
leading_on (true ∷ bs) zero e = refl
leading_on (false ∷ bs) zero e = absurd cc
leading_on (b ∷ bs) (suc i) e = leading_on bs i e

pub leading_stop : (bs : List Bool) (i : ℕ) → is_marked bs i ≡ false → leading (drop i bs) ≡ 0
leading_stop [] zero e = refl
leading_stop [] (suc i) e = refl
leading_stop (true ∷ bs) zero e = absurd cc
leading_stop (false ∷ bs) zero e = refl
leading_stop (b ∷ bs) (suc i) e = leading_stop bs i e

leading_drop : (bs : List Bool) → leading (drop (leading bs) bs) ≡ 0
leading_drop [] = refl
leading_drop (true ∷ bs) = leading_drop bs
leading_drop (false ∷ bs) = refl

pub leading_set : (bs : List Bool) (k : ℕ) → leading bs + leading (drop (leading bs) (slice_set bs k true)) ≡ leading (slice_set bs k true)
leading_set [] k = refl
leading_set (true ∷ bs) zero = omega (arith, leading_drop bs)
leading_set (true ∷ bs) (suc k) = omega (arith, leading_set bs k)
leading_set (false ∷ bs) zero = omega arith
leading_set (false ∷ bs) (suc k) = refl

-- what was marked already stays so, and else one more is marked
pub count_more : (bs : List Bool) (k : ℕ) → k < length bs → is_marked bs k ≡ false → count_set (slice_set bs k true) ≡ suc (count_set bs)
count_more [] k l e = absurd (omega arith)
count_more (true ∷ bs) zero l e = absurd cc
count_more (false ∷ bs) zero l e = refl
count_more (true ∷ bs) (suc k) l e = ap suc (count_more bs k (omega arith) e)
count_more (false ∷ bs) (suc k) l e = count_more bs k (omega arith) e

pub count_again : (bs : List Bool) (k : ℕ) → is_marked bs k ≡ true → count_set (slice_set bs k true) ≡ count_set bs
count_again [] k e = absurd cc
count_again (true ∷ bs) zero e = refl
count_again (false ∷ bs) zero e = absurd cc
count_again (true ∷ bs) (suc k) e = ap suc (count_again bs k e)
count_again (false ∷ bs) (suc k) e = count_again bs k e

pub count_below : (bs : List Bool) (k : ℕ) → k < length bs → is_marked bs k ≡ false → count_set bs < length bs
count_below [] k l e = absurd (omega arith)
count_below (true ∷ bs) zero l e = absurd cc
count_below (false ∷ bs) zero l e = let h = count_within bs in omega (arith, h)
  where
    count_within : (bs : List Bool) → count_set bs ≤ length bs
    count_within [] = omega arith
    count_within (true ∷ bs) = let h = count_within bs in omega (arith, h)
    count_within (false ∷ bs) = let h = count_within bs in omega (arith, h)
count_below (true ∷ bs) (suc k) l e = let h = count_below bs k (omega arith) e in omega (arith, h)
count_below (false ∷ bs) (suc k) l e = let h = count_below bs k (omega arith) e in omega (arith, h)

-- one place more that is not marked
pub marks_padded : {A : Type 0} (ms : List A) (bs : List Bool) → marks ms (bs ++ false ∷ []) ≡ marks ms bs
marks_padded [] bs = refl
marks_padded (m ∷ ms) [] = refl
marks_padded (m ∷ ms) (b ∷ bs) = ap (λ z. b ∷ z) (marks_padded ms bs)

pub leading_padded : (bs : List Bool) → leading (bs ++ false ∷ []) ≡ leading bs
leading_padded [] = refl
leading_padded (true ∷ bs) = ap suc (leading_padded bs)
leading_padded (false ∷ bs) = refl

pub count_padded : (bs : List Bool) → count_set (bs ++ false ∷ []) ≡ count_set bs
count_padded [] = refl
count_padded (true ∷ bs) = ap suc (count_padded bs)
count_padded (false ∷ bs) = count_padded bs

marks_none : {A B : Type 0} (xs : List A) (ys : List B) → length xs ≡ length ys → marks xs [] ≡ map (λ y. false) ys
marks_none [] [] e = refl
marks_none [] (y ∷ ys) e = absurd (omega (arith, e))
marks_none (x ∷ xs) [] e = absurd (omega (arith, e))
marks_none (x ∷ xs) (y ∷ ys) e = ap (λ z. false ∷ z) (marks_none xs ys (omega (arith, e)))

-- messages that come are not marked
pub marks_more : {A B : Type 0} (ms ns : List A) (bs : List Bool) (ys : List B) → length bs ≤ length ms → length ns ≡ length ms + length ys → marks ns bs ≡ marks ms bs ++ map (λ y. false) ys
marks_more [] ns [] ys l e = marks_none ns ys (omega (arith, e))
marks_more [] ns (b ∷ bs) ys l e = absurd (omega (arith, l))
marks_more (m ∷ ms) [] bs ys l e = absurd (omega (arith, e))
marks_more (m ∷ ms) (n ∷ ns) [] ys l e = ap (λ z. false ∷ z) (marks_more ms ns [] ys (omega arith) (omega (arith, e)))
marks_more (m ∷ ms) (n ∷ ns) (b ∷ bs) ys l e = ap (λ z. b ∷ z) (marks_more ms ns bs ys (omega (arith, l)) (omega (arith, e)))

pub marks_set : {A : Type 0} (ms : List A) (bs : List Bool) (k : ℕ) → k < length bs → length bs ≤ length ms → marks ms (slice_set bs k true) ≡ slice_set (marks ms bs) k true
marks_set ms [] k h l = absurd (omega (arith, h))
marks_set [] (b ∷ bs) k h l = absurd (omega (arith, l))
marks_set (m ∷ ms) (b ∷ bs) zero h l = refl
marks_set (m ∷ ms) (b ∷ bs) (suc k) h l = ap (λ z. b ∷ z) (marks_set ms bs k (omega (arith, h)) (omega (arith, l)))

pub marks_length : {A : Type 0} (ms : List A) (bs : List Bool) → length (marks ms bs) ≡ length ms
marks_length [] bs = refl
marks_length (m ∷ ms) [] = ap suc (marks_length ms [])
marks_length (m ∷ ms) (b ∷ bs) = ap suc (marks_length ms bs)

pub marks_count : {A : Type 0} (ms : List A) (bs : List Bool) → length bs ≤ length ms → count_set (marks ms bs) ≡ count_set bs
marks_count [] [] l = refl
marks_count [] (b ∷ bs) l = absurd (omega (arith, l))
marks_count (m ∷ ms) [] l = marks_count ms [] (omega arith)
marks_count (m ∷ ms) (true ∷ bs) l = ap suc (marks_count ms bs (omega (arith, l)))
marks_count (m ∷ ms) (false ∷ bs) l = marks_count ms bs (omega (arith, l))

-- the first that is not marked
pub first_open : {A : Type 0} (ms : List A) (bs : List Bool) (i : ℕ) → leading bs < length ms → first_false i (marks ms bs) ≡ Some (i + leading bs)
first_open [] bs i l = absurd (omega (arith, l))
first_open (m ∷ ms) [] i l = ap Some (omega arith)
first_open (m ∷ ms) (true ∷ bs) i l = first_open ms bs (suc i) (omega (arith, l)) ∙ ap Some (omega arith)
first_open (m ∷ ms) (false ∷ bs) i l = ap Some (omega arith)

pub none_open : {A : Type 0} (ms : List A) (bs : List Bool) (i : ℕ) → length ms ≤ leading bs → first_false i (marks ms bs) ≡ None
none_open [] bs i l = refl
none_open (m ∷ ms) [] i l = absurd (omega (arith, l))
none_open (m ∷ ms) (true ∷ bs) i l = none_open ms bs (suc i) (omega (arith, l))
none_open (m ∷ ms) (false ∷ bs) i l = absurd (omega (arith, l))

pub open_rest : (bs : List Bool) → count_open bs + count_set bs ≡ length bs
open_rest [] = refl
open_rest (true ∷ bs) = let h = open_rest bs in omega (arith, h)
open_rest (false ∷ bs) = let h = open_rest bs in omega (arith, h)
