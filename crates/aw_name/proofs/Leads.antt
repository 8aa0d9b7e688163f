-- Trails by their fronts: what the first five steps, as one number, and the rows behind them answer, the lists answer.
use Rattle.std.proofs.Common.{◌≡◌, ℕ, zero, suc, ◌+◌, ◌*◌, ◌<◌, ◌≤◌, Bool, true, false, List, [], ◌∷◌, refl, sym, ap, ◌∙◌, arith, length, drop, inl, inr}
use Rattle.std.specs.Prelude.{◌&&◌, ◌⊎◌, nat_eq}
use Rattle.std.specs.Ordering.{nat_cmp, ordering_then, is_eq}
use Rattle.std.specs.Cmp.Lexicographic.{slice_cmp, pointwise, lists_ties}
use Rattle.std.specs.declared.cmp.Ordering.{Ordering}
use Rattle.std.specs.declared.cmp.Ordering.TheVariants.{Less, Equal, Greater}
use Rattle.std.proofs.lemmas.Cmp.{by_ranked, ranked}
use Rattle.std.proofs.lemmas.Nat.{mul-le}
use Rattle.std.proofs.lemmas.Bool.Decides.{nat_tests}
use Rattle.aw_name.specs.declared.node.Step.{Step}
use Rattle.aw_name.specs.Digest.{step_number}
use Rattle.aw_name.specs.Front.{IsSmall, IsSmallLead, lead_of, front_of, flat, flat_rest}
use Rattle.aw_name.specs.Steps.{step_cmp, step_ties}
use Rattle.aw_name.specs.Same.{step_eq, steps_Decide}

is_less : (x y : ℕ) → x < y → nat_cmp x y ≡ Less
is_less x y h = grind (arith, nat_tests)

is_tie : (x y : ℕ) → x ≡ y → nat_cmp x y ≡ Equal
is_tie x y h = grind (arith, nat_tests)

is_more : (x y : ℕ) → y < x → nat_cmp x y ≡ Greater
is_more x y h = grind (arith, nat_tests)

-- a higher digit decides
carried : (a b p r s : ℕ) → a < b → r < p → a * p + r < b * p + s
carried a b p r s h g =
    let up : a + 1 ≤ b = omega (arith, h) in
    let le : p ≤ p = omega arith in
    let m : (a + 1) * p ≤ b * p = mul-le (a + 1) p b p up le in
    omega (arith, m, g)

-- numbers of two digits: the higher one decides, and then the lower one
pub digits : (a b p r s : ℕ) → r < p → s < p → nat_cmp (a * p + r) (b * p + s) ≡ ordering_then (nat_cmp a b) (nat_cmp r s)
digits a b p r s h g =
    by_ranked (a < b) (a ≡ b) (b < a) (nat_cmp a b) (ranked a b _ refl)
    (λ e l. is_less _ _ (carried a b p r s l h) ∙ sym (ap (λ o. ordering_then o (nat_cmp r s)) e))
    (λ e l. same l ∙ sym (ap (λ o. ordering_then o (nat_cmp r s)) e))
    (λ e l. is_more _ _ (carried b a p s r l g) ∙ sym (ap (λ o. ordering_then o (nat_cmp r s)) e))
  where
    same : a ≡ b → nat_cmp (a * p + r) (b * p + s) ≡ nat_cmp r s
    same l =
        let m : a * p ≡ b * p = ap (λ z. z * p) l in
        by_ranked (r < s) (r ≡ s) (s < r) (nat_cmp r s) (ranked r s _ refl)
        (λ e k. is_less (a * p + r) (b * p + s) (omega (arith, m, k)) ∙ sym e)
        (λ e k. is_tie (a * p + r) (b * p + s) (omega (arith, m, k)) ∙ sym e)
        (λ e k. is_more (a * p + r) (b * p + s) (omega (arith, m, k)) ∙ sym e)

-- so the numbers of steps are in the order of the steps
pub numbered : (x y : Step) → IsSmall x → IsSmall y → nat_cmp (step_number x) (step_number y) ≡ step_cmp x y
numbered x y h g = digits x.rule y.rule 256 x.child y.child h.1 g.1

-- one after the other
pub then_then : (o k l : Ordering) → ordering_then (ordering_then o k) l ≡ ordering_then o (ordering_then k l)
then_then Less k l = refl
then_then Equal k l = refl
then_then Greater k l = refl

-- how many numbers below 2 ^ 24 are told apart in so many digits
abbrev pub place : ℕ → ℕ
place zero = 1
place (suc k) = 16777216 * place k

-- the first k steps as one number
abbrev pub pack : ℕ → List Step → ℕ
pack zero xs = 0
pack (suc k) [] = 0
pack (suc k) (s ∷ xs) = step_number s * place k + pack k xs

abbrev pub Small : ℕ → List Step → Type 0
Small zero xs = Unit {0}
Small (suc k) [] = Unit {0}
Small (suc k) (s ∷ xs) = IsSmall s × Small k xs

-- what decides where the first k steps do not
abbrev pub tail : ℕ → List Step → List Step → Ordering
tail zero xs ys = slice_cmp step_cmp xs ys
tail (suc k) [] [] = Equal
tail (suc k) [] (y ∷ ys) = Less
tail (suc k) (x ∷ xs) [] = Greater
tail (suc k) (x ∷ xs) (y ∷ ys) = tail k xs ys

self_le : (p : ℕ) → p ≤ p
self_le p = omega arith

place_pos : (k : ℕ) → 0 < place k
place_pos zero = omega arith
place_pos (suc k) = omega (arith, place_pos k)

pub packed : (k : ℕ) (xs : List Step) → Small k xs → pack k xs < place k
packed zero xs h = omega arith
packed (suc k) [] h = place_pos (suc k)
packed (suc k) (s ∷ xs) h =
    let r = packed k xs h.1 in
    let b : s.rule < 65536 = h.0.0 in
    let d : s.child < 256 = h.0.1 in
    let n : step_number s + 1 ≤ 16777216 = omega (arith, b, d) in
    let m : (step_number s + 1) * place k ≤ 16777216 * place k = mul-le (step_number s + 1) (place k) 16777216 (place k) n (self_le (place k)) in
    omega (arith, m, r)

least : (n : ℕ) → Less ≡ ordering_then (nat_cmp 0 n) Less
least n =
    by_ranked (0 < n) (0 ≡ n) (n < 0) (nat_cmp 0 n) (ranked 0 n _ refl)
    (λ e l. sym (ap (λ o. ordering_then o Less) e))
    (λ e l. sym (ap (λ o. ordering_then o Less) e))
    (λ e l. absurd (omega (arith, l)))

most : (n : ℕ) → Greater ≡ ordering_then (nat_cmp n 0) Greater
most n =
    by_ranked (n < 0) (n ≡ 0) (0 < n) (nat_cmp n 0) (ranked n 0 _ refl)
    (λ e l. absurd (omega (arith, l)))
    (λ e l. sym (ap (λ o. ordering_then o Greater) e))
    (λ e l. sym (ap (λ o. ordering_then o Greater) e))

-- the first k steps decide, and then what stands behind them
pub led : (k : ℕ) (xs ys : List Step) → Small k xs → Small k ys → slice_cmp step_cmp xs ys ≡ ordering_then (nat_cmp (pack k xs) (pack k ys)) (tail k xs ys)
led zero xs ys h g = refl
led (suc k) [] [] h g = refl
led (suc k) [] (y ∷ ys) h g = least (pack (suc k) (y ∷ ys))
led (suc k) (x ∷ xs) [] h g = most (pack (suc k) (x ∷ xs))
led (suc k) (x ∷ xs) (y ∷ ys) h g =
    (λ i. ordering_then (sym (numbered x y h.0 g.0) i) (led k xs ys h.1 g.1 i))
    ∙ sym (then_then (nat_cmp (step_number x) (step_number y)) (nat_cmp (pack k xs) (pack k ys)) (tail k xs ys))
    ∙ sym (ap (λ o. ordering_then o (tail k xs ys)) (digits (step_number x) (step_number y) (place k) (pack k xs) (pack k ys) (packed k xs h.1) (packed k ys g.1)))

one_more : (a b : ℕ) → nat_cmp a b ≡ nat_cmp (suc a) (suc b)
one_more a b =
    by_ranked (a < b) (a ≡ b) (b < a) (nat_cmp a b) (ranked a b (nat_cmp a b) refl)
    (λ e l. e ∙ sym (is_less (suc a) (suc b) (omega (arith, l))))
    (λ e l. e ∙ sym (is_tie (suc a) (suc b) (ap suc l)))
    (λ e l. e ∙ sym (is_more (suc a) (suc b) (omega (arith, l))))

-- behind the end of one list the lengths decide
pub tail_lengths : (k : ℕ) (xs ys : List Step) → (length xs ≤ k) ⊎ (length ys ≤ k) → tail k xs ys ≡ nat_cmp (length xs) (length ys)
tail_lengths zero [] [] h = refl
tail_lengths zero [] (y ∷ ys) h = sym (is_less 0 (length (y ∷ ys)) (omega arith))
tail_lengths zero (x ∷ xs) [] h = sym (is_more (length (x ∷ xs)) 0 (omega arith))
tail_lengths zero (x ∷ xs) (y ∷ ys) (inl h) = absurd (omega (arith, h))
tail_lengths zero (x ∷ xs) (y ∷ ys) (inr h) = absurd (omega (arith, h))
tail_lengths (suc k) [] [] h = refl
tail_lengths (suc k) [] (y ∷ ys) h = sym (is_less 0 (length (y ∷ ys)) (omega arith))
tail_lengths (suc k) (x ∷ xs) [] h = sym (is_more (length (x ∷ xs)) 0 (omega arith))
tail_lengths (suc k) (x ∷ xs) (y ∷ ys) (inl h) = tail_lengths k xs ys (inl (omega (arith, h))) ∙ one_more (length xs) (length ys)
tail_lengths (suc k) (x ∷ xs) (y ∷ ys) (inr h) = tail_lengths k xs ys (inr (omega (arith, h))) ∙ one_more (length xs) (length ys)

-- and where both are longer what stands behind the first k
pub tail_rests : (k : ℕ) (xs ys : List Step) → k ≤ length xs → k ≤ length ys → tail k xs ys ≡ slice_cmp step_cmp (drop k xs) (drop k ys)
tail_rests zero xs ys h g = refl
tail_rests (suc k) [] ys h g = absurd (omega (arith, h))
tail_rests (suc k) (x ∷ xs) [] h g = absurd (omega (arith, g))
tail_rests (suc k) (x ∷ xs) (y ∷ ys) h g = tail_rests k xs ys (omega (arith, h)) (omega (arith, g))

-- rules and children in turn are in the order of the steps
pub flat_cmp : (xs ys : List Step) → slice_cmp nat_cmp (flat xs) (flat ys) ≡ slice_cmp step_cmp xs ys
flat_cmp [] [] = refl
flat_cmp [] (y ∷ ys) = refl
flat_cmp (x ∷ xs) [] = refl
flat_cmp (x ∷ xs) (y ∷ ys) =
    sym (then_then (nat_cmp x.rule y.rule) (nat_cmp x.child y.child) (slice_cmp nat_cmp (flat xs) (flat ys)))
    ∙ ap (ordering_then (step_cmp x y)) (flat_cmp xs ys)

-- and the same where the steps are the same
pub both_both : (a b c : Bool) → a && (b && c) ≡ (a && b) && c
both_both true b c = refl
both_both false b c = refl

pub flat_eq : (xs ys : List Step) → pointwise nat_eq (flat xs) (flat ys) ≡ pointwise step_eq xs ys
flat_eq [] [] = refl
flat_eq [] (y ∷ ys) = refl
flat_eq (x ∷ xs) [] = refl
flat_eq (x ∷ xs) (y ∷ ys) = both_both (nat_eq x.rule y.rule) (nat_eq x.child y.child) (pointwise nat_eq (flat xs) (flat ys)) ∙ ap (λ t. step_eq x y && t) (flat_eq xs ys)

-- two lists are the same where neither comes first
pub by_order : (xs ys : List Step) → pointwise step_eq xs ys ≡ is_eq (slice_cmp step_cmp xs ys)
by_order xs ys = lists_ties step_cmp step_ties xs ys

-- the first five steps as one number
small_lead : (xs : List Step) → IsSmallLead xs → Small 5 xs
small_lead [] h = tt
small_lead (a ∷ []) h = (h.first, tt)
small_lead (a ∷ b ∷ []) h = (h.first, (h.second, tt))
small_lead (a ∷ b ∷ c ∷ []) h = (h.first, (h.second, (h.third, tt)))
small_lead (a ∷ b ∷ c ∷ d ∷ []) h = (h.first, (h.second, (h.third, (h.fourth, tt))))
small_lead (a ∷ b ∷ c ∷ d ∷ e ∷ xs) h = (h.first, (h.second, (h.third, (h.fourth, (h.fifth, tt)))))

lead_pack : (xs : List Step) → lead_of xs ≡ pack 5 xs
lead_pack [] = refl
lead_pack (a ∷ []) = omega arith
lead_pack (a ∷ b ∷ []) = omega arith
lead_pack (a ∷ b ∷ c ∷ []) = omega arith
lead_pack (a ∷ b ∷ c ∷ d ∷ []) = omega arith
lead_pack (a ∷ b ∷ c ∷ d ∷ e ∷ xs) = omega arith

-- so the leads decide, and then what stands behind them
pub leads : (xs ys : List Step) → IsSmallLead xs → IsSmallLead ys → slice_cmp step_cmp xs ys ≡ ordering_then (nat_cmp (lead_of xs) (lead_of ys)) (tail 5 xs ys)
leads xs ys h g =
    led 5 xs ys (small_lead xs h) (small_lead ys g) ∙ (λ i. ordering_then (nat_cmp (sym (lead_pack xs) i) (sym (lead_pack ys) i)) (tail 5 xs ys))

-- leads that are the same leave it to what stands behind them
pub by_tails : (xs ys : List Step) → IsSmallLead xs → IsSmallLead ys → lead_of xs ≡ lead_of ys → tail 5 xs ys ≡ slice_cmp step_cmp xs ys
by_tails xs ys h g e = sym (leads xs ys h g ∙ ap (λ o. ordering_then o (tail 5 xs ys)) (is_tie (lead_of xs) (lead_of ys) e))

-- fronts are in the order of leads and lengths
fronts : (xs ys : List Step) → length xs ≤ 250 → length ys ≤ 250 → nat_cmp (front_of xs) (front_of ys) ≡ ordering_then (nat_cmp (lead_of xs) (lead_of ys)) (nat_cmp (length xs) (length ys))
unfolding front_of
fronts xs ys m n = digits (lead_of xs) (lead_of ys) 256 (length xs) (length ys) (omega (arith, m)) (omega (arith, n))

-- so the fronts decide where one list ends there
pub by_ends : (xs ys : List Step) → IsSmallLead xs → IsSmallLead ys → length xs ≤ 250 → length ys ≤ 250 → (length xs ≤ 5) ⊎ (length ys ≤ 5)
    → nat_cmp (front_of xs) (front_of ys) ≡ slice_cmp step_cmp xs ys
by_ends xs ys h g m n s =
    fronts xs ys m n ∙ ap (ordering_then (nat_cmp (lead_of xs) (lead_of ys))) (sym (tail_lengths 5 xs ys s)) ∙ sym (leads xs ys h g)

alone : (o k l : Ordering) → ¬ (o ≡ Equal) → ordering_then o k ≡ ordering_then o l
alone Less k l n = refl
alone Equal k l n = absurd (n refl)
alone Greater k l n = refl

not_tied : (x y : ℕ) → ¬ (x ≡ y) → ¬ (nat_cmp x y ≡ Equal)
not_tied x y n e = n (ranked x y Equal (sym e))

-- and where the leads differ
pub by_leads : (xs ys : List Step) → IsSmallLead xs → IsSmallLead ys → length xs ≤ 250 → length ys ≤ 250 → ¬ (lead_of xs ≡ lead_of ys)
    → nat_cmp (front_of xs) (front_of ys) ≡ slice_cmp step_cmp xs ys
by_leads xs ys h g m n d =
    fronts xs ys m n ∙ alone (nat_cmp (lead_of xs) (lead_of ys)) (nat_cmp (length xs) (length ys)) (tail 5 xs ys) (not_tied (lead_of xs) (lead_of ys) d)
    ∙ sym (leads xs ys h g)

-- and else to the rows
pub by_rows : (xs ys : List Step) → IsSmallLead xs → IsSmallLead ys → lead_of xs ≡ lead_of ys → 5 ≤ length xs → 5 ≤ length ys
    → slice_cmp nat_cmp (flat_rest xs) (flat_rest ys) ≡ slice_cmp step_cmp xs ys
by_rows xs ys h g e m n = flat_cmp (drop 5 xs) (drop 5 ys) ∙ sym (tail_rests 5 xs ys m n) ∙ by_tails xs ys h g e

-- fronts that are the same have the same lead and the same length
pub same_front : (xs ys : List Step) → length xs ≤ 250 → length ys ≤ 250 → front_of xs ≡ front_of ys → (lead_of xs ≡ lead_of ys) × (length xs ≡ length ys)
unfolding front_of
same_front xs ys h g e =
    let f : lead_of xs * 256 + length xs ≡ lead_of ys * 256 + length ys = e in
    (omega (arith, f, h, g), omega (arith, f, h, g))

-- what a front tells of short lists, and with the rows of all
pub short_same : (xs ys : List Step) → IsSmallLead xs → IsSmallLead ys → length xs ≤ 250 → length ys ≤ 250 → front_of xs ≡ front_of ys → length xs ≤ 5 → true ≡ pointwise step_eq xs ys
short_same xs ys h g m n e s =
    sym (by_order xs ys ∙ ap is_eq (sym (by_ends xs ys h g m n (inl s)) ∙ is_tie (front_of xs) (front_of ys) e))

pub rows_same : (xs ys : List Step) → IsSmallLead xs → IsSmallLead ys → length xs ≤ 250 → length ys ≤ 250 → front_of xs ≡ front_of ys → 5 ≤ length xs
    → pointwise nat_eq (flat_rest xs) (flat_rest ys) ≡ pointwise step_eq xs ys
rows_same xs ys h g m n e s =
    let p = same_front xs ys m n e in
    let q : length xs ≡ length ys = p.1 in
    flat_eq (drop 5 xs) (drop 5 ys) ∙ by_order (drop 5 xs) (drop 5 ys)
    ∙ ap is_eq (sym (tail_rests 5 xs ys s (omega (arith, q, s))) ∙ by_tails xs ys h g p.0)
    ∙ sym (by_order xs ys)

differ : (d e : ℕ) → ¬ (d ≡ e) → nat_eq d e ≡ false
differ d e h = grind (arith, nat_tests)

-- lists of which a number that is made of them differs differ
pub numbers_differ : (f : List Step → ℕ) (xs ys : List Step) (d e : ℕ) (b : Bool) → d ≡ f xs → e ≡ f ys → ¬ (d ≡ e) → pointwise step_eq xs ys ≡ b → nat_eq d e ≡ b
numbers_differ f xs ys d e true p q h same = absurd (h (p ∙ ap f ((steps_Decide xs ys).0 same) ∙ sym q))
numbers_differ f xs ys d e false p q h same = differ d e h
