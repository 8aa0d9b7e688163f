-- The line of a node.
use Rattle.std.proofs.Common.{◌≡◌, ℕ, zero, suc, ◌+◌, ◌<◌, ◌≤◌, List, [], ◌∷◌, ◌++◌, map, take, length, codes, refl, sym, ap, ◌∙◌, subst, inl, inr, arith, append-nil, length-append}
use Rattle.std.specs.Prelude.{Result, Ok, Err, ◌⊎◌}
use Rattle.std.proofs.lemmas.Bool.{cases_lt}
use Rattle.std.proofs.lemmas.List.{take-append-le, length-take-le}
use Rattle.aw_term.specs.Names.{Ref}
use Rattle.aw_term.specs.Artifacts.{Words, head_text}
use Rattle.aw_store.specs.Equations.{Map}
use Rattle.aw_store.specs.Chase.{Chased, Found, Missing, Round, chase}
use Rattle.aw_out.specs.Report.{Bounded, printed, PrintsFront, Prints}
use Rattle.aw_out.specs.declared.error.PrintFault.{PrintFault}
use Rattle.aw_out.specs.declared.error.PrintFault.TheVariants.{TooLarge}
use Rattle.aw_out.proofs.Printing.{PrintsFront-first}
use Rattle.aw_print.specs.Drafts.{Draft, Whole, Front, so_far, then, following, listed, draft_on, draft}
use Rattle.aw_print.specs.Growing.{Begins, Printing, Underway, Stopped, Puts, Ended, printing}
use Rattle.aw_print.specs.Rows.{values_draft}
use Rattle.aw_print.proofs.DraftLemmas.{then-Grows, drafts-Grow, Grows, grows-to}
use Rattle.aw_print.proofs.GrowingLemmas.{adds, goes_on, first_of, whole_is}

-- what stands behind the inherited values, and behind the results
abbrev pub after_results : ℕ → Draft
after_results n = Whole (codes ">\n")

abbrev pub results_on : Words → Map → List Ref → ℕ → Draft
results_on w k rs n = then (listed (map (draft n w k) rs)) (after_results n)

abbrev pub after_inherited : Words → Map → List Ref → ℕ → Draft
after_inherited w k rs n = then (Whole (codes ") <")) (results_on w k rs n)

pub results_on-Grows : (w : Words) (k : Map) (rs : List Ref) → Grows (results_on w k rs)
results_on-Grows w k rs = then-Grows (λ n. listed (map (draft n w k) rs)) after_results (drafts-Grow w k rs) (λ n. refl)

pub after_inherited-Grows : (w : Words) (k : Map) (rs : List Ref) → Grows (after_inherited w k rs)
after_inherited-Grows w k rs = then-Grows (λ n. Whole (codes ") <")) (results_on w k rs) (λ n. refl) (results_on-Grows w k rs)

pub values-Grow : (w : Words) (k : Map) (ins outs : List Ref) → Grows (λ n. values_draft n w k ins outs)
values-Grow w k ins outs = then-Grows (λ n. listed (map (draft n w k) ins)) (after_inherited w k outs) (drafts-Grow w k ins) (after_inherited-Grows w k outs)

-- a front of a draft that goes on is long
abbrev pub IsLong : ℕ → Draft → Type 0
IsLong n (Whole t) = Unit {0}
IsLong n (Front t) = n ≤ length t

pub then-long : (n : ℕ) (a b : Draft) → IsLong n a → IsLong n b → IsLong n (then a b)
then-long n (Whole a) (Whole b) p q = tt
then-long n (Whole a) (Front b) p q = omega (arith, q, length-append a b)
then-long n (Front a) b p q = p

following-long : {A : Type 0} (n : ℕ) (f : A → Draft) → ((x : A) → IsLong n (f x)) → (xs : List A) → IsLong n (following (map f xs))
following-long n f h [] = tt
following-long n f h (x ∷ xs) = then-long n (Whole (codes ", ")) (then (f x) (following (map f xs))) tt (then-long n (f x) (following (map f xs)) (h x) (following-long n f h xs))

listed-long : {A : Type 0} (n : ℕ) (f : A → Draft) → ((x : A) → IsLong n (f x)) → (xs : List A) → IsLong n (listed (map f xs))
listed-long n f h [] = tt
listed-long n f h (x ∷ xs) = then-long n (f x) (following (map f xs)) (h x) (following-long n f h xs)

-- behind a byte more
one_longer : (n : ℕ) (a : List ℕ) (d : Draft) → IsLong n d → IsLong (suc n) (then (Whole (a ++ codes "(")) d)
one_longer n a (Whole t) p = tt
one_longer n a (Front t) p = omega (arith, p, length-append (a ++ codes "(") t, length-append a (codes "("))

draft_on-long : (n : ℕ) (w : Words) (f : Ref → Draft) → ((r : Ref) → IsLong n (f r)) → (r : Ref) (end : Chased) → IsLong (suc n) (draft_on w f r end)
draft_on-long n w f h r (Found c []) = tt
draft_on-long n w f h r (Found c (s ∷ rs)) = one_longer n (head_text w c) (then (listed (map f (s ∷ rs))) (Whole (codes ")")))
    (then-long n (listed (map f (s ∷ rs))) (Whole (codes ")")) (listed-long n f h (s ∷ rs)) tt)
draft_on-long n w f h r (Missing s) = tt
draft_on-long n w f h r Round = tt

pub draft-long : (n : ℕ) (w : Words) (k : Map) (r : Ref) → IsLong n (draft n w k r)
draft-long zero w k r = omega arith
draft-long (suc n) w k r = draft_on-long n w (draft n w k) (draft-long n w k) r (chase k r)

pub values-long : (n : ℕ) (w : Words) (k : Map) (ins outs : List Ref) → IsLong n (values_draft n w k ins outs)
values-long n w k ins outs =
    then-long n (listed (map (draft n w k) ins)) (after_inherited w k outs n) (listed-long n (draft n w k) (draft-long n w k) ins)
    (then-long n (Whole (codes ") <")) (results_on w k outs n) tt (then-long n (listed (map (draft n w k) outs)) (Whole (codes ">\n")) (listed-long n (draft n w k) (draft-long n w k) outs) tt))

-- Every draft past the limit tells what was printed.
begins_front : (d e : Draft) → Begins d e → (rest : List ℕ) × (so_far e ≡ so_far d ++ rest)
begins_front (Whole a) (Whole b) p = ([], p ∙ sym (append-nil a))
begins_front (Whole a) (Front b) p = elim p [ ]
begins_front (Front a) e p = p

pub ended : (all : ℕ → Draft) → Grows all → ((n : ℕ) → IsLong n (all n)) → (old new : Bounded) (result : Result Unit PrintFault) →
    length new.text ≤ new.limit → Ended all old new result → (n : ℕ) → old.limit < n → Prints (so_far (all n)) old new result
ended all grows long old new (Ok done) within e n past =
    let (m, t, is, e) = e in
    record {
      ok = e ∙ ap (printed old) (same m t (all n) refl is (cases_lt m n) (long n) (short t e));
      too_large = λ h. absurd (cc h);
      front = tt;
    }
  where
    short : (t : List ℕ) → new ≡ printed old t → length t ≤ old.limit
    short t e = omega (arith, within, ap (λ (r : Bounded). length r.text) e, ap (λ (r : Bounded). r.limit) e, length-append old.text t)

    whole : (t : List ℕ) (d : Draft) → IsLong n d → length t ≤ old.limit → (rest : List ℕ) × (t ≡ so_far d ++ rest) → Begins d (Whole t) → t ≡ so_far d
    whole t (Whole u) l s p b = b
    whole t (Front u) l s p b = absurd (omega (arith, l, s, past, ap length b.1, length-append u b.0))

    same : (m : ℕ) (t : List ℕ) (d : Draft) → all n ≡ d → all m ≡ Whole t → (m < n) ⊎ (n ≤ m) → IsLong n (all n) → length t ≤ old.limit → t ≡ so_far (all n)
    same m t d e is (inl lt) l s = sym (ap so_far (whole_is t (all n) (subst (λ x. Begins x (all n)) is (grows-to all grows m n (omega (arith, lt))))))
    same m t d e is (inr le) l s = let b = subst (Begins (all n)) is (grows-to all grows n m le) in whole t (all n) l s (begins_front (all n) (Whole t) b) b
ended all grows long old new (Err fault) within s n past = record {
  ok = tt;
  too_large = λ e.
      let f : fault ≡ TooLarge = cc in
      let (m, l) = s.too_large f in
      longer m (cases_lt m n) (long n) l;
  front = fronts (s.front.0) (cases_lt (s.front.0) n) (long n) s.front.1;
}
  where
    by_long : (m : ℕ) (d : Draft) → Begins d (all m) → IsLong n d → old.limit < length old.text + length (so_far (all m)) → old.limit < length old.text + length (so_far d)
    by_long m (Whole u) b l h = omega (arith, h, ap (λ x. length (so_far x)) (whole_is u (all m) b))
    by_long m (Front u) b l h = omega (arith, l, past)

    longer : (m : ℕ) → (m < n) ⊎ (n ≤ m) → IsLong n (all n) → old.limit < length old.text + length (so_far (all m)) → old.limit < length old.text + length (so_far (all n))
    longer m (inl lt) l h = let (rest, e) = begins_front (all m) (all n) (grows-to all grows m n (omega (arith, lt))) in omega (arith, h, ap length e, length-append (so_far (all m)) rest)
    longer m (inr le) l h = by_long m (all n) (grows-to all grows n m le) l h

    cut : (m : ℕ) (d : Draft) → Begins d (all m) → IsLong n d → PrintsFront (so_far (all m)) old new → PrintsFront (so_far d) old new
    cut m (Whole u) b l p = subst (λ t. PrintsFront t old new) (ap so_far (whole_is u (all m) b)) p
    cut m (Front u) b l p =
        let taken : length (take p.0 (so_far (all m))) ≡ p.0 = length-take-le p.0 (so_far (all m)) p.1 in
        let le : p.0 ≤ length u = omega (
          arith,
          within,
          l,
          past,
          taken,
          ap (λ (r : Bounded). length r.text) p.2,
          ap (λ (r : Bounded). r.limit) p.2,
          length-append old.text (take p.0 (so_far (all m))),
        ) in
        (p.0, le, p.2 ∙ ap (printed old) (ap (take p.0) b.1 ∙ take-append-le p.0 u b.0 le))

    fronts : (m : ℕ) → (m < n) ⊎ (n ≤ m) → IsLong n (all n) → PrintsFront (so_far (all m)) old new → PrintsFront (so_far (all n)) old new
    fronts m (inl lt) l p = let (rest, e) = begins_front (all m) (all n) (grows-to all grows m n (omega (arith, lt))) in
        subst (λ t. PrintsFront t old new) (sym e) (PrintsFront-first (so_far (all m)) rest old new p)
    fronts m (inr le) l p = cut m (all n) (grows-to all grows n m le) l p

-- the values of a line, printed one after another
module _ (w : Words) (k : Map) (ins outs : List Ref) where
  abbrev Values : ℕ → Draft
  Values n = values_draft n w k ins outs

  pub values_1 : (p0 p1 : Printing) → Underway (λ n. listed (map (draft n w k) ins)) p0 p1 (λ n. Whole []) → Underway (λ n. values_draft n w k ins outs) p0 p1 (after_inherited w k outs)
  values_1 p0 p1 u = first_of (λ n. listed (map (draft n w k) ins)) (after_inherited w k outs) p0 p1 (drafts-Grow w k ins) (after_inherited-Grows w k outs) u

  pub values_2 : (p0 : Printing) (t v : List ℕ) (r : Bounded) → Underway (λ n. values_draft n w k ins outs) p0 (printing t r)
      (after_inherited w k outs) → v ≡ t ++ codes ") <" → Underway (λ n. values_draft n w k ins outs) p0 (printing v r) (results_on w k outs)
  values_2 p0 t v r u e = goes_on Values (after_inherited w k outs) (results_on w k outs) p0 (printing t r) (printing v r) u (adds (codes ") <") t v r (results_on w k outs) e)

  pub values_3 : (p0 p2 p3 : Printing) → Underway (λ n. values_draft n w k ins outs) p0 p2 (results_on w k outs) →
      Underway (λ n. listed (map (draft n w k) outs)) p2 p3 (λ n. Whole []) → Underway (λ n. values_draft n w k ins outs) p0 p3 after_results
  values_3 p0 p2 p3 u v = goes_on Values (results_on w k outs) after_results p0 p2 p3 u (first_of (λ n. listed (map (draft n w k) outs)) after_results p2 p3 (drafts-Grow w k outs) (λ n. refl) v)

  pub values_4 : (p0 : Printing) (t v : List ℕ) (r : Bounded) → Underway (λ n. values_draft n w k ins outs) p0 (printing t r) after_results →
      v ≡ t ++ codes ">\n" → Underway (λ n. values_draft n w k ins outs) p0 (printing v r) (λ n. Whole [])
  values_4 p0 t v r u e = goes_on Values after_results (λ n. Whole []) p0 (printing t r) (printing v r) u (adds (codes ">\n") t v r (λ n. Whole []) e)

pub same_values : (w : Words) (k : Map) (ins xs outs ys : List Ref) (old new : Printing) (r : Result Unit PrintFault) → ins ≡ xs → outs ≡ ys →
    Puts (λ n. values_draft n w k ins outs) old new r → Puts (λ n. values_draft n w k xs ys) old new r
same_values w k ins xs outs ys old new r e f p = subst (λ zs. Puts (λ n. values_draft n w k xs zs) old new r) f (subst (λ zs. Puts (λ n. values_draft n w k zs outs) old new r) e p)

-- the whole line grows, and a front of it is long
pub row-Grows : (w : Words) (k : Map) (opening : List ℕ) (ins outs : List Ref) → Grows (λ n. then (Whole opening) (values_draft n w k ins outs))
row-Grows w k opening ins outs = then-Grows (λ n. Whole opening) (λ n. values_draft n w k ins outs) (λ n. refl) (values-Grow w k ins outs)

pub row-long : (n : ℕ) (w : Words) (k : Map) (opening : List ℕ) (ins outs : List Ref) → IsLong n (then (Whole opening) (values_draft n w k ins outs))
row-long n w k opening ins outs = then-long n (Whole opening) (values_draft n w k ins outs) tt (values-long n w k ins outs)

-- printing stopped, and the error is handed on
pub ended_err : (all : ℕ → Draft) (old new : Bounded) (fault : PrintFault) (r : Result Unit PrintFault) → r ≡ Err fault → Stopped all (printing [] old) new fault → Ended all old new r
ended_err all old new fault r e s = subst (Ended all old new) (sym e) s
