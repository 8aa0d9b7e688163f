-- Copying what was printed.
use Rattle.std.proofs.Common.{◌≡◌, ℕ, zero, suc, ◌+◌, ◌-◌, ◌<◌, ◌≤◌, List, [], ◌∷◌, ◌++◌, take, drop, length, sym, ap, ◌∙◌, subst, arith, length-append}
use Rattle.std.specs.Prelude.{Result, Ok, Err, slice_range}
use Rattle.std.proofs.Math.ListN.{drop_of_length-le}
use Rattle.std.proofs.Math.Seq.{take-add, take-length}
use Rattle.std.proofs.lemmas.List.{length-drop, length-take-le}
use Rattle.aw_out.specs.Report.{Bounded, printed, Prints, PrintsFront}
use Rattle.aw_out.specs.declared.error.PrintFault.{PrintFault}
use Rattle.aw_out.specs.declared.error.PrintFault.TheVariants.{TooLarge}
use Rattle.aw_out.proofs.Printing.{printed-append, PrintsFront-first}
use Rattle.aw_print.proofs.StackLemmas.{range_on}

drop_drop : (n m j : ℕ) (xs : List ℕ) → j ≡ m + n → drop n (drop m xs) ≡ drop j xs
drop_drop n zero j xs e = let f : n ≡ j = omega (arith, e) in ap (λ i. drop i xs) f
drop_drop n (suc m) j [] e = drop_of_length-le [] {i = n} (omega arith) ∙ sym (drop_of_length-le [] {i = j} (omega arith))
drop_drop n (suc m) zero (x ∷ xs) e = absurd (omega (arith, e))
drop_drop n (suc m) (suc j) (x ∷ xs) e = drop_drop n m j xs (omega (arith, e))

-- a range and the one behind it
pub range_more : (xs : List ℕ) (from at end : ℕ) → from ≤ at → at ≤ end → slice_range xs from end ≡ slice_range xs from at ++ slice_range xs at end
range_more xs from at end a b =
    let e : end - from ≡ (at - from) + (end - at) = omega (arith, a, b) in
    ap (λ i. take i (drop from xs)) e ∙ take-add (at - from) (end - at) (drop from xs)
    ∙ ap (λ ys. slice_range xs from at ++ take (end - at) ys) (drop_drop (at - from) from at xs (omega (arith, a)))

pub range_long : (xs : List ℕ) (from until : ℕ) → from ≤ until → until ≤ length xs → length (slice_range xs from until) ≡ until - from
range_long xs from until a b = length-take-le (until - from) (drop from xs) (omega (arith, a, b, length-drop from xs))

-- some more is copied
pub copy_step : (r0 r1 r2 : Bounded) (from at end : ℕ) → from ≤ at → at ≤ end → end ≤ length r0.text → r1 ≡ printed r0 (slice_range r0.text from at) →
    r2 ≡ printed r1 (slice_range r1.text at end) → r2 ≡ printed r0 (slice_range r0.text from end)
copy_step r0 r1 r2 from at end a b l e f =
    f ∙ ap (printed r1) (range_on at end r0.text r1.text (slice_range r0.text from at) b l (ap (λ (r : Bounded). r.text) e))
    ∙ ap (λ (r : Bounded). printed r (slice_range r0.text at end)) e ∙ printed-append r0 (slice_range r0.text from at) (slice_range r0.text at end)
    ∙ ap (printed r0) (sym (range_more r0.text from at end a b))

whole_front : (t : List ℕ) (old new : Bounded) → new ≡ printed old t → PrintsFront t old new
whole_front t old new e = (length t, omega arith, e ∙ ap (printed old) (sym (take-length t)))

-- the rest is not copied
pub copy_stops : (r0 r1 r2 : Bounded) (from at until : ℕ) (fault : PrintFault) (result : Result Unit PrintFault) → from ≤ at → at ≤ until →
    until ≤ length r0.text → r1 ≡ printed r0 (slice_range r0.text from at) → r2 ≡ r1 →
    (fault ≡ TooLarge → r1.limit < length r1.text + (until - at)) → result ≡ Err fault → Prints (slice_range r0.text from until) r0 r2 result
copy_stops r0 r1 r2 from at until fault result a b l e f large is = subst (Prints (slice_range r0.text from until) r0 r2) (sym is) (record {
  ok = tt;
  too_large = λ h.
      let g : fault ≡ TooLarge = cc in
      omega (
        arith,
        large g,
        ap (λ (r : Bounded). r.limit) e,
        ap (λ (r : Bounded). length r.text) e,
        length-append r0.text
            (slice_range r0.text from at),
        range_long r0.text from at a (omega (arith, b, l)),
        range_long r0.text from until (omega (arith, a, b)) l,
      );
  front = subst (λ t. PrintsFront t r0 r2) (sym (range_more r0.text from at until a b)) (PrintsFront-first (slice_range r0.text from at)
      (slice_range r0.text at until) r0 r2 (whole_front (slice_range r0.text from at) r0 r2 (f ∙ e)));
})

-- what was gathered is added, and then the limit would be passed
pub copy_past : (t c : List ℕ) (r0 r1 : Bounded) → r1 ≡ printed r0 t → r1.limit - length r1.text < length c → Prints (t ++ c) r0 r1 (Err TooLarge)
copy_past t c r0 r1 e l = record {
  ok = tt;
  too_large = λ h. omega (arith, l, ap (λ (r : Bounded). r.limit) e, ap (λ (r : Bounded). length r.text) e, length-append r0.text t, length-append t c);
  front = PrintsFront-first t c r0 r1 (whole_front t r0 r1 e);
}

-- what was gathered is added
pub flush_prints : (t : List ℕ) (r0 r1 : Bounded) → r1 ≡ printed r0 t → Prints t r0 r1 (Ok tt)
flush_prints t r0 r1 e = record { ok = e; too_large = λ h. absurd (cc h); front = tt }
