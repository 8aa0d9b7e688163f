-- Bytes of one class at the front: from the mask of sixteen of them, and block by block.
use Rattle.std.proofs.Common.{◌≡◌, ℕ, suc, ◌+◌, ◌%◌, ◌^◌, ◌<◌, ◌≤◌, Bool, true, false, ◌&&◌, not, cond, eqb, List, [], ◌∷◌, map, length, get_or, take}
use Rattle.std.proofs.Common.{drop, Fits, w8, refl, sym, ap, ap₂, ◌∙◌, arith, take-append-drop, drop-drop}
use Rattle.std.proofs.lemmas.Bool.{agree_below, agree_below_at, eq-eqb, ne_eqb}
use Rattle.std.proofs.lemmas.Bool.Decides.{nat_tests}
use Rattle.std.proofs.lemmas.Simd.{map-map, mask_l-mod, length-chunk, chunk-fits, first_set_mask_l}
use Rattle.std.proofs.lemmas.List.{length-map}
use Rattle.std.proofs.lemmas.List.Folds.{prefix_len-append}
use Rattle.std.proofs.lemmas.List.Sums.{prefix_len-le-length}
use Rattle.std.specs.List.{prefix_len, list_all}
use lib.Lanes.{chunk, Each1, mask_l, top}
use Rattle.aw_spelling.specs.Pieces.{first_set}

-- two tests that agree on each byte
same_prefix : (p q : ℕ → Bool) (xs : List ℕ) → agree_below p q 256 ≡ true → Each1 (Fits w8) xs → prefix_len p xs ≡ prefix_len q xs
same_prefix p q [] e h = refl
same_prefix p q (x ∷ xs) e h = ap₂ (λ t n. cond t (1 + n) 0) (agree_below_at p q 256 x e h.0.fits) (same_prefix p q xs e h.1)

-- the lowest bit of the mask is that of the first byte that fails
pub counted : (q : ℕ → Bool) (bs : List ℕ) (at r : ℕ) (z : List ℕ) → at + 16 ≤ length bs → ((k : ℕ) → Fits w8 (get_or bs k 0))
    → r ≡ first_set (mask_l (map (top 7) z) % 2 ^ 64) → (f : ℕ → ℕ) → z ≡ map f (chunk at 16 bs)
    → agree_below (λ x. not (top 7 (f x))) q 256 ≡ true → r ≡ prefix_len q (take 16 (drop at bs))
counted q bs at r z room fits found f lanes same =
    let v : List ℕ = chunk at 16 bs in
    let long : length v ≡ 16 = length-chunk at 16 bs room in
    let p : ℕ → Bool = λ x. top 7 (f x) in
    let mask : mask_l (map (top 7) z) % 2 ^ 64 ≡ mask_l (map p v) =
    ap (λ l. mask_l l % 2 ^ 64) (ap (map (top 7)) lanes ∙ map-map (top 7) f v) ∙ mask_l-mod (map p v) 64 (omega (arith, length-map v p, long)) in
    found ∙ ap first_set mask ∙ first_set_mask_l p v 16 long (omega arith) ∙ same_prefix (λ x. not (p x)) q v same (chunk-fits w8 at 16 bs fits)

-- a block, and what stands behind it
by_block : (p : ℕ → Bool) (bs : List ℕ) (at n : ℕ) → at + n ≤ length bs
    → let r = prefix_len p (take n (drop at bs)) in prefix_len p (drop at bs) ≡ cond (eqb r n) (n + prefix_len p (drop (at + n) bs)) r
by_block p bs at n room =
    let block = take n (drop at bs) in
    let r = prefix_len p block in
    let long : length block ≡ n = length-chunk at n bs room in
    ap (prefix_len p) (sym (take-append-drop n (drop at bs)))
    ∙ prefix_len-append p block (drop n (drop at bs))
    ∙ ap (λ k. cond (eqb r k) (k + prefix_len p (drop n (drop at bs))) r) long
    ∙ ap (λ xs. cond (eqb r n) (n + prefix_len p xs) r) (drop-drop n at bs)

pub part_of_block : (p : ℕ → Bool) (bs : List ℕ) (at n r : ℕ) → at + n ≤ length bs → r ≡ prefix_len p (take n (drop at bs)) → r < n → prefix_len p (drop at bs) ≡ r
part_of_block p bs at n r room e less =
    let k = prefix_len p (take n (drop at bs)) in
    by_block p bs at n room ∙ ap (λ t. cond t (n + prefix_len p (drop (at + n) bs)) k) (ne_eqb k n (λ whole. omega (arith, whole, e, less))) ∙ sym e

pub whole_block : (p : ℕ → Bool) (bs : List ℕ) (at n r : ℕ) → at + n ≤ length bs → r ≡ prefix_len p (take n (drop at bs)) → n ≤ r
    → prefix_len p (drop at bs) ≡ n + prefix_len p (drop (at + n) bs)
whole_block p bs at n r room e more =
    let k = prefix_len p (take n (drop at bs)) in
    let most : k ≤ length (take n (drop at bs)) = prefix_len-le-length p (take n (drop at bs)) in
    by_block p bs at n room
    ∙ ap (λ t. cond t (n + prefix_len p (drop (at + n) bs)) k) (eq-eqb k n (omega (arith, most, length-chunk at n bs room, e, more)))

-- all pass where the first that fails is past the end
both_longer : (a b : ℕ) → eqb (1 + a) (suc b) ≡ eqb a b
both_longer a b = grind (arith, nat_tests)

pub all_by_prefix : (p : ℕ → Bool) (xs : List ℕ) → eqb (prefix_len p xs) (length xs) ≡ list_all p xs
all_by_prefix p [] = refl
all_by_prefix p (x ∷ xs) =
    elim (p x) as (λ t. eqb (cond t (1 + prefix_len p xs) 0) (suc (length xs)) ≡ (t && list_all p xs)) [
      | true ↦ both_longer (prefix_len p xs) (length xs) ∙ all_by_prefix p xs
      | false ↦ ne_eqb 0 (suc (length xs)) (λ e. omega (arith, e))
    ]
