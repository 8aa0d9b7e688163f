-- Cutting at the first mark, by its place, and as the first part of a split.
use Rattle.std.proofs.Common.{◌≡◌, ℕ, ◌+◌, refl, sym, ◌∙◌, ap, suc, Bool, true, false, cond, not, ◌==◌, List, [], ◌∷◌, take, drop, length, arith, Option, Some, None, option_map, position, nat_lt}
use Rattle.std.proofs.lemmas.Bool.Decides.{nat_tests}
use Rattle.std.specs.List.{slice_split, onto_first, position_or_len}
use Rattle.aw_spelling.specs.Spelling.{cut, with_front}

-- the bytes round a place
abbrev pub round : List ℕ → ℕ → List ℕ × List ℕ
round bs at = (take at bs, drop (suc at) bs)

abbrev pub if_below : ℕ → ℕ → Option ℕ
if_below n k = cond (nat_lt k n) (Some k) None

pub below_suc : (k n : ℕ) → nat_lt (suc k) (suc n) ≡ nat_lt k n
below_suc k n = grind (arith, nat_tests)

round_step : (b : ℕ) (bs : List ℕ) (k : ℕ) (t : Bool)
    → option_map (with_front b) (option_map (round bs) (cond t (Some k) None)) ≡ option_map (round (b ∷ bs)) (cond t (Some (suc k)) None)
round_step b bs k true = refl
round_step b bs k false = refl

one_up : (b : ℕ) (bs : List ℕ) (k j : ℕ) → j ≡ suc k
    → option_map (with_front b) (option_map (round bs) (if_below (length bs) k)) ≡ option_map (round (b ∷ bs)) (if_below (suc (length bs)) j)
one_up b bs k j e =
    round_step b bs k (nat_lt k (length bs))
    ∙ ap (λ t. option_map (round (b ∷ bs)) (cond t (Some (suc k)) None)) (sym (below_suc k (length bs)))
    ∙ ap (λ m. option_map (round (b ∷ bs)) (if_below (suc (length bs)) m)) (sym e)

pub none_up : (n : ℕ) → nat_lt 0 (suc n) ≡ true
none_up n = grind (arith, nat_tests)

pub cut_by_place : (mark : ℕ) (bs : List ℕ) → option_map (round bs) (position (λ b. b == mark) bs) ≡ cut mark bs
cut_by_place mark [] = refl
cut_by_place mark (b ∷ bs) =
    let k = position_or_len (λ x. x == mark) bs in
    elim (b == mark) as (λ t. option_map (round (b ∷ bs)) (if_below (suc (length bs)) (cond (not t) (1 + k) 0)) ≡ cond t (Some ([], bs)) (option_map (with_front b) (cut mark bs))) [
      | true ↦ ap (λ t. option_map (round (b ∷ bs)) (cond t (Some 0) None)) (none_up (length bs))
      | false ↦ sym (one_up b bs k (1 + k) (omega arith)) ∙ ap (option_map (with_front b)) (cut_by_place mark bs)
    ]

abbrev pub split_after : (mark : ℕ) → List ℕ → Option (List ℕ × List ℕ) → List (List ℕ)
split_after mark bs None = bs ∷ []
split_after mark bs (Some halves) = halves.0 ∷ slice_split (λ b. b == mark) halves.1

onto_split : (mark b : ℕ) (bs : List ℕ) (o : Option (List ℕ × List ℕ)) → onto_first b (split_after mark bs o) ≡ split_after mark (b ∷ bs) (option_map (with_front b) o)
onto_split mark b bs None = refl
onto_split mark b bs (Some halves) = refl

pub split_by_cut : (mark : ℕ) (bs : List ℕ) → slice_split (λ b. b == mark) bs ≡ split_after mark bs (cut mark bs)
split_by_cut mark [] = refl
split_by_cut mark (b ∷ bs) =
    elim (b == mark) as (λ t. cond t ([] ∷ slice_split (λ x. x == mark) bs) (onto_first b (slice_split (λ x. x == mark) bs))
    ≡ split_after mark (b ∷ bs) (cond t (Some ([], bs)) (option_map (with_front b) (cut mark bs)))) [
      | true ↦ refl
      | false ↦ ap (onto_first b) (split_by_cut mark bs) ∙ onto_split mark b bs (cut mark bs)
    ]

-- how many bytes are left behind a slash
abbrev pub bytes_left : Option (List ℕ) → ℕ
bytes_left None = 0
bytes_left (Some bs) = suc (length bs)
