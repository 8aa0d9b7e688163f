-- What a crash leaves while what lies past a gate is cut off.
use Rattle.std.specs.Prelude.{◌≡◌, ℕ, zero, suc, ◌+◌, ◌-◌, List, [], ◌∷◌, ◌++◌, Bool, length, take}
use Rattle.std.proofs.Common.{sym, ◌∙◌, ap, subst, arith, length-append, append_assoc}
use Rattle.std.proofs.Math.Seq.{take-length}
use Rattle.aw_disk.specs.Disk.{Cut}
use Rattle.aw_journal.specs.Opens.{IsShut, IsEnded, AfterCut}
use Rattle.aw_journal.proofs.Places.{through_place, long_place}

pub take_past : (xs ys : List ℕ) (m n : ℕ) → m ≡ length xs + n → take m (xs ++ ys) ≡ xs ++ take n ys
take_past [] ys m n is = let same : m ≡ n = omega arith in ap (λ (k : ℕ). take k ys) same
take_past (x ∷ xs) ys zero n is = absurd (omega arith)
take_past (x ∷ xs) ys (suc m) n is = ap (λ (l : List ℕ). x ∷ l) (take_past xs ys m n (omega arith))

-- a cut behind the gate
pub cut_behind : (before rest c : List ℕ) (gate place : ℕ) → place ≡ length before → Cut (place + 1) (before ++ gate ∷ rest) c → (k : ℕ) × (c ≡ before ++ gate ∷ take k rest)
cut_behind before rest c gate place is cut =
    let long = long_place before rest gate in
    let k = length c - (length before + 1) in
    let size : length c ≡ length (before ++ gate ∷ []) + k = omega (arith, cut.no_shorter, long, length-append before (gate ∷ [])) in (
      k,
      sym cut.front ∙ ap (λ (l : List ℕ). take (length c) l) (sym (append_assoc before (gate ∷ []) rest)) ∙ take_past (before ++ gate ∷ []) rest
          (length c) k size ∙ append_assoc before (gate ∷ []) (take k rest),
    )

pub ended : (before rest : List ℕ) (gate place : ℕ) (is_open : Bool) (outcomes : List ℕ → Type 0) → place ≡ length before →
    ((c : List ℕ) → outcomes c → IsShut before rest gate is_open c) → (c : List ℕ) → AfterCut (place + 1) outcomes c → IsEnded before rest gate is_open c
ended before rest gate place is_open outcomes is was c left =
    let from = was left.0 left.1 in
    let cut : Cut (place + 1) (before ++ from.0 ∷ rest) c = subst (λ (d : List ℕ). Cut (place + 1) d c) from.1 left.2 in
    let part = cut_behind before rest c from.0 place is cut in
    (from.0, part.0, part.1, from.2)

-- every shut file is one that is ended later on
pub shut_ended : (before rest : List ℕ) (gate : ℕ) (is_open : Bool) (c : List ℕ) → IsShut before rest gate is_open c → IsEnded before rest gate is_open c
shut_ended before rest gate is_open c shut = (shut.0, length rest, shut.1 ∙ ap (λ (l : List ℕ). before ++ shut.0 ∷ l) (sym (take-length rest)), shut.2)

pub cut_done : (before rest : List ℕ) (gate place : ℕ) → place ≡ length before → take (place + 1) (before ++ gate ∷ rest) ≡ before ++ gate ∷ []
cut_done before rest gate place is = ap (λ (k : ℕ). take (k + 1) (before ++ gate ∷ rest)) is ∙ through_place before rest gate
