-- Rows that are printed one after the other.
use Rattle.std.proofs.Common.{◌≡◌, ℕ, zero, suc, ◌+◌, ◌≤◌, arith, List, [], ◌∷◌, ◌++◌, length, drop, map, ap, sym, ◌∙◌, refl, subst, Option, Some, slice_get}
use Rattle.std.specs.Prelude.{Result, Ok, Err}
use Rattle.std.proofs.lemmas.List.{length-map}
use Rattle.std.proofs.lemmas.Option.{same_Some}
use Rattle.aw_accept.specs.Acyclic.{Pairs}
use Rattle.aw_out.specs.declared.error.PrintFault.{PrintFault}
use Rattle.aw_out.specs.Report.{Bounded, Prints}
use Rattle.aw_out.proofs.Printing.{Prints-stopped, Prints-second}

pub stops : (whole a b : List ℕ) (old new : Bounded) (r1 r : Result Unit PrintFault) (fault : PrintFault) → whole ≡ a ++ b → r1 ≡ Err fault →
    r ≡ Err fault → Prints a old new r1 → Prints whole old new r
stops whole a b old new r1 r fault e err same first =
    subst (λ t. Prints t old new r) (sym e) (subst (λ x. Prints (a ++ b) old new x) (sym same) (Prints-stopped a b old new fault (subst (λ x. Prints a old new x) err first)))

pub goes_on : (whole a b : List ℕ) (old mid new : Bounded) (r1 r : Result Unit PrintFault) → whole ≡ a ++ b → r1 ≡ Ok tt → Prints a old mid r1 → Prints b mid new r → Prints whole old new r
goes_on whole a b old mid new r1 r e ok first second =
    subst (λ t. Prints t old new r) (sym e) (Prints-second a b old mid new r (subst (λ x. Prints a old mid x) ok first) second)

-- the items of two lists at one place, where the one tells of the other
pub told_here : {S H : Type 0} (at : S → Option H) (spots : List S) (hs : List H) (i : ℕ) (s : S) → map at spots ≡ map Some hs →
    slice_get spots i ≡ Some s → (h : H) × (at s ≡ Some h) × (slice_get hs i ≡ Some h)
told_here at [] hs i s e is = absurd cc
told_here at (x ∷ spots) [] i s e is = absurd cc
told_here at (x ∷ spots) (h ∷ hs) zero s e is = let same : x ≡ s = same_Some x s is in let z : at x ≡ Some h = cc in (h, ap at (sym same) ∙ z, refl)
told_here at (x ∷ spots) (h ∷ hs) (suc i) s e is = let z : map at spots ≡ map Some hs = cc in told_here at spots hs i s z is

pub told_length : {S H : Type 0} (at : S → Option H) (spots : List S) (hs : List H) → map at spots ≡ map Some hs → length spots ≡ length hs
told_length at spots hs e = sym (length-map spots at) ∙ ap length e ∙ length-map hs Some

-- the row at a place, and those behind it
pub row_here : {H Q : Type 0} (R : H → Q → Type 0) (hs : List H) (rows : List Q) (i j : ℕ) (h : H) → Pairs R hs rows → slice_get hs i ≡ Some h → j ≡ i + 1
    → (q : Q) × R h q × (drop i rows ≡ q ∷ drop j rows)
row_here R [] rows i j h p e n = absurd cc
row_here R (x ∷ hs) [] i j h p e n = elim p [ ]
row_here R (x ∷ hs) (q ∷ rows) zero j h p e n = (q, subst (λ y. R y q) (same_Some x h e) p.0, let one : j ≡ 1 = omega (arith, n) in ap (λ k. q ∷ drop k (q ∷ rows)) (sym one))
row_here R (x ∷ hs) (q ∷ rows) (suc i) zero h p e n = absurd (omega (arith, n))
row_here R (x ∷ hs) (q ∷ rows) (suc i) (suc j) h p e n = row_here R hs rows i j h p.1 e (omega (arith, n))

pub drop_all : {A : Type 0} (xs : List A) (i : ℕ) → length xs ≤ i → drop i xs ≡ []
drop_all [] zero l = refl
drop_all [] (suc i) l = refl
drop_all (x ∷ xs) zero l = absurd (omega (arith, l))
drop_all (x ∷ xs) (suc i) l = drop_all xs i (omega (arith, l))
