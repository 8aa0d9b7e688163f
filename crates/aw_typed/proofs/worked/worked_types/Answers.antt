use Rattle.std.proofs.Common.{◌≡◌, ℕ, zero, suc, length, Some, slice_get, refl, sym, ap, ◌∙◌}
use Rattle.std.proofs.lemmas.Option.{same_Some}
use Rattle.aw_term.specs.Rules.{Sort}
use Rattle.aw_typed.specs.Clinic.{clinic}
use Rattle.aw_typed.specs.Types.{Shape, Carry, shape_of, carry_of}
use Rattle.aw_typed.specs.Worked.{types}
use Rattle.aw_typed.proofs.worked.worked_types.Goals as goal

-- what both are is of one length
one_length : (m n : ℕ) (x y : Shape) → length y.parts ≡ m → Some m ≡ Some n → Some y ≡ Some x → length x.parts ≡ n
one_length m n x y l e f = ap (λ (x : Shape). length x.parts) (sym (same_Some y x f)) ∙ (l ∙ same_Some m n e)

parts : (c n : ℕ) (x : Shape) → slice_get clinic.arities c ≡ Some n → shape_of types c ≡ Some x → length x.parts ≡ n
parts zero n x e f = one_length 1 n x _ refl e f
parts (suc zero) n x e f = one_length 2 n x _ refl e f
parts (suc (suc zero)) n x e f = one_length 2 n x _ refl e f
parts (suc (suc (suc zero))) n x e f = one_length 0 n x _ refl e f
parts (suc (suc (suc (suc c)))) n x e f = absurd cc

one_takes : (t u : Sort) (k l : Carry) → length l.takes ≡ u.takes → Some u ≡ Some t → Some l ≡ Some k → length k.takes ≡ t.takes
one_takes t u k l same e f = ap (λ (k : Carry). length k.takes) (sym (same_Some l k f)) ∙ (same ∙ ap (λ (t : Sort). t.takes) (same_Some u t e))

one_gives : (t u : Sort) (k l : Carry) → length l.gives ≡ u.gives → Some u ≡ Some t → Some l ≡ Some k → length k.gives ≡ t.gives
one_gives t u k l same e f = ap (λ (k : Carry). length k.gives) (sym (same_Some l k f)) ∙ (same ∙ ap (λ (t : Sort). t.gives) (same_Some u t e))

takes_are : (s : ℕ) (t : Sort) (k : Carry) → slice_get clinic.sorts s ≡ Some t → carry_of types s ≡ Some k → length k.takes ≡ t.takes
takes_are zero t k e f = one_takes t _ k _ refl e f
takes_are (suc zero) t k e f = one_takes t _ k _ refl e f
takes_are (suc (suc s)) t k e f = absurd cc

gives_are : (s : ℕ) (t : Sort) (k : Carry) → slice_get clinic.sorts s ≡ Some t → carry_of types s ≡ Some k → length k.gives ≡ t.gives
gives_are zero t k e f = one_gives t _ k _ refl e f
gives_are (suc zero) t k e f = one_gives t _ k _ refl e f
gives_are (suc (suc s)) t k e f = absurd cc

pub returns-clause-no_fault : goal.returns-clause-no_fault
returns-clause-no_fault c = (record { shapes = refl; carries = refl; parts = parts; takes = takes_are; gives = gives_are }, refl)

pub returns-clause-misfit_is_told : goal.returns-clause-misfit_is_told
returns-clause-misfit_is_told c = refl

pub returns-clause-gap_is_told : goal.returns-clause-gap_is_told
returns-clause-gap_is_told c = refl

pub returns-clause-arguments_fit : goal.returns-clause-arguments_fit
returns-clause-arguments_fit c = (refl, refl, refl)

pub returns-clause-run_is_typed : goal.returns-clause-run_is_typed
returns-clause-run_is_typed c = (refl, refl, refl)

pub returns-clause-other_run_is_not : goal.returns-clause-other_run_is_not
returns-clause-other_run_is_not c = (refl, refl)
