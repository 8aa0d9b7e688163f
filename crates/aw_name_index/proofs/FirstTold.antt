-- No fault is told exactly where no test holds.
use Rattle.std.proofs.Common.{◌≡◌, Bool, true, false, cond, List, [], ◌∷◌, Option, Some, None, refl, ap, ◌∙◌}
use Rattle.aw_name_index.specs.Places.{first_told}

-- none of these tests holds
abbrev pub NoneHolds : {K : Type 0} → List (Bool × K) → Type 0
NoneHolds [] = Unit {0}
NoneHolds (test ∷ tests) = (test.0 ≡ false) × NoneHolds tests

not_first : {K : Type 0} (test : Bool) (kind : K) (later : Option K) → cond test (Some kind) later ≡ None → (test ≡ false) × (later ≡ None)
not_first true kind later h = cc
not_first false kind later h = (refl, h)

pub none_holds : {K : Type 0} (tests : List (Bool × K)) → first_told tests ≡ None → NoneHolds tests
none_holds [] h = tt
none_holds (test ∷ tests) h =
    let parts = not_first test.0 test.1 (first_told tests) h in
    (parts.0, none_holds tests parts.1)

pub none_told : {K : Type 0} (tests : List (Bool × K)) → NoneHolds tests → first_told tests ≡ None
none_told [] h = refl
none_told (test ∷ tests) h = ap (λ b. cond b (Some test.1) (first_told tests)) h.0 ∙ none_told tests h.1
