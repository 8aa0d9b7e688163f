-- What is cut short needs more bytes.
use Rattle.std.proofs.Common.{◌≡◌, ◌≢◌, ℕ, List, [], ◌∷◌, ◌++◌, Result, Ok, Err, refl, sym, ap, ◌∙◌}
use Rattle.std.proofs.lemmas.List.{append-nil}
use Rattle.aw_codec.specs.Reading.{Fault, Short, Bad, Reader}
use Rattle.aw_codec.specs.OneSpelling.{CutIsShort}
use Rattle.aw_codec.proofs.Laws.{Law, ok_is, ok_not_err}
use Rattle.aw_codec.proofs.Extending.{Extends}

nothing_behind : (a b : List ℕ) → a ++ b ≡ [] → b ≡ []
nothing_behind [] b e = e
nothing_behind (x ∷ a) b e = absurd cc

by_read : {A : Type 0} {read : Reader A} (h : Extends read) (x : A) (bytes more : List ℕ) → read (bytes ++ more) ≡ Ok (x, []) → more ≢ [] →
    (answer : Result (A × List ℕ) Fault) → read bytes ≡ answer → read bytes ≡ Err Short
by_read {A} h x bytes more whole some (Ok y) e =
    absurd (some (nothing_behind y.1 more (ap (λ (p : A × List ℕ). p.1) (ok_is (y.0, y.1 ++ more) (x, []) (sym (h.ok bytes y.0 y.1 more e) ∙ whole)))))
by_read h x bytes more whole some (Err Short) e = e
by_read h x bytes more whole some (Err (Bad left)) e = let bad = h.bad bytes more left e in absurd (ok_not_err (x, []) (Bad bad.0) (sym whole ∙ bad.1))

pub cut_short : {A : Type 0} {read : Reader A} {spelled : A → List ℕ} {Sized InRange : A → Type 0} → Law read spelled Sized InRange → Extends read → CutIsShort read spelled Sized InRange
cut_short {A} {read} {spelled} law h x bytes more sized range e some =
    by_read h x bytes more (ap read (sym e ∙ sym (append-nil (spelled x))) ∙ law.again x [] sized range) some (read bytes) refl
