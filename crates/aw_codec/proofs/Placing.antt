-- What stands at the front, from what is read.
use Rattle.std.proofs.Common.{◌≡◌, ℕ, ◌+◌, ◌-◌, ◌≤◌, List, ◌++◌, length, take, Result, Ok, Err, ap, subst, ◌∙◌, arith}
use Rattle.std.proofs.lemmas.List.{take_at, length-append}
use Rattle.aw_codec.specs.Bytes.{AreBytes}
use Rattle.aw_codec.specs.Reading as reading
use Rattle.aw_codec.specs.Reading.{Reader}
use Rattle.aw_codec.specs.Placed.{Fault, placed, Decodes, Finds, IsFound}
use Rattle.aw_codec.specs.declared.fault.MsgFault.{MsgFault}
use Rattle.aw_codec.proofs.Laws.{Law, ok_is}

abbrev found : {A : Type 0} → A → ℕ → Result (A × ℕ) Fault
found x n = Ok (x, n)

found_is : {A : Type 0} (x y : A) (n m : ℕ) → found x n ≡ found y m → (x ≡ y) × (n ≡ m)
found_is {A} x y n m e = let p = ok_is (x, n) (y, m) e in (ap (λ (q : A × ℕ). q.0) p, ap (λ (q : A × ℕ). q.1) p)

is_read : {A : Type 0} (bytes : List ℕ) (read : Result (A × List ℕ) reading.Fault) (x : A) (n : ℕ) → placed bytes read ≡ Ok (x, n) → (rest : List ℕ)
    × (read ≡ Ok (x, rest)) × (length bytes - length rest ≡ n)
is_read bytes (Ok y) x n e = (y.1, ap (λ z. Ok (z, y.1)) (found_is y.0 x (length bytes - length y.1) n e).0, (found_is y.0 x (length bytes - length y.1) n e).1)
is_read bytes (Err reading.Short) x n e = absurd cc
is_read bytes (Err (reading.Bad left)) x n e = absurd cc

front_is : (bytes text rest : List ℕ) (n : ℕ) → bytes ≡ text ++ rest → length bytes - length rest ≡ n → (n ≤ length bytes) × (take n bytes ≡ text)
front_is bytes text rest n e f =
    let whole : length bytes ≡ length text + length rest = ap length e ∙ length-append text rest in
    let len : length text ≡ n = omega arith in
    (omega arith, ap (take n) e ∙ take_at text rest n len)

pub finds : {X Y : Type 0} {r : Reader Y} {s : Y → List ℕ} {S R : Y → Type 0} (law : Law r s S R) (view : X → Y) (bytes : List ℕ)
    (result : Result (X × ℕ) MsgFault) → AreBytes bytes → Decodes view result (placed bytes (r bytes)) → Finds view s R bytes result
finds {X} {Y} {r} {s} law view bytes (Ok x) fits given =
    let a = is_read bytes (r bytes) (view x.0) x.1 given in
    let t = law.taken bytes (view x.0) a.0 fits a.1 in
    let f = front_is bytes (s (view x.0)) a.0 x.1 t.0.parts a.2 in
    (f.0, f.1, t.2)
finds law view bytes (Err e) fits given = tt

pub is_found : {X Y : Type 0} {r : Reader Y} {s : Y → List ℕ} {S R : Y → Type 0} (law : Law r s S R) (view : X → Y) (bytes : List ℕ)
    (result : Result (X × ℕ) MsgFault) → Decodes view result (placed bytes (r bytes)) → IsFound view s S R bytes result
is_found {X} {Y} {r} {s} law view bytes result given y rest sized range e =
    subst (λ read. Decodes view result read) (ap (placed bytes) (ap r e ∙ law.again y rest sized range) ∙ ap (λ n. Ok (y, n)) (taken_length bytes (s y) rest e)) given
  where
    taken_length : (bytes text rest : List ℕ) → bytes ≡ text ++ rest → length bytes - length rest ≡ length text
    taken_length bytes text rest e = let whole : length bytes ≡ length text + length rest = ap length e ∙ length-append text rest in omega arith
