-- What was read, or cannot be read, stays so where more bytes follow.
use Rattle.std.proofs.Common.{◌≡◌, ℕ, zero, suc, ◌≤◌, Bool, true, false, cond, ltb, List, [], ◌∷◌, ◌++◌, length, take, drop, Result, Ok, Err, refl, sym, ap, subst, ◌∙◌, arith, ◌⊎◌, inl, inr}
use Rattle.std.proofs.lemmas.Bool.{ltb-false, le-ltb}
use Rattle.std.proofs.lemmas.List.{take-append-le, drop-append-le, length-append, length-drop}
use Rattle.std.specs.Int.{Width, byte_len, from_be_bytes}
use Rattle.aw_codec.specs.Reading.{Fault, Short, Bad, Reader, ◌>>=◌, byte, number, such_that, both, seen, times, counted}
use Rattle.aw_codec.proofs.Laws.{bind_ok, guard_ok, rule_ok, ok_is, ok_not_err}

pub record Extends {A : Type 0} (read : Reader A) : Type 0 where
  pub ok : (bytes : List ℕ) (x : A) (rest more : List ℕ) → read bytes ≡ Ok (x, rest) → read (bytes ++ more) ≡ Ok (x, rest ++ more)
  pub bad : (bytes more : List ℕ) (left : ℕ) → read bytes ≡ Err (Bad left) → (k : ℕ) × (read (bytes ++ more) ≡ Err (Bad k))
  pub shorter : (bytes : List ℕ) (x : A) (rest : List ℕ) → read bytes ≡ Ok (x, rest) → length rest ≤ length bytes

byte_ok : (bytes : List ℕ) (x : ℕ) (rest more : List ℕ) → byte bytes ≡ Ok (x, rest) → byte (bytes ++ more) ≡ Ok (x, rest ++ more)
byte_ok [] x rest more e = absurd cc
byte_ok (b ∷ bytes) x rest more e = ap (λ (p : ℕ × List ℕ). Ok (p.0, p.1 ++ more)) (ok_is (b, bytes) (x, rest) e)

byte_bad : (bytes more : List ℕ) (left : ℕ) → byte bytes ≡ Err (Bad left) → (k : ℕ) × (byte (bytes ++ more) ≡ Err (Bad k))
byte_bad [] more left e = absurd cc
byte_bad (b ∷ bytes) more left e = absurd cc

pub byte_shorter : (bytes : List ℕ) (x : ℕ) (rest : List ℕ) → byte bytes ≡ Ok (x, rest) → suc (length rest) ≡ length bytes
byte_shorter [] x rest e = absurd cc
byte_shorter (b ∷ bytes) x rest e = ap (λ (p : ℕ × List ℕ). suc (length p.1)) (sym (ok_is (b, bytes) (x, rest) e))

pub byte_extends : Extends byte
byte_extends = record { ok = byte_ok; bad = byte_bad; shorter = λ bytes x rest e. let h = byte_shorter bytes x rest e in omega arith }

-- what is bad was long enough
pub long_bad : {A : Type 0} (b : Bool) (read : Result A Fault) (left : ℕ) → cond b (Err Short) read ≡ Err (Bad left) → (b ≡ false) × (read ≡ Err (Bad left))
long_bad true read left e = absurd cc
long_bad false read left e = (refl, e)

-- a front of n bytes is the same in more bytes
pub still_long : (n : ℕ) (bytes more : List ℕ) → n ≤ length bytes → ltb (length (bytes ++ more)) n ≡ false
still_long n bytes more le = le-ltb _ _ (omega (arith, length-append bytes more))

number_ok : (w : Width) (bytes : List ℕ) (x : ℕ) (rest more : List ℕ) → number w bytes ≡ Ok (x, rest) → number w (bytes ++ more) ≡ Ok (x, rest ++ more)
number_ok w bytes x rest more e =
    let k = byte_len w in
    let g = guard_ok (ltb (length bytes) k) Short (from_be_bytes w (take k bytes), drop k bytes) (x, rest) e in
    let long : k ≤ length bytes = ltb-false _ _ g.0 in
    rw (still_long k bytes more long, take-append-le k bytes more long, drop-append-le k bytes more long) (ap (λ (p : ℕ × List ℕ). Ok (p.0, p.1 ++ more)) g.1)

number_shorter : (w : Width) (bytes : List ℕ) (x : ℕ) (rest : List ℕ) → number w bytes ≡ Ok (x, rest) → length rest ≤ length bytes
number_shorter w bytes x rest e =
    let k = byte_len w in
    let g = guard_ok (ltb (length bytes) k) Short (from_be_bytes w (take k bytes), drop k bytes) (x, rest) e in
    subst (λ (t : List ℕ). length t ≤ length bytes) (ap (λ (p : ℕ × List ℕ). p.1) g.1) (omega (arith, length-drop k bytes))

pub number_extends : (w : Width) → Extends (number w)
number_extends w = record {
  ok = number_ok w;
  bad = λ bytes more left e. absurd (ok_not_err (from_be_bytes w (take (byte_len w) bytes), drop (byte_len w) bytes) (Bad left) (long_bad (ltb (length bytes) (byte_len w)) (Ok _) left e).1);
  shorter = number_shorter w;
}

abbrev pub fault_of : (A : Type 0) → Fault → Result A Fault
fault_of A d = Err d

bind_bad : {A B : Type 0} (r : Result A Fault) (f : A → Result B Fault) (left : ℕ) → (r >>= f) ≡ Err (Bad left) → (r ≡ Err (Bad left)) ⊎ ((x : A) × (r ≡ Ok x) × (f x ≡ Err (Bad left)))
bind_bad {A} {B} (Ok x) f left e = inr (x, refl, e)
bind_bad {A} {B} (Err d) f left e = inl (same d left e)
  where
    same : (d : Fault) (left : ℕ) → fault_of B d ≡ fault_of B (Bad left) → fault_of A d ≡ fault_of A (Bad left)
    same d left e = ap (λ f. fault_of A f) (inside d (Bad left) e)
      where
        inside : (d f : Fault) → fault_of B d ≡ fault_of B f → d ≡ f
        inside d f e = cc

rule_bad : {A : Type 0} (b : Bool) (x : A × List ℕ) (d : Fault) (left : ℕ) → cond b (Ok x) (Err d) ≡ Err (Bad left) → b ≡ false
rule_bad true x d left e = absurd cc
rule_bad false x d left e = refl

such_that_ok : {A : Type 0} {r : Reader A} (rule : A → Bool) (h : Extends r) (bytes : List ℕ) (x : A) (rest more : List ℕ) →
    such_that rule r bytes ≡ Ok (x, rest) → such_that rule r (bytes ++ more) ≡ Ok (x, rest ++ more)
such_that_ok {A} {r} rule h bytes x rest more e =
    let a = bind_ok (r bytes) (λ y. cond (rule y.0) (Ok y) (Err (Bad (length bytes)))) (x, rest) e in
    let g = rule_ok (rule a.0.0) (Bad (length bytes)) a.0 (x, rest) a.2 in
    rw (h.ok bytes a.0.0 a.0.1 more a.1, g.0) (ap (λ (p : A × List ℕ). Ok (p.0, p.1 ++ more)) g.1)

such_that_bad : {A : Type 0} {r : Reader A} (rule : A → Bool) (h : Extends r) (bytes more : List ℕ) (left : ℕ) → such_that rule r bytes ≡ Err
    (Bad left) → (k : ℕ) × (such_that rule r (bytes ++ more) ≡ Err (Bad k))
such_that_bad {A} {r} rule h bytes more left e =
    elim (bind_bad (r bytes) (λ y. cond (rule y.0) (Ok y) (Err (Bad (length bytes)))) left e) [
      | inl f ↦ let k = h.bad bytes more left f in (k.0, ap (λ z. z >>= λ y. cond (rule y.0) (Ok y) (Err (Bad (length (bytes ++ more))))) k.1)
      | inr t ↦ (length (bytes ++ more), rw (h.ok bytes t.0.0 t.0.1 more t.1, rule_bad (rule t.0.0) t.0 (Bad (length bytes)) left t.2) refl)
    ]

such_that_shorter : {A : Type 0} {r : Reader A} (rule : A → Bool) (h : Extends r) (bytes : List ℕ) (x : A) (rest : List ℕ) → such_that rule r bytes ≡ Ok (x, rest) → length rest ≤ length bytes
such_that_shorter {A} {r} rule h bytes x rest e =
    let a = bind_ok (r bytes) (λ y. cond (rule y.0) (Ok y) (Err (Bad (length bytes)))) (x, rest) e in
    let g = rule_ok (rule a.0.0) (Bad (length bytes)) a.0 (x, rest) a.2 in
    subst (λ (p : A × List ℕ). length p.1 ≤ length bytes) g.1 (h.shorter bytes a.0.0 a.0.1 a.1)

pub such_that_extends : {A : Type 0} {r : Reader A} (rule : A → Bool) → Extends r → Extends (such_that rule r)
such_that_extends rule h = record { ok = such_that_ok rule h; bad = such_that_bad rule h; shorter = such_that_shorter rule h }

abbrev pub next : {A B : Type 0} → Reader A → (A → Reader B) → Reader B
next first second bytes = first bytes >>= λ x. second x.0 x.1

next_ok : {A B : Type 0} {r : Reader A} {s : A → Reader B} (h : Extends r) (k : (x : A) → Extends (s x)) (bytes : List ℕ) (x : B)
    (rest more : List ℕ) → next r s bytes ≡ Ok (x, rest) → next r s (bytes ++ more) ≡ Ok (x, rest ++ more)
next_ok {A} {B} {r} {s} h k bytes x rest more e =
    let a = bind_ok (r bytes) (λ y. s y.0 y.1) (x, rest) e in
    ap (λ z. z >>= λ y. s y.0 y.1) (h.ok bytes a.0.0 a.0.1 more a.1) ∙ (k a.0.0).ok a.0.1 x rest more a.2

next_bad : {A B : Type 0} {r : Reader A} {s : A → Reader B} (h : Extends r) (k : (x : A) → Extends (s x)) (bytes more : List ℕ) (left : ℕ) →
    next r s bytes ≡ Err (Bad left) → (n : ℕ) × (next r s (bytes ++ more) ≡ Err (Bad n))
next_bad {A} {B} {r} {s} h k bytes more left e =
    elim (bind_bad (r bytes) (λ y. s y.0 y.1) left e) [
      | inl f ↦ let n = h.bad bytes more left f in (n.0, ap (λ z. z >>= λ y. s y.0 y.1) n.1)
      | inr t ↦ let n = (k t.0.0).bad t.0.1 more left t.2 in (n.0, ap (λ z. z >>= λ y. s y.0 y.1) (h.ok bytes t.0.0 t.0.1 more t.1) ∙ n.1)
    ]

next_shorter : {A B : Type 0} {r : Reader A} {s : A → Reader B} (h : Extends r) (k : (x : A) → Extends (s x)) (bytes : List ℕ) (x : B)
    (rest : List ℕ) → next r s bytes ≡ Ok (x, rest) → length rest ≤ length bytes
next_shorter {A} {B} {r} {s} h k bytes x rest e =
    let a = bind_ok (r bytes) (λ y. s y.0 y.1) (x, rest) e in
    let one = h.shorter bytes a.0.0 a.0.1 a.1 in
    let two = (k a.0.0).shorter a.0.1 x rest a.2 in
    omega arith

pub next_extends : {A B : Type 0} {r : Reader A} {s : A → Reader B} → Extends r → ((x : A) → Extends (s x)) → Extends (next r s)
next_extends h k = record { ok = next_ok h k; bad = next_bad h k; shorter = next_shorter h k }

-- ---- what is built from these

-- a reader that gives the same answers
pub via : {A : Type 0} {r s : Reader A} → ((bytes : List ℕ) → s bytes ≡ r bytes) → Extends r → Extends s
via same h = record {
  ok = λ bytes x rest more e. same (bytes ++ more) ∙ h.ok bytes x rest more (sym (same bytes) ∙ e);
  bad = λ bytes more left e. let k = h.bad bytes more left (sym (same bytes) ∙ e) in (k.0, same (bytes ++ more) ∙ k.1);
  shorter = λ bytes x rest e. h.shorter bytes x rest (sym (same bytes) ∙ e);
}

-- no byte is taken
abbrev pub given : {A : Type 0} → A → Reader A
given x bytes = Ok (x, bytes)

given_bad : {A : Type 0} (x : A) (bytes more : List ℕ) (left : ℕ) → given x bytes ≡ Err (Bad left) → (k : ℕ) × (given x (bytes ++ more) ≡ Err (Bad k))
given_bad x bytes more left e = absurd cc

same_length : {A : Type 0} (x y : A) (bytes rest : List ℕ) → given x bytes ≡ Ok (y, rest) → length rest ≤ length bytes
same_length {A} x y bytes rest e = subst (λ (p : A × List ℕ). length p.1 ≤ length bytes) (ok_is (x, bytes) (y, rest) e) (omega arith)

pub given_extends : {A : Type 0} (x : A) → Extends (given x)
given_extends {A} x = record {
  ok = λ bytes y rest more e. ap (λ (p : A × List ℕ). Ok (p.0, p.1 ++ more)) (ok_is (x, bytes) (y, rest) e);
  bad = given_bad x;
  shorter = λ bytes y rest e. same_length x y bytes rest e;
}

-- nothing has a place here
abbrev pub nothing : {A : Type 0} → Reader A
nothing rest = Err (Bad (suc (length rest)))

nothing_ok : {A : Type 0} (bytes : List ℕ) (x : A) (rest more : List ℕ) → nothing bytes ≡ Ok (x, rest) → nothing (bytes ++ more) ≡ Ok (x, rest ++ more)
nothing_ok bytes x rest more e = absurd cc

nothing_shorter : {A : Type 0} (bytes : List ℕ) (x : A) (rest : List ℕ) → nothing bytes ≡ Ok (x, rest) → length rest ≤ length bytes
nothing_shorter bytes x rest e = absurd cc

pub nothing_extends : {A : Type 0} → Extends {A = A} nothing
nothing_extends = record { ok = nothing_ok; bad = λ bytes more left e. (suc (length (bytes ++ more)), refl); shorter = nothing_shorter }

-- behind a tag of up to 3 each one reads its own, and behind a greater one nothing has a place
abbrev pub by_tag : {A : Type 0} → Reader A → Reader A → Reader A → Reader A → ℕ → Reader A
by_tag a b c d zero = a
by_tag a b c d (suc zero) = b
by_tag a b c d (suc (suc zero)) = c
by_tag a b c d (suc (suc (suc zero))) = d
by_tag a b c d (suc (suc (suc (suc n)))) = nothing

pub by_tag_extends : {A : Type 0} {a b c d : Reader A} → Extends a → Extends b → Extends c → Extends d → Extends (next byte (by_tag a b c d))
by_tag_extends {A} {a} {b} {c} {d} h i j k = next_extends byte_extends each
  where
    each : (n : ℕ) → Extends (by_tag a b c d n)
    each zero = h
    each (suc zero) = i
    each (suc (suc zero)) = j
    each (suc (suc (suc zero))) = k
    each (suc (suc (suc (suc n)))) = nothing_extends

pub seen_extends : {A B : Type 0} {r : Reader A} (f : A → B) → Extends r → Extends (seen f r)
seen_extends f h = via (λ bytes. refl) (next_extends h (λ x. given_extends (f x)))

pub both_extends : {A B : Type 0} {r : Reader A} {s : Reader B} → Extends r → Extends s → Extends (both r s)
both_extends h k = via (λ bytes. refl) (next_extends h (λ x. seen_extends (λ y. (x, y)) k))

times_extends : {A : Type 0} {r : Reader A} → Extends r → (n : ℕ) → Extends (times r n)
times_extends h zero = via (λ bytes. refl) (given_extends [])
times_extends h (suc n) = via (λ bytes. refl) (next_extends h (λ x. seen_extends (λ xs. x ∷ xs) (times_extends h n)))

pub counted_extends : {A : Type 0} {r : Reader ℕ} {s : Reader A} → Extends r → Extends s → Extends (counted r s)
counted_extends h k = via (λ bytes. refl) (next_extends h (times_extends k))
