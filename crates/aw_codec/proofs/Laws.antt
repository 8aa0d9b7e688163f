-- A reader and a spelling that belong together: what is read is spelled so, and what is spelled so is read, whatever follows.
use Rattle.std.proofs.Common.{◌≡◌, ℕ, zero, suc, ◌+◌, ◌^◌, ◌<◌, ◌≤◌, Bool, true, false, cond, ltb, List, [], ◌∷◌, ◌++◌, length, take, drop, Result, Ok}
use Rattle.std.proofs.Common.{Err, refl, sym, ap, subst, ◌∙◌, append_assoc, arith, inl, inr}
use Rattle.std.specs.List.{flat_map}
use Rattle.std.specs.Int.{Width, w16, w32, w64, byte_len, from_be_bytes, to_be_bytes}
use Rattle.std.proofs.lemmas.Bool.{cases_lt, ltb-false, le-ltb}
use Rattle.std.proofs.lemmas.List.{take_at, drop_at, take-append-drop, length-append, length-take, get_or-drop, get_or-take, get_or_past}
use Rattle.std.proofs.lemmas.List.Concat.{flat_map-cons}
use Rattle.std.proofs.lemmas.Nat.{be_bytes_2, be_bytes_4, be_bytes_8, from_be_bytes-to_be_bytes_2, from_be_bytes-to_be_bytes_4, from_be_bytes-to_be_bytes_8}
use Rattle.aw_term.specs.WellFormed.{Each}
use Rattle.aw_codec.specs.Reading.{Fault, Short, Bad, Reader, ◌>>=◌, byte, number, such_that, both, seen, times, counted}
use Rattle.aw_codec.specs.Bytes.{AreBytes}
use Rattle.aw_codec.specs.OneSpelling.{ReadsSpelled, SpelledIfRead, NoneBeginsAnother}

pub AreBytes-drop : (n : ℕ) (bytes : List ℕ) → AreBytes bytes → AreBytes (drop n bytes)
AreBytes-drop n bytes h i = rw get_or-drop (h (n + i))

pub AreBytes-take : (n : ℕ) (bytes : List ℕ) → AreBytes bytes → AreBytes (take n bytes)
AreBytes-take n bytes h i =
    elim (cases_lt i n) [
      | inl lt ↦ rw (get_or-take n bytes i 0 lt) (h i)
      | inr le ↦ rw (get_or_past (take n bytes) i 0 (omega (arith, length-take n bytes))) (omega arith)
    ]

pub AreBytes-rest : (b : ℕ) (bytes : List ℕ) → AreBytes (b ∷ bytes) → AreBytes bytes
AreBytes-rest b bytes h i = h (suc i)

-- the value of a step that did not fail
pub bind_ok : {A B : Type 0} (r : Result A Fault) (f : A → Result B Fault) (y : B) → (r >>= f) ≡ Ok y → (x : A) × (r ≡ Ok x) × (f x ≡ Ok y)
bind_ok (Ok x) f y e = (x, refl, e)
bind_ok (Err d) f y e = absurd cc

pub ok_is : {A E : Type 0} (x y : A) → ◌≡◌ {A = Result A E} (Ok x) (Ok y) → x ≡ y
ok_is x y e = cc

-- a test that did not fail
pub guard_is : {A : Type 0} (b : Bool) (d : Fault) (read : Result A Fault) (x : A) → cond b (Err d) read ≡ Ok x → (b ≡ false) × (read ≡ Ok x)
guard_is true d read x e = absurd cc
guard_is false d read x e = (refl, e)

pub guard_ok : {A : Type 0} (b : Bool) (d : Fault) (x y : A) → cond b (Err d) (Ok x) ≡ Ok y → (b ≡ false) × (x ≡ y)
guard_ok b d x y e = let (off, read) = guard_is b d (Ok x) y e in (off, ok_is x y read)

pub rule_ok : {A : Type 0} (b : Bool) (d : Fault) (x y : A) → cond b (Ok x) (Err d) ≡ Ok y → (b ≡ true) × (x ≡ y)
rule_ok true d x y e = (refl, cc)
rule_ok false d x y e = absurd cc

pub ok_not_err : {A E : Type 0} (x : A) (d : E) → ◌≡◌ {A = Result A E} (Ok x) (Err d) → ⊥
ok_not_err x d e = absurd cc

-- what a reader took from the front
pub record Takes (bytes text rest : List ℕ) : Type 0 where
  pub parts : bytes ≡ text ++ rest
  pub rest_bytes : AreBytes rest

pub Takes-then : (a x b y c : List ℕ) → Takes a x b → Takes b y c → Takes a (x ++ y) c
Takes-then a x b y c p q = record { parts = p.parts ∙ ap (λ (t : List ℕ). x ++ t) q.parts ∙ sym (append_assoc x y c); rest_bytes = q.rest_bytes }

pub Takes-tag : (tag : ℕ) (a x b : List ℕ) → Takes a x b → Takes (tag ∷ a) (tag ∷ x) b
Takes-tag tag a x b p = record { parts = ap (λ (t : List ℕ). tag ∷ t) p.parts; rest_bytes = p.rest_bytes }

pub record Law {A : Type 0} (read : Reader A) (spelled : A → List ℕ) (Sized InRange : A → Type 0) : Type 0 where
  pub taken : (bytes : List ℕ) (x : A) (rest : List ℕ) → AreBytes bytes → read bytes ≡ Ok (x, rest) → Takes bytes (spelled x) rest × Sized x × InRange x
  pub again : (x : A) (rest : List ℕ) → Sized x → InRange x → read (spelled x ++ rest) ≡ Ok (x, rest)

-- ---- single items

byte_taken : (bytes : List ℕ) (x : ℕ) (rest : List ℕ) → AreBytes bytes → byte bytes ≡ Ok (x, rest) → Takes bytes (x ∷ []) rest × (x < 2 ^ 8) × Unit {0}
byte_taken [] x rest fits e = absurd cc
byte_taken (b ∷ bs) x rest fits e =
    subst (λ (y : ℕ × List ℕ). Takes (b ∷ bs) (y.0 ∷ []) y.1 × (y.0 < 2 ^ 8) × Unit {0}) (ok_is (b, bs) (x, rest) e)
    (record { parts = refl; rest_bytes = AreBytes-rest b bs fits }, omega (arith, fits 0), tt)

pub byte_law : Law byte (λ b. b ∷ []) (λ b. b < 2 ^ 8) (λ b. Unit {0})
byte_law = record { taken = byte_taken; again = λ x rest sized range. refl }

pub record IsWide (w : Width) (limit : ℕ) : Type 0 where
  pub len : (n : ℕ) → length (to_be_bytes w n) ≡ byte_len w
  pub back : (bytes : List ℕ) → length bytes ≡ byte_len w → AreBytes bytes → to_be_bytes w (from_be_bytes w bytes) ≡ bytes
  pub again : (n : ℕ) → n < limit → from_be_bytes w (to_be_bytes w n) ≡ n
  pub below : (bytes : List ℕ) → AreBytes bytes → from_be_bytes w bytes < limit

wide16 : IsWide w16 (2 ^ 16)
wide16 = record {
  len = λ n. refl;
  back = λ bytes len fits. be_bytes_2 bytes _ len fits refl;
  again = λ n lt. from_be_bytes-to_be_bytes_2 n lt;
  below = λ bytes fits. omega (arith, fits 0, fits 1);
}

wide32 : IsWide w32 (2 ^ 32)
wide32 = record {
  len = λ n. refl;
  back = λ bytes len fits. be_bytes_4 bytes _ len fits refl;
  again = λ n lt. from_be_bytes-to_be_bytes_4 n lt;
  below = λ bytes fits. omega (arith, fits 0, fits 1, fits 2, fits 3);
}

wide64 : IsWide w64 (2 ^ 64)
wide64 = record {
  len = λ n. refl;
  back = λ bytes len fits. be_bytes_8 bytes _ len fits refl;
  again = λ n lt. from_be_bytes-to_be_bytes_8 n lt;
  below = λ bytes fits. omega (arith, fits 0, fits 1, fits 2, fits 3, fits 4, fits 5, fits 6, fits 7);
}

number_taken : (w : Width) (limit : ℕ) (wide : IsWide w limit) (bytes : List ℕ) (n : ℕ) (rest : List ℕ) → AreBytes bytes →
    number w bytes ≡ Ok (n, rest) → Takes bytes (to_be_bytes w n) rest × (n < limit) × Unit {0}
number_taken w limit wide bytes n rest fits e =
    let g = guard_ok (ltb (length bytes) (byte_len w)) Short (from_be_bytes w (take (byte_len w) bytes), drop (byte_len w) bytes) (n, rest) e in
    let long : byte_len w ≤ length bytes = ltb-false _ _ g.0 in
    let n-is : from_be_bytes w (take (byte_len w) bytes) ≡ n = ap (λ (p : ℕ × List ℕ). p.0) g.1 in
    let rest-is : drop (byte_len w) bytes ≡ rest = ap (λ (p : ℕ × List ℕ). p.1) g.1 in
    let front : to_be_bytes w n ≡ take (byte_len w) bytes =
    rw (← n-is) (wide.back (take (byte_len w) bytes) (omega (arith, length-take (byte_len w) bytes)) (AreBytes-take (byte_len w) bytes fits)) in (
      record { parts = rw (front, ← rest-is) (sym (take-append-drop (byte_len w) bytes)); rest_bytes = rw (← rest-is) (AreBytes-drop (byte_len w) bytes fits) },
      rw (← n-is) (wide.below (take (byte_len w) bytes) (AreBytes-take (byte_len w) bytes fits)),
      tt,
    )

number_again : (w : Width) (limit : ℕ) (wide : IsWide w limit) (n : ℕ) (rest : List ℕ) → n < limit → number w (to_be_bytes w n ++ rest) ≡ Ok (n, rest)
number_again w limit wide n rest lt =
    let len = wide.len n in
    let long : ltb (length (to_be_bytes w n ++ rest)) (byte_len w) ≡ false = le-ltb _ _ (omega (arith, length-append (to_be_bytes w n) rest)) in
    rw (long, take_at (to_be_bytes w n) rest (byte_len w) len, drop_at (to_be_bytes w n) rest (byte_len w) len, wide.again n lt) refl

number_law : (w : Width) (limit : ℕ) → IsWide w limit → Law (number w) (to_be_bytes w) (λ n. n < limit) (λ n. Unit {0})
number_law w limit wide = record { taken = number_taken w limit wide; again = λ n rest sized range. number_again w limit wide n rest sized }

pub number16 : Law (number w16) (to_be_bytes w16) (λ n. n < 2 ^ 16) (λ n. Unit {0})
number16 = number_law w16 (2 ^ 16) wide16

pub number32 : Law (number w32) (to_be_bytes w32) (λ n. n < 2 ^ 32) (λ n. Unit {0})
number32 = number_law w32 (2 ^ 32) wide32

pub number64 : Law (number w64) (to_be_bytes w64) (λ n. n < 2 ^ 64) (λ n. Unit {0})
number64 = number_law w64 (2 ^ 64) wide64

-- ---- what is built from others

such_that_taken : {A : Type 0} {r : Reader A} {s : A → List ℕ} {S R : A → Type 0} (rule : A → Bool) (law : Law r s S R) (bytes : List ℕ) (x : A)
    (rest : List ℕ) → AreBytes bytes → such_that rule r bytes ≡ Ok (x, rest)
    → Takes bytes (s x) rest × S x × (R x × (rule x ≡ true))
such_that_taken {A} {r} {s} {S} {R} rule law bytes x rest fits e =
    let a = bind_ok (r bytes) (λ y. cond (rule y.0) (Ok y) (Err (Bad (length bytes)))) (x, rest) e in
    let g = rule_ok (rule a.0.0) (Bad (length bytes)) a.0 (x, rest) a.2 in
    let t = law.taken bytes a.0.0 a.0.1 fits a.1 in
    subst (λ (y : A × List ℕ). Takes bytes (s y.0) y.1 × S y.0 × (R y.0 × (rule y.0 ≡ true))) g.1 (t.0, t.1, (t.2, g.0))

pub such_that_law : {A : Type 0} {r : Reader A} {s : A → List ℕ} {S R : A → Type 0} (rule : A → Bool) → Law r s S R → Law (such_that rule r) s S (λ x. R x × (rule x ≡ true))
such_that_law rule law = record {
  taken = such_that_taken rule law;
  again = λ x rest sized range. rw (law.again x rest sized range.0, range.1) refl;
}

both_taken : {A B : Type 0} {r : Reader A} {s : A → List ℕ} {S R : A → Type 0} {r' : Reader B} {s' : B → List ℕ} {S' R' : B → Type 0} (law : Law r s S R) (law' : Law r' s' S' R')
    (bytes : List ℕ) (x : A × B) (rest : List ℕ) → AreBytes bytes → both r r' bytes ≡ Ok (x, rest) → Takes bytes (s x.0 ++ s' x.1) rest × (S x.0 × S' x.1) × (R x.0 × R' x.1)
both_taken {A} {B} {r} {s} {S} {R} {r'} {s'} {S'} {R'} law law' bytes x rest fits e =
    let a = bind_ok (r bytes) (λ y. r' y.1 >>= λ z. Ok ((y.0, z.0), z.1)) (x, rest) e in
    let b = bind_ok (r' a.0.1) (λ z. Ok ((a.0.0, z.0), z.1)) (x, rest) a.2 in
    let t = law.taken bytes a.0.0 a.0.1 fits a.1 in
    let u = law'.taken a.0.1 b.0.0 b.0.1 t.0.rest_bytes b.1 in
    subst (λ (y : (A × B) × List ℕ). Takes bytes (s y.0.0 ++ s' y.0.1) y.1 × (S y.0.0 × S' y.0.1) × (R y.0.0 × R' y.0.1)) (ok_is ((a.0.0, b.0.0), b.0.1) (x, rest) b.2)
    (Takes-then bytes (s a.0.0) a.0.1 (s' b.0.0) b.0.1 t.0 u.0, (t.1, u.1), (t.2, u.2))

both_again : {A B : Type 0} {r : Reader A} {s : A → List ℕ} {S R : A → Type 0} {r' : Reader B} {s' : B → List ℕ} {S' R' : B → Type 0} (law : Law r s S R) (law' : Law r' s' S' R')
    (x : A × B) (rest : List ℕ) → S x.0 × S' x.1 → R x.0 × R' x.1 → both r r' ((s x.0 ++ s' x.1) ++ rest) ≡ Ok (x, rest)
both_again {A} {B} {r} {s} {S} {R} {r'} {s'} law law' x rest sized range =
    ap (both r r') (append_assoc (s x.0) (s' x.1) rest) ∙ rw (law.again x.0 (s' x.1 ++ rest) sized.0 range.0, law'.again x.1 rest sized.1 range.1) refl

pub both_law : {A B : Type 0} {r : Reader A} {s : A → List ℕ} {S R : A → Type 0} {r' : Reader B} {s' : B → List ℕ} {S' R' : B → Type 0} → Law r s S R → Law r' s' S' R'
    → Law (both r r') (λ x. s x.0 ++ s' x.1) (λ x. S x.0 × S' x.1) (λ x. R x.0 × R' x.1)
both_law law law' = record { taken = both_taken law law'; again = both_again law law' }

-- what f makes of what was read
pub seen_taken : {A B : Type 0} {r : Reader A} {s : A → List ℕ} {S R : A → Type 0} (f : A → B) (law : Law r s S R) (bytes : List ℕ) (y : B)
    (rest : List ℕ) → AreBytes bytes → seen f r bytes ≡ Ok (y, rest)
    → (x : A) × (f x ≡ y) × Takes bytes (s x) rest × S x × R x
seen_taken {A} {B} {r} {s} {S} {R} f law bytes y rest fits e =
    let a = bind_ok (r bytes) (λ x. Ok (f x.0, x.1)) (y, rest) e in
    let same = ok_is (f a.0.0, a.0.1) (y, rest) a.2 in
    let t = law.taken bytes a.0.0 a.0.1 fits a.1 in
    (a.0.0, ap (λ (p : B × List ℕ). p.0) same, subst (λ (left : List ℕ). Takes bytes (s a.0.0) left) (ap (λ (p : B × List ℕ). p.1) same) t.0, t.1, t.2)

pub seen_again : {A B : Type 0} {r : Reader A} {s : A → List ℕ} {S R : A → Type 0} (f : A → B) (law : Law r s S R) (x : A) (rest : List ℕ) → S x → R x → seen f r (s x ++ rest) ≡ Ok (f x, rest)
seen_again f law x rest sized range = rw (law.again x rest sized range) refl

seen_by_taken : {A B : Type 0} {r : Reader A} {s : A → List ℕ} {S R : A → Type 0} (f : A → B) (g : B → A) (there : (x : A) → g (f x) ≡ x) (law : Law r s S R)
    (bytes : List ℕ) (y : B) (rest : List ℕ) → AreBytes bytes → seen f r bytes ≡ Ok (y, rest) → Takes bytes (s (g y)) rest × S (g y) × R (g y)
seen_by_taken {A} {B} {r} {s} {S} {R} f g there law bytes y rest fits e =
    let t = seen_taken f law bytes y rest fits e in
    subst (λ (x : A). Takes bytes (s x) rest × S x × R x) (sym (there t.0) ∙ ap g t.1) (t.2, t.3, t.4)

pub seen_law : {A B : Type 0} {r : Reader A} {s : A → List ℕ} {S R : A → Type 0} (f : A → B) (g : B → A) → ((x : A) → g (f x) ≡ x) → ((y : B) → f (g y) ≡ y) → Law r s S R
    → Law (seen f r) (λ y. s (g y)) (λ y. S (g y)) (λ y. R (g y))
seen_law f g there back law = record {
  taken = seen_by_taken f g there law;
  again = λ y rest sized range. seen_again f law (g y) rest sized range ∙ ap (λ z. Ok (z, rest)) (back y);
}

-- the same law in other words
restated_taken : {A : Type 0} {r : Reader A} {s : A → List ℕ} {S R : A → Type 0} (t : A → List ℕ) (S' R' : A → Type 0) (same : (x : A) → s x ≡ t x)
    (to : (x : A) → S x → R x → S' x × R' x) (law : Law r s S R)
    (bytes : List ℕ) (x : A) (rest : List ℕ) → AreBytes bytes → r bytes ≡ Ok (x, rest) → Takes bytes (t x) rest × S' x × R' x
restated_taken t S' R' same to law bytes x rest fits e =
    let h = law.taken bytes x rest fits e in
    let k = to x h.1 h.2 in
    (subst (λ (u : List ℕ). Takes bytes u rest) (same x) h.0, k.0, k.1)

restated_again : {A : Type 0} {r : Reader A} {s : A → List ℕ} {S R : A → Type 0} (t : A → List ℕ) (S' R' : A → Type 0) (same : (x : A) → s x ≡ t x)
    (from : (x : A) → S' x → R' x → S x × R x) (law : Law r s S R)
    (x : A) (rest : List ℕ) → S' x → R' x → r (t x ++ rest) ≡ Ok (x, rest)
restated_again {A} {r} t S' R' same from law x rest sized range =
    let k = from x sized range in
    ap (λ (u : List ℕ). r (u ++ rest)) (sym (same x)) ∙ law.again x rest k.0 k.1

pub restated : {A : Type 0} {r : Reader A} {s : A → List ℕ} {S R : A → Type 0} (t : A → List ℕ) (S' R' : A → Type 0) → ((x : A) → s x ≡ t x) →
    ((x : A) → S x → R x → S' x × R' x) → ((x : A) → S' x → R' x → S x × R x)
    → Law r s S R → Law r t S' R'
restated t S' R' same to from law = record { taken = restated_taken t S' R' same to law; again = restated_again t S' R' same from law }

-- ---- lists

times_taken : {A : Type 0} {r : Reader A} {s : A → List ℕ} {S R : A → Type 0} (law : Law r s S R) (n : ℕ) (bytes : List ℕ) (xs : List A)
    (rest : List ℕ) → AreBytes bytes → times r n bytes ≡ Ok (xs, rest)
    → Takes bytes (flat_map s xs) rest × (length xs ≡ n) × Each S xs × Each R xs
times_taken {A} {r} {s} {S} {R} law zero bytes xs rest fits e =
    subst (λ (y : List A × List ℕ). Takes bytes (flat_map s y.0) y.1 × (length y.0 ≡ 0) × Each S y.0 × Each R y.0) (ok_is ([], bytes) (xs, rest) e)
    (record { parts = refl; rest_bytes = fits }, refl, tt, tt)
times_taken {A} {r} {s} {S} {R} law (suc n) bytes xs rest fits e =
    let a = bind_ok (r bytes) (λ x. times r n x.1 >>= λ others. Ok (x.0 ∷ others.0, others.1)) (xs, rest) e in
    let b = bind_ok (times r n a.0.1) (λ others. Ok (a.0.0 ∷ others.0, others.1)) (xs, rest) a.2 in
    let first = law.taken bytes a.0.0 a.0.1 fits a.1 in
    let second = times_taken law n a.0.1 b.0.0 b.0.1 first.0.rest_bytes b.1 in
    let joined = Takes-then bytes (s a.0.0) a.0.1 (flat_map s b.0.0) b.0.1 first.0 second.0 in
    subst (λ (y : List A × List ℕ). Takes bytes (flat_map s y.0) y.1 × (length y.0 ≡ suc n) × Each S y.0 × Each R y.0) (ok_is (a.0.0 ∷ b.0.0, b.0.1) (xs, rest) b.2)
    (rw flat_map-cons joined, ap suc second.1, (first.1, second.2), (first.2, second.3))

times_again : {A : Type 0} {r : Reader A} {s : A → List ℕ} {S R : A → Type 0} (law : Law r s S R) (xs : List A) (rest : List ℕ) → Each S xs →
    Each R xs → times r (length xs) (flat_map s xs ++ rest) ≡ Ok (xs, rest)
times_again law [] rest sized range = refl
times_again {A} {r} {s} law (x ∷ xs) rest sized range =
    let regrouped : flat_map s (x ∷ xs) ++ rest ≡ s x ++ (flat_map s xs ++ rest) = ap (λ (t : List ℕ). t ++ rest) (flat_map-cons s x xs) ∙ append_assoc (s x) (flat_map s xs) rest in
    ap (times r (suc (length xs))) regrouped ∙ rw (law.again x (flat_map s xs ++ rest) sized.0 range.0, times_again law xs rest sized.1 range.1) refl

counted_taken : {A : Type 0} {count : Reader ℕ} {t : ℕ → List ℕ} {T Q : ℕ → Type 0} {r : Reader A} {s : A → List ℕ} {S R : A → Type 0} (number_of : Law count t T Q) (law : Law r s S R)
    (bytes : List ℕ) (xs : List A) (rest : List ℕ) → AreBytes bytes → counted count r bytes ≡ Ok (xs, rest)
    → Takes bytes (t (length xs) ++ flat_map s xs) rest × (T (length xs) × Each S xs) × (Q (length xs) × Each R xs)
counted_taken {A} {count} {t} {T} {Q} {r} {s} {S} {R} number_of law bytes xs rest fits e =
    let a = bind_ok (count bytes) (λ n. times r n.0 n.1) (xs, rest) e in
    let first = number_of.taken bytes a.0.0 a.0.1 fits a.1 in
    let second = times_taken law a.0.0 a.0.1 xs rest first.0.rest_bytes a.2 in
    let front = subst (λ (n : ℕ). Takes bytes (t n) a.0.1 × T n × Q n) (sym second.1) first in
    (Takes-then bytes (t (length xs)) a.0.1 (flat_map s xs) rest front.0 second.0, (front.1, second.2), (front.2, second.3))

counted_again : {A : Type 0} {count : Reader ℕ} {t : ℕ → List ℕ} {T Q : ℕ → Type 0} {r : Reader A} {s : A → List ℕ} {S R : A → Type 0} (number_of : Law count t T Q) (law : Law r s S R)
    (xs : List A) (rest : List ℕ) → T (length xs) × Each S xs → Q (length xs) × Each R xs → counted count r ((t (length xs) ++ flat_map s xs) ++ rest) ≡ Ok (xs, rest)
counted_again {A} {count} {t} {T} {Q} {r} {s} number_of law xs rest sized range =
    ap (counted count r) (append_assoc (t (length xs)) (flat_map s xs) rest)
    ∙ rw (number_of.again (length xs) (flat_map s xs ++ rest) sized.0 range.0) (times_again law xs rest sized.1 range.1)

pub counted_law : {A : Type 0} {count : Reader ℕ} {t : ℕ → List ℕ} {T Q : ℕ → Type 0} {r : Reader A} {s : A → List ℕ} {S R : A → Type 0} → Law count t T Q → Law r s S R
    → Law (counted count r) (λ xs. t (length xs) ++ flat_map s xs) (λ xs. T (length xs) × Each S xs) (λ xs. Q (length xs) × Each R xs)
counted_law number_of law = record { taken = counted_taken number_of law; again = counted_again number_of law }

-- ---- what a law says

pub reads_spelled : {A : Type 0} {r : Reader A} {s : A → List ℕ} {S R : A → Type 0} → Law r s S R → ReadsSpelled r s S R
reads_spelled law x rest sized range = law.again x rest sized range

pub spelled_if_read : {A : Type 0} {r : Reader A} {s : A → List ℕ} {S R : A → Type 0} → Law r s S R → SpelledIfRead r s S R
spelled_if_read law bytes x rest fits e = let t = law.taken bytes x rest fits e in (t.0.parts, t.1, t.2)

pub none_begins_another : {A : Type 0} {r : Reader A} {s : A → List ℕ} {S R : A → Type 0} → Law r s S R → NoneBeginsAnother s S R
none_begins_another {A} {r} law x y rest more sized range sized' range' e =
    let p = ok_is (x, rest) (y, more) (sym (law.again x rest sized range) ∙ ap r e ∙ law.again y more sized' range') in
    (ap (λ (q : A × List ℕ). q.0) p, ap (λ (q : A × List ℕ). q.1) p)
