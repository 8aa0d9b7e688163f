-- What is known of a reply as its bytes come.
use Rattle.std.proofs.Common.{◌≡◌, ℕ, zero, suc, ◌+◌, ◌-◌, ◌<◌, ◌≤◌, Bool, true, false, cond, List, [], ◌∷◌, ◌++◌, length, take, drop, Some, None, Result, Ok, Err, refl, sym, ap, ◌∙◌, arith}
use Rattle.std.specs.Prelude.{nat_le, nat_lt, ◌==◌, ◌||◌}
use Rattle.std.specs.Int.{w32, from_be_bytes}
use Rattle.std.proofs.lemmas.Bool.{ltb-true, ltb-false, lt-ltb, le-ltb, leb-true, eqb-true}
use Rattle.std.proofs.lemmas.List.{length-append, length-drop, take-append-le}
use Rattle.aw_list.proofs.Everyday.{some-inj as some-is}
use Rattle.aw_term.specs.Rules.{Grammar}
use Rattle.aw_codec.specs.Reading.{Fault, Short, Bad, ◌>>=◌, number}
use Rattle.aw_codec.proofs.Laws.{ok_is}
use Rattle.aw_law_nodes.specs.Couriers.{Heard}
use Rattle.aw_courier.specs.Replies.{may_have, fits_length, heard_in, known, payload_at, reply, IsNone, size_with, size_from, IsSized}
use Rattle.aw_courier.specs.declared.replies.Request.{Request}

-- ---- the reply by its parts

-- the length, where it was read so and fits the kind
abbrev pub lengthed : ℕ → List ℕ → Result (ℕ × List ℕ) Fault → Result (ℕ × List ℕ) Fault
lengthed kind rest num = num >>= λ x. cond (fits_length kind x.0) (Ok x) (Err (Bad (length rest)))

-- what stands behind the kind, where its length was read so
abbrev pub sized : Grammar → ℕ → List ℕ → Result (ℕ × List ℕ) Fault → Result (Heard × List ℕ) Fault
sized g kind rest num = lengthed kind rest num >>= λ n. payload_at g kind n.0 n.1

-- the kind, where it was judged so
abbrev pub kinded : ℕ → List ℕ → Bool → Result (ℕ × List ℕ) Fault
kinded kind rest b = cond b (Ok (kind, rest)) (Err (Bad (suc (length rest))))

-- the whole, where the kind was judged so
abbrev pub begun : Grammar → ℕ → List ℕ → Bool → Result (Heard × List ℕ) Fault
begun g kind rest b = kinded kind rest b >>= λ k. sized g k.0 k.1 (number w32 k.1)

-- a number of four bytes, where it was judged so whether they are there
abbrev pub numbered : List ℕ → Bool → Result (ℕ × List ℕ) Fault
numbered rest b = cond b (Err Short) (Ok (from_be_bytes w32 (take 4 rest), drop 4 rest))

-- a length that fits, where it was judged so
abbrev pub fitted : List ℕ → ℕ × List ℕ → Bool → Result (ℕ × List ℕ) Fault
fitted rest x b = cond b (Ok x) (Err (Bad (length rest)))

pub reply-parts : (g : Grammar) (request : Request) (kind : ℕ) (rest : List ℕ) → reply g request (kind ∷ rest) ≡ begun g kind rest (may_have request kind)
unfolding reply
reply-parts g request kind rest = refl

pub reply-nothing : (g : Grammar) (request : Request) → reply g request [] ≡ Err Short
unfolding reply
reply-nothing g request = refl

-- a length that was not read, and one that was
number-short : (rest : List ℕ) (e : Fault) → number w32 rest ≡ Err e → (e ≡ Short) × (length rest < 4)
number-short rest e h = go (nat_lt (length rest) 4) refl h
  where
    go : (b : Bool) → nat_lt (length rest) 4 ≡ b → numbered rest b ≡ Err e → (e ≡ Short) × (length rest < 4)
    go true t h = (cc, ltb-true (length rest) 4 t)
    go false t h = absurd cc

pub number-long : (rest : List ℕ) (x : ℕ × List ℕ) → number w32 rest ≡ Ok x → (4 ≤ length rest) × (x ≡ (from_be_bytes w32 (take 4 rest), drop 4 rest))
number-long rest x h = go (nat_lt (length rest) 4) refl h
  where
    go : (b : Bool) → nat_lt (length rest) 4 ≡ b → numbered rest b ≡ Ok x → (4 ≤ length rest) × (x ≡ (from_be_bytes w32 (take 4 rest), drop 4 rest))
    go true t h = absurd cc
    go false t h = (ltb-false (length rest) 4 t, sym (ok_is _ _ h))

-- ---- no reply begins so

none-sized : (g : Grammar) (kind : ℕ) (rest : List ℕ) (num : Result (ℕ × List ℕ) Fault) → size_with kind num ≡ None → IsNone (sized g kind rest num)
none-sized g kind rest (Err e) h = absurd cc
none-sized g kind rest (Ok x) h = go (fits_length kind x.0) h
  where
    go : (b : Bool) → cond b (Some (5 + x.0)) None ≡ None → IsNone (fitted rest x b >>= λ n. payload_at g kind n.0 n.1)
    go true h = absurd cc
    go false h = (length rest, refl)

pub none-begins : (g : Grammar) (request : Request) (bytes : List ℕ) → size_from request bytes ≡ None → IsNone (reply g request bytes)
none-begins g request [] h = absurd cc
none-begins g request (kind ∷ rest) h = rw (reply-parts g request kind rest) (go (may_have request kind) h)
  where
    go : (b : Bool) → cond b (size_with kind (number w32 rest)) None ≡ None → IsNone (begun g kind rest b)
    go true h = none-sized g kind rest (number w32 rest) h
    go false h = (suc (length rest), refl)

-- ---- more is to come

short-sized : (g : Grammar) (kind : ℕ) (rest : List ℕ) (num : Result (ℕ × List ℕ) Fault) (n : ℕ) → number w32 rest ≡ num → size_with kind num ≡ Some
    n → suc (length rest) < n → sized g kind rest num ≡ Err Short
short-sized g kind rest (Err e) n i h lt = ap Err (number-short rest e i).0
short-sized g kind rest (Ok x) n i h lt = go (fits_length kind x.0) h
  where
    long : (4 ≤ length rest) × (x ≡ (from_be_bytes w32 (take 4 rest), drop 4 rest))
    long = number-long rest x i

    behind-is : length x.1 ≡ length rest - 4
    behind-is = ap (λ (p : ℕ × List ℕ). length p.1) long.1 ∙ length-drop 4 rest

    go : (b : Bool) → cond b (Some (5 + x.0)) None ≡ Some n → (fitted rest x b >>= λ n. payload_at g kind n.0 n.1) ≡ Err Short
    go true h =
        let e : 5 + x.0 ≡ n = some-is h in
        ap (λ b. cond b (Err Short) (known (length x.1) (heard_in g kind (take x.0 x.1)) (drop x.0 x.1))) (lt-ltb (length x.1) x.0 (omega (arith, e, lt, long.0, behind-is)))
    go false h = absurd cc

pub short-of : (g : Grammar) (request : Request) (bytes : List ℕ) (n : ℕ) → size_from request bytes ≡ Some n → length bytes < n → reply g request bytes ≡ Err Short
short-of g request [] n h lt = reply-nothing g request
short-of g request (kind ∷ rest) n h lt = reply-parts g request kind rest ∙ go (may_have request kind) h
  where
    go : (b : Bool) → cond b (size_with kind (number w32 rest)) None ≡ Some n → begun g kind rest b ≡ Err Short
    go true h = short-sized g kind rest (number w32 rest) n refl h (omega (arith, lt))
    go false h = absurd cc

-- ---- all of it is there

-- the bytes of a reply of a whole length
pub record IsWhole (request : Request) (bytes : List ℕ) : Type 0 where
  pub kind : ℕ
  pub rest : List ℕ
  pub count : ℕ
  pub payload : List ℕ
  pub bytes_are : bytes ≡ kind ∷ rest
  pub may : may_have request kind ≡ true
  pub long : 4 ≤ length rest
  pub number_is : number w32 rest ≡ Ok (count, payload)
  pub payload_is : payload ≡ drop 4 rest
  pub fits : fits_length kind count ≡ true
  pub counted : length payload ≡ count
  pub reply_is : (g : Grammar) → reply g request bytes ≡ known count (heard_in g kind payload) []

pub take-all : (n : ℕ) (xs : List ℕ) → length xs ≡ n → take n xs ≡ xs
take-all zero [] e = refl
take-all zero (x ∷ xs) e = absurd cc
take-all (suc n) [] e = refl
take-all (suc n) (x ∷ xs) e = ap (λ ys. x ∷ ys) (take-all n xs cc)

drop-all : (n : ℕ) (xs : List ℕ) → length xs ≡ n → drop n xs ≡ []
drop-all zero [] e = refl
drop-all zero (x ∷ xs) e = absurd cc
drop-all (suc n) [] e = refl
drop-all (suc n) (x ∷ xs) e = drop-all n xs cc

whole-sized : (g : Grammar) (kind : ℕ) (rest : List ℕ) (count : ℕ) (payload : List ℕ) → fits_length kind count ≡ true → length payload ≡ count →
    sized g kind rest (Ok (count, payload)) ≡ known count (heard_in g kind payload) []
whole-sized g kind rest count payload fits e =
    ap (λ b. fitted rest (count, payload) b >>= λ n. payload_at g kind n.0 n.1) fits
    ∙ ap (λ b. cond b (Err Short) (known (length payload) (heard_in g kind (take count payload)) (drop count payload))) (le-ltb (length payload) count (omega (arith, e)))
    ∙ ap (λ n. known n (heard_in g kind (take count payload)) (drop count payload)) e
    ∙ ap (λ xs. known count (heard_in g kind xs) (drop count payload)) (take-all count payload e)
    ∙ ap (λ xs. known count (heard_in g kind payload) xs) (drop-all count payload e)

pub whole-of : (request : Request) (bytes : List ℕ) → IsSized request bytes → IsWhole request bytes
whole-of request [] h = absurd (let e : 5 ≡ 0 = some-is h in cc)
whole-of request (kind ∷ rest) h = go (may_have request kind) refl h
  where
    go2 : (num : Result (ℕ × List ℕ) Fault) → number w32 rest ≡ num → may_have request kind ≡ true → size_with kind num ≡ Some (suc (length rest)) → IsWhole request (kind ∷ rest)
    go2 (Err e) i may h = absurd (let s = (number-short rest e i).1 in let t : 5 ≡ suc (length rest) = some-is h in omega (arith, s, t))
    go2 (Ok x) i may h = go3 (fits_length kind x.0) refl h
      where
        long : (4 ≤ length rest) × (x ≡ (from_be_bytes w32 (take 4 rest), drop 4 rest))
        long = number-long rest x i

        behind-is : length x.1 ≡ length rest - 4
        behind-is = ap (λ (p : ℕ × List ℕ). length p.1) long.1 ∙ length-drop 4 rest

        go3 : (b : Bool) → fits_length kind x.0 ≡ b → cond b (Some (5 + x.0)) None ≡ Some (suc (length rest)) → IsWhole request (kind ∷ rest)
        go3 true fits h =
            let t : 5 + x.0 ≡ suc (length rest) = some-is h in
            let counted : length x.1 ≡ x.0 = omega (arith, t, long.0, behind-is) in
            record {
              kind = kind;
              rest = rest;
              count = x.0;
              payload = x.1;
              bytes_are = refl;
              may = may;
              long = long.0;
              number_is = i;
              payload_is = ap (λ (p : ℕ × List ℕ). p.1) long.1;
              fits = fits;
              counted = counted;
              reply_is = λ g. reply-parts g request kind rest ∙ ap (λ b. begun g kind rest b) may ∙ ap (λ num. sized g kind rest num) i ∙ whole-sized g kind rest x.0 x.1 fits counted;
            }
        go3 false fits h = absurd cc

    go : (b : Bool) → may_have request kind ≡ b → cond b (size_with kind (number w32 rest)) None ≡ Some (suc (length rest)) → IsWhole request (kind ∷ rest)
    go true may h = go2 (number w32 rest) refl may h
    go false may h = absurd cc

-- ---- how long it may be

fits-few : (kind n : ℕ) → fits_length kind n ≡ true → n ≤ 1048576
fits-few kind n e = go (kind == 3 || kind == 7) (kind == 10) e
  where
    go : (a b : Bool) → cond a (nat_le n 1048576) (cond b (n == 8) (n == 0)) ≡ true → n ≤ 1048576
    go true b e = leb-true n 1048576 e
    go false true e = omega (arith, eqb-true n 8 e)
    go false false e = omega (arith, eqb-true n 0 e)

pub size-within : (request : Request) (bytes : List ℕ) (n : ℕ) → size_from request bytes ≡ Some n → (5 ≤ n) × (n ≤ 1048581)
size-within request [] n h = let e : 5 ≡ n = some-is h in (omega (arith, e), omega (arith, e))
size-within request (kind ∷ rest) n h = go (may_have request kind) h
  where
    go2 : (num : Result (ℕ × List ℕ) Fault) → size_with kind num ≡ Some n → (5 ≤ n) × (n ≤ 1048581)
    go2 (Err e) h = let e : 5 ≡ n = some-is h in (omega (arith, e), omega (arith, e))
    go2 (Ok x) h = go3 (fits_length kind x.0) refl h
      where
        go3 : (b : Bool) → fits_length kind x.0 ≡ b → cond b (Some (5 + x.0)) None ≡ Some n → (5 ≤ n) × (n ≤ 1048581)
        go3 true fits h = let e : 5 + x.0 ≡ n = some-is h in let few = fits-few kind x.0 fits in (omega (arith, e), omega (arith, e, few))
        go3 false fits h = absurd cc

    go : (b : Bool) → cond b (size_with kind (number w32 rest)) None ≡ Some n → (5 ≤ n) × (n ≤ 1048581)
    go true h = go2 (number w32 rest) h
    go false h = absurd cc

-- ---- no more is read than a reply has

-- as far as the length is known, no byte behind it was read
abbrev pub IsWithin : Request → List ℕ → Type 0
IsWithin request bytes = (n : ℕ) → size_from request bytes ≡ Some n → length bytes ≤ n

abbrev okay : List ℕ → List ℕ → Result (ℕ × List ℕ) Fault
okay xs ys = Ok (from_be_bytes w32 xs, ys)

pub number-more : (rest more : List ℕ) → 4 ≤ length rest → (y : List ℕ) × (number w32 (rest ++ more) ≡ Ok (from_be_bytes w32 (take 4 rest), y))
number-more rest more long = (
  drop 4 (rest ++ more),
  ap (λ b. numbered (rest ++ more) b) (le-ltb (length (rest ++ more)) 4 (omega (arith, long, length-append rest more)))
      ∙ ap (λ xs. okay xs (drop 4 (rest ++ more))) (take-append-le 4 rest more long),
)

pub within-more : (request : Request) (bytes more : List ℕ) (n : ℕ) → size_from request bytes ≡ Some n → length more ≤ n - length bytes → length bytes ≤ n → IsWithin request (bytes ++ more)
within-more request [] more n h few le = λ m k. let e : 5 ≡ n = some-is h in let w = (size-within request more m k).0 in omega (arith, few, e, w)
within-more request (kind ∷ rest) more n h few le = go (may_have request kind) refl h
  where
    Goal : Type 0
    Goal = IsWithin request (kind ∷ (rest ++ more))

    len : length (kind ∷ (rest ++ more)) ≡ suc (length rest + length more)
    len = ap suc (length-append rest more)

    go2 : (num : Result (ℕ × List ℕ) Fault) → number w32 rest ≡ num → may_have request kind ≡ true → size_with kind num ≡ Some n → IsWithin request (kind ∷ (rest ++ more))
    go2 (Err e) i may h = λ m k. let t : 5 ≡ n = some-is h in let w = (size-within request (kind ∷ (rest ++ more)) m k).0 in omega (arith, few, le, t, w, len)
    go2 (Ok x) i may h = λ m k.
        let long = number-long rest x i in
        let next = number-more rest more long.0 in
        let same : size_from request (kind ∷ (rest ++ more)) ≡ size_from request (kind ∷ rest) =
        ap (λ b. cond b (size_with kind (number w32 (rest ++ more))) None) may ∙ ap (λ num. size_with kind num) next.1
        ∙ ap (λ (p : ℕ × List ℕ). cond (fits_length kind p.0) (Some (5 + p.0)) None) (sym long.1)
        ∙ sym (ap (λ b. cond b (size_with kind (number w32 rest)) None) may ∙ ap (λ num. size_with kind num) i) in
        let m-is : m ≡ n = some-is (sym k ∙ same ∙ (ap (λ b. cond b (size_with kind (number w32 rest)) None) may ∙ ap (λ num. size_with kind num) i ∙ h)) in
        omega (arith, few, le, m-is, len)

    go : (b : Bool) → may_have request kind ≡ b → cond b (size_with kind (number w32 rest)) None ≡ Some n → IsWithin request (kind ∷ (rest ++ more))
    go true may h = go2 (number w32 rest) refl may h
    go false may h = absurd cc
