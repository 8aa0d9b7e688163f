-- Chunks: where each begins, a number at a place, one put in, a full chunk made two, and one begun.
use Rattle.std.proofs.Common.{◌≡◌, ℕ, zero, suc, ◌+◌, ◌-◌, ◌<◌, ◌≤◌, ◌⊎◌, inl, inr, List, [], ◌∷◌, ◌++◌, length, take, drop, map, get_or, set}
use Rattle.std.proofs.Common.{slice_get, refl, sym, ap, ◌∙◌, arith, length-append, append_assoc}
use Rattle.std.specs.Prelude.{insert}
use Rattle.std.specs.List.{concat}
use Rattle.std.proofs.lemmas.Bool.{cases_lt}
use Rattle.std.proofs.lemmas.List.{append-nil, take_all, take_rest, drop_all, get_or-drop, length-drop}
use borrow.Rule.Slice.PartMut.{put_mid}
use Rattle.std.proofs.lemmas.List.Edits.{length-insert, insert_end, insert-append_left, insert-append_right}
use Rattle.std.proofs.lemmas.List.Folds.{concat-append}
use Rattle.aw_node_list.specs.Chunks.{begins, begin_of, chunk_at, IsUnder, LiesIn, IsHalved}

length_begins : (n : ℕ) (cs : List (List ℕ)) → length (begins n cs) ≡ length cs
length_begins n [] = refl
length_begins n (c ∷ cs) = ap suc (length_begins (n + length c) cs)

-- each place is the one at which its chunk begins
get_begins : (n : ℕ) (cs : List (List ℕ)) (i d : ℕ) → i < length cs → get_or (begins n cs) i d ≡ n + begin_of cs i
get_begins n [] i d l = absurd (omega (arith, l))
get_begins n (c ∷ cs) zero d l = omega arith
get_begins n (c ∷ cs) (suc i) d l = omega (arith, get_begins (n + length c) cs i d (omega (arith, l)), length-append c (concat (take i cs)))

one_more : (i : ℕ) → i + 1 ≡ suc i
one_more i = omega arith

begin_suc : (cs : List (List ℕ)) (i : ℕ) → i < length cs → begin_of cs (suc i) ≡ begin_of cs i + length (chunk_at cs i)
begin_suc [] i l = absurd (omega (arith, l))
begin_suc (c ∷ cs) zero l = omega (arith, length-append c [])
begin_suc (c ∷ cs) (suc i) l =
    omega (arith, begin_suc cs i (omega (arith, l)), length-append c (concat (take i cs)), length-append c (concat (take (suc i) cs)))

begin_next : (cs : List (List ℕ)) (i : ℕ) → i < length cs → begin_of cs (i + 1) ≡ begin_of cs i + length (chunk_at cs i)
begin_next cs i l = ap (begin_of cs) (one_more i) ∙ begin_suc cs i l

-- a chunk ends within the numbers
pub begin_within : (cs : List (List ℕ)) (i : ℕ) → i < length cs → begin_of cs i + length (chunk_at cs i) ≤ length (concat cs)
begin_within [] i l = absurd (omega (arith, l))
begin_within (c ∷ cs) zero l = omega (arith, length-append c (concat cs))
begin_within (c ∷ cs) (suc i) l =
    omega (arith, begin_within cs i (omega (arith, l)), length-append c (concat (take i cs)), length-append c (concat cs))

-- a place under which a chunk is lies in it, or the chunk is the last one
under_cases : (cs : List (List ℕ)) (place i : ℕ) → IsUnder (begins 0 cs) place i →
    (place < begin_of cs i + length (chunk_at cs i)) ⊎ (begin_of cs i + length (chunk_at cs i) ≡ length (concat cs))
under_cases cs place i u = by (cases_lt (i + 1) (length cs))
  where
    here : i < length cs
    here = omega (arith, u.within, length_begins 0 cs)

    by : (i + 1 < length cs) ⊎ (length cs ≤ i + 1) → (place < begin_of cs i + length (chunk_at cs i)) ⊎ (begin_of cs i + length (chunk_at cs i) ≡ length (concat cs))
    by (inl l) = inl (omega (arith, u.to (omega (arith, l, length_begins 0 cs)), get_begins 0 cs (i + 1) 0 l, begin_next cs i here))
    by (inr l) = inr (sym (begin_next cs i here) ∙ ap (λ z. length (concat z)) (take_all (i + 1) cs l))

pub lies_under : (cs : List (List ℕ)) (place i : ℕ) → IsUnder (begins 0 cs) place i → place ≤ length (concat cs) → LiesIn cs place i
lies_under cs place i u le = record { within = here; from = omega (arith, u.from, get_begins 0 cs i 0 here); to = by (under_cases cs place i u) }
  where
    here : i < length cs
    here = omega (arith, u.within, length_begins 0 cs)

    by : (place < begin_of cs i + length (chunk_at cs i)) ⊎ (begin_of cs i + length (chunk_at cs i) ≡ length (concat cs)) → place ≤ begin_of cs i + length (chunk_at cs i)
    by (inl l) = omega (arith, l)
    by (inr e) = omega (arith, e, le)

-- a place before the end lies in the chunk
pub inside : (cs : List (List ℕ)) (place i : ℕ) → IsUnder (begins 0 cs) place i → place < length (concat cs) → place < begin_of cs i + length (chunk_at cs i)
inside cs place i u lt = by (under_cases cs place i u)
  where
    by : (place < begin_of cs i + length (chunk_at cs i)) ⊎ (begin_of cs i + length (chunk_at cs i) ≡ length (concat cs)) → place < begin_of cs i + length (chunk_at cs i)
    by (inl l) = l
    by (inr e) = omega (arith, e, lt)

get_front : (xs ys : List ℕ) (i : ℕ) → i < length xs → slice_get (xs ++ ys) i ≡ slice_get xs i
get_front [] ys i l = absurd (omega (arith, l))
get_front (x ∷ xs) ys zero l = refl
get_front (x ∷ xs) ys (suc i) l = get_front xs ys i (omega (arith, l))

get_back : (xs ys : List ℕ) (i k : ℕ) → k ≡ length xs + i → slice_get (xs ++ ys) k ≡ slice_get ys i
get_back [] ys i k e = ap (slice_get ys) (omega (arith, e))
get_back (x ∷ xs) ys i zero e = absurd (omega (arith, e))
get_back (x ∷ xs) ys i (suc k) e = get_back xs ys i k (omega (arith, e))

-- the number at a place is the chunk's own
pub get_number : (cs : List (List ℕ)) (i j k : ℕ) → k ≡ begin_of cs i + j → i < length cs → j < length (chunk_at cs i) → slice_get (concat cs) k ≡ slice_get (chunk_at cs i) j
get_number [] i j k e l m = absurd (omega (arith, l))
get_number (c ∷ cs) zero j k e l m =
    let same : k ≡ j = omega (arith, e) in
    ap (slice_get (c ++ concat cs)) same ∙ get_front c (concat cs) j m
get_number (c ∷ cs) (suc i) j k e l m =
    let far : k ≡ length c + (begin_of cs i + j) = omega (arith, e, length-append c (concat (take i cs))) in
    get_back c (concat cs) (begin_of cs i + j) k far ∙ get_number cs i j (begin_of cs i + j) refl (omega (arith, l)) m

begins_suc : (n m : ℕ) (cs : List (List ℕ)) → m ≡ suc n → begins m cs ≡ map suc (begins n cs)
begins_suc n m [] e = refl
begins_suc n m (c ∷ cs) e = ap (λ z. z ∷ begins (m + length c) cs) e ∙ ap (λ z. suc n ∷ z) (begins_suc (n + length c) (m + length c) cs (omega (arith, e)))

-- a number put in lets the chunks behind begin one place later
put_begins : (n : ℕ) (cs : List (List ℕ)) (i j x : ℕ) → i < length cs → j ≤ length (chunk_at cs i) →
    begins n (set cs i (insert (chunk_at cs i) j x)) ≡ take (suc i) (begins n cs) ++ map suc (drop (suc i) (begins n cs))
put_begins n [] i j x l m = absurd (omega (arith, l))
put_begins n (c ∷ cs) zero j x l m = ap (λ z. n ∷ z) (begins_suc (n + length c) (n + length (insert c j x)) cs (omega (arith, length-insert c j x m)))
put_begins n (c ∷ cs) (suc i) j x l m = ap (λ z. n ∷ z) (put_begins (n + length c) cs i j x (omega (arith, l)) m)

-- a number put into a chunk is put in among all
pub put_items : (cs : List (List ℕ)) (i j x k : ℕ) → k ≡ begin_of cs i + j → i < length cs → j ≤ length (chunk_at cs i) →
    concat (set cs i (insert (chunk_at cs i) j x)) ≡ insert (concat cs) k x
put_items [] i j x k e l m = absurd (omega (arith, l))
put_items (c ∷ cs) zero j x k e l m =
    let same : j ≡ k = omega (arith, e) in
    sym (insert-append_left c (concat cs) j x m) ∙ ap (λ z. insert (c ++ concat cs) z x) same
put_items (c ∷ cs) (suc i) j x k e l m =
    let far : k ≡ length c + (begin_of cs i + j) = omega (arith, e, length-append c (concat (take i cs))) in
    ap (λ z. c ++ z) (put_items cs i j x (k - length c) (omega (arith, far)) (omega (arith, l)) m)
    ∙ sym (insert-append_right c (concat cs) (length c) k x refl (omega (arith, far)))

-- a chunk made two
abbrev two : List (List ℕ) → ℕ → List ℕ → List ℕ → List (List ℕ)
two cs i l u = insert (set cs i l) (suc i) u

two_items : (cs : List (List ℕ)) (i : ℕ) (l u : List ℕ) → i < length cs → chunk_at cs i ≡ l ++ u → concat (two cs i l u) ≡ concat cs
two_items [] i l u lt e = absurd (omega (arith, lt))
two_items (c ∷ cs) zero l u lt e = sym (append_assoc l u (concat cs)) ∙ ap (λ z. z ++ concat cs) (sym e)
two_items (c ∷ cs) (suc i) l u lt e = ap (λ z. c ++ z) (two_items cs i l u (omega (arith, lt)) e)

two_begins : (n : ℕ) (cs : List (List ℕ)) (i : ℕ) (l u : List ℕ) → i < length cs → chunk_at cs i ≡ l ++ u →
    begins n (two cs i l u) ≡ insert (begins n cs) (suc i) (get_or (begins n cs) i 0 + length l)
two_begins n [] i l u lt e = absurd (omega (arith, lt))
two_begins n (c ∷ cs) zero l u lt e =
    let f : (n + length l) + length u ≡ n + length c = omega (arith, ap length e, length-append l u) in
    ap (λ k. n ∷ (n + length l) ∷ begins k cs) f
two_begins n (c ∷ cs) (suc i) l u lt e = ap (λ z. n ∷ z) (two_begins (n + length c) cs i l u (omega (arith, lt)) e)

two_lower : (cs : List (List ℕ)) (i : ℕ) (l u : List ℕ) → i < length cs → chunk_at (two cs i l u) i ≡ l
two_lower [] i l u lt = absurd (omega (arith, lt))
two_lower (c ∷ cs) zero l u lt = refl
two_lower (c ∷ cs) (suc i) l u lt = two_lower cs i l u (omega (arith, lt))

two_upper : (cs : List (List ℕ)) (i : ℕ) (l u : List ℕ) → i < length cs → chunk_at (two cs i l u) (suc i) ≡ u
two_upper [] i l u lt = absurd (omega (arith, lt))
two_upper (c ∷ cs) zero l u lt = refl
two_upper (c ∷ cs) (suc i) l u lt = two_upper cs i l u (omega (arith, lt))

two_begin : (cs : List (List ℕ)) (i : ℕ) (l u : List ℕ) → i < length cs → begin_of (two cs i l u) i ≡ begin_of cs i
two_begin [] i l u lt = absurd (omega (arith, lt))
two_begin (c ∷ cs) zero l u lt = refl
two_begin (c ∷ cs) (suc i) l u lt =
    omega (arith, two_begin cs i l u (omega (arith, lt)), length-append c (concat (take i cs)), length-append c (concat (take i (two cs i l u))))

two_length : (cs : List (List ℕ)) (i : ℕ) (l u : List ℕ) → i < length cs → length (two cs i l u) ≡ suc (length cs)
two_length [] i l u lt = absurd (omega (arith, lt))
two_length (c ∷ cs) zero l u lt = refl
two_length (c ∷ cs) (suc i) l u lt = omega (arith, two_length cs i l u (omega (arith, lt)))

-- the numbers stay, the second begins behind the first, and a place of the old one lies in the first or the second
pub halved_begins : (ss : List ℕ) (cs : List (List ℕ)) (i s : ℕ) (l u : List ℕ) → ss ≡ begins 0 cs → s ≡ get_or ss i 0 + length l → i < length cs → chunk_at cs i ≡ l ++ u →
    insert ss (i + 1) s ≡ begins 0 (insert (set cs i l) (i + 1) u)
halved_begins ss cs i s l u laid at lt e =
    ap (λ z. insert ss z s) (one_more i)
    ∙ ap (insert ss (suc i)) (at ∙ ap (λ z. get_or z i 0 + length l) laid)
    ∙ ap (λ z. insert z (suc i) (get_or (begins 0 cs) i 0 + length l)) laid
    ∙ sym (two_begins 0 cs i l u lt e)
    ∙ ap (λ z. begins 0 (insert (set cs i l) z u)) (sym (one_more i))

module _ (old new : List (List ℕ)) (i : ℕ) (lt : i < length old) (h : IsHalved old i new) where
  made : new ≡ two old i h.lower h.upper
  made = h.is ∙ ap (λ z. insert (set old i h.lower) z h.upper) (one_more i)

  pub halved_items : concat new ≡ concat old
  halved_items = ap concat made ∙ two_items old i h.lower h.upper lt h.whole

  start : begin_of new i ≡ begin_of old i
  start = ap (λ z. begin_of z i) made ∙ two_begin old i h.lower h.upper lt

  lower : length (chunk_at new i) ≡ 256
  lower = ap (λ z. length (chunk_at z i)) made ∙ ap length (two_lower old i h.lower h.upper lt) ∙ h.even.0

  count : length new ≡ suc (length old)
  count = ap length made ∙ two_length old i h.lower h.upper lt

  next : begin_of new (i + 1) ≡ begin_of old i + 256
  next = omega (arith, begin_next new i (omega (arith, count, lt)), start, lower)

  upper : length (chunk_at new (i + 1)) ≡ 256
  upper = ap (λ z. length (chunk_at new z)) (one_more i) ∙ ap (λ z. length (chunk_at z (suc i))) made ∙ ap length (two_upper old i h.lower h.upper lt) ∙ h.even.1

  halved_within : i + 1 < length new
  halved_within = omega (arith, count, lt)

  full : length (chunk_at old i) ≡ 512
  full = omega (arith, ap length h.whole, length-append h.lower h.upper, h.even.0, h.even.1)

  module _ (place : ℕ) (lies : LiesIn old place i) where
    pub lies_first : place ≤ begin_of new (i + 1) → LiesIn new place i
    lies_first le = record { within = omega (arith, halved_within); from = omega (arith, start, lies.from); to = omega (arith, next, start, lower, le) }

    pub lies_second : begin_of new (i + 1) < place → LiesIn new place (i + 1)
    lies_second gt = record { within = halved_within; from = omega (arith, gt); to = omega (arith, next, upper, lies.to, full) }

-- an empty chunk behind the others: the numbers stay, and it begins behind them
pub begun_items : (cs : List (List ℕ)) → concat (cs ++ [] ∷ []) ≡ concat cs
begun_items cs = concat-append cs ([] ∷ []) ∙ append-nil (concat cs)

begun_begins : (n : ℕ) (cs : List (List ℕ)) → begins n (cs ++ [] ∷ []) ≡ begins n cs ++ (n + length (concat cs)) ∷ []
begun_begins n [] = ap (λ k. k ∷ []) (omega arith)
begun_begins n (c ∷ cs) =
    let e : (n + length c) + length (concat cs) ≡ n + length (c ++ concat cs) = omega (arith, length-append c (concat cs)) in
    ap (λ z. n ∷ z) (begun_begins (n + length c) cs ∙ ap (λ k. begins (n + length c) cs ++ k ∷ []) e)

-- the places at which chunks begin, where they are told by a list of their own
module _ (ss : List ℕ) (cs : List (List ℕ)) (laid : ss ≡ begins 0 cs) where
  pub length_starts : length ss ≡ length cs
  length_starts = ap length laid ∙ length_begins 0 cs

  pub start_is : (i d : ℕ) → i < length cs → get_or ss i d ≡ begin_of cs i
  start_is i d l = omega (arith, ap (λ z. get_or z i d) laid, get_begins 0 cs i d l)

  pub first_start : 0 < length cs → get_or ss 0 0 ≡ 0
  first_start l = start_is 0 0 l

  pub few_behind : (i m : ℕ) → length (concat cs) < m → (k d : ℕ) → k < length (drop i ss) → get_or (drop i ss) k d < m
  few_behind i m l k d le =
      let here : i + k < length cs = omega (arith, le, length-drop i ss, length_starts) in
      omega (arith, get_or-drop i ss k d, start_is (i + k) d here, begin_within cs (i + k) here, l)

  -- those behind a chunk, counted up where a number was put into it
  pub put_laid : (i j x k : ℕ) (ys new : List ℕ) → k ≡ length ss - (i + 1) → ys ≡ map suc (take k (drop (i + 1) ss)) → new ≡ insert (chunk_at cs i) j x → i < length cs → j ≤ length (chunk_at cs i) →
      put_mid (i + 1) k ss ys ≡ begins 0 (set cs i new)
  put_laid i j x k ys new e f g l m =
      let all : ys ≡ map suc (drop (i + 1) ss) = f ∙ ap (λ z. map suc (take z (drop (i + 1) ss))) e ∙ ap (map suc) (take_rest ss (i + 1)) in
      let none : drop k (drop (i + 1) ss) ≡ [] = drop_all k (drop (i + 1) ss) (omega (arith, e, length-drop (i + 1) ss)) in
      ap (λ z. take (i + 1) ss ++ (ys ++ z)) none
      ∙ ap (λ z. take (i + 1) ss ++ z) (append-nil ys ∙ all)
      ∙ ap (λ z. take (i + 1) z ++ map suc (drop (i + 1) z)) laid
      ∙ ap (λ z. take z (begins 0 cs) ++ map suc (drop z (begins 0 cs))) (one_more i)
      ∙ sym (put_begins 0 cs i j x l m)
      ∙ ap (λ z. begins 0 (set cs i z)) (sym g)

-- where there is a number there is a chunk
pub some_chunk : (cs : List (List ℕ)) (place : ℕ) → place < length (concat cs) → 0 < length cs
some_chunk [] place l = absurd (omega (arith, l))
some_chunk (c ∷ cs) place l = omega arith

-- a chunk begun: the places stay told, and the numbers stay
module _ (ss : List ℕ) (cs : List (List ℕ)) (i s : ℕ) (new : List ℕ) (laid : ss ≡ begins 0 cs) (last : i ≡ length cs) (behind : s ≡ length (concat cs)) (empty : new ≡ []) where
  begun : insert cs i new ≡ cs ++ [] ∷ []
  begun = ap (λ z. insert cs z new) last ∙ insert_end cs new ∙ ap (λ z. cs ++ z ∷ []) empty

  pub begun_laid : insert ss i s ≡ begins 0 (insert cs i new)
  begun_laid =
      let end : s ≡ 0 + length (concat cs) = omega (arith, behind) in
      ap (λ z. insert ss z s) (last ∙ sym (length_starts ss cs laid))
      ∙ insert_end ss s
      ∙ ap (λ z. z ++ s ∷ []) laid
      ∙ ap (λ k. begins 0 cs ++ k ∷ []) end
      ∙ sym (begun_begins 0 cs)
      ∙ ap (begins 0) (sym begun)

  pub begun_same : concat (insert cs i new) ≡ concat cs
  begun_same = ap concat begun ∙ begun_items cs
