-- What is read of texts and arguments is spelled so, and what is spelled so is read.
use Rattle.std.proofs.Common.{◌≡◌, ℕ, zero, suc, ◌+◌, ◌-◌, ◌<◌, ◌≤◌, ◌^◌, max, true, List, [], ◌∷◌, ◌++◌, length, Ok, refl, sym, ap, subst, ◌∙◌, append_assoc, arith}
use Rattle.std.specs.List.{flat_map, list_all}
use Rattle.std.specs.Int.{w16, to_be_bytes}
use Rattle.std.proofs.lemmas.Bool.{and_parts, and_from, leb-true, le-leb}
use Rattle.std.proofs.lemmas.List.{map-id}
use Rattle.std.proofs.lemmas.List.Concat.{flat_map-cons, flat_map_single}
use Rattle.aw_spelling.specs.Spelling.{is_content_byte}
use Rattle.aw_term.specs.Trees.{Never, Head, Con, Num, Text, Leaf, Made, Trees, Nil, More, join, count}
use Rattle.aw_term.specs.Rules.{Ground}
use Rattle.aw_term.specs.WellFormed.{Each, symbols, all_symbols, symbols_of, nesting, all_nesting}
use Rattle.aw_term.proofs.Joined.{count_join, symbols_join}
use Rattle.aw_term.specs.Limits.{most_parts, most_arguments, most_levels, most_symbols}
use Rattle.aw_codec.specs.Bytes.{AreBytes}
use Rattle.aw_codec.specs.Reading.{◌>>=◌, byte, number, such_that, both}
use Rattle.aw_codec.specs.Names.{is_at_most}
use Rattle.aw_codec.specs.Texts.{spelled_text, text}
use Rattle.aw_codec.specs.Grounds.{spelled_head, spelled_ground, spelled_parts, spelled_grounds, head, in_turn, with_parts, ground, arguments}
use Rattle.aw_codec.specs.Ranges.{TextSized, TextInRange, HeadSized, HeadInRange, GroundSized, PartsSized, HeadsInRange, PartsInRange, GroundInRange, GroundsSized, GroundsInRange}
use Rattle.aw_codec.proofs.Laws.{Law, Takes, Takes-then, Takes-tag, AreBytes-rest, bind_ok, ok_is, byte_law, number16, number64, such_that_law, both_law, seen_taken, seen_again, restated, counted_law}
use Rattle.aw_codec.proofs.Turns.{ground_step}

-- ---- texts

abbrev AreContent : List ℕ → Type 0
AreContent bytes = Each (λ b. Unit {0} × (is_content_byte b ≡ true)) bytes

content_holds : (bytes : List ℕ) → list_all is_content_byte bytes ≡ true → AreContent bytes
content_holds [] e = tt
content_holds (b ∷ bytes) e = let p = and_parts (is_content_byte b) (list_all is_content_byte bytes) e in ((tt, p.0), content_holds bytes p.1)

content_tests : (bytes : List ℕ) → AreContent bytes → list_all is_content_byte bytes ≡ true
content_tests [] h = refl
content_tests (b ∷ bytes) h = and_from (is_content_byte b) (list_all is_content_byte bytes) h.0.1 (content_tests bytes h.1)

pub text_law : Law text spelled_text TextSized TextInRange
unfolding text
text_law = restated spelled_text TextSized TextInRange (λ t. ap (λ (u : List ℕ). to_be_bytes w16 (length t) ++ u) (flat_map_single (λ b. b) t ∙ map-id t))
    (λ t sized range. (sized.1, and_from (is_at_most 1024 (length t)) (list_all is_content_byte t) range.0.1 (content_tests t range.1)))
    (λ t sized range. let p = and_parts (is_at_most 1024 (length t)) (list_all is_content_byte t) range in ((short t p.0, sized), ((tt, p.0), content_holds t p.1)))
    (counted_law (such_that_law (is_at_most 1024) number16) (such_that_law is_content_byte byte_law))
  where
    short : (t : List ℕ) → is_at_most 1024 (length t) ≡ true → length t < 2 ^ 16
    short t e = let le = leb-true (length t) 1024 e in omega arith

-- ---- heads

abbrev HeadTakes : List ℕ → List ℕ → Head × ℕ → Type 0
HeadTakes bytes rest x = Takes bytes (spelled_head x.0 x.1) rest × HeadSized x.0 × HeadInRange x.0 x.1

con_law : Law (both (number w16) (such_that (is_at_most most_parts) byte)) (λ x. to_be_bytes w16 x.0 ++ x.1 ∷ []) (λ x. (x.0 < 2 ^ 16)
    × (x.1 < 2 ^ 8)) (λ x. Unit {0} × (Unit {0} × (is_at_most most_parts x.1 ≡ true)))
con_law = both_law number16 (such_that_law (is_at_most most_parts) byte_law)

head_taken : (bytes : List ℕ) (x : Head × ℕ) (rest : List ℕ) → AreBytes bytes → head bytes ≡ Ok (x, rest) → HeadTakes bytes rest x
unfolding head
head_taken [] x rest fits e = absurd cc
head_taken (zero ∷ bytes) x rest fits e = absurd cc
head_taken (suc zero ∷ bytes) x rest fits e =
    let t = seen_taken (λ y. (Con y.0, y.1)) con_law bytes x rest (AreBytes-rest 1 bytes fits) e in
    subst (HeadTakes (1 ∷ bytes) rest) t.1 (Takes-tag 1 bytes (to_be_bytes w16 t.0.0 ++ t.0.1 ∷ []) rest t.2, t.3.0, leb-true t.0.1 most_parts t.4.1.1)
head_taken (suc (suc zero) ∷ bytes) x rest fits e =
    let t = seen_taken (λ n. (Num n, 0)) number64 bytes x rest (AreBytes-rest 2 bytes fits) e in
    subst (HeadTakes (2 ∷ bytes) rest) t.1 (Takes-tag 2 bytes _ rest t.2, t.3, refl)
head_taken (suc (suc (suc zero)) ∷ bytes) x rest fits e =
    let t = seen_taken (λ u. (Text u, 0)) text_law bytes x rest (AreBytes-rest 3 bytes fits) e in
    subst (HeadTakes (3 ∷ bytes) rest) t.1 (Takes-tag 3 bytes (spelled_text t.0) rest t.2, t.3, (refl, t.4))
head_taken (suc (suc (suc (suc b))) ∷ bytes) x rest fits e = absurd cc

head_again : (h : Head) (n : ℕ) (rest : List ℕ) → HeadSized h → HeadInRange h n → head (spelled_head h n ++ rest) ≡ Ok ((h, n), rest)
unfolding head
head_again (Con c) n rest sized range = seen_again (λ y. (Con y.0, y.1)) con_law (c, n) rest (sized, omega arith) (tt, (tt, le-leb n most_parts range))
head_again (Num m) n rest sized range = seen_again (λ k. (Num k, 0)) number64 m rest sized tt ∙ ap (λ k. Ok ((Num m, k), rest)) (sym range)
head_again (Text t) n rest sized range = seen_again (λ u. (Text u, 0)) text_law t rest sized range.1 ∙ ap (λ k. Ok ((Text t, k), rest)) (sym range.0)

-- ---- what is read of terms

record GroundTakes (levels allowed : ℕ) (bytes : List ℕ) (t : Ground) (left : ℕ) (rest : List ℕ) : Type 0 where
  text : Takes bytes (spelled_ground t) rest
  sized : GroundSized t
  range : GroundInRange levels t
  uses : symbols t + left ≡ allowed

record TurnTakes (levels n allowed : ℕ) (bytes : List ℕ) (ts : List Ground) (left : ℕ) (rest : List ℕ) : Type 0 where
  text : Takes bytes (flat_map spelled_ground ts) rest
  many : length ts ≡ n
  sized : Each GroundSized ts
  range : Each (GroundInRange levels) ts
  uses : symbols_of ts + left ≡ allowed

abbrev ItemTakes : ℕ → Type 0
ItemTakes levels = (allowed : ℕ) (bytes : List ℕ) (x : Ground × ℕ) (rest : List ℕ) → AreBytes bytes → ground levels allowed bytes ≡ Ok (x, rest) → GroundTakes levels allowed bytes x.0 x.1 rest

turn_taken : (levels : ℕ) → ItemTakes levels → (n allowed : ℕ) (bytes : List ℕ) (xs : List Ground × ℕ) (rest : List ℕ) → AreBytes bytes →
    in_turn (ground levels) n allowed bytes ≡ Ok (xs, rest) → TurnTakes levels n allowed bytes xs.0 xs.1 rest
turn_taken levels item zero allowed bytes xs rest fits e =
    subst (λ (y : (List Ground × ℕ) × List ℕ). TurnTakes levels 0 allowed bytes y.0.0 y.0.1 y.1) (ok_is (([], allowed), bytes) (xs, rest) e)
    (record { text = record { parts = refl; rest_bytes = fits }; many = refl; sized = tt; range = tt; uses = omega arith })
turn_taken levels item (suc n) allowed bytes xs rest fits e =
    let a = bind_ok (ground levels allowed bytes) (λ x. in_turn (ground levels) n x.0.1 x.1 >>= λ ys. Ok ((x.0.0 ∷ ys.0.0, ys.0.1), ys.1)) (xs, rest) e in
    let b = bind_ok (in_turn (ground levels) n a.0.0.1 a.0.1) (λ ys. Ok ((a.0.0.0 ∷ ys.0.0, ys.0.1), ys.1)) (xs, rest) a.2 in
    let first = item allowed bytes a.0.0 a.0.1 fits a.1 in
    let second = turn_taken levels item n a.0.0.1 a.0.1 b.0.0 b.0.1 first.text.rest_bytes b.1 in
    let joined = Takes-then bytes (spelled_ground a.0.0.0) a.0.1 (flat_map spelled_ground b.0.0.0) b.0.1 first.text second.text in
    subst (λ (y : (List Ground × ℕ) × List ℕ). TurnTakes levels (suc n) allowed bytes y.0.0 y.0.1 y.1) (ok_is ((a.0.0.0 ∷ b.0.0.0, b.0.0.1), b.0.1) (xs, rest) b.2)
    (record {
      text = rw flat_map-cons joined;
      many = ap suc second.many;
      sized = (first.sized, second.sized);
      range = (first.range, second.range);
      uses = adds (symbols a.0.0.0) (symbols_of b.0.0.0) b.0.0.1 a.0.0.1 allowed first.uses second.uses;
    })
  where
    adds : (a b left middle allowed : ℕ) → a + middle ≡ allowed → b + left ≡ middle → (a + b) + left ≡ allowed
    adds a b left middle allowed e f = omega arith

-- the parts of a constructor as a list
pub parts_join : (ts : List Ground) → spelled_parts (join ts) ≡ flat_map spelled_ground ts
parts_join [] = refl
parts_join (t ∷ ts) = ap (λ (u : List ℕ). spelled_ground t ++ u) (parts_join ts) ∙ sym (flat_map-cons spelled_ground t ts)

pub sized_join : (ts : List Ground) → Each GroundSized ts → PartsSized (join ts)
sized_join [] h = tt
sized_join (t ∷ ts) h = (h.0, sized_join ts h.1)

range_join : (levels : ℕ) (ts : List Ground) → Each (GroundInRange levels) ts → PartsInRange (join ts)
range_join levels [] h = tt
range_join levels (t ∷ ts) h = (h.0.0, range_join levels ts h.1)

max_below : (a b n : ℕ) → a ≤ n → b ≤ n → max a b ≤ n
max_below a b n e f = grind arith

nesting_join : (levels : ℕ) (ts : List Ground) → Each (GroundInRange levels) ts → all_nesting (join ts) ≤ levels
nesting_join levels [] h = omega arith
nesting_join levels (t ∷ ts) h = max_below (nesting t) (all_nesting (join ts)) levels h.0.1 (nesting_join levels ts h.1)

made_taken : (levels allowed : ℕ) (bytes : List ℕ) (h : Head) (ts : List Ground) (left : ℕ) (behind rest : List ℕ) →
    Takes bytes (spelled_head h (length ts)) behind → HeadSized h → HeadInRange h (length ts)
    → TurnTakes levels (length ts) allowed behind ts left rest → GroundTakes (suc levels) (suc allowed) bytes (Made h (join ts)) left rest
made_taken levels allowed bytes h ts left behind rest front sized range turn =
    record {
      text = subst (λ (u : List ℕ). Takes bytes u rest) (ap (λ n. spelled_head h n ++ flat_map spelled_ground ts) (sym (count_join ts))
          ∙ ap (λ (u : List ℕ). spelled_head h (count (join ts)) ++ u) (sym (parts_join ts)))
          (Takes-then bytes (spelled_head h (length ts)) behind (flat_map spelled_ground ts) rest front turn.text);
      sized = (sized, sized_join ts turn.sized);
      range = ((subst (HeadInRange h) (sym (count_join ts)) range, range_join levels ts turn.range), deeper (all_nesting (join ts)) levels (nesting_join levels ts turn.range));
      uses = one_more (all_symbols (join ts)) (symbols_of ts) left allowed (symbols_join ts) turn.uses;
    }
  where
    deeper : (n levels : ℕ) → n ≤ levels → suc n ≤ suc levels
    deeper n levels h = omega arith

    one_more : (n m left allowed : ℕ) → n ≡ m → m + left ≡ allowed → suc n + left ≡ suc allowed
    one_more n m left allowed e f = omega arith

ground_taken : (levels : ℕ) → ItemTakes levels
unfolding ground
ground_taken zero allowed [] x rest fits e = absurd cc
ground_taken zero allowed (b ∷ bytes) x rest fits e = absurd cc
ground_taken (suc levels) zero [] x rest fits e = absurd cc
ground_taken (suc levels) zero (b ∷ bytes) x rest fits e = absurd cc
ground_taken (suc levels) (suc allowed) bytes x rest fits e =
    let a = bind_ok (head bytes) (λ h. with_parts (ground levels) h.0 allowed h.1) (x, rest) e in
    let b = bind_ok (in_turn (ground levels) a.0.0.1 allowed a.0.1) (λ ts. Ok ((Made a.0.0.0 (join ts.0.0), ts.0.1), ts.1)) (x, rest) a.2 in
    let front = head_taken bytes a.0.0 a.0.1 fits a.1 in
    let turn = turn_taken levels (ground_taken levels) a.0.0.1 allowed a.0.1 b.0.0 b.0.1 front.0.rest_bytes b.1 in
    let many = sym turn.many in
    subst (λ (y : (Ground × ℕ) × List ℕ). GroundTakes (suc levels) (suc allowed) bytes y.0.0 y.0.1 y.1) (ok_is ((Made a.0.0.0 (join b.0.0.0), b.0.0.1), b.0.1) (x, rest) b.2)
    (made_taken levels allowed bytes a.0.0.0 b.0.0.0 b.0.0.1 a.0.1 b.0.1
    (subst (λ n. Takes bytes (spelled_head a.0.0.0 n) a.0.1) many front.0) front.1 (subst (HeadInRange a.0.0.0) many front.2)
    (subst (λ n. TurnTakes levels n allowed a.0.1 b.0.0.0 b.0.0.1 b.0.1) many turn))

-- ---- what is spelled is read

abbrev list_of : Trees Never → List Ground
list_of Nil = []
list_of (More t ts) = t ∷ list_of ts

join_list : (ts : Trees Never) → join (list_of ts) ≡ ts
join_list Nil = refl
join_list (More t ts) = ap (More t) (join_list ts)

left_fits : (a b n : ℕ) → max a b ≤ n → a ≤ n
left_fits a b n e = grind arith

right_fits : (a b n : ℕ) → max a b ≤ n → b ≤ n
right_fits a b n e = grind arith

made_again : (h : Head) (ts : Trees Never) (levels allowed left : ℕ) (rest : List ℕ) → HeadSized h → HeadInRange h (count ts) → suc (all_nesting ts) ≤ levels → allowed ≡ suc (all_symbols ts) + left
    → in_turn (ground (levels - 1)) (count ts) (allowed - 1) (spelled_parts ts ++ rest) ≡ Ok ((list_of ts, left), rest)
    → ground levels allowed ((spelled_head h (count ts) ++ spelled_parts ts) ++ rest) ≡ Ok ((Made h ts, left), rest)
made_again h ts levels allowed left rest sized range deep uses parts =
    ground_step levels (levels - 1) allowed (allowed - 1) ((spelled_head h (count ts) ++ spelled_parts ts) ++ rest) (omega arith) (omega arith)
    ∙ ap (λ (u : List ℕ). head u >>= λ x. with_parts (ground (levels - 1)) x.0 (allowed - 1) x.1) (append_assoc (spelled_head h (count ts)) (spelled_parts ts) rest)
    ∙ rw (head_again h (count ts) (spelled_parts ts ++ rest) sized range, parts) (ap (λ (us : Trees Never). Ok ((Made h us, left), rest)) (join_list ts))

below : (n levels : ℕ) → suc n ≤ levels → n ≤ levels - 1
below n levels h = omega arith

fewer : (n left allowed : ℕ) → allowed ≡ suc n + left → allowed - 1 ≡ n + left
fewer n left allowed h = omega arith

splits : (a b left allowed : ℕ) → allowed ≡ (a + b) + left → allowed ≡ a + (b + left)
splits a b left allowed h = omega arith

none_left : (allowed left : ℕ) (rest : List ℕ) → allowed ≡ 0 + left → in_turn {A = Ground} (ground 0) 0 allowed rest ≡ Ok (([], left), rest)
none_left allowed left rest uses = let e : allowed ≡ left = omega arith in ap (λ n. Ok (([], n), rest)) e

one_again : (t : Ground) (ts : Trees Never) (levels allowed left : ℕ) (rest : List ℕ) → ground levels allowed
    (spelled_ground t ++ (spelled_parts ts ++ rest)) ≡ Ok ((t, all_symbols ts + left), spelled_parts ts ++ rest)
    → in_turn (ground levels) (count ts) (all_symbols ts + left) (spelled_parts ts ++ rest) ≡ Ok ((list_of ts, left), rest)
    → in_turn (ground levels) (suc (count ts)) allowed ((spelled_ground t ++ spelled_parts ts) ++ rest) ≡ Ok ((t ∷ list_of ts, left), rest)
one_again t ts levels allowed left rest first others =
    ap (in_turn (ground levels) (suc (count ts)) allowed) (append_assoc (spelled_ground t) (spelled_parts ts) rest) ∙ rw (first, others) refl

mutual
  ground_again : (t : Ground) (levels allowed left : ℕ) (rest : List ℕ) → GroundSized t → HeadsInRange t → nesting t ≤ levels →
      allowed ≡ symbols t + left → ground levels allowed (spelled_ground t ++ rest) ≡ Ok ((t, left), rest)
  ground_again (Leaf x) levels allowed left rest sized range deep uses = elim x [ ]
  ground_again (Made h ts) levels allowed left rest sized range deep uses =
      made_again h ts levels allowed left rest sized.0 range.0 deep uses
      (parts_again ts (levels - 1) (allowed - 1) left rest sized.1 range.1 (below (all_nesting ts) levels deep) (fewer (all_symbols ts) left allowed uses))

  parts_again : (ts : Trees Never) (levels allowed left : ℕ) (rest : List ℕ) → PartsSized ts → PartsInRange ts → all_nesting ts ≤ levels → allowed ≡ all_symbols ts + left
      → in_turn (ground levels) (count ts) allowed (spelled_parts ts ++ rest) ≡ Ok ((list_of ts, left), rest)
  parts_again Nil levels allowed left rest sized range deep uses = none_left allowed left rest uses
  parts_again (More t ts) levels allowed left rest sized range deep uses =
      one_again t ts levels allowed left rest
      (ground_again t levels allowed (all_symbols ts + left) (spelled_parts ts ++ rest) sized.0 range.0 (left_fits (nesting t) (all_nesting ts) levels
      deep) (splits (symbols t) (all_symbols ts) left allowed uses))
      (parts_again ts levels (all_symbols ts + left) left rest sized.1 range.1 (right_fits (nesting t) (all_nesting ts) levels deep) refl)

turn_again : (ts : List Ground) (levels allowed left : ℕ) (rest : List ℕ) → Each GroundSized ts → Each (GroundInRange levels) ts → allowed ≡ symbols_of ts + left
    → in_turn (ground levels) (length ts) allowed (flat_map spelled_ground ts ++ rest) ≡ Ok ((ts, left), rest)
turn_again [] levels allowed left rest sized range uses = none_left allowed left rest uses
turn_again (t ∷ ts) levels allowed left rest sized range uses =
    ap (in_turn (ground levels) (suc (length ts)) allowed) (ap (λ (u : List ℕ). u ++ rest) (flat_map-cons spelled_ground t ts) ∙ append_assoc (spelled_ground t) (flat_map spelled_ground ts) rest)
    ∙ rw (
      ground_again t levels allowed (symbols_of ts + left) (flat_map spelled_ground ts ++ rest) sized.0 range.0.0 range.0.1 (splits (symbols t) (symbols_of ts) left allowed uses),
      turn_again ts levels (symbols_of ts + left) left rest sized.1 range.1 refl,
    ) refl

-- ---- the arguments of a choice

count_law : Law (such_that (is_at_most most_arguments) byte) (λ n. n ∷ []) (λ n. n < 2 ^ 8) (λ n. Unit {0} × (is_at_most most_arguments n ≡ true))
count_law = such_that_law (is_at_most most_arguments) byte_law

abbrev ArgumentsTake : List ℕ → List Ground → List ℕ → Type 0
ArgumentsTake bytes ts rest = Takes bytes (spelled_grounds ts) rest × GroundsSized ts × GroundsInRange ts

arguments_taken : (bytes : List ℕ) (ts : List Ground) (rest : List ℕ) → AreBytes bytes → arguments bytes ≡ Ok (ts, rest) → ArgumentsTake bytes ts rest
unfolding arguments
arguments_taken bytes ts rest fits e =
    let a = bind_ok (such_that (is_at_most most_arguments) byte bytes) (λ n. in_turn (ground most_levels) n.0 most_symbols n.1 >>= λ us. Ok (us.0.0, us.1)) (ts, rest) e in
    let b = bind_ok (in_turn (ground 32) a.0.0 256 a.0.1) (λ us. Ok (us.0.0, us.1)) (ts, rest) a.2 in
    let front = count_law.taken bytes a.0.0 a.0.1 fits a.1 in
    let turn = turn_taken 32 (ground_taken 32) a.0.0 256 a.0.1 b.0.0 b.0.1 front.0.rest_bytes b.1 in
    subst (λ (y : List Ground × List ℕ). ArgumentsTake bytes y.0 y.1) (ok_is (b.0.0.0, b.0.1) (ts, rest) b.2) (
      subst (λ n. Takes bytes (n ∷ flat_map spelled_ground b.0.0.0) b.0.1) (sym turn.many) (Takes-then bytes (a.0.0 ∷ []) a.0.1 (flat_map spelled_ground b.0.0.0) b.0.1 front.0 turn.text),
      turn.sized,
      (few (length b.0.0.0) a.0.0 turn.many (leb-true a.0.0 most_arguments front.2.1), within (symbols_of b.0.0.0) b.0.0.1 turn.uses, turn.range),
    )
  where
    few : (n m : ℕ) → n ≡ m → m ≤ most_arguments → n ≤ most_arguments
    few n m e h = omega arith

    within : (n left : ℕ) → n + left ≡ 256 → n ≤ 256
    within n left e = omega arith

arguments_again : (ts : List Ground) (rest : List ℕ) → GroundsSized ts → GroundsInRange ts → arguments (spelled_grounds ts ++ rest) ≡ Ok (ts, rest)
unfolding arguments
arguments_again ts rest sized range =
    rw (le-leb (length ts) most_arguments range.0, turn_again ts most_levels most_symbols (most_symbols - symbols_of ts) rest sized range.2 (allowance (symbols_of ts) range.1)) refl
  where
    allowance : (n : ℕ) → n ≤ 256 → 256 ≡ n + (256 - n)
    allowance n h = omega arith

pub arguments_law : Law arguments spelled_grounds GroundsSized GroundsInRange
arguments_law = record { taken = arguments_taken; again = arguments_again }
