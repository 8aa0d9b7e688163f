-- Rows of bits that are joined over arcs.
use Rattle.std.proofs.Common.{◌≡◌, ◌≢◌, ℕ, zero, suc, ◌+◌, ◌^◌, ◌<◌, ◌≤◌, max, Bool, true, false, List, [], ◌∷◌, length, Some, slice_get, slice_set}
use Rattle.std.proofs.Common.{slice_index, refl, sym, ap, ◌∙◌, subst, inl, inr, get_or, arith}
use Rattle.std.specs.Prelude.{◌⊎◌, ◌||◌, ◌*◌, ◌-◌, ◌/◌, ◌%◌, bit_or, bit_and, nat_eq, IsTrue, replicate, not}
use Rattle.std.specs.Int.{bit_at}
use Rattle.std.proofs.lemmas.Bool.{or_parts}
use Rattle.std.proofs.lemmas.Nat.Bits.{bit_at_or, bit_at-lt, bit_at-zero, bit_at-pow_same, bit_at-pow_other, and_pow}
use Rattle.std.proofs.lemmas.Nat.{le_or_l, or_lt, one_shl, pow_pos}
use Rattle.std.proofs.lemmas.Grind.{get_or_default_zero}
use Rattle.std.proofs.lemmas.List.{get_or-set_same, get_or-set_other}
use Rattle.aw_list.specs.Members.{Member}
use Rattle.aw_list.proofs.Members.{member_got, member_place, below_or_at}
use Rattle.aw_iograph.specs.declared.rows.Arc.{Arc}
use Rattle.aw_iograph.specs.Graphs.{Plus, step, more}
use Rattle.aw_iograph.specs.Growth.{Marked}
use Rattle.aw_iograph.specs.Rows.{HasBit, IsIn, IsOwn, IsHandedOn, ArrowOf, AreLed, IsJoined, Joins, room, bit_value}
use Rattle.aw_iograph.specs.Occurrences.{place_of}
use Rattle.aw_iograph.proofs.Marking.{set_length, set_kept}
use Rattle.aw_iograph.proofs.Reaching.{join}

-- a bit of two numbers that are joined is one of the first or of the second
pub or_left : (a b i : ℕ) → HasBit a i → HasBit (bit_or a b) i
or_left a b i e = omega (arith, bit_at_or a b i, bit_at-lt b i)

pub or_right : (a b i : ℕ) → HasBit b i → HasBit (bit_or a b) i
or_right a b i e = omega (arith, bit_at_or a b i, bit_at-lt a i)

pub or_split : (a b i : ℕ) → HasBit (bit_or a b) i → HasBit a i ⊎ HasBit b i
or_split a b i e = by_first (bit_at a i) (bit_at b i) (omega (arith, bit_at-lt a i)) (omega (arith, bit_at_or a b i))
  where
    by_first : (x y : ℕ) → x < 2 → max x y ≡ 1 → (x ≡ 1) ⊎ (y ≡ 1)
    by_first zero y lt e = inr (omega arith)
    by_first (suc x) y lt e = inl (omega arith)

pub same_or_not : (v at : ℕ) → (v ≡ at) ⊎ (v ≢ at)
same_or_not zero zero = inl refl
same_or_not zero (suc at) = inr (λ e. omega arith)
same_or_not (suc v) zero = inr (λ e. omega arith)
same_or_not (suc v) (suc at) = elim (same_or_not v at) [ inl e ↦ inl (ap suc e) | inr n ↦ inr (λ e. n (omega arith)) ]

-- a greater number is nearer to the top
nearer : (top a b rest : ℕ) → a < b → b ≤ top → (top - b) + rest < (top - a) + rest
nearer top a b rest lt le = omega arith

below_more : (a r s : ℕ) → r < s → a + r < a + s
below_more a r s lt = omega arith

room_less : (rows : List ℕ) (at row : ℕ) → at < length rows → slice_index rows at < row → row < 2 ^ 128 → room (slice_set rows at row) < room rows
room_less [] at row lt up few = absurd (omega arith)
room_less (r ∷ rs) zero row lt up few = nearer (2 ^ 128 - 1) r row (room rs) up (omega arith)
room_less (r ∷ rs) (suc at) row lt up few =
    let below : at < length rs = omega arith in
    below_more (2 ^ 128 - 1 - r) (room (slice_set rs at row)) (room rs) (room_less rs at row below up few)

-- one row is joined into another
module _ (rows : List ℕ) (at row other : ℕ) (within : at < length rows) (here : row ≡ slice_index rows at) where
  joined_here : slice_index (slice_set rows at (bit_or row other)) at ≡ bit_or row other
  joined_here = get_or-set_same rows at (bit_or row other) 0 within

  pub row_kept : (v i : ℕ) → IsIn rows v i → IsIn (slice_set rows at (bit_or row other)) v i
  row_kept v i e = elim (same_or_not v at) [
    | inl same ↦ subst (λ n. IsIn (slice_set rows at (bit_or row other)) n i) (sym same)
        (subst (λ n. HasBit n i) (sym joined_here) (or_left row other i (subst (λ n. HasBit n i) (sym here) (subst (λ n. IsIn rows n i) same e))))
    | inr apart ↦ subst (λ n. HasBit n i) (sym (get_or-set_other rows at v (bit_or row other) 0 apart)) e
  ]

  pub row_only : (v i : ℕ) → IsIn (slice_set rows at (bit_or row other)) v i → IsIn rows v i ⊎ ((v ≡ at) × HasBit other i)
  row_only v i e = elim (same_or_not v at) [
    | inl same ↦ elim (or_split row other i (subst (λ n. HasBit n i) joined_here (subst (λ n. IsIn (slice_set rows at (bit_or row other)) n i) same e))) [
      | inl was ↦ inl (subst (λ n. IsIn rows n i) (sym same) (subst (λ n. HasBit n i) here was))
      | inr new ↦ inr (same, new)
    ]
    | inr apart ↦ inl (subst (λ n. HasBit n i) (get_or-set_other rows at v (bit_or row other) 0 apart) e)
  ]

  pub row_there : (i : ℕ) → HasBit other i → IsIn (slice_set rows at (bit_or row other)) at i
  row_there i e = subst (λ n. HasBit n i) (sym joined_here) (or_right row other i e)

  pub row_less : row < 2 ^ 128 → other < 2 ^ 128 → bit_or row other ≢ row → room (slice_set rows at (bit_or row other)) < room rows
  row_less few small apart = room_less rows at (bit_or row other) within (let le = le_or_l row other in omega arith) (or_lt 128 row other few small)

-- the test `row & 1 << bit`
bit_by : (x d p : ℕ) → d < 2 → 0 < p → x ≡ d * p → (IsTrue (not (nat_eq x 0)) → d ≡ 1) × (d ≡ 1 → IsTrue (not (nat_eq x 0)))
bit_by x zero p few pos e = let none : x ≡ 0 = omega arith in (λ on. grind (arith, none), λ one. absurd (omega arith))
bit_by x (suc zero) p few pos e = let some : 0 < x = omega arith in (λ on. refl, λ one. grind (arith, some))
bit_by x (suc (suc d)) p few pos e = absurd (omega arith)

pub bit_test : (row bit : ℕ) → bit < 128 → (IsTrue (not (nat_eq (bit_and row (1 * 2 ^ bit % 2 ^ 128)) 0)) → HasBit row bit)
    × (HasBit row bit → IsTrue (not (nat_eq (bit_and row (1 * 2 ^ bit % 2 ^ 128)) 0)))
bit_test row bit few =
    bit_by (bit_and row (1 * 2 ^ bit % 2 ^ 128)) (bit_at row bit) (2 ^ bit) (bit_at-lt row bit) (pow_pos bit)
    (ap (bit_and row) (one_shl bit 128 few) ∙ and_pow row bit)

-- the one bit of a place at which an inherited value stands
pub own_bit : (v : ℕ) → v < 144 → v % 16 < 8 → (n : ℕ) → (HasBit (1 * 2 ^ (v / 16 * 8 + v % 16) % 2 ^ 128) n → IsOwn v n) × (IsOwn v n → HasBit (1 * 2 ^ (v / 16 * 8 + v % 16) % 2 ^ 128) n)
own_bit v few half n = (to, from)
  where
    one : 1 * 2 ^ (v / 16 * 8 + v % 16) % 2 ^ 128 ≡ 2 ^ (v / 16 * 8 + v % 16)
    one = one_shl (v / 16 * 8 + v % 16) 128 (omega arith)

    to : HasBit (1 * 2 ^ (v / 16 * 8 + v % 16) % 2 ^ 128) n → IsOwn v n
    to on = elim (same_or_not n (v / 16 * 8 + v % 16)) [
      | inl same ↦ (omega arith, omega arith)
      | inr apart ↦ (let none : bit_at (2 ^ (v / 16 * 8 + v % 16)) n ≡ 0 = bit_at-pow_other (v / 16 * 8 + v % 16) n apart in
          let some : bit_at (2 ^ (v / 16 * 8 + v % 16)) n ≡ 1 = subst (λ m. HasBit m n) one on in absurd (omega arith))
    ]

    from : IsOwn v n → HasBit (1 * 2 ^ (v / 16 * 8 + v % 16) % 2 ^ 128) n
    from (lt, at) =
        let same : v / 16 * 8 + v % 16 ≡ n = omega arith in
        subst (λ m. HasBit m n) (sym one) (subst (λ m. HasBit (2 ^ m) n) (sym same) (bit_at-pow_same n))

-- no other place has one
pub no_bit : (n : ℕ) → HasBit 0 n → ⊥
no_bit n on = let none : bit_at 0 n ≡ 0 = bit_at-zero n in omega arith

zeros : (n v : ℕ) → slice_index (replicate n 0) v ≡ 0
zeros zero v = refl
zeros (suc n) zero = refl
zeros (suc n) (suc v) = zeros n v

-- rows without a bit are led
pub none_led : (P : Arc → Type 0) (rows : List ℕ) → rows ≡ replicate 144 0 → AreLed P rows
none_led P rows e v n on = absurd (no_bit n (subst (λ m. HasBit m n) (ap (λ xs. slice_index xs v) e ∙ zeros 144 v) on))

-- what a place hands on is its own bit and those in its row
pub handed_on : (rows : List ℕ) (v row own : ℕ) → v < length rows → row ≡ get_or rows v row → ((n : ℕ) → (HasBit own n → IsOwn v n) × (IsOwn v n → HasBit own n)) →
    (n : ℕ) → (HasBit (bit_or row own) n → IsHandedOn rows v n) × (IsHandedOn rows v n → HasBit (bit_or row own) n)
handed_on rows v row own within here is_own n = (to, from)
  where
    at : row ≡ slice_index rows v
    at = here ∙ get_or_default_zero rows v row within

    to : HasBit (bit_or row own) n → IsHandedOn rows v n
    to on = elim (or_split row own n on) [ inl was ↦ inr (subst (λ m. HasBit m n) at was) | inr mine ↦ inl ((is_own n).0 mine) ]

    from : IsHandedOn rows v n → HasBit (bit_or row own) n
    from (inl mine) = or_right row own n ((is_own n).1 mine)
    from (inr was) = or_left row own n (subst (λ m. HasBit m n) (sym at) was)

-- what a place hands on is joined into the row where an arc ends
module _ (rows : List ℕ) (from at row other : ℕ) (at_in : at < length rows) (here : row ≡ get_or rows at row) (handed : (n : ℕ) →
    (HasBit other n → IsHandedOn rows from n) × (IsHandedOn rows from n → HasBit other n)) where
  row_at : row ≡ slice_index rows at
  row_at = here ∙ get_or_default_zero rows at row at_in

  pub joined_before : bit_or row other ≡ row → (n : ℕ) → IsHandedOn rows from n → IsIn rows at n
  joined_before same n on = subst (λ m. HasBit m n) row_at (subst (λ m. HasBit m n) same (or_right row other n ((handed n).1 on)))

  pub joined_only : (v n : ℕ) → IsIn (slice_set rows at (bit_or row other)) v n → IsIn rows v n ⊎ ((v ≡ at) × IsHandedOn rows from n)
  joined_only v n on = elim (row_only rows at row other at_in row_at v n on) [ inl was ↦ inl was | inr new ↦ inr (new.0, (handed n).0 new.1) ]

  pub joined_now : (n : ℕ) → IsHandedOn (slice_set rows at (bit_or row other)) from n → IsIn (slice_set rows at (bit_or row other)) at n
  joined_now n on = row_there rows at row other at_in row_at n ((handed n).1 (before on))
    where
      before : IsHandedOn (slice_set rows at (bit_or row other)) from n → IsHandedOn rows from n
      before (inl own) = inl own
      before (inr now) = elim (joined_only from n now) [ inl was ↦ inr was | inr new ↦ new.1 ]

  pub joined_kept : (v n : ℕ) → IsIn rows v n → IsIn (slice_set rows at (bit_or row other)) v n
  joined_kept = row_kept rows at row other at_in row_at

  pub joined_less : row < 2 ^ 128 → other < 2 ^ 128 → bit_or row other ≢ row → room (slice_set rows at (bit_or row other)) < room rows
  joined_less few small apart = row_less rows at row other at_in row_at few small apart

plus_by : (P Q : Arc → Type 0) → ((x : Arc) → P x → Q x) → {a b : ℕ} → Plus (ArrowOf P) a b → Plus (ArrowOf Q) a b
plus_by P Q f (step e) = step (f _ e)
plus_by P Q f (more e w) = more (f _ e) (plus_by P Q f w)

handed_by : (P Q : Arc → Type 0) (a b : List ℕ) (u v n : ℕ) → ((u' n' : ℕ) → IsIn b u' n' → IsIn a u' n' ⊎ ((w : ℕ) × IsHandedOn a w n' × Plus (ArrowOf P) w u')) → ((x : Arc) → P x → Q x) →
    IsHandedOn b u n → Plus (ArrowOf Q) u v → (w : ℕ) × IsHandedOn a w n × Plus (ArrowOf Q) w v
handed_by P Q a b u v n first to (inl own) walk = (u, inl own, walk)
handed_by P Q a b u v n first to (inr now) walk = elim (first u n now) [
  | inl was ↦ (u, inr was, walk)
  | inr new ↦ (let (w, start, before) = new in (w, start, join (plus_by P Q to before) walk))
]

-- no arc is of the kind
pub joins_none : (P : Arc → Type 0) (rows : List ℕ) (marks : List Bool) → ((a : Arc) → P a → ⊥) → Joins P rows rows marks marks false
joins_none P rows marks none = record {
  size = refl;
  places = refl;
  kept = λ v i on. on;
  read = λ v on. on;
  most = omega arith;
  less = λ on. cc;
  still = λ off a j m. j;
  joined = λ off a p. absurd (none a p);
  only = λ v i on. inl on;
}

-- first one kind, and then another
pub joins_both : (P Q R : Arc → Type 0) (a b c : List ℕ) (x y z : List Bool) (one two both : Bool) → both ≡ (two || one) → Joins P a b x y one → Joins Q b c y z two →
    ((e : Arc) → R e → P e ⊎ Q e) → ((e : Arc) → P e → R e) → ((e : Arc) → Q e → R e) → Joins R a c x z both
joins_both P Q R a b c x y z one two both e first then split left right = record {
  size = then.size ∙ first.size;
  places = then.places ∙ first.places;
  kept = λ v i on. then.kept v i (first.kept v i on);
  read = λ v on. then.read v (first.read v on);
  most = (let m = first.most in let n = then.most in omega arith);
  less = λ on. fewer one two (sym e ∙ on) first.less then.less;
  still = λ off arc j m. (let (calm, before) = or_parts two one (sym e ∙ off) in then.still calm arc (first.still before arc j m) (first.read arc.from m));
  joined = λ off arc r.
      let (calm, before) = or_parts two one (sym e ∙ off) in
      elim (split arc r) [
        | inl p ↦ (let (j, m) = first.joined before arc p in (then.still calm arc j m, then.read arc.from m))
        | inr q ↦ then.joined calm arc q
      ];
  only = λ v i on. elim (then.only v i on) [
    | inl mid ↦ elim (first.only v i mid) [ inl was ↦ inl was | inr new ↦ (let (u, start, walk) = new in inr (u, start, plus_by P R left walk)) ]
    | inr new ↦ (let (u, start, walk) = new in inr (handed_by P R a b u v i first.only left start (plus_by Q R right walk)))
  ];
}
  where
    fewer : (one' two' : Bool) → (two' || one') ≡ true → (one' ≡ true → room b < room a) → (two' ≡ true → room c < room b) → room c < room a
    fewer true true on f g = let m = f refl in let n = then.most in omega arith
    fewer true false on f g = let m = f refl in let n = then.most in omega arith
    fewer false true on f g = let m = g refl in let n = first.most in omega arith
    fewer false false on f g = cc

-- the same kind in other words
pub joins_as : (P Q : Arc → Type 0) (a b : List ℕ) (x y : List Bool) (again : Bool) → ((e : Arc) → P e → Q e) → ((e : Arc) → Q e → P e) → Joins P a b x y again → Joins Q a b x y again
joins_as P Q a b x y again to from all = record {
  size = all.size;
  places = all.places;
  kept = all.kept;
  read = all.read;
  most = all.most;
  less = all.less;
  still = all.still;
  joined = λ off arc q. all.joined off arc (from arc q);
  only = λ v i on. elim (all.only v i on) [ inl was ↦ inl was | inr new ↦ (let (u, start, walk) = new in inr (u, start, plus_by P Q to walk)) ];
}

marked_here : (marks : List Bool) (at : ℕ) → at < length marks → Marked (slice_set marks at true) at
marked_here [] at lt = absurd (omega arith)
marked_here (m ∷ ms) zero lt = refl
marked_here (m ∷ ms) (suc at) lt = let below : at < length ms = omega arith in marked_here ms at below

marked_got : (marks : List Bool) (at : ℕ) (d : Bool) → Marked marks at → get_or marks at d ≡ true
marked_got [] at d e = absurd cc
marked_got (m ∷ ms) zero d e = let same : m ≡ true = cc in same
marked_got (m ∷ ms) (suc at) d e = marked_got ms at d e

-- an arc that is joined already
pub joins_same : (rows : List ℕ) (marks : List Bool) (arc : Arc) → arc.from < length marks → IsJoined rows arc → Joins (λ a. a ≡ arc) rows rows marks (slice_set marks arc.from true) false
joins_same rows marks arc lt j = record {
  size = refl;
  places = set_length marks arc.from;
  kept = λ v i on. on;
  read = λ v on. set_kept marks arc.from v on;
  most = omega arith;
  less = λ on. cc;
  still = λ off a k m. k;
  joined = λ off a e. (subst (λ (x : Arc). IsJoined rows x) (sym e) j, subst (λ (x : Arc). Marked (slice_set marks arc.from true) x.from) (sym e) (marked_here marks arc.from lt));
  only = λ v i on. inl on;
}

-- an arc over which a row grew
pub joins_grown : (rows next : List ℕ) (marks : List Bool) (arc : Arc) (again : Bool) → arc.from < length marks → length next ≡ length rows →
    again ≡ get_or (slice_set marks arc.from true) arc.to again →
    ((v i : ℕ) → IsIn rows v i → IsIn next v i) → room next < room rows → IsJoined next arc →
    ((v i : ℕ) → IsIn next v i → IsIn rows v i ⊎ ((v ≡ arc.to) × IsHandedOn rows arc.from i)) → Joins (λ a. a ≡ arc) rows next marks (slice_set marks arc.from true) again
joins_grown rows next marks arc again lt size here kept less j only = record {
  size = size;
  places = set_length marks arc.from;
  kept = kept;
  read = λ v on. set_kept marks arc.from v on;
  most = omega arith;
  less = λ on. less;
  still = λ off a k m i on. elim on [
    | inl own ↦ kept a.to i (k i (inl own))
    | inr now ↦ elim (only a.from i now) [
      | inl was ↦ kept a.to i (k i (inr was))
      | inr how ↦ (let seen : again ≡ true = here ∙ marked_got (slice_set marks arc.from true) arc.to again
          (subst (λ n. Marked (slice_set marks arc.from true) n) how.0 (set_kept marks arc.from a.from m)) in
          let never' : true ≡ false = sym seen ∙ off in absurd cc)
    ]
  ];
  joined = λ off a e. (subst (λ (x : Arc). IsJoined next x) (sym e) j, subst (λ (x : Arc). Marked (slice_set marks arc.from true) x.from) (sym e) (marked_here marks arc.from lt));
  only = λ v i on. elim (only v i on) [
    | inl was ↦ inl was
    | inr how ↦ inr (arc.from, how.1, subst (λ n. Plus (ArrowOf (λ a. a ≡ arc)) arc.from n) (sym how.0) (step refl))
  ];
}

-- an arc that stands among the first n
abbrev pub IsAmong : List Arc → ℕ → Arc → Type 0
IsAmong arcs n a = (k : ℕ) × (k < n) × (slice_get arcs k ≡ Some a)

-- before the first there is none
pub none_among : (arcs : List Arc) (rows : List ℕ) (marks : List Bool) → Joins (IsAmong arcs 0) rows rows marks marks false
none_among arcs rows marks = joins_none (IsAmong arcs 0) rows marks (λ a (k, lt, got). omega arith)

-- one more arc
pub joins_next : (arcs : List Arc) (n : ℕ) (arc : Arc) (a b c : List ℕ) (x y z : List Bool) (one two both : Bool) → slice_get arcs n ≡ Some arc →
    both ≡ (two || one) → Joins (IsAmong arcs n) a b x y one → Joins (λ e. e ≡ arc) b c y z two → Joins (IsAmong arcs (n + 1)) a c x z both
joins_next arcs n arc a b c x y z one two both here e first then = joins_both (IsAmong arcs n) (λ e. e ≡ arc) (IsAmong arcs (n + 1)) a b c x y z one two both e first then split left right
  where
    split : (e : Arc) → IsAmong arcs (n + 1) e → IsAmong arcs n e ⊎ (e ≡ arc)
    split e (k, below, got) = elim (below_or_at k n below) [
      | inl less ↦ inl (k, less, got)
      | inr same ↦ (let what : Some e ≡ Some arc = sym got ∙ ap (slice_get arcs) same ∙ here in let one' : e ≡ arc = cc in inr one')
    ]

    left : (e : Arc) → IsAmong arcs n e → IsAmong arcs (n + 1) e
    left e (k, below, got) = (k, omega arith, got)

    right : (e : Arc) → e ≡ arc → IsAmong arcs (n + 1) e
    right e same = (n, omega arith, here ∙ ap Some (sym same))

-- each arc stands among all
pub joins_all : (arcs : List Arc) (n : ℕ) (a b : List ℕ) (x y : List Bool) (again : Bool) → length arcs ≤ n → Joins (IsAmong arcs n) a b x y again → Joins (λ e. Member e arcs) a b x y again
joins_all arcs n a b x y again le all = joins_as (IsAmong arcs n) (λ e. Member e arcs) a b x y again (λ e (k, lt, got). member_got arcs k e got)
    (λ e m. let (k, lt, got) = member_place arcs e m in (k, omega arith, got)) all

-- rows that are led still are once they were joined
pub led_next : (P : Arc → Type 0) (rows next : List ℕ) (x y : List Bool) (again : Bool) → AreLed P rows → Joins P rows next x y again → AreLed P next
led_next P rows next x y again led all v n on = elim (all.only v n on) [
  | inl was ↦ led v n was
  | inr new ↦ (let (u, start, walk) = new in from_start u start walk)
]
  where
    from_start : (u : ℕ) → IsHandedOn rows u n → Plus (ArrowOf P) u v → Plus (ArrowOf P) (place_of (bit_value n)) v
    from_start u (inl own) walk = subst (λ m. Plus (ArrowOf P) m v) own.1 walk
    from_start u (inr was) walk = join (led u n was) walk

-- rows that are joined over each arc have all that is handed on to them
pub all_led : (P : Arc → Type 0) (rows : List ℕ) → ((a : Arc) → P a → IsJoined rows a) → (n : ℕ) → {a b : ℕ} → IsHandedOn rows a n → Plus (ArrowOf P) a b → IsIn rows b n
all_led P rows joined n on (step e) = joined _ e n on
all_led P rows joined n on (more e w) = all_led P rows joined n (inr (joined _ e n on)) w
