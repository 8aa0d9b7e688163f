-- The triples that have to wait, where a mark, a record or a number changes.
use Rattle.std.proofs.Common.{◌≡◌, ◌≢◌, ℕ, zero, suc, ◌+◌, ◌<◌, ◌≤◌, ◌⊎◌, inl, inr, Bool, true, false, cond, List, [], ◌∷◌, ◌++◌, length, Option, Some}
use Rattle.std.proofs.Common.{None, slice_get, refl, sym, ap, ◌∙◌, subst, arith}
use Rattle.std.specs.Prelude.{count_by, sum_by, filter, insert, nat_eq, not, ◌&&◌}
use Rattle.std.proofs.lemmas.List.Sums.{sum_by-append, sum_by-cons, sum_by-insert, sum_by-le-sum_by, length-filter, count_by-le-length}
use Rattle.std.specs.List.Sorted.{IsPermutation}
use Rattle.std.proofs.lemmas.List.Sorted.{sum_by-IsPermutation}
use Rattle.std.proofs.lemmas.Bool.{eqb-true, eq-eqb}
use Rattle.std.proofs.lemmas.Bool.Decides.{eqb_tells}
use Rattle.aw_list.proofs.Everyday.{and_true}
use Rattle.aw_work.specs.declared.block.Triple.{Triple}
use Rattle.aw_work.specs.Triples.{triple, waiting_at, others_than}
use Rattle.aw_standing.specs.declared.record.Stands.{Stands}
use Rattle.aw_standing.specs.declared.record.Stands.TheVariants as stands
use Rattle.aw_standing.specs.declared.record.Mark.{Mark}
use Rattle.aw_standing.specs.declared.record.Record.{Record}
use Rattle.aw_standing.specs.Records.{stand_at}
use Rattle.aw_standing.specs.Due.{due_of, due_marks, due_record, due}
use Rattle.aw_node_list.specs.Picked.{AreApart}
use Rattle.aw_node_list.proofs.Numbers.{apart_head, apart_tail}

module _ (p : Triple → Bool) where
  count-append : (ts us : List Triple) → count_by p (ts ++ us) ≡ count_by p ts + count_by p us
  count-append ts us = sum_by-append (λ t. cond (p t) 1 0) ts us

  -- a mark that stands otherwise now
  pub marks_stand : (n : ℕ) (s : Stands) (i : ℕ) (ms : List Mark) (m : Mark) → slice_get ms i ≡ Some m →
      count_by p (due_marks n (stand_at s i ms)) + count_by p (due_of n m.rule m.stands) ≡ count_by p (due_marks n ms) + count_by p (due_of n m.rule s)
  marks_stand n s i [] m e = absurd cc
  marks_stand n s zero (k ∷ ms) m e =
      let same : k ≡ m = cc in
      subst (λ (z : Mark). count_by p (due_marks n (stand_at s 0 (k ∷ ms))) + count_by p (due_of n z.rule z.stands) ≡ count_by p (due_marks n (k ∷ ms)) + count_by p (due_of n z.rule s)) same
      (omega (arith, count-append (due_of n k.rule s) (due_marks n ms), count-append (due_of n k.rule k.stands) (due_marks n ms)))
  marks_stand n s (suc i) (k ∷ ms) m e =
      omega (arith, marks_stand n s i ms m e, count-append (due_of n k.rule k.stands) (due_marks n (stand_at s i ms)), count-append (due_of n k.rule k.stands) (due_marks n ms))

  due_same : (ns : List ℕ) (xs ys : List Record) → ((i n : ℕ) → slice_get ns i ≡ Some n → slice_get ys n ≡ slice_get xs n) → count_by p (due ys ns) ≡ count_by p (due xs ns)
  due_same [] xs ys same = refl
  due_same (n ∷ ns) xs ys same =
      let here = ap (λ o. count_by p (due_record n o)) (same 0 n refl) in
      let rest = due_same ns xs ys (λ i m e. same (suc i) m e) in
      omega (arith, here, rest, count-append (due_record n (slice_get ys n)) (due ys ns), count-append (due_record n (slice_get xs n)) (due xs ns))

  -- a record that changes
  pub due_changed : (ns : List ℕ) (xs ys : List Record) (i n : ℕ) → AreApart ns → slice_get ns i ≡ Some n → ((m : ℕ) → m ≢ n → slice_get ys m ≡ slice_get xs m) →
      count_by p (due ys ns) + count_by p (due_record n (slice_get xs n)) ≡ count_by p (due xs ns) + count_by p (due_record n (slice_get ys n))
  due_changed [] xs ys i n apart e others = absurd cc
  due_changed (m ∷ ns) xs ys zero n apart e others =
      let same : m ≡ n = cc in
      let rest = due_same ns xs ys (λ j q f. others q (λ g. apart_head m ns apart j (f ∙ ap Some (g ∙ sym same)))) in
      subst (λ z. count_by p (due ys (m ∷ ns)) + count_by p (due_record z (slice_get xs z)) ≡ count_by p (due xs (m ∷ ns)) + count_by p (due_record z (slice_get ys z))) same
      (omega (arith, rest, count-append (due_record m (slice_get ys m)) (due ys ns), count-append (due_record m (slice_get xs m)) (due xs ns)))
  due_changed (m ∷ ns) xs ys (suc i) n apart e others =
      let here = ap (λ o. count_by p (due_record m o)) (others m (λ g. apart_head m ns apart i (e ∙ ap Some (sym g)))) in
      omega (arith, here, due_changed ns xs ys i n (apart_tail m ns apart) e others, count-append (due_record m (slice_get ys m)) (due ys ns), count-append (due_record m (slice_get xs m)) (due xs ns))

  -- more records
  pub due_more : (ns : List ℕ) (xs ys : List Record) → ((i n : ℕ) → slice_get ns i ≡ Some n → slice_get ys n ≡ slice_get xs n) → count_by p (due ys ns) ≡ count_by p (due xs ns)
  due_more = due_same

  due_sum : (ns : List ℕ) (xs : List Record) → count_by p (due xs ns) ≡ sum_by (λ n. count_by p (due_record n (slice_get xs n))) ns
  due_sum [] xs = refl
  due_sum (n ∷ ns) xs =
      omega (arith, count-append (due_record n (slice_get xs n)) (due xs ns), due_sum ns xs, sum_by-cons (λ n. count_by p (due_record n (slice_get xs n))) n ns)

  -- a number that is put in
  pub due_inserted : (ns : List ℕ) (xs : List Record) (at n : ℕ) → count_by p (due xs (insert ns at n)) ≡ count_by p (due xs ns) + count_by p (due_record n (slice_get xs n))
  due_inserted ns xs at n =
      due_sum (insert ns at n) xs ∙ sum_by-insert (λ m. count_by p (due_record m (slice_get xs m))) ns at n ∙ ap (λ z. z + count_by p (due_record n (slice_get xs n))) (sym (due_sum ns xs))

  pub positive_at : (n : ℕ) (ms : List Mark) (j : ℕ) (m : Mark) → slice_get ms j ≡ Some m → count_by p (due_of n m.rule m.stands) ≤ count_by p (due_marks n ms)
  positive_at n [] j m e = absurd cc
  positive_at n (k ∷ ms) zero m e =
      let same : k ≡ m = cc in
      subst (λ (z : Mark). count_by p (due_of n z.rule z.stands) ≤ count_by p (due_marks n (k ∷ ms))) same
      (omega (arith, count-append (due_of n k.rule k.stands) (due_marks n ms)))
  positive_at n (k ∷ ms) (suc j) m e = omega (arith, positive_at n ms j m e, count-append (due_of n k.rule k.stands) (due_marks n ms))

  -- what a mark waits for is due
  pub due_at : (ns : List ℕ) (xs : List Record) (i n : ℕ) (x : Record) (j : ℕ) (m : Mark) → slice_get ns i ≡ Some n → slice_get xs n ≡ Some x → slice_get x.marks.items j ≡ Some m →
      count_by p (due_of n m.rule m.stands) ≤ count_by p (due xs ns)
  due_at [] xs i n x j m e f g = absurd cc
  due_at (k ∷ ns) xs zero n x j m e f g =
      let same : k ≡ n = cc in
      let here = ap (λ o. count_by p (due_record k o)) (ap (slice_get xs) same ∙ f) in
      subst (λ z. count_by p (due_of z m.rule m.stands) ≤ count_by p (due xs (k ∷ ns))) same
      (omega (arith, here, positive_at k x.marks.items j m g, count-append (due_record k (slice_get xs k)) (due xs ns)))
  due_at (k ∷ ns) xs (suc i) n x j m e f g = omega (arith, due_at ns xs i n x j m e f g, count-append (due_record k (slice_get xs k)) (due xs ns))

-- the triple of this slot, node and rule
abbrev pub is_triple : ℕ → ℕ → ℕ → Triple → Bool
is_triple slot n rule t = nat_eq t.slot slot && (nat_eq t.node n && nat_eq t.rule rule)

-- a mark of this rule waits for the slot
abbrev pub MarkWaits : List Mark → ℕ → ℕ → Type 0
MarkWaits ms slot rule = (j : ℕ) × (slice_get ms j ≡ Some (record { rule = rule; stands = stands.Waits slot }))

-- and it is one of the node with this number
abbrev pub NodeWaits : List ℕ → List Record → ℕ → ℕ → ℕ → Type 0
NodeWaits ns xs slot n rule = (i : ℕ) × (x : Record) × (slice_get ns i ≡ Some n) × (slice_get xs n ≡ Some x) × MarkWaits x.marks.items slot rule

module _ (slot n rule : ℕ) where
  found : (k : ℕ) (m : Mark) (ms : List Mark) (s : Stands) (b : Bool) → m.stands ≡ s →
      (count_by (is_triple slot n rule) (due_of k m.rule s) ≡ 0) ⊎ ((s ≡ stands.Waits slot) × (k ≡ n) × (m.rule ≡ rule))
  found k m ms stands.Ready b e = inl refl
  found k m ms (stands.Differs place) b e = inl refl
  found k m ms (stands.Circle at) b e = inl refl
  found k m ms stands.TooDeep b e = inl refl
  found k m ms (stands.Waits at) b e = by (is_triple slot n rule (triple at k m.rule)) refl
    where
      by : (c : Bool) → is_triple slot n rule (triple at k m.rule) ≡ c →
          (count_by (is_triple slot n rule) (due_of k m.rule (stands.Waits at)) ≡ 0) ⊎ ((stands.Waits at ≡ stands.Waits slot) × (k ≡ n) × (m.rule ≡ rule))
      by true t =
          let (a, u) = and_true _ _ t in
          let (c, d) = and_true _ _ u in
          inr (ap stands.Waits (eqb-true _ _ a), eqb-true _ _ c, eqb-true _ _ d)
      by false t = inl (ap (λ z. 0 + cond z 1 0) t)

  mark_found : (k : ℕ) (ms : List Mark) → 0 < count_by (is_triple slot n rule) (due_marks k ms) → (k ≡ n) × MarkWaits ms slot rule
  mark_found k [] l = absurd (omega (arith, l))
  mark_found k (m ∷ ms) l = by (found k m ms m.stands true refl) (mark_found k ms)
    where
      by : (count_by (is_triple slot n rule) (due_of k m.rule m.stands) ≡ 0) ⊎ ((m.stands ≡ stands.Waits slot) × (k ≡ n) × (m.rule ≡ rule)) →
          (0 < count_by (is_triple slot n rule) (due_marks k ms) → (k ≡ n) × MarkWaits ms slot rule) → (k ≡ n) × MarkWaits (m ∷ ms) slot rule
      by (inl none) go =
          let r = go (omega (arith, l, none, sum_by-append (λ t. cond (is_triple slot n rule t) 1 0) (due_of k m.rule m.stands) (due_marks k ms))) in
          (r.0, (suc r.1.0, r.1.1))
      by (inr (w, e, r)) go = (e, (0, ap Some (λ i. record { rule = r i; stands = w i })))

  node_found : (ns : List ℕ) (xs : List Record) → 0 < count_by (is_triple slot n rule) (due xs ns) → NodeWaits ns xs slot n rule
  node_found [] xs l = absurd (omega (arith, l))
  node_found (k ∷ ns) xs l = by (slice_get xs k) refl (node_found ns xs)
    where
      on : NodeWaits ns xs slot n rule → NodeWaits (k ∷ ns) xs slot n rule
      on w = (suc w.0, w.1, w.2, w.3, w.4)

      pass : (0 < count_by (is_triple slot n rule) (due xs ns) → NodeWaits ns xs slot n rule) → count_by (is_triple slot n rule) (due_record k (slice_get xs k)) ≡ 0 → NodeWaits (k ∷ ns) xs slot n rule
      pass go none = on (go (omega (arith, l, none, sum_by-append (λ t. cond (is_triple slot n rule t) 1 0) (due_record k (slice_get xs k)) (due xs ns))))

      counted : (x : Record) → slice_get xs k ≡ Some x → (z : ℕ) → count_by (is_triple slot n rule) (due_marks k x.marks.items) ≡ z →
          (0 < count_by (is_triple slot n rule) (due xs ns) → NodeWaits ns xs slot n rule) → NodeWaits (k ∷ ns) xs slot n rule
      counted x e zero c go = pass go (ap (λ o. count_by (is_triple slot n rule) (due_record k o)) e ∙ c)
      counted x e (suc z) c go =
          let r = mark_found k x.marks.items (omega (arith, c)) in
          (0, x, ap Some r.0, ap (slice_get xs) (sym r.0) ∙ e, r.1)

      by : (o : Option Record) → slice_get xs k ≡ o → (0 < count_by (is_triple slot n rule) (due xs ns) → NodeWaits ns xs slot n rule) → NodeWaits (k ∷ ns) xs slot n rule
      by None e go = pass go (ap (λ o. count_by (is_triple slot n rule) (due_record k o)) e)
      by (Some x) e go = counted x e _ refl go

-- what is due is a mark that waits
pub due_is : (slot n rule : ℕ) (ns : List ℕ) (xs : List Record) → 0 < count_by (is_triple slot n rule) (due xs ns) → NodeWaits ns xs slot n rule
due_is slot n rule ns xs l = node_found slot n rule ns xs l

test_self : (slot n rule : ℕ) → is_triple slot n rule (triple slot n rule) ≡ true
test_self slot n rule =
    ap (λ b. b && (nat_eq n n && nat_eq rule rule)) (eq-eqb slot slot refl) ∙ ap (λ b. b && nat_eq rule rule) (eq-eqb n n refl) ∙ eq-eqb rule rule refl

-- the triple counts itself
pub triple_counts : (slot n rule : ℕ) (ts : List Triple) → 0 < count_by (is_triple slot n rule) (triple slot n rule ∷ ts)
triple_counts slot n rule ts =
    omega (arith, sum_by-cons (λ t. cond (is_triple slot n rule t) 1 0) (triple slot n rule) ts, ap {B = ℕ} (λ b. cond b 1 0) (test_self slot n rule))

-- without the node with this number: what is due of the others
module _ (p : Triple → Bool) (n : ℕ) where
  abbrev pub elsewhere : Triple → Bool
  elsewhere t = not (nat_eq t.node n)

  pub counted_here : (ts : List Triple) → count_by p (filter elsewhere ts) ≡ count_by (λ t. elsewhere t && p t) ts
  counted_here [] = refl
  counted_here (t ∷ ts) = by (elsewhere t) refl (counted_here ts)
    where
      by : (b : Bool) → elsewhere t ≡ b → count_by p (filter elsewhere ts) ≡ count_by (λ t. elsewhere t && p t) ts →
          count_by p (filter elsewhere (t ∷ ts)) ≡ count_by (λ t. elsewhere t && p t) (t ∷ ts)
      by true e rest =
          ap (λ b. count_by p (cond b (t ∷ filter elsewhere ts) (filter elsewhere ts))) e
          ∙ sum_by-cons (λ t. cond (p t) 1 0) t (filter elsewhere ts)
          ∙ ap (λ z. cond (p t) 1 0 + z) rest
          ∙ ap (λ b. cond (b && p t) 1 0 + count_by (λ t. elsewhere t && p t) ts) (sym e)
          ∙ sym (sum_by-cons (λ t. cond (elsewhere t && p t) 1 0) t ts)
      by false e rest =
          ap (λ b. count_by p (cond b (t ∷ filter elsewhere ts) (filter elsewhere ts))) e
          ∙ rest
          ∙ omega (arith, sum_by-cons (λ t. cond (elsewhere t && p t) 1 0) t ts, ap {B = ℕ} (λ b. cond (b && p t) 1 0) e)

  -- those of another node all count, and those of this one do not
  others_due : (m : ℕ) (ms : List Mark) → m ≢ n → count_by (λ t. elsewhere t && p t) (due_marks m ms) ≡ count_by p (due_marks m ms)
  others_due m [] d = refl
  others_due m (k ∷ ms) d =
      omega (
        arith,
        one k.stands,
        others_due m ms d,
        sum_by-append (λ t. cond (elsewhere t && p t) 1 0) (due_of m k.rule k.stands) (due_marks m ms),
        sum_by-append (λ t. cond (p t) 1 0) (due_of m k.rule k.stands) (due_marks m ms),
      )
    where
      not_here : nat_eq m n ≡ false
      not_here = by (eqb_tells m n)
        where
          by : ((nat_eq m n ≡ true) × (m ≡ n)) ⊎ ((nat_eq m n ≡ false) × (m ≢ n)) → nat_eq m n ≡ false
          by (inl (t, same)) = absurd (d same)
          by (inr (t, other)) = t

      one : (s : Stands) → count_by (λ t. elsewhere t && p t) (due_of m k.rule s) ≡ count_by p (due_of m k.rule s)
      one stands.Ready = refl
      one (stands.Differs place) = refl
      one (stands.Circle c) = refl
      one stands.TooDeep = refl
      one (stands.Waits c) = ap (λ b. 0 + cond (not b && p (triple c m k.rule)) 1 0) not_here

  none_here : (ms : List Mark) → count_by (λ t. elsewhere t && p t) (due_marks n ms) ≡ 0
  none_here [] = refl
  none_here (k ∷ ms) =
      omega (arith, one k.stands, none_here ms, sum_by-append (λ t. cond (elsewhere t && p t) 1 0) (due_of n k.rule k.stands) (due_marks n ms))
    where
      one : (s : Stands) → count_by (λ t. elsewhere t && p t) (due_of n k.rule s) ≡ 0
      one stands.Ready = refl
      one (stands.Differs place) = refl
      one (stands.Circle c) = refl
      one stands.TooDeep = refl
      one (stands.Waits c) = ap (λ b. 0 + cond (not b && p (triple c n k.rule)) 1 0) (eq-eqb n n refl)

  record_due : (m : ℕ) (o q : Option Record) → (m ≢ n → q ≡ o) → (m ≡ n → count_by p (due_record m q) ≡ 0) → count_by (λ t. elsewhere t && p t) (due_record m o) ≡ count_by p (due_record m q)
  record_due m o q others here = by (eqb_tells m n)
    where
      other : (o' : Option Record) → m ≢ n → count_by (λ t. elsewhere t && p t) (due_record m o') ≡ count_by p (due_record m o')
      other None d = refl
      other (Some x) d = others_due m x.marks.items d

      same_node : (o' : Option Record) → m ≡ n → count_by (λ t. elsewhere t && p t) (due_record m o') ≡ 0
      same_node None e = refl
      same_node (Some x) e = ap (λ z. count_by (λ t. elsewhere t && p t) (due_marks z x.marks.items)) e ∙ none_here x.marks.items

      by : ((nat_eq m n ≡ true) × (m ≡ n)) ⊎ ((nat_eq m n ≡ false) × (m ≢ n)) → count_by (λ t. elsewhere t && p t) (due_record m o) ≡ count_by p (due_record m q)
      by (inl (t, same)) = same_node o same ∙ sym (here same)
      by (inr (t, d)) = other o d ∙ ap (λ z. count_by p (due_record m z)) (sym (others d))

  -- what is due where the marks of this node are gone
  pub due_dropped : (ns : List ℕ) (xs ys : List Record) → ((m : ℕ) → m ≢ n → slice_get ys m ≡ slice_get xs m) → count_by p (due_record n (slice_get ys n)) ≡ 0 →
      count_by (λ t. elsewhere t && p t) (due xs ns) ≡ count_by p (due ys ns)
  due_dropped [] xs ys others gone = refl
  due_dropped (m ∷ ns) xs ys others gone =
      omega (
        arith,
        record_due m (slice_get xs m) (slice_get ys m) (λ d. others m d) (λ e. ap (λ z. count_by p (due_record z (slice_get ys z))) e ∙ gone),
        due_dropped ns xs ys others gone,
        sum_by-append (λ t. cond (elsewhere t && p t) 1 0) (due_record m (slice_get xs m)) (due xs ns),
        sum_by-append (λ t. cond (p t) 1 0) (due_record m (slice_get ys m)) (due ys ns),
      )

  -- of the same triples the others are the same
  pub same_others : (ts : List Triple) (ns : List ℕ) (xs ys : List Record) → count_by (λ t. elsewhere t && p t) ts ≡ count_by (λ t. elsewhere t && p t) (due xs ns) →
      ((m : ℕ) → m ≢ n → slice_get ys m ≡ slice_get xs m) → count_by p (due_record n (slice_get ys n)) ≡ 0 → count_by p (others_than n ts) ≡ count_by p (due ys ns)
  same_others ts ns xs ys same others gone = counted_here ts ∙ same ∙ due_dropped ns xs ys others gone

-- a triple that waits now
pub waited : (p : Triple → Bool) (slot n rule : ℕ) (s : Stands) (ts us : List Triple) → s ≡ stands.Waits slot → IsPermutation (triple slot n rule ∷ ts) us →
    count_by p us ≡ count_by p (due_of n rule s) + count_by p ts
waited p slot n rule s ts us e same =
    let f : Triple → ℕ = λ t. cond (p t) 1 0 in
    omega (arith, sum_by-IsPermutation f (triple slot n rule ∷ ts) us same, sum_by-cons f (triple slot n rule) ts, sum_by-cons f (triple slot n rule) [], ap (λ z. count_by p (due_of n rule z)) e)

-- one fewer waits for the slot
pub taken_one : (slot n rule : ℕ) (ts us : List Triple) → IsPermutation ts (triple slot n rule ∷ us) → waiting_at slot ts ≡ 1 + waiting_at slot us
taken_one slot n rule ts us same =
    let f : Triple → ℕ = λ t. cond (nat_eq t.slot slot) 1 0 in
    omega (arith, sum_by-IsPermutation f ts (triple slot n rule ∷ us) same, sum_by-cons f (triple slot n rule) us, ap {B = ℕ} (λ b. cond b 1 0) (eq-eqb slot slot refl))

-- not more wait where those of a node are gone
pub others_fewer : (n : ℕ) (ts : List Triple) → length (others_than n ts) ≤ length ts
others_fewer n ts = omega (arith, length-filter (λ t. not (nat_eq t.node n)) ts, count_by-le-length (λ t. not (nat_eq t.node n)) ts)

-- not more wait for any slot
pub taken_fewer : (q slot n rule : ℕ) (ts us : List Triple) → IsPermutation ts (triple slot n rule ∷ us) → waiting_at q us ≤ waiting_at q ts
taken_fewer q slot n rule ts us same =
    let f : Triple → ℕ = λ t. cond (nat_eq t.slot q) 1 0 in
    omega (arith, sum_by-IsPermutation f ts (triple slot n rule ∷ us) same, sum_by-cons f (triple slot n rule) us)

-- of those of the other nodes not more wait for any slot
pub others_wait_less : (q n : ℕ) (ts : List Triple) → waiting_at q (others_than n ts) ≤ waiting_at q ts
others_wait_less q n ts =
    omega (
      arith,
      counted_here (λ t. nat_eq t.slot q) n ts,
      sum_by-le-sum_by (λ t. cond (not (nat_eq t.node n) && nat_eq t.slot q) 1 0) (λ t. cond (nat_eq t.slot q) 1 0) ts (λ t. less (not (nat_eq t.node n)) (nat_eq t.slot q)),
    )
  where
    less : (a b : Bool) → cond {A = ℕ} (a && b) 1 0 ≤ cond {A = ℕ} b 1 0
    less true b = omega arith
    less false true = omega arith
    less false false = omega arith
