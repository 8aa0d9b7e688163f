-- What is found, chased, matched and held of some cases is found, chased, matched and held where only these are kept.
use Rattle.std.specs.Prelude.{filter, nat_eq, ◌&&◌}
use Rattle.std.proofs.Common.{◌≡◌, ℕ, zero, suc, Bool, true, false, cond, List, [], ◌∷◌, length, Option, Some, None, refl, sym, ap, ◌∙◌, subst, inl, inr}
use Rattle.aw_list.proofs.Members.{never, member_split}
use Rattle.aw_name.specs.SameNodes.{node_is}
use Rattle.aw_term.specs.Held.{Held, held_of}
use Rattle.aw_term.specs.Matching.{Matched, Yes, Waits, Differs, Circle, and_then, under}
use Rattle.aw_term.specs.Names.{Node, Ref, node_eq, ref_eq}
use Rattle.aw_term.specs.Rules.{Term}
use Rattle.aw_term.specs.Trees.{Head, Leaf, Made, Trees, Nil, More, count, head_eq}
use Rattle.aw_term.proofs.RefTests.{ref_eq-true}
use Rattle.aw_store.specs.Chase.{Chased, Found, Missing, Round, chase_on, chase_in, chase}
use Rattle.aw_store.specs.Equations.{Body, Same, Is, Equation, Map, find, mentions}
use Rattle.aw_store.proofs.ChaseEnds.{found-more, missing-more, round-more}
use Rattle.aw_apply.specs.Guard.{guard, guard_all, guard_end, guard_parts}
use Rattle.aw_law_worlds.proofs.Learning.{find-member}
use Rattle.aw_law_worlds.proofs.Lists.{Member-filtered}
use Rattle.aw_law_cases.specs.Cases.{Cases, of_node, of_ref, of_equation, of_held, AllOn, AreParted}

module _ (C : Cases) where
  abbrev pub kept : Map → Map
  kept k = filter (of_equation C) k

  -- equations
  find-at : (r : Ref) (e : Equation) (k l : Map) (b d : Bool) → of_equation C e ≡ b → ref_eq r e.left ≡ d → of_ref C r ≡ true → find l r ≡ find k r →
      find (cond b (e ∷ l) l) r ≡ cond d (Some e.body) (find k r)
  find-at r e k l true d p q i h = λ j. cond (q j) (Some e.body) (h j)
  find-at r e k l false true p q i h = let z : of_ref C e.left ≡ true = subst (λ r. of_ref C r ≡ true) (ref_eq-true r e.left q) i in let y : false ≡ true = sym p ∙ z in absurd cc
  find-at r e k l false false p q i h = h

  pub find-kept : (k : Map) (r : Ref) → of_ref C r ≡ true → find (kept k) r ≡ find k r
  find-kept [] r i = refl
  find-kept (e ∷ k) r i = find-at r e k (kept k) (of_equation C e) (ref_eq r e.left) refl refl i (find-kept k r i)

  other-at : (r : Ref) (e : Equation) (l : Map) (b d : Bool) → of_equation C e ≡ b → ref_eq r e.left ≡ d → of_ref C r ≡ false → find l r ≡ None → find (cond b (e ∷ l) l) r ≡ None
  other-at r e l true true p q i h = let z : of_ref C e.left ≡ false = subst (λ r. of_ref C r ≡ false) (ref_eq-true r e.left q) i in let y : true ≡ false = sym p ∙ z in absurd cc
  other-at r e l true false p q i h = ap (λ d. cond d (Some e.body) (find l r)) q ∙ h
  other-at r e l false d p q i h = h

  find-other : (k : Map) (r : Ref) → of_ref C r ≡ false → find (kept k) r ≡ None
  find-other [] r i = refl
  find-other (e ∷ k) r i = other-at r e (kept k) (of_equation C e) (ref_eq r e.left) refl refl i (find-other k r i)

  extends : (k : Map) (r : Ref) (b : Body) → find (kept k) r ≡ Some b → find k r ≡ Some b
  extends k r b e = by (of_ref C r) refl
    where
      by : (d : Bool) → of_ref C r ≡ d → find k r ≡ Some b
      by true i = sym (find-kept k r i) ∙ e
      by false i = let z : None ≡ Some b = sym (find-other k r i) ∙ e in absurd cc

  pub parted-kept : (k : Map) → AreParted C k → AreParted C (kept k)
  parted-kept k p e m = p e (Member-filtered (of_equation C) e k m).0

  -- what a body of this side mentions
  pub body-on : (k : Map) → AreParted C k → (r : Ref) (b : Body) → find k r ≡ Some b → AllOn C (of_ref C r) (mentions b)
  body-on k p r b e = p (record { left = r; body = b }) (find-member k r b e)

  -- where a chase ends
  abbrev EndsOn : Bool → Chased → Type 0
  EndsOn b (Found h rs) = AllOn C b rs
  EndsOn b (Missing s) = of_ref C s ≡ b
  EndsOn b Round = Unit {0}

  ends-by : (k : Map) → AreParted C k → (go : Ref → Chased) (r : Ref) (b : Bool) → of_ref C r ≡ b → ((s : Ref) → of_ref C s ≡ b → EndsOn b (go s)) →
      (o : Option Body) → find k r ≡ o → EndsOn b (chase_on go r o)
  ends-by k p go r b i f None e = i
  ends-by k p go r b i f (Some (Is h rs)) e = λ u m. body-on k p r (Is h rs) e u m ∙ i
  ends-by k p go r b i f (Some (Same s)) e = f s (body-on k p r (Same s) e s (inl refl) ∙ i)

  ends-on : (n : ℕ) (k : Map) → AreParted C k → (r : Ref) (b : Bool) → of_ref C r ≡ b → EndsOn b (chase_in n k r)
  ends-on zero k p r b i = ends-by k p (λ s. Round) r b i (λ s j. tt) (find k r) refl
  ends-on (suc n) k p r b i = ends-by k p (chase_in n k) r b i (λ s j. ends-on n k p s b j) (find k r) refl

  missing-by : (k : Map) (go : Ref → Chased) (r s : Ref) → ((t : Ref) → go t ≡ Missing s → find k s ≡ None) → (o : Option Body) → find k r ≡ o → chase_on go r o ≡ Missing s → find k s ≡ None
  missing-by k go r s f None e q = let z : r ≡ s = cc in subst (λ r. find k r ≡ None) z e
  missing-by k go r s f (Some (Is h rs)) e q = absurd cc
  missing-by k go r s f (Some (Same t)) e q = f t q

  missing-none : (n : ℕ) (k : Map) (r s : Ref) → chase_in n k r ≡ Missing s → find k s ≡ None
  missing-none zero k r s q = missing-by k (λ s. Round) r s (λ t z. absurd cc) (find k r) refl q
  missing-none (suc n) k r s q = missing-by k (chase_in n k) r s (λ t z. missing-none n k t s z) (find k r) refl q

  chase-by : (k : Map) → AreParted C k → (r : Ref) → of_ref C r ≡ true → (z : Chased) → chase (kept k) r ≡ z → EndsOn true z → chase k r ≡ z
  chase-by k p r i (Found h rs) e on = found-more (kept k) k (extends k) r h rs e
  chase-by k p r i (Missing s) e on = missing-more (kept k) k (extends k) r s (sym (find-kept k s on) ∙ missing-none (length (kept k)) (kept k) r s e) e
  chase-by k p r i Round e on = round-more (kept k) k (extends k) r e

  pub chase-kept : (k : Map) → AreParted C k → (r : Ref) → of_ref C r ≡ true → chase (kept k) r ≡ chase k r
  chase-kept k p r i = sym (chase-by k p r i (chase (kept k) r) refl (ends-on (length (kept k)) (kept k) (parted-kept k p) r true i))

  -- guards
  module _ (k : Map) (p : AreParted C k) where
    end-same : (z : Chased) → EndsOn true z → (go to : List Ref → Matched Ref Ref) → ((rs : List Ref) → AllOn C true rs → go rs ≡ to rs) →
        (h : Head) (n : ℕ) (r : Ref) → guard_end z go h n r ≡ guard_end z to h n r
    end-same (Found j rs) on go to f h n r = ap (λ m. cond (head_eq h j && nat_eq n (length rs)) m (Differs [])) (f rs on)
    end-same (Missing s) on go to f h n r = refl
    end-same Round on go to f h n r = refl

    mutual
      guard-kept : (t : Term) (r : Ref) → of_ref C r ≡ true → guard (kept k) t r ≡ guard k t r
      guard-kept (Leaf v) r i = refl
      guard-kept (Made h ts) r i =
          ap (λ z. guard_end z (guard_parts (kept k) 1 ts) h (count ts) r) (chase-kept k p r i)
          ∙ end-same (chase k r) (ends-on (length k) k p r true i) (guard_parts (kept k) 1 ts) (guard_parts k 1 ts) (λ rs on. parts-kept ts 1 rs on) h (count ts) r

      parts-kept : (ts : Trees ℕ) (n : ℕ) (rs : List Ref) → AllOn C true rs → guard_parts (kept k) n ts rs ≡ guard_parts k n ts rs
      parts-kept Nil n rs on = refl
      parts-kept (More t ts) n [] on = refl
      parts-kept (More t ts) n (r ∷ rs) on =
          let here = guard-kept t r (on r (inl refl)) in
          let later = parts-kept ts (suc n) rs (λ u m. on u (inr m)) in
          λ i. and_then (under n (here i)) (later i)

    pub guards-kept : (n : ℕ) (ts : List Term) (rs : List Ref) → AllOn C true rs → guard_all (kept k) n ts rs ≡ guard_all k n ts rs
    guards-kept n [] rs on = refl
    guards-kept n (t ∷ ts) [] on = refl
    guards-kept n (t ∷ ts) (r ∷ rs) on =
        let here = guard-kept t r (on r (inl refl)) in
        let later = guards-kept (suc n) ts rs (λ u m. on u (inr m)) in
        λ i. and_then (under n (here i)) (later i)

  -- what a guard binds is of the side that it began in
  abbrev MatchOn : Bool → Matched Ref Ref → Type 0
  MatchOn b (Yes xs) = AllOn C b xs
  MatchOn b (Waits r) = Unit {0}
  MatchOn b (Differs p) = Unit {0}
  MatchOn b (Circle r) = Unit {0}

  both-match : (b : Bool) (n : ℕ) (x y : Matched Ref Ref) → MatchOn b x → MatchOn b y → MatchOn b (and_then (under n x) y)
  both-match b n (Yes xs) (Yes ys) f h = λ r m. elim (member_split r xs ys m) [ inl i ↦ f r i | inr i ↦ h r i ]
  both-match b n (Yes xs) (Waits r) f h = tt
  both-match b n (Yes xs) (Differs p) f h = tt
  both-match b n (Yes xs) (Circle r) f h = tt
  both-match b n (Waits r) y f h = tt
  both-match b n (Differs p) y f h = tt
  both-match b n (Circle r) y f h = tt

  module _ (k : Map) (p : AreParted C k) (b : Bool) where
    end-match : (z : Chased) → EndsOn b z → (go : List Ref → Matched Ref Ref) → ((rs : List Ref) → AllOn C b rs → MatchOn b (go rs)) → (h : Head) (n : ℕ) (r : Ref) → MatchOn b (guard_end z go h n r)
    end-match (Found j rs) on go f h n r = by (head_eq h j && nat_eq n (length rs))
      where
        by : (x : Bool) → MatchOn b (cond x (go rs) (Differs []))
        by true = f rs on
        by false = tt
    end-match (Missing s) on go f h n r = tt
    end-match Round on go f h n r = tt

    mutual
      guard-match : (t : Term) (r : Ref) → of_ref C r ≡ b → MatchOn b (guard k t r)
      guard-match (Leaf v) r i = λ u m. elim m [ inl z ↦ ap (of_ref C) z ∙ i | inr z ↦ never z ]
      guard-match (Made h ts) r i = end-match (chase k r) (ends-on (length k) k p r b i) (guard_parts k 1 ts) (λ rs on. parts-match ts 1 rs on) h (count ts) r

      parts-match : (ts : Trees ℕ) (n : ℕ) (rs : List Ref) → AllOn C b rs → MatchOn b (guard_parts k n ts rs)
      parts-match Nil n rs on = λ u m. never m
      parts-match (More t ts) n [] on = tt
      parts-match (More t ts) n (r ∷ rs) on = both-match b n (guard k t r) (guard_parts k (suc n) ts rs) (guard-match t r (on r (inl refl))) (parts-match ts (suc n) rs (λ u m. on u (inr m)))

    guards-match : (n : ℕ) (ts : List Term) (rs : List Ref) → AllOn C b rs → MatchOn b (guard_all k n ts rs)
    guards-match n [] rs on = λ u m. never m
    guards-match n (t ∷ ts) [] on = tt
    guards-match n (t ∷ ts) (r ∷ rs) on = both-match b n (guard k t r) (guard_all k (suc n) ts rs) (guard-match t r (on r (inl refl))) (guards-match (suc n) ts rs (λ u m. on u (inr m)))

    pub bound-on : (n : ℕ) (ts : List Term) (rs xs : List Ref) → AllOn C b rs → guard_all k n ts rs ≡ Yes xs → AllOn C b xs
    bound-on n ts rs xs on e = subst (MatchOn b) e (guards-match n ts rs on)

  -- held nodes
  held-at : (n : Node) (h : Held) (hs ls : List Held) (b d : Bool) → of_held C h ≡ b → node_eq n h.node ≡ d → of_node C n ≡ true →
      held_of n ls ≡ held_of n hs → held_of n (cond b (h ∷ ls) ls) ≡ cond d (Some h) (held_of n hs)
  held-at n h hs ls true d p q i e = λ j. cond (q j) (Some h) (e j)
  held-at n h hs ls false true p q i e = let z : of_node C h.node ≡ true = subst (λ n. of_node C n ≡ true) (node_is n h.node q) i in let y : false ≡ true = sym p ∙ z in absurd cc
  held-at n h hs ls false false p q i e = e

  pub held-kept : (hs : List Held) (n : Node) → of_node C n ≡ true → held_of n (filter (of_held C) hs) ≡ held_of n hs
  held-kept [] n i = refl
  held-kept (h ∷ hs) n i = held-at n h hs (filter (of_held C) hs) (of_held C h) (node_eq n h.node) refl refl i (held-kept hs n i)
