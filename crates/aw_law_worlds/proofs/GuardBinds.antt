-- What a guard binds: references that were mentioned, as many as variables enter in the patterns.
use Rattle.std.specs.Prelude.{nat_eq, ◌&&◌}
use Rattle.std.proofs.Common.{List, Some, [], ap, inl, inr, length, length-append, map, refl, subst, suc, sym, ℕ, ◌+◌, ◌∙◌, ◌∷◌, ◌≡◌}
use Rattle.aw_list.specs.Members.{Member}
use Rattle.aw_list.proofs.Members.{member_split, never}
use Rattle.aw_term.specs.Matching.{Yes, under}
use Rattle.aw_term.specs.Names.{Ref}
use Rattle.aw_term.specs.Rules.{Term}
use Rattle.aw_term.specs.Trees.{Head, Leaf, Made, More, Nil, Trees, count, head_eq}
use Rattle.aw_term.specs.WellFormed.{all_leaves, leaves}
use Rattle.aw_iograph.specs.Occurrences.{inherited, pattern_entries}
use Rattle.aw_accept.proofs.Binding.{and_then-yes, cond-yes, under-yes, yes-inj}
use Rattle.aw_store.specs.Chase.{Chased, Found, Missing, Round, chase}
use Rattle.aw_store.proofs.Ends.{At_body, Ends, follows, lacks, stands}
use Rattle.aw_store.specs.Equations.{Is, Map, find}
use Rattle.aw_store.proofs.ChaseEnds.{chase_in-ends}
use Rattle.aw_apply.specs.Guard.{guard, guard_all, guard_end, guard_parts}
use Rattle.aw_law_worlds.proofs.Lists.{length-mapped}

-- what a guard binds
module _ (k : Map) (Q : Ref → Type 0) (q_on : (s : Ref) (h : Head) (rs : List Ref) (u : Ref) → find k s ≡ Some (Is h rs) → Member u rs → Q u) where
  ends_at : (h : Head) (rs : List Ref) {n : ℕ} {r : Ref} → Ends k (At_body h rs) n r → (u : Ref) → Member u rs → Q u
  ends_at h rs (stands {r = r} f e) u m = q_on r _ _ u f (subst (Member u) (body_inj e) m)
    where
      body_inj : {h h' : Head} {rs rs' : List Ref} → At_body h rs ≡ At_body h' rs' → rs ≡ rs'
      body_inj e = cc
  ends_at h rs (lacks f e) u m = absurd cc
  ends_at h rs (follows f d) u m = ends_at h rs d u m

  end_bound : (c : Chased) (r : Ref) (h : Head) (ps : Trees ℕ) (xs : List Ref) → chase k r ≡ c → ((rs : List Ref) → ((u : Ref) → Member u rs → Q u) →
      guard_parts k 1 ps rs ≡ Yes xs → (u : Ref) → Member u xs → Q u)
      → guard_end c (guard_parts k 1 ps) h (count ps) r ≡ Yes xs → (u : Ref) → Member u xs → Q u
  end_bound (Missing s) r h ps xs f ih e u m = absurd cc
  end_bound Round r h ps xs f ih e u m = absurd cc
  end_bound (Found h' rs) r h ps xs f ih e u m =
      let (n, d) = chase_in-ends k (At_body h' rs) (length k) r f in
      ih rs (λ u m. ends_at h' rs d u m) (cond-yes (head_eq h h' && nat_eq (count ps) (length rs)) (guard_parts k 1 ps rs) [] xs e) u m

  mutual
    guard_bound : (p : Term) (r : Ref) (xs : List Ref) → Q r → guard k p r ≡ Yes xs → (u : Ref) → Member u xs → Q u
    guard_bound (Leaf v) r xs q e u m = elim (subst (Member u) (sym (yes-inj e)) m) [ inl p ↦ subst Q (sym p) q | inr z ↦ never z ]
    guard_bound (Made h ps) r xs q e u m = end_bound (chase k r) r h ps xs refl (λ rs qs f. guard_parts_bound ps 1 rs xs qs f) e u m

    guard_parts_bound : (ps : Trees ℕ) (n : ℕ) (rs xs : List Ref) → ((u : Ref) → Member u rs → Q u) → guard_parts k n ps rs ≡ Yes xs → (u : Ref) → Member u xs → Q u
    guard_parts_bound Nil n rs xs q e u m = never (subst (Member u) (sym (yes-inj e)) m)
    guard_parts_bound (More p ps) n [] xs q e u m = absurd cc
    guard_parts_bound (More p ps) n (r ∷ rs) xs q e u m =
        let (as', bs, a, b, j) = and_then-yes (under n (guard k p r)) (guard_parts k (suc n) ps rs) xs e in
        elim (member_split u as' bs (subst (Member u) (sym j) m)) [
          | inl o ↦ guard_bound p r as' (q r (inl refl)) (under-yes n (guard k p r) as' a) u o
          | inr o ↦ guard_parts_bound ps (suc n) rs bs (λ u m. q u (inr m)) b u o
        ]

  pub all_bound : (n : ℕ) (ps : List Term) (rs xs : List Ref) → ((u : Ref) → Member u rs → Q u) → guard_all k n ps rs ≡ Yes xs → (u : Ref) → Member u xs → Q u
  all_bound n [] rs xs q e u m = never (subst (Member u) (sym (yes-inj e)) m)
  all_bound n (p ∷ ps) [] xs q e u m = absurd cc
  all_bound n (p ∷ ps) (r ∷ rs) xs q e u m =
      let (as', bs, a, b, j) = and_then-yes (under n (guard k p r)) (guard_all k (suc n) ps rs) xs e in
      elim (member_split u as' bs (subst (Member u) (sym j) m)) [
        | inl o ↦ guard_bound p r as' (q r (inl refl)) (under-yes n (guard k p r) as' a) u o
        | inr o ↦ all_bound (suc n) ps rs bs (λ u m. q u (inr m)) b u o
      ]

-- and how many
module _ (k : Map) where
  end_many : (c : Chased) (r : Ref) (h : Head) (ps : Trees ℕ) (xs : List Ref) (l : ℕ) → ((rs : List Ref) → guard_parts k 1 ps rs ≡ Yes xs →
      length xs ≡ l) → guard_end c (guard_parts k 1 ps) h (count ps) r ≡ Yes xs → length xs ≡ l
  end_many (Missing s) r h ps xs l ih e = absurd cc
  end_many Round r h ps xs l ih e = absurd cc
  end_many (Found h' rs) r h ps xs l ih e = ih rs (cond-yes (head_eq h h' && nat_eq (count ps) (length rs)) (guard_parts k 1 ps rs) [] xs e)

  mutual
    guard_many : (p : Term) (r : Ref) (xs : List Ref) → guard k p r ≡ Yes xs → length xs ≡ length (leaves p)
    guard_many (Leaf v) r xs e = ap length (sym (yes-inj e))
    guard_many (Made h ps) r xs e = end_many (chase k r) r h ps xs (length (all_leaves ps)) (λ rs f. guard_parts_many ps 1 rs xs f) e

    guard_parts_many : (ps : Trees ℕ) (n : ℕ) (rs xs : List Ref) → guard_parts k n ps rs ≡ Yes xs → length xs ≡ length (all_leaves ps)
    guard_parts_many Nil n rs xs e = ap length (sym (yes-inj e))
    guard_parts_many (More p ps) n [] xs e = absurd cc
    guard_parts_many (More p ps) n (r ∷ rs) xs e =
        let (as', bs, a, b, j) = and_then-yes (under n (guard k p r)) (guard_parts k (suc n) ps rs) xs e in
        let x = guard_many p r as' (under-yes n (guard k p r) as' a) in
        let y = guard_parts_many ps (suc n) rs bs b in
        ap length (sym j) ∙ (length-append as' bs ∙ ((λ i. x i + y i) ∙ sym (length-append (leaves p) (all_leaves ps))))

  pub all_many : (n i : ℕ) (ps : List Term) (rs xs : List Ref) → guard_all k n ps rs ≡ Yes xs → length xs ≡ length (pattern_entries i ps)
  all_many n i [] rs xs e = ap length (sym (yes-inj e))
  all_many n i (p ∷ ps) [] xs e = absurd cc
  all_many n i (p ∷ ps) (r ∷ rs) xs e =
      let (as', bs, a, b, j) = and_then-yes (under n (guard k p r)) (guard_all k (suc n) ps rs) xs e in
      let x = guard_many p r as' (under-yes n (guard k p r) as' a) ∙ sym (length-mapped (λ v. Some (inherited 0 i)) (leaves p)) in
      let y = all_many (suc n) (suc i) ps rs bs b in
      ap length (sym j) ∙ (length-append as' bs ∙ ((λ i. x i + y i) ∙ sym (length-append (map (λ v. Some (inherited 0 i)) (leaves p)) (pattern_entries (suc i) ps))))
