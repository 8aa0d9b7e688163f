-- A guard that waits goes on, over more equations, to where a chase leads from what it waits for.
use Rattle.std.proofs.Common.{◌≡◌, ℕ, suc, Bool, true, false, cond, List, [], ◌∷◌, length, Some, refl, ap, ◌∙◌, subst}
use Rattle.std.specs.Prelude.{◌&&◌, nat_eq}
use Rattle.aw_term.specs.Trees.{Head, Leaf, Made, Trees, Nil, More, count, head_eq}
use Rattle.aw_term.specs.Names.{Ref}
use Rattle.aw_term.specs.Rules.{Term}
use Rattle.aw_term.specs.Matching.{Matched, Yes, Waits, Differs, Circle, and_then, under}
use Rattle.aw_store.specs.Equations.{Same, Map, find}
use Rattle.aw_store.specs.Chase.{Chased, Found, Missing, Round, chase}
use Rattle.aw_store.proofs.Ends.{End, At_missing, Ends, stands, lacks, follows}
use Rattle.aw_store.proofs.ChaseEnds.{same_to, ends-chase, chase_in-ends, found-more}
use Rattle.aw_apply.specs.Guard.{guard_end, guard, guard_parts, guard_all}
use Rattle.aw_law_sites.specs.Laws.{IsSubmap}
use Rattle.aw_law_sites.proofs.Guarding.{Final, under-keeps, guard-keeps}

module _ (k l : Map) (extends : IsSubmap k l) where
  -- a chase goes on over more equations from where it ended at a reference that lacked one
  goes_on : (s : Ref) (x : End) {n m : ℕ} {r : Ref} → Ends k (At_missing s) n r → Ends l x m s → (j : ℕ) × Ends l x j r
  goes_on s x (stands f e) d = absurd cc
  goes_on s x {m = m} (lacks {r = r} f e) d = let same : s ≡ r = cc in (m, subst (λ z. Ends l x m z) same d)
  goes_on s x (follows f c) d = let (j, b) = goes_on s x c d in (suc j, follows (extends _ _ f) b)

  next_of : (x : End) {n : ℕ} {r s : Ref} → Ends l x n r → find l r ≡ Some (Same s) → (j : ℕ) × Ends l x j s
  next_of x (stands f e) g = absurd cc
  next_of x (lacks f e) g = absurd cc
  next_of x (follows {n = n} f d) g = (n, subst (λ z. Ends l x n z) (same_to f g) d)

  -- and what is left of the longer chase is the chase from there
  goes_past : (s : Ref) (x : End) {n m : ℕ} {r : Ref} → Ends k (At_missing s) n r → Ends l x m r → (j : ℕ) × Ends l x j s
  goes_past s x (stands f e) d = absurd cc
  goes_past s x {m = m} (lacks {r = r} f e) d = let same : r ≡ s = cc in (m, subst (λ z. Ends l x m z) same d)
  goes_past s x (follows f c) d = let (j, b) = next_of x d (extends _ _ f) in goes_past s x c b

  missing-on : (r s end : Ref) → chase k r ≡ Missing s → chase l s ≡ Missing end → chase l r ≡ Missing end
  missing-on r s end e f =
      let (n, c) = chase_in-ends k (At_missing s) (length k) r e in
      let (m, d) = chase_in-ends l (At_missing end) (length l) s f in
      let (j, b) = goes_on s (At_missing end) c d in
      ends-chase l (At_missing end) b

  pub missing-past : (r s end : Ref) → chase k r ≡ Missing s → chase l r ≡ Missing end → chase l s ≡ Missing end
  missing-past r s end e f =
      let (n, c) = chase_in-ends k (At_missing s) (length k) r e in
      let (m, d) = chase_in-ends l (At_missing end) (length l) r f in
      let (j, b) = goes_past s (At_missing end) c d in
      ends-chase l (At_missing end) b

-- answers of which the first waits for r, and the second for the end
abbrev Moves : Ref → Ref → Matched Ref Ref → Matched Ref Ref → Type 0
Moves r end m m' = m ≡ Waits r → m' ≡ Waits end

and_then-moves : (l : Map) (r end : Ref) (m n m' n' : Matched Ref Ref) → (Final l m → m' ≡ m) → Moves r end m m' → Moves r end n n' → Moves r end (and_then m n) (and_then m' n')
and_then-moves l r end (Yes xs) (Yes ys) m' n' f g h e = absurd cc
and_then-moves l r end (Yes xs) (Waits q) m' n' f g h e = let a = f tt in let b = h e in λ i. and_then (a i) (b i)
and_then-moves l r end (Yes xs) (Differs p) m' n' f g h e = absurd cc
and_then-moves l r end (Yes xs) (Circle q) m' n' f g h e = absurd cc
and_then-moves l r end (Waits q) n m' n' f g h e = ap (λ z. and_then z n') (g e)
and_then-moves l r end (Differs p) n m' n' f g h e = absurd cc
and_then-moves l r end (Circle q) n m' n' f g h e = absurd cc

under-moves : (r end : Ref) (i : ℕ) (m m' : Matched Ref Ref) → Moves r end m m' → Moves r end (under i m) (under i m')
under-moves r end i (Yes xs) m' f e = absurd cc
under-moves r end i (Waits q) m' f e = ap (under i) (f e)
under-moves r end i (Differs p) m' f e = absurd cc
under-moves r end i (Circle q) m' f e = absurd cc

module _ (k l : Map) (extends : IsSubmap k l) (r end : Ref) (on : chase l r ≡ Missing end) where
  end-moves : (c : Chased) (go go' : List Ref → Matched Ref Ref) (h : Head) (n : ℕ) (x : Ref) → chase k x ≡ c →
      ((rs : List Ref) → Moves r end (go rs) (go' rs)) → Moves r end (guard_end c go h n x) (guard_end (chase l x) go' h n x)
  end-moves (Missing s) go go' h n x c g e =
      let same : s ≡ r = cc in
      ap (λ z. guard_end z go' h n x) (missing-on k l extends x r end (c ∙ ap Missing same) on)
  end-moves Round go go' h n x c g e = absurd cc
  end-moves (Found h' rs) go go' h n x c g e = ap (λ z. guard_end z go' h n x) (found-more k l extends x h' rs c) ∙ tested (head_eq h h' && nat_eq n (length rs)) e
    where
      tested : (b : Bool) → Moves r end (cond b (go rs) (Differs [])) (cond b (go' rs) (Differs []))
      tested true y = g rs y
      tested false y = absurd cc

  both-move : (i : ℕ) (m n m' n' : Matched Ref Ref) → (Final l m → m' ≡ m) → Moves r end m m' → Moves r end n n' → Moves r end (and_then (under i m) n) (and_then (under i m') n')
  both-move i m n m' n' f g h e = and_then-moves l r end (under i m) n (under i m') n' (under-keeps l i m m' f) (under-moves r end i m m' g) h e

  mutual
    guard-moves : (p : Term) (x : Ref) → Moves r end (guard k p x) (guard l p x)
    guard-moves (Leaf v) x e = absurd cc
    guard-moves (Made h ps) x e = end-moves (chase k x) (guard_parts k 1 ps) (guard_parts l 1 ps) h (count ps) x refl (guard_parts-moves ps 1) e

    guard_parts-moves : (ps : Trees ℕ) (n : ℕ) (xs : List Ref) → Moves r end (guard_parts k n ps xs) (guard_parts l n ps xs)
    guard_parts-moves Nil n xs e = absurd cc
    guard_parts-moves (More p ps) n [] e = absurd cc
    guard_parts-moves (More p ps) n (x ∷ xs) e =
        both-move n (guard k p x) (guard_parts k (suc n) ps xs) (guard l p x) (guard_parts l (suc n) ps xs) (guard-keeps k l extends p x) (guard-moves p x) (guard_parts-moves ps (suc n) xs) e

  -- a guard that waits for r waits for the end to which that leads
  pub guard_all-moves : (n : ℕ) (ps : List Term) (xs : List Ref) → Moves r end (guard_all k n ps xs) (guard_all l n ps xs)
  guard_all-moves n [] xs e = absurd cc
  guard_all-moves n (p ∷ ps) [] e = absurd cc
  guard_all-moves n (p ∷ ps) (x ∷ xs) e =
      both-move n (guard k p x) (guard_all k (suc n) ps xs) (guard l p x) (guard_all l (suc n) ps xs) (guard-keeps k l extends p x) (guard-moves p x) (guard_all-moves (suc n) ps xs) e
