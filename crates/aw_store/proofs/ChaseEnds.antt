-- Where a chase ends: one that ends at all does so within as many steps as there are equations, and one that goes round does so with any bound.
use Rattle.std.proofs.Common.{◌≡◌, ℕ, zero, suc, ◌<◌, ◌≤◌, Bool, true, false, cond, List, [], ◌∷◌, length, Option, Some, None, refl, sym, ap, ◌∙◌, subst, arith}
use Rattle.aw_term.specs.Trees.{Head}
use Rattle.aw_term.specs.Names.{Ref, ref_eq}
use Rattle.aw_store.specs.Equations.{Body, Same, Is, Equation, Map, find}
use Rattle.aw_store.specs.Chase.{Chased, Found, Missing, Round, chase_on, chase_in, chase}
use Rattle.aw_store.proofs.Ends.{End, At_body, At_missing, as_chased, Ends, stands, lacks, follows}
use Rattle.aw_term.proofs.RefTests.{ref_eq-true}

-- the equations of all other references
abbrev without : Ref → Map → Map
without r [] = []
without r (e ∷ k) = cond (ref_eq r e.left) (without r k) (e ∷ without r k)

le_by : (b : Bool) (e : Equation) (k l : Map) → length l ≤ length k → length (cond b l (e ∷ l)) ≤ length (e ∷ k)
le_by true e k l h = omega (arith, h)
le_by false e k l h = omega (arith, h)

without-le : (r : Ref) (k : Map) → length (without r k) ≤ length k
without-le r [] = omega arith
without-le r (e ∷ k) = le_by (ref_eq r e.left) e k (without r k) (without-le r k)

lt_by : (c : Bool) (r : Ref) (e : Equation) (k l : Map) (b : Body) → length l ≤ length k → (find k r ≡ Some b → length l < length k) →
    cond c (Some e.body) (find k r) ≡ Some b → length (cond c l (e ∷ l)) < length (e ∷ k)
lt_by true r e k l b le lt f = omega (arith, le)
lt_by false r e k l b le lt f = omega (arith, lt f)

without-lt : (r : Ref) (k : Map) (b : Body) → find k r ≡ Some b → length (without r k) < length k
without-lt r [] b f = absurd cc
without-lt r (e ∷ k) b f = lt_by (ref_eq r e.left) r e k (without r k) b (without-le r k) (without-lt r k b) f

find_by : (c : Bool) (r s : Ref) (e : Equation) (k l : Map) → ref_eq r e.left ≡ c → ref_eq s r ≡ false → find l s ≡ find k s →
    find (cond c l (e ∷ l)) s ≡ cond (ref_eq s e.left) (Some e.body) (find k s)
find_by true r s e k l p away same = same ∙ ap (λ b. cond b (Some e.body) (find k s)) (sym (ap (ref_eq s) (sym (ref_eq-true r e.left p)) ∙ away))
find_by false r s e k l p away same = ap (cond (ref_eq s e.left) (Some e.body)) same

find-without : (r s : Ref) (k : Map) → ref_eq s r ≡ false → find (without r k) s ≡ find k s
find-without r s [] away = refl
find-without r s (e ∷ k) away = find_by (ref_eq r e.left) r s e k (without r k) refl away (find-without r s k away)

pub same_to : {o : Option Body} {a b : Ref} → o ≡ Some (Same a) → o ≡ Some (Same b) → a ≡ b
same_to e f = cc

step_of : (k : Map) (x : End) {n : ℕ} {r s : Ref} → Ends k x n r → find k r ≡ Some (Same s) → (m : ℕ) × (n ≡ suc m) × Ends k x m s
step_of k x (stands f e) g = absurd cc
step_of k x (lacks f e) g = absurd cc
step_of k x (follows {n = n} f d) g = let p : _ ≡ _ = same_to f g in (n, refl, subst (λ s. Ends k x n s) p d)

same_length : (k : Map) (x : End) {n m : ℕ} {r : Ref} → Ends k x n r → Ends k x m r → n ≡ m
same_length k x (stands f e) (stands g e') = refl
same_length k x (stands f e) (lacks g e') = refl
same_length k x (stands f e) (follows g d) = absurd cc
same_length k x (lacks f e) (stands g e') = refl
same_length k x (lacks f e) (lacks g e') = refl
same_length k x (lacks f e) (follows g d) = absurd cc
same_length k x (follows f d) (stands g e') = absurd cc
same_length k x (follows f d) (lacks g e') = absurd cc
same_length k x (follows f d) (follows g d') = let (m, p, d'') = step_of k x (follows g d') f in ap suc (same_length k x d d'') ∙ sym p

-- a chase that does not come by a reference does not need its equations
other : (k : Map) (x : End) (r s : Ref) (n : ℕ) → Ends k x n s → ((m : ℕ) → m ≤ n → Ends k x m r → ⊥) → ref_eq s r ≡ false
other k x r s n d avoids = by (ref_eq s r) refl
  where
    by : (b : Bool) → ref_eq s r ≡ b → ref_eq s r ≡ false
    by true e = absurd (avoids n (omega arith) (subst (Ends k x n) (ref_eq-true s r e) d))
    by false e = e

kept : (k : Map) (x : End) (r : Ref) {n : ℕ} {s : Ref} → Ends k x n s → ((m : ℕ) → m ≤ n → Ends k x m r → ⊥) → Ends (without r k) x n s
kept k x r {s = s} (stands f e) avoids = stands (find-without r s k (other k x r s 0 (stands f e) avoids) ∙ f) e
kept k x r {s = s} (lacks f e) avoids = lacks (find-without r s k (other k x r s 0 (lacks f e) avoids) ∙ f) e
kept k x r {s = s} (follows {n = n} f d) avoids = follows (find-without r s k (other k x r s (suc n) (follows f d) avoids) ∙ f) (kept k x r d (λ m le. avoids m (omega (arith, le))))

within_by : (l : ℕ) (k : Map) (x : End) {n : ℕ} {r : Ref} → Ends k x n r → n ≤ l → n ≤ length k
within_by l k x (stands f e) le = omega arith
within_by l k x (lacks f e) le = omega arith
within_by zero k x (follows f d) le = absurd (omega (arith, le))
within_by (suc l) k x {r = r} (follows {n = n} f d) le =
    let avoids : (m : ℕ) → m ≤ n → Ends k x m r → ⊥ = λ m h e. absurd (omega (arith, h, same_length k x e (follows f d))) in
    let rest : n ≤ length (without r k) = within_by l (without r k) x (kept k x r d avoids) (omega (arith, le)) in
    let less : length (without r k) < length k = without-lt r k _ f in
    omega (arith, rest, less)

pub ends-chase_in : (k : Map) (x : End) {n : ℕ} {r : Ref} → Ends k x n r → (m : ℕ) → n ≤ m → chase_in m k r ≡ as_chased x
ends-chase_in k x (stands f e) zero le = ap (chase_on _ _) f ∙ ap as_chased (sym e)
ends-chase_in k x (stands f e) (suc m) le = ap (chase_on _ _) f ∙ ap as_chased (sym e)
ends-chase_in k x (lacks f e) zero le = ap (chase_on _ _) f ∙ ap as_chased (sym e)
ends-chase_in k x (lacks f e) (suc m) le = ap (chase_on _ _) f ∙ ap as_chased (sym e)
ends-chase_in k x (follows f d) zero le = absurd (omega arith)
ends-chase_in k x (follows f d) (suc m) le = ap (chase_on _ _) f ∙ ends-chase_in k x d m (omega arith)

pub ends-chase : (k : Map) (x : End) {n : ℕ} {r : Ref} → Ends k x n r → chase k r ≡ as_chased x
ends-chase k x {n = n} d = ends-chase_in k x d (length k) (within_by n k x d (omega arith))

chase_on-ends : (k : Map) (x : End) (go : Ref → Chased) (r : Ref) (o : Option Body) → find k r ≡ o →
    ((s : Ref) → go s ≡ as_chased x → (n : ℕ) × Ends k x n s) → chase_on go r o ≡ as_chased x → (n : ℕ) × Ends k x n r
chase_on-ends k (At_body h rs) go r None f ih e = absurd cc
chase_on-ends k (At_missing s) go r None f ih e = (0, lacks f cc)
chase_on-ends k (At_body h rs) go r (Some (Is h' rs')) f ih e = (0, stands f cc)
chase_on-ends k (At_missing s) go r (Some (Is h' rs')) f ih e = absurd cc
chase_on-ends k x go r (Some (Same s)) f ih e = let (n, d) = ih s e in (suc n, follows f d)

pub chase_in-ends : (k : Map) (x : End) (m : ℕ) (r : Ref) → chase_in m k r ≡ as_chased x → (n : ℕ) × Ends k x n r
chase_in-ends k (At_body h rs) zero r e = chase_on-ends k (At_body h rs) (λ s. Round) r (find k r) refl (λ s f. absurd cc) e
chase_in-ends k (At_missing h) zero r e = chase_on-ends k (At_missing h) (λ s. Round) r (find k r) refl (λ s f. absurd cc) e
chase_in-ends k x (suc m) r e = chase_on-ends k x (chase_in m k) r (find k r) refl (λ s f. chase_in-ends k x m s f) e

-- a chase that goes round does so with any bound
pub round-in : (k : Map) (m : ℕ) (r : Ref) → chase k r ≡ Round → chase_in m k r ≡ Round
round-in k m r e = cases (chase_in m k r) refl
  where
    cases : (c : Chased) → chase_in m k r ≡ c → c ≡ Round
    cases (Found h rs) f = let (n, d) = chase_in-ends k (At_body h rs) m r f in let g = ends-chase k (At_body h rs) d in absurd cc
    cases (Missing s) f = let (n, d) = chase_in-ends k (At_missing s) m r f in let g = ends-chase k (At_missing s) d in absurd cc
    cases Round f = refl

-- Over more equations a chase ends where it did, and goes round where it did.
module _ (k l : Map) (extends : (r : Ref) (b : Body) → find k r ≡ Some b → find l r ≡ Some b) where
  found_ends : (h : Head) (rs : List Ref) {n : ℕ} {r : Ref} → Ends k (At_body h rs) n r → Ends l (At_body h rs) n r
  found_ends h rs (stands f e) = stands (extends _ _ f) e
  found_ends h rs (lacks f e) = absurd cc
  found_ends h rs (follows f d) = follows (extends _ _ f) (found_ends h rs d)

  pub found-more : (r : Ref) (h : Head) (rs : List Ref) → chase k r ≡ Found h rs → chase l r ≡ Found h rs
  found-more r h rs e = let (n, d) = chase_in-ends k (At_body h rs) (length k) r e in ends-chase l (At_body h rs) (found_ends h rs d)

  missing_ends : (s : Ref) → find l s ≡ None → {n : ℕ} {r : Ref} → Ends k (At_missing s) n r → Ends l (At_missing s) n r
  missing_ends s gone (stands f e) = absurd cc
  missing_ends s gone (lacks {r = r} f e) = let same : s ≡ r = cc in lacks (subst (λ x. find l x ≡ None) same gone) e
  missing_ends s gone (follows f d) = follows (extends _ _ f) (missing_ends s gone d)

  pub missing-more : (r s : Ref) → find l s ≡ None → chase k r ≡ Missing s → chase l r ≡ Missing s
  missing-more r s gone e = let (n, d) = chase_in-ends k (At_missing s) (length k) r e in ends-chase l (At_missing s) (missing_ends s gone d)

  round_step : (o : Option Body) (go : Ref → Chased) (r : Ref) → chase_on go r o ≡ Round → (s : Ref) × (o ≡ Some (Same s)) × (go s ≡ Round)
  round_step None go r e = absurd cc
  round_step (Some (Is h rs)) go r e = absurd cc
  round_step (Some (Same s)) go r e = (s, refl, e)

  round_on : (m : ℕ) (r : Ref) → ((j : ℕ) → chase_in j k r ≡ Round) → chase_in m l r ≡ Round
  round_on zero r all =
      let (s, f, g) = round_step (find k r) (λ s. Round) r (all 0) in
      ap (chase_on (λ s. Round) r) (extends r (Same s) f)
  round_on (suc m) r all =
      let (s, f, g) = round_step (find k r) (λ s. Round) r (all 0) in
      ap (chase_on (chase_in m l) r) (extends r (Same s) f)
      ∙ round_on m s (λ j. sym (ap (chase_on (chase_in j k) r) f) ∙ all (suc j))

  pub round-more : (r : Ref) → chase k r ≡ Round → chase l r ≡ Round
  round-more r e = round_on (length l) r (λ j. round-in k j r e)
