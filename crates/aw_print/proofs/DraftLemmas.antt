-- Drafts: one after another, and how they grow with the depth.
use Rattle.std.proofs.Common.{◌≡◌, ℕ, zero, suc, ◌+◌, ◌-◌, ◌≤◌, List, [], ◌∷◌, ◌++◌, map, codes, refl, sym, ap, ◌∙◌, subst, arith, append_assoc, append-nil}
use Rattle.aw_term.specs.Names.{Ref}
use Rattle.aw_term.specs.Artifacts.{Words}
use Rattle.aw_store.specs.Equations.{Map}
use Rattle.aw_store.specs.Chase.{Chased, Found, Missing, Round, chase}
use Rattle.aw_print.specs.Drafts.{Draft, Whole, Front, so_far, then, following, listed, draft_on, draft}
use Rattle.aw_print.specs.Growing.{Begins}

pub then-assoc : (a b c : Draft) → then (then a b) c ≡ then a (then b c)
then-assoc (Whole a) (Whole b) (Whole c) = ap Whole (append_assoc a b c)
then-assoc (Whole a) (Whole b) (Front c) = ap Front (append_assoc a b c)
then-assoc (Whole a) (Front b) c = refl
then-assoc (Front a) b c = refl

pub then-nothing : (d : Draft) → then d (Whole []) ≡ d
then-nothing (Whole a) = ap Whole (append-nil a)
then-nothing (Front a) = refl

pub nothing-then : (d : Draft) → then (Whole []) d ≡ d
nothing-then (Whole a) = refl
nothing-then (Front a) = refl

pub Begins-self : (d : Draft) → Begins d d
Begins-self (Whole a) = refl
Begins-self (Front a) = ([], sym (append-nil a))

pub Begins-more : (a b c : Draft) → Begins a b → Begins b c → Begins a c
Begins-more (Whole a) (Whole b) (Whole c) p q = q ∙ p
Begins-more (Whole a) (Whole b) (Front c) p q = q
Begins-more (Whole a) (Front b) c p q = elim p [ ]
Begins-more (Front a) (Whole b) (Whole c) p q = (p.0, q ∙ p.1)
Begins-more (Front a) (Whole b) (Front c) p q = elim q [ ]
Begins-more (Front a) (Front b) c p q = (p.0 ++ q.0, q.1 ∙ ap (λ t. t ++ q.0) p.1 ∙ append_assoc a p.0 q.0)

-- what is printed first is the front of both
pub so_far-then : (a b : Draft) → (rest : List ℕ) × (so_far (then a b) ≡ so_far a ++ rest)
so_far-then (Whole a) (Whole b) = (b, refl)
so_far-then (Whole a) (Front b) = (b, refl)
so_far-then (Front a) b = ([], sym (append-nil a))

pub then-Begins : (a a' b b' : Draft) → Begins a a' → Begins b b' → Begins (then a b) (then a' b')
then-Begins (Whole a) (Whole a') (Whole b) (Whole b') p q = (λ i. p i ++ q i)
then-Begins (Whole a) (Whole a') (Whole b) (Front b') p q = elim q [ ]
then-Begins (Whole a) (Whole a') (Front b) (Whole b') p q = (q.0, ap (λ t. t ++ b') p ∙ ap (λ t. a ++ t) q.1 ∙ sym (append_assoc a b q.0))
then-Begins (Whole a) (Whole a') (Front b) (Front b') p q = (q.0, ap (λ t. t ++ b') p ∙ ap (λ t. a ++ t) q.1 ∙ sym (append_assoc a b q.0))
then-Begins (Whole a) (Front a') b b' p q = elim p [ ]
then-Begins (Front a) a' b b' p q =
    let e = so_far-then a' b' in
    (p.0 ++ e.0, e.1 ∙ ap (λ t. t ++ e.0) p.1 ∙ append_assoc a p.0 e.0)

-- lists whose drafts grow one by one
pub following-Begins : {A : Type 0} (f g : A → Draft) → ((x : A) → Begins (f x) (g x)) → (xs : List A) → Begins (following (map f xs)) (following (map g xs))
following-Begins f g h [] = refl
following-Begins f g h (x ∷ xs) = then-Begins (Whole (codes ", ")) (Whole (codes ", ")) _ _ refl (then-Begins (f x) (g x) _ _ (h x) (following-Begins f g h xs))

pub listed-Begins : {A : Type 0} (f g : A → Draft) → ((x : A) → Begins (f x) (g x)) → (xs : List A) → Begins (listed (map f xs)) (listed (map g xs))
listed-Begins f g h [] = refl
listed-Begins f g h (x ∷ xs) = then-Begins (f x) (g x) _ _ (h x) (following-Begins f g h xs)

draft_on-Begins : (w : Words) (f g : Ref → Draft) → ((r : Ref) → Begins (f r) (g r)) → (r : Ref) (end : Chased) → Begins (draft_on w f r end) (draft_on w g r end)
draft_on-Begins w f g h r (Found c []) = refl
draft_on-Begins w f g h r (Found c (s ∷ rs)) = then-Begins (Whole _) (Whole _) _ _ refl
    (then-Begins (listed (map f (s ∷ rs))) (listed (map g (s ∷ rs))) (Whole (codes ")")) (Whole (codes ")")) (listed-Begins f g h (s ∷ rs)) refl)
draft_on-Begins w f g h r (Missing s) = refl
draft_on-Begins w f g h r Round = refl

-- one more constructor deep
pub draft-next : (n : ℕ) (w : Words) (k : Map) (r : Ref) → Begins (draft n w k r) (draft (suc n) w k r)
draft-next zero w k r = (so_far (draft_on w (draft zero w k) r (chase k r)), refl)
draft-next (suc n) w k r = draft_on-Begins w (draft n w k) (draft (suc n) w k) (draft-next n w k) r (chase k r)

-- drafts that grow
abbrev pub Grows : (ℕ → Draft) → Type 0
Grows f = (n : ℕ) → Begins (f n) (f (suc n))

pub grows-by : (f : ℕ → Draft) → Grows f → (n m : ℕ) → Begins (f n) (f (m + n))
grows-by f g n zero = let e : n ≡ 0 + n = omega arith in subst (λ l. Begins (f n) (f l)) e (Begins-self (f n))
grows-by f g n (suc m) = let e : suc m + n ≡ suc (m + n) = omega arith in subst (λ l. Begins (f n) (f l)) (sym e) (Begins-more (f n) (f (m + n)) (f (suc (m + n))) (grows-by f g n m) (g (m + n)))

pub grows-to : (f : ℕ → Draft) → Grows f → (n m : ℕ) → n ≤ m → Begins (f n) (f m)
grows-to f g n m le = let e : m - n + n ≡ m = omega arith in subst (λ l. Begins (f n) (f l)) e (grows-by f g n (m - n))

pub then-Grows : (f g : ℕ → Draft) → Grows f → Grows g → Grows (λ n. then (f n) (g n))
then-Grows f g p q = λ n. then-Begins (f n) (f (suc n)) (g n) (g (suc n)) (p n) (q n)

pub drafts-Grow : (w : Words) (k : Map) (rs : List Ref) → Grows (λ n. listed (map (draft n w k) rs))
drafts-Grow w k rs = λ n. listed-Begins (draft n w k) (draft (suc n) w k) (draft-next n w k) rs

pub following-Grow : (w : Words) (k : Map) (rs : List Ref) → Grows (λ n. following (map (draft n w k) rs))
following-Grow w k rs = λ n. following-Begins (draft n w k) (draft (suc n) w k) (draft-next n w k) rs
