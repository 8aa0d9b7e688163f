-- The arcs of pairs of a child's sort, and of children.
use Rattle.std.proofs.Common.{◌≡◌, ℕ, suc, ◌+◌, ◌-◌, ◌*◌, ◌/◌, ◌%◌, ◌<◌, List, [], ◌∷◌, ◌++◌, take, Option, Some, slice_get, refl, sym, ap, ◌∙◌, subst, inl, inr, arith}
use Rattle.std.specs.Prelude.{◌⊎◌}
use Rattle.aw_list.proofs.Members.{below_or_at}
use Rattle.aw_grammar.specs.declared.rule.Child.{Child}
use Rattle.aw_iograph.specs.declared.rows.Arc.{Arc}
use Rattle.aw_iograph.specs.declared.occ.Occ.{Occ}
use Rattle.aw_iograph.specs.declared.io.Io.{Io}
use Rattle.aw_iograph.specs.Pairs.{IsNumber}
use Rattle.aw_iograph.specs.Arcs.{call_arc, IsCallOf, IsOfChild, IsOfChildren}

-- the arc of a pair by its number
pub pair_arc : (m k n : ℕ) → m ≡ k → record { from = m * 16 + n / 8; to = m * 16 + 8 + n % 8 } ≡ call_arc k (n / 8 + 1) (n % 8 + 1)
pair_arc m k n same = same_arc (m * 16 + n / 8) (k * 16 + (0 + (n / 8 + 1 - 1))) (m * 16 + 8 + n % 8) (k * 16 + (8 + (n % 8 + 1 - 1))) (omega arith) (omega arith)
  where
    same_arc : (a b c d : ℕ) → a ≡ b → c ≡ d → ◌≡◌ {A = Arc} (record { from = a; to = c }) (record { from = b; to = d })
    same_arc a b c d e f = cc

take_none : {A : Type 0} (xs : List A) → take 0 xs ≡ []
take_none [] = refl
take_none (x ∷ xs) = refl

-- a list that was emptied has just what was then appended
pub refilled : {A : Type 0} (old empty new added : List A) → empty ≡ take 0 old → new ≡ empty ++ added → new ≡ added
refilled old empty new added cut step = step ∙ ap (λ xs. xs ++ added) (cut ∙ take_none old)

-- two numbers from 1 to 8 whose pair, by its number, comes before the n-th
pub record IsBefore (n i l : ℕ) : Type 0 where
  pub inherited : IsNumber i
  pub result : IsNumber l
  pub before : (i - 1) * 8 + (l - 1) < n

pub before_more : (n i l : ℕ) → IsBefore (n + 1) i l → IsBefore n i l ⊎ ((i ≡ n / 8 + 1) × (l ≡ n % 8 + 1))
before_more n i l p = elim (below_or_at ((i - 1) * 8 + (l - 1)) n p.before) [
  | inl less ↦ inl (record { inherited = p.inherited; result = p.result; before = less })
  | inr at ↦ (let a = p.inherited.counted in let b = p.result.counted in let c = p.result.few in inr (omega arith, omega arith))
]

-- at child k, an arc of a pair that comes before the n-th
abbrev pub IsEarly : Io → ℕ → ℕ → ℕ → Arc → Type 0
IsEarly io s k n a = (i : ℕ) × (l : ℕ) × IsBefore n i l × IsCallOf io s k i l a

-- a pair before the next one is that one, or comes before it
pub early_split : (io : Io) (s k n : ℕ) (x : Arc) → IsEarly io s k (n + 1) x → IsEarly io s k n x ⊎ IsCallOf io s k (n / 8 + 1) (n % 8 + 1) x
early_split io s k n x (i, l, p, q) = elim (before_more n i l p) [
  | inl less ↦ inl (i, l, less, q)
  | inr at ↦ inr (subst (λ j. IsCallOf io s k j (n % 8 + 1) x) at.0 (subst (λ j. IsCallOf io s k i j x) at.1 q))
]

pub early_left : (io : Io) (s k n : ℕ) (x : Arc) → IsEarly io s k n x → IsEarly io s k (n + 1) x
early_left io s k n x (i, l, p, q) = let less = p.before in (i, l, record { inherited = p.inherited; result = p.result; before = omega arith }, q)

pub early_right : (io : Io) (s k n : ℕ) (x : Arc) → IsCallOf io s k (n / 8 + 1) (n % 8 + 1) x → IsEarly io s k (n + 1) x
early_right io s k n x q = (n / 8 + 1, n % 8 + 1, record { inherited = q.0.inherited; result = q.0.result; before = omega arith }, q)

pub early_none : (io : Io) (s k : ℕ) (x : Arc) → IsEarly io s k 0 x → ⊥
early_none io s k x (i, l, p, q) = let none = p.before in omega arith

-- an arc of the first children and the next one is of that one, or of those before
pub child_split : (es : List (Option Occ)) (io : Io) (cs : List Child) (n : ℕ) (c : Child) → slice_get cs n ≡ Some c → (x : Arc) →
    IsOfChildren es io cs (n + 1) x → IsOfChildren es io cs n x ⊎ IsOfChild es io (n + 1) c x
child_split es io cs n c here x (k, e, lt, got, q) = elim (below_or_at k n lt) [
  | inl less ↦ inl (k, e, less, got, q)
  | inr same ↦ (let what : Some e ≡ Some c = sym got ∙ ap (slice_get cs) same ∙ here in
      let child : e ≡ c = cc in let number : suc k ≡ n + 1 = omega arith in
      inr (subst (λ m. IsOfChild es io m c x) number (subst (λ (y : Child). IsOfChild es io (suc k) y x) child q)))
]

pub child_left : (es : List (Option Occ)) (io : Io) (cs : List Child) (n : ℕ) (x : Arc) → IsOfChildren es io cs n x → IsOfChildren es io cs (n + 1) x
child_left es io cs n x (k, e, lt, got, q) = (k, e, omega arith, got, q)

pub child_right : (es : List (Option Occ)) (io : Io) (cs : List Child) (n : ℕ) (c : Child) → slice_get cs n ≡ Some c → (x : Arc) → IsOfChild es io (n + 1) c x → IsOfChildren es io cs (n + 1) x
child_right es io cs n c here x q = let at : n + 1 ≡ suc n = omega arith in (n, c, omega arith, here, subst (λ m. IsOfChild es io m c x) at q)
