-- Circles of a rule, and inherited values that are in the rows of their own places.
use Rattle.std.proofs.Common.{◌≡◌, ℕ, suc, ◌+◌, ◌/◌, ◌%◌, ◌<◌, ◌≤◌, true, List, map, slice_get, Option, Some, None, refl, sym, ap, ◌∙◌, subst, inl, inr, arith}
use Rattle.std.specs.Prelude.{◌⊎◌}
use Rattle.std.proofs.lemmas.Bool.{cases_lt}
use Rattle.aw_list.proofs.Members.{got_map}
use Rattle.aw_term.specs.Rules as P
use Rattle.aw_iograph.specs.declared.occ.Occ.{Occ}
use Rattle.aw_iograph.specs.Graphs.{Plus, step, more}
use Rattle.aw_iograph.specs.Occurrences.{inherited, IsPlace, place_of, IsUpTo}
use Rattle.aw_iograph.specs.Dependence.{Edge, text, call, IsOnCircle, LeastOnCircle}
use Rattle.aw_iograph.specs.Rows.{IsIn, bit_of, bit_value, HasEachWalk, HasOnlyWalks, IsInOwnRow, FirstInOwnRow}
use Rattle.aw_iograph.proofs.Placing.{entry_child}
use Rattle.aw_iograph.proofs.StepJoins.{value_own, bit_place, bit_same}
use Rattle.aw_iograph.proofs.TextFlows.{Stands, argument, outcome, stands}

-- the last step of a walk
last_step : {V : Type 0} (E : V → V → Type 0) {a b : V} → Plus E a b → (x : V) × E x b × ((a ≡ x) ⊎ Plus E a x)
last_step E {a = a} (step e) = (a, e, inl refl)
last_step E {a = a} (more e w) =
    let (x, f, before) = last_step E w in
    (x, f, elim before [ inl same ↦ inr (step (subst (λ y. E a y) same e)) | inr v ↦ inr (more e v) ])

-- an edge that begins at a result begins at one of a child
edge_child : (r : P.Rule) (rel : ℕ → ℕ → ℕ → Type 0) (o u : Occ) → Edge r rel o u → o.result ≡ true → 0 < o.child
edge_child r rel o u (text v t e f x) on = entry_child r v o e on
edge_child r rel o u (call k i l c e h) on = absurd cc

-- and so does a walk
walk_child : (r : P.Rule) (rel : ℕ → ℕ → ℕ → Type 0) (o u : Occ) → Plus (Edge r rel) o u → o.result ≡ true → 0 < o.child
walk_child r rel o u (step e) on = edge_child r rel o _ e on
walk_child r rel o u (more e w) on = edge_child r rel o _ e on

-- an inherited value on a circle is the occurrence, or comes before it
abbrev IsBehind : P.Rule → (ℕ → ℕ → ℕ → Type 0) → Occ → Type 0
IsBehind r rel o = (k : ℕ) × (i : ℕ) × IsOnCircle rel r (inherited k i) × IsUpTo (inherited k i) o

behind_term : (r : P.Rule) (rel : ℕ → ℕ → ℕ → Type 0) (t : P.Term) (o : Occ) → Stands r t o → IsOnCircle rel r o → IsBehind r rel o
behind_term r rel t o (argument k i c g h) w = (suc k, suc i, w, inr (refl, inr (refl, omega arith)))
behind_term r rel t o (outcome j h) w = let less : 0 < 0 = walk_child r rel _ _ w refl in absurd (omega arith)

behind_edge : (r : P.Rule) (rel : ℕ → ℕ → ℕ → Type 0) (x o : Occ) → Edge r rel x o → IsOnCircle rel r x → IsOnCircle rel r o → IsBehind r rel o
behind_edge r rel x o (text v t e f y) before w = behind_term r rel t o (stands r t o f) w
behind_edge r rel x o (call k i l c e h) before w = (k, i, before, inr (refl, inl (refl, refl)))

-- each occurrence on a circle has such an inherited value
behind : (r : P.Rule) (rel : ℕ → ℕ → ℕ → Type 0) (o : Occ) → IsOnCircle rel r o → IsBehind r rel o
behind r rel o w =
    let (x, e, before) = last_step (Edge r rel) w in
    behind_edge r rel x o e (elim before [ inl same ↦ subst (λ (y : Occ). Plus (Edge r rel) y y) same w | inr v ↦ more e v ]) w

-- what comes before an inherited value comes before all that follows it
up_to : (k i m j : ℕ) (u : Occ) → IsUpTo (inherited k i) (inherited m j) → IsUpTo (inherited m j) u → IsUpTo (inherited k i) u
up_to k i m j u (inl a) (inl b) = inl (omega arith)
up_to k i m j u (inl a) (inr b) = let at = b.0 in inl (omega arith)
up_to k i m j u (inr (at, inl not_so)) b = let x = not_so.1 in absurd cc
up_to k i m j u (inr (at, inr a)) (inl b) = inl (omega arith)
up_to k i m j u (inr (at, inr a)) (inr (at', inl b)) = inr (at ∙ at', inl (refl, b.1))
up_to k i m j u (inr (at, inr a)) (inr (at', inr b)) = inr (at ∙ at', inr (b.0, omega (arith, a.1, b.1)))

-- the order of bits is that of inherited values
bit_order : (n k i : ℕ) → IsPlace (inherited k i) → n ≤ bit_of k i → IsUpTo (bit_value n) (inherited k i)
bit_order n k i p le = let a = p.counted in let b = p.number in
    elim (cases_lt (n / 8) k) [ inl less ↦ inl less | inr most ↦ inr (omega arith, inr (refl, omega arith)) ]

-- rows of a rule
module _ (r : P.Rule) (rel : ℕ → ℕ → ℕ → Type 0) (rows : List ℕ) (there : HasEachWalk r rel rows) (only : HasOnlyWalks r rel rows) where
  in_own_row : (k i : ℕ) → IsOnCircle rel r (inherited k i) → IsPlace (inherited k i) × IsInOwnRow rows (bit_of k i)
  in_own_row k i w = let (p, q, on) = there k i (inherited k i) w in (p, subst (λ v. IsIn rows v (bit_of k i)) (value_own k i p).1 on)

  least_none : FirstInOwnRow rows None → LeastOnCircle rel r None
  least_none none o w =
      let (k, i, before, le) = behind r rel o w in
      let (p, on) = in_own_row k i before in absurd (none (bit_of k i) (value_own k i p).0 on)

  least_some : (n : ℕ) → n < 72 → IsInOwnRow rows n → ((m : ℕ) → m < n → IsInOwnRow rows m → ⊥) → LeastOnCircle rel r (Some (bit_value n))
  least_some n lt on first = (
    only (n / 8) (n % 8 + 1) (bit_value n) (bit_place n lt) (bit_place n lt) (subst (λ m. IsIn rows (place_of (bit_value n)) m) (bit_same n) on),
    λ u w.
        let (k, i, before, le) = behind r rel u w in
        let (p, own) = in_own_row k i before in
        up_to (n / 8) (n % 8 + 1) k i u (bit_order n k i p (not_before (bit_of k i) own (cases_lt (bit_of k i) n))) le,
  )
    where
      not_before : (m : ℕ) → IsInOwnRow rows m → (m < n) ⊎ (n ≤ m) → n ≤ m
      not_before m own (inl less) = absurd (first m less own)
      not_before m own (inr le) = le

  least : (found : Option Occ) → FirstInOwnRow rows found → LeastOnCircle rel r found
  least None none = least_none none
  least (Some o) (n, lt, at, on, first) = subst (λ (x : Occ). LeastOnCircle rel r (Some x)) (sym at) (least_some n lt on first)

-- the first inherited value that is in its own row is the least occurrence on a circle
pub least_circle : (r s : P.Rule) (rel : ℕ → ℕ → ℕ → Type 0) (rows slice : List ℕ) (found : Option Occ) → r ≡ s → slice ≡ rows →
    HasEachWalk r rel rows → HasOnlyWalks r rel rows → FirstInOwnRow slice found → LeastOnCircle rel s found
least_circle r s rel rows slice found same at there only first =
    subst (λ (x : P.Rule). LeastOnCircle rel x found) same (least r rel rows there only found (subst (λ (xs : List ℕ). FirstInOwnRow xs found) at first))

-- the rule with a number is the view of the one found
pub rule_here : {A B : Type 0} (f : A → B) (rules : List A) (n m : ℕ) (found : A) (r : B) → slice_get rules n ≡ Some found → n ≡ m → slice_get (map f rules) m ≡ Some r → f found ≡ r
rule_here f rules n m found r here at e =
    let x : Some (f found) ≡ Some r = sym (got_map f rules m found (ap (slice_get rules) (sym at) ∙ here)) ∙ e in cc
