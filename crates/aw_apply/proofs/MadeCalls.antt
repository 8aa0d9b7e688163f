-- The children of a taken rule: their names by position, and their sorts.
use Rattle.std.proofs.Common.{◌≡◌, ℕ, suc, ◌+◌, ◌≤◌, Bool, true, false, cond, List, [], ◌∷◌, ◌++◌, length, Option, Some, None, slice_get, refl, ap, ◌∙◌, eq-eqb, arith}
use Rattle.std.specs.Prelude.{nat_eq, option_map, option_and_then}
use Rattle.std.proofs.lemmas.List.{same_from_push}
use Rattle.std.proofs.lemmas.Option.{same_Some}
use Rattle.aw_term.specs.Trees.{Never}
use Rattle.aw_term.specs.Names.{Step, Node, Ref, below}
use Rattle.aw_term.specs.Rules.{Ground, Child, Rule, Sort, Grammar, get, child_at, sort_of_step, sort_after, sort_of}
use Rattle.aw_term.specs.WellFormed.{Each, Later}
use Rattle.aw_term.proofs.Eaches.{each_map}
use Rattle.aw_apply.specs.Made.{Call, lay_list, lay_children, child_refs, no_ref, made}

-- The sort of a node below another
step_alone : (o : Option ℕ) → option_and_then (λ t. Some t) o ≡ o
step_alone None = refl
step_alone (Some t) = refl

push_cases : (g : Grammar) (steps : List Step) (step : Step) (t : ℕ) (o : Option ℕ) → ((u : ℕ) → sort_after g u steps ≡ Some t → sort_after g u (steps ++ step ∷ []) ≡ sort_of_step g t step)
    → option_and_then (λ u. sort_after g u steps) o ≡ Some t → option_and_then (λ u. sort_after g u (steps ++ step ∷ [])) o ≡ sort_of_step g t step
push_cases g steps step t None go e = absurd cc
push_cases g steps step t (Some u) go e = go u e

pub sort_after-push : (g : Grammar) (s : ℕ) (steps : List Step) (step : Step) (t : ℕ) → sort_after g s steps ≡ Some t → sort_after g s (steps ++ step ∷ []) ≡ sort_of_step g t step
sort_after-push g s [] step t e = step_alone (sort_of_step g s step) ∙ ap (λ u. sort_of_step g u step) (same_Some s t e)
sort_after-push g s (x ∷ steps) step t e = push_cases g steps step t (sort_of_step g s x) (λ u f. sort_after-push g u steps step t f) e

start_cases : (b : Bool) (o p q : Option ℕ) (t : ℕ) → (o ≡ Some t → p ≡ q) → cond b o None ≡ Some t → cond b p None ≡ q
start_cases true o p q t go e = go e
start_cases false o p q t go e = absurd cc

sort_cases : (g : Grammar) (n : Node) (r k t : ℕ) (o : Option Sort) → option_and_then (λ (s : Sort). cond s.start (sort_after g n.start n.steps) None) o ≡ Some t
    → option_and_then (λ (s : Sort). cond s.start (sort_after g n.start (below n r k).steps) None) o ≡ sort_of_step g t (record { rule = r; child = k })
sort_cases g n r k t None e = absurd cc
sort_cases g n r k t (Some s) e = start_cases s.start _ _ _ t (sort_after-push g n.start n.steps (record { rule = r; child = k }) t) e

pub sort_of-below : (g : Grammar) (n : Node) (r k t : ℕ) → sort_of g n ≡ Some t → sort_of g (below n r k) ≡ sort_of_step g t (record { rule = r; child = k })
sort_of-below g n r k t e = sort_cases g n r k t (slice_get g.sorts n.start) e

-- child k, from 1, of a rule of the node's sort
pub sort_of-child : (g : Grammar) (n : Node) (ri i : ℕ) (r : Rule) (c : Child) → sort_of g n ≡ Some r.sort → slice_get g.rules ri ≡ Some r → slice_get r.children i ≡ Some c
    → sort_of g (below n ri (suc i)) ≡ Some c.sort
sort_of-child g n ri i r c s e f =
    sort_of-below g n ri (suc i) r.sort s
    ∙ ap (option_and_then (λ (x : Rule). cond (nat_eq x.sort r.sort) (option_map (λ (y : Child). y.sort) (child_at x.children (suc i))) None)) e
    ∙ ap (λ b. cond b (option_map (λ (y : Child). y.sort) (slice_get r.children i)) None) (eq-eqb r.sort r.sort refl)
    ∙ ap (option_map (λ (y : Child). y.sort)) f

-- Names by position
below_child : (n : Node) (r k l : ℕ) → below n r k ≡ below n r l → k ≡ l
below_child n r k l e = ap (λ (s : Step). s.child) (same_from_push n.steps n.steps (record { rule = r; child = k }) (record { rule = r; child = l }) (ap (λ (m : Node). m.steps) e)).1

-- a child of the rule from child i on, before child m
abbrev pub IsBelow : Node → ℕ → ℕ → ℕ → Call → Type 0
IsBelow n r i m c = (k : ℕ) × (i ≤ k) × (suc k ≤ m) × (c.node ≡ below n r k)

module _ (n : Node) (r : ℕ) (f : ℕ → Ref) where
  children-below : (cs : List Child) (i k m : ℕ) → i + length cs ≤ m → Each (IsBelow n r i m) (lay_children n r f i k cs).roots
  children-below [] i k m le = tt
  children-below (c ∷ cs) i k m le =
      let rest = (lay_children n r f (suc i) (lay_list n f k c.args).next cs).roots in (
        (i, omega arith, omega (arith, le), refl),
        each_map (IsBelow n r (suc i) m) (IsBelow n r i m) rest (λ x b. (b.0, omega (arith, b.1), b.2, b.3)) (children-below cs (suc i) (lay_list n f k c.args).next m (omega (arith, le))),
      )

  children-differ : (cs : List Child) (i k : ℕ) → Later (λ (c d : Call). c.node ≡ d.node → Never) (lay_children n r f i k cs).roots
  children-differ [] i k = tt
  children-differ (c ∷ cs) i k =
      let next = (lay_list n f k c.args).next in (
        each_map (IsBelow n r (suc i) (suc i + length cs)) (λ (d : Call). below n r i ≡ d.node → Never) (lay_children n r f (suc i) next cs).roots
            (λ d b e. absurd (omega (arith, b.1, below_child n r i b.0 (e ∙ b.3))))
            (children-below cs (suc i) next (suc i + length cs) (omega arith)),
        children-differ cs (suc i) next,
      )

  children-sorts : (g : Grammar) (rule : Rule) → sort_of g n ≡ Some rule.sort → slice_get g.rules r ≡ Some rule → (cs : List Child) (i k : ℕ)
      → ((j : ℕ) (c : Child) → slice_get cs j ≡ Some c → slice_get rule.children (i + j) ≡ Some c) → Each (λ (c : Call). sort_of g c.node ≡ Some c.sort) (lay_children n r f (suc i) k cs).roots
  children-sorts g rule s e [] i k at = tt
  children-sorts g rule s e (c ∷ cs) i k at =
      let z : i ≡ i + 0 = omega arith in (
        sort_of-child g n r i rule c s e (ap (slice_get rule.children) z ∙ at 0 c refl),
        children-sorts g rule s e cs (suc i) (lay_list n f k c.args).next (λ j d h. let y : suc i + j ≡ i + suc j = omega arith in ap (slice_get rule.children) y ∙ at (suc j) d h),
      )

-- The children of a taken rule
module _ (n : Node) (ri : ℕ) (r : Rule) (args : List Ground) (bound : List Ref) where
  abbrev after : ℕ
  after = (lay_list n (λ (x : Never). elim x [ ]) 1 args).next

  abbrev refs : List Ref
  refs = bound ++ ((lay_list n (λ (x : Never). elim x [ ]) 1 args).roots ++ child_refs n ri 1 r.children)

  pub made-below : Each (IsBelow n ri 1 (1 + length r.children)) (made n ri r args bound).calls
  made-below = children-below n ri (get (no_ref n) refs) r.children 1 after (1 + length r.children) (omega arith)

  pub made-differ : Later (λ (c d : Call). c.node ≡ d.node → Never) (made n ri r args bound).calls
  made-differ = children-differ n ri (get (no_ref n) refs) r.children 1 after

  pub made-sorts : (g : Grammar) → sort_of g n ≡ Some r.sort → slice_get g.rules ri ≡ Some r → Each (λ (c : Call). sort_of g c.node ≡ Some c.sort) (made n ri r args bound).calls
  made-sorts g s e = children-sorts n ri (get (no_ref n) refs) g r s e r.children 0 after (λ j c f. let z : 0 + j ≡ j = omega arith in ap (slice_get r.children) z ∙ f)
