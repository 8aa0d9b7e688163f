-- The last step of a valid name tells the sort of its node, and so its role.
use Rattle.std.proofs.Common.{◌≡◌, ℕ, suc, ◌-◌, length, arith, Bool, true, false, cond, nat_eq, List, [], ◌∷◌, Option, Some, None, slice_get, option_map, option_and_then, refl, ap, ◌∙◌}
use Rattle.std.specs.Option.{unwrap_or}
use Rattle.std.proofs.lemmas.Option.{same_Some}
use Rattle.aw_term.specs.Names.{Step, Node}
use Rattle.aw_term.specs.Rules.{Child, Rule, Sort, Grammar, child_at, sort_of_step, sort_after, sort_of, home_of, sort_of_child, last_step, sort_at, role_or_0, role_of, home_at}

-- where something follows, it is the first thing that follows
pub followed : {A B : Type 0} (f : A → Option B) (o : Option A) (y : B) → option_and_then f o ≡ Some y → (x : A) × (o ≡ Some x) × (f x ≡ Some y)
followed f None y e = absurd cc
followed f (Some x) y e = (x, refl, e)

pub mapped : {A B : Type 0} (f : A → B) (o : Option A) (y : B) → option_map f o ≡ Some y → (x : A) × (o ≡ Some x) × (f x ≡ y)
mapped f None y e = absurd cc
mapped f (Some x) y e = (x, refl, same_Some _ _ e)

pub where_true : {A : Type 0} (b : Bool) (o : Option A) (y : A) → cond b o None ≡ Some y → o ≡ Some y
where_true true o y e = e
where_true false o y e = absurd cc

pub step_names : (g : Grammar) (s : ℕ) (step : Step) (t : ℕ) → sort_of_step g s step ≡ Some t → sort_of_child g step ≡ t
step_names g s step t e =
    let child = λ (r : Rule). option_map (λ (c : Child). c.sort) (child_at r.children step.child) in
    let (r, here, f) = followed (λ (r : Rule). cond (nat_eq r.sort s) (child r) None) (slice_get g.rules step.rule) t e in
    ap (λ o. unwrap_or (option_and_then child o) 0) here ∙ ap (λ o. unwrap_or o 0) (where_true (nat_eq r.sort s) (child r) t f)

-- where there is a step, the sort before the first does not matter
any_start : (g : Grammar) (s t : ℕ) (step : Step) (steps : List Step) → unwrap_or (option_map (sort_of_child g) (last_step (step ∷ steps)))
    s ≡ unwrap_or (option_map (sort_of_child g) (last_step (step ∷ steps))) t
any_start g s t step [] = refl
any_start g s t step (next ∷ steps) = any_start g s t next steps

pub sort_after_last : (g : Grammar) (s : ℕ) (steps : List Step) (t : ℕ) → sort_after g s steps ≡ Some t → unwrap_or (option_map (sort_of_child g) (last_step steps)) s ≡ t
sort_after_last g s [] t e = same_Some _ _ e
sort_after_last g s (step ∷ []) t e =
    let (u, f, h) = followed (λ t. sort_after g t []) (sort_of_step g s step) t e in
    step_names g s step u f ∙ same_Some _ _ h
sort_after_last g s (step ∷ next ∷ steps) t e =
    let (u, f, h) = followed (λ t. sort_after g t (next ∷ steps)) (sort_of_step g s step) t e in
    any_start g s u next steps ∙ sort_after_last g u (next ∷ steps) t h

-- the sort of a valid name is the one that its last step tells
pub sort_by_last : (g : Grammar) (n : Node) (s : ℕ) → sort_of g n ≡ Some s → sort_at g n ≡ s
sort_by_last g n s e =
    let (start, here, f) = followed (λ (s : Sort). cond s.start (sort_after g n.start n.steps) None) (slice_get g.sorts n.start) s e in
    sort_after_last g n.start n.steps s (where_true start.start (sort_after g n.start n.steps) s f)

-- the role of a valid name is the one that its last step tells
pub home_by_last : (g : Grammar) (n : Node) (r : ℕ) → home_of g n ≡ Some r → home_at g n ≡ r
home_by_last g n r e =
    let (s, f, h) = followed (λ s. option_map (λ (t : Sort). t.role) (slice_get g.sorts s)) (sort_of g n) r e in
    let (t, i, k) = mapped (λ (t : Sort). t.role) (slice_get g.sorts s) r h in
    ap (role_of g.sorts) (sort_by_last g n s f) ∙ ap role_or_0 i ∙ k

-- the last step is the item at the last place
pub last_step_at : (steps : List Step) → last_step steps ≡ slice_get steps (length steps - 1)
last_step_at [] = refl
last_step_at (step ∷ []) = refl
last_step_at (step ∷ next ∷ steps) =
    let shorter : length (next ∷ steps) - 1 ≡ length steps = omega arith in
    let longer : suc (length steps) ≡ length (step ∷ next ∷ steps) - 1 = omega arith in
    last_step_at (next ∷ steps) ∙ ap (slice_get (next ∷ steps)) shorter ∙ ap (slice_get (step ∷ next ∷ steps)) longer
