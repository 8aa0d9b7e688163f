-- The last step of a valid name tells the role of the parent: that of the sort of the step's rule.
use Rattle.std.proofs.Common.{◌≡◌, ℕ, Bool, true, false, cond, nat_eq, List, [], ◌∷◌, Option, Some, None, is_some, slice_get, option_map, option_and_then, refl, sym, ap, ◌∙◌}
use Rattle.std.specs.Option.{unwrap_or}
use Rattle.std.proofs.lemmas.Bool.{eqb-true}
use Rattle.std.proofs.lemmas.Option.{same_Some}
use Rattle.aw_term.specs.Names.{Step, Node}
use Rattle.aw_term.specs.Rules.{Child, Rule, Sort, Grammar, child_at, sort_of_step, sort_after, sort_of, last_step, role_or_0, role_of}
use Rattle.aw_term.proofs.LastSteps.{followed, where_true}
use Rattle.aw_law_sites.specs.Homes.{home, front, parent, has_steps}
use Rattle.aw_site.specs.Parents.{home_before}

-- something stands there only where the test holds
held : {A : Type 0} (b : Bool) (o : Option A) (y : A) → cond b o None ≡ Some y → b ≡ true
held true o y e = refl
held false o y e = absurd cc

-- a step fits only a sort of its rule
rule_behind : (g : Grammar) (s t : ℕ) (step : Step) → sort_of_step g s step ≡ Some t → (r : Rule) × (slice_get g.rules step.rule ≡ Some r) × (r.sort ≡ s)
rule_behind g s t step e =
    let child = λ (r : Rule). option_map (λ (c : Child). c.sort) (child_at r.children step.child) in
    let (r, here, f) = followed (λ (r : Rule). cond (nat_eq r.sort s) (child r) None) (slice_get g.rules step.rule) t e in
    (r, here, eqb-true _ _ (held (nat_eq r.sort s) (child r) t f))

-- the sort after all steps but the last is that of the last step's rule
before_last : (g : Grammar) (s t : ℕ) (steps : List Step) (last : Step) → sort_after g s steps ≡ Some t → last_step steps ≡ Some last
    → (r : Rule) × (slice_get g.rules last.rule ≡ Some r) × (sort_after g s (front steps) ≡ Some r.sort)
before_last g s t [] last e is = absurd cc
before_last g s t (step ∷ []) last e is =
    let (u, f, h) = followed (λ t. sort_after g t []) (sort_of_step g s step) t e in
    let (r, here, same) = rule_behind g s u step f in
    let same_step : step ≡ last = same_Some _ _ is in
    (r, ap (λ (x : Step). slice_get g.rules x.rule) (sym same_step) ∙ here, ap Some (sym same))
before_last g s t (step ∷ next ∷ steps) last e is =
    let (u, f, h) = followed (λ t. sort_after g t (next ∷ steps)) (sort_of_step g s step) t e in
    let (r, here, k) = before_last g u t (next ∷ steps) last h is in
    (r, here, ap (option_and_then (λ t. sort_after g t (front (next ∷ steps)))) f ∙ k)

-- the role of a sort, or 0 where there is none
role_found : (o : Option Sort) → unwrap_or (option_map (λ (s : Sort). s.role) o) 0 ≡ role_or_0 o
role_found None = refl
role_found (Some s) = refl

-- the parent of a valid name is worked on at the role of the sort of the rule of its last step
told_by_last : (g : Grammar) (n : Node) (last : Step) (t : ℕ) → sort_of g n ≡ Some t → last_step n.steps ≡ Some last → home g (parent n) ≡ home_before g last
told_by_last g n last t e is =
    let (start, here, f) = followed (λ (s : Sort). cond s.start (sort_after g n.start n.steps) None) (slice_get g.sorts n.start) t e in
    let begins : start.start ≡ true = held start.start (sort_after g n.start n.steps) t f in
    let after : sort_after g n.start n.steps ≡ Some t = where_true start.start (sort_after g n.start n.steps) t f in
    let (r, rule, before) = before_last g n.start t n.steps last after is in
    let sort : sort_of g (parent n) ≡ Some r.sort =
    ap (option_and_then (λ (s : Sort). cond s.start (sort_after g n.start (front n.steps)) None)) here
    ∙ ap (λ b. cond b (sort_after g n.start (front n.steps)) None) begins
    ∙ before in
    ap (λ o. unwrap_or (option_and_then (λ s. option_map (λ (x : Sort). x.role) (slice_get g.sorts s)) o) 0) sort
    ∙ role_found (slice_get g.sorts r.sort)
    ∙ sym (ap (λ o. unwrap_or (option_map (λ (x : Rule). role_of g.sorts x.sort) o) 0) rule)

valid_told : (g : Grammar) (n : Node) (last : Step) (o : Option ℕ) → sort_of g n ≡ o → is_some o ≡ true → last_step n.steps ≡ Some last → home g (parent n) ≡ home_before g last
valid_told g n last None e valid is = absurd cc
valid_told g n last (Some t) e valid is = told_by_last g n last t e is

pub home_of_parent : (g : Grammar) (n : Node) (last : Step) → is_some (sort_of g n) ≡ true → last_step n.steps ≡ Some last → home g (parent n) ≡ home_before g last
home_of_parent g n last valid is = valid_told g n last (sort_of g n) refl valid is

-- there are steps exactly where there is a last one
pub steps_exact : (steps : List Step) → has_steps steps ≡ is_some (last_step steps)
steps_exact [] = refl
steps_exact (step ∷ []) = refl
steps_exact (step ∷ next ∷ steps) = steps_exact (next ∷ steps)
