-- Reading the printed name of a valid node.
use Rattle.std.proofs.Common.{◌≡◌, ℕ, zero, suc, ◌+◌, ◌≤◌, ◌<◌, refl, ap, ◌∙◌, Bool, true, false, cond, nat_eq, List, [], ◌∷◌, ◌++◌, map, length}
use Rattle.std.proofs.Common.{Option, Some, None, is_some, option_map, option_and_then, slice_get, arith}
use Rattle.std.proofs.lemmas.Bool.{le-ltb}
use Rattle.std.proofs.lemmas.List.{length-map}
use Rattle.std.proofs.lemmas.Option.{slice_get_within}
use Rattle.aw_spelling.specs.Spelling.{is_name}
use Rattle.aw_spelling.proofs.NodeNames.{name_again}
use Rattle.aw_term.specs.Names.{Step, Node}
use Rattle.aw_term.specs.Rules.{Child, Rule, Sort, Grammar, get, child_at, sort_of_step, sort_after, sort_of}
use Rattle.aw_term.specs.Artifacts.{Words}
use Rattle.aw_term.specs.WellFormed.{Each, Differ, RuleFits, IsWellFormed}
use Rattle.aw_term.proofs.Eaches.{each_left, each_right}
use Rattle.aw_grammar.proofs.Fits.{each_at}
use Rattle.aw_grammar.proofs.PlacedNames.{place_again}
use Rattle.aw_base.specs.NodeNames.{Named, TooLong, NotDeclared, steps_named, misfit_or, first_misfit, is_start, fitted, with_steps, with_start, with_parts, node_read}
use Rattle.aw_grammar.specs.Named.{number_named}
use Rattle.aw_sched.proofs.Printing.{IsNamedStep, step_parts, node_parts, node_spelled, node_has_spelling}
use Rattle.aw_sched.specs.Printed.{IsHeld, PrintedNodeIsRead}

-- the children that a rule of a well-formed grammar has
child_within : (cs : List Child) (k t : ℕ) → length cs ≤ 8 → option_map (λ (c : Child). c.sort) (child_at cs k) ≡ Some t → (1 ≤ k) × (k ≤ 8)
child_within cs zero t few e = absurd cc
child_within cs (suc k) t few e = found (slice_get cs k) refl e
  where
    found : (c : Option Child) → slice_get cs k ≡ c → option_map (λ (c : Child). c.sort) c ≡ Some t → (1 ≤ suc k) × (suc k ≤ 8)
    found None at e = absurd cc
    found (Some c) at e =
        let less = slice_get_within cs k c at in (omega arith, omega (arith, less, few))

step_within : (w : Words) (g : Grammar) (s : ℕ) (step : Step) (t : ℕ) → IsWellFormed w g → sort_of_step g s step ≡ Some t → IsNamedStep w step
step_within w g s step t formed e = at_rule (slice_get g.rules step.rule) refl e
  where
    of_sort : (r : Rule) (b : Bool) → length r.children ≤ 8 → cond b (option_map (λ (c : Child). c.sort) (child_at r.children step.child)) None ≡ Some t → (1 ≤ step.child) × (step.child ≤ 8)
    of_sort r true few e = child_within r.children step.child t few e
    of_sort r false few e = absurd cc

    at_rule : (r : Option Rule) → slice_get g.rules step.rule ≡ r
        → option_and_then (λ (r : Rule). cond (nat_eq r.sort s) (option_map (λ (c : Child). c.sort) (child_at r.children step.child)) None) r ≡ Some t → IsNamedStep w step
    at_rule None at e = absurd cc
    at_rule (Some r) at e =
        let few : length r.children ≤ 8 = (each_at (RuleFits g) g.rules step.rule r formed.rules at).few_children in
        let child = of_sort r (nat_eq r.sort s) few e in
        record { rule = omega (arith, slice_get_within g.rules step.rule r at, formed.all_rules); low = child.0; high = child.1 }

-- the steps of a valid node have names, and each fits
abbrev GoodSteps : Words → Grammar → ℕ → ℕ → List Step → Type 0
GoodSteps w g at s steps = Each (IsNamedStep w) steps × (first_misfit g at s steps ≡ None)

good_steps : (w : Words) (g : Grammar) (at s : ℕ) (steps : List Step) → IsWellFormed w g → is_some (sort_after g s steps) ≡ true → GoodSteps w g at s steps
good_steps w g at s [] formed e = (tt, refl)
good_steps w g at s (step ∷ steps) formed e = after (sort_of_step g s step) refl e (λ t h. good_steps w g (at + 1) t steps formed h)
  where
    after : (next : Option ℕ) → sort_of_step g s step ≡ next → is_some (option_and_then (λ t. sort_after g t steps) next) ≡ true
        → ((t : ℕ) → is_some (sort_after g t steps) ≡ true → GoodSteps w g (at + 1) t steps) → GoodSteps w g at s (step ∷ steps)
    after None f e deeper = absurd cc
    after (Some t) f e deeper =
        let more = deeper t e in
        ((step_within w g s step t formed f, more.0), ap (misfit_or at (λ t. first_misfit g (at + 1) t steps)) f ∙ more.1)

-- the rules of steps are found again
rules_again : (w : Words) (steps : List Step) → Differ w.rules → Each (IsNamedStep w) steps → steps_named w (map (step_parts w) steps) ≡ Some steps
rules_again w [] differ each = refl
rules_again w (s ∷ steps) differ each =
    let name = get [] w.rules s.rule in
    let more = steps_named w (map (step_parts w) steps) in
    ap (option_and_then (λ (r : ℕ). let step : Step = record { rule = r; child = s.child } in option_map (λ ss. step ∷ ss) more)) (place_again w.rules s.rule differ each.0.rule)
    ∙ ap (option_map (λ ss. s ∷ ss)) (rules_again w steps differ each.1)

-- the start of a valid node
pub record Started (g : Grammar) (n : Node) : Type 0 where
  pub declared : n.start < length g.sorts
  pub start : is_start (slice_get g.sorts n.start) ≡ true
  pub after : is_some (sort_after g n.start n.steps) ≡ true

started : (g : Grammar) (n : Node) → is_some (sort_of g n) ≡ true → Started g n
started g n e = at_sort (slice_get g.sorts n.start) refl e
  where
    by_start : (b : Bool) → is_some (cond b (sort_after g n.start n.steps) None) ≡ true → (b ≡ true) × (is_some (sort_after g n.start n.steps) ≡ true)
    by_start true e = (refl, e)
    by_start false e = absurd cc

    at_sort : (s : Option Sort) → slice_get g.sorts n.start ≡ s → is_some (option_and_then (λ (s : Sort). cond s.start (sort_after g n.start n.steps) None) s) ≡ true → Started g n
    at_sort None at e = absurd cc
    at_sort (Some s) at e =
        let tests = by_start s.start e in
        record { declared = slice_get_within g.sorts n.start s at; start = ap is_start at ∙ tests.0; after = tests.1 }

parts_again : (w : Words) (g : Grammar) (n : Node) → IsWellFormed w g → IsHeld n → Started g n → GoodSteps w g 0 n.start n.steps → with_parts w g (Some (node_parts w n)) ≡ Named n
parts_again w g n formed held begun good =
    let start = get [] w.sorts n.start in
    let steps = map (step_parts w) n.steps in
    let few : length steps ≤ 250 = omega (arith, held.steps, length-map n.steps (step_parts w)) in
    ap (λ b. cond b TooLong (with_start w g n.case steps (number_named w.sorts start))) (le-ltb 250 (length steps) few)
    ∙ ap (with_start w g n.case steps) (place_again w.sorts n.start formed.sorts_differ (omega (arith, begun.declared, formed.all_sorts)))
    ∙ ap (λ b. cond b (with_steps g n.start n.case (steps_named w steps)) NotDeclared) begun.start
    ∙ ap (with_steps g n.start n.case) (rules_again w n.steps formed.rules_differ good.0)
    ∙ ap (fitted n) good.1

pub node_again : PrintedNodeIsRead
node_again w g n formed held valid =
    let begun = started g n valid in
    let good = good_steps w g 0 n.start n.steps formed begun.after in
    let named_all = each_right (λ n. is_name n ≡ true) w.cons (w.sorts ++ w.rules) (each_right (λ n. is_name n ≡ true) w.roles (w.cons ++ (w.sorts ++ w.rules)) formed.names) in
    let sorts = each_left (λ n. is_name n ≡ true) w.sorts w.rules named_all in
    let rules = each_right (λ n. is_name n ≡ true) w.sorts w.rules named_all in
    let spelling = node_has_spelling w n sorts rules (omega (arith, begun.declared, formed.all_sorts)) held.case good.0 in
    ap (node_read w g) (node_spelled w n good.0)
    ∙ ap (with_parts w g) (name_again (node_parts w n) spelling)
    ∙ parts_again w g n formed held begun good
