-- The printed name of a node as its parts spell it.
use Rattle.std.proofs.Common.{◌≡◌, ℕ, ◌+◌, ◌≤◌, ◌<◌, ◌^◌, refl, ap, ◌∙◌, true, ◌&&◌, nat_le, nat_lt, List, [], ◌∷◌, ◌++◌, map, length, append_assoc, arith}
use Rattle.std.proofs.lemmas.Bool.{lt-ltb}
use Rattle.std.proofs.lemmas.Bool.Decides.{nat_tests}
use Rattle.std.proofs.lemmas.Fmt.{decimal_digit}
use Rattle.std.specs.List.{list_all}
use Rattle.std.specs.Fmt.{decimal}
use Rattle.aw_spelling.specs.Spelling.{is_name, is_step, has_spelling, spelled_steps, spelled_name}
use Rattle.aw_term.specs.Names.{Step, Node}
use Rattle.aw_term.specs.Rules.{get}
use Rattle.aw_term.specs.Artifacts.{Words, steps_text, node_text}
use Rattle.aw_term.specs.WellFormed.{Each}
use Rattle.aw_term.proofs.Eaches.{each_get}

-- a step whose rule has a name, to one of at most 8 children
pub record IsNamedStep (w : Words) (s : Step) : Type 0 where
  pub rule : s.rule < length w.rules
  pub low : 1 ≤ s.child
  pub high : s.child ≤ 8

abbrev pub step_parts : Words → Step → List ℕ × ℕ
step_parts w s = (get [] w.rules s.rule, s.child)

abbrev pub node_parts : Words → Node → List ℕ × ℕ × List (List ℕ × ℕ)
node_parts w n = (get [] w.sorts n.start, n.case, map (step_parts w) n.steps)

steps_spelled : (w : Words) (steps : List Step) → Each (IsNamedStep w) steps → steps_text w steps ≡ spelled_steps (map (step_parts w) steps)
steps_spelled w [] each = refl
steps_spelled w (s ∷ steps) each =
    let name = get [] w.rules s.rule in
    let child : decimal s.child ≡ (48 + s.child) ∷ [] = decimal_digit s.child (omega (arith, each.0.high)) in
    ap (λ digits. 47 ∷ ((name ++ (46 ∷ digits)) ++ steps_text w steps)) child
    ∙ ap (λ bs. 47 ∷ bs) (append_assoc name (46 ∷ (48 + s.child) ∷ []) (steps_text w steps))
    ∙ ap (λ bs. 47 ∷ (name ++ (46 ∷ (48 + s.child) ∷ bs))) (steps_spelled w steps each.1)

pub node_spelled : (w : Words) (n : Node) → Each (IsNamedStep w) n.steps → node_text w n ≡ spelled_name (node_parts w n)
node_spelled w n each = ap (λ bs. get [] w.sorts n.start ++ (35 ∷ (decimal n.case ++ bs))) (steps_spelled w n.steps each)

child_test : (k : ℕ) → 1 ≤ k → k ≤ 8 → (nat_le 1 k && nat_le k 8) ≡ true
child_test k low high = grind (arith, nat_tests)

steps_are_steps : (w : Words) (steps : List Step) → Each (λ n. is_name n ≡ true) w.rules → Each (IsNamedStep w) steps → list_all is_step (map (step_parts w) steps) ≡ true
steps_are_steps w [] names each = refl
steps_are_steps w (s ∷ steps) names each =
    let named : is_name (get [] w.rules s.rule) ≡ true = each_get (λ n. is_name n ≡ true) [] w.rules s.rule names each.0.rule in
    ap (λ b. (b && (nat_le 1 s.child && nat_le s.child 8)) && list_all is_step (map (step_parts w) steps)) named
    ∙ ap (λ b. b && list_all is_step (map (step_parts w) steps)) (child_test s.child each.0.low each.0.high)
    ∙ steps_are_steps w steps names each.1

pub node_has_spelling : (w : Words) (n : Node) → Each (λ n. is_name n ≡ true) w.sorts → Each (λ n. is_name n ≡ true) w.rules →
    n.start < length w.sorts → n.case < 2 ^ 64 → Each (IsNamedStep w) n.steps → has_spelling (node_parts w n) ≡ true
node_has_spelling w n sorts rules start case each =
    let named : is_name (get [] w.sorts n.start) ≡ true = each_get (λ n. is_name n ≡ true) [] w.sorts n.start sorts start in
    ap (λ b. b && (nat_lt n.case (2 ^ 64) && list_all is_step (map (step_parts w) n.steps))) named
    ∙ ap (λ b. b && list_all is_step (map (step_parts w) n.steps)) (lt-ltb n.case (2 ^ 64) case)
    ∙ steps_are_steps w n.steps rules each
