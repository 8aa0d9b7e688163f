-- Which node a text names, by the parts of the text.
use Rattle.std.proofs.Common.{◌≡◌, ℕ, ◌+◌, ◌≤◌, ◌<◌, refl, ap, ◌∙◌, Bool, true, false, cond, ◌==◌, List, [], ◌∷◌, length, slice_get, Option, Some, None}
use Rattle.std.proofs.Common.{is_some, option_map, option_and_then, count_by, arith, IfSome}
use Rattle.std.specs.Prelude.{Err}
use Rattle.std.proofs.lemmas.Bool.{lt-ltb, le-ltb}
use Rattle.std.proofs.lemmas.List.Splits.{length-slice_split}
use Rattle.aw_spelling.specs.Spelling.{parts, steps_of, step_of, name_from, start_of, parts_of_name}
use Rattle.aw_term.specs.Names.{Step}
use Rattle.aw_term.specs.Rules.{Grammar}
use Rattle.aw_term.specs.Artifacts.{Words}
use Rattle.aw_base.specs.NodeNames.{TooLong, NotDeclared, steps_named, is_start, first_misfit, fitted, with_steps, with_start, with_parts}
use Rattle.aw_base.specs.NodeReading.{Reads, long_fault, start_named}
use Rattle.aw_grammar.specs.Named.{number_named}

abbrev Parts : Type 0
Parts = List ℕ × ℕ × List (List ℕ × ℕ)

-- the parts of a name with this start, this case and these steps
abbrev pub whole : List ℕ → ℕ → Option (List (List ℕ × ℕ)) → Option Parts
whole start case trail = option_map (λ (t : List (List ℕ × ℕ)). let parts : Parts = (start, case, t) in parts) trail

-- as many steps as parts
length_steps : (ps : List (List ℕ)) (trail : List (List ℕ × ℕ)) → steps_of ps ≡ Some trail → length trail ≡ length ps
length_steps [] [] e = refl
length_steps [] (s ∷ trail) e = cc
length_steps (p ∷ ps) trail e = with_step (step_of p) (steps_of ps) trail e (length_steps ps)
  where
    with_step : (step : Option (List ℕ × ℕ)) (more : Option (List (List ℕ × ℕ))) (trail : List (List ℕ × ℕ))
        → option_and_then (λ s. option_map (λ ss. s ∷ ss) more) step ≡ Some trail
        → ((t : List (List ℕ × ℕ)) → more ≡ Some t → length t ≡ length ps) → length trail ≡ length (p ∷ ps)
    with_step None more trail e deeper = cc
    with_step (Some s) None trail e deeper = cc
    with_step (Some s) (Some t) [] e deeper = cc
    with_step (Some s) (Some t) (u ∷ us) e deeper =
        let same : t ≡ us = cc in
        let tail = deeper t refl in omega (arith, tail, ap length same)

-- as many steps as spellings
pub length_named : (w : Words) (trail : List (List ℕ × ℕ)) (steps : List Step) → steps_named w trail ≡ Some steps → length steps ≡ length trail
length_named w [] [] e = refl
length_named w [] (s ∷ steps) e = cc
length_named w (p ∷ ps) steps e = with_rule (number_named w.rules p.0) (steps_named w ps) steps e (length_named w ps)
  where
    with_rule : (rule : Option ℕ) (more : Option (List Step)) (steps : List Step)
        → option_and_then (λ (r : ℕ). let step : Step = record { rule = r; child = p.1 } in option_map (λ ss. step ∷ ss) more) rule ≡ Some steps
        → ((t : List Step) → more ≡ Some t → length t ≡ length ps) → length steps ≡ length (p ∷ ps)
    with_rule None more steps e deeper = cc
    with_rule (Some r) None steps e deeper = cc
    with_rule (Some r) (Some t) [] e deeper = cc
    with_rule (Some r) (Some t) (u ∷ us) e deeper =
        let same : t ≡ us = cc in
        let tail = deeper t refl in omega (arith, tail, ap length same)

pub few_steps : (w : Words) (start : List ℕ) (case : ℕ) (trail : Option (List (List ℕ × ℕ))) (steps : List Step)
    → IfSome (whole start case trail) (λ parts. length parts.2 ≤ 250)
    → option_and_then (steps_named w) trail ≡ Some steps → length steps ≤ 250
few_steps w start case None steps h e = cc
few_steps w start case (Some trail) steps h e = omega (arith, h, length_named w trail steps e)

-- a name has as many steps as slashes
from_slashes : (ps : List (List ℕ)) (found : Parts) → name_from ps ≡ Some found → length found.2 + 1 ≡ length ps
from_slashes [] found e = cc
from_slashes (p ∷ ps) found e = with_first (start_of p) (steps_of ps) found e (length_steps ps)
  where
    with_first : (first : Option (List ℕ × ℕ)) (more : Option (List (List ℕ × ℕ))) (found : Parts)
        → option_and_then (λ (start : List ℕ × ℕ). option_map (λ (t : List (List ℕ × ℕ)). let parts : Parts = (start.0, start.1, t) in parts) more) first ≡ Some found
        → ((t : List (List ℕ × ℕ)) → more ≡ Some t → length t ≡ length ps) → length found.2 + 1 ≡ length (p ∷ ps)
    with_first None more found e deeper = cc
    with_first (Some s) None found e deeper = cc
    with_first (Some s) (Some t) found e deeper =
        let same : t ≡ found.2 = cc in
        let tail = deeper t refl in omega (arith, tail, ap length same)

pub slashes_are_steps : (text : List ℕ) (found : Parts) → parts_of_name text ≡ Some found → length found.2 ≡ count_by (λ b. b == 47) text
slashes_are_steps text found e = omega (arith, from_slashes (parts text) found e, length-slice_split (λ b. b == 47) text)

-- what parse_node's tests say

pub long_name : (w : Words) (g : Grammar) (text : List ℕ) (found : Option Parts) → parts_of_name text ≡ found → 250 < count_by (λ b. b == 47) text
    → Reads (with_parts w g found) (Err (long_fault (is_some found)))
long_name w g text None f h = refl
long_name w g text (Some p) f h =
    let many : 250 < length p.2 = omega (arith, slashes_are_steps text p f, h) in
    ap (λ b. cond b TooLong (with_start w g p.1 p.2 (number_named w.sorts p.0))) (lt-ltb 250 (length p.2) many)

pub short_name : (text : List ℕ) (found : Option Parts) → parts_of_name text ≡ found → count_by (λ b. b == 47) text ≤ 250 → IfSome found (λ parts. length parts.2 ≤ 250)
short_name text None f h = tt
short_name text (Some p) f h = omega (arith, slashes_are_steps text p f, h)

-- what node_of's tests say

by_start : (w : Words) (g : Grammar) (start : List ℕ) (case : ℕ) (trail : List (List ℕ × ℕ)) → length trail ≤ 250
    → with_parts w g (Some (start, case, trail)) ≡ with_start w g case trail (number_named w.sorts start)
by_start w g start case trail h = ap (λ b. cond b TooLong (with_start w g case trail (number_named w.sorts start))) (le-ltb 250 (length trail) h)

from_start : (w : Words) (g : Grammar) (case : ℕ) (trail : List (List ℕ × ℕ)) (number : Option ℕ) (s : ℕ)
    → option_and_then (λ k. cond (is_start (slice_get g.sorts k)) (Some k) None) number ≡ Some s
    → with_start w g case trail number ≡ with_steps g s case (steps_named w trail)
from_start w g case trail None s e = cc
from_start w g case trail (Some k) s e = by (is_start (slice_get g.sorts k)) e
  where
    by : (b : Bool) → cond b (Some k) None ≡ Some s → cond b (with_steps g k case (steps_named w trail)) NotDeclared ≡ with_steps g s case (steps_named w trail)
    by true e = let same : k ≡ s = cc in ap (λ j. with_steps g j case (steps_named w trail)) same
    by false e = cc

pub all_declared : (w : Words) (g : Grammar) (start : List ℕ) (case s : ℕ) (trail : Option (List (List ℕ × ℕ))) (steps : List Step)
    → IfSome (whole start case trail) (λ parts. length parts.2 ≤ 250) → start_named w g start ≡ Some s → option_and_then (steps_named w) trail ≡ Some steps
    → with_parts w g (whole start case trail) ≡ fitted (record { start = s; case = case; steps = steps }) (first_misfit g 0 s steps)
all_declared w g start case s None steps h e f = cc
all_declared w g start case s (Some trail) steps h e f =
    by_start w g start case trail h ∙ from_start w g case trail (number_named w.sorts start) s e ∙ ap (with_steps g s case) f
