-- A node that a text names is valid.
use Rattle.std.proofs.Common.{◌≡◌, ℕ, ◌+◌, refl, sym, ap, ◌∙◌, Bool, true, false, cond, List, [], ◌∷◌, Option, Some, None, is_some, option_and_then, slice_get}
use Rattle.aw_term.specs.Names.{Step}
use Rattle.aw_term.specs.Rules.{Sort, Grammar, sort_of_step, sort_after, sort_of}
use Rattle.aw_term.specs.Artifacts.{Words}
use Rattle.aw_base.specs.NodeNames.{is_start, misfit_or, first_misfit}
use Rattle.aw_grammar.specs.Named.{number_named}
use Rattle.aw_base.specs.NodeReading.{start_named}

fit_step : (g : Grammar) (at : ℕ) (steps : List Step) (next : Option ℕ)
    → misfit_or at (λ t. first_misfit g (at + 1) t steps) next ≡ None
    → ((t : ℕ) → first_misfit g (at + 1) t steps ≡ None → is_some (sort_after g t steps) ≡ true)
    → is_some (option_and_then (λ t. sort_after g t steps) next) ≡ true
fit_step g at steps None e deeper = cc
fit_step g at steps (Some t) e deeper = deeper t e

fit_sort : (g : Grammar) (at s : ℕ) (steps : List Step) → first_misfit g at s steps ≡ None → is_some (sort_after g s steps) ≡ true
fit_sort g at s [] e = refl
fit_sort g at s (step ∷ steps) e = fit_step g at steps (sort_of_step g s step) e (λ t f. fit_sort g (at + 1) t steps f)

start_sort : (g : Grammar) (s : ℕ) (steps : List Step) (found : Option Sort) → is_start found ≡ true → is_some (sort_after g s steps) ≡ true
    → is_some (option_and_then (λ (t : Sort). cond t.start (sort_after g s steps) None) found) ≡ true
start_sort g s steps None e f = cc
start_sort g s steps (Some t) e f = ap (λ b. is_some (cond b (sort_after g s steps) None)) e ∙ f

started : (g : Grammar) (s k : ℕ) (b : Bool) → is_start (slice_get g.sorts k) ≡ b → Some s ≡ cond b (Some k) None → is_start (slice_get g.sorts s) ≡ true
started g s k true e h = let same : s ≡ k = cc in ap (λ i. is_start (slice_get g.sorts i)) same ∙ e
started g s k false e h = cc

start_of_name : (g : Grammar) (s : ℕ) (number : Option ℕ) → Some s ≡ option_and_then (λ k. cond (is_start (slice_get g.sorts k)) (Some k) None) number → is_start (slice_get g.sorts s) ≡ true
start_of_name g s None h = cc
start_of_name g s (Some k) h = started g s k (is_start (slice_get g.sorts k)) refl h

-- a node that begins at a start sort, and whose steps all fit, is valid
pub node_valid : (w : Words) (g : Grammar) (name : List ℕ) (s case : ℕ) (steps : List Step) → Some s ≡ start_named w g name → None ≡ first_misfit g 0 s steps
    → is_some (sort_of g (record { start = s; case = case; steps = steps })) ≡ true
node_valid w g name s case steps e f = start_sort g s steps (slice_get g.sorts s) (start_of_name g s (number_named w.sorts name) e) (fit_sort g 0 s steps (sym f))
