-- The undivided run does not look at roles.
use Rattle.std.proofs.Common.{◌≡◌, ℕ, List, [], ◌∷◌, ◌++◌, Option, None, Some, refl, ap, ◌∙◌}
use Rattle.aw_term.specs.Names.{Node, Ref, root}
use Rattle.aw_term.specs.Rules.{Ground, Value, Grammar}
use Rattle.aw_term.specs.Configs.{State, Pending, Done, Row, Config, holes, insert_row, row_of}
use Rattle.aw_term.specs.Choices.{Choice, Start, Develop, Outcome, Refused, Starts, Takes, at_state, at_row, outcome, answer_of, answer, start_row, taken, or_same, after}
use Rattle.aw_term.specs.Artifacts.{Words}
use Rattle.aw_term.specs.Runs.{answer_line, answer_lines, after_all, artifacts, plain_text}
use Rattle.aw_replay.specs.United.{united, united_words}
use Rattle.aw_replay.proofs.SortsAt.{gives_same}
use Rattle.aw_replay.proofs.TextsSame.{answer_line_same, artifacts_same}

state_same : (g : Grammar) (n : Node) (r : ℕ) (args : List Ground) (q : Row) (s : State) → at_state s (united g) n r args q ≡ at_state s g n r args q
state_same g n r args q Pending = refl
state_same g n r args q (Done rule given) = refl

row_same : (g : Grammar) (n : Node) (r : ℕ) (args : List Ground) (o : Option Row) → at_row o (united g) n r args ≡ at_row o g n r args
row_same g n r args None = refl
row_same g n r args (Some q) = state_same g n r args q q.state

outcome_same : (g : Grammar) (c : Config) (x : Choice) → outcome (united g) c x ≡ outcome g c x
outcome_same g c (Start s k) = refl
outcome_same g c (Develop n r args) = row_same g n r args (row_of n c)

-- the pending row of a new case with so many results
abbrev case_row : ℕ → ℕ → ℕ → Row
case_row s k gives = record { node = root s k; sort = s; inherited = []; results = holes (root s k) gives; state = Pending }

start_row_same : (g : Grammar) (s k : ℕ) → start_row (united g) s k ≡ start_row g s k
start_row_same g s k = ap (case_row s k) (gives_same g.sorts s)

taken_same : (g : Grammar) (c : Config) (x : Choice) (o : Outcome Value Ref) → taken (united g) c x o ≡ taken g c x o
taken_same g c (Start s k) (Refused a) = refl
taken_same g c (Develop n r args) (Refused a) = refl
taken_same g c (Start s k) Starts = ap (λ q. Some (insert_row q c)) (start_row_same g s k)
taken_same g c (Develop n r args) Starts = refl
taken_same g c (Start s k) (Takes rule bound) = refl
taken_same g c (Develop n r args) (Takes rule bound) = refl

after_same : (g : Grammar) (c : Config) (x : Choice) → after (united g) c x ≡ after g c x
after_same g c x =
    ap (λ o. or_same c (taken (united g) c x o)) (outcome_same g c x)
    ∙ ap (or_same c) (taken_same g c x (outcome g c x))

answer_same : (g : Grammar) (c : Config) (x : Choice) → answer (united g) c x ≡ answer g c x
answer_same g c x = ap answer_of (outcome_same g c x)

after_all_same : (g : Grammar) (c : Config) (xs : List Choice) → after_all (united g) c xs ≡ after_all g c xs
after_all_same g c [] = refl
after_all_same g c (x ∷ xs) = ap (λ d. after_all (united g) d xs) (after_same g c x) ∙ after_all_same g (after g c x) xs

lines_same : (w : Words) (g : Grammar) (c : Config) (xs : List Choice) → answer_lines (united_words w) (united g) c xs ≡ answer_lines w g c xs
lines_same w g c [] = refl
lines_same w g c (x ∷ xs) =
    let rest = answer_lines (united_words w) (united g) (after (united g) c x) xs in
    ap (λ a. answer_line (united_words w) x a ++ rest) (answer_same g c x)
    ∙ ap (λ t. t ++ rest) (answer_line_same w x (answer g c x))
    ∙ ap (λ d. answer_line w x (answer g c x) ++ answer_lines (united_words w) (united g) d xs) (after_same g c x)
    ∙ ap (λ t. answer_line w x (answer g c x) ++ t) (lines_same w g (after g c x) xs)

-- it tells the same where all sorts are at one role
pub plain_text_same : (w : Words) (g : Grammar) (xs : List Choice) → plain_text (united_words w) (united g) xs ≡ plain_text w g xs
plain_text_same w g xs =
    ap (λ t. t ++ artifacts (united_words w) (after_all (united g) [] xs)) (lines_same w g [] xs)
    ∙ ap (λ c. answer_lines w g [] xs ++ artifacts (united_words w) c) (after_all_same g [] xs)
    ∙ ap (λ t. answer_lines w g [] xs ++ t) (artifacts_same w (after_all g [] xs))
