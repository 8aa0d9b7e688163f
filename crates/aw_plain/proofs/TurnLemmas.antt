-- Choices in turn, and the undivided run of those that are taken.
use Rattle.std.proofs.Common.{◌≡◌, ℕ, List, [], ◌∷◌, Option, Some, None, Bool, true, false, cond, nat_eq, length, ap, ◌∙◌, refl}
use Rattle.std.specs.Prelude.{option_and_then}
use Rattle.std.proofs.lemmas.Option.{same_Some}
use Rattle.aw_term.specs.Trees.{Never}
use Rattle.aw_term.specs.Names.{Node, Ref}
use Rattle.aw_term.specs.Rules.{Ground, Value, Rule, Grammar}
use Rattle.aw_term.specs.Matching.{Matched, Yes, Waits, Differs, Circle, match_all}
use Rattle.aw_term.specs.Configs.{State, Pending, Done, Row, Config, row_of}
use Rattle.aw_term.specs.Choices.{Choice, Start, Develop, Outcome, Refused, Starts, Takes, TooDeep, NotItsRule, Arguments, deep, after_guard, at_rule}
use Rattle.aw_term.specs.Choices.{at_state, at_row, not_held, outcome, answer_of, is_taken, answer, taken, or_same, after, undivided}
use Rattle.aw_term.specs.Runs.{after_all}
use Rattle.aw_plain.specs.InTurn.{taken_among, RunsUndivided, TakesUndivided}

-- a refusal is not told as taken
abbrev IsHonest : Outcome Value Ref → Type 0
IsHonest (Refused a) = is_taken a ≡ false
IsHonest Starts = Never
IsHonest (Takes rule bound) = Unit {0}

honest_cases : (b : Bool) (x y : Outcome Value Ref) → IsHonest x → IsHonest y → IsHonest (cond b x y)
honest_cases true x y h k = h
honest_cases false x y h k = k

honest_guard : (n : Node) (rule : Rule) (m : Matched Value Ref) → IsHonest (after_guard n rule m)
honest_guard n rule (Yes xs) = honest_cases (deep n rule) (Refused TooDeep) (Takes rule xs) refl tt
honest_guard n rule (Waits r) = refl
honest_guard n rule (Differs p) = refl
honest_guard n rule (Circle r) = refl

honest_rule : (o : Option Rule) (n : Node) (args : List Ground) (q : Row) → IsHonest (at_rule o n args q)
honest_rule None n args q = refl
honest_rule (Some rule) n args q =
    honest_cases (nat_eq rule.sort q.sort) _ (Refused NotItsRule)
    (honest_cases (nat_eq (length args) rule.params) _ (Refused Arguments) (honest_guard n rule (match_all 1 rule.patterns q.inherited)) refl) refl

honest_state : (s : State) (g : Grammar) (n : Node) (r : ℕ) (args : List Ground) (q : Row) → IsHonest (at_state s g n r args q)
honest_state (Done a b) g n r args q = refl
honest_state Pending g n r args q = honest_rule _ n args q

honest_row : (o : Option Row) (g : Grammar) (n : Node) (r : ℕ) (args : List Ground) → IsHonest (at_row o g n r args)
honest_row None g n r args = refl
honest_row (Some q) g n r args = honest_state q.state g n r args q

-- what is told as taken is taken, and nothing else
abbrev AreAlike : Bool → Option Config → Type 0
AreAlike true (Some d) = Unit {0}
AreAlike true None = Never
AreAlike false (Some d) = Never
AreAlike false None = Unit {0}

refused_alike : (b : Bool) → b ≡ false → AreAlike b None
refused_alike true e = absurd cc
refused_alike false e = tt

start_alike : (g : Grammar) (c : Config) (s k : ℕ) (o : Option Row) → AreAlike (is_taken (answer_of (not_held o))) (taken g c (Start s k) (not_held o))
start_alike g c s k None = tt
start_alike g c s k (Some q) = tt

develop_alike : (g : Grammar) (c : Config) (n : Node) (r : ℕ) (args : List Ground) (o : Outcome Value Ref) → IsHonest o → AreAlike (is_taken (answer_of o)) (taken g c (Develop n r args) o)
develop_alike g c n r args (Refused a) h = refused_alike (is_taken a) h
develop_alike g c n r args Starts h = elim h [ ]
develop_alike g c n r args (Takes rule bound) h = tt

alike : (g : Grammar) (c : Config) (x : Choice) → AreAlike (is_taken (answer g c x)) (taken g c x (outcome g c x))
alike g c (Start s k) = start_alike g c s k _
alike g c (Develop n r args) = develop_alike g c n r args _ (honest_row (row_of n c) g n r args)

first_runs : (g : Grammar) (c : Config) (x : Choice) (xs : List Choice) (b : Bool) (t : Option Config) → AreAlike b t → taken g c x (outcome g c x) ≡ t →
    undivided g (or_same c t) (taken_among g (or_same c t) xs) ≡ Some (after_all g (or_same c t) xs) →
    undivided g c (cond b (x ∷ taken_among g (or_same c t) xs) (taken_among g (or_same c t) xs)) ≡ Some (after_all g (or_same c t) xs)
first_runs g c x xs true (Some d) h e later = ap (option_and_then (λ z. undivided g z (taken_among g d xs))) e ∙ later
first_runs g c x xs true None h e later = elim h [ ]
first_runs g c x xs false (Some d) h e later = elim h [ ]
first_runs g c x xs false None h e later = later

-- the choices that are taken make an undivided run
pub runs_undivided : (g : Grammar) → RunsUndivided g
runs_undivided g c [] = refl
runs_undivided g c (x ∷ xs) = first_runs g c x xs _ _ (alike g c x) refl (runs_undivided g (after g c x) xs)

first_taken : (g : Grammar) (c d : Config) (x : Choice) (xs : List Choice) (b : Bool) (t : Option Config) → AreAlike b t → option_and_then (λ z. undivided g z xs) t ≡ Some d →
    ((z : Config) → undivided g z xs ≡ Some d → (taken_among g z xs ≡ xs) × (after_all g z xs ≡ d)) →
    (cond b (x ∷ taken_among g (or_same c t) xs) (taken_among g (or_same c t) xs) ≡ x ∷ xs) × (after_all g (or_same c t) xs ≡ d)
first_taken g c d x xs true (Some z) h e later = (ap (λ ys. x ∷ ys) (later z e).0, (later z e).1)
first_taken g c d x xs true None h e later = absurd cc
first_taken g c d x xs false (Some z) h e later = elim h [ ]
first_taken g c d x xs false None h e later = absurd cc

-- the choices of an undivided run are all taken
pub takes_undivided : (g : Grammar) → TakesUndivided g
takes_undivided g c d [] e = (refl, same_Some c d e)
takes_undivided g c d (x ∷ xs) e = first_taken g c d x xs _ _ (alike g c x) e (λ z. takes_undivided g z d xs)
