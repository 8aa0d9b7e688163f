-- What follows from what is held up is the waiting relation, and what holds of a grammar that is well formed.
use Rattle.std.proofs.Common.{ℕ, Result, Ok, Err, IfOk}
use Rattle.std.specs.Prelude.{◌↔◌}
use Rattle.std.proofs.Math.Logic.{∥∥₁_elim}
use native.Mathlib.Nat.{ℕ_set}
use Rattle.aw_term.specs.Rules as P
use Rattle.aw_term.specs.Artifacts.{Words}
use Rattle.aw_term.specs.WellFormed.{IsWellFormed}
use Rattle.aw_iograph.specs.declared.io.Io.{Io}
use Rattle.aw_iograph.specs.Pairs.{Has}
use Rattle.aw_iograph.specs.Dependence.{Follows}
use Rattle.aw_iograph.proofs.Relations.{follows_least, follows_closed, follows_held}
use Rattle.aw_accept.specs.Acyclic.{IsGivenGrammar}
use Rattle.aw_accept.proofs.Fitting.{given_of}
use Rattle.aw_grammar.specs.declared.grammar.Grammar.{Grammar}
use Rattle.aw_grammar.specs.GrammarOf.{grammar_of, words_of}
use Rattle.aw_wait.specs.Waiting.{IsHeldUp, WaitingRelation, IsFreeOfWaiting, NoneWaitsForItself, SomeWaitsForNone}
use Rattle.aw_wait.proofs.WaitingRuns.{none_waits, some_waits_for_none}

follows_same : (g : P.Grammar) (seed seed' : ℕ → ℕ → ℕ → Type 0) → ((s i j : ℕ) → seed s i j → seed' s i j) → (s i j : ℕ) → Follows g seed s i j → Follows g seed' s i j
follows_same g seed seed' there = follows_least g seed (Follows g seed') (follows_closed g seed') (λ s i j x. follows_held g seed' s i j (there s i j x))

pub waiting_follows : (g : P.Grammar) (seed has : ℕ → ℕ → ℕ → Type 0) → ((s i j : ℕ) → seed s i j ↔ IsHeldUp g s i j) →
    ((s i j : ℕ) → has s i j ↔ Follows g seed s i j) → (s i j : ℕ) → has s i j ↔ WaitingRelation g s i j
waiting_follows g seed has seeds made s i j = (
  (λ x. follows_same g seed (IsHeldUp g) (λ s i j y. (seeds s i j).0 y) s i j ((made s i j).0 x)),
  (λ x. (made s i j).1 (follows_same g (IsHeldUp g) seed (λ s i j y. (seeds s i j).1 y) s i j x)),
)

pub waiting_if_ok : {E : Type 0} (g : P.Grammar) (seed : Io) (r : Result Io E) → ((s i j : ℕ) → Has seed s i j ↔ IsHeldUp g s i j) →
    IfOk r (λ io. (s i j : ℕ) → Has io s i j ↔ Follows g (Has seed) s i j)
    → IfOk r (λ io. (s i j : ℕ) → Has io s i j ↔ WaitingRelation g s i j)
waiting_if_ok g seed (Ok io) seeds made = waiting_follows g (Has seed) (Has io) seeds made
waiting_if_ok g seed (Err e) seeds made = tt

given_prop : (g : P.Grammar) → IsProp (IsGivenGrammar g)
given_prop g = λ a b i. record {
  results = λ r m. ℕ_set _ _ (a.results r m) (b.results r m) i;
  outs = λ r m k d e. ℕ_set _ _ (a.outs r m k d e) (b.outs r m k d e) i;
}

pub given_grammar : (w : Words) (g : P.Grammar) → ∥ IsWellFormed w g ∥₁ → IsGivenGrammar g
given_grammar w g good = ∥∥₁_elim good (given_prop g) (λ x. given_of w g x)

pub none_if_ok : {T E : Type 0} (g : Grammar) (r : Result T E) → IfOk r (λ w. IsFreeOfWaiting (grammar_of g)) → IfOk r (λ w. NoneWaitsForItself (grammar_of g))
none_if_ok g (Ok w) free = none_waits (grammar_of g) (given_grammar (words_of g) (grammar_of g) g.well_formed) free
none_if_ok g (Err e) free = tt

pub some_if_ok : {T E : Type 0} (g : Grammar) (r : Result T E) → IfOk r (λ w. IsFreeOfWaiting (grammar_of g)) → IfOk r (λ w. SomeWaitsForNone (grammar_of g))
some_if_ok g (Ok w) free = some_waits_for_none (grammar_of g) (given_grammar (words_of g) (grammar_of g) g.well_formed) free
some_if_ok g (Err e) free = tt
