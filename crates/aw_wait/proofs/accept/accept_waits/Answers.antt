use Rattle.std.proofs.Common.{ℕ, IfOk, IfErr, subst}
use Rattle.std.specs.Prelude.{◌↔◌}
use Rattle.aw_grammar.specs.GrammarOf.{grammar_of}
use Rattle.aw_grammar.specs.declared.grammar.Grammar.{Grammar}
use Rattle.aw_iograph.specs.Pairs.{Has}
use Rattle.aw_wait.specs.Waiting.{WaitingRelation, IsFreeOfWaiting}
use Rattle.aw_wait.specs.Refusals.{TellsWait}
use Rattle.aw_wait.proofs.Accepting.{none_if_ok, some_if_ok}
use Rattle.aw_wait.proofs.accept.accept_waits.Goals as goal

pub returns-clause-relation : goal.returns-clause-relation
returns-clause-relation c = subst (λ (h : Grammar). IfOk c.free_of_waiting.result (λ w. (s i j : ℕ) → Has w.waiting s i j ↔ WaitingRelation
    (grammar_of h) s i j)) c.grammar.ensures.value c.free_of_waiting.ensures.relation

pub returns-clause-free : goal.returns-clause-free
returns-clause-free c = subst (λ (h : Grammar). IfOk c.free_of_waiting.result (λ w. IsFreeOfWaiting (grammar_of h))) c.grammar.ensures.value c.free_of_waiting.ensures.free

pub returns-clause-none_waits : goal.returns-clause-none_waits
returns-clause-none_waits c =
    none_if_ok c.args.g.now.grammar c.free_of_waiting.result
    (subst (λ (h : Grammar). IfOk c.free_of_waiting.result (λ w. IsFreeOfWaiting (grammar_of h))) c.grammar.ensures.value c.free_of_waiting.ensures.free)

pub returns-clause-some_free : goal.returns-clause-some_free
returns-clause-some_free c =
    some_if_ok c.args.g.now.grammar c.free_of_waiting.result
    (subst (λ (h : Grammar). IfOk c.free_of_waiting.result (λ w. IsFreeOfWaiting (grammar_of h))) c.grammar.ensures.value c.free_of_waiting.ensures.free)

pub returns-clause-circle : goal.returns-clause-circle
returns-clause-circle c = subst (λ (h : Grammar). IfErr c.free_of_waiting.result (λ e. TellsWait (grammar_of h) e)) c.grammar.ensures.value c.free_of_waiting.ensures.circle
