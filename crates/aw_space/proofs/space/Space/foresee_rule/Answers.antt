use Rattle.std.proofs.Common.{◌≡◌, map, sym, subst, true}
use Rattle.std.proofs.lemmas.Result.{IfOk-weaker}
use Rattle.aw_term.specs.Choices.{Develop}
use Rattle.aw_term.specs.Views.{ground_of}
use Rattle.aw_grammar.specs.GrammarOf.{grammar_of}
use Rattle.aw_base.specs.ChoiceFits.{choice_ok}
use Rattle.aw_space.specs.InSpace.{outcome_here}
use Rattle.aw_space.specs.Weighing.{Weighs, HasRoomFor}
use Rattle.aw_space.specs.declared.outcome.Outcome.{Outcome}
use Rattle.aw_space.proofs.space.Space.foresee_rule.Goals as goal

pub outcome_of-requires-clause-room : goal.outcome_of-requires-clause-room
outcome_of-requires-clause-room g c = subst (λ x. HasRoomFor x c.args.rule c.args.node.now c.in_ok-weighed.weighed) (sym c.grammar.ensures.value) c.in_ok-weighed.ensures.room

pub outcome_of-requires-clause-ok : goal.outcome_of-requires-clause-ok
outcome_of-requires-clause-ok g c = subst (λ x. choice_ok (grammar_of x) (Develop c.args.node.now c.args.rule (map ground_of c.args.args.now)) ≡ true) (sym c.grammar.ensures.value) c.requires

pub returns-clause-outcome : goal.returns-clause-outcome
returns-clause-outcome g c =
    let x = outcome_here g.F.Facts c.args.self.now (Develop c.args.node.now c.args.rule (map ground_of c.args.args.now)) in
    c.outcome_of.ensures.outcome x (subst (λ gr. Weighs (grammar_of gr) c.args.rule c.in_ok-weighed.weighed x) (sym c.grammar.ensures.value) c.in_ok-weighed.ensures.value)

pub returns-clause-untested : goal.returns-clause-untested
returns-clause-untested g c = IfOk-weaker c.outcome_of.result _ _ (λ (o : Outcome) refused other. c.in_ok-weighed.ensures.untested (refused other)) c.outcome_of.ensures.untested
