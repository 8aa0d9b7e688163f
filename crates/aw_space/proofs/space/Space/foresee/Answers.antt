use Rattle.std.proofs.Common.{◌≡◌, sym, subst, true}
use Rattle.std.specs.Prelude.{IfOk}
use Rattle.aw_grammar.specs.GrammarOf.{grammar_of}
use Rattle.aw_base.specs.ChoiceFits.{choice_ok}
use Rattle.aw_choice.specs.ChoiceView.{choice_of}
use Rattle.aw_space.specs.Outcomes.{IsOutcome}
use Rattle.aw_space.specs.Seen.{space_seen}
use Rattle.aw_space.specs.Spaces.{outcome}
use Rattle.aw_space.proofs.space.Space.foresee.Goals as goal

pub foresee_choice-requires : goal.foresee_choice-requires
foresee_choice-requires g c = subst (λ x. choice_ok (grammar_of x) (choice_of c.args.choice.now) ≡ true) c.requires.grammar c.requires.ok

pub returns-clause-outcome : goal.returns-clause-outcome
returns-clause-outcome g c =
    let ch = choice_of c.args.choice.now in
    let s = space_seen g.F.Facts c.args.self.now in
    subst (λ x. IfOk c.foresee_choice.result (λ o. IsOutcome o ch (outcome (grammar_of x) s ch))) (sym c.requires.grammar) c.foresee_choice.ensures.outcome
