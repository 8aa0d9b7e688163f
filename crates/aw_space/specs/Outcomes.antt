-- What the program answers to a choice.
use Rattle.std.specs.Prelude.{◌≡◌, map}
use Rattle.aw_term.specs.Names.{Ref}
use Rattle.aw_term.specs.Choices as Q
use Rattle.aw_choice.specs.ChoiceView.{answer_of}
use Rattle.aw_store.specs.EquationView.{equation_of}
use Rattle.aw_apply.specs.MadeView.{as_child}
use Rattle.aw_apply.specs.declared.making.Made.{Made}
use Rattle.aw_space.specs.declared.outcome.Outcome.{Outcome}
use Rattle.aw_space.specs.Spaces.{making}

-- what the choice makes that leads to this
pub record IsMade (m : Made) (c : Q.Choice) (x : Q.Outcome Ref Ref) : Type 0 where
  pub equations : map equation_of m.equations ≡ (making c x).equations
  pub children : m.children ≡ map as_child (making c x).calls

-- the answer to the choice that leads to this, and what it makes
pub record IsOutcome (o : Outcome) (c : Q.Choice) (x : Q.Outcome Ref Ref) : Type 0 where
  pub answer : answer_of o.answer ≡ Q.answer_of x
  pub made : IsMade o.made c x
