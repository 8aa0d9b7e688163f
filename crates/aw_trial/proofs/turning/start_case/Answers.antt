use Rattle.std.proofs.Common.{◌≡◌, ℕ, suc, subst, arith}
use Rattle.aw_choice.specs.ChoiceView.{choice_of}
use Rattle.aw_choice.specs.declared.choice.Choice.{Choice}
use Rattle.aw_law_sites.specs.Worlds as V
use Rattle.aw_world.specs.Shown.{Shows}
use Rattle.aw_world.specs.WorldView.{plain_of}
use Rattle.aw_trial.specs.declared.tally.Tally.{Tally}
use Rattle.aw_trial.proofs.turning.start_case.Goals as goal

counted : (t : Tally) (n : ℕ) → n ≡ suc t.starts → record t { starts = n } ≡ record t { starts = suc t.starts }
counted t n en = λ i. record t { starts = en i }

pub returns-clause-does : goal.returns-clause-does
returns-clause-does g c v es S = record {
  world = subst (λ (z : Choice). Shows g.W.Workspace c.step.new.self (V.step (plain_of c.args.world.now) v (V.Chooses (choice_of z))).world) c.in_ok-start.ensures
      (c.in_ok-step.ensures.steps v S).world;
  tally = counted c.args.tally.now _ (omega arith);
}
