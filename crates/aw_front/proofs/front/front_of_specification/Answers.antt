use Rattle.std.proofs.Common.{refl}
use Rattle.std.proofs.lemmas.Result.{IfOk-weaker}
use Rattle.aw_spec.specs.Views.{spec_seen}
use Rattle.aw_front.proofs.FrontOutputs.{front-typed, front-untyped}
use Rattle.aw_front.proofs.front.front_of_specification.Goals as goal

pub returns-in-Ok : goal.returns-in-Ok
returns-in-Ok c = IfOk-weaker c.front_of_typed.result _ _ (λ front holds. front-typed front (spec_seen c.args.spec) c.args.writes c.args.spec.grammar
    refl c.in-Ok.ensures.none holds) c.front_of_typed.ensures

pub returns-in_ok-said-in-Err : goal.returns-in_ok-said-in-Err
returns-in_ok-said-in-Err c = front-untyped _ c.in-Err.fault (spec_seen c.args.spec) c.args.spec.grammar refl c.in-Err.ensures.fault c.in_ok-said-in-Err.ensures
