use Rattle.std.proofs.Common.{refl}
use Rattle.aw_spec.specs.Views.{spec_seen}
use Rattle.aw_front.proofs.FrontOutputs.{front-judged}
use Rattle.aw_front.proofs.front.front_of_typed.Goals as goal

pub returns : goal.returns
returns c =
    front-judged c.in_ok-judged.judged c.front_of_judged.result (spec_seen c.args.spec) c.args.writes c.args.spec.grammar c.args.spec.types
    c.args.typed c.in_ok-judged.text refl refl c.requires.types c.requires.made
    c.in_ok-judged.ensures.text c.in_ok-judged.ensures.judged c.front_of_judged.ensures.ready c.front_of_judged.ensures.refused
