use Rattle.std.proofs.Common.{◌≡◌}
use Rattle.std.proofs.lemmas.Result.{IfOk-weaker}
use Rattle.aw_lex.specs.Lines.{lines_of}
use Rattle.aw_spec.specs.Reading.{Faulty, specification}
use Rattle.aw_spec.specs.Views.{spec_seen}
use Rattle.aw_front.proofs.FrontOutputs.{front-faulty, front-good}
use Rattle.aw_front.proofs.front.front_of_input.Goals as goal

pub returns-in-Ok : goal.returns-in-Ok
returns-in-Ok c =
    IfOk-weaker c.front_of_specification.result _ _
    (λ front holds. front-good front c.args.input.now (spec_seen c.in-Ok.spec) c.in-Ok.spec.lines c.in-Ok.spec.loads c.args.writes c.requires.within c.in-Ok.ensures.exact holds)
    c.front_of_specification.ensures

pub returns-in_ok-bad_specification-in-Err-Bad : goal.returns-in_ok-bad_specification-in-Err-Bad
returns-in_ok-bad_specification-in-Err-Bad c =
    let faulty : specification (lines_of c.args.input.now) ≡ Faulty c.in-Err-Bad.line c.in-Err-Bad.kind = rw c.in-Err-Bad.field-0-is at c.in-Err-Bad.ensures.exact in
    front-faulty _ c.args.input.now c.in-Err-Bad.line _ c.in-Err-Bad.kind _ c.requires.within faulty c.in-Err-Bad.line-is c.in-Err-Bad.kind-is c.in_ok-bad_specification-in-Err-Bad.ensures
