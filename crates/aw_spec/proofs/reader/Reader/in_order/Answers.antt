use Rattle.std.proofs.Common.{◌≤◌, arith}
use Rattle.aw_spec.specs.Reading.{stage_of}
use Rattle.aw_spec.specs.Views.{line_seen}
use Rattle.aw_spec.proofs.Stages.{still_at_stage}
use Rattle.aw_spec.proofs.reader.Reader.in_order.Goals as goal

pub returns-clause-stage : goal.returns-clause-stage
returns-clause-stage c =
    let before = c.args.self.now in
    let line = line_seen c.args.line in
    let in_order : before.stage ≤ stage_of line = omega (arith, c.stage-stage.ensures, c.if-stage-self.false) in
    still_at_stage before _ line c.says.result in_order c.stage-stage.ensures c.requires.stage c.says.ensures
