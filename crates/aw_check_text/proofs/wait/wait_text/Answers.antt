use Rattle.aw_check_text.proofs.Findings.{waits_if_ok}
use Rattle.aw_check_text.proofs.wait.wait_text.Goals as goal

pub returns-in-Err-Circle : goal.returns-in-Err-Circle
returns-in-Err-Circle c =
    waits_if_ok c.args.accepted.now.grammar c.grammar.result.now (record { rule = c.in-Err-Circle.rule; occ = c.in-Err-Circle.occ })
    c.in-Err-Circle.field-0 c.circle_line.result c.grammar.ensures.value c.in-Err-Circle.field-0-is
    c.in-Err-Circle.ensures.circle c.circle_line.ensures
