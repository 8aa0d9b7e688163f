use Rattle.aw_sched.proofs.KnownChoice.{known_is}
use Rattle.aw_sched.proofs.known.known_choice.Goals as goal

pub returns : goal.returns
returns c =
    let found = c.in-Some in
    known_is c.args.g.now c.args.node c.args.line.now c.behind_blanks.result.now found.rest.now found.rule.now c.in_ok-rule.rule c.in_ok-args.args c.in_ok-of_choice.field-0
    c.behind_blanks.ensures found.ensures c.in_ok-rule.ensures c.in_ok-args.ensures c.in_ok-of_choice.ensures
