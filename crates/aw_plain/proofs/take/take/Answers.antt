use Rattle.std.proofs.Common.{◌≡◌, Some, slice_get}
use Rattle.aw_grammar.proofs.RuleSizes.{children_few}
use Rattle.aw_plain.proofs.OutcomeLemmas.{of_taken}
use Rattle.aw_plain.proofs.take.take.Goals as goal

pub develop-requires-clause-few : goal.develop-requires-clause-few
develop-requires-clause-few c =
    let g = c.args.grammar.now in
    let taken = of_taken (λ r. slice_get g.rules c.args.number ≡ Some r) c.args.node.now _ c.in-Takes.rule c.in-Takes.bound c.in-Takes.is c.in_ok-answer.ensures.takable in
    children_few g c.args.number c.in-Takes.rule.now taken.0

pub develop-requires-clause-room : goal.develop-requires-clause-room
develop-requires-clause-room c =
    let g = c.args.grammar.now in
    (of_taken (λ r. slice_get g.rules c.args.number ≡ Some r) c.args.node.now _ c.in-Takes.rule c.in-Takes.bound c.in-Takes.is c.in_ok-answer.ensures.takable).1
