use Rattle.std.proofs.Common.{drop, sym, ◌∙◌}
use Rattle.std.proofs.lemmas.Option.{IfSome_then}
use Rattle.aw_world.proofs.OpenNodes.{first_taken, second_taken, ordered_left}
use Rattle.aw_world.proofs.opening.take_next.Goals as goal

pub returns-then-is_first_next-clause-some : goal.returns-then-is_first_next-clause-some
returns-then-is_first_next-clause-some c =
    let p = c.args.passed.now in
    let ordered = ordered_left c.args.mine.now p.mine c.requires in
    let first = sym c.is_first_next.ensures ∙ c.if-is_first_next.true in
    IfSome_then c.pass.result c.pass.ensures.some (λ node e. first_taken (drop p.mine c.args.mine.now) (drop p.others c.args.others.now) node.now _ ordered first e)

pub returns-else-is_first_next-clause-some : goal.returns-else-is_first_next-clause-some
returns-else-is_first_next-clause-some c =
    let p = c.args.passed.now in
    let ordered = ordered_left c.args.mine.now p.mine c.requires in
    let second = sym c.is_first_next.ensures ∙ c.if-is_first_next.false in
    IfSome_then c.pass-else-is_first_next.result c.pass-else-is_first_next.ensures.some (λ node e. second_taken (drop p.mine c.args.mine.now)
    (drop p.others c.args.others.now) node.now _ ordered second e)
