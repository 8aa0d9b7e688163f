use Rattle.std.proofs.Common.{ap, ◌∙◌, arith}
use Rattle.std.specs.List.{concat}
use Rattle.aw_node_list.proofs.ChunkLemmas.{begun_items, halved_items, lies_first, lies_second}
use Rattle.aw_node_list.proofs.chunks.Chunks.open.Goals as goal

pub returns-then-ends_full-clause-items : goal.returns-then-ends_full-clause-items
returns-then-ends_full-clause-items c = ap concat c.begin.ensures.chunks ∙ begun_items c.args.self.now.chunks

pub returns-then-place-start-clause-items : goal.returns-then-place-start-clause-items
returns-then-place-start-clause-items c =
    halved_items c.args.self.now.chunks c.halve.new.self.chunks c.find-at.result c.find-at.ensures.lies.within c.halve.ensures.halved

pub returns-then-place-start-clause-lies : goal.returns-then-place-start-clause-lies
returns-then-place-start-clause-lies c =
    lies_first c.args.self.now.chunks c.halve.new.self.chunks c.find-at.result c.find-at.ensures.lies.within c.halve.ensures.halved c.args.place c.find-at.ensures.lies
    (omega (arith, c.if-place-start.true, c.start.ensures))

pub returns-else-place-start-clause-items : goal.returns-else-place-start-clause-items
returns-else-place-start-clause-items c =
    halved_items c.args.self.now.chunks c.halve.new.self.chunks c.find-at.result c.find-at.ensures.lies.within c.halve.ensures.halved

pub returns-else-place-start-clause-lies : goal.returns-else-place-start-clause-lies
returns-else-place-start-clause-lies c =
    lies_second c.args.self.now.chunks c.halve.new.self.chunks c.find-at.result c.find-at.ensures.lies.within c.halve.ensures.halved c.args.place c.find-at.ensures.lies
    (omega (arith, c.if-place-start.false, c.start.ensures))
