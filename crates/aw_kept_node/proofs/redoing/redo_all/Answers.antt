use Rattle.std.proofs.Common.{rules, refl, ◌∙◌, ◌+◌, take}
use Rattle.aw_journal.specs.EventView.{events_seen}
use Rattle.aw_node.specs.TypedNodes.{rules_of}
use Rattle.aw_kept_node.specs.KeptEvents.{site_by}
use Rattle.aw_kept_node.proofs.CutOffs.{err-passed}
use Rattle.aw_kept_node.proofs.RedoneLists.{in-range, redone-more, stopped-at}
use Rattle.aw_kept_node.proofs.redoing.redo_all.Goals as goal

pub redo_next-requires-clause-range : goal.redo_next-requires-clause-range
redo_next-requires-clause-range g c = in-range c.args.events.now c.loop-number.number c.index-events-number.result c.loop-number-test.true c.index-events-number.is c.requires.range

pub loop-number-preserved : goal.loop-number-preserved
loop-number-preserved g c =
    let r = rules_of c.args.g.now.grammar c.args.t.now in
    let es = c.args.events.now in
    let n = c.loop-number.number in
    let i = c.loop-number.invariant in
    record {
      grammar = c.redo_next.ensures.grammar ∙ i.grammar;
      redone = λ s shown.
          redone-more r s (g.P.NodeWorkspace.shows c.redo_next.new.site) es n (n + 1) c.index-events-number.result refl c.loop-number-test.true c.index-events-number.is (i.redone s shown).0
          (c.in_ok-redo_next.ensures.ok (site_by r s (events_seen (take n es))) (i.redone s shown).1);
    }

pub returns-in_err-redo_next-clause-err : goal.returns-in_err-redo_next-clause-err
returns-in_err-redo_next-clause-err g c s shown =
    let r = rules_of c.args.g.now.grammar c.args.t.now in
    let es = c.args.events.now in
    let n = c.loop-number.number in
    let h = c.loop-number.invariant.redone s shown in
    err-passed _ c.from_residual.result _ (search rules)
    (stopped-at r s es n n c.index-events-number.result _ refl c.loop-number-test.true c.index-events-number.is h.0 (c.in_err-redo_next.ensures.err (site_by r s (events_seen (take n es))) h.1))
