use Rattle.aw_codec.specs.Names.{spelled_ref}
use Rattle.aw_journal.proofs.Counts.{counted_more}
use Rattle.aw_journal.proofs.lengths.refs_len.Goals as goal

pub loop-reference-preserved : goal.loop-reference-preserved
loop-reference-preserved c =
    counted_more spelled_ref 1 c.args.refs.now c.loop-reference.reference-index c.reference-item.result c.loop-reference.count c.ref_len.result
    c.saturating_add-count.result c.loop-reference-test.true c.reference-item.is c.loop-reference.invariant
    c.ref_len.ensures c.saturating_add-count.ensures
