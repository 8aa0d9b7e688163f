use Rattle.aw_codec.specs.Names.{spelled_ref}
use Rattle.aw_codec.specs.Ranges.{RefSized}
use Rattle.aw_codec.proofs.Adding.{one_more, each_more}
use Rattle.aw_codec.proofs.writing.add_each_ref.Goals as goal

pub loop-reference-preserved : goal.loop-reference-preserved
loop-reference-preserved c = record {
  added =
      one_more spelled_ref c.args.refs.now c.loop-reference.reference-index c.reference-item.result c.args.text.now c.loop-reference.text
      c.add_ref.new.text c.loop-reference-test.true c.reference-item.is c.loop-reference.invariant.added c.in_ok-add_ref.ensures.ok;
  sized =
      each_more RefSized c.args.refs.now c.loop-reference.reference-index c.reference-item.result c.loop-reference-test.true c.reference-item.is
      c.loop-reference.invariant.sized c.in_ok-add_ref.ensures.sized;
}
