use Rattle.aw_apply.proofs.LayLemmas.{on_both, one_more}
use Rattle.aw_apply.proofs.laid.close_con.Goals as goal

pub returns : goal.returns
returns c = on_both c.add.result (one_more _ _ c.args.all.now.roots.items _ _ _ c.in_ok-part_of.field-0 _ c.in_ok-part_of.ensures c.in_ok-write_con.ensures) c.add.ensures.roots c.add.ensures.next
