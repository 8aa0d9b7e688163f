use Rattle.aw_base.specs.ReadFronts.{IsReadOver}
use Rattle.aw_base.proofs.ItemsAt.{each_pushed}
use Rattle.aw_base.proofs.node_reader.NodeReader.has_place.Goals as goal

pub returns-then-is_err-clause-kept : goal.returns-then-is_err-clause-kept
returns-then-is_err-clause-kept c w g h =
    record {
      each = each_pushed (IsReadOver w g) c.loop-self.self.names.items c.push.new.self.items c.new.result c.push.result
          (c.loop-self.invariant w g h).each (c.new.ensures w g) c.push.ensures.items;
    }

pub loop-self-preserved : goal.loop-self-preserved
loop-self-preserved c w g h =
    record {
      each = each_pushed (IsReadOver w g) c.loop-self.self.names.items c.push.new.self.items c.new.result c.push.result
          (c.loop-self.invariant w g h).each (c.new.ensures w g) c.push.ensures.items;
    }
