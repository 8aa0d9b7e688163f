use Rattle.aw_grammar.specs.GrammarOf.{words_of}
use Rattle.aw_base.specs.WrittenNames.{IsWritten}
use Rattle.aw_base.proofs.ItemsAt.{each_pushed}
use Rattle.aw_base.proofs.name_writer.has_place.Goals as goal

pub loop-alloc-preserved : goal.loop-alloc-preserved
loop-alloc-preserved c =
    let w = words_of c.args.g.now in
    each_pushed (IsWritten w) c.loop-alloc.others.items c.push.new.self.items c.nothing_written.result c.push.result c.loop-alloc.invariant (c.nothing_written.ensures w) c.push.ensures.items
