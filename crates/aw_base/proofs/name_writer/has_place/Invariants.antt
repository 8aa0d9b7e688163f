use Rattle.std.proofs.Common.{◌+◌, ◌-◌, length}
use Rattle.aw_grammar.specs.GrammarOf.{words_of}
use Rattle.aw_base.specs.WrittenNames.{AreWritten}
use Rattle.aw_base.proofs.name_writer.has_place.Given as goal

abbrev pub invariant-loop-alloc : goal.invariant-loop-alloc
invariant-loop-alloc l = AreWritten (words_of l.g) l.others.items

abbrev pub decreases-loop-alloc : goal.decreases-loop-alloc
decreases-loop-alloc l = l.place + 1 - length l.others.items
