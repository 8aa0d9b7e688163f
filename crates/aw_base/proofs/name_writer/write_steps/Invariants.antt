use Rattle.std.proofs.Common.{◌≡◌, ◌+◌, length}
use Rattle.aw_grammar.specs.GrammarOf.{words_of}
use Rattle.aw_base.specs.NameFronts.{AreFronts}
use Rattle.aw_base.proofs.name_writer.write_steps.Given as goal

abbrev pub invariant-loop-at : goal.invariant-loop-at
invariant-loop-at l = record {
  sound : AreFronts (words_of l.g) l.written.node l.written.text l.written.ends.items;
  next : length l.written.ends.items ≡ l.at + 1;
  node : l.written.node ≡ l.initial.written.node;
}
