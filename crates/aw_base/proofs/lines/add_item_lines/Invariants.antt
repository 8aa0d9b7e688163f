use Rattle.std.proofs.Common.{◌≡◌, ◌++◌, drop, map}
use Rattle.std.specs.Io.{StartsWith}
use Rattle.aw_term.specs.Runs.{item_lines}
use Rattle.aw_choice.specs.ChoiceView.{item_of}
use Rattle.aw_grammar.specs.GrammarOf.{words_of}
use Rattle.aw_base.proofs.lines.add_item_lines.Given as goal

abbrev pub invariant-loop-item : goal.invariant-loop-item
invariant-loop-item l = record {
  added : l.text ++ item_lines (words_of l.initial.names.grammar.now) (map item_of (drop l.item-index l.items)) ≡ l.initial.text ++ item_lines
      (words_of l.initial.names.grammar.now) (map item_of l.items);
  grammar : l.names.grammar.now ≡ l.initial.names.grammar.now;
  kept : StartsWith l.text l.initial.text;
}
