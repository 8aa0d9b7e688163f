use Rattle.std.proofs.Common.{◌≡◌, take, map}
use Rattle.aw_choice.specs.ChoiceView.{item_of}
use Rattle.aw_grammar.specs.GrammarOf.{words_of}
use Rattle.aw_term.specs.Runs.{item_lines}
use Rattle.aw_book_join.specs.Handing.{HandsOn}
use Rattle.aw_book_join.specs.Tasks.{items_of}
use Rattle.aw_book_join.proofs.items.write_each.Given as goal

-- the lines so far were handed on
abbrev pub invariant-loop-item : goal.invariant-loop-item
invariant-loop-item g l = record {
  named : l.names.grammar.now ≡ l.initial.names.grammar.now;
  counts : g.K.Sink.faults l.out ≡ g.K.Sink.faults l.initial.out;
  handed : HandsOn (g.K.Sink.written l.initial.out) (g.K.Sink.written l.out) l.text
      (item_lines (words_of l.initial.names.grammar.now) (items_of l.case (map item_of (take l.item-index l.items))));
}
