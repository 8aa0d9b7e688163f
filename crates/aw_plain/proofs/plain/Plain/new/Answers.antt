use Rattle.aw_grammar.specs.GrammarOf.{grammar_of, words_of}
use Rattle.aw_plain_rows.specs.RowView.{config_of}
use Rattle.aw_plain.proofs.TakenLemmas.{filled_none, reached_none, ordered_none, apart_none, tree_reached, acyclic_reached, sorts_none}
use Rattle.aw_plain.proofs.plain.Plain.new.Goals as goal

pub invariant_of-result : goal.invariant_of-result
invariant_of-result c =
    let declared = c.grammar.result.now in
    let g = grammar_of declared in
    let rows = c.new.result.items in
    let none = c.new.ensures.items in
    let reached = reached_none g rows none in
    record {
      accepted = c.grammar.ensures.sound;
      filled = filled_none g rows none;
      ordered = ordered_none rows none;
      apart = apart_none rows none;
      reached = reached;
      tree = tree_reached (words_of declared) g (config_of rows) declared.well_formed c.grammar.ensures.sound reached;
      acyclic = acyclic_reached (words_of declared) g (config_of rows) declared.well_formed c.grammar.ensures.sound reached;
      sorts = sorts_none g rows none;
    }
