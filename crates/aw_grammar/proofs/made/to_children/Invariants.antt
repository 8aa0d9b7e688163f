use Rattle.std.proofs.Common.{◌≡◌, ◌++◌, true, drop, map}
use Rattle.aw_grammar.specs.Written.{child_of_raw}
use Rattle.aw_grammar.specs.Terms.{args_of}
use Rattle.aw_grammar.specs.Resolved.{child_numbered}
use Rattle.aw_grammar.specs.Kinds.{children_fit}
use Rattle.aw_grammar.specs.Faultless.{all_faultless}
use Rattle.aw_grammar.specs.GrammarView.{child_of}
use Rattle.aw_grammar.specs.GrammarOf.{words_of}
use Rattle.aw_grammar.proofs.made.to_children.Given as goal

abbrev pub invariant-loop-child : goal.invariant-loop-child
invariant-loop-child l = record {
  made : map (child_of l.grammar.sorts) l.made ++ map (child_numbered (words_of l.grammar).cons (words_of l.grammar).sorts l.variables.names) (map child_of_raw (drop l.child-index l.child-items))
      ≡ map (child_numbered (words_of l.grammar).cons (words_of l.grammar).sorts l.variables.names) (map child_of_raw l.children);
  fit : children_fit l.grammar.sorts (map child_of_raw (drop l.child-index l.child-items)) ≡ true;
  faultless : all_faultless l.grammar.cons l.variables.names (args_of (map child_of_raw (drop l.child-index l.child-items))) ≡ all_faultless
      l.grammar.cons l.variables.names (args_of (map child_of_raw l.children));
}
