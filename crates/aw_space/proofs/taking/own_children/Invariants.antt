use Rattle.std.proofs.Common.{◌≡◌, ◌++◌, true}
use Rattle.std.specs.Vec.Iter.{into_iter_items}
use Rattle.aw_grammar.specs.GrammarOf.{grammar_of}
use Rattle.aw_space.specs.Children.{own_children, are_named}
use Rattle.aw_space.proofs.taking.own_children.Given as goal

abbrev pub invariant-loop-child : goal.invariant-loop-child
invariant-loop-child l = record {
  items : l.own.items ++ own_children (grammar_of l.grammar) l.role (into_iter_items l.child-iterator) ≡ own_children (grammar_of l.grammar) l.role l.fn.children;
  rest : are_named (grammar_of l.grammar) (into_iter_items l.child-iterator) ≡ true;
}
