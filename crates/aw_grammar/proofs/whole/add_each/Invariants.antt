use Rattle.std.proofs.Common.{◌≡◌, ◌+◌}
use Rattle.std.specs.Vec.Iter.{into_iter_items, into_iter_len}
use Rattle.aw_grammar.specs.Build.{first_fault, declare_all, placed, AllSpelled}
use Rattle.aw_grammar.specs.GrammarOf.{declarations_of}
use Rattle.aw_grammar.proofs.whole.add_each.Given as goal

abbrev pub invariant-loop-item : goal.invariant-loop-item
invariant-loop-item g l = record {
  fault : first_fault (declarations_of l.grammar) (placed g.D.Declares.place_of g.D.Declares.declares l.place (into_iter_items l.left))
      ≡ first_fault (declarations_of l.initial.grammar) (placed g.D.Declares.place_of g.D.Declares.declares 0 (into_iter_items l.initial.left));
  declared : declare_all (declarations_of l.grammar) (placed g.D.Declares.place_of g.D.Declares.declares l.place (into_iter_items l.left))
      ≡ declare_all (declarations_of l.initial.grammar) (placed g.D.Declares.place_of g.D.Declares.declares 0 (into_iter_items l.initial.left));
  spelled : AllSpelled (placed g.D.Declares.place_of g.D.Declares.declares l.place (into_iter_items l.left));
  may_come : g.D.Declares.may_come l.grammar;
  counted : l.place + into_iter_len l.left ≡ into_iter_len l.initial.left;
}

abbrev pub decreases-loop-item : goal.decreases-loop-item
decreases-loop-item g l = into_iter_len l.left
