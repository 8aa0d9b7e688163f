use Rattle.std.proofs.Common.{◌≡◌, ◌≤◌, ◌+◌, ◌*◌, ◌++◌, map, option_map}
use Rattle.std.specs.Vec.Iter.{into_iter_items}
use Rattle.aw_term.specs.Views.{ground_of}
use Rattle.aw_grammar.specs.Terms.{symbols_in, symbols_in_all}
use Rattle.aw_grammar.specs.Written.{written_of}
use Rattle.aw_grammar.specs.GrammarOf.{words_of}
use Rattle.aw_sched.specs.Grounds.{known_grounds}
use Rattle.aw_sched.proofs.ground.+ground.Given as goal

abbrev pub decreases-ground : goal.decreases-ground
decreases-ground l = 2 * symbols_in (written_of l.term)

abbrev pub decreases-add_grounds : goal.decreases-add_grounds
decreases-add_grounds l = 2 * symbols_in_all (map written_of l.terms) + 1

abbrev pub invariant-add_grounds-loop-term : goal.invariant-add_grounds-loop-term
invariant-add_grounds-loop-term l = record {
  known : option_map (λ more. map ground_of l.found ++ more) (known_grounds (words_of l.g).cons (map written_of (into_iter_items l.term-iterator)))
      ≡ known_grounds (words_of l.g).cons (map written_of l.fn.terms);
  few : symbols_in_all (map written_of (into_iter_items l.term-iterator)) ≤ symbols_in_all (map written_of l.fn.terms);
}
