use Rattle.std.proofs.Common.{◌≡◌, ◌*◌, ◌+◌, drop, map}
use Rattle.aw_term.specs.Views.{ground_of}
use Rattle.aw_grammar.specs.GrammarOf.{grammar_of}
use Rattle.aw_base.specs.Allowance.{left_after_all}
use Rattle.aw_base.proofs.choice_fits.+allowance.Given as goal

abbrev pub decreases-left_after : goal.decreases-left_after
decreases-left_after l = 2 * l.levels

abbrev pub decreases-left_after_all : goal.decreases-left_after_all
decreases-left_after_all l = 2 * l.levels + 1

abbrev pub invariant-left_after_all-loop-t : goal.invariant-left_after_all-loop-t
invariant-left_after_all-loop-t l =
    left_after_all (grammar_of l.g).arities l.levels l.left (map ground_of (drop l.t-index l.ts))
    ≡ left_after_all (grammar_of l.g).arities l.levels l.allowed (map ground_of l.ts)
