use Rattle.std.proofs.Common.{◌≡◌, ◌++◌, option_map, option_copied}
use Rattle.aw_spelling.proofs.Cuts.{bytes_left}
use Rattle.aw_grammar.specs.GrammarOf.{words_of}
use Rattle.aw_base.specs.NodeReading.{steps_behind}
use Rattle.aw_base.proofs.read_node.named_steps.Given as goal

abbrev pub invariant-loop-rest : goal.invariant-loop-rest
invariant-loop-rest l =
    option_map (λ more. l.found.items ++ more) (steps_behind (words_of l.g) (option_copied l.rest)) ≡ steps_behind (words_of l.g) (option_copied l.fn.steps)

abbrev pub decreases-loop-rest : goal.decreases-loop-rest
decreases-loop-rest l = bytes_left (option_copied l.rest)
