use Rattle.std.proofs.Common.{rules}
use Rattle.aw_grammar.specs.GrammarOf.{grammar_of, words_of}
use Rattle.aw_trial.proofs.Ends.{no_memory, tried_there}
use Rattle.aw_trial.proofs.trials.try_once.Goals as goal

pub returns-in_err-accepted : goal.returns-in_err-accepted
returns-in_err-accepted c = no_memory _ _ (search rules)

pub returns : goal.returns
returns c =
    let g = c.in_ok-accepted.accepted.grammar in
    tried_there (words_of g) (grammar_of g) 2000 c.args.n c.trial_in.result c.in_ok-accepted.ensures.words c.in_ok-accepted.ensures.grammar c.trial_in.ensures
