use Rattle.std.proofs.Common.{rules, sym, subst, false}
use Rattle.aw_accept.specs.declared.accepted.Accepted.{Accepted}
use Rattle.aw_grammar.specs.GrammarOf.{grammar_of, words_of}
use Rattle.aw_law_sites.specs.Worlds.{empty_world}
use Rattle.aw_world.specs.Shown.{Shows}
use Rattle.aw_trial.specs.Counts.{trial_in}
use Rattle.aw_trial.specs.Told.{Tells}
use Rattle.aw_trial.proofs.Ends.{no_memory}
use Rattle.aw_trial.proofs.trials.trial_in.Goals as goal

pub returns-in_err-world : goal.returns-in_err-world
returns-in_err-world c = no_memory _ _ (search rules)

pub try_in-requires-clause-empty : goal.try_in-requires-clause-empty
try_in-requires-clause-empty c = subst (λ (a : Accepted). Shows _ c.in_ok-world.world (empty_world (grammar_of a.grammar) false)) (sym c.in_ok-world.ensures.accepted) c.in_ok-world.ensures.empty

pub returns : goal.returns
returns c = subst (λ (a : Accepted). Tells (trial_in (words_of a.grammar) (grammar_of a.grammar) 2000 c.args.n) c.try_in.result) c.in_ok-world.ensures.accepted c.try_in.ensures
