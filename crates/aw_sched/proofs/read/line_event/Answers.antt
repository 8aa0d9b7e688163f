use Rattle.aw_grammar.specs.GrammarOf.{grammar_of}
use Rattle.aw_sched.proofs.read.line_event.Goals as goal

pub returns-in-Some-clause-fits : goal.returns-in-Some-clause-fits
returns-in-Some-clause-fits c = c.in-Some.ensures.fits (grammar_of c.args.g.now)
