use Rattle.aw_grammar.specs.GrammarOf.{grammar_of, words_of}
use Rattle.aw_base.proofs.node_reader.ReadName.follow.Goals as goal

pub returns-in_err-turn_to-clause-read : goal.returns-in_err-turn_to-clause-read
returns-in_err-turn_to-clause-read c = c.turn_to.ensures.read (words_of c.args.g.now) (grammar_of c.args.g.now) c.requires

pub stand-requires-clause-read : goal.stand-requires-clause-read
stand-requires-clause-read c = c.turn_to.ensures.read (words_of c.args.g.now) (grammar_of c.args.g.now) c.requires

pub stand-requires-clause-last : goal.stand-requires-clause-last
stand-requires-clause-last c = c.in_ok-turn_to.ensures.stands (words_of c.args.g.now) (grammar_of c.args.g.now) c.requires
