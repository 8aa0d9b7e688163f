use Rattle.aw_grammar.specs.GrammarOf.{grammar_of, words_of}
use Rattle.aw_base.proofs.node_reader.ReadName.read_step.Goals as goal

pub returns-in_err-add-in-Some-clause-read : goal.returns-in_err-add-in-Some-clause-read
returns-in_err-add-in-Some-clause-read c =
    c.add.ensures.read (words_of c.args.g.now) (grammar_of c.args.g.now) c.args.last c.requires.read c.requires.stands (rw (← c.deref.ensures.value) c.in-Some.ensures)

pub returns-in_ok-add-in-Some-clause-read : goal.returns-in_ok-add-in-Some-clause-read
returns-in_ok-add-in-Some-clause-read c =
    c.add.ensures.read (words_of c.args.g.now) (grammar_of c.args.g.now) c.args.last c.requires.read c.requires.stands (rw (← c.deref.ensures.value) c.in-Some.ensures)

pub returns-in_ok-add-in-Some-clause-stands : goal.returns-in_ok-add-in-Some-clause-stands
returns-in_ok-add-in-Some-clause-stands c =
    c.in_ok-add-in-Some.ensures.stands (words_of c.args.g.now) (grammar_of c.args.g.now) c.args.last c.requires.read c.requires.stands (rw (← c.deref.ensures.value) c.in-Some.ensures)
