use Rattle.aw_grammar.proofs.Entries.{declared_grammar, declared_words}
use Rattle.aw_spec.proofs.read.text_of.Goals as goal

pub returns-clause-grammar : goal.returns-clause-grammar
returns-clause-grammar c = declared_grammar c.args.draft.grammar

pub returns-clause-words : goal.returns-clause-words
returns-clause-words c = declared_words c.args.draft.grammar
