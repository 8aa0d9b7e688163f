use Rattle.aw_grammar.specs.Written.{rule_of_raw}
use Rattle.aw_grammar.specs.Kinds.{term_tests}
use Rattle.aw_grammar.specs.GrammarOf.{declarations_of}
use Rattle.aw_grammar.proofs.RuleTold.{told_before, told_last}
use Rattle.aw_grammar.proofs.rule_kinds.late_kind.Goals as goal

pub returns-in-Some : goal.returns-in-Some
returns-in-Some c = told_before (term_tests (declarations_of c.args.grammar.now) (rule_of_raw c.args.rule.now)) c.args.last c.in-Some.kind c.in-Some.ensures

pub returns-in-None : goal.returns-in-None
returns-in-None c = told_last (term_tests (declarations_of c.args.grammar.now) (rule_of_raw c.args.rule.now)) c.args.last c.in-None.ensures
