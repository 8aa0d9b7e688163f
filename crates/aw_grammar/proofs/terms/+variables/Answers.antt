use Rattle.aw_grammar.proofs.TermLemmas.{pushed_apply}
use Rattle.aw_grammar.proofs.terms.+variables.Goals as goal

pub push_variables-returns-in-Apply : goal.push_variables-returns-in-Apply
push_variables-returns-in-Apply t c =
    pushed_apply c.args.cons.now c.args.term.now c.in-Apply.field-0 c.in-Apply.parts c.in-Apply.is c.args.names.now c.push_all_variables.new.names
    c.push_all_variables.result c.push_all_variables.ensures
