use Rattle.aw_check_text.proofs.PairLemmas.{tells, tells_some}
use Rattle.aw_check_text.proofs.pairs.accepted_text.Goals as goal

pub returns-clause-tells : goal.returns-clause-tells
returns-clause-tells c =
    tells_some c.text_of.result c.args.accepted.now.grammar c.args.accepted.now.io c.grammar.result.now c.io.result.now c.args.accepted.now.exact
    c.grammar.ensures.value c.io.ensures.value c.text_of.ensures

pub returns-clause-over : goal.returns-clause-over
returns-clause-over c same = tells c.text_of.result c.args.accepted.now.grammar c.args.accepted.now.io c.grammar.result.now c.io.result.now same
    c.grammar.ensures.value c.io.ensures.value c.text_of.ensures
