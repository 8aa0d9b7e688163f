use Rattle.aw_grammar.specs.GrammarOf.{grammar_of}
use Rattle.aw_modular.specs.Exceeding.{IsLoose}
use Rattle.aw_modular.specs.Refusals.{IsExcess}
use Rattle.aw_modular.proofs.Excesses.{least_same}
use Rattle.aw_modular.proofs.Yeses.{loose_is_excess, excess_is_loose}
use Rattle.aw_modular.proofs.role.excess.Goals as goal

pub returns : goal.returns
returns c =
    let p = c.args.part.now in
    let all = c.in_ok-all.all in
    least_same (IsLoose p all c.args.found.now) (IsExcess p.faces.offers c.args.declared.now p.role (grammar_of p.grammar)) c.first_excess.result
    (loose_is_excess p c.args.declared.now all c.args.found.now c.in_ok-all.ensures c.requires.known)
    (excess_is_loose p c.args.declared.now all c.args.found.now c.in_ok-all.ensures c.requires.known) c.first_excess.ensures
