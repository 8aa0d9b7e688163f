use Rattle.std.proofs.Common.{◌∙◌, rules}
use Rattle.aw_world.proofs.Printers.{nothing_printed}
use Rattle.aw_world.proofs.listing.print_all.Goals as goal

pub returns-in_err-printers : goal.returns-in_err-printers
returns-in_err-printers g c = λ v shown rows read. nothing_printed _ _ c.from_residual.result (search rules)

pub print_each-requires-clause-named : goal.print_each-requires-clause-named
print_each-requires-clause-named g c = c.new-names.ensures ∙ c.grammar.ensures.value

pub print_each-requires-clause-ready : goal.print_each-requires-clause-ready
print_each-requires-clause-ready g c = c.in_ok-printers.ensures c.args.accepted.now.grammar c.args.report.now
