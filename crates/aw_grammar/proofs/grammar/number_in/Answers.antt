use Rattle.std.proofs.Common.{◌∙◌}
use Rattle.aw_grammar.proofs.Numbers.{number_is_place}
use Rattle.aw_grammar.proofs.grammar.number_in.Goals as goal

pub returns : goal.returns
returns c = c.in_ok-place.ensures.place ∙ number_is_place c.args.index.now c.args.name.now

pub returns-in_err-place : goal.returns-in_err-place
returns-in_err-place c = c.from_residual.ensures ∙ c.in_err-place.ensures.place ∙ number_is_place c.args.index.now c.args.name.now
