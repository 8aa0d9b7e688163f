use Rattle.std.proofs.Common.{◌∙◌, sym, ap}
use Rattle.aw_spelling.proofs.Cuts.{split_after, split_by_cut}
use Rattle.aw_spelling.proofs.node_name.first_part.Goals as goal

pub returns-in-Some-clause-value : goal.returns-in-Some-clause-value
returns-in-Some-clause-value c = split_by_cut 47 c.args.bytes.now ∙ ap (split_after 47 c.args.bytes.now) (sym c.in-Some.ensures.value)

pub returns-in-None-clause-value : goal.returns-in-None-clause-value
returns-in-None-clause-value c = split_by_cut 47 c.args.bytes.now ∙ ap (split_after 47 c.args.bytes.now) (sym c.in-None.ensures.value)
