use Rattle.std.proofs.Common.{◌∷◌}
use Rattle.aw_sched.proofs.ReadArguments.{text_read}
use Rattle.aw_sched.proofs.known.text_argument.Goals as goal

pub returns : goal.returns
returns c cons depth room left some e = text_read cons depth room left c.in_ok-text.text (34 ∷ c.args.inside.now) c.in_ok-text.rest.now some e c.in_ok-text.ensures
