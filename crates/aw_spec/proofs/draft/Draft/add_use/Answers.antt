use Rattle.std.proofs.Common.{rules}
use Rattle.aw_spec.specs.LineAnswers.{spec_so_far}
use Rattle.aw_spec.proofs.Tested.{use_by}
use Rattle.aw_spec.proofs.draft.Draft.add_use.Goals as goal

pub returns : goal.returns
returns c = rw (use_by (spec_so_far c.args.self.now) c.args.role c.args.sort) (search rules)
