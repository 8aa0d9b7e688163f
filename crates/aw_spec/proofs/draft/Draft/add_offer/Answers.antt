use Rattle.std.proofs.Common.{rules}
use Rattle.aw_spec.specs.LineAnswers.{spec_so_far}
use Rattle.aw_spec.proofs.Tested.{offer_by}
use Rattle.aw_spec.proofs.draft.Draft.add_offer.Goals as goal

pub returns : goal.returns
returns c = rw (offer_by (spec_so_far c.args.self.now) c.args.sort) (search rules)
