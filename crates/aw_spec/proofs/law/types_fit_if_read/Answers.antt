use Rattle.aw_spec.proofs.KeptTypes.{reading_fits}
use Rattle.aw_spec.proofs.law.types_fit_if_read.Goals as goal

pub returns : goal.returns
returns c = reading_fits
