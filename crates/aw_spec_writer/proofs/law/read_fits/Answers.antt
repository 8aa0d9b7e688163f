use Rattle.aw_spec_writer.proofs.ReadFaces.{read_fits}
use Rattle.aw_spec_writer.proofs.law.read_fits.Goals as goal

pub returns : goal.returns
returns c = read_fits
