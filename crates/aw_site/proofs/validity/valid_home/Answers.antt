use Rattle.std.proofs.Common.{ap, sym}
use Rattle.std.specs.Option.{unwrap_or}
use Rattle.aw_site.proofs.validity.valid_home.Goals as goal

pub returns : goal.returns
returns c = sym (ap (λ o. unwrap_or o 0) c.home_of_valid.ensures)
