use Rattle.std.proofs.Common.{ap, ◌∙◌}
use Rattle.aw_term.proofs.ViewLemmas.{term_con}
use Rattle.aw_term.specs.Views.{term_of}
use Rattle.aw_courier.proofs.SizeLemmas.{made_sized}
use Rattle.aw_courier.proofs.sizes.+terms.Goals as goal

pub see_term-returns-in-Con : goal.see_term-returns-in-Con
see_term-returns-in-Con t c = made_sized term_of _ _ _ (ap term_of c.in-Con.is ∙ term_con c.in-Con.con c.in-Con.parts) c.see_con.ensures c.see_terms.ensures
