use Rattle.aw_law_nodes.proofs.Mail.{given}
use Rattle.aw_law_journals.proofs.Circles.{stops_at_forgery_or_circle}
use Rattle.aw_law_journals.proofs.laws.circle_law.Goals as goal

pub returns : goal.returns
returns c = record {
  stops = λ words t g a.
      stops_at_forgery_or_circle t g (given g (c.world_laws.ensures.invariant words g a) (c.world_laws.ensures.knowledge words g a)
      (c.world_laws.ensures.homes words g a)) (c.site_laws.ensures.fold g);
}
