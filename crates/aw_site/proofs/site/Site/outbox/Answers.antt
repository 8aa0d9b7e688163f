use Rattle.std.proofs.Common.{sym, subst}
use Rattle.aw_term.specs.WellFormed.{Each}
use Rattle.aw_msg.specs.Messages.{MessageInRange}
use Rattle.aw_site.proofs.InRange.{all_in_range}
use Rattle.aw_site.proofs.site.Site.outbox.Goals as goal

pub returns-clause-range : goal.returns-clause-range
returns-clause-range g c =
    let site = c.args.self.now in
    subst (Each MessageInRange) (sym c.as_slice.ensures.value) (all_in_range site.space.accepted.now.grammar site.outbox.items site.sendable site.short)
