use Rattle.std.proofs.Common.{rules}
use Rattle.aw_site_repeat.proofs.HeldTests.{held_view}
use Rattle.aw_site_repeat.proofs.known.is_held.Goals as goal

pub returns : goal.returns
returns c = λ h. rw (← held_view h c.args.node.now c.args.held.now.items, ← c.find_held.ensures.place) (search rules)
