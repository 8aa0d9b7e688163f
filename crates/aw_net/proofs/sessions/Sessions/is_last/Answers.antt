use Rattle.std.proofs.Common.{reverse, ap}
use Rattle.aw_net.proofs.SessionLemmas.{reverse-nil}
use Rattle.aw_net.proofs.sessions.Sessions.is_last.Goals as goal

pub returns : goal.returns
returns c = rw (← c.self.view_is) (λ t. ap reverse (c.is_empty.ensures.0 t), λ e. c.is_empty.ensures.1 (reverse-nil c.self.inside.coming e))
