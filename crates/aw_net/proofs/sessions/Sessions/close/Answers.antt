use Rattle.std.proofs.Common.{sym, ◌∙◌}
use Rattle.aw_net.proofs.SessionLemmas.{roomy-close}
use Rattle.aw_net.proofs.sessions.Sessions.close.Goals as goal

pub invariant_of-self : goal.invariant_of-self
invariant_of-self c = rw (c.keep.ensures.items, c.take.ensures.after) (roomy-close c.self.inside.ended.items c.self.inside.current c.in-Some.passed
    c.self.inside.written.items _ _ _ _ _ (sym c.take.ensures.value ∙ c.in-Some.is) c.keep.ensures.capacity c.self.invariant)
