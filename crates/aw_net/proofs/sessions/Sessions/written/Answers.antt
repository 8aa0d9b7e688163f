use Rattle.aw_net.proofs.SessionLemmas.{all-within, within-at, written-at}
use Rattle.aw_net.proofs.sessions.Sessions.written.Goals as goal

pub part_of-requires : goal.part_of-requires
part_of-requires c =
    let all = all-within c.self.inside.ended.items c.self.inside.current c.self.inside.written.items c.self.invariant.within c.self.invariant.last in
    let w = within-at _ c.self.inside.written.items c.args.number c.passed_at-passed.result.now all c.passed_at-passed.ensures in
    rw c.deref.ensures.value (record { order = w.order; within = w.written })

pub returns : goal.returns
returns c = rw (← c.self.view_is, c.part_of.ensures, c.deref.ensures.value) (written-at _ c.self.inside.written.items c.args.number c.passed_at-passed.result.now c.passed_at-passed.ensures)
