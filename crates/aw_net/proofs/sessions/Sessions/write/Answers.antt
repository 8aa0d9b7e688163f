use Rattle.std.proofs.Common.{◌≡◌, ◌≤◌, length, Some, sym}
use Rattle.aw_net.proofs.SessionLemmas.{shows-write, roomy-write}
use Rattle.aw_net.proofs.sessions.Sessions.write.Goals as goal

pub invariant_of-self : goal.invariant_of-self
invariant_of-self c =
    let cur : c.self.inside.current ≡ Some c.unwrap.result.now = sym (rw c.unwrap.ensures at c.as_mut.ensures.value) in
    let fits : length c.args.bytes.now ≤ c.self.inside.room = rw (← c.self.view_is) at c.requires.room in
    rw (c.extend-to.ensures.items, c.extend-to.ensures.end) (roomy-write c.self.inside.ended.items c.self.inside.current c.unwrap.result.now
    c.self.inside.written.items c.args.bytes.now _ _ _ _ _ cur fits c.extend-to.ensures.capacity c.self.invariant)

pub returns : goal.returns
returns c =
    let cur : c.self.inside.current ≡ Some c.unwrap.result.now = sym (rw c.unwrap.ensures at c.as_mut.ensures.value) in
    rw (c.extend-to.ensures.items, c.extend-to.ensures.end, ← c.self.view_is) (shows-write c.self.inside.coming c.self.inside.ended.items
    c.self.inside.current c.unwrap.result.now c.self.inside.written.items c.args.bytes.now c.self.inside.room c.self.inside.most cur
    c.self.invariant.within c.self.invariant.last)
