use Rattle.std.proofs.Common.{◌≡◌, Some, sym}
use Rattle.aw_net.proofs.SessionLemmas.{shows-fault}
use Rattle.aw_net.proofs.sessions.Sessions.fail.Goals as goal

pub returns : goal.returns
returns c =
    let cur : c.self.inside.current ≡ Some c.unwrap.result.now = sym (rw c.unwrap.ensures at c.as_mut.ensures.value) in
    rw (← c.self.view_is) (shows-fault c.self.inside.coming c.self.inside.ended.items c.self.inside.current c.unwrap.result.now c.self.inside.written.items c.self.inside.room c.self.inside.most cur)
