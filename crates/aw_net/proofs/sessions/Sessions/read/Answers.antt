use Rattle.std.proofs.Common.{◌≡◌, Some, sym}
use Rattle.aw_net.proofs.SessionLemmas.{left-open, shows-read}
use Rattle.aw_net.proofs.sessions.Sessions.read.Goals as goal

pub returns-clause-answer : goal.returns-clause-answer
returns-clause-answer c =
    let cur : c.self.inside.current ≡ Some c.unwrap.result.now = sym (rw c.unwrap.ensures at c.as_mut.ensures.value) in
    let left = left-open c.self.inside.coming c.self.inside.ended.items c.self.inside.current c.unwrap.result.now c.self.inside.written.items c.self.inside.room c.self.inside.most cur in
    rw (← c.self.view_is, left) c.read_front.ensures.answer

pub returns-clause-bytes : goal.returns-clause-bytes
returns-clause-bytes c =
    let cur : c.self.inside.current ≡ Some c.unwrap.result.now = sym (rw c.unwrap.ensures at c.as_mut.ensures.value) in
    let left = left-open c.self.inside.coming c.self.inside.ended.items c.self.inside.current c.unwrap.result.now c.self.inside.written.items c.self.inside.room c.self.inside.most cur in
    rw (← c.self.view_is, left) c.read_front.ensures.bytes

pub returns-clause-left : goal.returns-clause-left
returns-clause-left c =
    let cur : c.self.inside.current ≡ Some c.unwrap.result.now = sym (rw c.unwrap.ensures at c.as_mut.ensures.value) in
    rw (← c.self.view_is) (shows-read c.self.inside.coming c.self.inside.ended.items c.self.inside.current c.unwrap.result.now c.read_front.new.passed
    c.self.inside.written.items c.self.inside.room c.self.inside.most c.read_front.result cur c.read_front.ensures.fits c.read_front.ensures.moved)
