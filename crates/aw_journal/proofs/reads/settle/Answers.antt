use Rattle.aw_journal.proofs.Quiets.{quiet_none, quiet_more}
use Rattle.aw_journal.proofs.reads.settle.Goals as goal

pub returns-clause-quiet : goal.returns-clause-quiet
returns-clause-quiet g c =
    let D = g.D.Disk in
    quiet_more D.tells D.seen D.may_leave D.moment D.left_since g.met.D.Disk.counts_now g.met.D.Disk.only_now c.args.disk.now c.args.disk.now c.sync.new.self
    (quiet_none D.tells D.seen D.may_leave D.moment D.left_since g.met.D.Disk.counts_now g.met.D.Disk.only_now c.args.disk.now) c.sync.ensures.tells
    c.sync.ensures.seen c.sync.ensures.crash c.sync.ensures.time
