use Rattle.std.proofs.Common.{length}
use Rattle.aw_disk.proofs.Untold.{torn_same}
use Rattle.aw_journal.specs.Journal.{AfterTorn}
use Rattle.aw_journal.proofs.Moments.{started, goes_on}
use Rattle.aw_journal.proofs.steps.write_synced.Goals as goal

pub returns-in-Failed-clause-any_moment : goal.returns-in-Failed-clause-any_moment
returns-in-Failed-clause-any_moment g c =
    let old = c.args.disk.now in
    let P = AfterTorn c.args.at (length c.args.b.now) (g.D.Disk.may_leave old) in
    let begun = started g.D.Disk.moment g.D.Disk.left_since old P (λ f left. (f, g.met.D.Disk.only_now old f left, torn_same c.args.at (length c.args.b.now) f)) in
    goes_on g.D.Disk.moment g.D.Disk.left_since old old c.write_at.new.self P _ begun c.write_at.ensures.time (g.met.D.Disk.counts_now c.write_at.new.self) c.write_at.ensures.crash

pub returns-in-Done-clause-any_moment : goal.returns-in-Done-clause-any_moment
returns-in-Done-clause-any_moment g c =
    let old = c.args.disk.now in
    let P = AfterTorn c.args.at (length c.args.b.now) (g.D.Disk.may_leave old) in
    let begun = started g.D.Disk.moment g.D.Disk.left_since old P (λ f left. (f, g.met.D.Disk.only_now old f left, torn_same c.args.at (length c.args.b.now) f)) in
    let write = goes_on g.D.Disk.moment g.D.Disk.left_since old old c.write_at.new.self P _ begun c.write_at.ensures.time (g.met.D.Disk.counts_now c.write_at.new.self) c.write_at.ensures.crash in
    goes_on g.D.Disk.moment g.D.Disk.left_since old c.write_at.new.self c.sync.new.self P _ write c.sync.ensures.time
    (g.met.D.Disk.counts_now c.sync.new.self) (λ f now. c.write_at.ensures.crash f (c.sync.ensures.crash f now))
