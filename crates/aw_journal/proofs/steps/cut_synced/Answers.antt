use Rattle.aw_disk.proofs.Untold.{cut_same}
use Rattle.aw_journal.specs.Opens.{AfterCut}
use Rattle.aw_journal.proofs.Moments.{started, goes_on}
use Rattle.aw_journal.proofs.steps.cut_synced.Goals as goal

pub returns-in-Failed-clause-any_moment : goal.returns-in-Failed-clause-any_moment
returns-in-Failed-clause-any_moment g c =
    let old = c.args.disk.now in
    let P = AfterCut c.args.len (g.D.Disk.may_leave old) in
    let begun = started g.D.Disk.moment g.D.Disk.left_since old P (λ f left. (f, g.met.D.Disk.only_now old f left, cut_same c.args.len f)) in
    goes_on g.D.Disk.moment g.D.Disk.left_since old old c.cut.new.self P _ begun c.cut.ensures.time (g.met.D.Disk.counts_now c.cut.new.self) c.cut.ensures.crash

pub returns-in-Done-clause-any_moment : goal.returns-in-Done-clause-any_moment
returns-in-Done-clause-any_moment g c =
    let old = c.args.disk.now in
    let P = AfterCut c.args.len (g.D.Disk.may_leave old) in
    let begun = started g.D.Disk.moment g.D.Disk.left_since old P (λ f left. (f, g.met.D.Disk.only_now old f left, cut_same c.args.len f)) in
    let cut = goes_on g.D.Disk.moment g.D.Disk.left_since old old c.cut.new.self P _ begun c.cut.ensures.time (g.met.D.Disk.counts_now c.cut.new.self) c.cut.ensures.crash in
    goes_on g.D.Disk.moment g.D.Disk.left_since old c.cut.new.self c.sync.new.self P _ cut c.sync.ensures.time
    (g.met.D.Disk.counts_now c.sync.new.self) (λ f now. c.cut.ensures.crash f (c.sync.ensures.crash f now))
