use Rattle.aw_journal.proofs.Openings.{opened_events, opened_fault, opened_foreign, opened_full, opened_kept, opened_made, opened_own, opened_place, opened_quiet, opened_settled}
use Rattle.aw_journal.proofs.journal.Journal.reopen.Goals as goal

pub returns-clause-ok : goal.returns-clause-ok
returns-clause-ok g c =
    let D = g.D.Disk in
    let L = g.met.D.Disk in
    opened_events D L.reads_an_outcome L.counts_now L.only_now c.args.role c.args.text.now c.args.limit c.args.disk.now c.open_journal.new.disk c.open_journal.result c.open_journal.ensures.opens

pub returns-clause-made : goal.returns-clause-made
returns-clause-made g c =
    let D = g.D.Disk in
    let L = g.met.D.Disk in
    opened_made D L.reads_an_outcome L.counts_now L.only_now c.args.role c.args.text.now c.args.limit c.args.disk.now c.open_journal.new.disk c.open_journal.result c.open_journal.ensures.opens

pub returns-clause-settled : goal.returns-clause-settled
returns-clause-settled g c =
    let D = g.D.Disk in
    let L = g.met.D.Disk in
    opened_settled D L.reads_an_outcome L.counts_now L.only_now c.args.role c.args.text.now c.args.limit c.args.disk.now c.open_journal.new.disk c.open_journal.result c.open_journal.ensures.opens

pub returns-clause-good_head : goal.returns-clause-good_head
returns-clause-good_head g c =
    let D = g.D.Disk in
    let L = g.met.D.Disk in
    opened_own D L.reads_an_outcome L.counts_now L.only_now c.args.role c.args.text.now c.args.limit c.args.disk.now c.open_journal.new.disk c.open_journal.result c.open_journal.ensures.opens

pub returns-clause-not_full : goal.returns-clause-not_full
returns-clause-not_full g c =
    let D = g.D.Disk in
    let L = g.met.D.Disk in
    opened_place D L.reads_an_outcome L.counts_now L.only_now c.args.role c.args.text.now c.args.limit c.args.disk.now c.open_journal.new.disk c.open_journal.result c.open_journal.ensures.opens

pub returns-clause-bad_head : goal.returns-clause-bad_head
returns-clause-bad_head g c =
    let D = g.D.Disk in
    let L = g.met.D.Disk in
    opened_foreign D L.reads_an_outcome L.counts_now L.only_now c.args.role c.args.text.now c.args.limit c.args.disk.now c.open_journal.new.disk c.open_journal.result c.open_journal.ensures.opens

pub returns-clause-full : goal.returns-clause-full
returns-clause-full g c =
    let D = g.D.Disk in
    let L = g.met.D.Disk in
    opened_full D L.reads_an_outcome L.counts_now L.only_now c.args.role c.args.text.now c.args.limit c.args.disk.now c.open_journal.new.disk c.open_journal.result c.open_journal.ensures.opens

pub returns-clause-fault : goal.returns-clause-fault
returns-clause-fault g c =
    let D = g.D.Disk in
    let L = g.met.D.Disk in
    opened_fault D L.reads_an_outcome L.counts_now L.only_now c.args.role c.args.text.now c.args.limit c.args.disk.now c.open_journal.new.disk c.open_journal.result c.open_journal.ensures.opens

pub returns-clause-kept : goal.returns-clause-kept
returns-clause-kept g c =
    let D = g.D.Disk in
    let L = g.met.D.Disk in
    opened_kept D L.reads_an_outcome L.counts_now L.only_now c.args.role c.args.text.now c.args.limit c.args.disk.now c.open_journal.new.disk c.open_journal.result c.open_journal.ensures.opens

pub returns-clause-any_moment : goal.returns-clause-any_moment
returns-clause-any_moment g c = c.open_journal.ensures.keeps.any_moment

pub returns-clause-untouched : goal.returns-clause-untouched
returns-clause-untouched g c =
    let D = g.D.Disk in
    let L = g.met.D.Disk in
    opened_quiet D L.reads_an_outcome L.counts_now L.only_now c.args.role c.args.text.now c.args.limit c.args.disk.now c.open_journal.new.disk c.open_journal.result c.open_journal.ensures.opens

pub returns-clause-first_sync : goal.returns-clause-first_sync
returns-clause-first_sync g c = c.open_journal.ensures.keeps.first_sync

pub returns-clause-images : goal.returns-clause-images
returns-clause-images g c = c.open_journal.ensures.keeps.images

pub returns-clause-reads_same : goal.returns-clause-reads_same
returns-clause-reads_same g c = c.open_journal.ensures.keeps.reads_same

pub returns-clause-tells : goal.returns-clause-tells
returns-clause-tells g c = c.open_journal.ensures.keeps.told_same

pub returns-clause-never_falls : goal.returns-clause-never_falls
returns-clause-never_falls g c = c.open_journal.ensures.keeps.never_falls
