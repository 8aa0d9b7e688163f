use Rattle.aw_journal.proofs.Openings.{reopens_then}
use Rattle.aw_journal.proofs.journal.read_and_open.Goals as goal

pub returns-clause-opens : goal.returns-clause-opens
returns-clause-opens g c =
    let D = g.D.Disk in
    let L = g.met.D.Disk in
    let h = c.in_ok-reader.ensures.only in
    reopens_then D L.reads_an_outcome L.counts_now L.only_now c.args.role c.args.text.now c.args.limit c.args.disk.now c.begin.new.disk
    c.open_file.new.disk c.open_file.result h.quiet h.kept c.open_file.ensures.opens
