use Rattle.aw_journal.proofs.Openings.{keeps_then, reopens_then}
use Rattle.aw_journal.proofs.journal.open_file.Goals as goal

pub returns-then-stands-clause-keeps : goal.returns-then-stands-clause-keeps
returns-then-stands-clause-keeps g c =
    let D = g.D.Disk in
    let L = g.met.D.Disk in
    let h = c.in_ok-ask.ensures.only in
    keeps_then D L.reads_an_outcome L.counts_now L.only_now c.args.role c.args.text.now c.args.disk.now c.ask.new.disk h.quiet h.never_falls c.requires.durable c.resume.new.disk c.resume.ensures.keeps

pub returns-then-stands-clause-opens : goal.returns-then-stands-clause-opens
returns-then-stands-clause-opens g c =
    let D = g.D.Disk in
    let L = g.met.D.Disk in
    let h = c.in_ok-ask.ensures.only in
    reopens_then D L.reads_an_outcome L.counts_now L.only_now c.args.role c.args.text.now c.args.limit c.args.disk.now c.ask.new.disk
    c.resume.new.disk c.resume.result h.quiet h.kept c.resume.ensures.opens
