use Rattle.std.proofs.Common.{refl}
use Rattle.aw_journal.proofs.Openings.{keeps_file, reopens_then}
use Rattle.aw_journal.proofs.journal.open_journal.Goals as goal

pub returns-in-Done-clause-keeps : goal.returns-in-Done-clause-keeps
returns-in-Done-clause-keeps g c =
    let D = g.D.Disk in
    let L = g.met.D.Disk in
    keeps_file D L.reads_an_outcome L.counts_now L.only_now c.args.role c.args.text.now c.args.disk.now c.settle.new.disk c.read_and_open.new.disk
    c.in-Done.ensures.quiet (c.in-Done.ensures.durable refl) c.read_and_open.ensures.keeps c.in-Done.ensures.never_falls

pub returns-in-Done-clause-opens : goal.returns-in-Done-clause-opens
returns-in-Done-clause-opens g c =
    let D = g.D.Disk in
    let L = g.met.D.Disk in
    reopens_then D L.reads_an_outcome L.counts_now L.only_now c.args.role c.args.text.now c.args.limit c.args.disk.now c.settle.new.disk
    c.read_and_open.new.disk c.read_and_open.result c.in-Done.ensures.quiet (c.in-Done.ensures.kept (λ e. cc)) c.read_and_open.ensures.opens
