use Rattle.std.proofs.Common.{length, inl, inr, refl}
use Rattle.aw_journal.specs.Journal.{IsAround, behind_gate}
use Rattle.aw_journal.proofs.Moments.{weaker, runs_on}
use Rattle.aw_journal.proofs.Gates.{staged, staged_outcome, gate_outcome, opened_gate}
use Rattle.aw_journal.proofs.putting.put_record.Goals as goal

pub returns-in-Failed-clause-any_moment : goal.returns-in-Failed-clause-any_moment
returns-in-Failed-clause-any_moment g c before rest shut stands =
    weaker g.D.Disk.moment g.D.Disk.left_since c.args.disk.now c.write_synced.new.disk _ (IsAround before shut (behind_gate c.args.b.now rest)) c.write_synced.ensures.any_moment
    (λ f left. inl (staged_outcome g.D.Disk.tells g.D.Disk.seen g.D.Disk.may_leave c.args.disk.now c.args.gate (length c.args.b.now) before rest shut stands f left))

pub returns-in-Done-clause-any_moment : goal.returns-in-Done-clause-any_moment
returns-in-Done-clause-any_moment g c before rest shut stands =
    let P = IsAround before shut (behind_gate c.args.b.now rest) in
    let first = weaker g.D.Disk.moment g.D.Disk.left_since c.args.disk.now c.write_synced.new.disk _ P c.write_synced.ensures.any_moment
    (λ f left. inl (staged_outcome g.D.Disk.tells g.D.Disk.seen g.D.Disk.may_leave c.args.disk.now c.args.gate (length c.args.b.now) before rest shut stands f left)) in
    let mid = staged g.D.Disk.tells g.D.Disk.seen g.D.Disk.may_leave c.args.disk.now c.write_synced.new.disk c.args.gate before rest c.args.b.now shut
    stands c.write_synced.ensures.tells (c.in-Done.ensures.done refl stands.told) (c.in-Done.ensures.durable refl stands.told) in
    runs_on g.D.Disk.moment g.D.Disk.left_since c.args.disk.now c.write_synced.new.disk c.write_synced-in-Done.new.disk P _ first c.write_synced-in-Done.ensures.any_moment
    (λ f left. inr (gate_outcome g.D.Disk.tells g.D.Disk.seen g.D.Disk.may_leave c.write_synced.new.disk c.args.gate before (behind_gate c.args.b.now rest) shut mid f left))

pub returns-in-Done-clause-done : goal.returns-in-Done-clause-done
returns-in-Done-clause-done g c done before rest shut stands =
    let mid = staged g.D.Disk.tells g.D.Disk.seen g.D.Disk.may_leave c.args.disk.now c.write_synced.new.disk c.args.gate before rest c.args.b.now shut
    stands c.write_synced.ensures.tells (c.in-Done.ensures.done refl stands.told) (c.in-Done.ensures.durable refl stands.told) in
    opened_gate g.D.Disk.tells g.D.Disk.seen g.D.Disk.may_leave c.write_synced.new.disk c.write_synced-in-Done.new.disk c.args.gate before
    (behind_gate c.args.b.now rest) shut 1 mid c.write_synced-in-Done.ensures.tells (c.write_synced-in-Done.ensures.done done mid.told)
    (c.write_synced-in-Done.ensures.durable done mid.told)
