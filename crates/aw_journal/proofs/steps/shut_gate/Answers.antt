use Rattle.std.proofs.Common.{inl, inr, refl, ◌∙◌}
use Rattle.aw_journal.specs.Opens.{IsShut}
use Rattle.aw_journal.proofs.Moments.{started, goes_on}
use Rattle.aw_journal.proofs.Gates.{gate_outcome}
use Rattle.aw_journal.proofs.steps.shut_gate.Goals as goal

pub returns-then-is_open-clause-crash : goal.returns-then-is_open-clause-crash
returns-then-is_open-clause-crash g c before rest gate stands f left =
    let out = gate_outcome g.D.Disk.tells g.D.Disk.seen g.D.Disk.may_leave c.args.disk.now c.args.place before rest gate stands f (c.write_at.ensures.crash f left) in
    (out.0, out.1, inr c.if-is_open.true)

pub returns-then-is_open-clause-any_moment : goal.returns-then-is_open-clause-any_moment
returns-then-is_open-clause-any_moment g c before rest gate stands =
    let old = c.args.disk.now in
    let P = IsShut before rest gate c.args.is_open in
    let begun = started g.D.Disk.moment g.D.Disk.left_since old P (λ f left. (gate, stands.durable f (g.met.D.Disk.only_now old f left) ∙ stands.is, inl refl)) in
    goes_on g.D.Disk.moment g.D.Disk.left_since old old c.write_at.new.self P _ begun c.write_at.ensures.time
    (g.met.D.Disk.counts_now c.write_at.new.self) (λ f now. returns-then-is_open-clause-crash g c before rest gate stands f now)
