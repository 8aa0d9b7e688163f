use Rattle.std.proofs.Common.{ℕ, List, refl, sym, ◌∙◌, ap, subst, arith}
use Rattle.std.specs.Prelude.{◌+◌, IsTrue, take, if◌then◌else◌}
use Rattle.aw_journal.specs.Opens.{IsEnded}
use Rattle.aw_journal.proofs.Moments.{weaker, runs_on}
use Rattle.aw_journal.proofs.Ends.{ended, shut_ended, cut_done}
use Rattle.aw_journal.proofs.steps.end_at.Goals as goal

pub cut_synced-requires : goal.cut_synced-requires
cut_synced-requires g c told =
    let told_first = subst IsTrue c.shut_gate.ensures.tells told in
    omega (arith, c.requires.within told_first, c.shut_gate.ensures.no_shorter told_first)

pub returns-in-Failed-clause-any_moment : goal.returns-in-Failed-clause-any_moment
returns-in-Failed-clause-any_moment g c before rest gate stands =
    weaker g.D.Disk.moment g.D.Disk.left_since c.args.disk.now c.shut_gate.new.disk _ (IsEnded before rest gate c.args.is_open)
    (c.shut_gate.ensures.any_moment before rest gate stands) (shut_ended before rest gate c.args.is_open)

pub returns-in-Done-clause-any_moment : goal.returns-in-Done-clause-any_moment
returns-in-Done-clause-any_moment g c before rest gate stands =
    let P = IsEnded before rest gate c.args.is_open in
    let first = weaker g.D.Disk.moment g.D.Disk.left_since c.args.disk.now c.shut_gate.new.disk _ P (c.shut_gate.ensures.any_moment before rest gate
    stands) (shut_ended before rest gate c.args.is_open) in
    runs_on g.D.Disk.moment g.D.Disk.left_since c.args.disk.now c.shut_gate.new.disk c.cut_synced.new.disk P _ first c.cut_synced.ensures.any_moment
    (ended before rest gate c.args.place c.args.is_open (g.D.Disk.may_leave c.shut_gate.new.disk) stands.place_is (c.shut_gate.ensures.crash before rest gate stands))

pub returns-in-Done-clause-done : goal.returns-in-Done-clause-done
returns-in-Done-clause-done g c done before rest gate stands =
    let told : IsTrue (g.D.Disk.tells c.shut_gate.new.disk) = subst IsTrue (sym c.shut_gate.ensures.tells) stands.told in
    let shut = c.in-Done.ensures.done refl before rest gate stands in
    record {
      told = subst IsTrue (sym c.cut_synced.ensures.tells) told;
      is = c.cut_synced.ensures.done done told ∙ ap (λ (l : List ℕ). take (c.args.place + 1) l) shut ∙ cut_done before rest (if c.args.is_open then 0 else gate) c.args.place stands.place_is;
      durable = c.cut_synced.ensures.durable done told;
      place_is = stands.place_is;
    }
