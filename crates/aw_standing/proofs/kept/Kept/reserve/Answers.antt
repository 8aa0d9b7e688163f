use Rattle.std.proofs.Common.{◌≤◌, refl}
use Rattle.std.proofs.lemmas.Result.{on_ok_weaker}
use Rattle.aw_standing.specs.KeptStates.{HasRoom}
use Rattle.aw_standing.specs.declared.kept.Kept.{Kept}
use Rattle.aw_standing.proofs.KeptLemmas.{kept_same, count_same}
use Rattle.aw_standing.proofs.kept.Kept.reserve.Goals as goal

pub returns-clause-kept : goal.returns-clause-kept
returns-clause-kept c g row k names late f =
    let self = c.args.self.now in
    kept_same g row.items k names late row.numbers row.numbers self.records.items c.reserve.new.self.items self.work.waiting c.reserve-2.new.self.waiting
    refl c.reserve.ensures.items (λ p. count_same p _ _ c.reserve-2.ensures.waiting) f

pub returns-clause-room : goal.returns-clause-room
returns-clause-room c =
    let now : Kept = record { records = c.reserve.new.self; work = c.reserve-2.new.self } in
    on_ok_weaker {P = c.args.waits ≤ c.reserve-2.new.self.spare} {Q = HasRoom now c.args.nodes c.args.waits} c.reserve-2.result
    (λ spare. record { entries = c.in_ok-reserve.ensures.ok; spare = spare })
    c.reserve-2.ensures.ok
