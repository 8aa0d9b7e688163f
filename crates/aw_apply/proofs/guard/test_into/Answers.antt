use Rattle.std.proofs.Common.{sym, subst}
use Rattle.aw_apply.specs.GuardView.{IsTestable}
use Rattle.aw_apply.proofs.guard.test_into.Goals as goal

pub guard_all-requires : goal.guard_all-requires
guard_all-requires g c =
    let r = c.requires in
    subst (λ ps. IsTestable (g.F.Facts.names c.args.f.now) ps c.args.inherited.now) (sym c.as_slice.ensures) (record { live = r.live; same = r.same; few = r.few; shallow = r.shallow; room = r.room })
