use Rattle.std.proofs.Common.{map}
use Rattle.aw_term.specs.Views.{pattern_of}
use Rattle.aw_store.specs.NamedRefs.{AreNamed}
use Rattle.aw_store.proofs.SlotLemmas.{named_live}
use Rattle.aw_apply.specs.Guard.{guard_all}
use Rattle.aw_apply.proofs.TellLemmas.{guard_live}
use Rattle.table_equations.proofs.Slots.{when_some, named_as}
use Rattle.table_equations.proofs.weigh.guard.Given.{Over}
use Rattle.table_equations.proofs.weigh.guard.Goals as goal
use Rattle.table_equations.proofs.weigh.guard.Goals.{After-as_slice}

-- the slots that the guard is tested on name the references
named : (g : Over) (c : After-as_slice g) → AreNamed (g.F.Facts.names c.args.f.now) c.as_slice.result.now c.args.inherited.now
named g c = named_as (g.F.Facts.names c.args.f.now) c.in-Some.slots.items c.as_slice.result.now c.args.inherited.now c.as_slice.ensures.value (when_some _ _ _ c.in-Some.is c.in_ok-slots.ensures)

pub guard_uncounted-guard-requires-clause-live : goal.guard_uncounted-guard-requires-clause-live
guard_uncounted-guard-requires-clause-live g c = named_live _ _ _ (named g (goal.at.guard_uncounted-guard-requires-clause-live g c).After-as_slice)

pub tell_guard-requires : goal.tell_guard-requires
tell_guard-requires g c =
    let rs = c.args.inherited.now in
    guard_live (g.F.Facts.names c.args.f.now) c.guard_uncounted-guard.result (guard_all (g.F.Facts.map c.args.f.now) 1 (map pattern_of c.args.rule.now.patterns) rs)
    (c.guard_uncounted-guard.ensures rs (named g (goal.at.tell_guard-requires g c).After-as_slice))
