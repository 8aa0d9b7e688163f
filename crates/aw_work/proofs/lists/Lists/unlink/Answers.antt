use Rattle.std.proofs.Common.{◌+◌, sym, ap, arith, None, Some}
use Rattle.std.proofs.Common.{set}
use Rattle.futures.specs.LinkedLists.{items, without}
use Rattle.futures.specs.Links.{lists_of}
use Rattle.futures.proofs.LinkedListsLemmas.{before_within, after_within, Changes, Changes-skip}
use Rattle.aw_work.specs.Rings.{all_wide}
use Rattle.aw_work.proofs.RingLemmas.{wide_length, wide_next, wide_prev, wide_skips}
use Rattle.aw_work.proofs.lists.Lists.unlink.Goals as goal
use Rattle.aw_work.proofs.lists.Lists.unlink.Goals.{After-index_mut}

pub skip-requires-clause-prev_in : goal.skip-requires-clause-prev_in
skip-requires-clause-prev_in c =
    omega (
      arith,
      before_within _ _ _ c.self.invariant.sound c.in_ok-list.list c.args.key (rw (← c.self.view_is) at (sym c.in_ok-list.ensures)),
      wide_length c.self.inside.links.items,
      wide_prev c.self.inside.links.items (c.self.inside.heads + c.args.key),
    )

pub skip-requires-clause-next_in : goal.skip-requires-clause-next_in
skip-requires-clause-next_in c =
    omega (
      arith,
      after_within _ _ _ c.self.invariant.sound c.in_ok-list.list c.args.key (rw (← c.self.view_is) at (sym c.in_ok-list.ensures)),
      wide_length c.self.inside.links.items,
      wide_next c.self.inside.links.items (c.self.inside.heads + c.args.key),
    )

-- what the skip and the write of the owner make of the fields
changes : (c : After-index_mut) → Changes (all_wide c.self.inside.links.items) (all_wide c.skip.new.links.items) c.self.inside.owners.items
    (set c.self.inside.owners.items c.args.key None) c.self.inside.heads c.in_ok-list.list
    (without c.args.key (items (lists_of (all_wide c.self.inside.links.items) c.self.inside.owners.items c.self.inside.heads) c.in_ok-list.list))
changes c =
    Changes-skip _ _ _ _ c.in_ok-list.list c.args.key c.self.invariant.sound (omega (arith, wide_length c.self.inside.links.items, wide_length c.skip.new.links.items, c.skip.ensures.len))
    (rw (← c.self.view_is) at (sym c.in_ok-list.ensures)) (wide_skips c.self.inside.links.items c.skip.new.links.items (c.self.inside.heads + c.args.key) c.skip.ensures.skips)

pub invariant_of-self : goal.invariant_of-self
invariant_of-self c = record { sound = (changes (goal.at.invariant_of-self c).After-index_mut).sound; few = omega (arith, c.self.invariant.few, c.skip.ensures.len) }

pub returns-clause-left : goal.returns-clause-left
returns-clause-left c = rw (← c.self.view_is) (changes (goal.at.returns-clause-left c).After-index_mut).changed

pub returns-clause-others : goal.returns-clause-others
returns-clause-others c other differs =
    rw (← c.self.view_is)
    ((changes (goal.at.returns-clause-others c).After-index_mut).others other (λ same. differs (ap Some (sym same))))
