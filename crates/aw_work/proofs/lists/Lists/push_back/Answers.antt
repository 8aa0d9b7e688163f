use Rattle.std.proofs.Common.{◌++◌, ◌+◌, arith, Some}
use Rattle.std.proofs.Common.{set, [], ◌∷◌}
use Rattle.futures.specs.LinkedLists.{items}
use Rattle.futures.specs.Links.{lists_of}
use Rattle.futures.proofs.LinkedListsLemmas.{head_within, last_within, free_not_last, Changes, Changes-splice}
use Rattle.aw_work.specs.Rings.{all_wide}
use Rattle.aw_work.proofs.RingLemmas.{wide_length, wide_prev, wide_splices}
use Rattle.aw_work.proofs.lists.Lists.push_back.Goals as goal
use Rattle.aw_work.proofs.lists.Lists.push_back.Goals.{After-index_mut}

pub splice-requires-clause-next_in : goal.splice-requires-clause-next_in
splice-requires-clause-next_in c =
    omega (arith, (head_within _ _ _ c.self.invariant.sound c.args.list (rw (← c.self.view_is) at c.requires.list_in)).1, wide_length c.self.inside.links.items)

pub splice-requires-clause-prev_in : goal.splice-requires-clause-prev_in
splice-requires-clause-prev_in c =
    omega (
      arith,
      last_within _ _ _ c.self.invariant.sound c.args.list (head_within _ _ _ c.self.invariant.sound c.args.list
          (rw (← c.self.view_is) at c.requires.list_in)).0,
      wide_length c.self.inside.links.items,
      wide_prev c.self.inside.links.items c.args.list,
    )

pub splice-requires-clause-not_next : goal.splice-requires-clause-not_next
splice-requires-clause-not_next c same =
    omega (arith, (head_within _ _ _ c.self.invariant.sound c.args.list (rw (← c.self.view_is) at c.requires.list_in)).0)

pub splice-requires-clause-not_prev : goal.splice-requires-clause-not_prev
splice-requires-clause-not_prev c same =
    free_not_last _ _ _ c.self.invariant.sound c.args.list c.args.key (head_within _ _ _ c.self.invariant.sound c.args.list
    (rw (← c.self.view_is) at c.requires.list_in)).0 (rw (← c.self.view_is) at c.requires.unlinked)
    (omega (arith, same, wide_prev c.self.inside.links.items c.args.list))

-- what the splice and the write of the owner make of the fields
changes : (c : After-index_mut) → Changes (all_wide c.self.inside.links.items) (all_wide c.splice.new.links.items) c.self.inside.owners.items
    (set c.self.inside.owners.items c.args.key (Some c.args.list)) c.self.inside.heads c.args.list
    (items (lists_of (all_wide c.self.inside.links.items) c.self.inside.owners.items c.self.inside.heads) c.args.list ++ c.args.key ∷ [])
changes c =
    Changes-splice _ _ _ _ c.args.list c.args.key c.self.invariant.sound (omega (arith, wide_length c.self.inside.links.items, wide_length c.splice.new.links.items, c.splice.ensures.len))
    (head_within _ _ _ c.self.invariant.sound c.args.list (rw (← c.self.view_is) at c.requires.list_in)).0
    (rw (← c.self.view_is) at c.requires.key_in) (rw (← c.self.view_is) at c.requires.unlinked)
    (wide_splices c.self.inside.links.items c.splice.new.links.items (c.self.inside.heads + c.args.key) c.args.list c.splice.ensures.splices)

pub invariant_of-self : goal.invariant_of-self
invariant_of-self c = record { sound = (changes (goal.at.invariant_of-self c).After-index_mut).sound; few = omega (arith, c.self.invariant.few, c.splice.ensures.len) }

pub returns-clause-last : goal.returns-clause-last
returns-clause-last c = rw (← c.self.view_is) (changes (goal.at.returns-clause-last c).After-index_mut).changed

pub returns-clause-others : goal.returns-clause-others
returns-clause-others c other differs =
    rw (← c.self.view_is) ((changes (goal.at.returns-clause-others c).After-index_mut).others other differs)
