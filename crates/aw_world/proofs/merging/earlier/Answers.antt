use Rattle.std.proofs.Common.{sym, ◌∙◌}
use Rattle.aw_world.proofs.Earlier.{new_first, old_first, new_before}
use Rattle.aw_world.proofs.merging.earlier.Goals as goal

pub returns-in_default-next_held-clause-first : goal.returns-in_default-next_held-clause-first
returns-in_default-next_held-clause-first g c =
    new_first g.W.Workspace c.args.sites.now c.args.places.now c.args.best c.args.at c.requires.best c.requires.first _ (c.next_held-2.ensures.none c.in_default-next_held.is) c.in-Some.ensures.some

pub returns-then-is_before-clause-first : goal.returns-then-is_before-clause-first
returns-then-is_before-clause-first g c =
    old_first g.W.Workspace c.args.sites.now c.args.places.now c.args.best c.args.at c.requires.best c.requires.first _ _ c.in-Some-next_held.ensures.some c.in-Some.ensures.some
    (sym c.is_before.ensures ∙ c.if-is_before.true)

pub returns-else-is_before-clause-first : goal.returns-else-is_before-clause-first
returns-else-is_before-clause-first g c =
    new_before g.W.Workspace c.args.sites.now c.args.places.now c.args.best c.args.at c.requires.best c.requires.first _ _ c.in-Some-next_held.ensures.some c.in-Some.ensures.some
    (sym c.is_before.ensures ∙ c.if-is_before.false)
