use Rattle.std.proofs.Common.{sym, ◌∙◌}
use Rattle.aw_world_waits.proofs.Places.{not_held, held_there}
use Rattle.aw_world_waits.proofs.held.holds_done.Goals as goal

pub returns-in-Some : goal.returns-in-Some
returns-in-Some c = λ g.
    let e = sym c.find_held.ensures.place ∙ c.in-Some.is in
    c.is_some.ensures ∙ held_there g c.args.node.now c.args.held.now.items c.in-Some.at _ e c.at.ensures

pub returns-in-None : goal.returns-in-None
returns-in-None c = λ g. not_held g c.args.node.now c.args.held.now.items (sym c.find_held.ensures.place ∙ c.in-None.is)
