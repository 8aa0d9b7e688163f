use Rattle.std.proofs.Common.{◌∙◌, sym}
use Rattle.aw_space.proofs.CalledAlone.{met_nowhere, met_other, met_same}
use Rattle.aw_space.proofs.adding.meet_held.Goals as goal

pub returns-then-is_same_refs : goal.returns-then-is_same_refs
returns-then-is_same_refs c = λ g.
    met_same g c.args.call.now c.args.held.now.items c.in-Some.at c.at.result.now (sym c.in-Some.ensures.place) c.at.ensures (sym c.is_same_refs.ensures ∙ c.if-is_same_refs.true)

pub returns-in_ok-clone-in-Some-2 : goal.returns-in_ok-clone-in-Some-2
returns-in_ok-clone-in-Some-2 c = λ g.
    met_other g c.args.call.now c.args.held.now.items c.in-Some.at c.at.result.now (sym c.in-Some.ensures.place) c.at.ensures _ _ (sym c.is_same_refs.ensures ∙ c.if-is_same_refs.false)
    c.in_ok-clone-in-Some.ensures.cases c.in_ok-clone-in-Some-2.ensures.cases

pub returns-in-None : goal.returns-in-None
returns-in-None c = λ g. met_nowhere g c.args.call.now c.args.held.now.items (sym c.in-None.ensures.place)
