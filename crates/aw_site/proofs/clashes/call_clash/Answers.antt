use Rattle.std.proofs.Common.{◌∙◌, sym}
use Rattle.aw_site.proofs.HeldTests.{nowhere_free, here_free, here_clash}
use Rattle.aw_site.proofs.clashes.call_clash.Goals as goal

pub returns-then-is_same_refs : goal.returns-then-is_same_refs
returns-then-is_same_refs c = λ h.
    here_free h c.args.node.now c.args.inherited.now c.args.held.now.items c.in-Some.at c.at.result.now (sym c.in-Some.ensures.place) c.at.ensures (sym c.is_same_refs.ensures ∙ c.if-is_same_refs.true)

pub returns-in_ok-clone-in-Some-2 : goal.returns-in_ok-clone-in-Some-2
returns-in_ok-clone-in-Some-2 c = λ h.
    here_clash h c.args.node.now c.args.inherited.now c.args.held.now.items c.in-Some.at c.at.result.now _ _ (sym c.in-Some.ensures.place)
    c.at.ensures (sym c.is_same_refs.ensures ∙ c.if-is_same_refs.false)
    c.in_ok-clone-in-Some.ensures.cases c.in_ok-clone-in-Some-2.ensures.cases

pub returns-in-None : goal.returns-in-None
returns-in-None c = λ h. nowhere_free h c.args.node.now c.args.inherited.now c.args.held.now.items (sym c.in-None.ensures.place)
