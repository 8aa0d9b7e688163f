use Rattle.aw_base.proofs.ReadFronts.{step_added, front_added}
use Rattle.aw_base.proofs.node_reader.ReadName.add.Goals as goal

pub returns-in_err-push-2-clause-read : goal.returns-in_err-push-2-clause-read
returns-in_err-push-2-clause-read c w g last h at on =
    let old = c.args.self.now in
    rw (c.in_ok-push.ensures.items, c.in_err-push-2.ensures.items) (step_added w g old.text.items old.start old.case old.steps.items old.fronts.items c.args.step h c.requires)

pub returns-clause-read : goal.returns-clause-read
returns-clause-read c w g last h at on =
    let old = c.args.self.now in
    rw (c.in_ok-push.ensures.items, c.in_ok-push-2.ensures.items) (front_added w g old.text.items old.start old.case old.steps.items old.fronts.items last c.args.step c.args.front h c.requires at on)
