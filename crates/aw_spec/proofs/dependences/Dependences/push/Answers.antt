use Rattle.aw_spec.proofs.Depending.{both_pushed}
use Rattle.aw_spec.proofs.dependences.Dependences.push.Goals as goal

pub invariant_of-self-2 : goal.invariant_of-self-2
invariant_of-self-2 c =
    both_pushed c.args.found c.named_by.result c.self.inside.named.keys c.reserve.new.self.keys c.insert.new.self.keys c.self.inside.declared c.args.self.now c.push.new.self
    c.named_by.ensures c.self.invariant c.self.view_is c.reserve.ensures.keys c.requires c.in_ok-push.ensures.ok c.in-Ok.ensures.keys
