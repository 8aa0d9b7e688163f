use Rattle.std.proofs.Common.{◌∙◌}
use Rattle.aw_spec.proofs.Depending.{is_found}
use Rattle.aw_spec.proofs.dependences.Dependences.has.Goals as goal

pub returns : goal.returns
returns c = c.contains.ensures ∙ is_found (record { sort = c.args.sort; i = c.args.i; j = c.args.j }) c.self.inside.named.keys c.self.inside.declared c.args.self.now c.self.invariant c.self.view_is
