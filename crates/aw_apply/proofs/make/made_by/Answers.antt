use Rattle.std.proofs.Common.{map, ap, ◌∙◌}
use Rattle.aw_term.specs.Names.{below}
use Rattle.aw_term.specs.Rules.{upto}
use Rattle.aw_apply.proofs.MakeLemmas.{made_first}
use Rattle.aw_apply.proofs.make.made_by.Goals as goal

pub lay_made-requires-clause-nodes : goal.lay_made-requires-clause-nodes
lay_made-requires-clause-nodes c = c.as_slice-at.ensures.value ∙ c.in_ok-nodes.ensures ∙ ap (λ k. map (below c.args.node.now c.args.number) (upto 1 k)) c.len.ensures

pub returns : goal.returns
returns c = made_first _ _ _ _ _ _ c.in_ok-children.ensures c.in_ok-equations.ensures.items c.from_vec.ensures c.from_vec-2.ensures
