use Rattle.std.proofs.Common.{Some, ap, sym, ◌∙◌}
use Rattle.std.proofs.lemmas.Option.{slice_get-get_or}
use Rattle.std.proofs.lemmas.Result.{on_ok_weaker}
use Rattle.aw_world.specs.WorldView.{plain_of}
use Rattle.aw_trial.specs.Turns.{at_node, among_nodes}
use Rattle.aw_trial.proofs.Steps.{drawn_before, node_drawn}
use Rattle.aw_trial.proofs.choosing.among_nodes.Goals as goal

pub returns-clause-does : goal.returns-clause-does
returns-clause-does g c =
    let p = plain_of c.args.world.now in
    let at = slice_get-get_or c.args.nodes.now c.draw.result c.index-nodes-draw.result c.draw.ensures.below ∙ ap Some (sym (c.in_ok-node.ensures ∙ c.index-nodes-draw.is)) in
    on_ok_weaker c.at_node.result
    (λ does. drawn_before g.W.Workspace c.args.world.now c.at_node.new.world c.args.tally.now c.draw.new.tally c.at_node.new.tally
    (at_node p c.in_ok-node.node) (among_nodes p c.args.nodes.now) c.draw.ensures.drew
    (λ v es. node_drawn p c.args.nodes.now c.args.tally.now v es c.draw.result c.in_ok-node.node c.draw.ensures.below at c.draw.ensures.next) does)
    c.at_node.ensures.does
