use Rattle.std.proofs.Common.{ap, sym, ◌∙◌}
use Rattle.aw_grammar.specs.GrammarOf.{grammar_of}
use Rattle.aw_node_list.specs.HeldView.{all_of}
use Rattle.aw_law_sites.specs.Worlds as V
use Rattle.aw_world.specs.Merged.{merged, nodes_of}
use Rattle.aw_world.specs.Opened.{open_nodes}
use Rattle.aw_world.proofs.Gathered.{gathered}
use Rattle.aw_world.proofs.world.World.pending.Goals as goal

pub returns : goal.returns
returns g c = λ v S.
    let f = g.W.Workspace in
    let w = c.args.self.now in
    let p = grammar_of w.accepted.now.grammar in
    c.from_vec.ensures ∙ c.in_ok-nodes.ensures p ∙ ap (λ ws. open_nodes (all_of p (merged (nodes_of f ws)))) c.as_slice.ensures.value
    ∙ ap open_nodes (sym (gathered f g.met.W.Workspace.holds p w.sites.items w.placed.grammar) ∙ ap (λ (u : V.World). V.gather u.sites) S)
