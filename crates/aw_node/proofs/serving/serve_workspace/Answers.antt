use Rattle.aw_node.specs.TypedNodes.{rules_of}
use Rattle.aw_node.proofs.NodeLemmas.{rules-same, node-serves, node-unopened, node-cut-off}
use Rattle.aw_node.proofs.serving.serve_workspace.Goals as goal

pub returns-in-Ok-clause-served : goal.returns-in-Ok-clause-served
returns-in-Ok-clause-served g c s shown =
    node-serves _ (λ n. g.P.NodeWorkspace.shows n.site) (λ n. rules_of n.accepted.now.grammar n.typed.now) _
    (λ n m f x a. (a.0, rules-same _ _ _ _ a.1 a.2)) (rules_of c.args.g.now.grammar c.args.t.now)
    _ _ _ _ _ _ _ s _ _ _ c.in-Ok.ensures.ok (rw c.new-node.ensures.site shown) (rules-same _ _ _ _ c.new-node.ensures.accepted c.new-node.ensures.typed)

pub returns-in-Err-NetFault-clause-stopped : goal.returns-in-Err-NetFault-clause-stopped
returns-in-Err-NetFault-clause-stopped g c s shown =
    node-unopened _ (λ n. g.P.NodeWorkspace.shows n.site) (λ n. rules_of n.accepted.now.grammar n.typed.now) _
    (λ n m f x a. (a.0, rules-same _ _ _ _ a.1 a.2)) (rules_of c.args.g.now.grammar c.args.t.now)
    _ _ _ _ _ _ s _ _ (rw c.in-Err-NetFault.field-0-is at c.in-Err-NetFault.ensures.err) (rw c.new-node.ensures.site shown) (rules-same _ _ _ _ c.new-node.ensures.accepted c.new-node.ensures.typed)

pub returns-clause-stopped : goal.returns-clause-stopped
returns-clause-stopped g c s shown =
    node-cut-off _ (λ n. g.P.NodeWorkspace.shows n.site) (λ n. rules_of n.accepted.now.grammar n.typed.now) _
    (λ n m f x a. (a.0, rules-same _ _ _ _ a.1 a.2)) (rules_of c.args.g.now.grammar c.args.t.now)
    _ _ _ g.W.Wire.failed_openings _ _ _ s _ _ _ (rw c.in-Err-Node.field-0-is at c.in-Err-Node.ensures.err) (rw c.new-node.ensures.site shown)
    (rules-same _ _ _ _ c.new-node.ensures.accepted c.new-node.ensures.typed)

pub returns-clause-stays : goal.returns-clause-stays
returns-clause-stays g c = c.served_nodes.ensures.stays (rules_of c.args.g.now.grammar c.args.t.now)
