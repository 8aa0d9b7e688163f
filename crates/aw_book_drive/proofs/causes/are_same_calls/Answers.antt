use Rattle.std.proofs.Common.{sym, ◌∙◌}
use Rattle.std.proofs.lemmas.Bool.{false≢true}
use Rattle.std.proofs.lemmas.Bool.Decides.{Decides-at}
use Rattle.std.specs.Cmp.Lexicographic.{pointwise_decides}
use Rattle.aw_name.specs.SameNodes.{derived_node_Decides}
use Rattle.aw_name.specs.SameRefs.{derived_ref_Decides}
use Rattle.aw_book_drive.proofs.causes.are_same_calls.Goals as goal

pub returns-then-eq : goal.returns-then-eq
returns-then-eq c =
    let n = Decides-at c.eq.result _ c.eq.ensures (derived_node_Decides c.args.node.now c.args.other.now) in
    let r = Decides-at c.eq-then-eq.result _ c.eq-then-eq.ensures (pointwise_decides derived_ref_Decides c.args.inherited.now c.args.others.now) in
    (λ t. (n.0 c.if-eq.true, r.0 t), λ z. r.1 z.1)

pub returns-else-eq : goal.returns-else-eq
returns-else-eq c =
    let n = Decides-at c.eq.result _ c.eq.ensures (derived_node_Decides c.args.node.now c.args.other.now) in
    (λ t. elim (false≢true (sym c.if-eq.false ∙ t)) [ ], λ z. n.1 z.0)
