use Rattle.std.proofs.Common.{◌++◌, map, ap, sym, ◌∙◌}
use Rattle.aw_iograph.specs.Occurrences.{flows_to}
use Rattle.aw_term.specs.Views.{term_of}
use Rattle.aw_term.specs.WellFormed.{leaves, leaves_of}
use Rattle.aw_iograph.proofs.Entering.{use_more, use_all, term_leaves}
use Rattle.aw_iograph.proofs.graph.+flow_term.Goals as goal

pub loop-part-preserved : goal.loop-part-preserved
loop-part-preserved t c =
    use_more _ _ _ _ _ _ _ _ c.loop-part-test.true c.part-item.is c.in_ok-flow_term-in-Con.ensures c.loop-part.invariant

pub returns-after-loop-part : goal.returns-after-loop-part
returns-after-loop-part t c =
    use_all c.args.entries.now c.args.to c.as_slice-part-items.result.now c.loop-part.part-index c.loop-part.graph _ c.loop-part-test.false c.loop-part.invariant
    ∙ ap (λ vs. c.args.graph.now ++ flows_to c.args.entries.now c.args.to vs)
    (ap (λ ts. leaves_of (map term_of ts)) c.as_slice-part-items.ensures ∙ term_leaves c.in-Con.field-0 c.in-Con.parts ∙ ap (λ t. leaves (term_of t)) (sym c.in-Con.is))
