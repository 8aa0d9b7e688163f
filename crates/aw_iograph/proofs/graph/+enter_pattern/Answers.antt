use Rattle.std.proofs.Common.{◌++◌, map, ap, sym, ◌∙◌, Some}
use Rattle.aw_term.specs.Views.{pattern_of}
use Rattle.aw_term.specs.WellFormed.{leaves, leaves_of}
use Rattle.aw_iograph.proofs.Entering.{part_more, part_all, pattern_leaves}
use Rattle.aw_iograph.proofs.graph.+enter_pattern.Goals as goal

pub loop-part-preserved : goal.loop-part-preserved
loop-part-preserved t c =
    part_more _ _ _ _ _ _ _ c.loop-part-test.true c.part-item.is c.in_ok-enter_pattern-in-Con.ensures c.loop-part.invariant

pub returns-after-loop-part : goal.returns-after-loop-part
returns-after-loop-part t c =
    part_all c.args.at c.as_slice-part-items.result.now c.loop-part.part-index c.loop-part.entries _ c.loop-part-test.false c.loop-part.invariant
    ∙ ap (λ vs. c.args.entries.now ++ map (λ v. Some c.args.at) vs)
    (ap (λ ps. leaves_of (map pattern_of ps)) c.as_slice-part-items.ensures ∙ pattern_leaves c.in-Con.field-0 c.in-Con.parts ∙ ap (λ p. leaves (pattern_of p)) (sym c.in-Con.is))
