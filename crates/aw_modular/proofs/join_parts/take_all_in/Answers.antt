use Rattle.std.proofs.Common.{◌∙◌, ◌++◌, refl, ap}
use Rattle.std.specs.Vec.Iter.{into_iter_items}
use Rattle.aw_modular.specs.Wholes.{all_rules}
use Rattle.aw_modular.proofs.Wholes.{have_goes, other_goes, rules_go, other_here, taken_in, not_taken_in}
use Rattle.aw_modular.proofs.join_parts.take_all_in.Goals as goal

pub loop-part-preserved : goal.loop-part-preserved
loop-part-preserved c =
    let kept = c.args.kept.now in
    let y = c.in-Some.part in
    let rest = into_iter_items c.next.new.self in
    let left = into_iter_items c.loop-part.part-iterator in
    let inv = c.loop-part.invariant in
    let taken = taken_in kept y c.loop-part.rules c.take_in.new.rules c.in_ok-came.field-0 c.in_default.is c.in_ok-came.ensures in
    record {
      have = λ h. inv.have (have_goes kept y rest left c.in-Some.ensures.steps.0 taken.0 h);
      other = λ came o. inv.other came (other_goes kept came y rest left c.in-Some.ensures.steps.0 taken.0 o);
      rules = ap (λ rs. rs ++ all_rules rest) taken.1 ∙ rules_go c.loop-part.rules y.part.grammar.rules y rest left c.in-Some.ensures.steps.0 refl ∙ inv.rules;
    }

pub returns-in-Some-2 : goal.returns-in-Some-2
returns-in-Some-2 c =
    let kept = c.args.kept.now in
    let came = c.in-Some-2.came in
    let y = c.in-Some.part in
    let rest = into_iter_items c.next.new.self in
    let left = into_iter_items c.loop-part.part-iterator in
    let other = not_taken_in kept came y c.loop-part.rules c.take_in.new.rules c.in_ok-came.field-0 c.in-Some-2.is c.in_ok-came.ensures in
    c.loop-part.invariant.other came (other_here kept came y rest left c.in-Some.ensures.steps.0 other.0 other.1)
