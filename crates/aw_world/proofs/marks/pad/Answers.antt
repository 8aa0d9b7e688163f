use Rattle.std.proofs.Common.{◌∙◌, length, ap, arith, false, [], ◌∷◌}
use Rattle.std.proofs.lemmas.List.{length-append}
use Rattle.aw_law_sites.specs.Worlds.{count_set}
use Rattle.aw_world.specs.Marks.{marks, leading}
use Rattle.aw_world.proofs.MarkLemmas.{marks_padded, leading_padded, count_padded}
use Rattle.aw_world.proofs.marks.pad.Goals as goal

pub loop-flags-preserved : goal.loop-flags-preserved
loop-flags-preserved c =
    let e = c.in_ok-push.ensures.items in
    let i = c.loop-flags.invariant in
    record {
      marks = λ ms. ap (marks ms) e ∙ marks_padded ms c.loop-flags.flags.items ∙ i.marks ms;
      leads = ap leading e ∙ leading_padded c.loop-flags.flags.items ∙ i.leads;
      counts = ap count_set e ∙ count_padded c.loop-flags.flags.items ∙ i.counts;
      most = λ n a b. omega (arith, ap length e, length-append c.loop-flags.flags.items (false ∷ []), c.loop-flags-test.true, c.len.ensures, c.loop-flags.flags.ok.0, b);
    }
