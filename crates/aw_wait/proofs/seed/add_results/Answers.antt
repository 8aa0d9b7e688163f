use Rattle.std.proofs.Common.{◌+◌, arith}
use Rattle.aw_wait.proofs.Seeds.{adds_none, adds_one, adds_both, one_result, last_result}
use Rattle.aw_wait.specs.Seeding.{AtValue}
use Rattle.aw_wait.proofs.seed.add_results.Goals as goal

pub loop-j-init : goal.loop-j-init
loop-j-init c = record {
  sorts = c.requires.sort;
  added = adds_none c.args.seed.now (AtValue c.args.sort 0 c.args.value) (λ s i j (a, b, low, few). absurd (omega (arith, low, few)));
}

pub loop-j-preserved : goal.loop-j-preserved
loop-j-preserved c = record {
  sorts = c.add.ensures.sorts c.args.sort c.loop-j.invariant.sorts;
  added =
      adds_both _ c.loop-j.seed _ (AtValue c.args.sort c.loop-j.j c.args.value) _ (AtValue c.args.sort (c.loop-j.j + 1) c.args.value) c.loop-j.invariant.added
      (adds_one c.loop-j.seed _ c.args.sort c.args.value (c.loop-j.j + 1) c.add.ensures.made c.add.ensures.sorts c.add.ensures.there c.add.ensures.kept c.add.ensures.only)
      (one_result c.args.sort c.args.value c.loop-j.j) (last_result c.args.sort c.args.value c.loop-j.j);
}
