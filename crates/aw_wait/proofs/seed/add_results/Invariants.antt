use Rattle.aw_iograph.specs.Pairs.{HasSort}
use Rattle.aw_wait.specs.Seeding.{Adds, AtValue}
use Rattle.aw_wait.proofs.seed.add_results.Given as goal

abbrev pub invariant-loop-j : goal.invariant-loop-j
invariant-loop-j l = record {
  sorts : HasSort l.seed l.sort;
  added : Adds l.initial.seed l.seed (AtValue l.sort l.j l.value);
}
