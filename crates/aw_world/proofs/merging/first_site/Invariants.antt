use Rattle.std.proofs.Common.{◌≤◌}
use Rattle.aw_world.specs.Firsts.{IsFirstOf}
use Rattle.aw_world.proofs.merging.first_site.Given as goal

-- of the workspaces so far it is the first
abbrev pub invariant-loop-at : goal.invariant-loop-at
invariant-loop-at g l = record {
  best : l.best ≤ l.at;
  first : IsFirstOf g.W.Workspace l.sites l.places l.at l.best;
}
