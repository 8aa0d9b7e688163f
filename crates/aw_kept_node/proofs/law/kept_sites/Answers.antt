use Rattle.aw_kept_node.proofs.Runs.{sites-are-runs, first-are-kept}
use Rattle.aw_kept_node.proofs.law.kept_sites.Goals as goal

pub returns-clause-runs : goal.returns-clause-runs
returns-clause-runs c r = sites-are-runs r

pub returns-clause-first : goal.returns-clause-first
returns-clause-first c r = first-are-kept r
