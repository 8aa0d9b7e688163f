use Rattle.aw_law_kept_system.proofs.Cutting.{cut_off_are_sessions, served_are_sessions, unopened_are_sessions}
use Rattle.aw_law_kept_system.proofs.laws.kept_run_laws.Goals as goal

pub returns-clause-served : goal.returns-clause-served
returns-clause-served g c = served_are_sessions g.W.Wire g.D.Disk

pub returns-clause-unopened : goal.returns-clause-unopened
returns-clause-unopened g c = unopened_are_sessions g.W.Wire g.D.Disk

pub returns-clause-cut_off : goal.returns-clause-cut_off
returns-clause-cut_off g c = cut_off_are_sessions g.W.Wire g.D.Disk
