use Rattle.std.proofs.Common.{◌≡◌, take}
use Rattle.aw_law_sites.specs.Sites.{Site}
use Rattle.aw_journal.specs.EventView.{events_seen}
use Rattle.aw_node.specs.TypedNodes.{rules_of}
use Rattle.aw_kept_node.specs.Redone.{RedoesAll}
use Rattle.aw_kept_node.proofs.redoing.redo_all.Given as goal

-- the events so far were done again
abbrev pub invariant-loop-number : goal.invariant-loop-number
invariant-loop-number g l = record {
  grammar : g.P.NodeWorkspace.grammar l.site ≡ g.P.NodeWorkspace.grammar l.initial.site;
  redone : (s : Site) → g.P.NodeWorkspace.shows l.initial.site s → RedoesAll (rules_of l.g.grammar l.t) s (events_seen (take l.number l.events)) (g.P.NodeWorkspace.shows l.site);
}
