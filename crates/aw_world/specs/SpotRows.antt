-- What is printed of a node at a place of one of several workspaces.
use Rattle.std.specs.Prelude.{List, map, false}
use Rattle.std.specs.declared.result.Result.{Result}
use Rattle.aw_term.specs.Rules.{get}
use Rattle.aw_grammar.specs.declared.grammar.Grammar.{Grammar}
use Rattle.aw_out.specs.declared.error.PrintFault.{PrintFault}
use Rattle.aw_out.specs.Report.{Bounded}
use Rattle.aw_law_sites.specs.Sites.{empty_site}
use Rattle.aw_world.specs.declared.workspace.Workspace.{Ghosts}
use Rattle.aw_world.specs.declared.merging.Spot.{Spot}
use Rattle.aw_world.specs.PrintedRows.{PrintsRow}

-- the line of the node at this place
abbrev pub PrintsSpot : {W : Type 0} → Ghosts W → Grammar → List W → Spot → Bounded → Bounded → Result Unit PrintFault → Type 0
PrintsSpot f d ws spot old new result = PrintsRow d (get (empty_site false spot.site) (map (λ w. f.seen w) ws) spot.site) spot.place old new result
