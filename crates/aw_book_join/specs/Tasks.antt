-- The tasks of a workspace, as text.
use Rattle.std.specs.Prelude.{◌≡◌, ℕ, List, ◌++◌, filter, Option}
use Rattle.aw_term.specs.Artifacts.{Words, Item, artifact_text}
use Rattle.aw_term.specs.Configs.{Row, Config}
use Rattle.aw_term.specs.Rules.{Grammar}
use Rattle.aw_term.specs.Runs.{item_lines}
use Rattle.aw_accept.specs.Acyclic.{Pairs}
use Rattle.aw_law_sites.specs.Sites.{Site}
use Rattle.aw_law_sites.specs.Worklists.{site_worklist}
use Rattle.aw_law_worlds.specs.ReadRows.{IsRead}
use Rattle.aw_book_join.specs.declared.view.Case.{Case}
use Rattle.aw_book_join.specs.declared.view.View.{View}
use Rattle.aw_book_join.specs.Views.{is_of, is_asked}

-- the lines of the rows that are asked for, as artifacts are written
abbrev pub row_lines : Words → View → Config → List ℕ
row_lines w v rows = artifact_text w (filter (λ (q : Row). is_asked v q.node q.state) rows)

-- the items at nodes of the case
abbrev pub items_of : Option Case → List Item → List Item
items_of c items = filter (λ (i : Item). is_of c i.node) items

-- how each rule stands at the open tasks of the case
abbrev pub standing_lines : Words → Grammar → View → Site → List ℕ
standing_lines w g v s = item_lines w (items_of v.case (site_worklist g s.equations s.held))

-- The text is that of the tasks of a workspace that are asked for: a line for each, its values unfolded over the workspace's own equations, and behind
-- these how each rule stands at the open ones.
abbrev pub AreTasks : Words → Grammar → View → Site → List ℕ → Type 0
AreTasks w g v s text = (rows : Config) × Pairs (λ h q. IsRead g s.equations h q) s.held rows × (text ≡ row_lines w v rows ++ standing_lines w g v s)
