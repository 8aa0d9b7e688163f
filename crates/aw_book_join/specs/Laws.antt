-- What holds of the tasks of the workspaces of a system.
use Rattle.std.specs.Prelude.{ℕ, List}
use Rattle.aw_law_sites.specs.Worlds.{site_at}
use Rattle.aw_law_worlds.specs.Laws.{InEachWorld}
use Rattle.aw_term.specs.Artifacts.{Words}
use Rattle.aw_term.specs.Rules.{Grammar}
use Rattle.aw_book_join.specs.declared.view.View.{View}
use Rattle.aw_book_join.specs.Tasks.{AreTasks}

-- at every moment, quiet or not, the tasks of each role have a text, whichever are asked for
abbrev pub TasksHaveText : Words → Grammar → Type 0
TasksHaveText words g = InEachWorld g (λ loads w. (a : ℕ) (v : View) → (text : List ℕ) × AreTasks words g v (site_at w a) text)
