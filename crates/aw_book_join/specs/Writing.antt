-- What writing the tasks of a workspace does.
use Rattle.std.specs.Prelude.{ℕ, List, IfErr}
use Rattle.std.specs.declared.option.Option.{Option}
use Rattle.std.specs.declared.result.Result.{Result}
use Rattle.aw_grammar.specs.declared.grammar.Grammar.{Grammar}
use Rattle.aw_grammar.specs.GrammarOf.{grammar_of, words_of}
use Rattle.aw_law_sites.specs.Sites.{Site}
use Rattle.aw_book_join.specs.declared.fault.TasksFault.{TasksFault}
use Rattle.aw_book_join.specs.declared.view.View.{View}
use Rattle.aw_book_join.specs.Handing.{Writes}
use Rattle.aw_book_join.specs.Lines.{TellsTask}
use Rattle.aw_book_join.specs.Tasks.{AreTasks}

-- The tasks that are asked for were written behind what the sink had, or their front was; and where a line is too long that is told.
pub record WritesTasks (d : Grammar) (v : View) (s : Site) (old new : Option (List ℕ)) (result : Result Unit TasksFault) : Type 0 where
  pub tasks : (text : List ℕ) → AreTasks (words_of d) (grammar_of d) v s text → Writes old new text result
  pub long : IfErr result (TellsTask d v s)
