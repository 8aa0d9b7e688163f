-- All tasks, from the lines of each.
use Rattle.std.proofs.Common.{ℕ, List, ◌++◌, Option, Result, sym, ap, ◌∙◌}
use Rattle.std.specs.Prelude.{IfErr}
use Rattle.std.specs.List.{concat}
use Rattle.aw_accept.specs.Acyclic.{Pairs}
use Rattle.aw_grammar.specs.declared.grammar.Grammar.{Grammar}
use Rattle.aw_grammar.specs.GrammarOf.{grammar_of, words_of}
use Rattle.aw_law_sites.specs.Sites.{Site}
use Rattle.aw_book_join.specs.declared.fault.TasksFault.{TasksFault}
use Rattle.aw_book_join.specs.declared.view.View.{View}
use Rattle.aw_book_join.specs.Handing.{Writes}
use Rattle.aw_book_join.specs.Lines.{IsTold, TellsTask}
use Rattle.aw_book_join.specs.Tasks.{standing_lines}
use Rattle.aw_book_join.specs.Writing.{WritesTasks}
use Rattle.aw_book_join.proofs.Results.{writes-as}
use Rattle.aw_book_join.proofs.Texts.{told-rows}

-- what holds of whatever is printed of the nodes holds of rows that are read
pub all-tasks : (d : Grammar) (v : View) (s : Site) (a b : Option (List ℕ)) (r : Result Unit TasksFault) →
    ((texts : List (List ℕ)) → Pairs (IsTold d v s.equations) s.held texts → Writes a b (concat texts ++ standing_lines (words_of d) (grammar_of d) v s) r) → IfErr r (TellsTask d v s) →
    WritesTasks d v s a b r
all-tasks d v s a b r writes long =
    let standing = standing_lines (words_of d) (grammar_of d) v s in
    record {
      tasks = λ text are.
          let told = told-rows d v s.equations s.held are.0 are.1 in
          writes-as a b (concat told.0 ++ standing) text r (ap (λ (t : List ℕ). t ++ standing) told.2 ∙ sym are.2) (writes told.0 told.1);
      long = long;
    }
