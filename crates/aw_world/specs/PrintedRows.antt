-- What is printed of a node that a site holds.
use Rattle.std.specs.Prelude.{◌≡◌, ℕ, Some, slice_get}
use Rattle.std.specs.declared.result.Result.{Result}
use Rattle.aw_grammar.specs.declared.grammar.Grammar.{Grammar}
use Rattle.aw_grammar.specs.GrammarOf.{grammar_of, words_of}
use Rattle.aw_term.specs.Configs.{Row}
use Rattle.aw_term.specs.Artifacts.{row_text}
use Rattle.aw_term.specs.Held.{Held}
use Rattle.aw_store.specs.Equations.{Map}
use Rattle.aw_out.specs.declared.error.PrintFault.{PrintFault}
use Rattle.aw_out.specs.Report.{Bounded, Prints}
use Rattle.aw_law_sites.specs.Sites.{Site}
use Rattle.aw_law_worlds.specs.ReadRows.{IsRead}

-- the line of the node at this place, its values unfolded over the equations of the site
abbrev pub PrintsRow : Grammar → Site → ℕ → Bounded → Bounded → Result Unit PrintFault → Type 0
PrintsRow d s place old new result =
    (h : Held) (q : Row) → slice_get s.held place ≡ Some h → IsRead (grammar_of d) s.equations h q → Prints (row_text (words_of d) q) old new result

-- the line of a held node, its values unfolded over these equations
abbrev pub PrintsHeld : Grammar → Map → Held → Bounded → Bounded → Result Unit PrintFault → Type 0
PrintsHeld d k h old new result = (q : Row) → IsRead (grammar_of d) k h q → Prints (row_text (words_of d) q) old new result
