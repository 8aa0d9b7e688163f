-- A line that is spelled is read again.
use Rattle.std.proofs.Common.{◌≡◌, ℕ, List, [], ◌∷◌, ◌++◌, Some, refl, ap, ◌∙◌, arith}
use Rattle.aw_term.specs.Trees as P
use Rattle.aw_grammar.specs.Written.{Written, Word, Apply, Literal, Writtens, Then, side_by_side}
use Rattle.aw_term_reader.specs.Lexemes.{Lexeme, Mark}
use Rattle.aw_term_reader.specs.Laws.{IsWritten, AreWritten}
use Rattle.aw_term_reader.specs.Terms.{spellings, terms_up_to, some_terms_up_to}
use Rattle.aw_term_reader.specs.Forms.{only, terms_in_braces, ◌>>=◌}
use Rattle.aw_term_reader.proofs.ReadsSpelled.{reads_spelled}
use Rattle.aw_sched.specs.Laws.{IsWrittenLine}
use Rattle.aw_sched.specs.LineSpelling.{args_spelling, line_spelling}
use Rattle.aw_sched.specs.Lines.{Line, StartLine, ChooseLine, DeliverLine, SettleLine, ListLine, line_of}

-- where a list begins with a term, it does not matter whether it might have been empty
begun : (close : ℕ) (t : Written) (ts : Writtens) (rest : List Lexeme) → IsWritten t →
    some_terms_up_to close (spellings (Then t ts) ++ rest) ≡ terms_up_to close (spellings (Then t ts) ++ rest)
begun close (Word name) ts rest w = refl
begun close (Apply name parts) ts rest w = refl
begun close (Literal (P.Num n)) ts rest w = refl
begun close (Literal (P.Text t)) ts rest w = refl
begun close (Literal (P.Con c)) ts rest w = elim w [ ]

args_read : (args : List Written) → AreWritten (side_by_side args) → terms_in_braces (args_spelling args) ≡ Some (args, [])
args_read [] w = refl
args_read (t ∷ ts) w =
    begun 125 t (side_by_side ts) (Mark 125 ∷ []) w.0 ∙ reads_spelled 125 (t ∷ ts) [] (λ e. omega (arith, e)) (λ e. omega (arith, e)) w

choose_reads : (node rule : List ℕ) (args : List Written) → AreWritten (side_by_side args) → line_of (line_spelling (ChooseLine node rule args)) ≡ Some (ChooseLine node rule args)
choose_reads node rule args w = ap (λ read. read >>= λ found. only (ChooseLine node rule found.0) found.1) (args_read args w)

pub line_reads : (line : Line) → IsWrittenLine line → line_of (line_spelling line) ≡ Some line
line_reads (StartLine sort case) w = refl
line_reads (ChooseLine node rule args) w = choose_reads node rule args w
line_reads (DeliverLine message) w = refl
line_reads SettleLine w = refl
line_reads (ListLine role) w = refl
