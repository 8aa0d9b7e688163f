-- What a line gives that says these lexemes.
use Rattle.std.proofs.Common.{◌≡◌, ℕ, ap, ◌∙◌, false, cond, List, []}
use Rattle.aw_lex.specs.Lines.{passed_over}
use Rattle.aw_lex.specs.Tokens.{tokens_of}
use Rattle.aw_term_reader.specs.Lexemes.{Lexeme}
use Rattle.aw_term_reader.proofs.SaysTokens.{Lexes}
use Rattle.aw_typed.specs.Types.{Types}
use Rattle.aw_grammar.specs.Declarations.{Declarations}
use Rattle.aw_sched.specs.Lines.{line_of}
use Rattle.aw_sched.specs.Schedules.{Nothing, by_form, by_tokens, read_line}

pub lexed_line : (t : Types) (d : Declarations) (line : List ℕ) (ls : List Lexeme) → passed_over line ≡ false → Lexes line ls → read_line t d line ≡ by_form t d (line_of ls)
lexed_line t d line ls some lexed =
    let all = lexed [] in
    ap (λ b. cond b Nothing (by_tokens t d line (tokens_of line))) some ∙ ap (by_tokens t d line) all.1 ∙ ap (λ said. by_form t d (line_of said)) all.2
