use Rattle.std.proofs.Common.{◌≡◌, ◌+◌, ℕ, List, length, map, Option, Some, None, option_map}
use Rattle.std.specs.Option.{option_copied}
use Rattle.aw_lex.specs.declared.token.Token.{Token}
use Rattle.aw_grammar.specs.Written.{child_of_raw}
use Rattle.aw_term_reader.specs.Lexemes.{lexemes}
use Rattle.aw_spec.specs.ReadLine as read
use Rattle.aw_spec.specs.Pieces.{pieces_behind}
use Rattle.aw_spec.proofs.PieceCuts.{behind}
use Rattle.aw_spec.proofs.parse.children_of.Given as goal

abbrev pub invariant-loop-left : goal.invariant-loop-left
invariant-loop-left l =
    behind (map child_of_raw l.children) (read.children_of (pieces_behind (option_map (lexemes l.line) (option_copied l.left)))) ≡ read.children_of (read.pieces (lexemes l.line l.fn.tokens))

abbrev left_over : Option (List Token) → ℕ
left_over None = 0
left_over (Some ts) = length ts + 1

abbrev pub decreases-loop-left : goal.decreases-loop-left
decreases-loop-left l = left_over (option_copied l.left)
