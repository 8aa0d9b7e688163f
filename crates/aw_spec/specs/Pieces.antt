-- What the code takes off the children of a rule.
use Rattle.std.specs.Prelude.{Bool, false, List, [], Option, Some, None, nat_eq}
use Rattle.aw_lex.specs.declared.token.TokenKind.{TokenKind}
use Rattle.aw_lex.specs.declared.token.TokenKind.TheVariants.{Mark}
use Rattle.aw_term_reader.specs.Lexemes.{Lexeme}
use Rattle.aw_spec.specs.ReadLine.{pieces}

-- a token of this kind is a `;`
abbrev pub parts_children : TokenKind → Bool
parts_children (Mark b) = nat_eq b 59
parts_children _ = false

-- the pieces behind a `;`, where there is one
abbrev pub pieces_behind : Option (List Lexeme) → List (List Lexeme)
pieces_behind None = []
pieces_behind (Some ls) = pieces ls
