-- What the tokens of a line say.
use Rattle.std.specs.Prelude.{ℕ, ◌-◌, List, [], map, take, drop, unwrap_or}
use Rattle.aw_spelling.specs.Spelling.{number_of, unquoted}
use Rattle.aw_lex.specs.declared.token.Token.{Token}
use Rattle.aw_lex.specs.declared.token.TokenKind.{TokenKind}
use Rattle.aw_lex.specs.declared.token.TokenKind.TheVariants as kinds

-- a name, a number, a node name, the content of a text, or a mark by its byte
pub data Lexeme : Type 0 where
  Name : (name : List ℕ) → Lexeme
  Number : (n : ℕ) → Lexeme
  Node : (name : List ℕ) → Lexeme
  Quoted : (content : List ℕ) → Lexeme
  Mark : (byte : ℕ) → Lexeme

-- the bytes of a token
abbrev pub slice : List ℕ → Token → List ℕ
slice line t = take (t.end - t.start) (drop t.start line)

-- What a token of this kind says with these bytes. A number token whose bytes are no number would say 0, and a text token whose bytes are no text
-- the empty content; neither comes of a line.
abbrev pub said : TokenKind → List ℕ → Lexeme
said kinds.Name bytes = Name bytes
said kinds.Number bytes = Number (unwrap_or (number_of bytes) 0)
said kinds.Node bytes = Node bytes
said kinds.Text bytes = Quoted (unwrap_or (unquoted bytes) [])
said (kinds.Mark byte) bytes = Mark byte

-- what a token of a line says
abbrev pub lexeme : List ℕ → Token → Lexeme
lexeme line t = said t.kind (slice line t)

-- what the tokens of a line say, in their order
abbrev pub lexemes : List ℕ → List Token → List Lexeme
lexemes line tokens = map (lexeme line) tokens
