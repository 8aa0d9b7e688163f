-- Lexemes as tokens spell them: names are names, and contents of texts are contents.
use Rattle.std.specs.Prelude.{◌≡◌, ℕ, true, List, Some}
use Rattle.aw_spelling.specs.Spelling.{is_name, is_content}
use Rattle.aw_lex.specs.declared.token.Token.{Token}
use Rattle.aw_lex.specs.Tokens.{AreSlices}
use Rattle.aw_term.specs.WellFormed.{Each}
use Rattle.aw_grammar.specs.Written.{Written}
use Rattle.aw_grammar.specs.Terms.{all_have_contents}
use Rattle.aw_term_reader.specs.Lexemes.{Lexeme, Name, Number, Node, Quoted, Mark, lexemes}
use Rattle.aw_term_reader.specs.Terms.{Expected, TermOrEnd, TermOnly, CommaOrEnd, BehindName, nothing_read, read_terms}

-- a name has the spelling of one, and a text that of a content; a number, a node name and a mark are sound as they are
abbrev pub IsSound : Lexeme → Type 0
IsSound (Name n) = is_name n ≡ true
IsSound (Quoted t) = is_content t ≡ true
IsSound (Number n) = Unit {0}
IsSound (Node n) = Unit {0}
IsSound (Mark b) = Unit {0}

-- tokens of a line have sound lexemes
abbrev pub TokensAreSound : Type 0
TokensAreSound = (line : List ℕ) (from : ℕ) (tokens : List Token) → AreSlices line from tokens → Each IsSound (lexemes line tokens)

-- a name that was read is a name
abbrev pub IsSoundBehind : Expected → Type 0
IsSoundBehind TermOrEnd = Unit {0}
IsSoundBehind TermOnly = Unit {0}
IsSoundBehind CommaOrEnd = Unit {0}
IsSoundBehind (BehindName name) = is_name name ≡ true

-- the words in terms that are read from sound lexemes are names, and the texts are contents
abbrev pub TextsAreContents : Type 0
TextsAreContents = (close : ℕ) (expected : Expected) (ls : List Lexeme) (ts : List Written) (rest : List Lexeme) →
    IsSoundBehind expected → Each IsSound ls → read_terms close (nothing_read expected) ls ≡ Some (ts, rest) → all_have_contents ts ≡ true
