-- Arguments of a choice as they are read from the bytes of a line at once.
use Rattle.std.specs.Prelude.{◌≡◌, ◌<◌, ◌+◌, ℕ, true, false, List, [], ◌∷◌, ◌++◌, Ok}
use Rattle.std.specs.List.{AllZip}
use Rattle.aw_term.specs.declared.ground.Ground.{Ground}
use Rattle.aw_grammar.specs.declared.rule.Con.{Con}
use Rattle.aw_grammar.specs.Written.{Written, side_by_side}
use Rattle.aw_grammar.specs.Terms.{symbols_in, symbols_in_all}
use Rattle.aw_lex.specs.declared.token.Token.{Token}
use Rattle.aw_lex.specs.Tokens.{is_blank, is_mark, is_word_byte, tokens_of}
use Rattle.aw_term_reader.specs.Lexemes.{Lexeme, Mark, lexemes}
use Rattle.aw_term_reader.specs.Terms.{spelling, spellings}
use Rattle.aw_sched.specs.Arguments.{Means, ReadsAll}

-- the bytes are tokens, and these say the lexemes
abbrev pub Says : List ℕ → List Lexeme → Type 0
Says bytes ls = (tokens : List Token) × (tokens_of bytes ≡ Ok tokens) × (lexemes bytes tokens ≡ ls)

-- the bytes say these lexemes and then what the rest of them says
abbrev pub SaysBefore : List ℕ → List Lexeme → List ℕ → Type 0
SaysBefore bytes front rest = (ls : List Lexeme) → Says rest ls → Says bytes (front ++ ls)

-- nothing, or bytes that do not go on with a word
abbrev pub EndsWord : List ℕ → Type 0
EndsWord [] = Unit {0}
EndsWord (b ∷ bs) = is_word_byte b ≡ false

-- a byte that is a mark
abbrev pub IsMarkByte : ℕ → Type 0
IsMarkByte b = (is_blank b ≡ false) × (is_mark b ≡ true)

-- the bytes begin with a term that means this argument, `rest` is behind it, and so much is left of a room for symbols
pub record TakesArgument (cons : List Con) (depth room : ℕ) (bytes : List ℕ) (x : Ground) (left : ℕ) (rest : List ℕ) : Type 0 where
  pub term : Written
  pub means : Means cons depth term x
  pub spelled : SaysBefore bytes (spelling term) rest
  pub symbols : left + symbols_in term ≡ room

-- the same of one argument or more with a comma between each two and a closing mark behind them
pub record TakesArguments (cons : List Con) (close depth room : ℕ) (bytes : List ℕ) (xs : List Ground) (left : ℕ) (rest : List ℕ) : Type 0 where
  pub terms : List Written
  pub means : AllZip (Means cons depth) terms xs
  pub spelled : SaysBefore bytes (spellings (side_by_side terms) ++ Mark close ∷ []) rest
  pub symbols : left + symbols_in_all terms ≡ room
  pub some : left < room

-- the bytes spell these arguments of a choice and nothing else, and they are within their limits
pub record TakesAll (cons : List Con) (bytes : List ℕ) (xs : List Ground) : Type 0 where
  pub spelled : List Lexeme
  pub says : Says bytes spelled
  pub reads : ReadsAll cons spelled xs
