-- The tokens of a line, with their places in it.
use Rattle.std.specs.Prelude.{◌≡◌, ◌<◌, ◌≤◌, ℕ, zero, suc, ◌+◌, ◌-◌, Bool, true, ◌||◌, ◌==◌, List, [], ◌∷◌, length, take, codes, slice_range, Option}
use Rattle.std.specs.Prelude.{Some, None, is_some, option_map, Result, Ok, Err, if◌then◌else◌}
use Rattle.std.specs.List.{list_any}
use Rattle.aw_spelling.specs.Spelling.{is_letter, is_digit, is_name, number_of, node_name, unquoted, text_behind_quote}
use Rattle.aw_lex.specs.declared.token.Token.{Token}
use Rattle.aw_lex.specs.declared.token.TokenKind.{TokenKind}
use Rattle.aw_lex.specs.declared.token.TokenKind.TheVariants.{Name, Number, Node, Text, Mark}
use Rattle.aw_lex.specs.declared.token.LexFault.{LexFault}
use Rattle.aw_lex.specs.declared.token.LexFault.TheVariants.{Bad, NoMemory}
use Rattle.aw_lex.specs.declared.front.Front.{Front}
use Rattle.aw_lex.specs.declared.front.Front.TheVariants as front

-- space, tab and carriage return
abbrev pub is_blank : ℕ → Bool
is_blank b = (b == 32 || b == 9) || b == 13

-- one of the marks ( ) < > { } , : = and ;
abbrev pub is_mark : ℕ → Bool
is_mark b = list_any (λ mark. b == mark) (codes "()<>{},:=;")

-- a letter, a digit, '_', '#', '/' or '.'
abbrev pub is_word_byte : ℕ → Bool
is_word_byte b = ((((is_letter b || is_digit b) || b == 95) || b == 35) || b == 47) || b == 46

-- what a byte begins: a blank ('b'), a mark ('m'), a text ('q'), a word ('w') or nothing ('-')
abbrev pub begun_by : ℕ → ℕ
begun_by b = if is_blank b then 98 else if is_mark b then 109 else if b == 34 then 113 else if is_word_byte b then 119 else 45

-- how many bytes of a word stand at the front
abbrev pub word_len : List ℕ → ℕ
word_len [] = 0
word_len (b ∷ bs) = if is_word_byte b then suc (word_len bs) else 0

-- A word has to be one name, one number or one node name.
abbrev pub kind_of_word : List ℕ → Option TokenKind
kind_of_word word = if is_name word then Some Name else if is_some (number_of word) then Some Number else if node_name word then Some Node else None

-- a word of this length at the front: a token where it is of a kind
abbrev pub front_of_word : ℕ → Option TokenKind → Front
front_of_word len None = front.Bad
front_of_word len (Some kind) = front.Token kind len

-- behind an opening quote, with what follows the closing quote
abbrev pub front_of_text : List ℕ → Option (List ℕ) → Front
front_of_text bs None = front.Bad
front_of_text bs (Some rest) = front.Token Text (1 + (length bs - length rest))

-- what stands at the front of bytes: a blank, a token of so many bytes, or what is no token
abbrev pub front_of : List ℕ → Front
front_of [] = front.Blank
front_of (b ∷ bs) =
    if is_blank b then front.Blank else
    if is_mark b then front.Token (Mark b) 1 else
    if b == 34 then front_of_text bs (option_map (λ text. text.1) (text_behind_quote bs)) else
    if is_word_byte b then front_of_word (word_len (b ∷ bs)) (kind_of_word (take (word_len (b ∷ bs)) (b ∷ bs))) else
    front.Bad

-- a token has one byte at least, and at most n
abbrev pub Fits : Front → ℕ → Type 0
Fits front.Blank n = Unit {0}
Fits (front.Token kind len) n = (0 < len) × (len ≤ n)
Fits front.Bad n = Unit {0}

-- a token in front of those that follow, where these are tokens
abbrev pub with_token : Token → Result (List Token) ℕ → Result (List Token) ℕ
with_token token (Ok more) = Ok (token ∷ more)
with_token token (Err at) = Err at

-- The tokens from a front on, which stands at a place. What follows a token is looked at past its bytes.
abbrev pub tokens_at : Front → ℕ → (ℕ → Result (List Token) ℕ) → Result (List Token) ℕ
tokens_at front.Blank at more = more 0
tokens_at (front.Token kind len) at more = with_token (record { kind = kind; start = at; end = at + len }) (more (len - 1))
tokens_at front.Bad at more = Err at

-- the tokens of the bytes from a place on, of which the first few belong to the token before
abbrev pub tokens_from : ℕ → ℕ → List ℕ → Result (List Token) ℕ
tokens_from at passed [] = Ok []
tokens_from at (suc passed) (b ∷ bs) = tokens_from (at + 1) passed bs
tokens_from at zero (b ∷ bs) = tokens_at (front_of (b ∷ bs)) at (λ passed. tokens_from (at + 1) passed bs)

-- the tokens of a line, or the place of the first item that is no token
abbrev pub tokens_of : List ℕ → Result (List Token) ℕ
tokens_of line = tokens_from 0 0 line

-- The answer is what these tokens are, unless memory ran out.
abbrev pub Lexed : Result (List Token) LexFault → Result (List Token) ℕ → Type 0
Lexed (Ok found) tokens = tokens ≡ Ok found
Lexed (Err (Bad at)) tokens = tokens ≡ Err at
Lexed (Err NoMemory) tokens = Unit {0}

--- The tokens in a list are these, unless memory ran out.
abbrev pub LexedInto : List Token → Result Unit LexFault → Result (List Token) ℕ → Type 0
LexedInto found (Ok done) tokens = tokens ≡ Ok found
LexedInto found (Err (Bad at)) tokens = tokens ≡ Err at
LexedInto found (Err NoMemory) tokens = Unit {0}

-- bytes that a token of the kind has
abbrev pub Spells : TokenKind → List ℕ → Type 0
Spells Name bs = is_name bs ≡ true
Spells Number bs = is_some (number_of bs) ≡ true
Spells Node bs = node_name bs ≡ true
Spells Text bs = is_some (unquoted bs) ≡ true
Spells (Mark mark) bs = bs ≡ mark ∷ []

-- From a place on the tokens stand in order, each a slice of the line that its kind spells.
abbrev pub AreSlices : List ℕ → ℕ → List Token → Type 0
AreSlices line from [] = Unit {0}
AreSlices line from (token ∷ more) =
    (from ≤ token.start) × (token.start < token.end) × (token.end ≤ length line) × Spells token.kind (slice_range line token.start token.end)
    × AreSlices line token.end more
