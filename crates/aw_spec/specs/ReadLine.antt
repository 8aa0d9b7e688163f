-- Which line the lexemes spell.
use Rattle.std.specs.Prelude.{ℕ, Bool, true, false, List, [], ◌∷◌, Option, None, Some, nat_eq, if◌then◌else◌, codes}
use Rattle.aw_term.specs.Trees.{nats_eq}
use Rattle.aw_grammar.specs.Written.{Written, WrittenChild}
use Rattle.aw_term_reader.specs.Lexemes.{Lexeme, Mark}
use Rattle.aw_term_reader.specs.Forms.{◌>>=◌, name, number, mark, only, terms_between, names_between, names_in_braces}
use Rattle.aw_spec.specs.Lines.{Line, RoleLine, ConLine, SortLine, StartLine, OfferLine, UseLine, TypeLine, ShapeLine, CarryLine, DependsLine, FreeLine, RuleLine, ScheduleLine}

-- a subtask, and nothing behind it
abbrev pub child_of : List Lexeme → Option WrittenChild
child_of ls = do
  sort ← name ls
  args ← terms_between 40 41 sort.1
  results ← names_between 60 62 args.1
  only (record { sort = sort.0; args = args.0; results = results.0 }) results.1

-- x in front of the first list
abbrev pub in_front : {A : Type 0} → A → List (List A) → List (List A)
in_front x [] = (x ∷ []) ∷ []
in_front x (piece ∷ pieces) = (x ∷ piece) ∷ pieces

-- the mark `;`
abbrev pub is_semicolon : Lexeme → Bool
is_semicolon (Mark b) = nat_eq b 59
is_semicolon _ = false

-- the pieces between the marks `;`
abbrev pub pieces : List Lexeme → List (List Lexeme)
pieces [] = [] ∷ []
pieces (l ∷ ls) = if is_semicolon l then [] ∷ pieces ls else in_front l (pieces ls)

-- the subtasks that these pieces spell, where each spells one
abbrev pub children_of : List (List Lexeme) → Option (List WrittenChild)
children_of [] = Some []
children_of (piece ∷ others) = do
  child ← child_of piece
  children ← children_of others
  Some (child ∷ children)

-- what is left behind the results: nothing, or `=` and children
abbrev pub rest_of_rule : List Lexeme → Option (List WrittenChild)
rest_of_rule [] = Some []
rest_of_rule (Mark b ∷ ls) = if nat_eq b 61 then children_of (pieces ls) else None
rest_of_rule _ = None

-- `NAME`, behind the word `role`
abbrev pub role_line : List Lexeme → Option Line
role_line ls = do
  n ← name ls
  only (RoleLine n.0) n.1

-- `NAME PARTS`, with the number of its parts
abbrev pub con_line : List Lexeme → Option Line
con_line ls = do
  n ← name ls
  arity ← number n.1
  only (ConLine n.0 arity.0) arity.1

-- `NAME ROLE TAKES GIVES`, with how many values it inherits and how many results it gives
abbrev pub sort_line : List Lexeme → Option Line
sort_line ls = do
  n ← name ls
  role ← name n.1
  takes ← number role.1
  gives ← number takes.1
  only (SortLine n.0 role.0 takes.0 gives.0) gives.1

-- `SORT`, behind the word `start`
abbrev pub start_line : List Lexeme → Option Line
start_line ls = do
  sort ← name ls
  only (StartLine sort.0) sort.1

-- `SORT`, behind the word `offer`
abbrev pub offer_line : List Lexeme → Option Line
offer_line ls = do
  sort ← name ls
  only (OfferLine sort.0) sort.1

-- `ROLE SORT`
abbrev pub use_line : List Lexeme → Option Line
use_line ls = do
  role ← name ls
  sort ← name role.1
  only (UseLine role.0 sort.0) sort.1

-- `NAME`, behind the word `type`
abbrev pub type_line : List Lexeme → Option Line
type_line ls = do
  n ← name ls
  only (TypeLine n.0) n.1

-- `CON (TYPES) TYPE`
abbrev pub shape_line : List Lexeme → Option Line
shape_line ls = do
  con ← name ls
  parts ← names_between 40 41 con.1
  own ← name parts.1
  only (ShapeLine con.0 parts.0 own.0) own.1

-- `SORT (TYPES)<TYPES>`
abbrev pub carry_line : List Lexeme → Option Line
carry_line ls = do
  sort ← name ls
  takes ← names_between 40 41 sort.1
  gives ← names_between 60 62 takes.1
  only (CarryLine sort.0 takes.0 gives.0) gives.1

-- `SORT INHERITED RESULT`, the two by their numbers
abbrev pub depends_line : List Lexeme → Option Line
depends_line ls = do
  sort ← name ls
  i ← number sort.1
  j ← number i.1
  only (DependsLine sort.0 i.0 j.0) j.1

-- a rule's patterns and results, and its children
abbrev pub sides_of_rule : List Lexeme → Option ((List Written × List Written) × List WrittenChild)
sides_of_rule ls = do
  patterns ← terms_between 40 41 ls
  results ← terms_between 60 62 patterns.1
  children ← rest_of_rule results.1
  Some ((patterns.0, results.0), children)

-- the rule of this name, these parameters and this sort, and of the patterns, results and children behind them
abbrev pub rule_behind : List ℕ → List (List ℕ) → List ℕ → List Lexeme → Option Line
rule_behind rule params sort ls = do
  patterns ← terms_between 40 41 ls
  results ← terms_between 60 62 patterns.1
  children ← rest_of_rule results.1
  Some (RuleLine (record { name = rule; params = params; sort = sort; patterns = patterns.0; results = results.0; children = children }))

-- `NAME {..} : SORT(..)<..> = ..`
abbrev pub rule_line : List Lexeme → Option Line
rule_line ls = do
  n ← name ls
  params ← names_in_braces n.1
  colon ← mark 58 params.1
  sort ← name colon
  rule_behind n.0 params.0 sort.0 sort.1

-- the line of the word `schedule` with this number: 2 alone is a version, that in which messages carry loads
abbrev pub versioned : ℕ × List Lexeme → Option Line
versioned v = if nat_eq v.0 2 then only (ScheduleLine true) v.1 else None

-- the number of a version
abbrev pub version_line : List Lexeme → Option Line
version_line ls = number ls >>= versioned

-- nothing behind the word, or the number of a version
abbrev pub schedule_line : List Lexeme → Option Line
schedule_line [] = Some (ScheduleLine false)
schedule_line (l ∷ ls) = version_line (l ∷ ls)

-- by the first word; the words are not reserved elsewhere
abbrev pub by_word : List ℕ → List Lexeme → Option Line
by_word w ls =
    if nats_eq w (codes "role") then role_line ls else
    if nats_eq w (codes "con") then con_line ls else
    if nats_eq w (codes "sort") then sort_line ls else
    if nats_eq w (codes "start") then start_line ls else
    if nats_eq w (codes "offer") then offer_line ls else
    if nats_eq w (codes "use") then use_line ls else
    if nats_eq w (codes "type") then type_line ls else
    if nats_eq w (codes "shape") then shape_line ls else
    if nats_eq w (codes "carry") then carry_line ls else
    if nats_eq w (codes "depends") then depends_line ls else
    if nats_eq w (codes "free") then only FreeLine ls else
    if nats_eq w (codes "rule") then rule_line ls else
    if nats_eq w (codes "schedule") then schedule_line ls else None

-- the line that these lexemes spell, where they spell one
abbrev pub line_of : List Lexeme → Option Line
line_of ls = do
  word ← name ls
  by_word word.0 word.1
