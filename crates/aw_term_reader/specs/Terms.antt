-- Lists of written terms, separated by commas, up to a closing mark.
use Rattle.std.specs.Prelude.{ℕ, List, [], ◌∷◌, ◌++◌, Option, None, Some, nat_eq, if◌then◌else◌, option_map, option_and_then}
use Rattle.aw_term.specs.Trees as P
use Rattle.aw_grammar.specs.Written.{Written, bare_name, Word, Apply, Literal, Writtens, Empty, Then, side_by_side}
use Rattle.aw_term_reader.specs.Lexemes.{Lexeme, Name, Number, Node, Quoted, Mark}

-- a number or a text; a constructor is not spelled so
abbrev pub literal_spelling : P.Head → List Lexeme
literal_spelling (P.Num n) = Number n ∷ []
literal_spelling (P.Text t) = Quoted t ∷ []
literal_spelling (P.Con c) = []

-- how a term is spelled, and how terms are, with a comma (44) between each two
abbrev mutual
  pub spelling : Written → List Lexeme
  spelling (Word name) = Name name ∷ []
  spelling (Apply name parts) = Name name ∷ Mark 40 ∷ (spellings parts ++ Mark 41 ∷ [])
  spelling (Literal h) = literal_spelling h

  pub spellings : Writtens → List Lexeme
  spellings Empty = []
  spellings (Then t ts) = spelling t ++ spellings_behind ts

  pub spellings_behind : Writtens → List Lexeme
  spellings_behind Empty = []
  spellings_behind (Then t ts) = Mark 44 ∷ (spelling t ++ spellings_behind ts)

-- Reading from left to right. What may come next: a term or the end; a term; what follows a term; what follows this bare name.
pub data Expected : Type 0 where
  TermOrEnd : Expected
  TermOnly : Expected
  CommaOrEnd : Expected
  BehindName : (name : List ℕ) → Expected

-- a constructor whose parts are being read, and the terms that stand before it
pub record Opened : Type 0 where
  pub name : List ℕ
  pub before : List Written

-- the constructors that are open, the innermost first, and the terms read so far within the innermost
pub record Reading : Type 0 where
  pub opened : List Opened
  pub terms : List Written
  pub expected : Expected

-- what one lexeme does: reading goes on, the list is at its end, or the lexeme has no place here
pub data Read : Type 0 where
  On : (reading : Reading) → Read
  AtEnd : (terms : List Written) → Read
  Misplaced : Read

-- one more term is read, and a comma or the end comes next
abbrev pub with_term : Reading → Written → Reading
with_term r t = record r { terms = r.terms ++ t ∷ []; expected = CommaOrEnd }

-- a name behind which `(` stands: it is a constructor, and its parts follow
abbrev pub with_opened : Reading → List ℕ → Reading
with_opened r name = record { opened = record { name = name; before = r.terms } ∷ r.opened; terms = []; expected = TermOrEnd }

-- a closing mark: that of the innermost open constructor is `)` (41), that of the whole list is `close`
abbrev pub closed : ℕ → List Opened → List Written → ℕ → Read
closed close [] terms mark = if nat_eq mark close then AtEnd terms else Misplaced
closed close (o ∷ os) terms mark =
    if nat_eq mark 41 then On (record { opened = os; terms = o.before ++ Apply o.name (side_by_side terms) ∷ []; expected = CommaOrEnd }) else Misplaced

-- a lexeme where a term has to begin
abbrev pub at_term : Reading → Lexeme → Read
at_term r (Name name) = On (record r { expected = BehindName name })
at_term r (Number n) = On (with_term r (Literal (P.Num n)))
at_term r (Quoted t) = On (with_term r (Literal (P.Text t)))
at_term r (Node name) = Misplaced
at_term r (Mark mark) = Misplaced

-- a lexeme behind a whole term: a comma (44) or a closing mark
abbrev pub at_comma : ℕ → Reading → Lexeme → Read
at_comma close r (Mark mark) = if nat_eq mark 44 then On (record r { expected = TermOnly }) else closed close r.opened r.terms mark
at_comma close r _ = Misplaced

-- a lexeme where a term or the end may come
abbrev pub at_start : ℕ → Reading → Lexeme → Read
at_start close r (Mark mark) = closed close r.opened r.terms mark
at_start close r l = at_term r l

-- a lexeme behind a bare name: `(` (40) opens its parts, and before a comma or a closing mark the name is a term by itself
abbrev pub behind_name : ℕ → Reading → List ℕ → Lexeme → Read
behind_name close r name (Mark mark) =
    if nat_eq mark 40
    then On (with_opened r name)
    else at_comma close (with_term r (Word name)) (Mark mark)
behind_name close r name _ = Misplaced

-- what a lexeme does where this may come next
abbrev pub read_one : ℕ → Reading → Expected → Lexeme → Read
read_one close r TermOrEnd l = at_start close r l
read_one close r TermOnly l = at_term r l
read_one close r CommaOrEnd l = at_comma close r l
read_one close r (BehindName name) l = behind_name close r name l

-- what comes of one lexeme, where `more` reads on
abbrev pub go_on : {A : Type 0} → Read → (Reading → Option (List Written × A)) → A → Option (List Written × A)
go_on (On r) more rest = more r
go_on (AtEnd terms) more rest = Some (terms, rest)
go_on Misplaced more rest = None

-- the terms up to the closing mark, and what follows it
abbrev pub read_terms : ℕ → Reading → List Lexeme → Option (List Written × List Lexeme)
read_terms close r [] = None
read_terms close r (l ∷ ls) = go_on (read_one close r r.expected l) (λ s. read_terms close s ls) ls

-- nothing is read so far, and this may come first
abbrev pub nothing_read : Expected → Reading
nothing_read expected = record { opened = []; terms = []; expected = expected }

-- a list that may be empty, as between parentheses
abbrev pub terms_up_to : ℕ → List Lexeme → Option (List Written × List Lexeme)
terms_up_to close ls = read_terms close (nothing_read TermOrEnd) ls

-- a list of one or more, as between braces
abbrev pub some_terms_up_to : ℕ → List Lexeme → Option (List Written × List Lexeme)
some_terms_up_to close ls = read_terms close (nothing_read TermOnly) ls

-- the names, where each of these terms is a bare name
abbrev pub names_of : List Written → Option (List (List ℕ))
names_of [] = Some []
names_of (t ∷ ts) = option_and_then (λ name. option_map (λ names. name ∷ names) (names_of ts)) (bare_name t)
