-- Reading a line from left to right: each reader takes the lexemes that are left, and gives what it read and what is left then.
use Rattle.std.specs.Prelude.{ℕ, List, [], ◌∷◌, Option, None, Some, nat_eq, if◌then◌else◌}
use Rattle.aw_grammar.specs.Written.{Written}
use Rattle.aw_term_reader.specs.Lexemes.{Lexeme, Name, Number, Node, Mark}
use Rattle.aw_term_reader.specs.Terms.{terms_up_to, some_terms_up_to, names_of}

infixl 10 ◌>>=◌
-- what the second reader reads behind the first, where both read something
abbrev pub ◌>>=◌ : {A B : Type 0} → Option A → (A → Option B) → Option B
None >>= f = None
(Some x) >>= f = f x

-- a name
abbrev pub name : List Lexeme → Option (List ℕ × List Lexeme)
name (Name n ∷ ls) = Some (n, ls)
name _ = None

-- a number
abbrev pub number : List Lexeme → Option (ℕ × List Lexeme)
number (Number n ∷ ls) = Some (n, ls)
number _ = None

-- the name of a node
abbrev pub node : List Lexeme → Option (List ℕ × List Lexeme)
node (Node n ∷ ls) = Some (n, ls)
node _ = None

-- this mark; what follows it is left
abbrev pub mark : ℕ → List Lexeme → Option (List Lexeme)
mark byte (Mark b ∷ ls) = if nat_eq b byte then Some ls else None
mark byte _ = None

-- nothing is left
abbrev pub end : List Lexeme → Option (Unit {0})
end [] = Some tt
end (l ∷ ls) = None

-- a value, where nothing is left
abbrev pub only : {A : Type 0} → A → List Lexeme → Option A
only x ls = end ls >>= λ nothing. Some x

-- terms between two marks
abbrev pub terms_between : ℕ → ℕ → List Lexeme → Option (List Written × List Lexeme)
terms_between start close ls = do
  inside ← mark start ls
  terms_up_to close inside

-- names between two marks
abbrev pub names_between : ℕ → ℕ → List Lexeme → Option (List (List ℕ) × List Lexeme)
names_between start close ls = do
  terms ← terms_between start close ls
  names ← names_of terms.0
  Some (names, terms.1)

-- nothing, or one term or more between braces (123 and 125)
abbrev pub terms_in_braces : List Lexeme → Option (List Written × List Lexeme)
terms_in_braces [] = Some ([], [])
terms_in_braces (Mark b ∷ ls) = if nat_eq b 123 then some_terms_up_to 125 ls else Some ([], Mark b ∷ ls)
terms_in_braces (l ∷ ls) = Some ([], l ∷ ls)

-- the same of names
abbrev pub names_in_braces : List Lexeme → Option (List (List ℕ) × List Lexeme)
names_in_braces ls = do
  terms ← terms_in_braces ls
  names ← names_of terms.0
  Some (names, terms.1)
