-- The lines of a specification, and how each is spelled in lexemes.
use Rattle.std.specs.Prelude.{ℕ, Bool, true, false, List, [], ◌∷◌, ◌++◌, codes}
use Rattle.aw_grammar.specs.Written.{Written, WrittenChild, WrittenRule, side_by_side, Word}
use Rattle.aw_term_reader.specs.Lexemes.{Lexeme, Name, Number, Mark}
use Rattle.aw_term_reader.specs.Terms.{spellings}

-- a line, with the names that it has as they are written
pub data Line : Type 0 where
  RoleLine : (name : List ℕ) → Line
  ConLine : (name : List ℕ) → (arity : ℕ) → Line
  SortLine : (name role : List ℕ) → (takes gives : ℕ) → Line
  StartLine : (sort : List ℕ) → Line
  OfferLine : (sort : List ℕ) → Line
  UseLine : (role sort : List ℕ) → Line
  TypeLine : (name : List ℕ) → Line
  ShapeLine : (con : List ℕ) → (parts : List (List ℕ)) → (own : List ℕ) → Line
  CarryLine : (sort : List ℕ) → (takes gives : List (List ℕ)) → Line
  DependsLine : (sort : List ℕ) → (inherited result : ℕ) → Line
  FreeLine : Line
  RuleLine : (rule : WrittenRule) → Line
  ScheduleLine : (loads : Bool) → Line

-- names as terms: each a bare word
abbrev pub as_words : List (List ℕ) → List Written
as_words [] = []
as_words (n ∷ ns) = Word n ∷ as_words ns

-- `(..)`
abbrev pub in_parentheses : List Written → List Lexeme
in_parentheses ts = Mark 40 ∷ (spellings (side_by_side ts) ++ Mark 41 ∷ [])

-- `<..>`
abbrev pub in_angles : List Written → List Lexeme
in_angles ts = Mark 60 ∷ (spellings (side_by_side ts) ++ Mark 62 ∷ [])

-- nothing, or `{..}`
abbrev pub params_spelling : List (List ℕ) → List Lexeme
params_spelling [] = []
params_spelling (n ∷ ns) = Mark 123 ∷ (spellings (side_by_side (as_words (n ∷ ns))) ++ Mark 125 ∷ [])

-- `SORT(..)<..>`
abbrev pub child_spelling : WrittenChild → List Lexeme
child_spelling c = Name c.sort ∷ (in_parentheses c.args ++ in_angles (as_words c.results))

-- children, each behind a `;`
abbrev pub behind_child : List WrittenChild → List Lexeme
behind_child [] = []
behind_child (c ∷ cs) = Mark 59 ∷ (child_spelling c ++ behind_child cs)

-- nothing, or `=` and the children with `;` between each two
abbrev pub children_spelling : List WrittenChild → List Lexeme
children_spelling [] = []
children_spelling (c ∷ cs) = Mark 61 ∷ (child_spelling c ++ behind_child cs)

-- `rule NAME {..} : SORT(..)<..> = ..`
abbrev pub rule_spelling : WrittenRule → List Lexeme
rule_spelling r =
    Name (codes "rule") ∷ Name r.name ∷ (params_spelling r.params ++ (Mark 58 ∷ Name r.sort ∷ (in_parentheses r.patterns ++ (in_angles r.results ++ children_spelling r.children))))

-- the lexemes of a line, of which the first names its kind
abbrev pub line_spelling : Line → List Lexeme
line_spelling (RoleLine name) = Name (codes "role") ∷ Name name ∷ []
line_spelling (ConLine name arity) = Name (codes "con") ∷ Name name ∷ Number arity ∷ []
line_spelling (SortLine name role takes gives) = Name (codes "sort") ∷ Name name ∷ Name role ∷ Number takes ∷ Number gives ∷ []
line_spelling (StartLine sort) = Name (codes "start") ∷ Name sort ∷ []
line_spelling (OfferLine sort) = Name (codes "offer") ∷ Name sort ∷ []
line_spelling (UseLine role sort) = Name (codes "use") ∷ Name role ∷ Name sort ∷ []
line_spelling (TypeLine name) = Name (codes "type") ∷ Name name ∷ []
line_spelling (ShapeLine con parts own) = Name (codes "shape") ∷ Name con ∷ (in_parentheses (as_words parts) ++ Name own ∷ [])
line_spelling (CarryLine sort takes gives) = Name (codes "carry") ∷ Name sort ∷ (in_parentheses (as_words takes) ++ in_angles (as_words gives))
line_spelling (DependsLine sort i j) = Name (codes "depends") ∷ Name sort ∷ Number i ∷ Number j ∷ []
line_spelling FreeLine = Name (codes "free") ∷ []
line_spelling (RuleLine rule) = rule_spelling rule
line_spelling (ScheduleLine false) = Name (codes "schedule") ∷ []
line_spelling (ScheduleLine true) = Name (codes "schedule") ∷ Number 2 ∷ []
