-- How the lines of a specification are laid out in bytes: one space between words, behind each comma, before `{`, and on both sides of `:`, `=` and `;`.
use Rattle.std.specs.Prelude.{ℕ, true, false, List, [], ◌∷◌, ◌++◌, codes}
use Rattle.std.specs.Fmt.{decimal}
use Rattle.aw_spelling.specs.Spelling.{quoted}
use Rattle.aw_term.specs.Trees.{Head, Con, Num, Text}
use Rattle.aw_grammar.specs.Written.{Written, Word, Apply, Literal, Writtens, Empty, Then, WrittenChild, WrittenRule, side_by_side}
use Rattle.aw_spec.specs.Lines.{Line, RoleLine, ConLine, SortLine, StartLine, OfferLine, UseLine, TypeLine, ShapeLine, CarryLine, DependsLine, FreeLine, RuleLine, ScheduleLine, as_words}

-- a number or a text; a constructor is not written so
abbrev pub literal_text : Head → List ℕ
literal_text (Num n) = decimal n
literal_text (Text t) = quoted t
literal_text (Con c) = []

-- a term, as `blood(who)`, and terms with a comma and a space between each two
abbrev mutual
  pub term_text : Written → List ℕ
  term_text (Word name) = name
  term_text (Apply name parts) = name ++ (codes "(" ++ (parts_text parts ++ codes ")"))
  term_text (Literal h) = literal_text h

  pub parts_text : Writtens → List ℕ
  parts_text Empty = []
  parts_text (Then t ts) = term_text t ++ parts_behind ts

  pub parts_behind : Writtens → List ℕ
  parts_behind Empty = []
  parts_behind (Then t ts) = codes ", " ++ (term_text t ++ parts_behind ts)

-- terms with a comma and a space between each two
abbrev pub terms_text : List Written → List ℕ
terms_text ts = parts_text (side_by_side ts)

-- names with a comma and a space between each two
abbrev pub names_text : List (List ℕ) → List ℕ
names_text ns = terms_text (as_words ns)

-- nothing, or ` {..}`
abbrev pub params_text : List (List ℕ) → List ℕ
params_text [] = []
params_text (n ∷ ns) = codes " {" ++ (names_text (n ∷ ns) ++ codes "}")

-- `SORT(..)<..>`
abbrev pub child_text : WrittenChild → List ℕ
child_text c = c.sort ++ (codes "(" ++ (terms_text c.args ++ (codes ")<" ++ (names_text c.results ++ codes ">"))))

-- children, each behind a ` ; `
abbrev pub children_behind : List WrittenChild → List ℕ
children_behind [] = []
children_behind (c ∷ cs) = codes " ; " ++ (child_text c ++ children_behind cs)

-- nothing, or ` = ` and the children with ` ; ` between each two
abbrev pub children_text : List WrittenChild → List ℕ
children_text [] = []
children_text (c ∷ cs) = codes " = " ++ (child_text c ++ children_behind cs)

-- `rule NAME {..} : SORT(..)<..> = ..`
abbrev pub rule_text : WrittenRule → List ℕ
rule_text r =
    codes "rule " ++ (r.name ++ (params_text r.params ++ (codes " : " ++ (r.sort
    ++ (codes "(" ++ (terms_text r.patterns ++ (codes ")<" ++ (terms_text r.results ++ (codes ">" ++ children_text r.children)))))))))

-- a line, without its line feed
abbrev pub line_text : Line → List ℕ
line_text (RoleLine name) = codes "role " ++ name
line_text (ConLine name arity) = codes "con " ++ (name ++ (codes " " ++ decimal arity))
line_text (SortLine name role takes gives) =
    codes "sort " ++ (name ++ (codes " " ++ (role ++ (codes " " ++ (decimal takes ++ (codes " " ++ decimal gives))))))
line_text (StartLine sort) = codes "start " ++ sort
line_text (OfferLine sort) = codes "offer " ++ sort
line_text (UseLine role sort) = codes "use " ++ (role ++ (codes " " ++ sort))
line_text (TypeLine name) = codes "type " ++ name
line_text (ShapeLine con parts own) = codes "shape " ++ (con ++ (codes " (" ++ (names_text parts ++ (codes ") " ++ own))))
line_text (CarryLine sort takes gives) = codes "carry " ++ (sort ++ (codes " (" ++ (names_text takes ++ (codes ")<" ++ (names_text gives ++ codes ">")))))
line_text (DependsLine sort i j) = codes "depends " ++ (sort ++ (codes " " ++ (decimal i ++ (codes " " ++ decimal j))))
line_text FreeLine = codes "free"
line_text (RuleLine rule) = rule_text rule
line_text (ScheduleLine false) = codes "schedule"
line_text (ScheduleLine true) = codes "schedule " ++ decimal 2

-- lines, each with its line feed
abbrev pub text_of_lines : List Line → List ℕ
text_of_lines [] = []
text_of_lines (l ∷ ls) = line_text l ++ (codes "\n" ++ text_of_lines ls)
