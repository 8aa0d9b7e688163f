-- The lines of a specification: its roles, its constructors, its sorts, the starts by order of sorts, its offers, its uses, its types,
-- the shapes by order of constructors, the carries by order of sorts, its dependences, the line `free` where it asks for it, and its rules, each list in its order.
use Rattle.std.specs.Prelude.{ℕ, List, [], ◌∷◌, ◌++◌, ◌+◌, ◌-◌, map, length, take, drop, Option, None, Some, codes, if◌then◌else◌}
use Rattle.aw_term.specs.Trees.{Head, Con, Num, Text, Leaf, Made, Trees, Nil, More}
use Rattle.aw_term.specs.Rules.{Term, get}
use Rattle.aw_term.specs.Rules as P
use Rattle.aw_term.specs.WellFormed.{outs_of}
use Rattle.aw_grammar.specs.declared.rule.Con as decl_con
use Rattle.aw_grammar.specs.declared.rule.Sort.{Sort}
use Rattle.aw_grammar.specs.Written.{Written, Word, Apply, Literal, Writtens, Empty, Then, WrittenChild, WrittenRule}
use Rattle.aw_grammar.specs.Declarations.{Entry, Declarations, con_names, sort_names}
use Rattle.aw_face.specs.declared.faces.Using.{Using}
use Rattle.aw_spec.specs.Lines.{Line, RoleLine, ConLine, SortLine, StartLine, OfferLine, UseLine, TypeLine, ShapeLine, CarryLine, DependsLine, FreeLine, RuleLine}
use Rattle.aw_base.specs.declared.declared.Triple.{Triple}
use Rattle.aw_typed.specs.declared.data.Shape.{Shape}
use Rattle.aw_typed.specs.declared.data.Carry.{Carry}
use Rattle.aw_typed.specs.declared.data.Types.{Types}
use Rattle.aw_spec.specs.TypeLines.{type_names}
use Rattle.aw_spec.specs.Reading.{Spec}
use Rattle.aw_spec_writer.specs.LineTexts.{terms_text, text_of_lines}

-- a constructor with its parts, or its bare name where it has none; a number or a text
-- (a number past the last name would be written as nothing, which does not come of a specification that was read)
abbrev pub headed : List (List ℕ) → Head → Writtens → Written
headed cons (Con c) Empty = Word (get [] cons c)
headed cons (Con c) (Then t ts) = Apply (get [] cons c) (Then t ts)
headed cons (Num n) ts = Literal (Num n)
headed cons (Text t) ts = Literal (Text t)

-- a term with its constructors and its variables by name
abbrev mutual
  pub named : List (List ℕ) → List (List ℕ) → Term → Written
  named cons vars (Leaf v) = Word (get [] vars v)
  named cons vars (Made h ts) = headed cons h (named_parts cons vars ts)

  pub named_parts : List (List ℕ) → List (List ℕ) → Trees ℕ → Writtens
  named_parts cons vars Nil = Empty
  named_parts cons vars (More t ts) = Then (named cons vars t) (named_parts cons vars ts)

-- the patterns of a rule in parentheses, and its results in angle brackets
abbrev pub sides_text : List (List ℕ) → List (List ℕ) → List Term → List Term → List ℕ
sides_text cons vars patterns results =
    codes "(" ++ (terms_text (map (named cons vars) patterns) ++ (codes ")<" ++ (terms_text (map (named cons vars) results) ++ codes ">")))

-- a child, whose results are the first of the variables that are left
abbrev pub named_child : List (List ℕ) → List (List ℕ) → List (List ℕ) → List (List ℕ) → P.Child → WrittenChild
named_child cons sorts vars left c = record { sort = get [] sorts c.sort; args = map (named cons vars) c.args; results = take c.outs left }

-- children, of which each has its results from the variables that those before it left
abbrev pub named_children : List (List ℕ) → List (List ℕ) → List (List ℕ) → List (List ℕ) → List P.Child → List WrittenChild
named_children cons sorts vars left [] = []
named_children cons sorts vars left (c ∷ cs) = named_child cons sorts vars left c ∷ named_children cons sorts vars (drop c.outs left) cs

-- the variables that do not enter by patterns, which are the last: the parameters, and then the results of the children
abbrev pub later_variables : Entry → List (List ℕ)
later_variables e = drop (length e.vars - (e.rule.params + outs_of e.rule.children)) e.vars

-- a rule with what it names by name
abbrev pub named_rule : List (List ℕ) → List (List ℕ) → Entry → WrittenRule
named_rule cons sorts e = record {
  name = e.name;
  params = take e.rule.params (later_variables e);
  sort = get [] sorts e.rule.sort;
  patterns = map (named cons e.vars) e.rule.patterns;
  results = map (named cons e.vars) e.rule.results;
  children = named_children cons sorts e.vars (drop e.rule.params (later_variables e)) e.rule.children;
}

-- the line that declares a constructor
abbrev pub con_line : decl_con.Con → Line
con_line c = ConLine c.name c.arity

-- the line that declares a sort, where these are the names of all roles
abbrev pub sort_line : List (List ℕ) → Sort → Line
sort_line roles s = SortLine s.name (get [] roles s.role) s.takes s.gives

-- a line for a start sort, and none for another
abbrev pub start_line : Sort → List Line
start_line s = if s.start then StartLine s.name ∷ [] else []

-- a line for each start sort, in the order of sorts
abbrev pub start_lines : List Sort → List Line
start_lines [] = []
start_lines (s ∷ ss) = start_line s ++ start_lines ss

-- the line of an offered sort, where these are the names of all sorts
abbrev pub offer_line : List (List ℕ) → ℕ → Line
offer_line sorts sort = OfferLine (get [] sorts sort)

-- the line of a use, where these are the names of all roles and of all sorts
abbrev pub use_line : List (List ℕ) → List (List ℕ) → Using → Line
use_line roles sorts u = UseLine (get [] roles u.role) (get [] sorts u.sort)

-- the lines of the declarations, and those of the faces before the rules
abbrev pub declaration_lines : Declarations → List Line
declaration_lines d = map (λ name. RoleLine name) d.roles ++ (map con_line d.cons ++ (map (sort_line d.roles) d.sorts ++ start_lines d.sorts))

-- the lines of the faces: first of what is offered, then of what is used
abbrev pub face_lines : Spec → List Line
face_lines s = map (offer_line (sort_names s.declared)) s.offers ++ map (use_line s.declared.roles (sort_names s.declared)) s.uses

-- a line for each declared type
abbrev pub type_lines : Types → List Line
type_lines t = map (λ name. TypeLine name) t.names

-- the line of a shape of the constructor of this name, where these are the names of all types; none where it has no shape
abbrev pub shape_line : List (List ℕ) → List ℕ → Option Shape → List Line
shape_line all con None = []
shape_line all con (Some x) = ShapeLine con (map (get [] all) x.parts) (get [] all x.own) ∷ []

-- the lines of the shapes, in the order of their constructors
abbrev pub shape_lines : List (List ℕ) → List (Option Shape) → List decl_con.Con → List Line
shape_lines all [] cons = []
shape_lines all (o ∷ os) [] = []
shape_lines all (o ∷ os) (c ∷ cons) = shape_line all c.name o ++ shape_lines all os cons

-- the line of a carry of the sort of this name; none where it has no carry
abbrev pub carry_line : List (List ℕ) → List ℕ → Option Carry → List Line
carry_line all sort None = []
carry_line all sort (Some k) = CarryLine sort (map (get [] all) k.takes) (map (get [] all) k.gives) ∷ []

-- the lines of the carries, in the order of their sorts
abbrev pub carry_lines : List (List ℕ) → List (Option Carry) → List Sort → List Line
carry_lines all [] sorts = []
carry_lines all (o ∷ os) [] = []
carry_lines all (o ∷ os) (s ∷ sorts) = carry_line all s.name o ++ carry_lines all os sorts

-- the line of a dependence, where these are the names of all sorts
abbrev pub depends_line : List (List ℕ) → Triple → Line
depends_line sorts d = DependsLine (get [] sorts d.sort) d.i d.j

-- the lines of types, shapes, carries and dependences
abbrev pub typing_lines : Spec → List Line
typing_lines s =
    let all = type_names s.types in
    type_lines s.types ++ (shape_lines all s.types.shapes s.declared.cons ++ (carry_lines all s.types.carries s.declared.sorts ++ map (depends_line (sort_names s.declared)) s.depends))

-- the line `free`, or none
abbrev pub free_lines : Spec → List Line
free_lines s = if s.free then FreeLine ∷ [] else []

-- a line for each rule
abbrev pub rule_lines : Declarations → List Line
rule_lines d = map (λ (e : Entry). RuleLine (named_rule (con_names d) (sort_names d) e)) d.rules

-- all lines of a specification, in the order in which they are read
abbrev pub spec_lines : Spec → List Line
spec_lines s = declaration_lines s.declared ++ (face_lines s ++ (typing_lines s ++ (free_lines s ++ rule_lines s.declared)))

-- the text of a specification
abbrev pub written : Spec → List ℕ
written s = text_of_lines (spec_lines s)
