-- What building a grammar answers.
use Rattle.std.specs.Prelude.{◌≡◌, ℕ, suc, Bool, true, ◌&&◌, List, [], ◌∷◌, ◌++◌, Option, Some, None, Result, Ok, Err}
use Rattle.aw_grammar.specs.declared.rule.Sort as decl
use Rattle.aw_grammar.specs.declared.rule.Rule as made
use Rattle.aw_grammar.specs.declared.raw.RawCon.{RawCon}
use Rattle.aw_grammar.specs.declared.raw.RawSort.{RawSort}
use Rattle.aw_grammar.specs.declared.raw.Parts.{Parts}
use Rattle.aw_grammar.specs.declared.raw.RawRule.{RawRule}
use Rattle.aw_grammar.specs.declared.fault.DeclKind.{DeclKind}
use Rattle.aw_grammar.specs.declared.fault.DeclPlace.{DeclPlace}
use Rattle.aw_grammar.specs.declared.fault.DeclPlace.TheVariants as place
use Rattle.aw_grammar.specs.declared.fault.AddFault.{AddFault}
use Rattle.aw_grammar.specs.declared.fault.AddFault.TheVariants as add
use Rattle.aw_grammar.specs.declared.fault.GrammarFault.{GrammarFault}
use Rattle.aw_grammar.specs.declared.fault.GrammarFault.TheVariants as build
use Rattle.aw_grammar.specs.declared.grammar.Grammar.{Grammar}
use Rattle.aw_spelling.specs.Spelling.{is_name}
use Rattle.aw_term.specs.WellFormed.{Each}
use Rattle.aw_grammar.specs.Terms.{all_have_contents, are_names, results_of, terms_of}
use Rattle.aw_grammar.specs.Written.{WrittenRule, rule_of_raw}
use Rattle.aw_grammar.specs.Declarations.{Entry, Declarations, no_declarations, with_role, with_con, with_sort, with_start, with_rule}
use Rattle.aw_grammar.specs.Kinds.{role_kind, con_kind, sort_kind, start_kind, rule_kind}
use Rattle.aw_grammar.specs.GrammarOf.{declarations_of, entry}

-- one declaration more: told is the first kind of fault, and where there is none the grammar declares just this
abbrev pub Added : Option DeclKind → Declarations → Result Grammar AddFault → Type 0
Added kind after (Ok g) = (kind ≡ None) × (declarations_of g ≡ after)
Added kind after (Err (add.Bad k)) = kind ≡ Some k
Added kind after (Err add.NoMemory) = Unit {0}

-- a rule looked at: told is the first kind of fault, and where there is none the rule is this entry
abbrev pub Checked : Option DeclKind → Entry → List decl.Sort → Result made.Rule AddFault → Type 0
Checked kind after sorts (Ok r) = (kind ≡ None) × (entry sorts r ≡ after)
Checked kind after sorts (Err (add.Bad k)) = kind ≡ Some k
Checked kind after sorts (Err add.NoMemory) = Unit {0}

-- one declaration
pub data Declaration : Type 0 where
  Role : (name : List ℕ) → Declaration
  Constructor : (con : RawCon) → Declaration
  Sort : (sort : RawSort) → Declaration
  Start : (name : List ℕ) → Declaration
  Rule : (rule : WrittenRule) → Declaration

-- its name and the names of its variables are names, and its texts are contents
abbrev pub is_spelled : Declaration → Bool
is_spelled (Role name) = is_name name
is_spelled (Constructor c) = is_name c.name
is_spelled (Sort s) = is_name s.name
is_spelled (Start name) = true
is_spelled (Rule r) = is_name r.name && (all_have_contents (terms_of r) && are_names (r.params ++ results_of r.children))

-- in each of these declarations the names are names and the texts are contents
abbrev pub AllSpelled : {P : Type 0} → List (P × Declaration) → Type 0
AllSpelled items = Each (λ x. is_spelled x.1 ≡ true) items

-- what is wrong with a declaration after others
abbrev pub kind_of : Declarations → Declaration → Option DeclKind
kind_of d (Role name) = role_kind d name
kind_of d (Constructor c) = con_kind d c
kind_of d (Sort s) = sort_kind d s
kind_of d (Start name) = start_kind d name
kind_of d (Rule r) = rule_kind d r

-- what is declared after it
abbrev pub declare : Declarations → Declaration → Declarations
declare d (Role name) = with_role d name
declare d (Constructor c) = with_con d c
declare d (Sort s) = with_sort d s
declare d (Start name) = with_start d name
declare d (Rule r) = with_rule d r

-- the fault at this place, or else what is found later
abbrev pub here_or : {P : Type 0} → P → Option DeclKind → Option (P × DeclKind) → Option (P × DeclKind)
here_or p None later = later
here_or p (Some kind) later = Some (p, kind)

-- The first place with a fault, and its first kind. Each declaration is judged by those before it.
abbrev pub first_fault : {P : Type 0} → Declarations → List (P × Declaration) → Option (P × DeclKind)
first_fault d [] = None
first_fault d (x ∷ xs) = here_or x.0 (kind_of d x.1) (first_fault (declare d x.1) xs)

-- what is declared after all of these
abbrev pub declare_all : {P : Type 0} → Declarations → List (P × Declaration) → Declarations
declare_all d [] = d
declare_all d (x ∷ xs) = declare_all (declare d x.1) xs

-- each item as a declaration at its place, counted from i
abbrev pub placed : {A : Type 0} → (ℕ → DeclPlace) → (A → Declaration) → ℕ → List A → List (DeclPlace × Declaration)
placed at wrap i [] = []
placed at wrap i (x ∷ xs) = (at i, wrap x) ∷ placed at wrap (suc i) xs

-- the roles at their places, counted from i
abbrev pub roles_placed : ℕ → List (List ℕ) → List (DeclPlace × Declaration)
roles_placed i names = placed (λ n. place.Role n) (λ name. Role name) i names

-- the constructors at their places, counted from i
abbrev pub cons_placed : ℕ → List RawCon → List (DeclPlace × Declaration)
cons_placed i cons = placed (λ n. place.Con n) (λ c. Constructor c) i cons

-- the sorts at their places, counted from i
abbrev pub sorts_placed : ℕ → List RawSort → List (DeclPlace × Declaration)
sorts_placed i sorts = placed (λ n. place.Sort n) (λ s. Sort s) i sorts

-- the starts at their places, counted from i
abbrev pub starts_placed : ℕ → List (List ℕ) → List (DeclPlace × Declaration)
starts_placed i names = placed (λ n. place.Start n) (λ name. Start name) i names

-- the rules at their places, counted from i
abbrev pub rules_placed : ℕ → List RawRule → List (DeclPlace × Declaration)
rules_placed i rules = placed (λ n. place.Rule n) (λ (r : RawRule). Rule (rule_of_raw r)) i rules

-- all declarations of a specification: roles, constructors, sorts, starts, rules
abbrev pub all_placed : Parts → List (DeclPlace × Declaration)
all_placed p = roles_placed 0 p.roles ++ (cons_placed 0 p.cons ++ (sorts_placed 0 p.sorts ++ (starts_placed 0 p.starts ++ rules_placed 0 p.rules)))

-- a declaration's fault at its place
abbrev pub fault_at : DeclPlace → AddFault → GrammarFault
fault_at p (add.Bad kind) = build.Bad p kind
fault_at p add.NoMemory = build.NoMemory

-- told is the first fault, and where there is none the grammar declares just these
abbrev pub BuiltOn : Declarations → List (DeclPlace × Declaration) → Result Grammar GrammarFault → Type 0
BuiltOn d items (Ok g) = (first_fault d items ≡ None) × (declarations_of g ≡ declare_all d items)
BuiltOn d items (Err (build.Bad place kind)) = first_fault d items ≡ Some (place, kind)
BuiltOn d items (Err build.NoMemory) = Unit {0}

-- told is the first fault of a specification, and where there is none its grammar declares all that the specification does, and nothing else
abbrev pub Built : Parts → Result Grammar GrammarFault → Type 0
Built p result = BuiltOn no_declarations (all_placed p) result
