-- What is wrong with a declaration, in the order in which it is told.
use Rattle.std.specs.Prelude.{ℕ, suc, Bool, true, false, ◌&&◌, ◌||◌, not, List, [], ◌∷◌, ◌++◌, map, length, Option, Some, None, slice_get, nat_eq, nat_lt, nat_le, option_and_then}
use Rattle.aw_name_index.specs.Places.{place_of, stands, any_stands, all_stand, has_double, first_told}
use Rattle.aw_term.specs.WellFormed.{leaves_of}
use Rattle.aw_term.specs.Limits.{most_roles, most_cons, most_parts, most_sorts, most_inherited, most_results, most_rules, most_params, most_children, most_levels, most_symbols, most_variables}
use Rattle.aw_grammar.specs.declared.rule.Con.{Con}
use Rattle.aw_grammar.specs.declared.rule.Sort.{Sort}
use Rattle.aw_grammar.specs.declared.raw.RawCon.{RawCon}
use Rattle.aw_grammar.specs.declared.raw.RawSort.{RawSort}
use Rattle.aw_grammar.specs.declared.fault.DeclKind.{DeclKind}
use Rattle.aw_grammar.specs.declared.fault.DeclKind.TheVariants.{Limit, Double, Clash, Unknown, Arity, Twice, Never, Inherits}
use Rattle.aw_grammar.specs.Written.{Written, Word, Apply, Literal, Writtens, Empty, Then, WrittenChild, WrittenRule}
use Rattle.aw_grammar.specs.Terms.{symbols_in_all, depth_of_all, results_of, uses_of, terms_of}
use Rattle.aw_grammar.specs.Resolved.{all_resolved, entering}
use Rattle.aw_grammar.specs.Declarations.{Declarations, con_names, sort_names, rule_names}

-- a role: past the limit, or declared already
abbrev pub role_tests : Declarations → List ℕ → List (Bool × DeclKind)
role_tests d name = (nat_le most_roles (length d.roles), Limit) ∷ (stands name d.roles, Double) ∷ []

-- the first fault of a role, where it has one
abbrev pub role_kind : Declarations → List ℕ → Option DeclKind
role_kind d name = first_told (role_tests d name)

-- a constructor: past the limit or with too many parts, or declared already
abbrev pub con_tests : Declarations → RawCon → List (Bool × DeclKind)
con_tests d c = (nat_le most_cons (length d.cons) || nat_lt most_parts c.arity, Limit) ∷ (stands c.name (con_names d), Double) ∷ []

-- the first fault of a constructor, where it has one
abbrev pub con_kind : Declarations → RawCon → Option DeclKind
con_kind d c = first_told (con_tests d c)

-- a sort: past the limit or with too many inherited values or results, declared already, or of a role that is not declared
abbrev pub sort_tests : Declarations → RawSort → List (Bool × DeclKind)
sort_tests d s =
    (nat_le most_sorts (length d.sorts) || (nat_lt most_inherited s.takes || nat_lt most_results s.gives), Limit)
    ∷ (stands s.name (sort_names d), Double)
    ∷ (not (stands s.role d.roles), Unknown)
    ∷ []

-- the first fault of a sort, where it has one
abbrev pub sort_kind : Declarations → RawSort → Option DeclKind
sort_kind d s = first_told (sort_tests d s)

-- the sort of this name
abbrev pub sort_called : List ℕ → List Sort → Option Sort
sort_called name sorts = option_and_then (λ i. slice_get sorts i) (place_of name (map (λ (s : Sort). s.name) sorts))

-- the first fault of a start, where this is the sort of its name
abbrev pub start_kind_of : Option Sort → Option DeclKind
start_kind_of None = Some Unknown
start_kind_of (Some s) = first_told ((s.start, Double) ∷ (nat_lt 0 s.takes, Inherits) ∷ [])

-- a start: no sort of that name is declared, it is a start sort already, or it takes inherited values
abbrev pub start_kind : Declarations → List ℕ → Option DeclKind
start_kind d name = start_kind_of (sort_called name d.sorts)

-- past the 1,024 rules; more than 8 patterns, results, parameters or children; more than 256 symbols; a term deeper than 32
abbrev pub is_past_counts : Declarations → WrittenRule → Bool
is_past_counts d r =
    nat_le most_rules (length d.rules)
    || (nat_lt most_inherited (length r.patterns)
    || (nat_lt most_results (length r.results) || (nat_lt most_params (length r.params) || nat_lt most_children (length r.children))))

-- a term of the rule is too deep, or too many symbols stand in its terms
abbrev pub is_past_terms : WrittenRule → Bool
is_past_terms r = nat_lt most_levels (depth_of_all (terms_of r)) || nat_lt most_symbols (symbols_in_all (terms_of r))

-- each constructor that is written with parentheses is declared
abbrev mutual
  pub is_known : List (List ℕ) → Written → Bool
  is_known cons (Word x) = true
  is_known cons (Apply x ts) = stands x cons && parts_are_known cons ts
  is_known cons (Literal h) = true

  pub parts_are_known : List (List ℕ) → Writtens → Bool
  parts_are_known cons Empty = true
  parts_are_known cons (Then t ts) = is_known cons t && parts_are_known cons ts

-- each constructor that is written with parentheses in one of these terms is declared
abbrev pub all_known : List (List ℕ) → List Written → Bool
all_known cons [] = true
all_known cons (t ∷ ts) = is_known cons t && all_known cons ts

-- the names of the sorts of children
abbrev pub child_sorts : List WrittenChild → List (List ℕ)
child_sorts [] = []
child_sorts (c ∷ cs) = c.sort ∷ child_sorts cs

-- its sort, the sort of a child, or a constructor with parentheses is not declared
abbrev pub names_unknown : Declarations → WrittenRule → Bool
names_unknown d r = not (stands r.sort (sort_names d)) || (not (all_stand (child_sorts r.children) (sort_names d)) || not (all_known (con_names d) (terms_of r)))

-- the constructor of this name, where it is one, has this number of parts
abbrev pub has_arity : ℕ → Option Con → Bool
has_arity n None = true
has_arity n (Some c) = nat_eq c.arity n

-- the constructor of this name, where one is declared
abbrev pub con_called : List ℕ → List Con → Option Con
con_called name cons = option_and_then (λ i. slice_get cons i) (place_of name (map (λ (c : Con). c.name) cons))

-- how many parts are written
abbrev pub count_parts : Writtens → ℕ
count_parts Empty = 0
count_parts (Then t ts) = suc (count_parts ts)

-- each constructor of a term has as many parts as it is declared with; a bare name has none
abbrev mutual
  pub has_arities : List Con → Written → Bool
  has_arities cons (Word x) = has_arity 0 (con_called x cons)
  has_arities cons (Apply x ts) = has_arity (count_parts ts) (con_called x cons) && parts_have_arities cons ts
  has_arities cons (Literal h) = true

  pub parts_have_arities : List Con → Writtens → Bool
  parts_have_arities cons Empty = true
  parts_have_arities cons (Then t ts) = has_arities cons t && parts_have_arities cons ts

-- each constructor in one of these terms has as many parts as it is declared with
abbrev pub all_have_arities : List Con → List Written → Bool
all_have_arities cons [] = true
all_have_arities cons (t ∷ ts) = has_arities cons t && all_have_arities cons ts

-- the sort takes and gives this many values
abbrev pub takes_and_gives : Option Sort → ℕ → ℕ → Bool
takes_and_gives None takes gives = false
takes_and_gives (Some s) takes gives = nat_eq s.takes takes && nat_eq s.gives gives

-- each child has the arguments and results of its sort
abbrev pub children_fit : List Sort → List WrittenChild → Bool
children_fit sorts [] = true
children_fit sorts (c ∷ cs) = takes_and_gives (sort_called c.sort sorts) (length c.args) (length c.results) && children_fit sorts cs

-- a constructor, its sort or a child's sort has another number of parts, inherited values or results
abbrev pub arity_differs : Declarations → WrittenRule → Bool
arity_differs d r =
    not (takes_and_gives (sort_called r.sort d.sorts) (length r.patterns) (length r.results))
    || (not (children_fit d.sorts r.children) || not (all_have_arities d.cons (terms_of r)))

-- past the limit of variables, declared already, or a parameter or a child's result is a constructor's name
abbrev pub name_tests : Declarations → WrittenRule → List (Bool × DeclKind)
name_tests d r =
    (nat_lt most_variables (length (entering (con_names d) r)), Limit)
    ∷ (stands r.name (rule_names d), Double)
    ∷ (any_stands (r.params ++ results_of r.children) (con_names d), Clash)
    ∷ []

-- a name is not declared, or a number of parts differs
abbrev pub term_tests : Declarations → WrittenRule → List (Bool × DeclKind)
term_tests d r = (names_unknown d r, Unknown) ∷ (arity_differs d r, Arity) ∷ []

-- a variable enters twice, or one that is used does not enter
abbrev pub variable_tests : Declarations → WrittenRule → List (Bool × DeclKind)
variable_tests d r =
    (has_double (entering (con_names d) r), Twice)
    ∷ (not (all_stand (leaves_of (all_resolved (con_names d) (uses_of r))) (entering (con_names d) r)), Never)
    ∷ []

-- a rule: first its sizes, then its names, its terms, and its variables
abbrev pub rule_tests : Declarations → WrittenRule → List (Bool × DeclKind)
rule_tests d r = (is_past_counts d r || is_past_terms r, Limit) ∷ (name_tests d r ++ (term_tests d r ++ variable_tests d r))

-- the first fault of a rule, where it has one
abbrev pub rule_kind : Declarations → WrittenRule → Option DeclKind
rule_kind d r = first_told (rule_tests d r)
