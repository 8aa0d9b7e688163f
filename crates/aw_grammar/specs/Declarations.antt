-- What is declared, and what it is after one more declaration.
use Rattle.std.specs.Prelude.{ℕ, zero, suc, true, false, List, [], ◌∷◌, ◌++◌, map, length}
use Rattle.aw_name_index.specs.Places.{number_of}
use Rattle.aw_term.specs.Rules as P
use Rattle.aw_term.specs.Artifacts.{Words}
use Rattle.aw_grammar.specs.declared.rule.Con.{Con}
use Rattle.aw_grammar.specs.declared.rule.Sort.{Sort}
use Rattle.aw_grammar.specs.declared.raw.RawCon.{RawCon}
use Rattle.aw_grammar.specs.declared.raw.RawSort.{RawSort}
use Rattle.aw_grammar.specs.GrammarView.{sorts_of}
use Rattle.aw_grammar.specs.Written.{WrittenRule}
use Rattle.aw_grammar.specs.Resolved.{entering, rule_numbered}

-- a rule with its name and the names of its variables
pub record Entry : Type 0 where
  pub name : List ℕ
  pub vars : List (List ℕ)
  pub rule : P.Rule

-- what is declared, each list in the order of its declarations
pub record Declarations : Type 0 where
  pub roles : List (List ℕ)
  pub cons : List Con
  pub sorts : List Sort
  pub rules : List Entry

-- nothing is declared yet
abbrev pub no_declarations : Declarations
no_declarations = record { roles = []; cons = []; sorts = []; rules = [] }

-- the names of the declared constructors, in their order
abbrev pub con_names : Declarations → List (List ℕ)
con_names d = map (λ (c : Con). c.name) d.cons

-- the names of the declared sorts, in their order
abbrev pub sort_names : Declarations → List (List ℕ)
sort_names d = map (λ (s : Sort). s.name) d.sorts

-- the names of the declared rules, in their order
abbrev pub rule_names : Declarations → List (List ℕ)
rule_names d = map (λ (e : Entry). e.name) d.rules

-- the sort at a place is a start sort
abbrev pub with_start_at : List Sort → ℕ → List Sort
with_start_at [] i = []
with_start_at (s ∷ ss) zero = record s { start = true } ∷ ss
with_start_at (s ∷ ss) (suc i) = s ∷ with_start_at ss i

-- a role is declared after the others
abbrev pub with_role : Declarations → List ℕ → Declarations
with_role d name = record d { roles = d.roles ++ name ∷ [] }

-- a constructor is declared after the others
abbrev pub with_con : Declarations → RawCon → Declarations
with_con d c = record d { cons = d.cons ++ record { name = c.name; arity = c.arity } ∷ [] }

-- a sort as it is declared: its role by number, which is declared where the sort has no fault, and no start sort yet
abbrev pub sort_declared : Declarations → RawSort → Sort
sort_declared d s = record { name = s.name; role = number_of s.role d.roles; takes = s.takes; gives = s.gives; start = false }

-- a sort is declared after the others
abbrev pub with_sort : Declarations → RawSort → Declarations
with_sort d s = record d { sorts = d.sorts ++ sort_declared d s ∷ [] }

-- the sort of this name is a start sort; no sort is changed where none has the name, which is a fault
abbrev pub with_start : Declarations → List ℕ → Declarations
with_start d name = record d { sorts = with_start_at d.sorts (number_of name (sort_names d)) }

-- a rule as it is declared: with what it names by number, and the names of its variables as they enter
abbrev pub entry_of : Declarations → WrittenRule → Entry
entry_of d r = record { name = r.name; vars = entering (con_names d) r; rule = rule_numbered (con_names d) (sort_names d) (entering (con_names d) r) r }

-- a rule is declared after the others
abbrev pub with_rule : Declarations → WrittenRule → Declarations
with_rule d r = record d { rules = d.rules ++ entry_of d r ∷ [] }

-- the grammar of these declarations
abbrev pub grammar_in : Declarations → P.Grammar
grammar_in d = record {
  roles = length d.roles;
  arities = map (λ (c : Con). c.arity) d.cons;
  sorts = sorts_of d.sorts;
  rules = map (λ (e : Entry). e.rule) d.rules;
}

-- the names of these declarations
abbrev pub words_in : Declarations → Words
words_in d = record { roles = d.roles; cons = con_names d; sorts = sort_names d; rules = rule_names d }
