-- Well-formed grammars: what reading a specification makes sure of.
use Rattle.std.specs.Prelude.{◌≡◌, ◌≢◌, ℕ, suc, ◌+◌, ◌<◌, ◌≤◌, Bool, true, false, ◌&&◌, List, [], ◌∷◌, ◌++◌, length, max, Option, Some, None, slice_get, nat_eq}
use Rattle.aw_spelling.specs.Spelling.{is_name, is_content}
use Rattle.aw_term.specs.Trees.{Head, Con, Num, Text, Tree, Leaf, Made, Trees, Nil, More, count}
use Rattle.aw_term.specs.Rules.{Child, Rule, Sort, Grammar, upto}
use Rattle.aw_term.specs.Choices.{gives_of}
use Rattle.aw_term.specs.Artifacts.{Words}
use Rattle.aw_term.specs.Limits.{most_levels, most_params, most_children, most_variables, most_symbols, most_inherited, most_results, most_roles, most_cons, most_sorts, most_rules, most_parts}

-- P holds of each
abbrev pub Each : {A : Type 0} → (A → Type 0) → List A → Type 0
Each P [] = Unit {0}
Each P (x ∷ xs) = P x × Each P xs

-- R holds of each and each later one
abbrev pub Later : {A : Type 0} → (A → A → Type 0) → List A → Type 0
Later R [] = Unit {0}
Later R (x ∷ xs) = Each (R x) xs × Later R xs

-- no two are the same
abbrev pub Differ : List (List ℕ) → Type 0
Differ names = Later (λ a b. a ≢ b) names

-- the leaves of a tree, from left to right
abbrev mutual
  pub leaves : {A : Type 0} → Tree A → List A
  leaves (Leaf x) = x ∷ []
  leaves (Made h ts) = all_leaves ts

  pub all_leaves : {A : Type 0} → Trees A → List A
  all_leaves Nil = []
  all_leaves (More t ts) = leaves t ++ all_leaves ts

-- the leaves of some trees
abbrev pub leaves_of : {A : Type 0} → List (Tree A) → List A
leaves_of [] = []
leaves_of (t ∷ ts) = leaves t ++ leaves_of ts

-- how many constructors, numbers, texts and leaves stand in a tree
abbrev mutual
  pub symbols : {A : Type 0} → Tree A → ℕ
  symbols (Leaf x) = 1
  symbols (Made h ts) = suc (all_symbols ts)

  pub all_symbols : {A : Type 0} → Trees A → ℕ
  all_symbols Nil = 0
  all_symbols (More t ts) = symbols t + all_symbols ts

-- how many symbols stand in some trees together
abbrev pub symbols_of : {A : Type 0} → List (Tree A) → ℕ
symbols_of [] = 0
symbols_of (t ∷ ts) = symbols t + symbols_of ts

-- how deep a tree is: a leaf, a number, a text and a constructor without parts are 1 deep
abbrev mutual
  pub nesting : {A : Type 0} → Tree A → ℕ
  nesting (Leaf x) = 1
  nesting (Made h ts) = suc (all_nesting ts)

  pub all_nesting : {A : Type 0} → Trees A → ℕ
  all_nesting Nil = 0
  all_nesting (More t ts) = max (nesting t) (all_nesting ts)

-- a constructor is declared with this number of parts; a number and a text have none, and a text is a content
abbrev pub head_fits : List ℕ → Head → ℕ → Bool
head_fits arities (Con c) n = option_is n (slice_get arities c)
  where
    option_is : ℕ → Option ℕ → Bool
    option_is n None = false
    option_is n (Some m) = nat_eq m n
head_fits arities (Num m) n = nat_eq n 0
head_fits arities (Text t) n = nat_eq n 0 && is_content t

-- each head of the tree fits
abbrev mutual
  pub heads_fit : {A : Type 0} → List ℕ → Tree A → Bool
  heads_fit arities (Leaf x) = true
  heads_fit arities (Made h ts) = head_fits arities h (count ts) && all_heads_fit arities ts

  pub all_heads_fit : {A : Type 0} → List ℕ → Trees A → Bool
  all_heads_fit arities Nil = true
  all_heads_fit arities (More t ts) = heads_fit arities t && all_heads_fit arities ts

-- a written term: its heads fit, and it is not too deep
pub record TermFits {A : Type 0} (arities : List ℕ) (t : Tree A) : Type 0 where
  pub heads : heads_fit arities t ≡ true
  pub depth : nesting t ≤ most_levels

-- how many inherited values a sort takes; 0 where no such sort is declared, which a well-formed grammar excludes by `declared`
abbrev pub takes_of : Option Sort → ℕ
takes_of None = 0
takes_of (Some s) = s.takes

-- a subtask has the arguments and the results that its sort says
pub record ChildFits (g : Grammar) (variables : ℕ) (c : Child) : Type 0 where
  pub declared : c.sort < length g.sorts
  pub takes : length c.args ≡ takes_of (slice_get g.sorts c.sort)
  pub gives : c.outs ≡ gives_of (slice_get g.sorts c.sort)
  pub terms : Each (TermFits g.arities) c.args
  pub enter : Each (λ v. v < variables) (leaves_of c.args)

-- how many results some subtasks give together
abbrev pub outs_of : List Child → ℕ
outs_of [] = 0
outs_of (c ∷ cs) = c.outs + outs_of cs

-- how many symbols stand in the arguments of some subtasks together
abbrev pub child_symbols : List Child → ℕ
child_symbols [] = 0
child_symbols (c ∷ cs) = symbols_of c.args + child_symbols cs

-- how many variables enter: in patterns, as parameters, as results of children
abbrev pub variables : Rule → ℕ
variables r = length (leaves_of r.patterns) + r.params + outs_of r.children

-- A rule has the patterns and the results that its sort says, its numbers of things are within the limits, and all that it writes fits. Each variable
-- that it uses enters, and those of its patterns are numbered as they stand.
pub record RuleFits (g : Grammar) (r : Rule) : Type 0 where
  pub declared : r.sort < length g.sorts
  pub takes : length r.patterns ≡ takes_of (slice_get g.sorts r.sort)
  pub gives : length r.results ≡ gives_of (slice_get g.sorts r.sort)
  pub few_params : r.params ≤ most_params
  pub few_children : length r.children ≤ most_children
  pub few_variables : variables r ≤ most_variables
  pub few_symbols : symbols_of r.patterns + child_symbols r.children + symbols_of r.results ≤ most_symbols
  pub numbered : leaves_of r.patterns ≡ upto 0 (length (leaves_of r.patterns))
  pub patterns : Each (TermFits g.arities) r.patterns
  pub results : Each (TermFits g.arities) r.results
  pub enter : Each (λ v. v < variables r) (leaves_of r.results)
  pub children : Each (ChildFits g (variables r)) r.children

-- a sort is at a declared role, has few inherited values and results, and none inherited at a start
pub record SortFits (roles : ℕ) (s : Sort) : Type 0 where
  pub declared : s.role < roles
  pub few_takes : s.takes ≤ most_inherited
  pub few_gives : s.gives ≤ most_results
  pub start : s.start ≡ true → s.takes ≡ 0

-- The limits on counts, the names, one for each declaration, and that everything written fits what is declared.
-- What is asked of the names of variables, which a grammar does not hold, is `VariablesFit` in specs/Variables of aw_grammar.
pub record IsWellFormed (w : Words) (g : Grammar) : Type 0 where
  pub roles : g.roles ≡ length w.roles
  pub all_cons : length g.arities ≡ length w.cons
  pub all_sorts : length g.sorts ≡ length w.sorts
  pub all_rules : length g.rules ≡ length w.rules
  pub few_roles : length w.roles ≤ most_roles
  pub few_cons : length w.cons ≤ most_cons
  pub few_sorts : length w.sorts ≤ most_sorts
  pub few_rules : length w.rules ≤ most_rules
  pub names : Each (λ n. is_name n ≡ true) (w.roles ++ (w.cons ++ (w.sorts ++ w.rules)))
  pub roles_differ : Differ w.roles
  pub cons_differ : Differ w.cons
  pub sorts_differ : Differ w.sorts
  pub rules_differ : Differ w.rules
  pub arities : Each (λ n. n ≤ most_parts) g.arities
  pub sorts : Each (SortFits g.roles) g.sorts
  pub rules : Each (RuleFits g) g.rules
