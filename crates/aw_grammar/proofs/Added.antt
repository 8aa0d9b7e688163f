-- A grammar stays well formed where a declaration without fault is added.
use Rattle.std.proofs.Common.{◌≡◌, ℕ, true, nat_lt, List, [], ◌∷◌, ◌++◌, map, length, slice_get, Option, Some, None, is_some, option_and_then, subst, sym, refl, ap, ◌∙◌, arith}
use Rattle.std.proofs.lemmas.Bool.{false≢true, leb-false, ltb-false, not-false, or_parts}
use Rattle.std.proofs.Math.Logic.{∥∥₁_map}
use Rattle.aw_spelling.specs.Spelling.{is_name}
use Rattle.aw_name_index.specs.Places.{stands, place_of, number_of, or_else}
use Rattle.aw_name_index.proofs.Lookups.{number_within, stands_is_placed}
use Rattle.aw_term.specs.WellFormed.{SortFits, IsWellFormed}
use Rattle.aw_grammar.specs.declared.rule.Con.{Con}
use Rattle.aw_grammar.specs.declared.rule.Sort.{Sort}
use Rattle.aw_grammar.specs.declared.rule.Rule.{Rule}
use Rattle.aw_grammar.specs.declared.raw.RawCon.{RawCon}
use Rattle.aw_grammar.specs.declared.raw.RawSort.{RawSort}
use Rattle.aw_grammar.specs.declared.fault.DeclKind.TheVariants.{Double, Inherits}
use Rattle.aw_grammar.specs.GrammarView.{sort_of, plain_grammar, plain_words}
use Rattle.aw_grammar.specs.GrammarOf.{entry}
use Rattle.aw_grammar.specs.Declarations.{Declarations, sort_declared, with_start_at}
use Rattle.aw_grammar.specs.Kinds.{role_tests, con_tests, sort_tests, role_kind, con_kind, sort_kind, start_kind, start_kind_of}
use Rattle.aw_name_index.proofs.FirstTold.{none_holds}
use Rattle.aw_term.specs.Limits.{most_cons, most_parts, most_inherited, most_results}
use Rattle.aw_grammar.proofs.Declared.{well_formed_role, well_formed_con, well_formed_sort, well_formed_start, names_of_start}

-- the declarations of these lists
abbrev pub listed : List (List ℕ) → List Con → List Sort → List Rule → Declarations
listed roles cons sorts rules = record { roles = roles; cons = cons; sorts = sorts; rules = map (entry sorts) rules }

-- these lists make a well-formed grammar
abbrev pub Good : List (List ℕ) → List Con → List Sort → List Rule → Type 0
Good roles cons sorts rules = IsWellFormed (plain_words roles cons sorts rules) (plain_grammar roles cons sorts rules)

pub good_role : (roles : List (List ℕ)) (cons : List Con) (sorts : List Sort) (rules : List Rule) (name : List ℕ) (new : List (List ℕ)) →
    new ≡ roles ++ name ∷ [] → sorts ≡ [] → rules ≡ [] → is_name name ≡ true → role_kind (listed roles cons sorts rules) name ≡ None →
    ∥ Good roles cons sorts rules ∥₁ → ∥ Good new cons sorts rules ∥₁
good_role roles cons [] [] name new e no_sorts no_rules named none good =
    let tests = none_holds (role_tests (listed roles cons [] []) name) none in
    ∥∥₁_map good (λ w. subst (λ rs. Good rs cons [] []) (sym e) (well_formed_role roles cons name w named (leb-false 64 (length roles) tests.0) tests.1.0))
good_role roles cons (s ∷ ss) rules name new e no_sorts no_rules named none good = cc
good_role roles cons [] (r ∷ rs) name new e no_sorts no_rules named none good = cc

pub good_con : (roles : List (List ℕ)) (cons : List Con) (sorts : List Sort) (rules : List Rule) (con : RawCon) (new : List Con) →
    new ≡ cons ++ record { name = con.name; arity = con.arity } ∷ [] → rules ≡ [] → is_name con.name ≡ true → con_kind (listed roles cons sorts rules)
    con ≡ None → ∥ Good roles cons sorts rules ∥₁ → ∥ Good roles new sorts rules ∥₁
good_con roles cons sorts [] con new e no_rules named none good =
    let tests = none_holds (con_tests (listed roles cons sorts []) con) none in
    let limits = or_parts _ _ tests.0 in
    ∥∥₁_map good (λ w. subst (λ cs. Good roles cs sorts []) (sym e)
    (well_formed_con roles cons sorts (record { name = con.name; arity = con.arity }) w named (leb-false most_cons (length cons) limits.0) (ltb-false most_parts con.arity limits.1) tests.1.0))
good_con roles cons sorts (r ∷ rs) con new e no_rules named none good = cc

pub good_sort : (roles : List (List ℕ)) (cons : List Con) (sorts : List Sort) (rules : List Rule) (sort : RawSort) (new : List Sort) →
    new ≡ sorts ++ sort_declared (listed roles cons sorts rules) sort ∷ [] → rules ≡ [] → is_name sort.name ≡ true →
    sort_kind (listed roles cons sorts rules) sort ≡ None → ∥ Good roles cons sorts rules ∥₁ → ∥ Good roles cons new rules ∥₁
good_sort roles cons sorts [] sort new e no_rules named none good =
    let tests = none_holds (sort_tests (listed roles cons sorts []) sort) none in
    let few = or_parts _ _ tests.0 in
    let small = or_parts _ _ few.1 in
    let fits : SortFits (length roles) (sort_of (sort_declared (listed roles cons sorts []) sort)) = record {
      declared = number_within sort.role roles (not-false _ tests.1.1.0);
      few_takes = ltb-false most_inherited sort.takes small.0;
      few_gives = ltb-false most_results sort.gives small.1;
      start = λ h. absurd (false≢true h);
    } in
    ∥∥₁_map good (λ w. subst (λ ss. Good roles cons ss []) (sym e)
    (well_formed_sort roles cons sorts (sort_declared (listed roles cons sorts []) sort) w named (leb-false 256 (length sorts) few.0) fits tests.1.0))
good_sort roles cons sorts (r ∷ rs) sort new e no_rules named none good = cc

-- a start without fault names a declared sort that takes nothing
pub record StartFound (name : List ℕ) (sorts : List Sort) : Type 0 where
  pub place : ℕ
  pub sort : Sort
  pub placed : place_of name (map (λ (s : Sort). s.name) sorts) ≡ Some place
  pub found : slice_get sorts place ≡ Some sort
  pub none : sort.takes ≡ 0

start_tests : (s : Sort) → start_kind_of (Some s) ≡ None → s.takes ≡ 0
start_tests s h =
    let tests = none_holds ((s.start, Double) ∷ (nat_lt 0 s.takes, Inherits) ∷ []) h in
    omega (arith, ltb-false 0 s.takes tests.1.0)

start_at_place : (name : List ℕ) (sorts : List Sort) (o : Option ℕ) → o ≡ place_of name (map (λ (s : Sort). s.name) sorts) →
    start_kind_of (option_and_then (λ i. slice_get sorts i) o) ≡ None → StartFound name sorts
start_at_place name sorts None e h = cc
start_at_place name sorts (Some i) e h = start_at_sort (slice_get sorts i) refl h
  where
    start_at_sort : (s : Option Sort) → slice_get sorts i ≡ s → start_kind_of s ≡ None → StartFound name sorts
    start_at_sort None f k = cc
    start_at_sort (Some s) f k = record { place = i; sort = s; placed = sym e; found = f; none = start_tests s k }

pub start_found : (roles : List (List ℕ)) (cons : List Con) (sorts : List Sort) (rules : List Rule) (name : List ℕ) → start_kind (listed roles cons sorts rules) name ≡ None → StartFound name sorts
start_found roles cons sorts rules name h = start_at_place name sorts (place_of name (map (λ (s : Sort). s.name) sorts)) refl h

pub start_stands : (name : List ℕ) (sorts : List Sort) → StartFound name sorts → stands name (map (λ (s : Sort). s.name) sorts) ≡ true
start_stands name sorts found = sym (stands_is_placed name (map (λ (s : Sort). s.name) sorts)) ∙ ap is_some found.placed

pub good_start : (roles : List (List ℕ)) (cons : List Con) (sorts : List Sort) (rules : List Rule) (name : List ℕ) (new : List Sort) →
    new ≡ with_start_at sorts (number_of name (map (λ (s : Sort). s.name) sorts)) → rules ≡ [] → start_kind (listed roles cons sorts rules)
    name ≡ None → ∥ Good roles cons sorts rules ∥₁ → ∥ Good roles cons new rules ∥₁
good_start roles cons sorts [] name new e no_rules none good =
    let found = start_found roles cons sorts [] name none in
    let names = map (λ (s : Sort). s.name) sorts in
    let at : number_of name names ≡ found.place = ap (or_else (length names)) found.placed in
    let now : new ≡ with_start_at sorts found.place = e ∙ ap (with_start_at sorts) at in
    ∥∥₁_map good (λ w. subst (λ ss. Good roles cons ss []) (sym now) (well_formed_start roles cons sorts found.place found.sort w found.found found.none))
good_start roles cons sorts (r ∷ rs) name new e no_rules none good = cc

pub names_after_start : (sorts : List Sort) (name : List ℕ) (new : List Sort) (i : ℕ) → new ≡ with_start_at sorts i → map (λ (s : Sort). s.name) new ≡ map (λ (s : Sort). s.name) sorts
names_after_start sorts name new i e = ap (map (λ (s : Sort). s.name)) e ∙ names_of_start sorts i
