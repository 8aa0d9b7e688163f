-- A grammar stays well formed where a role, a constructor or a sort is declared, and where a sort becomes a start.
use Rattle.std.proofs.Common.{◌≡◌, ℕ, zero, suc, ◌<◌, ◌≤◌, true, false, List, [], ◌∷◌, ◌++◌, map, length, slice_get, Some, subst, sym, refl, ap, ◌∙◌, arith, length-append, get_or}
use Rattle.std.proofs.Math.ListN.{set}
use Rattle.std.proofs.lemmas.List.{length-map, map-append}
use Rattle.aw_spelling.specs.Spelling.{is_name}
use Rattle.aw_name_index.specs.Places.{stands}
use Rattle.aw_term.specs.WellFormed.{Each, Differ, SortFits, IsWellFormed}
use Rattle.aw_grammar.specs.declared.rule.Con.{Con}
use Rattle.aw_grammar.specs.declared.rule.Sort.{Sort}
use Rattle.aw_grammar.specs.GrammarView.{sort_of, sorts_of, plain_grammar, plain_words}
use Rattle.aw_grammar.specs.Declarations.{with_start_at}
use Rattle.aw_term.proofs.Eaches.{each_push}
use Rattle.aw_term.specs.Limits.{most_parts}
use Rattle.aw_grammar.proofs.Counted.{cons_counted, sorts_counted}
use Rattle.aw_grammar.proofs.Growth.{differ_push, four_from, four_to}

length_push : {A : Type 0} (xs : List A) (x : A) (n : ℕ) → length xs < n → length (xs ++ x ∷ []) ≤ n
length_push xs x n less = omega (arith, length-append xs (x ∷ []))

pub well_formed_role : (roles : List (List ℕ)) (cons : List Con) (name : List ℕ) → IsWellFormed (plain_words roles cons [] [])
    (plain_grammar roles cons [] []) → is_name name ≡ true → length roles < 64 → stands name roles ≡ false →
    IsWellFormed (plain_words (roles ++ name ∷ []) cons [] []) (plain_grammar (roles ++ name ∷ []) cons [] [])
well_formed_role roles cons name w named few absent =
    let names = four_from (λ n. is_name n ≡ true) roles (map (λ (c : Con). c.name) cons) [] [] w.names in
    record {
      roles = refl;
      all_cons = w.all_cons;
      all_sorts = refl;
      all_rules = refl;
      few_roles = length_push roles name 64 few;
      few_cons = w.few_cons;
      few_sorts = w.few_sorts;
      few_rules = w.few_rules;
      names = four_to (λ n. is_name n ≡ true) (roles ++ name ∷ []) (map (λ (c : Con). c.name) cons) [] [] (each_push (λ n. is_name n ≡ true) roles name names.roles_fit named) names.cons_fit tt tt;
      roles_differ = differ_push roles name w.roles_differ absent;
      cons_differ = w.cons_differ;
      sorts_differ = tt;
      rules_differ = tt;
      arities = w.arities;
      sorts = tt;
      rules = tt;
    }

pub well_formed_con : (roles : List (List ℕ)) (cons : List Con) (sorts : List Sort) (con : Con) → IsWellFormed (plain_words roles cons sorts [])
    (plain_grammar roles cons sorts []) → is_name con.name ≡ true → length cons < 1024 → con.arity ≤ most_parts →
    stands con.name (map (λ (c : Con). c.name) cons) ≡ false → IsWellFormed (plain_words roles (cons ++ con ∷ []) sorts [])
    (plain_grammar roles (cons ++ con ∷ []) sorts [])
well_formed_con roles cons sorts con w named few small absent =
    let old = map (λ (c : Con). c.name) cons in
    let sort_names = map (λ (s : Sort). s.name) sorts in
    let names = four_from (λ n. is_name n ≡ true) roles old sort_names [] w.names in
    let pushed : old ++ con.name ∷ [] ≡ map (λ (c : Con). c.name) (cons ++ con ∷ []) = sym (map-append (λ (c : Con). c.name) cons (con ∷ [])) in
    let few_old : length old < 1024 = omega (arith, length-map cons (λ (c : Con). c.name)) in
    record {
      roles = refl;
      all_cons = cons_counted (cons ++ con ∷ []);
      all_sorts = w.all_sorts;
      all_rules = refl;
      few_roles = w.few_roles;
      few_cons = subst (λ ns. length ns ≤ 1024) pushed (length_push old con.name 1024 few_old);
      few_sorts = w.few_sorts;
      few_rules = w.few_rules;
      names = four_to (λ n. is_name n ≡ true) roles (map (λ (c : Con). c.name) (cons ++ con ∷ [])) sort_names [] names.roles_fit
          (subst (λ ns. Each (λ n. is_name n ≡ true) ns) pushed (each_push (λ n. is_name n ≡ true) old con.name names.cons_fit named)) names.sorts_fit tt;
      roles_differ = w.roles_differ;
      cons_differ = subst (λ ns. Differ ns) pushed (differ_push old con.name w.cons_differ absent);
      sorts_differ = w.sorts_differ;
      rules_differ = tt;
      arities = subst (λ ns. Each (λ n. n ≤ most_parts) ns) (sym (map-append (λ (c : Con). c.arity) cons (con ∷ [])))
          (each_push (λ n. n ≤ most_parts) (map (λ (c : Con). c.arity) cons) con.arity w.arities small);
      sorts = w.sorts;
      rules = tt;
    }

pub well_formed_sort : (roles : List (List ℕ)) (cons : List Con) (sorts : List Sort) (sort : Sort) → IsWellFormed (plain_words roles cons sorts [])
    (plain_grammar roles cons sorts []) → is_name sort.name ≡ true → length sorts < 256 → SortFits (length roles) (sort_of sort) →
    stands sort.name (map (λ (s : Sort). s.name) sorts) ≡ false → IsWellFormed (plain_words roles cons (sorts ++ sort ∷ []) [])
    (plain_grammar roles cons (sorts ++ sort ∷ []) [])
well_formed_sort roles cons sorts sort w named few fits absent =
    let old = map (λ (s : Sort). s.name) sorts in
    let con_names = map (λ (c : Con). c.name) cons in
    let names = four_from (λ n. is_name n ≡ true) roles con_names old [] w.names in
    let pushed : old ++ sort.name ∷ [] ≡ map (λ (s : Sort). s.name) (sorts ++ sort ∷ []) = sym (map-append (λ (s : Sort). s.name) sorts (sort ∷ [])) in
    let few_old : length old < 256 = omega (arith, length-map sorts (λ (s : Sort). s.name)) in
    record {
      roles = refl;
      all_cons = w.all_cons;
      all_sorts = sorts_counted (sorts ++ sort ∷ []);
      all_rules = refl;
      few_roles = w.few_roles;
      few_cons = w.few_cons;
      few_sorts = subst (λ ns. length ns ≤ 256) pushed (length_push old sort.name 256 few_old);
      few_rules = w.few_rules;
      names = four_to (λ n. is_name n ≡ true) roles con_names (map (λ (s : Sort). s.name) (sorts ++ sort ∷ [])) [] names.roles_fit names.cons_fit
          (subst (λ ns. Each (λ n. is_name n ≡ true) ns) pushed (each_push (λ n. is_name n ≡ true) old sort.name names.sorts_fit named)) tt;
      roles_differ = w.roles_differ;
      cons_differ = w.cons_differ;
      sorts_differ = subst (λ ns. Differ ns) pushed (differ_push old sort.name w.sorts_differ absent);
      rules_differ = tt;
      arities = w.arities;
      sorts = subst (λ ss. Each (SortFits (length roles)) ss) (sym (map-append sort_of sorts (sort ∷ []))) (each_push (SortFits (length roles)) (sorts_of sorts) (sort_of sort) w.sorts fits);
      rules = tt;
    }

-- a start keeps the names
pub names_of_start : (sorts : List Sort) (i : ℕ) → map (λ (s : Sort). s.name) (with_start_at sorts i) ≡ map (λ (s : Sort). s.name) sorts
names_of_start [] i = refl
names_of_start (s ∷ sorts) zero = refl
names_of_start (s ∷ sorts) (suc i) = ap (λ ns. s.name ∷ ns) (names_of_start sorts i)

starts_fit : (roles : ℕ) (sorts : List Sort) (i : ℕ) (sort : Sort) → slice_get sorts i ≡ Some sort → sort.takes ≡ 0 → Each (SortFits roles)
    (sorts_of sorts) → Each (SortFits roles) (sorts_of (with_start_at sorts i))
starts_fit roles [] i sort found none each = tt
starts_fit roles (s ∷ sorts) zero sort found none each =
    let same : s ≡ sort = cc in
    let old = each.0 in
    (record { declared = old.declared; few_takes = old.few_takes; few_gives = old.few_gives; start = λ e. ap (λ (z : Sort). z.takes) same ∙ none }, each.1)
starts_fit roles (s ∷ sorts) (suc i) sort found none each = (each.0, starts_fit roles sorts i sort found none each.1)

pub well_formed_start : (roles : List (List ℕ)) (cons : List Con) (sorts : List Sort) (i : ℕ) (sort : Sort) →
    IsWellFormed (plain_words roles cons sorts []) (plain_grammar roles cons sorts []) → slice_get sorts i ≡ Some sort → sort.takes ≡ 0 →
    IsWellFormed (plain_words roles cons (with_start_at sorts i) []) (plain_grammar roles cons (with_start_at sorts i) [])
well_formed_start roles cons sorts i sort w found none =
    let same = sym (names_of_start sorts i) in
    record {
      roles = refl;
      all_cons = w.all_cons;
      all_sorts = sorts_counted (with_start_at sorts i);
      all_rules = refl;
      few_roles = w.few_roles;
      few_cons = w.few_cons;
      few_sorts = subst (λ ns. length ns ≤ 256) same w.few_sorts;
      few_rules = w.few_rules;
      names = subst (λ ns. Each (λ n. is_name n ≡ true) (roles ++ (map (λ (c : Con). c.name) cons ++ (ns ++ [])))) same w.names;
      roles_differ = w.roles_differ;
      cons_differ = w.cons_differ;
      sorts_differ = subst (λ ns. Differ ns) same w.sorts_differ;
      rules_differ = tt;
      arities = w.arities;
      sorts = starts_fit (length roles) sorts i sort found none w.sorts;
      rules = tt;
    }

pub set_starts : (sorts : List Sort) (i : ℕ) (s : Sort) → s ≡ get_or sorts i s → i < length sorts → set sorts i (record s { start = true }) ≡ with_start_at sorts i
set_starts [] i s e less = absurd (omega arith)
set_starts (t ∷ sorts) zero s e less = ap (λ (z : Sort). record z { start = true } ∷ sorts) e
set_starts (t ∷ sorts) (suc i) s e less = ap (λ ss. t ∷ ss) (set_starts sorts i s e (omega arith))
