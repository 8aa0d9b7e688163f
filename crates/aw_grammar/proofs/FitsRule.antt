-- A written rule without fault stands for a rule that fits.
use Rattle.std.proofs.Common.{◌≡◌, ℕ, zero, suc, ◌+◌, ◌<◌, ◌≤◌, max, nat_eq, nat_lt, nat_le, true, false, not, ◌&&◌, ◌||◌, List, [], ◌∷◌, ◌++◌, length}
use Rattle.std.proofs.Common.{map, Option, Some, None, option_and_then, slice_get, refl, sym, ap, ◌∙◌, subst, arith, length-append}
use Rattle.std.proofs.lemmas.List.{length-map}
use Rattle.std.proofs.lemmas.Bool.{and_parts, eqb-true, ltb-false, not-false, or_parts}
use Rattle.aw_name_index.specs.Places.{place_of, or_else, number_of, stands, all_stand, has_double}
use Rattle.aw_name_index.proofs.Lookups.{place_within}
use Rattle.aw_term.specs.Rules.{upto}
use Rattle.aw_term.specs.Choices as Q
use Rattle.aw_term.specs.WellFormed.{Each, leaves_of, symbols_of, child_symbols, outs_of, takes_of, variables, ChildFits, RuleFits}
use Rattle.aw_grammar.specs.declared.rule.Con.{Con}
use Rattle.aw_grammar.specs.declared.rule.Sort.{Sort}
use Rattle.aw_grammar.specs.declared.rule.Rule.{Rule}
use Rattle.aw_grammar.specs.GrammarView.{sort_of, sorts_of, plain_grammar}
use Rattle.aw_grammar.specs.Written.{Written, WrittenChild, WrittenRule}
use Rattle.aw_grammar.specs.Terms.{args_of, results_of, uses_of, terms_of, all_have_contents, depth_of_all, symbols_in_all, has_contents}
use Rattle.aw_grammar.specs.Resolved.{all_resolved, entering, numbered, child_numbered, rule_numbered}
use Rattle.aw_grammar.specs.Kinds.{sort_called, takes_and_gives, children_fit, all_known, all_have_arities, is_past_counts, is_past_terms, child_sorts, rule_kind, rule_tests}
use Rattle.aw_name_index.proofs.FirstTold.{none_holds}
use Rattle.aw_term.specs.Limits.{most_params, most_children, most_rules, most_inherited, most_results}
use Rattle.aw_grammar.proofs.Added.{listed}
use Rattle.aw_grammar.proofs.Appends.{and_more, known_append, arities_append, depth_append, symbols_append, variables_append, all_append}
use Rattle.aw_grammar.proofs.Numbering.{numbers_first, numbers_below}
use Rattle.aw_grammar.proofs.TermFits.{Sound, sound_fit, numbered_leaves, all_numbered_symbols}

abbrev pub con_names : List Con → List (List ℕ)
con_names cons = map (λ (c : Con). c.name) cons

abbrev pub sort_names : List Sort → List (List ℕ)
sort_names sorts = map (λ (s : Sort). s.name) sorts

-- the sort of this name is declared, and takes and gives this many values
pub record SortHas (sorts : List Sort) (name : List ℕ) (takes gives : ℕ) : Type 0 where
  pub declared : number_of name (sort_names sorts) < length (sorts_of sorts)
  pub takes_so : takes ≡ takes_of (slice_get (sorts_of sorts) (number_of name (sort_names sorts)))
  pub gives_so : gives ≡ Q.gives_of (slice_get (sorts_of sorts) (number_of name (sort_names sorts)))

get_sort : (sorts : List Sort) (i : ℕ) (s : Sort) → slice_get sorts i ≡ Some s → slice_get (sorts_of sorts) i ≡ Some (sort_of s)
get_sort [] i s h = cc
get_sort (t ∷ sorts) zero s h = let same : t ≡ s = cc in ap (λ z. Some (sort_of z)) same
get_sort (t ∷ sorts) (suc i) s h = get_sort sorts i s h

sort_has_at : (sorts : List Sort) (name : List ℕ) (takes gives i : ℕ) (s : Sort) → place_of name (sort_names sorts) ≡ Some i →
    slice_get sorts i ≡ Some s → (nat_eq s.takes takes && nat_eq s.gives gives) ≡ true → SortHas sorts name takes gives
sort_has_at sorts name takes gives i s placed found h =
    let parts = and_parts (nat_eq s.takes takes) (nat_eq s.gives gives) h in
    let at : number_of name (sort_names sorts) ≡ i = ap (or_else (length (sort_names sorts))) placed in
    let got : slice_get (sorts_of sorts) (number_of name (sort_names sorts)) ≡ Some (sort_of s) = ap (slice_get (sorts_of sorts)) at ∙ get_sort sorts i s found in
    let less : i < length (sorts_of sorts) = subst (λ n. i < n) (length-map sorts (λ (z : Sort). z.name) ∙ sym (length-map sorts sort_of)) (place_within name (sort_names sorts) i placed) in
    record {
      declared = subst (λ n. n < length (sorts_of sorts)) (sym at) less;
      takes_so = sym (eqb-true s.takes takes parts.0) ∙ sym (ap takes_of got);
      gives_so = sym (eqb-true s.gives gives parts.1) ∙ sym (ap Q.gives_of got);
    }

sort_has_found : (sorts : List Sort) (name : List ℕ) (takes gives i : ℕ) (o : Option Sort) → place_of name (sort_names sorts) ≡ Some i →
    slice_get sorts i ≡ o → takes_and_gives o takes gives ≡ true → SortHas sorts name takes gives
sort_has_found sorts name takes gives i None placed found h = cc
sort_has_found sorts name takes gives i (Some s) placed found h = sort_has_at sorts name takes gives i s placed found h

sort_has_placed : (sorts : List Sort) (name : List ℕ) (takes gives : ℕ) (o : Option ℕ) → place_of name (sort_names sorts) ≡ o →
    takes_and_gives (option_and_then (λ i. slice_get sorts i) o) takes gives ≡ true → SortHas sorts name takes gives
sort_has_placed sorts name takes gives None placed h = cc
sort_has_placed sorts name takes gives (Some i) placed h = sort_has_found sorts name takes gives i (slice_get sorts i) placed refl h

pub sort_has : (sorts : List Sort) (name : List ℕ) (takes gives : ℕ) → takes_and_gives (sort_called name sorts) takes gives ≡ true → SortHas sorts name takes gives
sort_has sorts name takes gives h = sort_has_placed sorts name takes gives (place_of name (sort_names sorts)) refl h

-- lists of terms that are sound together are sound each
pub contents_append : (xs ys : List Written) → all_have_contents (xs ++ ys) ≡ (all_have_contents xs && all_have_contents ys)
contents_append [] ys = refl
contents_append (x ∷ xs) ys = and_more (has_contents x) (all_have_contents (xs ++ ys)) (all_have_contents xs) (all_have_contents ys) (contents_append xs ys)

pub sound_split : (cons : List Con) (xs ys : List Written) → Sound cons (xs ++ ys) → Sound cons xs × Sound cons ys
sound_split cons xs ys s =
    let k = and_parts (all_known (con_names cons) xs) (all_known (con_names cons) ys) (sym (known_append (con_names cons) xs ys) ∙ s.known) in
    let a = and_parts (all_have_arities cons xs) (all_have_arities cons ys) (sym (arities_append cons xs ys) ∙ s.arities) in
    let e = and_parts (all_have_contents xs) (all_have_contents ys) (sym (contents_append xs ys) ∙ s.contents) in
    let deep : max (depth_of_all xs) (depth_of_all ys) ≤ 32 = subst (λ n. n ≤ 32) (depth_append xs ys) s.shallow in (
      record { known = k.0; arities = a.0; contents = e.0; shallow = omega arith },
      record { known = k.1; arities = a.1; contents = e.1; shallow = omega arith },
    )

-- the variables in these terms enter
abbrev pub Enter : List Con → List (List ℕ) → List Written → Type 0
Enter cons names ts = all_stand (leaves_of (all_resolved (con_names cons) ts)) names ≡ true

enter_split : (cons : List Con) (names : List (List ℕ)) (xs ys : List Written) → Enter cons names (xs ++ ys) → Enter cons names xs × Enter cons names ys
enter_split cons names xs ys h =
    and_parts (all_stand (leaves_of (all_resolved (con_names cons) xs)) names) (all_stand (leaves_of (all_resolved (con_names cons) ys)) names)
    (sym (all_append names (leaves_of (all_resolved (con_names cons) xs)) (leaves_of (all_resolved (con_names cons) ys)))
    ∙ ap (λ ns. all_stand ns names) (sym (variables_append (con_names cons) xs ys)) ∙ h)

enter_each : (cons : List Con) (names : List (List ℕ)) (ts : List Written) → Enter cons names ts → Each (λ v. v < length names) (leaves_of (map (numbered (con_names cons) names) ts))
enter_each cons names ts h =
    subst (Each (λ v. v < length names)) (sym (numbered_leaves (con_names cons) names ts)) (numbers_below (leaves_of (all_resolved (con_names cons) ts)) names h)

-- each child fits
children_fit_each : (roles : List (List ℕ)) (cons : List Con) (sorts : List Sort) (rules : List Rule) (names : List (List ℕ))
    (cs : List WrittenChild) → children_fit sorts cs ≡ true → Sound cons (args_of cs) → Enter cons names (args_of cs) →
    Each (ChildFits (plain_grammar roles cons sorts rules) (length names)) (map (child_numbered (con_names cons) (sort_names sorts) names) cs)
children_fit_each roles cons sorts rules names [] fit sound enter = tt
children_fit_each roles cons sorts rules names (c ∷ cs) fit sound enter =
    let f = and_parts (takes_and_gives (sort_called c.sort sorts) (length c.args) (length c.results)) (children_fit sorts cs) fit in
    let has = sort_has sorts c.sort (length c.args) (length c.results) f.0 in
    let s = sound_split cons c.args (args_of cs) sound in
    let e = enter_split cons names c.args (args_of cs) enter in (
      record {
        declared = has.declared;
        takes = length-map c.args (numbered (con_names cons) names) ∙ has.takes_so;
        gives = has.gives_so;
        terms = sound_fit cons names c.args s.0;
        enter = enter_each cons names c.args e.0;
      },
      children_fit_each roles cons sorts rules names cs f.1 s.1 e.1,
    )

outs_are : (cons sorts names : List (List ℕ)) (cs : List WrittenChild) → outs_of (map (child_numbered cons sorts names) cs) ≡ length (results_of cs)
outs_are cons sorts names [] = refl
outs_are cons sorts names (c ∷ cs) = omega (arith, outs_are cons sorts names cs, length-append c.results (results_of cs))

child_symbols_are : (cons sorts names : List (List ℕ)) (cs : List WrittenChild) → child_symbols (map (child_numbered cons sorts names) cs) ≡ symbols_in_all (args_of cs)
child_symbols_are cons sorts names [] = refl
child_symbols_are cons sorts names (c ∷ cs) =
    omega (arith, all_numbered_symbols cons names c.args, child_symbols_are cons sorts names cs, symbols_append c.args (args_of cs))

-- as many variables enter as the rule says
pub variables_are : (cons sorts : List (List ℕ)) (w : WrittenRule) → variables (rule_numbered cons sorts (entering cons w) w) ≡ length (entering cons w)
variables_are cons sorts w =
    let names = entering cons w in
    let first = leaves_of (all_resolved cons w.patterns) in
    let a : length (leaves_of (map (numbered cons names) w.patterns)) ≡ length first =
    ap length (numbered_leaves cons names w.patterns) ∙ length-map first (λ x. number_of x names) in
    omega (arith, a, outs_are cons sorts names w.children, length-append first (w.params ++ results_of w.children), length-append w.params (results_of w.children))

-- what the tests of a rule leave
pub record NoFault (cons : List Con) (sorts : List Sort) (w : WrittenRule) : Type 0 where
  pub few_params : length w.params ≤ most_params
  pub few_children : length w.children ≤ most_children
  pub few_names : length (entering (con_names cons) w) ≤ 64
  pub few_symbols : symbols_in_all (terms_of w) ≤ 256
  pub own_sort : takes_and_gives (sort_called w.sort sorts) (length w.patterns) (length w.results) ≡ true
  pub child_fits : children_fit sorts w.children ≡ true
  pub sound : Sound cons (terms_of w)
  pub once : has_double (entering (con_names cons) w) ≡ false
  pub enter : Enter cons (entering (con_names cons) w) (uses_of w)

pub rule_fits : (roles : List (List ℕ)) (cons : List Con) (sorts : List Sort) (rules : List Rule) (w : WrittenRule) → NoFault cons sorts w →
    RuleFits (plain_grammar roles cons sorts rules) (rule_numbered (con_names cons) (sort_names sorts) (entering (con_names cons) w) w)
rule_fits roles cons sorts rules w n =
    let names = entering (con_names cons) w in
    let first = leaves_of (all_resolved (con_names cons) w.patterns) in
    let number = λ (x : List ℕ). number_of x names in
    let has = sort_has sorts w.sort (length w.patterns) (length w.results) n.own_sort in
    let s = sound_split cons w.patterns (uses_of w) n.sound in
    let t = sound_split cons (args_of w.children) w.results s.1 in
    let e = enter_split cons names (args_of w.children) w.results n.enter in
    let count = variables_are (con_names cons) (sort_names sorts) w in
    let listed_leaves = numbered_leaves (con_names cons) names w.patterns in
    record {
      declared = has.declared;
      takes = length-map w.patterns (numbered (con_names cons) names) ∙ has.takes_so;
      gives = length-map w.results (numbered (con_names cons) names) ∙ has.gives_so;
      few_params = n.few_params;
      few_children = subst (λ m. m ≤ most_children) (sym (length-map w.children (child_numbered (con_names cons) (sort_names sorts) names))) n.few_children;
      few_variables = subst (λ m. m ≤ 64) (sym count) n.few_names;
      few_symbols = all_symbols_few (con_names cons) (sort_names sorts) names w n.few_symbols;
      numbered = listed_leaves ∙ numbers_first first (w.params ++ results_of w.children) n.once ∙ ap (upto 0) (sym (ap length listed_leaves ∙ length-map first number));
      patterns = sound_fit cons names w.patterns s.0;
      results = sound_fit cons names w.results t.1;
      enter = subst (λ m. Each (λ v. v < m) (leaves_of (map (numbered (con_names cons) names) w.results))) (sym count) (enter_each cons names w.results e.1);
      children = subst (λ m. Each (ChildFits (plain_grammar roles cons sorts rules) m) (map (child_numbered (con_names cons) (sort_names sorts) names) w.children)) (sym count)
          (children_fit_each roles cons sorts rules names w.children n.child_fits t.0 e.0);
    }
  where
    all_symbols_few : (cons sorts names : List (List ℕ)) (w : WrittenRule) → symbols_in_all (terms_of w) ≤ 256 →
        symbols_of (map (numbered cons names) w.patterns) + child_symbols (map (child_numbered cons sorts names) w.children) + symbols_of
        (map (numbered cons names) w.results) ≤ 256
    all_symbols_few cons sorts names w few =
        omega (
          arith,
          few,
          all_numbered_symbols cons names w.patterns,
          child_symbols_are cons sorts names w.children,
          all_numbered_symbols cons names
              w.results,
          symbols_append w.patterns (args_of w.children ++ w.results),
          symbols_append (args_of w.children) w.results,
        )

pub no_fault : (roles : List (List ℕ)) (cons : List Con) (sorts : List Sort) (rules : List Rule) (w : WrittenRule) →
    rule_kind (listed roles cons sorts rules) w ≡ None → all_have_contents (terms_of w) ≡ true → NoFault cons sorts w
no_fault roles cons sorts rules w none contents =
    let d = listed roles cons sorts rules in
    let tests = none_holds (rule_tests d w) none in
    let past = or_parts (is_past_counts d w) (is_past_terms w) tests.0 in
    let a = or_parts (nat_le most_rules (length d.rules)) (nat_lt most_inherited (length w.patterns) || (nat_lt most_results (length w.results)
    || (nat_lt most_params (length w.params) || nat_lt most_children (length w.children)))) past.0 in
    let b = or_parts (nat_lt most_inherited (length w.patterns)) (nat_lt most_results (length w.results) || (nat_lt most_params (length w.params) || nat_lt most_children (length w.children))) a.1 in
    let c = or_parts (nat_lt most_results (length w.results)) (nat_lt most_params (length w.params) || nat_lt most_children (length w.children)) b.1 in
    let e = or_parts (nat_lt most_params (length w.params)) (nat_lt most_children (length w.children)) c.1 in
    let sizes = or_parts (nat_lt 32 (depth_of_all (terms_of w))) (nat_lt 256 (symbols_in_all (terms_of w))) past.1 in
    let unknown = or_parts (not (stands w.sort (sort_names sorts))) (not (all_stand (child_sorts w.children) (sort_names sorts)) || not (all_known (con_names cons) (terms_of w))) tests.1.1.1.1.0 in
    let known = or_parts (not (all_stand (child_sorts w.children) (sort_names sorts))) (not (all_known (con_names cons) (terms_of w))) unknown.1 in
    let differs = or_parts (not (takes_and_gives (sort_called w.sort sorts) (length w.patterns) (length w.results)))
    (not (children_fit sorts w.children) || not (all_have_arities cons (terms_of w))) tests.1.1.1.1.1.0 in
    let arity = or_parts (not (children_fit sorts w.children)) (not (all_have_arities cons (terms_of w))) differs.1 in
    record {
      few_params = ltb-false most_params (length w.params) e.0;
      few_children = ltb-false most_children (length w.children) e.1;
      few_names = ltb-false 64 (length (entering (con_names cons) w)) tests.1.0;
      few_symbols = ltb-false 256 (symbols_in_all (terms_of w)) sizes.1;
      own_sort = not-false (takes_and_gives (sort_called w.sort sorts) (length w.patterns) (length w.results)) differs.0;
      child_fits = not-false (children_fit sorts w.children) arity.0;
      sound = record {
        known = not-false (all_known (con_names cons) (terms_of w)) known.1;
        arities = not-false (all_have_arities cons (terms_of w)) arity.1;
        contents = contents;
        shallow = ltb-false 32 (depth_of_all (terms_of w)) sizes.0;
      };
      once = tests.1.1.1.1.1.1.0;
      enter = not-false (all_stand (leaves_of (all_resolved (con_names cons) (uses_of w))) (entering (con_names cons) w)) tests.1.1.1.1.1.1.1.0;
    }
