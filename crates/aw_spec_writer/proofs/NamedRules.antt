-- A rule that fits, with its names, is without fault, and is declared as itself.
use Rattle.std.proofs.Common.{◌≡◌, ℕ, zero, suc, ◌+◌, ◌-◌, ◌<◌, ◌≤◌, refl, sym, ap, ◌∙◌, subst, true, false, List, [], ◌∷◌, ◌++◌, length, map, take}
use Rattle.std.proofs.Common.{drop, Some, None, option_and_then, slice_get, arith, length-drop}
use Rattle.std.proofs.Math.Seq.{take-add}
use Rattle.std.proofs.lemmas.List.{length-map, length-take-le, take_all, take-append-drop}
use Rattle.std.proofs.lemmas.Bool.{and_from, or_from, not_from_true, eq-eqb, le-ltb, lt-leb}
use Rattle.aw_name_index.specs.Places.{stands, all_stand, has_double}
use Rattle.aw_term.specs.Rules as P
use Rattle.aw_term.specs.Rules.{Term, get}
use Rattle.aw_term.specs.Choices.{gives_of}
use Rattle.aw_term.specs.WellFormed.{Each, Differ, leaves_of, child_symbols, outs_of, takes_of, TermFits, ChildFits, RuleFits, SortFits}
use Rattle.aw_term.proofs.Eaches.{each_append}
use Rattle.aw_grammar.specs.declared.rule.Con as decl
use Rattle.aw_grammar.specs.declared.rule.Sort.{Sort}
use Rattle.aw_grammar.specs.GrammarView.{sort_of, sorts_of}
use Rattle.aw_grammar.specs.Terms.{args_of, results_of, terms_of, depth_of_all, symbols_in_all}
use Rattle.aw_grammar.specs.Resolved.{all_resolved, entering, child_numbered, rule_numbered}
use Rattle.aw_grammar.specs.Declarations.{Entry, Declarations, con_names, sort_names, rule_names, entry_of, grammar_in}
use Rattle.aw_grammar.specs.Kinds.{sort_called, takes_and_gives, children_fit, child_sorts, all_known, all_have_arities, rule_kind, rule_tests, is_past_counts, is_past_terms}
use Rattle.aw_name_index.proofs.FirstTold.{none_told}
use Rattle.aw_grammar.proofs.Appends.{known_append, arities_append, depth_append, symbols_append, variables_append, all_append}
use Rattle.aw_grammar.proofs.PlacedNames.{place_again}
use Rattle.aw_spec_writer.specs.SpecLines.{named, named_children, later_variables, named_rule}
use Rattle.aw_grammar.specs.Variables.{VariablesFit}
use Rattle.aw_grammar.proofs.NamedOnce.{named_once as no_double}
use Rattle.aw_spec_writer.proofs.Placed.{number_again, stands_at, none_stands, each_take, each_drop, all_stand_at, gets_in_turn, each_upto}
use Rattle.aw_spec_writer.proofs.NamedTerms.{names_in, arities_in, AllWell, all_well}

-- sorts

record SortAt (sorts : List Sort) (i : ℕ) : Type 0 where
  pub sort : Sort
  pub found : slice_get sorts i ≡ Some sort
  pub seen : slice_get (sorts_of sorts) i ≡ Some (sort_of sort)
  pub below : i < length (map (λ (s : Sort). s.name) sorts)

sort_at : (sorts : List Sort) (i : ℕ) → i < length (sorts_of sorts) → SortAt sorts i
sort_at [] i h = absurd (omega arith)
sort_at (s ∷ sorts) zero h = record { sort = s; found = refl; seen = refl; below = omega arith }
sort_at (s ∷ sorts) (suc i) h =
    let at = sort_at sorts i (omega arith) in
    record { sort = at.sort; found = at.found; seen = at.seen; below = omega (arith, at.below) }

-- the sort at a place, by its name, takes and gives what it says
has_sort : (sorts : List Sort) (i takes gives : ℕ) → Differ (map (λ (s : Sort). s.name) sorts) → i < length (sorts_of sorts) →
    takes ≡ takes_of (slice_get (sorts_of sorts) i) → gives ≡ gives_of (slice_get (sorts_of sorts) i) →
    takes_and_gives (sort_called (get [] (map (λ (s : Sort). s.name) sorts) i) sorts) takes gives ≡ true
has_sort sorts i takes gives differ less t g =
    let at = sort_at sorts i less in
    ap (λ o. takes_and_gives (option_and_then (λ k. slice_get sorts k) o) takes gives) (place_again (map (λ (s : Sort). s.name) sorts) i differ at.below)
    ∙ ap (λ o. takes_and_gives o takes gives) at.found
    ∙ and_from _ _ (eq-eqb _ _ (sym (t ∙ ap takes_of at.seen))) (eq-eqb _ _ (sym (g ∙ ap gives_of at.seen)))

-- children

record ChildrenWell (cons : List decl.Con) (sorts : List Sort) (vars left : List (List ℕ)) (cs : List P.Child) : Type 0 where
  pub known : all_known (names_in cons) (args_of (named_children (names_in cons) (map (λ (s : Sort). s.name) sorts) vars left cs)) ≡ true
  pub arities : all_have_arities cons (args_of (named_children (names_in cons) (map (λ (s : Sort). s.name) sorts) vars left cs)) ≡ true
  pub enter : all_stand (leaves_of (all_resolved (names_in cons) (args_of (named_children (names_in cons) (map (λ (s : Sort). s.name) sorts) vars left cs)))) vars ≡ true
  pub depth : depth_of_all (args_of (named_children (names_in cons) (map (λ (s : Sort). s.name) sorts) vars left cs)) ≤ 32
  pub symbols : symbols_in_all (args_of (named_children (names_in cons) (map (λ (s : Sort). s.name) sorts) vars left cs)) ≡ child_symbols cs
  pub stand : all_stand (child_sorts (named_children (names_in cons) (map (λ (s : Sort). s.name) sorts) vars left cs)) (map (λ (s : Sort). s.name) sorts) ≡ true
  pub fit : children_fit sorts (named_children (names_in cons) (map (λ (s : Sort). s.name) sorts) vars left cs) ≡ true
  pub back : map (child_numbered (names_in cons) (map (λ (s : Sort). s.name) sorts) vars) (named_children (names_in cons) (map (λ (s : Sort). s.name) sorts) vars left cs) ≡ cs
  pub outs : results_of (named_children (names_in cons) (map (λ (s : Sort). s.name) sorts) vars left cs) ≡ take (outs_of cs) left

-- what a rule and its names stand on
pub record Ground (cons : List decl.Con) (sorts : List Sort) (vars : List (List ℕ)) : Type 0 where
  pub cons_differ : Differ (names_in cons)
  pub sorts_differ : Differ (map (λ (s : Sort). s.name) sorts)
  pub vars_differ : Differ vars
  pub free : Each (λ v. stands v (names_in cons) ≡ false) vars

used_terms_enter : (cons : List decl.Con) (vars : List (List ℕ)) (ts : List Term) → Differ vars → Each (λ v. v < length vars) (leaves_of ts) → AllWell cons vars ts →
    all_stand (leaves_of (all_resolved (names_in cons) (map (named (names_in cons) vars) ts))) vars ≡ true
used_terms_enter cons vars ts differ below terms = ap (λ ns. all_stand ns vars) terms.leaves ∙ all_stand_at vars (leaves_of ts) differ below

children_well : (g : P.Grammar) (cons : List decl.Con) (sorts : List Sort) (vars left : List (List ℕ)) → g.arities ≡ arities_in cons →
    g.sorts ≡ sorts_of sorts → Ground cons sorts vars → (cs : List P.Child) → Each (ChildFits g (length vars)) cs → outs_of cs ≤ length left →
    ChildrenWell cons sorts vars left cs
children_well g cons sorts vars left ga gs on [] fits enough = record {
  known = refl;
  arities = refl;
  enter = refl;
  depth = omega arith;
  symbols =
      refl;
  stand = refl;
  fit = refl;
  back = refl;
  outs = refl;
}
children_well g cons sorts vars left ga gs on (c ∷ cs) fits enough =
    let names = names_in cons in
    let sort_names = map (λ (s : Sort). s.name) sorts in
    let f = fits.0 in
    let first : c.outs ≤ length left = omega (arith, enough) in
    let rest = children_well g cons sorts vars (drop c.outs left) ga gs on cs fits.1 (omega (arith, enough, length-drop c.outs left)) in
    let terms = all_well cons vars on.cons_differ on.vars_differ on.free c.args (subst (λ a. Each (TermFits a) c.args) ga f.terms) f.enter in
    let args = map (named names vars) c.args in
    let others = args_of (named_children names sort_names vars (drop c.outs left) cs) in
    let less : c.sort < length (sorts_of sorts) = subst (λ ss. c.sort < length ss) gs f.declared in
    let at = sort_at sorts c.sort less in
    record {
      known = known_append names args others ∙ and_from _ _ terms.known rest.known;
      arities = arities_append cons args others ∙ and_from _ _ terms.arities rest.arities;
      enter = ap (λ ns. all_stand ns vars) (variables_append names args others) ∙ all_append vars (leaves_of (all_resolved names args)) (leaves_of (all_resolved names others))
          ∙ and_from _ _ (used_terms_enter cons vars c.args on.vars_differ f.enter terms) rest.enter;
      depth = omega (arith, depth_append args others, terms.depth, rest.depth);
      symbols = symbols_append args others ∙ (λ i. terms.symbols i + rest.symbols i);
      stand = and_from _ _ (stands_at sort_names c.sort on.sorts_differ at.below) rest.stand;
      fit = and_from _ _
          (has_sort sorts c.sort (length args) (length (take c.outs left)) on.sorts_differ less
          (length-map c.args (named names vars) ∙ f.takes ∙ ap (λ ss. takes_of (slice_get ss c.sort)) gs) (length-take-le c.outs left first ∙ f.gives ∙ ap (λ ss. gives_of (slice_get ss c.sort)) gs))
          rest.fit;
      back = λ i. record { sort = number_again sort_names c.sort on.sorts_differ at.below i; args = terms.back i; outs = length-take-le c.outs left first i } ∷ rest.back i;
      outs = ap (λ ns. take c.outs left ++ ns) rest.outs ∙ sym (take-add c.outs (outs_of cs) left);
    }

-- the rule

-- the parts of a rule with its names
record RuleParts (d : Declarations) (e : Entry) : Type 0 where
  pub patterns : AllWell d.cons e.vars e.rule.patterns
  pub results : AllWell d.cons e.vars e.rule.results
  pub children : ChildrenWell d.cons d.sorts e.vars (drop e.rule.params (later_variables e)) e.rule.children
  pub enter : entering (con_names d) (named_rule (con_names d) (sort_names d) e) ≡ e.vars
  pub params : length (take e.rule.params (later_variables e)) ≡ e.rule.params

rule_parts : (d : Declarations) (e : Entry) → Differ (con_names d) → Differ (sort_names d) → RuleFits (grammar_in d) e.rule → VariablesFit (con_names d) e.vars e.rule → RuleParts d e
rule_parts d e cons_differ sorts_differ fits vars =
    let r = e.rule in
    let names = e.vars in
    let k = length (leaves_of r.patterns) in
    let later = later_variables e in
    let on : Ground d.cons d.sorts names = record { cons_differ = cons_differ; sorts_differ = sorts_differ; vars_differ = vars.differ; free = vars.free } in
    let count : length names ≡ k + r.params + outs_of r.children = vars.count in
    let at : length names - (r.params + outs_of r.children) ≡ k = omega (arith, count) in
    let behind : later ≡ drop k names = ap (λ n. drop n names) at in
    let later_length : length later ≡ r.params + outs_of r.children = ap length behind ∙ omega (arith, count, length-drop k names) in
    let rest = drop r.params later in
    let rest_length : length rest ≡ outs_of r.children = omega (arith, later_length, length-drop r.params later) in
    let below_patterns : Each (λ v. v < length names) (leaves_of r.patterns) = subst (Each (λ v. v < length names)) (sym fits.numbered) (each_upto 0 k (length names) (omega (arith, count))) in
    let patterns = all_well d.cons names cons_differ vars.differ vars.free r.patterns fits.patterns below_patterns in
    let results = all_well d.cons names cons_differ vars.differ vars.free r.results fits.results (subst (λ n. Each (λ v. v < n) (leaves_of r.results)) (sym vars.count) fits.enter) in
    let children = children_well (grammar_in d) d.cons d.sorts names rest refl refl on r.children
    (subst (λ n. Each (ChildFits (grammar_in d) n) r.children) (sym vars.count) fits.children) (omega (arith, rest_length)) in
    record {
      patterns = patterns;
      results = results;
      children = children;
      enter =
          (λ i. (patterns.leaves ∙ ap (map (get [] names)) fits.numbered ∙ gets_in_turn [] names 0 k (omega (arith, count))) i
          ++ (take r.params later ++ (children.outs ∙ take_all (outs_of r.children) rest (omega (arith, rest_length))) i))
          ∙ ap (λ ns. take k names ++ ns) (take-append-drop r.params later ∙ behind)
          ∙ take-append-drop k names;
      params = length-take-le r.params later (omega (arith, later_length));
    }

-- it is declared as itself
pub entry_again : (d : Declarations) (e : Entry) → Differ (con_names d) → Differ (sort_names d) → RuleFits (grammar_in d) e.rule →
    VariablesFit (con_names d) e.vars e.rule → entry_of d (named_rule (con_names d) (sort_names d) e) ≡ e
entry_again d e cons_differ sorts_differ fits vars =
    let parts = rule_parts d e cons_differ sorts_differ fits vars in
    let names = con_names d in
    let sorts = sort_names d in
    let at = sort_at d.sorts e.rule.sort fits.declared in
    ap (λ vs. let made : Entry = record { name = e.name; vars = vs; rule = rule_numbered names sorts vs (named_rule names sorts e) } in made) parts.enter
    ∙ (λ i. record {
      name = e.name;
      vars = e.vars;
      rule = record {
        sort = number_again sorts e.rule.sort sorts_differ at.below i;
        patterns = parts.patterns.back i;
        params = parts.params i;
        results = parts.results.back i;
        children = parts.children.back i;
      };
    })

-- counts

few_of_sort : (roles : ℕ) (sorts : List Sort) (i : ℕ) → Each (λ s. SortFits roles (sort_of s)) sorts → (takes_of (slice_get (sorts_of sorts) i) ≤ 8) × (gives_of (slice_get (sorts_of sorts) i) ≤ 8)
few_of_sort roles [] i each = (omega arith, omega arith)
few_of_sort roles (s ∷ sorts) zero each = (each.0.few_takes, each.0.few_gives)
few_of_sort roles (s ∷ sorts) (suc i) each = few_of_sort roles sorts i each.1

length_children : (cons sorts vars left : List (List ℕ)) (cs : List P.Child) → length (named_children cons sorts vars left cs) ≡ length cs
length_children cons sorts vars left [] = refl
length_children cons sorts vars left (c ∷ cs) = ap (λ n. suc n) (length_children cons sorts vars (drop c.outs left) cs)

-- nothing is wrong with it
pub no_fault : (d : Declarations) (e : Entry) → Differ (con_names d) → Differ (sort_names d) → Each (λ s. SortFits (length d.roles) (sort_of s))
    d.sorts → RuleFits (grammar_in d) e.rule → VariablesFit (con_names d) e.vars e.rule →
    length d.rules < 1024 → stands e.name (rule_names d) ≡ false → rule_kind d (named_rule (con_names d) (sort_names d) e) ≡ None
no_fault d e cons_differ sorts_differ sorts_fit fits vars few new =
    let r = e.rule in
    let names = con_names d in
    let sorts = sort_names d in
    let w = named_rule names sorts e in
    let later = later_variables e in
    let parts = rule_parts d e cons_differ sorts_differ fits vars in
    let kids = named_children names sorts e.vars (drop r.params later) r.children in
    let uses = args_of kids ++ w.results in
    let few_of = few_of_sort (length d.roles) d.sorts r.sort sorts_fit in
    let at = sort_at d.sorts r.sort fits.declared in
    let few_patterns : length w.patterns ≤ 8 = omega (arith, length-map r.patterns (named names e.vars), fits.takes, few_of.0) in
    let few_results : length w.results ≤ 8 = omega (arith, length-map r.results (named names e.vars), fits.gives, few_of.1) in
    let few_params : length w.params ≤ 8 = omega (arith, parts.params, fits.few_params) in
    let few_children : length w.children ≤ 8 = omega (arith, length_children names sorts e.vars (drop r.params later) r.children, fits.few_children) in
    let depth : depth_of_all (terms_of w) ≤ 32 = omega (arith, depth_append w.patterns uses, depth_append (args_of kids) w.results, parts.patterns.depth, parts.children.depth, parts.results.depth) in
    let symbols : symbols_in_all (terms_of w) ≤ 256 = omega (
      arith,
      symbols_append w.patterns uses,
      symbols_append (args_of kids) w.results,
      parts.patterns.symbols,
      parts.children.symbols,
      parts.results.symbols,
      fits.few_symbols,
    ) in
    let entering_few : length (entering names w) ≤ 64 = omega (arith, ap length parts.enter, vars.count, fits.few_variables) in
    let apart : Each (λ v. stands v names ≡ false) (w.params ++ results_of kids) =
    each_append (λ v. stands v names ≡ false) w.params (results_of kids)
    (each_take (λ v. stands v names ≡ false) r.params later (each_drop (λ v. stands v names ≡ false) (length e.vars - (r.params + outs_of r.children)) e.vars vars.free))
    (subst (Each (λ v. stands v names ≡ false)) (sym parts.children.outs)
    (each_take (λ v. stands v names ≡ false) (outs_of r.children) (drop r.params later)
    (each_drop (λ v. stands v names ≡ false) r.params later (each_drop (λ v. stands v names ≡ false) (length e.vars - (r.params + outs_of r.children)) e.vars vars.free)))) in
    let known : all_known names (terms_of w) ≡ true =
    known_append names w.patterns uses ∙ and_from _ _ parts.patterns.known (known_append names (args_of kids) w.results ∙ and_from _ _ parts.children.known parts.results.known) in
    let arities : all_have_arities d.cons (terms_of w) ≡ true =
    arities_append d.cons w.patterns uses ∙ and_from _ _ parts.patterns.arities (arities_append d.cons (args_of kids) w.results ∙ and_from _ _ parts.children.arities parts.results.arities) in
    let results_enter = used_terms_enter d.cons e.vars r.results vars.differ (subst (λ n. Each (λ v. v < n) (leaves_of r.results)) (sym vars.count) fits.enter) parts.results in
    let enter : all_stand (leaves_of (all_resolved names uses)) (entering names w) ≡ true =
    ap (all_stand (leaves_of (all_resolved names uses))) parts.enter ∙ ap (λ ns. all_stand ns e.vars) (variables_append names (args_of kids) w.results)
    ∙ all_append e.vars (leaves_of (all_resolved names (args_of kids))) (leaves_of (all_resolved names w.results)) ∙ and_from _ _ parts.children.enter results_enter in
    none_told (rule_tests d w) (
      or_from (is_past_counts d w) (is_past_terms w)
          (or_from _ _ (lt-leb 1024 (length d.rules) few)
          (or_from _ _ (le-ltb 8 (length w.patterns) few_patterns) (or_from _ _ (le-ltb 8 (length w.results) few_results)
          (or_from _ _ (le-ltb 8 (length w.params) few_params) (le-ltb 8 (length w.children) few_children)))))
          (or_from _ _ (le-ltb 32 (depth_of_all (terms_of w)) depth) (le-ltb 256 (symbols_in_all (terms_of w)) symbols)),
      (
        le-ltb 64 (length (entering names w)) entering_few,
        (
          new,
          (
            none_stands (w.params ++ results_of kids) names apart,
            (
              or_from _ _ (not_from_true _ (stands_at sorts r.sort sorts_differ at.below)) (or_from _ _ (not_from_true _ parts.children.stand) (not_from_true _ known)),
              (
                or_from _ _
                    (not_from_true _ (has_sort d.sorts r.sort (length w.patterns) (length w.results) sorts_differ fits.declared
                    (length-map r.patterns (named names e.vars) ∙ fits.takes) (length-map r.results (named names e.vars) ∙ fits.gives)))
                    (or_from _ _ (not_from_true _ parts.children.fit) (not_from_true _ arities)),
                (
                  ap has_double parts.enter ∙ no_double e.vars vars.differ,
                  (
                    not_from_true _ enter,
                    tt,
                  ),
                ),
              ),
            ),
          ),
        ),
      ),
    )
