-- Which fault a rule has, by whether it is faultless word by word.
use Rattle.std.proofs.Common.{◌≡◌, ℕ, Bool, true, false, ◌&&◌, ◌||◌, not, List, [], ◌∷◌, ◌++◌, map, length, Some, None, option_and_then, slice_get, refl, sym, ap, ◌∙◌, append_assoc}
use Rattle.std.proofs.lemmas.Bool.{and_parts, or_parts, or_from, not-false}
use Rattle.aw_name_index.specs.Places.{is_same, stands, any_stands, all_stand, has_double, first_told}
use Rattle.aw_name_index.proofs.Lookups.{no_place}
use Rattle.aw_name_index.proofs.Same.{same_self}
use Rattle.aw_name_index.proofs.FirstTold.{none_holds, none_told}
use Rattle.aw_term.specs.WellFormed.{leaves_of}
use Rattle.aw_grammar.specs.declared.rule.Sort.{Sort}
use Rattle.aw_grammar.specs.declared.fault.DeclKind.{DeclKind}
use Rattle.aw_grammar.specs.declared.fault.DeclKind.TheVariants.{Never}
use Rattle.aw_grammar.specs.Written.{WrittenRule, WrittenChild}
use Rattle.aw_grammar.specs.Terms.{results_of, uses_of, terms_of}
use Rattle.aw_grammar.specs.Resolved.{all_resolved, entering}
use Rattle.aw_grammar.specs.Declarations.{Declarations, con_names, sort_names}
use Rattle.aw_grammar.specs.Kinds.{is_past_counts, is_past_terms, child_sorts, sort_called, takes_and_gives, children_fit, all_known, all_have_arities}
use Rattle.aw_grammar.specs.Kinds.{names_unknown, arity_differs, name_tests, term_tests, variable_tests, rule_kind}
use Rattle.aw_grammar.specs.Faultless.{all_faultless, is_faultless_rule}
use Rattle.aw_grammar.proofs.Appends.{any_append, all_append, variables_append}
use Rattle.aw_grammar.proofs.RuleTold.{later_tests, late_told, never_told}
use Rattle.aw_grammar.proofs.FaultlessTerms.{all_tests_are, all_leaves_free}

-- where a name stands

pub or_true : (b : Bool) → (b || true) ≡ true
or_true true = refl
or_true false = refl

stands_at : (x : List ℕ) (seen rest : List (List ℕ)) → stands x (seen ++ x ∷ rest) ≡ true
stands_at x [] rest = ap (λ b. b || stands x rest) (same_self x)
stands_at x (y ∷ seen) rest = ap (λ b. is_same x y || b) (stands_at x seen rest) ∙ or_true (is_same x y)

all_among : (seen xs rest : List (List ℕ)) → all_stand xs (seen ++ (xs ++ rest)) ≡ true
all_among seen [] rest = refl
all_among seen (x ∷ xs) rest =
    ap (λ b. b && all_stand xs (seen ++ x ∷ (xs ++ rest))) (stands_at x seen (xs ++ rest))
    ∙ ap (all_stand xs) (sym (append_assoc seen (x ∷ []) (xs ++ rest)))
    ∙ all_among (seen ++ x ∷ []) xs rest

-- sorts

fits_stands : (name : List ℕ) (sorts : List Sort) (takes gives : ℕ) → takes_and_gives (sort_called name sorts) takes gives ≡ true → stands name (map (λ (s : Sort). s.name) sorts) ≡ true
fits_stands name sorts takes gives h = by_place (stands name (map (λ (s : Sort). s.name) sorts)) refl
  where
    by_place : (b : Bool) → stands name (map (λ (s : Sort). s.name) sorts) ≡ b → b ≡ true
    by_place true e = refl
    by_place false e =
        let none = no_place name (map (λ (s : Sort). s.name) sorts) e in
        let called : sort_called name sorts ≡ None = ap (λ o. option_and_then (λ i. slice_get sorts i) o) none in
        let wrong : false ≡ true = sym (ap (λ o. takes_and_gives o takes gives) called) ∙ h in cc

children_stand : (sorts : List Sort) (cs : List WrittenChild) → children_fit sorts cs ≡ true → all_stand (child_sorts cs) (map (λ (s : Sort). s.name) sorts) ≡ true
children_stand sorts [] h = refl
children_stand sorts (c ∷ cs) h =
    let parts = and_parts (takes_and_gives (sort_called c.sort sorts) (length c.args) (length c.results)) (children_fit sorts cs) h in
    ap (λ b. b && all_stand (child_sorts cs) (map (λ (s : Sort). s.name) sorts)) (fits_stands c.sort sorts (length c.args) (length c.results) parts.0)
    ∙ children_stand sorts cs parts.1

-- the variables of a rule

abbrev uses_enter : Declarations → WrittenRule → Bool
uses_enter d r = all_stand (leaves_of (all_resolved (con_names d) (uses_of r))) (entering (con_names d) r)

-- no variable has a constructor's name where no test of names holds
pub entering_free : (d : Declarations) (r : WrittenRule) → None ≡ first_told (name_tests d r) → any_stands (entering (con_names d) r) (con_names d) ≡ false
entering_free d r none =
    let tests = none_holds (name_tests d r) (sym none) in
    let patterns = leaves_of (all_resolved (con_names d) r.patterns) in
    any_append (con_names d) patterns (r.params ++ results_of r.children)
    ∙ or_from (any_stands patterns (con_names d)) (any_stands (r.params ++ results_of r.children) (con_names d)) (all_leaves_free (con_names d) r.patterns) tests.1.1.0

stand_is : (d : Declarations) (r : WrittenRule) → all_stand (leaves_of (all_resolved (con_names d) (terms_of r))) (entering (con_names d) r) ≡ uses_enter d r
stand_is d r =
    let names = con_names d in let variables = entering names r in
    let patterns = leaves_of (all_resolved names r.patterns) in let uses = leaves_of (all_resolved names (uses_of r)) in
    ap (λ ns. all_stand ns variables) (variables_append names r.patterns (uses_of r))
    ∙ all_append variables patterns uses
    ∙ ap (λ b. b && all_stand uses variables) (all_among [] patterns (r.params ++ results_of r.children))

terms_are : (d : Declarations) (r : WrittenRule) → any_stands (entering (con_names d) r) (con_names d) ≡ false
    → all_faultless d.cons (entering (con_names d) r) (terms_of r) ≡ (all_known (con_names d) (terms_of r) && (all_have_arities d.cons (terms_of r) && uses_enter d r))
terms_are d r free =
    all_tests_are d.cons (entering (con_names d) r) (terms_of r) free
    ∙ ap (λ b. all_known (con_names d) (terms_of r) && (all_have_arities d.cons (terms_of r) && b)) (stand_is d r)

-- a faultless rule

pub no_fault_told : (d : Declarations) (r : WrittenRule) → (is_past_counts d r || is_past_terms r) ≡ false → None ≡ first_told (name_tests d r)
    → has_double (entering (con_names d) r) ≡ false → is_faultless_rule d r ≡ true → rule_kind d r ≡ None
no_fault_told d r past none once h =
    let all = all_faultless d.cons (entering (con_names d) r) (terms_of r) in
    let fit = children_fit d.sorts r.children in
    let p = and_parts (takes_and_gives (sort_called r.sort d.sorts) (length r.patterns) (length r.results)) (fit && all) h in
    let q = and_parts fit all p.1 in
    let t = and_parts (all_known (con_names d) (terms_of r)) (all_have_arities d.cons (terms_of r) && uses_enter d r) (sym (terms_are d r (entering_free d r none)) ∙ q.1) in
    let u = and_parts (all_have_arities d.cons (terms_of r)) (uses_enter d r) t.1 in
    let unknown : names_unknown d r ≡ false =
    or_from (not (stands r.sort (sort_names d))) (not (all_stand (child_sorts r.children) (sort_names d))
    || not (all_known (con_names d) (terms_of r))) (ap not (fits_stands r.sort d.sorts (length r.patterns) (length r.results) p.0))
    (or_from (not (all_stand (child_sorts r.children) (sort_names d))) (not (all_known (con_names d) (terms_of r))) (ap not (children_stand d.sorts r.children q.0)) (ap not t.0)) in
    let differs : arity_differs d r ≡ false =
    or_from (not (takes_and_gives (sort_called r.sort d.sorts) (length r.patterns) (length r.results))) (not fit || not (all_have_arities d.cons (terms_of r))) (ap not p.0)
    (or_from (not fit) (not (all_have_arities d.cons (terms_of r))) (ap not q.0) (ap not u.0)) in
    later_tests (is_past_counts d r || is_past_terms r) (name_tests d r) (term_tests d r ++ variable_tests d r) past none
    ∙ none_told (term_tests d r ++ variable_tests d r) (unknown, (differs, (once, (ap not u.1, tt))))

-- a rule with a fault

never_enters : (d : Declarations) (r : WrittenRule) → any_stands (entering (con_names d) r) (con_names d) ≡ false → is_faultless_rule d r ≡ false →
    first_told (term_tests d r) ≡ None → uses_enter d r ≡ false
never_enters d r free h clear =
    let tests = none_holds (term_tests d r) clear in
    let all = all_faultless d.cons (entering (con_names d) r) (terms_of r) in
    let head = takes_and_gives (sort_called r.sort d.sorts) (length r.patterns) (length r.results) in
    let fit = children_fit d.sorts r.children in
    let known = all_known (con_names d) (terms_of r) in
    let arities = all_have_arities d.cons (terms_of r) in
    let k = or_parts (not (stands r.sort (sort_names d))) (not (all_stand (child_sorts r.children) (sort_names d)) || not known) tests.0 in
    let l = or_parts (not (all_stand (child_sorts r.children) (sort_names d))) (not known) k.1 in
    let m = or_parts (not head) (not fit || not arities) tests.1.0 in
    let n = or_parts (not fit) (not arities) m.1 in
    sym (ap (λ b. b && (fit && all)) (not-false head m.0) ∙ ap (λ b. b && all) (not-false fit n.0) ∙ terms_are d r free
    ∙ ap (λ b. b && (arities && uses_enter d r)) (not-false known l.1) ∙ ap (λ b. b && uses_enter d r) (not-false arities n.1)) ∙ h

pub never_told_late : (d : Declarations) (r : WrittenRule) (kind : DeclKind) → (is_past_counts d r || is_past_terms r) ≡ false → None ≡ first_told (name_tests d r)
    → has_double (entering (con_names d) r) ≡ false → is_faultless_rule d r ≡ false → Some kind ≡ first_told (term_tests d r ++ (true, Never) ∷ []) → rule_kind d r ≡ Some kind
never_told_late d r kind past none once h told =
    late_told (is_past_counts d r || is_past_terms r) (name_tests d r) (term_tests d r) (variable_tests d r) Never kind past none
    (λ clear. never_told (has_double (entering (con_names d) r)) (uses_enter d r) once (never_enters d r (entering_free d r none) h clear)) told
