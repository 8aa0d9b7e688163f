-- Which kind of a rule is told, group by group of tests.
use Rattle.std.proofs.Common.{◌≡◌, ℕ, ◌≤◌, Bool, true, false, cond, not, ◌||◌, nat_le, nat_lt, List, [], ◌∷◌, ◌++◌, length, Option, Some, None, MatchOption, refl, sym, ap, ◌∙◌}
use Rattle.std.proofs.lemmas.Bool.{ltb-false, or_parts}
use Rattle.aw_name_index.specs.Places.{has_double, first_told}
use Rattle.aw_term.specs.Limits.{most_params, most_rules, most_inherited, most_results, most_children}
use Rattle.aw_grammar.specs.declared.fault.DeclKind.{DeclKind}
use Rattle.aw_grammar.specs.declared.fault.DeclKind.TheVariants.{Limit, Twice, Never}
use Rattle.aw_grammar.specs.declared.variables.Variables.{Variables}
use Rattle.aw_grammar.specs.Written.{WrittenRule}
use Rattle.aw_grammar.specs.Declarations.{Declarations}
use Rattle.aw_grammar.specs.Kinds.{is_past_counts}

abbrev or_kind : Option DeclKind → Option DeclKind → Option DeclKind
or_kind None later = later
or_kind (Some k) later = Some k

one_test : (test : Bool) (kind : DeclKind) (rest later told : Option DeclKind) → told ≡ or_kind rest later → cond test (Some kind) told ≡ or_kind (cond test (Some kind) rest) later
one_test true kind rest later told e = refl
one_test false kind rest later told e = e

first_append : (xs ys : List (Bool × DeclKind)) → first_told (xs ++ ys) ≡ or_kind (first_told xs) (first_told ys)
first_append [] ys = refl
first_append (x ∷ xs) ys = one_test x.0 x.1 (first_told xs) (first_told ys) (first_told (xs ++ ys)) (first_append xs ys)

-- where the tests before tell nothing, those after decide
pub later_tests : (past : Bool) (before after : List (Bool × DeclKind)) → past ≡ false → None ≡ first_told before → first_told ((past, Limit) ∷ (before ++ after)) ≡ first_told after
later_tests past before after fits none =
    ap (λ b. cond b (Some Limit) (first_told (before ++ after))) fits ∙ first_append before after ∙ ap (λ o. or_kind o (first_told after)) (sym none)

-- what these tests tell, or else this last kind
pub told_before : (terms : List (Bool × DeclKind)) (last kind : DeclKind) → Some kind ≡ first_told terms → Some kind ≡ first_told (terms ++ (true, last) ∷ [])
told_before terms last kind told = sym (first_append terms ((true, last) ∷ []) ∙ ap (λ o. or_kind o (Some last)) (sym told))

pub told_last : (terms : List (Bool × DeclKind)) (last : DeclKind) → None ≡ first_told terms → Some last ≡ first_told (terms ++ (true, last) ∷ [])
told_last terms last none = sym (first_append terms ((true, last) ∷ []) ∙ ap (λ o. or_kind o (Some last)) (sym none))

late_case : (terms variables : Option DeclKind) (last kind : DeclKind) → Some kind ≡ or_kind terms (Some last) → (terms ≡ None → variables ≡ Some last) → or_kind terms variables ≡ Some kind
late_case None variables last kind told later = later refl ∙ sym told
late_case (Some k) variables last kind told later = sym told

-- the last kind is the first fault of the variables where no test of terms holds
pub late_told : (past : Bool) (names terms variables : List (Bool × DeclKind)) (last kind : DeclKind) → past ≡ false → None ≡ first_told names →
    (first_told terms ≡ None → first_told variables ≡ Some last) → Some kind ≡ first_told (terms ++ (true, last) ∷ []) →
    first_told ((past, Limit) ∷ (names ++ (terms ++ variables))) ≡ Some kind
late_told past names terms variables last kind fits none later told =
    later_tests past names (terms ++ variables) fits none ∙ first_append terms variables
    ∙ late_case (first_told terms) (first_told variables) last kind (told ∙ first_append terms ((true, last) ∷ [])) later

pub never_told : (double enter : Bool) → double ≡ false → enter ≡ false → first_told ((double, Twice) ∷ (not enter, Never) ∷ []) ≡ Some Never
never_told double enter h k = ap (λ b. cond b (Some Twice) (cond (not enter) (Some Never) None)) h ∙ ap (λ b. cond (not b) (Some Never) None) k

-- what was found of names
pub found_variables : (names : List (List ℕ)) (found : Option Variables) (v : Variables) → found ≡ Some v →
    MatchOption found (has_double names ≡ true) (λ w. (has_double names ≡ false) × (w.names ≡ names)) → (has_double names ≡ false) × (v.names ≡ names)
found_variables names None v e h = cc
found_variables names (Some w) v e h =
    let same : w ≡ v = cc in
    (h.0, sym (ap (λ (u : Variables). u.names) same) ∙ h.1)

pub few_params : (d : Declarations) (r : WrittenRule) → is_past_counts d r ≡ false → length r.params ≤ most_params
few_params d r h =
    let a = or_parts (nat_le most_rules (length d.rules)) (nat_lt most_inherited (length r.patterns) || (nat_lt most_results (length r.results)
    || (nat_lt most_params (length r.params) || nat_lt most_children (length r.children)))) h in
    let b = or_parts (nat_lt most_inherited (length r.patterns)) (nat_lt most_results (length r.results) || (nat_lt most_params (length r.params) || nat_lt most_children (length r.children))) a.1 in
    let c = or_parts (nat_lt most_results (length r.results)) (nat_lt most_params (length r.params) || nat_lt most_children (length r.children)) b.1 in
    let e = or_parts (nat_lt most_params (length r.params)) (nat_lt most_children (length r.children)) c.1 in
    ltb-false most_params (length r.params) e.0
