-- Declarations in turn: what is left to look at after one of them.
use Rattle.std.proofs.Common.{◌≡◌, ℕ, suc, ◌+◌, true, List, [], ◌∷◌, ◌++◌, Option, Some, None, Result, Ok, Err, refl, sym, ap, ◌∙◌, subst, arith, map}
use Rattle.std.specs.Result.{IsErrAnd, IfOk}
use Rattle.aw_term.specs.WellFormed.{IsWellFormed}
use Rattle.aw_term.proofs.Eaches.{each_left, each_right}
use Rattle.aw_grammar.specs.declared.fault.DeclKind.{DeclKind}
use Rattle.aw_grammar.specs.declared.fault.DeclPlace.{DeclPlace}
use Rattle.aw_grammar.specs.declared.fault.AddFault.{AddFault}
use Rattle.aw_grammar.specs.declared.fault.GrammarFault.{GrammarFault}
use Rattle.aw_grammar.specs.declared.fault.GrammarFault.TheVariants as build
use Rattle.aw_grammar.specs.declared.grammar.Grammar.{Grammar}
use Rattle.aw_grammar.specs.Declarations.{Declarations, with_role, grammar_in, words_in}
use Rattle.aw_grammar.specs.GrammarOf.{declarations_of, entry, grammar_of, words_of}
use Rattle.aw_grammar.specs.Build.{Declaration, kind_of, declare, here_or, first_fault, declare_all, placed, is_spelled, Added, AllSpelled, BuiltOn}
use Rattle.aw_grammar.proofs.Entries.{declared_grammar, declared_words}

suc_place : (n : ℕ) → n + 1 ≡ suc n
suc_place n = omega arith

pub fault_goes : {A : Type 0} (at : ℕ → DeclPlace) (wrap : A → Declaration) (d e : Declarations) (i : ℕ) (x : A) (rest left : List A) →
    left ≡ x ∷ rest → kind_of d (wrap x) ≡ None → e ≡ declare d (wrap x) → first_fault e (placed at wrap (i + 1) rest) ≡ first_fault d (placed at wrap i left)
fault_goes at wrap d e i x rest left next none after =
    ap (λ n. first_fault e (placed at wrap n rest)) (suc_place i) ∙ ap (λ f. first_fault f (placed at wrap (suc i) rest)) after
    ∙ sym (ap (λ xs. first_fault d (placed at wrap i xs)) next ∙ ap (λ k. here_or (at i) k (first_fault (declare d (wrap x)) (placed at wrap (suc i) rest))) none)

pub declared_goes : {A : Type 0} (at : ℕ → DeclPlace) (wrap : A → Declaration) (d e : Declarations) (i : ℕ) (x : A) (rest left : List A) →
    left ≡ x ∷ rest → e ≡ declare d (wrap x) → declare_all e (placed at wrap (i + 1) rest) ≡ declare_all d (placed at wrap i left)
declared_goes at wrap d e i x rest left next after =
    ap (λ n. declare_all e (placed at wrap n rest)) (suc_place i) ∙ ap (λ f. declare_all f (placed at wrap (suc i) rest)) after
    ∙ sym (ap (λ xs. declare_all d (placed at wrap i xs)) next)

pub spelled_goes : {A : Type 0} (at : ℕ → DeclPlace) (wrap : A → Declaration) (i : ℕ) (x : A) (rest left : List A) → left ≡ x ∷ rest →
    AllSpelled (placed at wrap i left) → (is_spelled (wrap x) ≡ true) × AllSpelled (placed at wrap (i + 1) rest)
spelled_goes at wrap i x rest left next each =
    let now = subst (λ xs. AllSpelled (placed at wrap i xs)) next each in
    (now.0, subst (λ n. AllSpelled (placed at wrap n rest)) (sym (suc_place i)) now.1)

pub front_spelled : (xs ys : List (DeclPlace × Declaration)) → AllSpelled (xs ++ ys) → AllSpelled xs
front_spelled xs ys each = each_left (λ x. is_spelled x.1 ≡ true) xs ys each

pub rest_spelled : (xs ys : List (DeclPlace × Declaration)) → AllSpelled (xs ++ ys) → AllSpelled ys
rest_spelled xs ys each = each_right (λ x. is_spelled x.1 ≡ true) xs ys each

none_of_map : {A B : Type 0} (f : A → B) (xs : List A) → map f xs ≡ [] → xs ≡ []
none_of_map f [] h = refl
none_of_map f (x ∷ xs) h = cc

-- a declaration that is no rule leaves the grammar without rules
still_no_rules : (g h : Grammar) → (declarations_of h).rules ≡ (declarations_of g).rules → g.rules ≡ [] → h.rules ≡ []
still_no_rules g h same none = none_of_map (entry h.sorts) h.rules (same ∙ ap (map (entry g.sorts)) none)

-- after a declaration that is neither a sort nor a rule there are no sorts and no rules yet
pub still_before_sorts : (kind : Option DeclKind) (g : Grammar) (name : List ℕ) (result : Result Grammar AddFault) →
    Added kind (with_role (declarations_of g) name) result → (g.sorts ≡ []) × (g.rules ≡ []) → IfOk result (λ h. (h.sorts ≡ []) × (h.rules ≡ []))
still_before_sorts kind g name (Ok h) added none = (ap (λ (z : Declarations). z.sorts) added.1 ∙ none.0, still_no_rules g h (ap (λ (z : Declarations). z.rules) added.1) none.1)
still_before_sorts kind g name (Err fault) added none = tt

-- after a declaration that is no rule there are no rules yet
pub still_before_rules : (kind : Option DeclKind) (g : Grammar) (after : Declarations) (result : Result Grammar AddFault) → Added kind after result →
    after.rules ≡ (declarations_of g).rules → g.rules ≡ [] → IfOk result (λ h. h.rules ≡ [])
still_before_rules kind g after (Ok h) added same none = still_no_rules g h (ap (λ (z : Declarations). z.rules) added.1 ∙ same) none
still_before_rules kind g after (Err fault) added same none = tt

or_later : {P : Type 0} → Option (P × DeclKind) → Option (P × DeclKind) → Option (P × DeclKind)
or_later None later = later
or_later (Some f) later = Some f

here_or_later : {P : Type 0} (p : P) (k : Option DeclKind) (rest later told : Option (P × DeclKind)) → told ≡ or_later rest later → here_or p k told ≡ or_later (here_or p k rest) later
unfolding or_later
here_or_later p None rest later told e = e
here_or_later p (Some kind) rest later told e = refl

fault_append : (d : Declarations) (xs ys : List (DeclPlace × Declaration)) → first_fault d (xs ++ ys) ≡ or_later (first_fault d xs) (first_fault (declare_all d xs) ys)
unfolding or_later
fault_append d [] ys = refl
fault_append d (x ∷ xs) ys = here_or_later x.0 (kind_of d x.1) (first_fault (declare d x.1) xs) (first_fault (declare_all (declare d x.1) xs) ys)
    (first_fault (declare d x.1) (xs ++ ys)) (fault_append (declare d x.1) xs ys)

declared_append : (d : Declarations) (xs ys : List (DeclPlace × Declaration)) → declare_all d (xs ++ ys) ≡ declare_all (declare_all d xs) ys
declared_append d [] ys = refl
declared_append d (x ∷ xs) ys = declared_append (declare d x.1) xs ys

fault_after : (d e : Declarations) (xs ys : List (DeclPlace × Declaration)) → first_fault d xs ≡ None → e ≡ declare_all d xs → first_fault d (xs ++ ys) ≡ first_fault e ys
unfolding or_later
fault_after d e xs ys none same = fault_append d xs ys ∙ ap (λ o. or_later o (first_fault (declare_all d xs) ys)) none ∙ ap (λ f. first_fault f ys) (sym same)

-- some declarations, and then more
pub built_after : (d : Declarations) (xs ys : List (DeclPlace × Declaration)) (g : Grammar) (result : Result Grammar GrammarFault) →
    BuiltOn d xs (Ok g) → BuiltOn (declarations_of g) ys result → BuiltOn d (xs ++ ys) result
built_after d xs ys g (Ok h) first later =
    (fault_after d (declarations_of g) xs ys first.0 first.1 ∙ later.0, later.1 ∙ sym (declared_append d xs ys ∙ ap (λ f. declare_all f ys) (sym first.1)))
built_after d xs ys g (Err (build.Bad place kind)) first later = fault_after d (declarations_of g) xs ys first.0 first.1 ∙ later
built_after d xs ys g (Err build.NoMemory) first later = tt

fault_before : (d : Declarations) (xs ys : List (DeclPlace × Declaration)) (f : DeclPlace × DeclKind) → first_fault d xs ≡ Some f → first_fault d (xs ++ ys) ≡ Some f
unfolding or_later
fault_before d xs ys f h = fault_append d xs ys ∙ ap (λ o. or_later o (first_fault (declare_all d xs) ys)) h

built_before_err : (d : Declarations) (xs ys : List (DeclPlace × Declaration)) (fault : GrammarFault) → BuiltOn d xs (Err fault) → BuiltOn d (xs ++ ys) (Err fault)
built_before_err d xs ys (build.Bad place kind) h = fault_before d xs ys (place, kind) h
built_before_err d xs ys build.NoMemory h = tt

pub stops_before : (d : Declarations) (xs ys : List (DeclPlace × Declaration)) (fault : GrammarFault) (result : Result Grammar GrammarFault) →
    IsErrAnd result (λ e. e ≡ fault) → BuiltOn d xs (Err fault) → BuiltOn d (xs ++ ys) result
stops_before d xs ys fault (Ok g) h told = absurd h
stops_before d xs ys fault (Err e) h told = subst (λ f. BuiltOn d (xs ++ ys) (Err f)) (sym h) (built_before_err d xs ys fault told)

-- the grammar and the words of what is declared
pub grammar_is : (g : Grammar) (d : Declarations) → declarations_of g ≡ d → grammar_of g ≡ grammar_in d
grammar_is g d e = declared_grammar g ∙ ap grammar_in e

pub words_are : (g : Grammar) (d : Declarations) → declarations_of g ≡ d → words_of g ≡ words_in d
words_are g d e = declared_words g ∙ ap words_in e

pub no_rules_in : (g : Grammar) (d : Declarations) → declarations_of g ≡ d → d.rules ≡ [] → g.rules ≡ []
no_rules_in g d e none = none_of_map (entry g.sorts) g.rules (ap (λ (z : Declarations). z.rules) e ∙ none)

pub grammar_if_built : (items : List (DeclPlace × Declaration)) (d : Declarations) (result : Result Grammar GrammarFault) → BuiltOn d items result →
    IfOk result (λ g. grammar_of g ≡ grammar_in (declare_all d items))
grammar_if_built items d (Ok g) built = grammar_is g (declare_all d items) built.1
grammar_if_built items d (Err e) built = tt

pub words_if_built : (items : List (DeclPlace × Declaration)) (d : Declarations) (result : Result Grammar GrammarFault) → BuiltOn d items result →
    IfOk result (λ g. words_of g ≡ words_in (declare_all d items))
words_if_built items d (Ok g) built = words_are g (declare_all d items) built.1
words_if_built items d (Err e) built = tt

pub well_formed_if_built : (result : Result Grammar GrammarFault) → IfOk result (λ g. ∥ IsWellFormed (words_of g) (grammar_of g) ∥₁)
well_formed_if_built (Ok g) = g.well_formed
well_formed_if_built (Err e) = tt
