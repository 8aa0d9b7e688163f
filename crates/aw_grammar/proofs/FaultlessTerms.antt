-- A term is faultless word by word exactly where no test of terms finds a fault in it.
use Rattle.std.proofs.Common.{◌≡◌, ℕ, zero, suc, ◌<◌, Bool, true, false, ◌&&◌, ◌||◌, is_some, List, [], ◌∷◌, ◌++◌, map, length, Option, Some, None}
use Rattle.std.proofs.Common.{option_and_then, slice_get, refl, sym, ap, ◌∙◌, subst, arith}
use Rattle.std.proofs.lemmas.Bool.{or_parts, or_from}
use Rattle.std.proofs.lemmas.List.{length-map}
use Rattle.aw_name_index.specs.Places.{is_same, place_of, or_else, number_of, stands, any_stands, all_stand}
use Rattle.aw_name_index.proofs.Lookups.{stands_is_placed, no_place, place_within}
use Rattle.aw_name_index.proofs.Same.{same_is}
use Rattle.aw_term.specs.Trees.{Leaf, bind}
use Rattle.aw_term.specs.WellFormed.{leaves, all_leaves, leaves_of}
use Rattle.aw_grammar.specs.declared.rule.Con.{Con}
use Rattle.aw_grammar.specs.declared.raw.RawTerm.{RawTerm}
use Rattle.aw_grammar.specs.declared.raw.RawTerm as raw
use Rattle.aw_grammar.specs.Written.{Written, Word, Apply, Literal, Writtens, Empty, Then, side_by_side, written_of}
use Rattle.aw_grammar.specs.Resolved.{word_tree, resolved, resolved_parts, all_resolved, numbered}
use Rattle.aw_grammar.specs.Kinds.{is_known, parts_are_known, all_known, has_arity, con_called, count_parts, has_arities, parts_have_arities, all_have_arities}
use Rattle.aw_grammar.specs.Faultless.{is_declared, is_faultless, parts_are_faultless, all_faultless, IsMade}
use Rattle.aw_grammar.proofs.Appends.{and_more, all_append, any_append}
use Rattle.aw_grammar.proofs.TermLemmas.{count_side}
use Rattle.aw_grammar.proofs.WrittenLemmas.{written_apply}

abbrev names_of : List Con → List (List ℕ)
names_of cons = map (λ (c : Con). c.name) cons

-- what is a variable is no constructor

apart_case : (x y : List ℕ) (b rest s : Bool) (names : List (List ℕ)) → is_same x y ≡ b → stands y names ≡ false → (rest ≡ true → stands x names ≡ false) → (b || rest) ≡ true → stands x names ≡ false
apart_case x y true rest s names e free later h = ap (λ z. stands z names) (same_is x y e) ∙ free
apart_case x y false rest s names e free later h = later h

pub variable_is_free : (x : List ℕ) (variables names : List (List ℕ)) → any_stands variables names ≡ false → stands x variables ≡ true → stands x names ≡ false
variable_is_free x [] names free h = cc
variable_is_free x (y ∷ variables) names free h =
    let parts = or_parts (stands y names) (any_stands variables names) free in
    apart_case x y (is_same x y) (stands x variables) true names refl parts.0 (variable_is_free x variables names parts.1) h

not_both : (v s : Bool) → (v ≡ true → s ≡ false) → s ≡ true → v ≡ false
not_both true s h k = let e = h refl in cc
not_both false s h k = refl

con_is_no_variable : (x : List ℕ) (variables names : List (List ℕ)) → any_stands variables names ≡ false → stands x names ≡ true → stands x variables ≡ false
con_is_no_variable x variables names free h = not_both (stands x variables) (stands x names) (variable_is_free x variables names free) h

-- what a word stands for where it is a variable
pub variable_made : (cons variables : List (List ℕ)) (x : List ℕ) (n : ℕ) → any_stands variables cons ≡ false → Some n ≡ place_of x variables → Leaf n ≡ numbered cons variables (Word x)
variable_made cons variables x n free e =
    let here : stands x variables ≡ true = sym (stands_is_placed x variables) ∙ ap is_some (sym e) in
    let none = no_place x cons (variable_is_free x variables cons free here) in
    ap (λ o. Leaf (or_else (length variables) o)) e
    ∙ sym (ap (λ o. bind (λ y. Leaf (number_of y variables)) (word_tree x o)) none)

pub variable_stands : (variables : List (List ℕ)) (x : List ℕ) (n : ℕ) → Some n ≡ place_of x variables → stands x variables ≡ true
variable_stands variables x n e = sym (stands_is_placed x variables) ∙ ap is_some (sym e)

-- constructors

length_names : (cons : List Con) → length (names_of cons) ≡ length cons
length_names [] = refl
length_names (k ∷ cons) = ap (λ n. suc n) (length_names cons)

con_at : (cons : List Con) (i : ℕ) → i < length cons → (c : Con) × (slice_get cons i ≡ Some c)
con_at [] i less = absurd (omega arith)
con_at (k ∷ cons) zero less = (k, refl)
con_at (k ∷ cons) (suc i) less = con_at cons i (omega arith)

con_placed : (cons : List Con) (x : List ℕ) (i : ℕ) → place_of x (names_of cons) ≡ Some i → (c : Con) × (con_called x cons ≡ Some c)
con_placed cons x i e =
    let found = con_at cons i (subst (λ m. i < m) (length_names cons) (place_within x (names_of cons) i e)) in
    (found.0, ap (λ o. option_and_then (λ j. slice_get cons j) o) e ∙ found.1)

con_absent : (cons : List Con) (x : List ℕ) → place_of x (names_of cons) ≡ None → con_called x cons ≡ None
con_absent cons x e = ap (λ o. option_and_then (λ j. slice_get cons j) o) e

declared_case : (cons : List Con) (x : List ℕ) (n : ℕ) (o : Option ℕ) → place_of x (names_of cons) ≡ o → is_declared n (con_called x cons) ≡ (is_some o && has_arity n (con_called x cons))
declared_case cons x n None e = ap (is_declared n) (con_absent cons x e)
declared_case cons x n (Some i) e =
    let found = con_placed cons x i e in
    ap (is_declared n) found.1 ∙ sym (ap (has_arity n) found.1)

-- a constructor is declared with this number where it is declared, and has this number
declared_is : (cons : List Con) (x : List ℕ) (n : ℕ) → is_declared n (con_called x cons) ≡ (stands x (names_of cons) && has_arity n (con_called x cons))
declared_is cons x n =
    declared_case cons x n (place_of x (names_of cons)) refl
    ∙ ap (λ b. b && has_arity n (con_called x cons)) (stands_is_placed x (names_of cons))

-- terms

or_false : (b : Bool) → (b || false) ≡ (b && true)
or_false true = refl
or_false false = refl

word_case : (cons : List Con) (variables : List (List ℕ)) (x : List ℕ) (o : Option ℕ) → any_stands variables (names_of cons) ≡ false → place_of x (names_of cons) ≡ o
    → (stands x variables || is_declared 0 (con_called x cons)) ≡ (has_arity 0 (con_called x cons) && all_stand (leaves (word_tree x o)) variables)
word_case cons variables x None free e =
    let none = con_absent cons x e in
    ap (λ c. stands x variables || is_declared 0 c) none ∙ or_false (stands x variables)
    ∙ sym (ap (λ c. has_arity 0 c && (stands x variables && true)) none)
word_case cons variables x (Some i) free e =
    let found = con_placed cons x i e in
    let here : stands x (names_of cons) ≡ true = sym (stands_is_placed x (names_of cons)) ∙ ap is_some e in
    ap (λ b. b || is_declared 0 (con_called x cons)) (con_is_no_variable x variables (names_of cons) free here)
    ∙ ap (is_declared 0) found.1 ∙ and_true (has_arity 0 (Some found.0)) ∙ sym (ap (λ c. has_arity 0 c && true) found.1)
  where
    and_true : (b : Bool) → b ≡ (b && true)
    and_true true = refl
    and_true false = refl

apply_tests : (s a k r l : Bool) → ((s && a) && (k && (r && l))) ≡ ((s && k) && ((a && r) && l))
apply_tests false a k r l = refl
apply_tests true false false r l = refl
apply_tests true false true r l = refl
apply_tests true true k r l = refl

pair_tests : (k a s m b t : Bool) → ((k && (a && s)) && (m && (b && t))) ≡ ((k && m) && ((a && b) && (s && t)))
pair_tests false a s m b t = refl
pair_tests true false s false b t = refl
pair_tests true false s true b t = refl
pair_tests true true false false b t = refl
pair_tests true true false true false t = refl
pair_tests true true false true true t = refl
pair_tests true true true m b t = refl

mutual
  term_tests_are : (cons : List Con) (variables : List (List ℕ)) (t : Written) → any_stands variables (names_of cons) ≡ false
      → is_faultless cons variables t ≡ (is_known (names_of cons) t && (has_arities cons t && all_stand (leaves (resolved (names_of cons) t)) variables))
  term_tests_are cons variables (Word x) free = word_case cons variables x (place_of x (names_of cons)) free refl
  term_tests_are cons variables (Apply x ts) free =
      let n = count_parts ts in
      let rest = parts_are_faultless cons variables ts in
      (λ i. declared_is cons x n i && parts_tests_are cons variables ts free i)
      ∙ apply_tests (stands x (names_of cons)) (has_arity n (con_called x cons)) (parts_are_known (names_of cons) ts) (parts_have_arities cons ts)
      (all_stand (all_leaves (resolved_parts (names_of cons) ts)) variables)
  term_tests_are cons variables (Literal h) free = refl

  parts_tests_are : (cons : List Con) (variables : List (List ℕ)) (ts : Writtens) → any_stands variables (names_of cons) ≡ false
      → parts_are_faultless cons variables ts ≡ (parts_are_known (names_of cons) ts && (parts_have_arities cons ts && all_stand (all_leaves (resolved_parts (names_of cons) ts)) variables))
  parts_tests_are cons variables Empty free = refl
  parts_tests_are cons variables (Then t ts) free =
      let names = names_of cons in
      let here = all_stand (leaves (resolved names t)) variables in
      let later = all_stand (all_leaves (resolved_parts names ts)) variables in
      (λ i. term_tests_are cons variables t free i && parts_tests_are cons variables ts free i)
      ∙ pair_tests (is_known names t) (has_arities cons t) here (parts_are_known names ts) (parts_have_arities cons ts) later
      ∙ ap (λ b. (is_known names t && parts_are_known names ts) && ((has_arities cons t && parts_have_arities cons ts) && b))
      (sym (all_append variables (leaves (resolved names t)) (all_leaves (resolved_parts names ts))))

pub all_tests_are : (cons : List Con) (variables : List (List ℕ)) (ts : List Written) → any_stands variables (names_of cons) ≡ false
    → all_faultless cons variables ts ≡ (all_known (names_of cons) ts && (all_have_arities cons ts && all_stand (leaves_of (all_resolved (names_of cons) ts)) variables))
all_tests_are cons variables [] free = refl
all_tests_are cons variables (t ∷ ts) free =
    let names = names_of cons in
    let here = all_stand (leaves (resolved names t)) variables in
    let later = all_stand (leaves_of (all_resolved names ts)) variables in
    (λ i. term_tests_are cons variables t free i && all_tests_are cons variables ts free i)
    ∙ pair_tests (is_known names t) (has_arities cons t) here (all_known names ts) (all_have_arities cons ts) later
    ∙ ap (λ b. (is_known names t && all_known names ts) && ((has_arities cons t && all_have_arities cons ts) && b))
    (sym (all_append variables (leaves (resolved names t)) (leaves_of (all_resolved names ts))))

-- the leaves of terms are no constructors

word_leaf : (cons : List (List ℕ)) (x : List ℕ) (o : Option ℕ) → place_of x cons ≡ o → any_stands (leaves (word_tree x o)) cons ≡ false
word_leaf cons x None e = or_from (stands x cons) false (sym (stands_is_placed x cons) ∙ ap is_some e) refl
word_leaf cons x (Some i) e = refl

mutual
  leaves_free : (cons : List (List ℕ)) (t : Written) → any_stands (leaves (resolved cons t)) cons ≡ false
  leaves_free cons (Word x) = word_leaf cons x (place_of x cons) refl
  leaves_free cons (Apply x ts) = parts_leaves_free cons ts
  leaves_free cons (Literal h) = refl

  parts_leaves_free : (cons : List (List ℕ)) (ts : Writtens) → any_stands (all_leaves (resolved_parts cons ts)) cons ≡ false
  parts_leaves_free cons Empty = refl
  parts_leaves_free cons (Then t ts) =
      any_append cons (leaves (resolved cons t)) (all_leaves (resolved_parts cons ts))
      ∙ or_from (any_stands (leaves (resolved cons t)) cons) (any_stands (all_leaves (resolved_parts cons ts)) cons) (leaves_free cons t) (parts_leaves_free cons ts)

pub all_leaves_free : (cons : List (List ℕ)) (ts : List Written) → any_stands (leaves_of (all_resolved cons ts)) cons ≡ false
all_leaves_free cons [] = refl
all_leaves_free cons (t ∷ ts) =
    any_append cons (leaves (resolved cons t)) (leaves_of (all_resolved cons ts))
    ∙ or_from (any_stands (leaves (resolved cons t)) cons) (any_stands (leaves_of (all_resolved cons ts)) cons) (leaves_free cons t) (all_leaves_free cons ts)

-- terms of the program

parts_side : (cons : List Con) (variables : List (List ℕ)) (ts : List Written) → parts_are_faultless cons variables (side_by_side ts) ≡ all_faultless cons variables ts
parts_side cons variables [] = refl
parts_side cons variables (t ∷ ts) = ap (λ b. is_faultless cons variables t && b) (parts_side cons variables ts)

pub faultless_apply : (cons : List Con) (variables : List (List ℕ)) (t : RawTerm) (name : List ℕ) (parts : List RawTerm) → t ≡ raw.Apply name parts
    → is_faultless cons variables (written_of t) ≡ (is_declared (length parts) (con_called name cons) && all_faultless cons variables (map written_of parts))
faultless_apply cons variables t name parts e =
    ap (λ w. is_faultless cons variables (written_of w)) e
    ∙ ap (is_faultless cons variables) (written_apply name parts)
    ∙ ap (λ n. is_declared n (con_called name cons) && parts_are_faultless cons variables (side_by_side (map written_of parts))) (count_side (map written_of parts) ∙ length-map parts written_of)
    ∙ ap (λ b. is_declared (length parts) (con_called name cons) && b) (parts_side cons variables (map written_of parts))

pub faultless_append : (cons : List Con) (variables : List (List ℕ)) (xs ys : List Written) → all_faultless cons variables
    (xs ++ ys) ≡ (all_faultless cons variables xs && all_faultless cons variables ys)
faultless_append cons variables [] ys = refl
faultless_append cons variables (x ∷ xs) ys = and_more (is_faultless cons variables x) (all_faultless cons variables (xs ++ ys))
    (all_faultless cons variables xs) (all_faultless cons variables ys) (faultless_append cons variables xs ys)

pub variable_absent : (variables : List (List ℕ)) (x : List ℕ) → None ≡ place_of x variables → stands x variables ≡ false
variable_absent variables x e = sym (stands_is_placed x variables) ∙ ap is_some (sym e)

-- nothing is made where something is wrong
pub not_made : {A : Type 0} (faultless : Bool) (Holds : A → Type 0) (o : Option A) → o ≡ None → faultless ≡ false → IsMade faultless Holds o
not_made faultless Holds o e wrong = subst (λ r. IsMade faultless Holds r) (sym e) wrong

pub made_none : {A : Type 0} (faultless : Bool) (Holds : A → Type 0) (o : Option A) → o ≡ None → IsMade faultless Holds o → faultless ≡ false
made_none faultless Holds o e h = subst (λ r. IsMade faultless Holds r) e h

pub made_some : {A : Type 0} (faultless : Bool) (Holds : A → Type 0) (o : Option A) (made : A) → o ≡ Some made → IsMade faultless Holds o → (faultless ≡ true) × Holds made
made_some faultless Holds o made e h = subst (λ r. IsMade faultless Holds r) e h

pub placed_number : (names : List (List ℕ)) (x : List ℕ) (n : ℕ) → Some n ≡ place_of x names → n ≡ number_of x names
placed_number names x n e = ap (or_else (length names)) e

pub faultless_three : (cons : List Con) (variables : List (List ℕ)) (xs ys zs : List Written) →
    (all_faultless cons variables xs && (all_faultless cons variables ys && all_faultless cons variables zs)) ≡ all_faultless cons variables (xs ++ (ys ++ zs))
faultless_three cons variables xs ys zs =
    sym (faultless_append cons variables xs (ys ++ zs) ∙ ap (λ b. all_faultless cons variables xs && b) (faultless_append cons variables ys zs))
