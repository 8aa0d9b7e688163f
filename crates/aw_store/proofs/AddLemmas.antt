-- Adding an equation to a list, and the equations that are ready.
use Rattle.std.proofs.Common.{◌≡◌, ℕ, zero, suc, ◌+◌, ◌<◌, ◌≤◌, Bool, true, false, cond, List, [], ◌∷◌, ◌++◌, length, map, take, get_or, Option, Some, None, refl, ap, sym, ◌∙◌, subst, arith, Contains}
use Rattle.std.specs.Prelude.{is_none}
use Rattle.std.proofs.lemmas.List.{take_more, map_push}
use Rattle.std.proofs.lemmas.Bool.{and_parts}
use Rattle.aw_term.specs.Names.{Ref}
use Rattle.aw_store.specs.Refs.{ref_eq}
use Rattle.aw_store.specs.Equations as P
use Rattle.aw_store.specs.Equations.{Map, find}
use Rattle.aw_store.specs.EquationView.{equation_of}
use Rattle.aw_store.specs.NamedRefs.{is_named, has_names_of, has_names, refs_in, all_refs_in, NamesOnly}
use Rattle.aw_store.specs.ListStore.{lacking}
use Rattle.aw_store.specs.declared.equation.Equation.{Equation}
use Rattle.aw_term.proofs.RefTests.{ref_eq-true, ref_eq-self}
use Rattle.aw_store.proofs.NameLemmas.{has_names-push, is_named-append, is_named-behind, only_more, only_among}

-- Members
pub has_names-member : (ns : List Ref) (k : Map) (e : P.Equation) → Contains k e → has_names ns k ≡ true → has_names_of ns e ≡ true
has_names-member ns k e w = at_place k w.0 w.1 w.2
  where
    at_place : (k : Map) (i : ℕ) → i < length k → get_or k i e ≡ e → has_names ns k ≡ true → has_names_of ns e ≡ true
    at_place [] i l f v = absurd (omega (arith, l))
    at_place (x ∷ k) zero l f v = ap (has_names_of ns) (sym f) ∙ (and_parts (has_names_of ns x) _ v).0
    at_place (x ∷ k) (suc i) l f v = at_place k i (omega (arith, l)) f (and_parts (has_names_of ns x) _ v).1

pub contains_first : {A : Type 0} (y : A) (xs : List A) → Contains (y ∷ xs) y
contains_first y xs = (0, omega arith, refl)

pub contains_later : {A : Type 0} (y : A) (xs : List A) (x : A) → Contains xs x → Contains (y ∷ xs) x
contains_later y xs x (i, l, e) = (suc i, omega (arith, l), e)

some_found : (b : Bool) (x : P.Body) (o : Option P.Body) → is_none o ≡ false → is_none (cond b (Some x) o) ≡ false
some_found true x o e = refl
some_found false x o e = e

pub member_found : (k : Map) (e : P.Equation) → Contains k e → is_none (find k e.left) ≡ false
member_found k e w = at_place k w.0 w.1 w.2
  where
    at_place : (k : Map) (i : ℕ) → i < length k → get_or k i e ≡ e → is_none (find k e.left) ≡ false
    at_place [] i l f = absurd (omega (arith, l))
    at_place (x ∷ k) zero l f = ap (λ b. is_none (cond b (Some x.body) (find k e.left))) (ap (λ (y : P.Equation). ref_eq e.left y.left) f ∙ ref_eq-self e.left)
    at_place (x ∷ k) (suc i) l f = some_found (ref_eq e.left x.left) x.body (find k e.left) (at_place k i (omega (arith, l)) f)

-- One more equation
push_test : (b c : Bool) (x y : P.Body) (o p : Option P.Body) → (is_none p ≡ true → is_none o ≡ true) → is_none (cond b (Some x) p) ≡ true → is_none (cond b (Some x) o) ≡ true
push_test true c x y o p go e = e
push_test false c x y o p go e = go e

find-push_none : (k : Map) (e : P.Equation) (r : Ref) → is_none (find (k ++ e ∷ []) r) ≡ true → is_none (find k r) ≡ true
find-push_none [] e r w = refl
find-push_none (x ∷ k) e r w = push_test (ref_eq r x.left) true x.body x.body (find k r) (find (k ++ e ∷ []) r) (find-push_none k e r) w

find-push_some : (k : Map) (e : P.Equation) → is_none (find (k ++ e ∷ []) e.left) ≡ false
find-push_some [] e = ap (λ b. is_none (cond b (Some e.body) None)) (ref_eq-self e.left)
find-push_some (x ∷ k) e = some_found (ref_eq e.left x.left) x.body (find (k ++ e ∷ []) e.left) (find-push_some k e)

fewer : (a b : Bool) (m n : ℕ) → (a ≡ true → b ≡ true) → m ≤ n → cond a (suc m) m ≤ cond b (suc n) n
fewer true true m n i l = omega (arith, l)
fewer true false m n i l = let e : false ≡ true = i refl in absurd cc
fewer false true m n i l = omega (arith, l)
fewer false false m n i l = l

pub lacking-push : (k ready : Map) (e : P.Equation) → lacking (k ++ e ∷ []) ready ≤ lacking k ready
lacking-push k [] e = omega arith
lacking-push k (x ∷ ready) e = fewer _ _ _ _ (find-push_none k e x.left) (lacking-push k ready e)

fewer_one : (a b : Bool) (m n : ℕ) → a ≡ false → b ≡ true → m ≤ n → cond a (suc m) m + 1 ≤ cond b (suc n) n
fewer_one true b m n f g l = absurd cc
fewer_one false false m n f g l = absurd cc
fewer_one false true m n f g l = omega (arith, l)

fewer_still : (a b : Bool) (m n : ℕ) → (a ≡ true → b ≡ true) → m + 1 ≤ n → cond a (suc m) m + 1 ≤ cond b (suc n) n
fewer_still true true m n i l = omega (arith, l)
fewer_still true false m n i l = let e : false ≡ true = i refl in absurd cc
fewer_still false true m n i l = omega (arith, l)
fewer_still false false m n i l = l

-- one of these had no equation, and has one now
found_one : (b : Bool) (k ready : Map) (e x : P.Equation) → ref_eq e.left x.left ≡ b → is_none (find k e.left) ≡ true → is_none (cond b (Some x.body) (find ready e.left)) ≡ false →
    (is_none (find ready e.left) ≡ false → lacking (k ++ e ∷ []) ready + 1 ≤ lacking k ready) → lacking (k ++ e ∷ []) (x ∷ ready) + 1 ≤ lacking k (x ∷ ready)
found_one true k ready e x same f g go =
    let p = ref_eq-true e.left x.left same in
    fewer_one _ _ _ _ (ap (λ r. is_none (find (k ++ e ∷ []) r)) (sym p) ∙ find-push_some k e) (ap (λ r. is_none (find k r)) (sym p) ∙ f) (lacking-push k ready e)
found_one false k ready e x same f g go = fewer_still _ _ _ _ (find-push_none k e x.left) (go g)

pub lacking-one : (k ready : Map) (e : P.Equation) → is_none (find k e.left) ≡ true → is_none (find ready e.left) ≡ false → lacking (k ++ e ∷ []) ready + 1 ≤ lacking k ready
lacking-one k [] e f g = absurd cc
lacking-one k (x ∷ ready) e f g = found_one (ref_eq e.left x.left) k ready e x refl f g (lacking-one k ready e f)

pub lacking-few : (k es : Map) → lacking k es ≤ length es
lacking-few k [] = omega arith
lacking-few k (x ∷ es) = at_most (is_none (find k x.left)) (lacking k es) (length es) (lacking-few k es)
  where
    at_most : (b : Bool) (m n : ℕ) → m ≤ n → cond b (suc m) m ≤ suc n
    at_most true m n l = omega (arith, l)
    at_most false m n l = omega (arith, l)

-- What is kept of the ready equations: all of them, or none
abbrev pub IsKept : List Equation → List Equation → Ref → Type 0
IsKept old new left = new ≡ cond (is_none (find (map equation_of old) left)) [] old

pub kept_all : (old new : List Equation) (e : Equation) → IsKept old new e.left → Contains (map equation_of old) (equation_of e) → new ≡ old
kept_all old new e w m = w ∙ ap (λ b. cond b [] old) (member_found (map equation_of old) (equation_of e) m)

kept_test : (b : Bool) (ns : List Ref) (old : List Equation) → has_names ns (map equation_of old) ≡ true → has_names ns (map equation_of (cond b [] old)) ≡ true
kept_test true ns old w = refl
kept_test false ns old w = w

pub kept_named : (ns : List Ref) (old new : List Equation) (r : Ref) → IsKept old new r → has_names ns (map equation_of old) ≡ true → has_names ns (map equation_of new) ≡ true
kept_named ns old new r w v = ap (λ x. has_names ns (map equation_of x)) w ∙ kept_test _ ns old v

kept_some : (b : Bool) (k : Map) (old : List Equation) → lacking k (map equation_of (cond b [] old)) ≤ lacking k (map equation_of old)
kept_some true k old = omega arith
kept_some false k old = omega arith

pub kept_lacking : (k : Map) (old new : List Equation) (r : Ref) → IsKept old new r → lacking k (map equation_of new) ≤ lacking k (map equation_of old)
kept_lacking k old new r w = subst (λ x. lacking k (map equation_of x) ≤ lacking k (map equation_of old)) (sym w) (kept_some _ k old)

room_test : (b : Bool) (k : Map) (old : List Equation) (e : Equation) (n most : ℕ) → is_none (find (map equation_of old) e.left) ≡ b →
    is_none (find k e.left) ≡ true → n + lacking k (map equation_of old) ≤ most → n + 1 ≤ most →
    (n + 1) + lacking (k ++ equation_of e ∷ []) (map equation_of (cond b [] old)) ≤ most
room_test true k old e n most t f l m = omega (arith, m)
room_test false k old e n most t f l m = omega (arith, l, lacking-one k (map equation_of old) (equation_of e) f t)

pub kept_room : (k : Map) (old new : List Equation) (e : Equation) (n most : ℕ) → IsKept old new e.left → find k e.left ≡ None → n + lacking k (map equation_of old) ≤ most → n + 1 ≤ most →
    (n + 1) + lacking (k ++ equation_of e ∷ []) (map equation_of new) ≤ most
kept_room k old new e n most w f l m = subst (λ x. (n + 1) + lacking (k ++ equation_of e ∷ []) (map equation_of x) ≤ most) (sym w) (room_test _ k old e n most refl (ap is_none f) l m)

-- a member that has no equation is one that lacks it
pub member_lacks : (k ready : Map) (e : P.Equation) → Contains ready e → find k e.left ≡ None → 1 ≤ lacking k ready
member_lacks k ready e m f = omega (arith, lacking-one k ready e (ap is_none f) (member_found ready e m))

pub has_names-take : (ns : List Ref) (es : List Equation) (i : ℕ) (e : Equation) → i < length es → e ≡ get_or es i e →
    has_names ns (map equation_of (take i es)) ≡ true → has_names_of ns (equation_of e) ≡ true → has_names ns (map equation_of (take (i + 1) es)) ≡ true
has_names-take ns es i e l f w v =
    ap (λ x. has_names ns (map equation_of x)) (take_more es i e l ∙ ap (λ x. take i es ++ x ∷ []) (sym f)) ∙ ap (has_names ns) (map_push equation_of (take i es) e)
    ∙ has_names-push ns (map equation_of (take i es)) (equation_of e) w v

-- Which names came
among_all : (es : List Equation) (i : ℕ) (e : Equation) (q : Ref) → i < length es → e ≡ get_or es i e → is_named (refs_in (equation_of e)) q ≡ true →
    is_named (all_refs_in (map equation_of es)) q ≡ true
among_all [] i e q l f w = absurd (omega (arith, l))
among_all (x ∷ es) zero e q l f w = is_named-append (refs_in (equation_of x)) _ q (ap (λ y. is_named (refs_in (equation_of y)) q) (sym f) ∙ w)
among_all (x ∷ es) (suc i) e q l f w = is_named-behind (refs_in (equation_of x)) _ q (among_all es i e q (omega (arith, l)) f w)

-- a step of a loop over equations
pub only_at : (a b c : List Ref) (es : List Equation) (i : ℕ) (e : Equation) → i < length es → e ≡ get_or es i e →
    NamesOnly a b (all_refs_in (map equation_of es)) → NamesOnly b c (refs_in (equation_of e)) → NamesOnly a c (all_refs_in (map equation_of es))
only_at a b c es i e l f g h =
    let all = all_refs_in (map equation_of es) in
    only_more a b c all g (only_among b c (refs_in (equation_of e)) all (λ q w. among_all es i e q l f w) h)
