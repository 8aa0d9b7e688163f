-- Contradictions, one equation after the other.
use Rattle.std.proofs.Common.{◌≡◌, Bool, true, false, cond, [], ◌∷◌, ◌++◌, Option, Some, None, refl, ap, sym, ◌∙◌, append_assoc}
use Rattle.std.proofs.lemmas.Bool.{and_parts, and_from}
use Rattle.aw_term.specs.Names.{Ref, ref_eq}
use Rattle.aw_term.proofs.RefTests.{ref_eq-true, ref_eq-self}
use Rattle.aw_term.proofs.HeadTests as heads
use Rattle.aw_store.specs.Equations as P
use Rattle.aw_store.specs.Equations.{Equation, Map, find}
use Rattle.aw_store.specs.EquationView.{body_of}
use Rattle.aw_store.specs.declared.equation.Body.{Body}
use Rattle.aw_store.specs.declared.equation.Body.TheVariants.{Same, Con, Num, Text}
use Rattle.aw_store.proofs.MoreEquations.{find-left_more, find-right_more}
use Rattle.aw_apply.specs.Messages.{Clash, OfReference}
use Rattle.aw_law_sites.specs.Receiving.{body_eq, add_on, add_all, clash_on, first_clash}
use Rattle.aw_law_worlds.proofs.Delivering.{refs-refl as refs_eq-self}
use Rattle.aw_space.proofs.Clashes.{refs_eq-true}

-- ---- added equations

-- an equation behind one of the same left side says nothing
skip_cases : (b : Bool) (o p : Option P.Body) (x y : P.Body) → (b ≡ true → o ≡ Some y) → o ≡ None → cond b (Some x) p ≡ p
skip_cases true o p x y f e = let g = f refl in absurd cc
skip_cases false o p x y f e = refl

skipped : (k es : Map) (e : Equation) (r : Ref) (b : P.Body) (o : Option P.Body) → find k e.left ≡ Some b → find k r ≡ o → find (k ++ es) r ≡ find (k ++ e ∷ es) r
skipped k es e r b (Some x) here f = find-left_more k es r x f ∙ sym (find-left_more k (e ∷ es) r x f)
skipped k es e r b None here f =
    find-right_more k es r f
    ∙ sym (skip_cases (ref_eq r e.left) (find k r) (find es r) e.body b (λ t. ap (find k) (ref_eq-true r e.left t) ∙ here) f)
    ∙ sym (find-right_more k (e ∷ es) r f)

added_cases : (k es : Map) (e : Equation) (r : Ref) (o : Option P.Body) → find k e.left ≡ o → find (add_on o k e ++ es) r ≡ find (k ++ e ∷ es) r
added_cases k es e r None f = ap (λ m. find m r) (append_assoc k (e ∷ []) es)
added_cases k es e r (Some b) f = skipped k es e r b (find k r) f refl

-- equations that are added in turn are found as behind one another
pub find_added : (k es : Map) (r : Ref) → find (add_all k es) r ≡ find (k ++ es) r
find_added k [] r = find_end k r
  where
    find_end : (k : Map) (r : Ref) → find k r ≡ find (k ++ []) r
    find_end [] r = refl
    find_end (e ∷ k) r = ap (cond (ref_eq r e.left) (Some e.body)) (find_end k r)
find_added k (e ∷ es) r = find_added (add_on (find k e.left) k e) es r ∙ added_cases k es e r (find k e.left) refl

pub add_all-push : (k es : Map) (e : Equation) → add_all k (es ++ e ∷ []) ≡ add_on (find (add_all k es) e.left) (add_all k es) e
add_all-push k [] e = refl
add_all-push k (x ∷ es) e = add_all-push (add_on (find k x.left) k x) es e

-- ---- the first contradiction

none_cases : (t : Bool) (c : Clash) (later : Option Clash) → cond t None (Some c) ≡ None → cond t later (Some c) ≡ later
none_cases true c later e = refl
none_cases false c later e = absurd cc

some_cases : (t : Bool) (c d : Clash) (later : Option Clash) → cond t None (Some c) ≡ Some d → cond t later (Some c) ≡ Some d
some_cases true c d later e = absurd cc
some_cases false c d later e = e

pub clash_none : (o : Option P.Body) (b : P.Body) (later : Option Clash) → clash_on o b None ≡ None → clash_on o b later ≡ later
clash_none None b later e = refl
clash_none (Some a) b later e = none_cases (body_eq a b) (record { kept = OfReference a; came = OfReference b }) later e

pub clash_some : (o : Option P.Body) (b : P.Body) (later : Option Clash) (c : Clash) → clash_on o b None ≡ Some c → clash_on o b later ≡ Some c
clash_some None b later c e = absurd cc
clash_some (Some a) b later c e = some_cases (body_eq a b) (record { kept = OfReference a; came = OfReference b }) c later e

-- one equation further
pub clash_next : (k pre rest : Map) (e : Equation) → clash_on (find (k ++ pre) e.left) e.body None ≡ None → first_clash (add_all k pre) (e ∷ rest) ≡ first_clash (add_all k (pre ++ e ∷ [])) rest
clash_next k pre rest e n =
    clash_none (find (add_all k pre) e.left) e.body _ (ap (λ o. clash_on o e.body None) (find_added k pre e.left) ∙ n)
    ∙ ap (λ m. first_clash m rest) (sym (add_all-push k pre e))

-- the first that contradicts
pub clash_here : (k pre rest : Map) (e : Equation) (c : Clash) → clash_on (find (k ++ pre) e.left) e.body None ≡ Some c → first_clash (add_all k pre) (e ∷ rest) ≡ Some c
clash_here k pre rest e c s = clash_some (find (add_all k pre) e.left) e.body _ c (ap (λ o. clash_on o e.body None) (find_added k pre e.left) ∙ s)

-- ---- the tests of references and bodies

body_eq-self : (b : P.Body) → body_eq b b ≡ true
body_eq-self (P.Same r) = ref_eq-self r
body_eq-self (P.Is h rs) = and_from _ _ (heads.head_eq-self h) (refs_eq-self rs)

body_eq-true : (a b : P.Body) → body_eq a b ≡ true → a ≡ b
body_eq-true (P.Same r) (P.Same s) e = ap P.Same (ref_eq-true r s e)
body_eq-true (P.Is h rs) (P.Is k ss) e =
    let (x, y) = and_parts _ _ e in
    let p = heads.head_eq-true h k x in
    let q = refs_eq-true rs ss y in
    λ i. P.Is (p i) (q i)
body_eq-true (P.Same r) (P.Is k ss) e = absurd cc
body_eq-true (P.Is h rs) (P.Same s) e = absurd cc

-- a body of the program is known by its view
body_one : (a b : Body) → body_of a ≡ body_of b → a ≡ b
body_one (Same r) (Same s) e = let p : r ≡ s = cc in ap Same p
body_one (Con c p) (Con d q) e = let x : c ≡ d = cc in let y : p ≡ q = cc in λ i. Con (x i) (y i)
body_one (Num m) (Num n) e = let p : m ≡ n = cc in ap Num p
body_one (Text t) (Text u) e = let p : t ≡ u = cc in ap Text p
body_one (Same r) (Con d q) e = absurd cc
body_one (Same r) (Num n) e = absurd cc
body_one (Same r) (Text u) e = absurd cc
body_one (Con c p) (Same s) e = absurd cc
body_one (Con c p) (Num n) e = absurd cc
body_one (Con c p) (Text u) e = absurd cc
body_one (Num m) (Same s) e = absurd cc
body_one (Num m) (Con d q) e = absurd cc
body_one (Num m) (Text u) e = absurd cc
body_one (Text t) (Same s) e = absurd cc
body_one (Text t) (Con d q) e = absurd cc
body_one (Text t) (Num n) e = absurd cc

pub clash_same : (o : Option P.Body) (a b : Body) → Some (body_of a) ≡ o → a ≡ b → None ≡ clash_on o (body_of b) None
clash_same o a b e s =
    sym (ap (λ t. cond t None (Some (record { kept = OfReference (body_of a); came = OfReference (body_of b) }))) (ap (λ x. body_eq (body_of a) (body_of x)) (sym s) ∙ body_eq-self (body_of a)))
    ∙ ap (λ o. clash_on o (body_of b) None) e

other_cases : (t : Bool) (a b : Body) (c : Clash) → body_eq (body_of a) (body_of b) ≡ t → (a ≡ b → ⊥) → Some c ≡ cond t None (Some c)
other_cases true a b c e n = absurd (n (body_one a b (body_eq-true (body_of a) (body_of b) e)))
other_cases false a b c e n = refl

pub clash_other : (o : Option P.Body) (a b : Body) → Some (body_of a) ≡ o → (a ≡ b → ⊥) → Some (record { kept = OfReference (body_of a); came = OfReference (body_of b) }) ≡ clash_on o (body_of b) None
clash_other o a b e n =
    other_cases (body_eq (body_of a) (body_of b)) a b (record { kept = OfReference (body_of a); came = OfReference (body_of b) }) refl n
    ∙ ap (λ o. clash_on o (body_of b) None) e
