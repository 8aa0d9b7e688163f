-- Finding in more equations than there were.
use Rattle.std.proofs.Common.{◌≡◌, Bool, true, false, cond, List, [], ◌∷◌, ◌++◌, Option, Some, None, refl, sym, ◌∙◌}
use Rattle.aw_term.specs.Trees.{Never}
use Rattle.aw_term.specs.WellFormed.{Each, Later}
use Rattle.aw_term.specs.Names.{Ref, ref_eq}
use Rattle.aw_store.specs.Adding.{AreNew}
use Rattle.aw_store.specs.Equations.{Body, Equation, Map, find}
use Rattle.aw_term.proofs.RefTests.{ref_eq-true}

absent_cases : (b : Bool) (r : Ref) (e : Equation) (o : Option Body) → ref_eq r e.left ≡ b → (r ≡ e.left → Never) → cond b (Some e.body) o ≡ o
absent_cases true r e o f n = elim (n (ref_eq-true r e.left f)) [ ]
absent_cases false r e o f n = refl

pub find-absent : (k : Map) (r : Ref) → Each (λ (e : Equation). r ≡ e.left → Never) k → find k r ≡ None
find-absent [] r n = refl
find-absent (e ∷ k) r n = absent_cases (ref_eq r e.left) r e (find k r) refl n.0 ∙ find-absent k r n.1

append_cases : (b : Bool) (x : Option Body) (o p : Option Body) (y : Body) → (o ≡ Some y → p ≡ Some y) → cond b x o ≡ Some y → cond b x p ≡ Some y
append_cases true x o p y f g = g
append_cases false x o p y f g = f g

pub find-left_more : (k es : Map) (r : Ref) (b : Body) → find k r ≡ Some b → find (k ++ es) r ≡ Some b
find-left_more [] es r b f = absurd cc
find-left_more (e ∷ k) es r b f = append_cases (ref_eq r e.left) (Some e.body) (find k r) (find (k ++ es) r) b (find-left_more k es r b) f

right_cases : (b : Bool) (x : Body) (o p q : Option Body) → (o ≡ None → p ≡ q) → cond b (Some x) o ≡ None → cond b (Some x) p ≡ q
right_cases true x o p q f g = absurd cc
right_cases false x o p q f g = f g

pub find-right_more : (k es : Map) (r : Ref) → find k r ≡ None → find (k ++ es) r ≡ find es r
find-right_more [] es r f = refl
find-right_more (e ∷ k) es r f = right_cases (ref_eq r e.left) e.body (find k r) (find (k ++ es) r) (find es r) (find-right_more k es r) f

-- each of these equations is the map's
abbrev pub Holds : Map → List Equation → Type 0
Holds k [] = Unit {0}
Holds k (e ∷ es) = (find k e.left ≡ Some e.body) × Holds k es

pub Holds-left : (k : Map) (es fs : List Equation) → Holds k (es ++ fs) → Holds k es
Holds-left k [] fs h = tt
Holds-left k (e ∷ es) fs h = (h.0, Holds-left k es fs h.1)

pub Holds-right : (k : Map) (es fs : List Equation) → Holds k (es ++ fs) → Holds k fs
Holds-right k [] fs h = h
Holds-right k (e ∷ es) fs h = Holds-right k es fs h.1

pub Holds-wider : (k k' : Map) → ((r : Ref) (b : Body) → find k r ≡ Some b → find k' r ≡ Some b) → (es : List Equation) → Holds k es → Holds k' es
Holds-wider k k' f [] h = tt
Holds-wider k k' f (e ∷ es) h = (f e.left e.body h.0, Holds-wider k k' f es h.1)

pub Holds-past : (k fs : Map) (es : List Equation) → Each (λ (e : Equation). find k e.left ≡ None) es → Holds fs es → Holds (k ++ fs) es
Holds-past k fs [] n h = tt
Holds-past k fs (e ∷ es) n h = (find-right_more k fs e.left n.0 ∙ h.0, Holds-past k fs es n.1 h.1)

pub Holds-append : (k : Map) (es fs : List Equation) → Holds k es → Holds k fs → Holds k (es ++ fs)
Holds-append k [] fs a b = b
Holds-append k (e ∷ es) fs a b = (a.0, Holds-append k es fs a.1 b)

-- what has no equation has none behind one of another left side
absent_more : (k : Map) (e : Equation) (fs : List Equation) → Each (λ f. find k f.left ≡ None) fs → Each (λ f. e.left ≡ f.left → Never) fs → Each (λ f. find (k ++ e ∷ []) f.left ≡ None) fs
absent_more k e [] none other = tt
absent_more k e (f ∷ fs) none other = (
  find-right_more k (e ∷ []) f.left none.0 ∙ find-absent (e ∷ []) f.left ((λ q. other.0 (sym q)), tt),
  absent_more k e fs none.1 other.1,
)

-- equations with different left sides that have none
pub new_apart : (k : Map) (es : List Equation) → Each (λ e. find k e.left ≡ None) es → Later (λ (e f : Equation). e.left ≡ f.left → Never) es → AreNew k es
new_apart k [] none differ = tt
new_apart k (e ∷ es) none differ = (none.0, new_apart (k ++ e ∷ []) es (absent_more k e es none.1 differ.0) differ.1)
