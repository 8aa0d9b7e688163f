-- What is valid of lists of valid references, equations and children.
use Rattle.std.proofs.Common.{◌≡◌, ℕ, zero, suc, ◌<◌, true, List, [], ◌∷◌, ◌++◌, length, get_or, map, reverse, Option, Some, None, ap, sym, ◌∙◌, subst, arith}
use Rattle.std.specs.Prelude.{IfSome, option_map}
use Rattle.std.proofs.lemmas.Bool.{and_parts}
use Rattle.aw_term.specs.Names.{Ref}
use Rattle.aw_term.specs.Rules.{Grammar}
use Rattle.aw_term.specs.WellFormed.{Each}
use Rattle.aw_base.specs.ChoiceFits.{ref_ok}
use Rattle.aw_store.specs.Equations as P
use Rattle.aw_store.specs.Equations.{find, mentions}
use Rattle.aw_store.specs.EquationView.{body_of, equation_of}
use Rattle.aw_store.specs.declared.equation.Body.{Body}
use Rattle.aw_store.specs.declared.equation.Equation.{Equation}
use Rattle.aw_law_sites.specs.ValidNames.{refs_ok, body_ok, equation_ok, equations_ok}
use Rattle.aw_site.proofs.SentNames.{refs_append, body_mentions, found_ok}
use Rattle.aw_site.proofs.Walking.{reverse-push}

-- ---- one of a list

pub each_at : {A : Type 0} (P : A → Type 0) (xs : List A) (i : ℕ) (x : A) → i < length xs → x ≡ get_or xs i x → Each P xs → P x
each_at P [] i x l e all = absurd (omega (arith, l))
each_at P (y ∷ ys) zero x l e all = subst P (sym e) all.0
each_at P (y ∷ ys) (suc i) x l e all = each_at P ys i x (omega (arith, l)) e all.1

pub ref_at : (g : Grammar) (rs : List Ref) (i : ℕ) (r : Ref) → i < length rs → r ≡ get_or rs i r → refs_ok g rs ≡ true → ref_ok g r ≡ true
ref_at g [] i r l e all = absurd (omega (arith, l))
ref_at g (y ∷ ys) zero r l e all = ap (ref_ok g) e ∙ (and_parts (ref_ok g y) (refs_ok g ys) all).0
ref_at g (y ∷ ys) (suc i) r l e all = ref_at g ys i r (omega (arith, l)) e (and_parts (ref_ok g y) (refs_ok g ys) all).1

pub equation_at : (g : Grammar) (es : List Equation) (i : ℕ) (e : Equation) → i < length es → e ≡ get_or es i e → equations_ok g (map equation_of es) ≡ true → equation_ok g (equation_of e) ≡ true
equation_at g [] i e l at all = absurd (omega (arith, l))
equation_at g (y ∷ ys) zero e l at all = ap (λ (x : Equation). equation_ok g (equation_of x)) at ∙ (and_parts (equation_ok g (equation_of y)) (equations_ok g (map equation_of ys)) all).0
equation_at g (y ∷ ys) (suc i) e l at all = equation_at g ys i e (omega (arith, l)) at (and_parts (equation_ok g (equation_of y)) (equations_ok g (map equation_of ys)) all).1

-- the body of a valid equation
pub body_in : (g : Grammar) (e : P.Equation) → equation_ok g e ≡ true → body_ok g e.body ≡ true
body_in g e ok = (and_parts (ref_ok g e.left) (body_ok g e.body) ok).1

-- ---- the walk of a load

-- a body that is found among valid equations
pub found_valid : (g : Grammar) (k : P.Map) (r : Ref) (o : Option Body) → equations_ok g k ≡ true → option_map body_of o ≡ find k r → IfSome o (λ b. body_ok g (body_of b) ≡ true)
found_valid g k r None ok e = tt
found_valid g k r (Some b) ok e = body_in g (record { left = r; body = body_of b }) (found_ok g k r (body_of b) ok (sym e))

-- the last reference of a stack, and those before it
pub popped_valid : (g : Grammar) (rest stack : List Ref) (r : Ref) → stack ≡ rest ++ r ∷ [] → refs_ok g (reverse stack) ≡ true → (ref_ok g r ≡ true) × (refs_ok g (reverse rest) ≡ true)
popped_valid g rest stack r e ok = and_parts (ref_ok g r) (refs_ok g (reverse rest)) (ap (refs_ok g) (sym (reverse-push rest stack r e)) ∙ ok)

-- the references of a valid body before valid ones
pub gave_valid : (g : Grammar) (b : P.Body) (rs new : List Ref) → new ≡ mentions b ++ rs → body_ok g b ≡ true → refs_ok g rs ≡ true → refs_ok g new ≡ true
gave_valid g b rs new e ok all = ap (refs_ok g) e ∙ refs_append g (mentions b) rs (body_mentions g b ok) all
