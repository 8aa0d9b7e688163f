-- What is read at a slot.
use Rattle.std.proofs.Common.{◌≡◌, ℕ, zero, suc, ◌<◌, true, false, List, [], ◌∷◌, length, map, get_or, Option, Some, None, refl, ap, sym, ◌∙◌, subst, arith, inl, inr}
use Rattle.std.specs.Prelude.{slice_get, option_and_then, IsSome, Result, Ok, Err, IfOk, OnOk, Contains}
use Rattle.std.proofs.lemmas.Option.{slice_get_within, none-some}
use Rattle.std.proofs.lemmas.Bool.{and_parts}
use Rattle.aw_term.specs.Names.{Ref}
use Rattle.aw_store.specs.Equations as P
use Rattle.aw_store.specs.Equations.{Map, find}
use Rattle.aw_store.specs.EquationView.{body_of, equation_of}
use Rattle.aw_store.specs.NamedRefs.{has_names_of, has_names, body_at, parts_at, text_at, con_parts, as_text}
use Rattle.aw_store.specs.StoreView.{IsKindOf, Adds, IsAddable, has_few, all_few}
use Rattle.aw_store.specs.declared.equation.Equation.{Equation}
use Rattle.aw_store.specs.declared.facts.Kind.{Kind}
use Rattle.aw_store.specs.declared.facts.Added.{Added}
use Rattle.aw_store.specs.declared.facts.Added.TheVariants as added
use Rattle.aw_store.proofs.AddLemmas.{has_names-member}
use Rattle.aw_cells.specs.declared.stored.Stored.{Stored}
use Rattle.aw_cells.specs.StoredBodies.{body_from, fits, is_written, slots_of, text_from, kind_from}
use Rattle.aw_cells.specs.Cells.{map_in, is_full, IsSound}
use Rattle.aw_cells.specs.Compared.{Compares}
use Rattle.aw_cells.proofs.BodyLemmas.{kind_is, child_is, parts_are, text_is, body_from-some}
use Rattle.aw_cells.proofs.MapLemmas.{find-slot, empty_body}
use Rattle.aw_cells.proofs.SoundLemmas.{body_at-cell, slot_fits}

pub kind_at : (ns : List Ref) (cs : List Stored) (order : List ℕ) (s : ℕ) (c : Stored) (k : Kind) → IsSound ns cs order → slice_get cs s ≡ Some c →
    k ≡ kind_from c → IsKindOf ns (body_at (map_in ns cs order) ns s) k
kind_at ns cs order s c k w e f =
    subst (λ x. IsKindOf ns (body_at (map_in ns cs order) ns s) x) (sym f)
    (subst (λ b. IsKindOf ns b (kind_from c)) (sym (body_at-cell ns cs order s c w e)) (kind_is ns c (slot_fits ns cs order s c w e)))

pub child_within : (ns : List Ref) (cs : List Stored) (order : List ℕ) (s k : ℕ) (c : Stored) → IsSound ns cs order → slice_get cs s ≡ Some c →
    k < length (parts_at (map_in ns cs order) ns s) → k < length (slots_of c)
child_within ns cs order s k c w e l =
    omega (arith, l, ap (λ b. length (con_parts b)) (body_at-cell ns cs order s c w e), parts_are ns c (slot_fits ns cs order s c w e))

pub child_at : (ns : List Ref) (cs : List Stored) (order : List ℕ) (s k x : ℕ) (c : Stored) → IsSound ns cs order → slice_get cs s ≡ Some c →
    slice_get (slots_of c) k ≡ Some x → slice_get ns x ≡ slice_get (parts_at (map_in ns cs order) ns s) k
child_at ns cs order s k x c w e f =
    child_is ns c k x (slot_fits ns cs order s c w e) f ∙ ap (λ b. slice_get (con_parts b) k) (sym (body_at-cell ns cs order s c w e))

pub text_at-cell : (ns : List Ref) (cs : List Stored) (order : List ℕ) (s : ℕ) (c : Stored) → IsSound ns cs order → slice_get cs s ≡ Some c → text_at (map_in ns cs order) ns s ≡ text_from c
text_at-cell ns cs order s c w e = ap as_text (body_at-cell ns cs order s c w e) ∙ text_is ns c

-- a slot with a text is a live one
pub live_text : (k : Map) (ns : List Ref) (s : ℕ) → IsSome (text_at k ns s) → s < length ns
live_text k ns s = by (slice_get ns s) refl
  where
    by : (o : Option Ref) → slice_get ns s ≡ o → IsSome (as_text (option_and_then (find k) o)) → s < length ns
    by None e w = absurd cc
    by (Some r) e w = slice_get_within ns s r e

pub no_body : (ns : List Ref) (cs : List Stored) (order : List ℕ) (s : ℕ) (r : Ref) (c : Stored) → IsSound ns cs order → slice_get ns s ≡ Some r →
    slice_get cs s ≡ Some c → is_written c ≡ false → find (map_in ns cs order) r ≡ None
no_body ns cs order s r c w e f g = find-slot ns cs order s r w.once (w.ordered s) e ∙ empty_body ns (slice_get cs s) (ap is_full f ∙ g)

pub body_found : (ns : List Ref) (cs : List Stored) (order : List ℕ) (s : ℕ) (r : Ref) (c : Stored) → IsSound ns cs order → slice_get ns s ≡ Some r →
    slice_get cs s ≡ Some c → find (map_in ns cs order) r ≡ body_from ns c
body_found ns cs order s r c w e f = find-slot ns cs order s r w.once (w.ordered s) e ∙ ap (option_and_then (body_from ns)) f

-- what one body beside another comes to is what adding comes to
pub adds_from : {E : Type 0} (r : Result Added E) (k : Map) (e : Equation) (kept : Option P.Body) → find k e.left ≡ kept → IfOk r (Compares kept e.body) → IfOk r (λ a. Adds k e a k)
adds_from (Err x) k e kept f w = w
adds_from (Ok added.New) k e kept f w = elim w [ ]
adds_from (Ok added.Same) k e kept f w = (f ∙ w, refl)
adds_from (Ok (added.Conflict a b)) k e kept f w = (f ∙ w.0, w.1, (λ g. w.2 (w.0 ∙ ap Some (g ∙ ap body_of w.1))), refl)

pub few_at : (es : List Equation) (i : ℕ) (e : Equation) → i < length es → e ≡ get_or es i e → all_few (map equation_of es) ≡ true → has_few (equation_of e) ≡ true
few_at [] i e l f w = absurd (omega (arith, l))
few_at (x ∷ es) zero e l f w = ap (λ y. has_few (equation_of y)) f ∙ (and_parts (has_few (equation_of x)) _ w).0
few_at (x ∷ es) (suc i) e l f w = few_at es i e (omega (arith, l)) f (and_parts (has_few (equation_of x)) _ w).1

pub addable : (ns : List Ref) (k : Map) (e : P.Equation) (c : Stored) → fits (length ns) c ≡ true → is_written c ≡ true → find k e.left ≡ body_from ns c → IsAddable k e → body_from ns c ≡ Some e.body
addable ns k e c w v f a = elim a [
  | inl g ↦ let (b, q) = body_from-some ns c w v in absurd (none-some b (sym g ∙ f ∙ q))
  | inr g ↦ sym f ∙ g
]

-- where the names of all of them are there, those of each are
pub each_named : {T E : Type 0} (r : Result T E) (ns : List Ref) (es seen : List Equation) → seen ≡ es →
    OnOk r (has_names ns (map equation_of seen) ≡ true) → OnOk r ((e : P.Equation) → Contains (map equation_of es) e → has_names_of ns e ≡ true)
each_named (Ok x) ns es seen f w = λ e m. has_names-member ns (map equation_of es) e m (ap (λ x. has_names ns (map equation_of x)) (sym f) ∙ w)
each_named (Err x) ns es seen f w = w
