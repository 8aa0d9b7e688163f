-- What was looked at has its sizes.
use Rattle.std.specs.Prelude.{get_or, slice_get}
use Rattle.std.proofs.Common.{◌≡◌, ℕ, suc, zero, ◌+◌, ◌<◌, ◌^◌, List, [], ◌∷◌, drop, map, Some, None, sym, ap, subst, ◌∙◌}
use Rattle.std.proofs.lemmas.List.{drop_more}
use Rattle.std.proofs.lemmas.Option.{slice_get_within, get_or_from_slice_get}
use Rattle.aw_term.specs.Rules.{Term}
use Rattle.aw_term.specs.Trees.{Con, Made, join}
use Rattle.aw_term.specs.WellFormed.{Each}
use Rattle.aw_codec.specs.Ranges.{TextSized}
use Rattle.aw_law_nodes.specs.Sizes.{TreeSized, TreesSized}

parts_sized : (ts : List Term) → Each TreeSized ts → TreesSized (join ts)
parts_sized [] each = tt
parts_sized (t ∷ ts) each = (each.0, parts_sized ts each.1)

-- a constructor with its parts
pub made_sized : {A : Type 0} (view : A → Term) (t : Term) (c : ℕ) (parts : List A) → t ≡ Made (Con c) (join (map view parts)) → c < 2 ^ 16 → Each TreeSized (map view parts) → TreeSized t
made_sized view t c parts e few each = subst TreeSized (sym e) (few, parts_sized (map view parts) each)

-- the bytes of a text
pub text_sized : (t : List ℕ) → ((i : ℕ) → get_or t i 0 < 256) → TextSized t
text_sized [] f = tt
text_sized (b ∷ t) f = (f 0, text_sized t (λ i. f (suc i)))

-- one more of them was looked at
pub one_more : {A B : Type 0} (P : B → Type 0) (view : A → B) (xs : List A) (i : ℕ) (x : A) → slice_get xs i ≡ Some x → P (view x) → Each P (map view (drop (i + 1) xs)) → Each P (map view (drop i xs))
one_more {A} P view xs i x e here rest =
    subst (λ (ys : List A). Each P (map view ys)) (sym (drop_more xs i x (slice_get_within xs i x e) ∙ ap (λ y. y ∷ drop (i + 1) xs) (get_or_from_slice_get xs i x x e))) (here, rest)

-- none is left
pub none_left : {A B : Type 0} (P : B → Type 0) (view : A → B) (xs : List A) (i : ℕ) → None ≡ slice_get xs i → Each P (map view (drop i xs))
none_left P view [] zero e = tt
none_left P view [] (suc i) e = tt
none_left P view (y ∷ ys) zero e = absurd cc
none_left P view (y ∷ ys) (suc i) e = none_left P view ys i e
