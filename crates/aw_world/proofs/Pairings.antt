-- What is seen of workspaces, place by place.
use Rattle.std.proofs.Common.{◌≡◌, ℕ, zero, suc, ◌<◌, List, [], ◌∷◌, length, get_or, map, ap, sym, ◌∙◌, refl, inl, inr}
use Rattle.std.specs.Prelude.{slice_set, slice_get, Some, ◌⊎◌}
use Rattle.std.proofs.lemmas.Option.{same_Some, slice_get_read}
use Rattle.aw_list.proofs.Everyday.{length-slice_set as length_set}
use Rattle.aw_term.specs.Rules.{get}
use Rattle.aw_grammar.specs.declared.grammar.Grammar.{Grammar}
use Rattle.aw_grammar.specs.GrammarOf.{grammar_of}
use Rattle.aw_world.specs.declared.workspace.Workspace.{Ghosts}
use Rattle.aw_term.specs.SameGrammar.{same_grammar}
use Rattle.aw_world.specs.Seen.{ArePlaced}

pub set_same : {B : Type 0} (d : B) (ys : List B) (i : ℕ) → slice_set ys i (get d ys i) ≡ ys
set_same d [] i = refl
set_same d (y ∷ ys) zero = refl
set_same d (y ∷ ys) (suc i) = ap (λ z. y ∷ z) (set_same d ys i)

-- what is seen of each workspace
module _ {A B : Type 0} (f : A → B) where
  pub map_got : (d : B) (xs : List A) (i : ℕ) (x : A) → slice_get xs i ≡ Some x → get d (map f xs) i ≡ f x
  map_got d [] i x e = absurd cc
  map_got d (a ∷ xs) zero x e = ap f (same_Some a x e)
  map_got d (a ∷ xs) (suc i) x e = map_got d xs i x e

  pub map_at : (d : B) (xs : List A) (i : ℕ) (x : A) → i < length xs → x ≡ get_or xs i x → get d (map f xs) i ≡ f x
  map_at d xs i x l e = map_got d xs i x (slice_get_read xs (length xs) i x refl l e)

  pub map_set : (xs : List A) (i : ℕ) (x : A) → map f (slice_set xs i x) ≡ slice_set (map f xs) i (f x)
  map_set [] i x = refl
  map_set (a ∷ xs) zero x = refl
  map_set (a ∷ xs) (suc i) x = ap (λ ys. f a ∷ ys) (map_set xs i x)

  -- a workspace that changed, but not what is seen of it
  pub map_keep : (d : B) (xs : List A) (i : ℕ) (old new : A) → i < length xs → old ≡ get_or xs i old → f new ≡ f old → map f (slice_set xs i new) ≡ map f xs
  map_keep d xs i old new l e s = map_set xs i new ∙ ap (slice_set (map f xs) i) (s ∙ sym (map_at d xs i old l e)) ∙ set_same d (map f xs) i

get_set_cases : {A : Type 0} (xs : List A) (i j : ℕ) (x y : A) → slice_get (slice_set xs i x) j ≡ Some y → ((j ≡ i) × (x ≡ y)) ⊎ (slice_get xs j ≡ Some y)
get_set_cases [] i j x y e = inr e
get_set_cases (z ∷ xs) zero zero x y e = inl (refl, same_Some x y e)
get_set_cases (z ∷ xs) zero (suc j) x y e = inr e
get_set_cases (z ∷ xs) (suc i) zero x y e = inr e
get_set_cases (z ∷ xs) (suc i) (suc j) x y e = elim (get_set_cases xs i j x y e) [ inl p ↦ inl (ap suc p.0, p.1) | inr p ↦ inr p ]

pub placed_set : {W : Type 0} (f : Ghosts W) (g : Grammar) (ws : List W) (i : ℕ) (old new : W) → ArePlaced f g ws → i < length ws → old ≡ get_or ws i old
    → f.its_grammar new ≡ f.its_grammar old → f.its_role new ≡ f.its_role old → ArePlaced f g (slice_set ws i new)
placed_set f g ws i old new P l e eg er =
    let here : slice_get ws i ≡ Some old = slice_get_read ws (length ws) i old refl l e in
    record {
      count = length_set ws i new ∙ P.count;
      role = λ j y s. elim (get_set_cases ws i j new y s) [
        | inl p ↦ ap (λ z. f.its_role z) (sym p.1) ∙ er ∙ P.role i old here ∙ sym p.0
        | inr p ↦ P.role j y p
      ];
      grammar = λ j y s. elim (get_set_cases ws i j new y s) [
        | inl p ↦ ap (λ z. same_grammar (f.its_grammar z) (grammar_of g)) (sym p.1) ∙ ap (λ z. same_grammar z (grammar_of g)) eg ∙ P.grammar i old here
        | inr p ↦ P.grammar j y p
      ];
    }
