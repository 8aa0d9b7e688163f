-- Some of the rules keep to the faces where all do.
use Rattle.std.proofs.Common.{◌≡◌, ℕ, suc, Bool, true, false, cond, List, [], ◌∷◌, None, refl, ap, ◌∙◌, inl, inr}
use Rattle.std.specs.Prelude.{filter}
use Rattle.aw_list.specs.Members.{Member}
use Rattle.aw_term.specs.Rules.{Rule, Sort, Grammar, some_rules}
use Rattle.aw_face.specs.declared.faces.Using.{Using}
use Rattle.aw_face.specs.declared.faces.Faces.{Faces}
use Rattle.aw_face.specs.Faces.{rule_fault, rules_fault, at_rule, face_fault}
use Rattle.aw_modular.proofs.Joining.{rule_keeps}

none_at : (sorts : List Sort) (offers : List ℕ) (uses : List Using) (i : ℕ) (rs : List Rule) →
    ((r : Rule) → Member r rs → rule_fault sorts offers uses r ≡ None) → rules_fault sorts offers uses i rs ≡ None
none_at sorts offers uses i [] all = refl
none_at sorts offers uses i (r ∷ rs) all =
    ap (λ fault. at_rule i fault (rules_fault sorts offers uses (suc i) rs)) (all r (inl refl)) ∙ none_at sorts offers uses (suc i) rs (λ x m. all x (inr m))

from_cases : {A : Type 0} (b : Bool) (y x : A) (ys zs : List A) → (Member x ys → Member x zs) → Member x (cond b (y ∷ ys) ys) → Member x (y ∷ zs)
from_cases true y x ys zs later (inl e) = inl e
from_cases true y x ys zs later (inr n) = inr (later n)
from_cases false y x ys zs later n = inr (later n)

filter_from : {A : Type 0} (p : A → Bool) (xs : List A) (x : A) → Member x (filter p xs) → Member x xs
filter_from p [] x m = m
filter_from p (y ∷ ys) x m = from_cases (p y) y x (filter p ys) ys (filter_from p ys x) m

faces_kept : (p : Rule → Bool) (g : Grammar) (offers : List ℕ) (uses : List Using) → face_fault g offers uses ≡ None → face_fault (some_rules p g) offers uses ≡ None
faces_kept p g offers uses e = none_at g.sorts offers uses 0 (filter p g.rules) (λ r m. rule_keeps g.sorts offers uses 0 g.rules e r (filter_from p g.rules r m))

-- so a part does
pub part_keeps : (p : Rule → Bool) (g h : Grammar) (f k : Faces) → h ≡ some_rules p g → k ≡ f → face_fault g f.offers f.uses ≡ None → face_fault h k.offers k.uses ≡ None
part_keeps p g h f k is same e = ap (λ (x : Grammar). face_fault x k.offers k.uses) is ∙ ap (λ (x : Faces). face_fault (some_rules p g) x.offers x.uses) same ∙ faces_kept p g f.offers f.uses e
