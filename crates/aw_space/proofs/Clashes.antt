-- Equations that contradict nothing can be added in turn.
use Rattle.std.proofs.Common.{◌≡◌, Bool, true, false, cond, List, [], ◌∷◌, Option, Some, None, refl, ap, ◌∙◌, inl, inr}
use Rattle.std.proofs.lemmas.Bool.{and_parts}
use Rattle.aw_term.specs.Names.{Ref, ref_eq}
use Rattle.aw_term.specs.Trees.{head_eq}
use Rattle.aw_term.proofs.HeadTests.{head_eq-true}
use Rattle.aw_term.proofs.RefTests.{ref_eq-true}
use Rattle.aw_store.specs.Equations.{Body, Same, Is, Equation, Map, find}
use Rattle.aw_store.specs.StoreView.{IsAddable}
use Rattle.aw_apply.specs.Messages.{Clash, OfReference}
use Rattle.aw_law_sites.specs.Receiving.{refs_eq, body_eq, add_on, clash_on, first_clash}

pub refs_eq-true : (rs ss : List Ref) → refs_eq rs ss ≡ true → rs ≡ ss
refs_eq-true [] [] e = refl
refs_eq-true [] (s ∷ ss) e = absurd cc
refs_eq-true (r ∷ rs) [] e = absurd cc
refs_eq-true (r ∷ rs) (s ∷ ss) e =
    let (a, b) = and_parts (ref_eq r s) _ e in
    let p = ref_eq-true r s a in
    let q = refs_eq-true rs ss b in
    λ i. p i ∷ q i

pub body_eq-true : (a b : Body) → body_eq a b ≡ true → a ≡ b
body_eq-true (Same r) (Same s) e = ap Same (ref_eq-true r s e)
body_eq-true (Same r) (Is k ss) e = absurd cc
body_eq-true (Is h rs) (Same s) e = absurd cc
body_eq-true (Is h rs) (Is k ss) e =
    let (a, b) = and_parts (head_eq h k) _ e in
    let p = head_eq-true h k a in
    let q = refs_eq-true rs ss b in
    λ i. Is (p i) (q i)

kept_cases : (t : Bool) (c : Clash) (later : Option Clash) → cond t later (Some c) ≡ None → (t ≡ true) × (later ≡ None)
kept_cases true c later e = (refl, e)
kept_cases false c later e = absurd cc

free_cases : (k : Map) (e : Equation) (o : Option Body) (later : Option Clash) → find k e.left ≡ o → clash_on o e.body later ≡ None → IsAddable k e × (later ≡ None)
free_cases k e None later f none = (inl f, none)
free_cases k e (Some b) later f none =
    let (same, rest) = kept_cases (body_eq b e.body) (record { kept = OfReference b; came = OfReference e.body }) later none in
    (inr (f ∙ ap Some (body_eq-true b e.body same)), rest)

-- the first of them can be added, and then the others
pub first_free : (k : Map) (e : Equation) (es : List Equation) → first_clash k (e ∷ es) ≡ None → IsAddable k e × (first_clash (add_on (find k e.left) k e) es ≡ None)
first_free k e es none = free_cases k e (find k e.left) _ refl none
