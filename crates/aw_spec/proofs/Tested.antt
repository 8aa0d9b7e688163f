-- What a line with tests says, and what offers and uses say by the places of their names.
use Rattle.std.proofs.Common.{◌≡◌, ℕ, Bool, true, false, cond, not, ◌&&◌, List, [], ◌∷◌, ◌++◌, length, Option, Some, None, is_some, refl, sym, ap, ◌∙◌}
use Rattle.aw_name_index.specs.Places.{stands, place_of, number_of, or_else, first_told}
use Rattle.aw_name_index.proofs.FirstTold.{NoneHolds, none_holds, none_told}
use Rattle.aw_name_index.proofs.Lookups.{stands_is_placed}
use Rattle.aw_grammar.specs.Declarations.{sort_names}
use Rattle.aw_face.specs.Faces.{is_offered, is_used}
use Rattle.aw_spec.specs.declared.fault.SpecKind.{SpecKind}
use Rattle.aw_spec.specs.declared.fault.SpecKind.TheVariants.{Double, Unknown}
use Rattle.aw_spec.specs.Lines.{OfferLine, UseLine}
use Rattle.aw_spec.specs.Reading.{Spec, Step, On, Wrong, told_or, tested, says, with_offer}
use Rattle.aw_spec.specs.Placed.{offering, using_by}

-- where a line leads on, none of its tests holds, and it leads to this
led : (tests : List (Bool × SpecKind)) (s after : Spec) (told : Option SpecKind) → first_told tests ≡ told → told_or s told ≡ On after → NoneHolds tests × (s ≡ after)
led tests s after None none e = (none_holds tests none, cc)
led tests s after (Some kind) none e = cc

pub tested_on : (tests : List (Bool × SpecKind)) (s after : Spec) → tested tests s ≡ On after → NoneHolds tests × (s ≡ after)
tested_on tests s after e = led tests s after (first_told tests) refl e

-- where no test holds, the line leads on
pub tested_none : (tests : List (Bool × SpecKind)) (s : Spec) → NoneHolds tests → tested tests s ≡ On s
tested_none tests s none = ap (told_or s) (none_told tests none)

last_test : (b : Bool) (kind : SpecKind) (after : Spec) → told_or after (cond b (Some kind) None) ≡ cond b (Wrong kind) (On after)
last_test true kind after = refl
last_test false kind after = refl

-- a name stands in a list exactly where it has a place there, and that is its number
standing : (x : List ℕ) (names : List (List ℕ)) (o : Option ℕ) → place_of x names ≡ o → stands x names ≡ is_some o
standing x names o e = sym (stands_is_placed x names) ∙ ap is_some e

numbered : (x : List ℕ) (names : List (List ℕ)) (i : ℕ) → place_of x names ≡ Some i → number_of x names ≡ i
numbered x names i e = ap (or_else (length names)) e

by_place : (s : Spec) (sort : List ℕ) (o : Option ℕ) → place_of sort (sort_names s.declared) ≡ o → says s (OfferLine sort) ≡ offering s o
by_place s sort None e =
    ap (λ b. told_or (with_offer s sort) (cond (not b) (Some Unknown) (cond (is_offered (number_of sort (sort_names s.declared)) s.offers) (Some Double) None))) (standing sort _ None e)
by_place s sort (Some i) e =
    ap (λ b. told_or (with_offer s sort) (cond (not b) (Some Unknown) (cond (is_offered (number_of sort (sort_names s.declared)) s.offers) (Some Double) None))) (standing sort _ (Some i) e)
    ∙ ap (λ k. told_or (record s { offers = s.offers ++ k ∷ [] }) (cond (is_offered k s.offers) (Some Double) None)) (numbered sort _ i e)
    ∙ last_test (is_offered i s.offers) Double (record s { offers = s.offers ++ i ∷ [] })

-- an offer, by the place of its sort
pub offer_by : (s : Spec) (sort : List ℕ) → says s (OfferLine sort) ≡ offering s (place_of sort (sort_names s.declared))
offer_by s sort = by_place s sort (place_of sort (sort_names s.declared)) refl

-- what a use says, where it is known whether both names stand and which numbers they have
abbrev use_step : Spec → Bool → ℕ → ℕ → Step
use_step s both r k = told_or (record s { uses = s.uses ++ record { role = r; sort = k } ∷ [] }) (cond (not both) (Some Unknown) (cond (is_used r k s.uses) (Some Double) None))

by_places : (s : Spec) (role sort : List ℕ) (o p : Option ℕ) → place_of role s.declared.roles ≡ o → place_of sort (sort_names s.declared) ≡ p → says s (UseLine role sort) ≡ using_by s o p
by_places s role sort None p e f =
    ap (λ b. use_step s (b && stands sort (sort_names s.declared)) (number_of role s.declared.roles) (number_of sort (sort_names s.declared))) (standing role _ None e)
by_places s role sort (Some r) None e f =
    ap (λ b. use_step s (b && stands sort (sort_names s.declared)) (number_of role s.declared.roles) (number_of sort (sort_names s.declared))) (standing role _ (Some r) e)
    ∙ ap (λ b. use_step s b (number_of role s.declared.roles) (number_of sort (sort_names s.declared))) (standing sort _ None f)
by_places s role sort (Some r) (Some k) e f =
    ap (λ b. use_step s (b && stands sort (sort_names s.declared)) (number_of role s.declared.roles) (number_of sort (sort_names s.declared))) (standing role _ (Some r) e)
    ∙ ap (λ b. use_step s b (number_of role s.declared.roles) (number_of sort (sort_names s.declared))) (standing sort _ (Some k) f)
    ∙ ap (λ n. use_step s true n (number_of sort (sort_names s.declared))) (numbered role _ r e)
    ∙ ap (λ n. use_step s true r n) (numbered sort _ k f)
    ∙ last_test (is_used r k s.uses) Double (record s { uses = s.uses ++ record { role = r; sort = k } ∷ [] })

-- a use, by the places of its role and its sort
pub use_by : (s : Spec) (role sort : List ℕ) → says s (UseLine role sort) ≡ using_by s (place_of role s.declared.roles) (place_of sort (sort_names s.declared))
use_by s role sort = by_places s role sort (place_of role s.declared.roles) (place_of sort (sort_names s.declared)) refl refl
