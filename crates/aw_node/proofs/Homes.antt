-- The role of a start.
use Rattle.std.proofs.Common.{◌≡◌, ℕ, List, true, Option, None, Some, refl, sym, ap, ◌∙◌, slice_get, map}
use Rattle.std.specs.Option.{option_map}
use Rattle.std.proofs.lemmas.Option.{slice_get-map}
use Rattle.aw_base.specs.NodeNames.{is_start}
use Rattle.aw_term.specs.Names.{root}
use Rattle.aw_term.specs.Rules.{Grammar, Sort}
use Rattle.aw_law_sites.specs.Homes.{home}

-- it is that of its sort
home-start : (g : Grammar) (s k : ℕ) (x : Sort) → slice_get g.sorts s ≡ Some x → x.start ≡ true → home g (root s k) ≡ x.role
home-start g s k x e start = rw (e, start, e) refl

start-of : (o : Option Sort) (x : Sort) → o ≡ Some x → is_start o ≡ true → x.start ≡ true
start-of None x e h = absurd (cc e)
start-of (Some y) x e h = let same : y ≡ x = cc e in cc

-- where the sort is a start sort of a list that is seen in another way
pub home-seen : {A : Type 0} (view : A → Sort) (as_ : List A) (g : Grammar) (s k : ℕ) (a : A) → g.sorts ≡ map view as_ → Some a ≡ slice_get as_ s →
    is_start (slice_get g.sorts s) ≡ true → home g (root s k) ≡ (view a).role
home-seen view as_ g s k a sorts found h =
    let e : slice_get g.sorts s ≡ Some (view a) = ap (λ (xs : List Sort). slice_get xs s) sorts ∙ slice_get-map view as_ s ∙ ap (option_map view) (sym found) in
    home-start g s k (view a) e (start-of (slice_get g.sorts s) (view a) e h)

-- one that is not declared is none
pub no-start : {A : Type 0} (view : A → Sort) (as_ : List A) (sorts : List Sort) (s : ℕ) → sorts ≡ map view as_ → None ≡ slice_get as_ s → is_start (slice_get sorts s) ≡ true → ⊥
no-start view as_ sorts s same found h =
    let e : slice_get sorts s ≡ None = ap (λ (xs : List Sort). slice_get xs s) same ∙ slice_get-map view as_ s ∙ ap (option_map view) (sym found) in
    absurd (cc (ap is_start e, h))
