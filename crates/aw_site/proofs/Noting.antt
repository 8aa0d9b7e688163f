-- What was asked for and who watches, after one more.
use Rattle.std.proofs.Common.{◌≡◌, ℕ, ◌+◌, ◌<◌, length, take, get_or, Bool, true, false, List, [], ◌∷◌, ◌++◌, nat_eq, refl, ap, sym, ◌∙◌}
use Rattle.std.specs.Prelude.{◌||◌, ◌&&◌}
use Rattle.std.proofs.Math.Bool.{or-false}
use Rattle.std.proofs.Math.Path.{fun_ext}
use Rattle.aw_list.proofs.Everyday.{same-test as both_tests}
use Rattle.aw_term.specs.Names.{Ref, ref_eq}
use Rattle.aw_term.proofs.RefTests.{ref_eq-true, ref_eq-self}
use Rattle.aw_law_sites.specs.Asking.{asked_too}
use Rattle.aw_law_sites.specs.InOrder.{has_ref}
use Rattle.aw_law_sites.specs.Telling.{watches_too}
use Rattle.aw_subs.specs.declared.subs.Subs.{Subs}
use Rattle.aw_subs.specs.Entries.{is_asked, watches}
use Rattle.aw_site_repeat.specs.Holders.{ShowsAsked, ShowsWatchers}
use Rattle.aw_site.proofs.Steps.{take_here}

ref_eq-sym : (x r : Ref) → ref_eq x r ≡ ref_eq r x
ref_eq-sym x r = both_tests (ref_eq x r) (ref_eq r x)
    (λ e. ap (λ y. ref_eq r y) (ref_eq-true x r e) ∙ ref_eq-self r)
    (λ e. ap (λ y. ref_eq x y) (ref_eq-true r x e) ∙ ref_eq-self x)

-- nothing more was asked for
pub asked_none : (asked : Ref → Bool) → asked ≡ asked_too asked []
asked_none asked = fun_ext (λ r. sym (or-false (asked r)))

or_turned : (a b : Bool) → (a || b) ≡ (b || (a || false))
or_turned true true = refl
or_turned true false = refl
or_turned false true = refl
or_turned false false = refl

-- one more reference was asked for
pub asked_one : (old new : Subs) (r : Ref) (asked : Ref → Bool) → ((x : Ref) → is_asked new.subs x ≡ (ref_eq r x || is_asked old.subs x)) →
    ShowsAsked old asked → ShowsAsked new (asked_too asked (r ∷ []))
asked_one old new r asked writes shows x =
    (λ i. shows x i || (ref_eq-sym x r i || false)) ∙ sym (or_turned (ref_eq r x) (is_asked old.subs x)) ∙ sym (writes x)

pub asked_same : (old new : Subs) (asked : Ref → Bool) → ((x : Ref) → is_asked new.subs x ≡ is_asked old.subs x) → ShowsAsked old asked → ShowsAsked new asked
asked_same old new asked same shows x = shows x ∙ sym (same x)

has_cases : (a b c d : Bool) → (b || c) ≡ d → ((a || b) || c) ≡ (a || d)
has_cases true b c d e = refl
has_cases false b c d e = e

has_push : (x r : Ref) (rs : List Ref) → (has_ref x rs || has_ref x (r ∷ [])) ≡ has_ref x (rs ++ r ∷ [])
has_push x r [] = refl
has_push x r (s ∷ rs) = has_cases (ref_eq x s) (has_ref x rs) (has_ref x (r ∷ [])) (has_ref x (rs ++ r ∷ [])) (has_push x r rs)

-- one more of some references was asked for
pub asked_next : (subs : Subs) (asked : Ref → Bool) (wanted : List Ref) (i : ℕ) (r : Ref) → i < length wanted → r ≡ get_or wanted i r →
    ShowsAsked subs (asked_too (asked_too asked (take i wanted)) (r ∷ []))
    → ShowsAsked subs (asked_too asked (take (i + 1) wanted))
asked_next subs asked wanted i r l e h x =
    ap (λ rs. asked_too asked rs x) (take_here wanted i r l e)
    ∙ sym (has_cases (asked x) (has_ref x (take i wanted)) (has_ref x (r ∷ [])) (has_ref x (take i wanted ++ r ∷ [])) (has_push x r (take i wanted)))
    ∙ h x

-- one more role watches a reference
pub watched_one : (old new : Subs) (r : Ref) (from : ℕ) (ws : Ref → ℕ → Bool) → ((x : Ref) (role : ℕ) → watches new.subs x role ≡ ((ref_eq r x && nat_eq from role) || watches old.subs x role))
    → ShowsWatchers old ws → ShowsWatchers new (watches_too ws r from)
watched_one old new r from ws writes shows x role = (λ i. (ref_eq r x && nat_eq from role) || shows x role i) ∙ sym (writes x role)
