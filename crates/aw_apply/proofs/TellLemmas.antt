-- What a guard gives, by slots and by references.
use Rattle.std.proofs.Common.{◌≡◌, ◌<◌, ℕ, zero, suc, List, [], ◌∷◌, length, Some, slice_get, get_or, refl, ap, arith}
use Rattle.std.proofs.lemmas.Option.{slice_get_within}
use Rattle.aw_term.specs.Names.{Ref}
use Rattle.aw_term.specs.Matching.{Matched, Yes, Waits, Differs, Circle}
use Rattle.aw_store.specs.NamedRefs.{AreNamed}
use Rattle.aw_store.proofs.SlotLemmas.{named_live, same_somes}
use Rattle.aw_apply.specs.Named.{as_named}
use Rattle.aw_apply.specs.GuardView.{guard_of}
use Rattle.aw_apply.specs.Telling.{IsLive}
use Rattle.aw_apply.specs.declared.guard.Guard.{Guard}
use Rattle.aw_apply.specs.declared.guard.Guard.TheVariants as guard

-- each slot that a guard gives has a name
pub guard_live : (names : List Ref) (g : Guard) (m : Matched Ref Ref) → guard_of names g ≡ as_named m → IsLive names g
guard_live names (guard.Yes bound) (Yes rs) e = let f : AreNamed names bound rs = cc in named_live names bound rs f
guard_live names (guard.Yes bound) (Waits r) e = absurd cc
guard_live names (guard.Yes bound) (Differs p) e = absurd cc
guard_live names (guard.Yes bound) (Circle r) e = absurd cc
guard_live names (guard.Waits slot) (Waits r) e = let f : slice_get names slot ≡ Some r = cc in slice_get_within names slot r f
guard_live names (guard.Waits slot) (Yes rs) e = absurd cc
guard_live names (guard.Waits slot) (Differs p) e = absurd cc
guard_live names (guard.Waits slot) (Circle r) e = absurd cc
guard_live names (guard.Differs place) m e = tt
guard_live names (guard.Circle slot) (Circle r) e = let f : slice_get names slot ≡ Some r = cc in slice_get_within names slot r f
guard_live names (guard.Circle slot) (Yes rs) e = absurd cc
guard_live names (guard.Circle slot) (Waits r) e = absurd cc
guard_live names (guard.Circle slot) (Differs p) e = absurd cc

-- matches that are named alike are one
pub matched_one : (a b : Matched Ref Ref) → as_named a ≡ as_named b → a ≡ b
matched_one (Yes rs) (Yes ss) e = ap Yes (same_somes rs ss cc)
matched_one (Yes rs) (Waits s) e = absurd cc
matched_one (Yes rs) (Differs q) e = absurd cc
matched_one (Yes rs) (Circle s) e = absurd cc
matched_one (Waits r) (Waits s) e = ap Waits cc
matched_one (Waits r) (Yes ss) e = absurd cc
matched_one (Waits r) (Differs q) e = absurd cc
matched_one (Waits r) (Circle s) e = absurd cc
matched_one (Differs p) (Differs q) e = ap Differs cc
matched_one (Differs p) (Yes ss) e = absurd cc
matched_one (Differs p) (Waits s) e = absurd cc
matched_one (Differs p) (Circle s) e = absurd cc
matched_one (Circle r) (Circle s) e = ap Circle cc
matched_one (Circle r) (Yes ss) e = absurd cc
matched_one (Circle r) (Waits s) e = absurd cc
matched_one (Circle r) (Differs q) e = absurd cc

-- slots that are live name something
pub named_some : (names : List Ref) (slots : List ℕ) → ((i d : ℕ) → i < length slots → get_or slots i d < length names) → (rs : List Ref) × AreNamed names slots rs
named_some names [] live = ([], refl)
named_some names (s ∷ slots) live =
    let (rs, e) = named_some names slots (λ i d l. live (suc i) d (omega (arith, l))) in
    let (r, f) = get_live names s (live 0 0 (omega arith)) in
    (r ∷ rs, λ i. f i ∷ e i)
  where
    get_live : (ns : List Ref) (i : ℕ) → i < length ns → (r : Ref) × (slice_get ns i ≡ Some r)
    get_live [] i l = absurd (omega (arith, l))
    get_live (r ∷ ns) zero l = (r, refl)
    get_live (r ∷ ns) (suc i) l = get_live ns i (omega (arith, l))
