-- What holds of a space that holds nothing.
use Rattle.std.proofs.Common.{◌≡◌, ℕ, List, [], refl, sym, subst, arith}
use Rattle.aw_term.specs.Names.{Ref}
use Rattle.aw_term.specs.Rules.{Grammar}
use Rattle.aw_store.specs.Equations.{Map}
use Rattle.aw_node_list.specs.Row.{Row}
use Rattle.aw_node_list.specs.declared.held.Held.{Held}
use Rattle.aw_standing.specs.declared.kept.Kept.{Kept}
use Rattle.aw_standing.specs.KeptStates.{AreKept, IsKept}
use Rattle.aw_space.specs.Sound.{IsSound}
use Rattle.aw_space.specs.Valid.{IsValid}

pub new_sound : (g : Grammar) (role : ℕ) (hs : List Held) (k : Map) (names : List Ref) → hs ≡ [] → k ≡ [] → IsSound g role hs k names
new_sound g role hs k names e f =
    subst (λ xs. IsSound g role xs k names) (sym e) (subst (λ m. IsSound g role [] m names) (sym f)
    (record { ordered = λ i j d a b. absurd (omega (arith, a, b)); own = refl; done = refl; rooted = refl; named = refl }))

pub new_valid : (g : Grammar) (hs : List Held) (k : Map) → hs ≡ [] → k ≡ [] → IsValid g hs k
new_valid g hs k e f = subst (λ xs. IsValid g xs k) (sym e) (subst (λ m. IsValid g [] m) (sym f) (record { nodes = refl; equations = refl }))

pub new_kept : (g : Grammar) (row : Row) (k : Map) (names : List Ref) (kept : Kept) → row.items ≡ [] → row.numbers ≡ [] →
    AreKept g [] k names [] [] kept.records.items kept.work.waiting → IsKept g row k names kept
new_kept g row k names kept e f w =
    subst (λ xs. AreKept g xs k names [] row.numbers kept.records.items kept.work.waiting) (sym e)
    (subst (λ ns. AreKept g [] k names [] ns kept.records.items kept.work.waiting) (sym f) w)
