-- A guard that waits for a reference goes on waiting for it so long as that has no equation.
use Rattle.std.proofs.Common.{◌≡◌, ℕ, List, Some, None, sym, ◌∙◌, subst}
use Rattle.aw_term.specs.Names.{Ref}
use Rattle.aw_term.specs.Rules.{Term}
use Rattle.aw_term.specs.Matching.{Waits}
use Rattle.aw_store.specs.Equations.{Body, Map, find}
use Rattle.aw_apply.specs.Guard.{guard_all}
use Rattle.aw_law_sites.proofs.Guarding.{Final, guard_all-keeps}

pub guard_all-waits : (k k' : Map) → ((r : Ref) (b : Body) → find k r ≡ Some b → find k' r ≡ Some b) → (s : Ref) → find k' s ≡ None →
    (n : ℕ) (ps : List Term) (rs : List Ref) → guard_all k n ps rs ≡ Waits s → guard_all k' n ps rs ≡ Waits s
guard_all-waits k k' extends s gone n ps rs e = guard_all-keeps k k' extends n ps rs (subst (Final k') (sym e) gone) ∙ e
