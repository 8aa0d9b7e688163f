-- Slots and the references that they name.
use Rattle.std.specs.Prelude.{ℕ, Bool, false, ◌&&◌, List, ◌++◌, map, length, Option, Some, nat_eq}
use Rattle.aw_term.specs.Trees.{Head, head_eq}
use Rattle.aw_term.specs.Names.{Ref}
use Rattle.aw_term.specs.Matching.{Matched, Yes, Waits, Differs, Circle}
use Rattle.aw_store.specs.Equations.{Body, Is}
pub use Rattle.aw_store.specs.NamedRefs.{names_at, AreNamed}

-- a match of references, as one of what slots name
abbrev pub as_named : Matched Ref Ref → Matched (Option Ref) (Option Ref)
as_named (Yes rs) = Yes (map Some rs)
as_named (Waits r) = Waits (Some r)
as_named (Differs path) = Differs path
as_named (Circle r) = Circle (Some r)

-- the match of what stands behind this path
abbrev pub behind : {A R : Type 0} → List ℕ → Matched A R → Matched A R
behind path (Differs p) = Differs (path ++ p)
behind path m = m

-- this head with so many parts stands there
abbrev pub is_head : Head → ℕ → Option Body → Bool
is_head h n (Some (Is k parts)) = head_eq h k && nat_eq n (length parts)
is_head h n _ = false
