-- The ends of a chase that is no circle, with how many equations it follows.
use Rattle.std.specs.Prelude.{◌≡◌, ℕ, suc, List, Some, None}
use Rattle.aw_term.specs.Trees.{Head}
use Rattle.aw_term.specs.Names.{Ref}
use Rattle.aw_store.specs.Equations.{Same, Is, Map, find}
use Rattle.aw_store.specs.Chase.{Chased, Found, Missing}

-- an end that is no circle
pub data End : Type 0 where
  At_body : (head : Head) → (parts : List Ref) → End
  At_missing : (at : Ref) → End

-- an end as what a chase comes to
abbrev pub as_chased : End → Chased
as_chased (At_body h rs) = Found h rs
as_chased (At_missing r) = Missing r

-- the end of a chase that follows so many equations
pub data Ends (k : Map) (x : End) : ℕ → Ref → Type 0 where
  stands : {r : Ref} {h : Head} {rs : List Ref} → find k r ≡ Some (Is h rs) → x ≡ At_body h rs → Ends k x 0 r
  lacks : {r : Ref} → find k r ≡ None → x ≡ At_missing r → Ends k x 0 r
  follows : {n : ℕ} {r s : Ref} → find k r ≡ Some (Same s) → Ends k x n s → Ends k x (suc n) r
