-- The test of references is exact.
use Rattle.std.proofs.Common.{◌≡◌, true, refl}
use Rattle.aw_name.specs.SameRefs.{ref_Decides}
use Rattle.aw_term.specs.Names.{Ref, ref_eq}

pub ref_eq-true : (a b : Ref) → ref_eq a b ≡ true → a ≡ b
ref_eq-true a b = (ref_Decides a b).0

pub ref_eq-self : (a : Ref) → ref_eq a a ≡ true
ref_eq-self a = (ref_Decides a a).1 refl
