-- Lists of references in order.
use Rattle.std.specs.Prelude.{Bool, false, ◌||◌, List, [], ◌∷◌, if◌then◌else◌}
use Rattle.aw_term.specs.Names.{Ref, ref_eq, ref_lt}

-- a reference before the first that is after it, or nowhere where it stands already
abbrev pub insert_ref : Ref → List Ref → List Ref
insert_ref r [] = r ∷ []
insert_ref r (s ∷ ss) = if ref_lt r s then r ∷ s ∷ ss else if ref_eq r s then s ∷ ss else s ∷ insert_ref r ss

-- the same references in order, each once
abbrev pub in_order : List Ref → List Ref
in_order [] = []
in_order (r ∷ rs) = insert_ref r (in_order rs)

-- whether a reference is among these
abbrev pub has_ref : Ref → List Ref → Bool
has_ref r [] = false
has_ref r (s ∷ ss) = ref_eq r s || has_ref r ss
