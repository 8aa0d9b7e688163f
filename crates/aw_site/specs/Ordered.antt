-- References in their order, each once.
use Rattle.std.specs.Prelude.{◌≡◌, true, List}
use Rattle.aw_term.specs.Names.{Ref, ref_lt}
use Rattle.aw_term.specs.WellFormed.{Later}

-- each reference is before all later ones
abbrev pub AreInOrder : List Ref → Type 0
AreInOrder rs = Later (λ a b. ref_lt a b ≡ true) rs
