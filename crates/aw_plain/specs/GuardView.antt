-- What a guard gives, as the plain definitions speak of it.
use Rattle.aw_term.specs.Names.{Ref}
use Rattle.aw_term.specs.Rules.{Value}
use Rattle.aw_term.specs.Matching as Q
use Rattle.aw_choice.specs.ChoiceView.{place_of}
use Rattle.aw_plain.specs.declared.guard.Guard.{Guard}
use Rattle.aw_plain.specs.declared.guard.Guard.TheVariants.{Yes, Waits, Differs}
use Rattle.aw_plain_rows.specs.TreeView.{values_of}

-- what a guard gives, with values and references as plain ones
abbrev pub guard_of : Guard → Q.Matched Value Ref
guard_of (Yes ts) = Q.Yes (values_of ts)
guard_of (Waits r) = Q.Waits r
guard_of (Differs place) = Q.Differs (place_of place)
