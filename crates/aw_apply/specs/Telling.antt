-- What a guard gives by references, as the plain definitions speak of it.
use Rattle.std.specs.Prelude.{ℕ, ◌<◌, List, All, length}
use Rattle.aw_term.specs.Names.{Node, Ref}
use Rattle.aw_term.specs.Matching as Q
use Rattle.aw_term.specs.Rules.{Rule}
use Rattle.aw_term.specs.Choices as C
use Rattle.aw_name.specs.Limits.{most_steps}
use Rattle.aw_choice.specs.ChoiceView.{answer_of, place_of}
use Rattle.aw_apply.specs.declared.guard.Guard.{Guard}
use Rattle.aw_apply.specs.declared.guard.Guard.TheVariants as guard
use Rattle.aw_apply.specs.declared.telling.Tested.{Tested}
use Rattle.aw_apply.specs.declared.telling.Tested.TheVariants as tested
use Rattle.aw_apply.specs.declared.telling.Weighed.{Weighed}
use Rattle.aw_apply.specs.declared.telling.Weighed.TheVariants as weighed

-- each slot that the guard gives has a name
abbrev pub IsLive : List Ref → Guard → Type 0
IsLive names (guard.Yes bound) = All (λ slot. slot < length names) bound
IsLive names (guard.Waits slot) = slot < length names
IsLive names (guard.Differs place) = Unit {0}
IsLive names (guard.Circle slot) = slot < length names

-- what a guard gives once its slots were named
abbrev pub matched_of : Tested → Q.Matched Ref Ref
matched_of (tested.Yes bound) = Q.Yes bound.items
matched_of (tested.Waits on) = Q.Waits on
matched_of (tested.Differs place) = Q.Differs (place_of place)
matched_of (tested.Circle at) = Q.Circle at

-- what this rule leads to where it is weighed so
abbrev pub weighed_of : Rule → Weighed → C.Outcome Ref Ref
weighed_of rule (weighed.Refused answer) = C.Refused (answer_of answer)
weighed_of rule (weighed.Takes bound) = C.Takes rule bound.items

-- where a rule with so many children is taken, there is room for a child's step below the node
abbrev pub HasRoom : ℕ → Node → Weighed → Type 0
HasRoom children n (weighed.Refused answer) = Unit {0}
HasRoom children n (weighed.Takes bound) = 0 < children → length n.steps < most_steps
