-- What a guard answers, as the plain definitions speak of it.
use Rattle.std.specs.Prelude.{◌≡◌, ℕ, ◌<◌, ◌≤◌, List, [], ◌∷◌, ◌++◌, Option, Some, All, length, map, slice_get}
use Rattle.aw_term.specs.Trees.{join}
use Rattle.aw_term.specs.Names.{Ref}
use Rattle.aw_term.specs.WellFormed.{all_leaves, all_nesting}
use Rattle.aw_term.specs.Views.{pattern_of}
use Rattle.aw_term.specs.declared.term.Pattern.{Pattern}
use Rattle.aw_term.specs.Matching as Q
use Rattle.aw_term.specs.Matching.{and_then}
use Rattle.aw_term.specs.Limits.{most_inherited, most_levels, most_variables}
use Rattle.aw_choice.specs.declared.choice.Path.{Path}
use Rattle.aw_choice.specs.ChoiceView.{path_of, place_of}
use Rattle.aw_store.specs.Equations.{Map}
use Rattle.aw_apply.specs.Guard.{guard_all}
use Rattle.aw_apply.specs.Named.{AreNamed, names_at, as_named, behind}
use Rattle.aw_apply.specs.declared.guard.Guard.{Guard}
use Rattle.aw_apply.specs.declared.guard.Guard.TheVariants as guard
use Rattle.aw_apply.specs.declared.guard.Met.{Met}
use Rattle.aw_apply.specs.declared.guard.Met.TheVariants as met
use Rattle.aw_apply.specs.declared.guarding.Step.{Step}
use Rattle.aw_apply.specs.declared.guarding.Step.TheVariants as step

-- one pattern, where the variables have taken these slots by now
abbrev pub step_of : List Ref → List ℕ → Step → Q.Matched (Option Ref) (Option Ref)
step_of names bound step.Yes = Q.Yes (names_at names bound)
step_of names bound (step.Waits slot) = Q.Waits (slice_get names slot)
step_of names bound (step.Differs path) = Q.Differs (path_of path)
step_of names bound (step.Circle slot) = Q.Circle (slice_get names slot)

-- The old slots were bound before a part at this path was matched, and the new ones are bound behind it: the step says what the match gives.
abbrev pub GoesOn : List Ref → List ℕ → List ℕ → Path → Step → Q.Matched Ref Ref → Type 0
GoesOn names old new at step matched = step_of names new step ≡ and_then (Q.Yes (names_at names old)) (behind (path_of at) (as_named matched))

-- the same of the reference that a slot names, which is matched so
abbrev pub GoesOnAt : List Ref → ℕ → List ℕ → List ℕ → Path → Step → (Ref → Q.Matched Ref Ref) → Type 0
GoesOnAt names slot old new at step matched = (r : Ref) → slice_get names slot ≡ Some r → GoesOn names old new at step (matched r)

-- the same of the reference at a slot that is the part with this number of what stands at the path
abbrev pub GoesOnUnder : List Ref → ℕ → List ℕ → List ℕ → Path → ℕ → Step → (Ref → Q.Matched Ref Ref) → Type 0
GoesOnUnder names slot old new at number step matched =
    (r : Ref) → slice_get names slot ≡ Some r → step_of names new step ≡ and_then (Q.Yes (names_at names old)) (behind (path_of at ++ number ∷ []) (as_named (matched r)))

-- what a guard gives, where these references have the slots
abbrev pub guard_of : List Ref → Guard → Q.Matched (Option Ref) (Option Ref)
guard_of names (guard.Yes bound) = Q.Yes (names_at names bound)
guard_of names (guard.Waits slot) = Q.Waits (slice_get names slot)
guard_of names (guard.Differs place) = Q.Differs (place_of place)
guard_of names (guard.Circle slot) = Q.Circle (slice_get names slot)

-- what a guard gives whose patterns meet their slots so, where their variables take these
abbrev pub guard_with : List ℕ → Met → Guard
guard_with bound met.Yes = guard.Yes bound
guard_with bound (met.Waits slot) = guard.Waits slot
guard_with bound (met.Differs place) = guard.Differs place
guard_with bound (met.Circle slot) = guard.Circle slot

-- Patterns may be tried on these slots: each has a name, there is one for each pattern, and the patterns are few, of few levels and of few variables.
pub record IsTestable (names : List Ref) (patterns : List Pattern) (inherited : List ℕ) : Type 0 where
  pub live : All (λ slot. slot < length names) inherited
  pub same : length patterns ≡ length inherited
  pub few : length patterns ≤ most_inherited
  pub shallow : all_nesting (join (map pattern_of patterns)) ≤ most_levels
  pub room : length (all_leaves (join (map pattern_of patterns))) ≤ most_variables

-- this is what the patterns give on the references that these slots name
abbrev pub IsGuardOf : Map → List Ref → List Pattern → List ℕ → Guard → Type 0
IsGuardOf k names patterns inherited result =
    (rs : List Ref) → AreNamed names inherited rs → guard_of names result ≡ as_named (guard_all k 1 (map pattern_of patterns) rs)
