-- The choices among events.
use Rattle.std.proofs.Common.{◌≡◌, true, List, [], ◌∷◌, map, refl, ap, ◌∙◌}
use Rattle.aw_term.specs.Rules.{Grammar}
use Rattle.aw_term.specs.Choices.{Choice}
use Rattle.aw_term.specs.WellFormed.{Each}
use Rattle.aw_choice.specs.ChoiceView.{choice_of}
use Rattle.aw_choice.specs.Events as E
use Rattle.aw_base.specs.ChoiceFits.{choice_ok}
use Rattle.aw_sched.specs.declared.event.Event.{Event}
use Rattle.aw_sched.specs.declared.event.Event.TheVariants.{Choose, Deliver, Settle, List as Lists}
use Rattle.aw_sched.specs.Answers.{event_seen, MayCome}
use Rattle.aw_replay.specs.UnitedLaws.{TakesSameChoices}
use Rattle.aw_replay.specs.United.{united}
use Rattle.aw_replay.specs.ChoicesIn.{choices_in}
use Rattle.aw_replay.specs.Choosing.{choices_among}

-- they are those of the plain events
pub chosen_seen : (events : List Event) → map event_seen (choices_among events) ≡ map E.Chooses (choices_in (map event_seen events))
chosen_seen [] = refl
chosen_seen (Choose c ∷ es) = ap (λ us. E.Chooses (choice_of c) ∷ us) (chosen_seen es)
chosen_seen (Deliver message ∷ es) = chosen_seen es
chosen_seen (Settle ∷ es) = chosen_seen es
chosen_seen (Lists role ∷ es) = chosen_seen es

-- each may be asked
pub chosen_ok : (g : Grammar) (events : List Event) → Each (MayCome g) events → Each (λ (c : Choice). choice_ok g c ≡ true) (choices_in (map event_seen events))
chosen_ok g [] may = tt
chosen_ok g (Choose c ∷ es) may = (may.0, chosen_ok g es may.1)
chosen_ok g (Deliver message ∷ es) may = chosen_ok g es may.1
chosen_ok g (Settle ∷ es) may = chosen_ok g es may.1
chosen_ok g (Lists role ∷ es) may = chosen_ok g es may.1

-- also where all sorts are at one role
pub chosen_may_come : (g : Grammar) → TakesSameChoices g → (events : List Event) → Each (MayCome g) events → Each (MayCome (united g)) (choices_among events)
chosen_may_come g same [] may = tt
chosen_may_come g same (Choose c ∷ es) may = (same (choice_of c) ∙ may.0, chosen_may_come g same es may.1)
chosen_may_come g same (Deliver message ∷ es) may = chosen_may_come g same es may.1
chosen_may_come g same (Settle ∷ es) may = chosen_may_come g same es may.1
chosen_may_come g same (Lists role ∷ es) may = chosen_may_come g same es may.1
