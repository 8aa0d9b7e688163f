-- The laws of worlds speak of the clinic and its laboratory, and of a grammar of one role: their premises are met.
use Rattle.std.specs.Prelude.{◌≡◌, Bool, true, false, List, [], ◌∷◌, is_some}
use Rattle.aw_term.specs.Choices.{Choice, Start, Develop, undivided}
use Rattle.aw_term.specs.WellFormed.{Each}
use Rattle.aw_choice.specs.Events.{Event, Chooses, Delivers, Settles}
use Rattle.aw_law_sites.specs.Laws.{IsAccepted, SameChoices}
use Rattle.aw_law_sites.specs.WorkedChoices.{own_result, own_words, own_choices}
use Rattle.aw_law_sites.specs.Worked.{clinic, clinic_words, visit, test, ada}
use Rattle.aw_law_sites.specs.Worlds.{empty_world, IsQuiet}
use Rattle.aw_law_sites.specs.Outputs.{MayStand, after_events}
use Rattle.aw_law_worlds.specs.Laws.{Headline, Artifacts}
use Rattle.aw_law_worlds.specs.Headline.{OutputsHold, OneRoleIsPlain}

-- the grammar is accepted
abbrev pub ClinicIsAccepted : Type 0
ClinicIsAccepted = IsAccepted clinic_words clinic

-- so whatever is done there, and whenever messages come, clinic and laboratory print what one workspace for all would print
abbrev pub ClinicMerges : Type 0
ClinicMerges = Headline clinic × Artifacts clinic_words clinic × OutputsHold clinic_words clinic

-- two visits begin, one is admitted, its messages come the other way round, and its test is skipped
abbrev two_visits : List Event
two_visits =
    Chooses (Start 0 1) ∷ Chooses (Start 0 2) ∷ Chooses (Develop visit 0 (ada ∷ [])) ∷ Delivers 1 ∷ Delivers 0
    ∷ Chooses (Develop test 2 []) ∷ Settles ∷ []

-- the choices among them, which are all taken, and the same choices in another order
abbrev in_turn : List Choice
in_turn = Start 0 1 ∷ Start 0 2 ∷ Develop visit 0 (ada ∷ []) ∷ Develop test 2 [] ∷ []

-- the same choices, with the second start last
abbrev other_order : List Choice
other_order = Start 0 1 ∷ Develop visit 0 (ada ∷ []) ∷ Develop test 2 [] ∷ Start 0 2 ∷ []

-- the two visits end quiet
abbrev EndsQuiet : Bool → Type 0
EndsQuiet loads =
    IsQuiet (after_events clinic (empty_world clinic loads) two_visits) × ((after_events clinic (empty_world clinic loads) two_visits).taken ≡ in_turn)

-- these events may stand in a schedule and end quiet, with loads and without; and the other order is allowed
abbrev pub ClinicMeetsPremises : Type 0
ClinicMeetsPremises =
    Each (MayStand clinic) two_visits
    × EndsQuiet false
    × EndsQuiet true
    × SameChoices in_turn other_order
    × (is_some (undivided clinic [] other_order) ≡ true)

-- a grammar of one role is accepted, so it writes what the undivided run writes; and its choices may be asked
abbrev pub OneRoleSpeaks : Type 0
OneRoleSpeaks = OneRoleIsPlain own_words own_result × (own_result.roles ≡ 1) × (is_some (undivided own_result [] own_choices) ≡ true)
