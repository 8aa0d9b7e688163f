-- Small cases that were worked by hand: two visits that do not meet, and a message that names both.
use Rattle.std.specs.Prelude.{◌≡◌, true, List, [], ◌∷◌, length, filter, nat_eq}
use Rattle.aw_term.specs.Trees.{Con}
use Rattle.aw_term.specs.Names.{Node, root, below, part, result}
use Rattle.aw_term.specs.Choices.{Start, Develop}
use Rattle.aw_store.specs.Equations.{Is, Equation}
use Rattle.aw_apply.specs.Messages.{Tells}
use Rattle.aw_law_sites.specs.SiteEvents.{SiteEvent, Got, site_run}
use Rattle.aw_law_sites.specs.Sites.{empty_site}
use Rattle.aw_law_sites.specs.Worked.{clinic, visit, test, ada}
use Rattle.aw_law_sites.specs.Worlds.{Move, Chooses, Delivers, empty_world}
use Rattle.aw_law_cases.specs.Cases.{Cases, of_event, keep_site}
use Rattle.aw_law_cases.specs.CaseWorlds.{keep_moves}
use Rattle.aw_law_cases.specs.Ties.{counted}

-- the case with number 1, whatever it began with
abbrev first_case : Cases
first_case start number = nat_eq number 1

-- visit#2, and visit#2/admit.1
abbrev second_visit : Node
second_visit = root 0 2

-- the test of the second visit
abbrev second_test : Node
second_test = below second_visit 0 1

-- Two visits are admitted, the second one first: its call and its question are messages 0 and 1, and those of the first visit are 2 and 3.
abbrev two_visits : List Move
two_visits =
    Chooses (Start 0 2) ∷ Chooses (Start 0 1) ∷ Chooses (Develop second_visit 0 (ada ∷ [])) ∷ Chooses (Develop visit 0 (ada ∷ [])) ∷ Delivers 3 ∷ Delivers 0
    ∷ Delivers 9 ∷ Delivers 2 ∷ Chooses (Develop second_test 2 []) ∷ Chooses (Develop test 2 []) ∷ Delivers 5 ∷ []

-- of the first visit alone: its messages have numbers 0 and 1, and what is told of its test is 2
abbrev pub FirstVisitAlone : Type 0
FirstVisitAlone =
    keep_moves first_case clinic (empty_world clinic true) two_visits
    ≡ Chooses (Start 0 1) ∷ Chooses (Develop visit 0 (ada ∷ [])) ∷ Delivers 1 ∷ Delivers 0 ∷ Chooses (Develop test 2 []) ∷ []

-- a result that is none
abbrev is_none_of : Node → Equation
is_none_of n = record { left = result n 1; body = Is (Con 3) [] }

-- a result that names another of its case
abbrev is_found_of : Node → Equation
is_found_of n = record { left = result n 1; body = Is (Con 2) (part n 1 ∷ part n 2 ∷ []) }

-- the clinic is told of the second test
abbrev tells_second : SiteEvent
tells_second = Got (record { to = 0; kind = Tells (is_none_of second_test) [] })

-- and, by a message that nobody sends, of the first test with something else of the second
abbrev tells_both : SiteEvent
tells_both = Got (record { to = 0; kind = Tells (is_none_of test) (is_found_of second_test ∷ []) })

-- the one after the other
abbrev mixed : List SiteEvent
mixed = tells_second ∷ tells_both ∷ []

-- Whole, that message is refused; where only the first case counts it is new: so a message that names both sides has to be excluded.
abbrev pub MixedMessagesTie : Type 0
MixedMessagesTie =
    (length (keep_site first_case (site_run clinic (empty_site true 0) mixed)).equations ≡ 0)
    × (length (site_run clinic (empty_site true 0) (filter (of_event first_case) mixed)).equations ≡ 2)

-- whole, only the first of them counts, and nothing of the first case
abbrev pub RefusedOneDoesNothing : Type 0
RefusedOneDoesNothing =
    (counted clinic (empty_site true 0) mixed ≡ tells_second ∷ []) × (filter (of_event first_case) (counted clinic (empty_site true 0) mixed) ≡ [])

-- the case with number 2
abbrev second_case : Cases
second_case start number = nat_eq number 2

-- the other way round
abbrev forged_first : List SiteEvent
forged_first = tells_both ∷ tells_second ∷ []

-- then the message that names both is new, and of the second case something is held that no event of that case told
abbrev pub NewMixedOneTies : Type 0
NewMixedOneTies =
    (counted clinic (empty_site true 0) forged_first ≡ tells_both ∷ [])
    × ((keep_site second_case (site_run clinic (empty_site true 0) forged_first)).equations ≡ is_found_of second_test ∷ [])
    × (filter (of_event second_case) (counted clinic (empty_site true 0) forged_first) ≡ [])
