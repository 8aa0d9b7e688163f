-- Small cases that were worked by hand: forged messages at the clinic.
use Rattle.std.specs.Prelude.{◌≡◌, ℕ, zero, suc, true, List, [], ◌∷◌, length, Option, Some, slice_get}
use Rattle.aw_term.specs.Trees.{Con, Num}
use Rattle.aw_term.specs.Names.{Ref, part, result}
use Rattle.aw_term.specs.Choices.{Start, Develop}
use Rattle.aw_store.specs.Equations.{Body, Is, find}
use Rattle.aw_apply.specs.Messages.{Asks, Tells, Message, OfReference, NotMine, Conflict}
use Rattle.aw_law_sites.specs.Reacting.{receive}
use Rattle.aw_law_sites.specs.SiteEvents.{SiteEvent, Chose, Got, site_run}
use Rattle.aw_law_sites.specs.Sites.{Site, empty_site}
use Rattle.aw_law_sites.specs.Worked.{clinic, visit, test, ada, seven}
use Rattle.aw_law_nodes.specs.Worked.{asks_result, calls_test, tells_found}
use Rattle.aw_law_forged.specs.Forged.{own_equations, all_made, equations_in}
use Rattle.aw_law_forged.specs.Told.{site_of}

-- the laboratory found nothing, says somebody else
abbrev found_nothing : Message
found_nothing = record { to = 0; kind = Tells (record { left = result test 1; body = Is (Con 3) [] }) [] }

-- and that the clinic's visit came to nothing
abbrev came_to_nothing : Message
came_to_nothing = record { to = 0; kind = Tells (record { left = result visit 1; body = Is (Con 3) [] }) [] }

-- a question of the laboratory for the patient's name
abbrev asks_name : Message
asks_name = record { to = 0; kind = Asks (part visit 1) 1 }

-- a visit begins, is admitted, and these messages come
abbrev deceit : List SiteEvent
deceit = Chose (Start 0 1) ∷ Chose (Develop visit 0 (ada ∷ [])) ∷ Got found_nothing ∷ Got came_to_nothing ∷ Got asks_name ∷ []

abbrev deceived : Site
deceived = site_run clinic (empty_site true 0) deceit

-- what is forged of another role is believed, what is forged of this one is refused
abbrev pub ClinicIsDeceived : Type 0
ClinicIsDeceived =
    (receive clinic deceived came_to_nothing ≡ NotMine) × (length deceived.equations ≡ 4)

-- of its own references the clinic holds the three equations of the admission
abbrev pub OwnStands : Type 0
OwnStands =
    (own_equations clinic 0 deceived.equations ≡ equations_in (all_made clinic (empty_site true 0) deceit)) × (length (own_equations clinic 0 deceived.equations) ≡ 3)

-- its last message tells the name as the admission made it
abbrev pub OwnIsSent : Type 0
OwnIsSent = length deceived.outbox ≡ 3

-- ---- two roles

-- the laboratory is called and asked, and analyses the test
abbrev analysed : List SiteEvent
analysed = Got calls_test ∷ Got asks_result ∷ Chose (Develop test 1 (seven ∷ [])) ∷ []

-- at the clinic a visit is admitted, and then this message comes; what else happens is at the laboratory
abbrev clinic_told : Message → ℕ → List SiteEvent
clinic_told m zero = Chose (Start 0 1) ∷ Chose (Develop visit 0 (ada ∷ [])) ∷ Got m ∷ []
clinic_told m (suc role) = analysed

-- what the laboratory tells
abbrev told_by_lab : Message → Option Message
told_by_lab m = slice_get (site_of clinic true (clinic_told m) 1).outbox 0

-- what is known of a reference at a role
abbrev known_at : Message → ℕ → Ref → Option Body
known_at m role r = find (site_of clinic true (clinic_told m) role).equations r

-- told by the laboratory, the clinic knows the value that was entered there
abbrev pub ClinicAgrees : Type 0
ClinicAgrees =
    (told_by_lab tells_found ≡ Some tells_found) × (known_at tells_found 1 (part test 1) ≡ Some (Is (Num 7) []))
    × (known_at tells_found 0 (part test 1) ≡ Some (Is (Num 7) []))

-- told something else before, it refuses what the laboratory tells, for ever
abbrev pub DeceivedRefuses : Type 0
DeceivedRefuses =
    (told_by_lab found_nothing ≡ Some tells_found)
    × (receive clinic (site_of clinic true (clinic_told found_nothing) 0) tells_found
    ≡ Conflict (OfReference (Is (Con 3) [])) (OfReference (Is (Con 2) (part visit 1 ∷ part test 1 ∷ []))))

-- what the laboratory tells, with another load
abbrev other_load : Message
other_load =
    record {
      to = 0;
      kind = Tells (record { left = result test 1; body = Is (Con 2) (part visit 1 ∷ part test 1 ∷ []) }) (record { left = part test 1; body = Is (Num 8) [] } ∷ []);
    }

-- it is no message that was sent: the clinic then knows another value than was entered
abbrev pub LoadsCount : Type 0
LoadsCount = (told_by_lab other_load ≡ Some tells_found) × (known_at other_load 0 (part test 1) ≡ Some (Is (Num 8) []))
