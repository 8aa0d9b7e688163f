-- Small sets of journals that were worked by hand: which fit whole, and where the others end.
use Rattle.std.specs.Prelude.{◌≡◌, ℕ, true, false, List, [], ◌∷◌}
use Rattle.aw_term.specs.Trees.{Leaf}
use Rattle.aw_term.specs.Names.{Node, root, below, result, part}
use Rattle.aw_term.specs.Rules.{Grammar}
use Rattle.aw_term.specs.Choices.{Start, Develop}
use Rattle.aw_term.specs.Worked.{sort, call, rule}
use Rattle.aw_typed.specs.Types.{Types}
use Rattle.aw_apply.specs.Messages.{Message, Calls, Asks}
use Rattle.aw_law_sites.specs.Sites.{empty_site}
use Rattle.aw_law_sites.specs.SiteEvents.{SiteEvent, Chose, Got}
use Rattle.aw_law_sites.specs.Worked.{clinic, visit, test, ada, seven}
use Rattle.aw_law_sites.specs.Worlds.{Move, Chooses, Delivers}
use Rattle.aw_law_nodes.specs.Worked.{calls_test, asks_result, tells_found, tells_none}
use Rattle.aw_law_journals.specs.Circles.{LeadsTo}
use Rattle.aw_law_journals.specs.Journals.{journal_at, IsSound}
use Rattle.aw_law_journals.specs.Driving.{joined}
use Rattle.aw_law_journals.specs.Laws.{SendsAt}

-- no types are declared
abbrev pub untyped : Types
untyped = record { typed = false; names = 0; shapes = []; carries = [] }

-- these events of each journal come, by these moves
abbrev JoinsTo : Grammar → List (List SiteEvent) → List ℕ → List Move → Type 0
JoinsTo g js ns es = ((joined untyped g js).counts ≡ ns) × ((joined untyped g js).moves ≡ es)

-- ---- the clinic and its laboratory

-- a visit is admitted, and its test is found
abbrev clinic_events : List SiteEvent
clinic_events = Chose (Start 0 1) ∷ Chose (Develop visit 0 (ada ∷ [])) ∷ Got tells_found ∷ []

-- the test is asked for before it is called, and then analysed
abbrev lab_events : List SiteEvent
lab_events = Got asks_result ∷ Got calls_test ∷ Chose (Develop test 1 (seven ∷ [])) ∷ []

-- the order that the join finds
abbrev in_order : List Move
in_order =
    Chooses (Start 0 1) ∷ Chooses (Develop visit 0 (ada ∷ [])) ∷ Delivers 1 ∷ Delivers 0 ∷ Chooses (Develop test 1 (seven ∷ [])) ∷ Delivers 2 ∷ []

-- both journals fit whole
abbrev pub ClinicJoins : Type 0
ClinicJoins = JoinsTo clinic (clinic_events ∷ lab_events ∷ []) (3 ∷ 3 ∷ []) in_order

-- the clinic's journal was set back before it admitted the visit: what it sent then is of no event
abbrev pub SetBackIsRefused : Type 0
SetBackIsRefused = JoinsTo clinic ((Chose (Start 0 1) ∷ []) ∷ lab_events ∷ []) (1 ∷ 0 ∷ []) (Chooses (Start 0 1) ∷ [])

-- the laboratory's journal was set back behind all that it sent: that fits, and its messages count as not delivered
abbrev pub ReceiverFits : Type 0
ReceiverFits =
    JoinsTo clinic ((Chose (Start 0 1) ∷ Chose (Develop visit 0 (ada ∷ [])) ∷ []) ∷ (Got asks_result ∷ []) ∷ []) (2 ∷ 1 ∷ [])
    (Chooses (Start 0 1) ∷ Chooses (Develop visit 0 (ada ∷ [])) ∷ Delivers 1 ∷ [])

-- the call came without its load: nobody sends it so
abbrev pub StrippedIsRefused : Type 0
StrippedIsRefused =
    JoinsTo clinic
    (clinic_events ∷ (Got asks_result ∷ Got (record calls_test { kind = Calls (record { node = test; sort = 1; inherited = part visit 2 ∷ [] }) [] }) ∷ []) ∷ []) (2 ∷ 1 ∷ [])
    (Chooses (Start 0 1) ∷ Chooses (Develop visit 0 (ada ∷ [])) ∷ Delivers 1 ∷ [])

-- a message came twice: the second time nothing of it is new
abbrev pub TwiceIsRefused : Type 0
TwiceIsRefused =
    JoinsTo clinic (clinic_events ∷ (Got calls_test ∷ Got calls_test ∷ []) ∷ []) (2 ∷ 1 ∷ [])
    (Chooses (Start 0 1) ∷ Chooses (Develop visit 0 (ada ∷ [])) ∷ Delivers 0 ∷ [])

-- the laboratory told that it found something, and the clinic's journal says that there was no result
abbrev pub ChangedIsRefused : Type 0
ChangedIsRefused =
    JoinsTo clinic ((Chose (Start 0 1) ∷ Chose (Develop visit 0 (ada ∷ [])) ∷ Got tells_none ∷ []) ∷ lab_events ∷ []) (2 ∷ 3 ∷ [])
    (Chooses (Start 0 1) ∷ Chooses (Develop visit 0 (ada ∷ [])) ∷ Delivers 1 ∷ Delivers 0 ∷ Chooses (Develop test 1 (seven ∷ [])) ∷ [])

-- ---- a circle

-- Two offices: what the one makes the other works on.
--   role a · role b · sort top a 0 0 · sort p a 0 1 · sort w b 1 0 · start top · rule t : top()<> = p()<y> ; w(y)<>
abbrev two : Grammar
two = record {
  roles = 2;
  arities = [];
  sorts = sort 0 0 0 true ∷ sort 0 0 1 false ∷ sort 1 1 0 false ∷ [];
  rules = rule 0 [] 0 [] (call 1 [] 1 ∷ call 2 (Leaf 0 ∷ []) 0 ∷ []) ∷ [];
}

-- top#1
abbrev top : Node
top = root 0 1

-- b asks for top#1/t.1:r1
abbrev pub asks_first : Message
asks_first = record { to = 0; kind = Asks (result (below top 0 1) 1) 1 }

-- top#1/t.2 is called at b, with that reference
abbrev pub calls_second : Message
calls_second = record { to = 1; kind = Calls (record { node = below top 0 2; sort = 2; inherited = result (below top 0 1) 1 ∷ [] }) [] }

-- a took its choice, b was called and asked; then a's journal was set back to the start, the question came, and a took the same choice again
abbrev pub circle : List (List SiteEvent)
circle = (Chose (Start 0 1) ∷ Got asks_first ∷ Chose (Develop top 0 []) ∷ []) ∷ (Got calls_second ∷ []) ∷ []

-- each workspace by itself would take all of its events
abbrev pub CircleIsSound : Type 0
CircleIsSound = IsSound two (empty_site true 0) (journal_at circle 0) × IsSound two (empty_site true 1) (journal_at circle 1)

-- but only the start comes
abbrev pub CircleIsRefused : Type 0
CircleIsRefused = JoinsTo two circle (1 ∷ 0 ∷ []) (Chooses (Start 0 1) ∷ [])

-- a's second event waits for b's first one, and that for a's third: nobody forged a message
abbrev pub CircleHasCauses : Type 0
CircleHasCauses = SendsAt two circle 1 0 asks_first × SendsAt two circle 0 2 calls_second

-- so each journal waits for the other
abbrev pub CircleComesRound : Type 0
CircleComesRound = LeadsTo two circle (1 ∷ 0 ∷ []) 0 0

-- where a's choice stands before the question, both fit
abbrev pub NoCircleJoins : Type 0
NoCircleJoins =
    JoinsTo two ((Chose (Start 0 1) ∷ Chose (Develop top 0 []) ∷ Got asks_first ∷ []) ∷ (Got calls_second ∷ []) ∷ []) (3 ∷ 1 ∷ [])
    (Chooses (Start 0 1) ∷ Chooses (Develop top 0 []) ∷ Delivers 0 ∷ Delivers 1 ∷ [])
