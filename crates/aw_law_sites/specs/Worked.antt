-- Small cases that were worked by hand, on which the definitions of sites and worlds are tried.
use Rattle.std.specs.Prelude.{◌≡◌, ℕ, true, false, List, [], ◌∷◌, ◌++◌, map, codes}
use Rattle.aw_term.specs.Trees.{Tree, Con, Num, Text, Leaf, Made, Nil}
use Rattle.aw_term.specs.Names.{Ref, result, part}
use Rattle.aw_term.specs.Rules.{Grammar}
use Rattle.aw_term.specs.Choices.{Start, Develop}
use Rattle.aw_term.specs.Artifacts.{Words, listed, ref_text}
use Rattle.aw_term.specs.Runs.{answer_line}
use Rattle.aw_term.specs.Worked.{con, con1, con2, sort, call, rule}
use Rattle.aw_choice.specs.Events.{Event, Chooses, Delivers, Settles}
use Rattle.aw_store.specs.Equations.{Same, Is, Equation}
use Rattle.aw_store.specs.BodyTexts.{body_text}
use Rattle.aw_apply.specs.Messages.{Calls, Asks, Tells, Message, Content, OfNode, OfReference, Received, BadName, NotMine, Conflict, Repeat, New}
pub use Rattle.aw_law_sites.specs.WorkedChoices.{clinic, visit, test, ada, seven}
use Rattle.aw_law_sites.specs.Sites.{Site, empty_site, Reaction}
use Rattle.aw_law_sites.specs.Choosing.{answer_to, choose}
use Rattle.aw_law_sites.specs.Reacting.{receive}
use Rattle.aw_law_sites.specs.SiteEvents.{SiteEvent, Chose, Got, site_step}
use Rattle.aw_law_sites.specs.Worlds as V
use Rattle.aw_law_sites.specs.Worlds.{World, empty_world, run}
use Rattle.aw_law_sites.specs.Transcripts.{run_lines, list_lines}
use Rattle.aw_law_sites.specs.Outputs.{output_of}

-- these lines, one below the other
abbrev pub lines : List (List ℕ) → List ℕ
lines [] = []
lines (l ∷ ls) = l ++ (codes "\n" ++ lines ls)

-- the names of the clinic and its laboratory
abbrev pub clinic_words : Words
clinic_words = record {
  roles = codes "clinic" ∷ codes "lab" ∷ [];
  cons = codes "blood" ∷ codes "report" ∷ codes "found" ∷ codes "none" ∷ [];
  sorts = codes "visit" ∷ codes "test" ∷ [];
  rules = codes "admit" ∷ codes "analyse" ∷ codes "skip" ∷ [];
}

-- a visit begins and is admitted
abbrev admits : List Event
admits = Chooses (Start 0 1) ∷ Chooses (Develop visit 0 (ada ∷ [])) ∷ []

-- the test of the visit is analysed
abbrev analyses : List Event
analyses = Chooses (Develop test 1 (seven ∷ [])) ∷ Settles ∷ []

-- all messages are delivered after each choice
abbrev pub ClinicSettles : Type 0
ClinicSettles =
    output_of clinic_words clinic false (admits ++ Settles ∷ analyses)
    ≡ lines
    (codes "start visit 1: taken"
    ∷ codes "choose visit#1 admit: taken"
    ∷ codes "sent 0 to lab call visit#1/admit.1 (visit#1:p2)"
    ∷ codes "sent 1 to lab ask visit#1/admit.1:r1 from clinic"
    ∷ codes "deliver 0: new"
    ∷ codes "sent 2 to clinic ask visit#1:p2 from lab"
    ∷ codes "deliver 1: new"
    ∷ codes "deliver 2: new"
    ∷ codes "sent 3 to lab tell visit#1:p2 = blood(visit#1:p1)"
    ∷ codes "deliver 3: new"
    ∷ codes "sent 4 to clinic ask visit#1:p1 from lab"
    ∷ codes "deliver 4: new"
    ∷ codes "sent 5 to lab tell visit#1:p1 = \"Ada\""
    ∷ codes "deliver 5: new"
    ∷ codes "settled 6"
    ∷ codes "choose visit#1/admit.1 analyse: taken"
    ∷ codes "sent 6 to clinic tell visit#1/admit.1:r1 = found(visit#1:p1, visit#1/admit.1:p1)"
    ∷ codes "deliver 6: new"
    ∷ codes "sent 7 to lab ask visit#1/admit.1:p1 from clinic"
    ∷ codes "deliver 7: new"
    ∷ codes "sent 8 to clinic tell visit#1/admit.1:p1 = 7"
    ∷ codes "deliver 8: new"
    ∷ codes "settled 3"
    ∷ codes "artifacts 2"
    ∷ codes "visit#1 admit {\"Ada\"} () <report(\"Ada\", found(\"Ada\", 7))>"
    ∷ codes "visit#1/admit.1 analyse {7} (blood(\"Ada\")) <found(\"Ada\", 7)>"
    ∷ [])

-- the same with loads: the values come with the call and with the tell
abbrev pub ClinicLoads : Type 0
ClinicLoads =
    output_of clinic_words clinic true (admits ++ Settles ∷ analyses)
    ≡ lines
    (codes "start visit 1: taken"
    ∷ codes "choose visit#1 admit: taken"
    ∷ codes "sent 0 to lab call visit#1/admit.1 (visit#1:p2) with visit#1:p2 = blood(visit#1:p1); visit#1:p1 = \"Ada\""
    ∷ codes "sent 1 to lab ask visit#1/admit.1:r1 from clinic"
    ∷ codes "deliver 0: new"
    ∷ codes "deliver 1: new"
    ∷ codes "settled 2"
    ∷ codes "choose visit#1/admit.1 analyse: taken"
    ∷ codes "sent 2 to clinic tell visit#1/admit.1:r1 = found(visit#1:p1, visit#1/admit.1:p1) with visit#1/admit.1:p1 = 7"
    ∷ codes "deliver 2: new"
    ∷ codes "settled 1"
    ∷ codes "artifacts 2"
    ∷ codes "visit#1 admit {\"Ada\"} () <report(\"Ada\", found(\"Ada\", 7))>"
    ∷ codes "visit#1/admit.1 analyse {7} (blood(\"Ada\")) <found(\"Ada\", 7)>"
    ∷ [])

-- an ask that comes before the call of its node is noted, and answered later
abbrev pub AskBeforeCall : Type 0
AskBeforeCall =
    output_of clinic_words clinic false (admits ++ Delivers 1 ∷ Settles ∷ analyses)
    ≡ lines
    (codes "start visit 1: taken"
    ∷ codes "choose visit#1 admit: taken"
    ∷ codes "sent 0 to lab call visit#1/admit.1 (visit#1:p2)"
    ∷ codes "sent 1 to lab ask visit#1/admit.1:r1 from clinic"
    ∷ codes "deliver 1: new"
    ∷ codes "deliver 0: new"
    ∷ codes "sent 2 to clinic ask visit#1:p2 from lab"
    ∷ codes "deliver 2: new"
    ∷ codes "sent 3 to lab tell visit#1:p2 = blood(visit#1:p1)"
    ∷ codes "deliver 3: new"
    ∷ codes "sent 4 to clinic ask visit#1:p1 from lab"
    ∷ codes "deliver 4: new"
    ∷ codes "sent 5 to lab tell visit#1:p1 = \"Ada\""
    ∷ codes "deliver 5: new"
    ∷ codes "settled 5"
    ∷ codes "choose visit#1/admit.1 analyse: taken"
    ∷ codes "sent 6 to clinic tell visit#1/admit.1:r1 = found(visit#1:p1, visit#1/admit.1:p1)"
    ∷ codes "deliver 6: new"
    ∷ codes "sent 7 to lab ask visit#1/admit.1:p1 from clinic"
    ∷ codes "deliver 7: new"
    ∷ codes "sent 8 to clinic tell visit#1/admit.1:p1 = 7"
    ∷ codes "deliver 8: new"
    ∷ codes "settled 3"
    ∷ codes "artifacts 2"
    ∷ codes "visit#1 admit {\"Ada\"} () <report(\"Ada\", found(\"Ada\", 7))>"
    ∷ codes "visit#1/admit.1 analyse {7} (blood(\"Ada\")) <found(\"Ada\", 7)>"
    ∷ [])

-- the messages with these numbers come
abbrev comes_again : List Event
comes_again = map Delivers (8 ∷ 7 ∷ 6 ∷ 5 ∷ 4 ∷ 3 ∷ 2 ∷ 1 ∷ 0 ∷ [])

-- messages that come again, newest first and twice, change nothing
abbrev pub AllAgain : Type 0
AllAgain =
    output_of clinic_words clinic false (admits ++ Settles ∷ analyses ++ (comes_again ++ comes_again))
    ≡ lines
    (codes "start visit 1: taken"
    ∷ codes "choose visit#1 admit: taken"
    ∷ codes "sent 0 to lab call visit#1/admit.1 (visit#1:p2)"
    ∷ codes "sent 1 to lab ask visit#1/admit.1:r1 from clinic"
    ∷ codes "deliver 0: new"
    ∷ codes "sent 2 to clinic ask visit#1:p2 from lab"
    ∷ codes "deliver 1: new"
    ∷ codes "deliver 2: new"
    ∷ codes "sent 3 to lab tell visit#1:p2 = blood(visit#1:p1)"
    ∷ codes "deliver 3: new"
    ∷ codes "sent 4 to clinic ask visit#1:p1 from lab"
    ∷ codes "deliver 4: new"
    ∷ codes "sent 5 to lab tell visit#1:p1 = \"Ada\""
    ∷ codes "deliver 5: new"
    ∷ codes "settled 6"
    ∷ codes "choose visit#1/admit.1 analyse: taken"
    ∷ codes "sent 6 to clinic tell visit#1/admit.1:r1 = found(visit#1:p1, visit#1/admit.1:p1)"
    ∷ codes "deliver 6: new"
    ∷ codes "sent 7 to lab ask visit#1/admit.1:p1 from clinic"
    ∷ codes "deliver 7: new"
    ∷ codes "sent 8 to clinic tell visit#1/admit.1:p1 = 7"
    ∷ codes "deliver 8: new"
    ∷ codes "settled 3"
    ∷ codes "deliver 8: again"
    ∷ codes "deliver 7: again"
    ∷ codes "deliver 6: again"
    ∷ codes "deliver 5: again"
    ∷ codes "deliver 4: again"
    ∷ codes "deliver 3: again"
    ∷ codes "deliver 2: again"
    ∷ codes "deliver 1: again"
    ∷ codes "deliver 0: again"
    ∷ codes "deliver 8: again"
    ∷ codes "deliver 7: again"
    ∷ codes "deliver 6: again"
    ∷ codes "deliver 5: again"
    ∷ codes "deliver 4: again"
    ∷ codes "deliver 3: again"
    ∷ codes "deliver 2: again"
    ∷ codes "deliver 1: again"
    ∷ codes "deliver 0: again"
    ∷ codes "artifacts 2"
    ∷ codes "visit#1 admit {\"Ada\"} () <report(\"Ada\", found(\"Ada\", 7))>"
    ∷ codes "visit#1/admit.1 analyse {7} (blood(\"Ada\")) <found(\"Ada\", 7)>"
    ∷ [])

-- the refusals of a choice, a number that no message has, and messages that are not delivered
abbrev pub RefusedChoices : Type 0
RefusedChoices =
    output_of clinic_words clinic false (Chooses (Start 0 1) ∷ Chooses (Develop visit 0 []) ∷ Chooses (Develop visit 2 []) ∷ Chooses (Develop visit 0 (ada ∷ []))
    ∷ Chooses (Develop visit 0 (ada ∷ [])) ∷ Delivers 9 ∷ [])
    ≡ lines
    (codes "start visit 1: taken"
    ∷ codes "choose visit#1 admit: arguments"
    ∷ codes "choose visit#1 skip: wrong rule"
    ∷ codes "choose visit#1 admit: taken"
    ∷ codes "sent 0 to lab call visit#1/admit.1 (visit#1:p2)"
    ∷ codes "sent 1 to lab ask visit#1/admit.1:r1 from clinic"
    ∷ codes "choose visit#1 admit: developed"
    ∷ codes "deliver 9: no message"
    ∷ codes "undelivered 2"
    ∷ [])

-- the world of the clinic once the visit was admitted
abbrev admitted : World
admitted = run clinic (empty_world clinic false) (V.Chooses (Start 0 1) ∷ V.Chooses (Develop visit 0 (ada ∷ [])) ∷ [])

-- a node is not known before its call came, and its worklist waits for a value
abbrev pub WaitsAtLab : Type 0
WaitsAtLab =
    run_lines clinic_words clinic admitted (V.Chooses (Develop test 2 []) ∷ V.Delivers 0 ∷ [])
    ++ list_lines clinic_words clinic (run clinic admitted (V.Delivers 0 ∷ [])) 1
    ≡ lines
    (codes "choose visit#1/admit.1 skip: unknown"
    ∷ codes "deliver 0: new"
    ∷ codes "sent 2 to clinic ask visit#1:p2 from lab"
    ∷ codes "list lab"
    ∷ codes "item visit#1/admit.1 analyse waits visit#1:p2"
    ∷ codes "item visit#1/admit.1 skip ready"
    ∷ [])

-- what is kept and what came
abbrev content_text : Content → List ℕ
content_text (OfNode rs) = codes "(" ++ (listed (map (ref_text clinic_words) rs) ++ codes ")")
content_text (OfReference b) = body_text clinic_words b

-- the answer to a message, in a line
abbrev received_line : Received Reaction → List ℕ
received_line BadName = codes "bad name\n"
received_line NotMine = codes "not mine\n"
received_line (Conflict kept came) = codes "kept " ++ (content_text kept ++ (codes " came " ++ (content_text came ++ codes "\n")))
received_line Repeat = codes "again\n"
received_line (New x) = codes "new\n"

-- what a site answers to an event, in a line
abbrev event_line : Site → SiteEvent → List ℕ
event_line s (Chose c) = answer_line clinic_words c (answer_to (choose clinic s c))
event_line s (Got m) = received_line (receive clinic s m)

-- what one site answers to these events in turn
abbrev answers : Site → List SiteEvent → List ℕ
answers s [] = []
answers s (e ∷ es) = event_line s e ++ answers (site_step clinic s e) es

-- a value that is a symbol without parts, or another reference
abbrev is : Ref → Tree Ref → Equation
is r (Leaf s) = record { left = r; body = Same s }
is r (Made h ts) = record { left = r; body = Is h [] }

-- another text
abbrev eve : Tree Ref
eve = Made (Text (codes "Eve")) Nil

-- visit#1:p2 = blood(visit#1:p1)
abbrev blood : Equation
blood = record { left = part visit 2; body = Is (Con 0) (part visit 1 ∷ []) }

-- the call of the test
abbrev test_call : List Ref → List Equation → Message
test_call inherited load = record { to = 1; kind = Calls (record { node = test; sort = 1; inherited = inherited }) load }

-- an equation for the laboratory
abbrev tell_lab : Equation → Message
tell_lab e = record { to = 1; kind = Tells e [] }

-- Forged messages at the laboratory: another text for what is held, a value that is its own, a question of the laboratory itself, an equation for
-- the clinic, a call of other references, one of too many, and a question for a role that is not declared.
abbrev pub ForgedAtLab : Type 0
ForgedAtLab = answers (empty_site false 1)
    (Got (test_call (part visit 2 ∷ []) [])
    ∷ Got (tell_lab (is (part visit 1) ada))
    ∷ Got (tell_lab (is (part visit 1) eve))
    ∷ Got (tell_lab (is (part visit 2) (Leaf (part visit 2))))
    ∷ Chose (Develop test 1 (seven ∷ []))
    ∷ Got (record { to = 0; kind = Asks (part visit 2) 1 })
    ∷ Got (record { to = 0; kind = Tells (is (result test 1) seven) [] })
    ∷ Got (test_call (part visit 1 ∷ []) [])
    ∷ Got (test_call (part visit 1 ∷ part visit 2 ∷ []) [])
    ∷ Got (record { to = 2; kind = Asks (part visit 2) 0 })
    ∷ [])
    ≡ lines
    (codes "new"
    ∷ codes "new"
    ∷ codes "kept \"Ada\" came \"Eve\""
    ∷ codes "new"
    ∷ codes "choose visit#1/admit.1 analyse: circle visit#1:p2"
    ∷ codes "bad name"
    ∷ codes "not mine"
    ∷ codes "kept (visit#1:p2) came (visit#1:p1)"
    ∷ codes "bad name"
    ∷ codes "bad name"
    ∷ [])

-- the call with its load comes, comes again, and comes with another text
abbrev pub LoadComesAgain : Type 0
LoadComesAgain = answers (empty_site true 1)
    (Got (test_call (part visit 2 ∷ []) (blood ∷ is (part visit 1) ada ∷ []))
    ∷ Got (test_call (part visit 2 ∷ []) (blood ∷ is (part visit 1) ada ∷ []))
    ∷ Got (test_call (part visit 2 ∷ []) (blood ∷ is (part visit 1) eve ∷ []))
    ∷ [])
    ≡ lines
    (codes "new"
    ∷ codes "again"
    ∷ codes "kept \"Ada\" came \"Eve\""
    ∷ [])

-- a question comes and comes again; part 600 is no reference, and a value of the clinic is its own
abbrev pub AskedAtClinic : Type 0
AskedAtClinic = answers (empty_site false 0)
    (Chose (Start 0 1)
    ∷ Chose (Develop visit 0 (ada ∷ []))
    ∷ Got (record { to = 0; kind = Asks (part visit 2) 1 })
    ∷ Got (record { to = 0; kind = Asks (part visit 2) 1 })
    ∷ Got (record { to = 0; kind = Asks (part visit 600) 1 })
    ∷ Got (record { to = 0; kind = Tells (is (part visit 1) ada) [] })
    ∷ [])
    ≡ lines
    (codes "start visit 1: taken"
    ∷ codes "choose visit#1 admit: taken"
    ∷ codes "new"
    ∷ codes "again"
    ∷ codes "bad name"
    ∷ codes "not mine"
    ∷ [])

-- A guard against a value that has not arrived.
--   role desk · role lab · con ok 0 · con pair 2 · con done 1 · sort job desk 0 1 · sort work lab 1 1 · start job
--   rule give {v} : job()<r> = work(pair(v, ok))<r> · rule take : work(pair(x, ok))<done(x)>
abbrev pub pair : Grammar
pair = record {
  roles = 2;
  arities = 0 ∷ 2 ∷ 1 ∷ [];
  sorts = sort 0 0 1 true ∷ sort 1 1 1 false ∷ [];
  rules = rule 0 [] 1 (Leaf 1 ∷ []) (call 1 (con2 1 (Leaf 0) (con 0) ∷ []) 1 ∷ [])
      ∷ rule 1 (con2 1 (Leaf 0) (con 0) ∷ []) 0 (con1 2 (Leaf 0) ∷ []) []
      ∷ [];
}

-- the names of the desk and its laboratory
abbrev pub pair_words : Words
pair_words = record {
  roles = codes "desk" ∷ codes "lab" ∷ [];
  cons = codes "ok" ∷ codes "pair" ∷ codes "done" ∷ [];
  sorts = codes "job" ∷ codes "work" ∷ [];
  rules = codes "give" ∷ codes "take" ∷ [];
}

-- the guard waits until the value is told
abbrev pub ValueLate : Type 0
ValueLate =
    output_of pair_words pair false (Chooses (Start 0 1) ∷ Chooses (Develop visit 0 (Made (Num 5) Nil ∷ [])) ∷ Delivers 0 ∷ Chooses (Develop test 1 []) ∷ Settles
    ∷ Chooses (Develop test 1 []) ∷ Settles ∷ [])
    ≡ lines
    (codes "start job 1: taken"
    ∷ codes "choose job#1 give: taken"
    ∷ codes "sent 0 to lab call job#1/give.1 (job#1:p2)"
    ∷ codes "sent 1 to lab ask job#1/give.1:r1 from desk"
    ∷ codes "deliver 0: new"
    ∷ codes "sent 2 to desk ask job#1:p2 from lab"
    ∷ codes "choose job#1/give.1 take: waits job#1:p2"
    ∷ codes "deliver 1: new"
    ∷ codes "deliver 2: new"
    ∷ codes "sent 3 to lab tell job#1:p2 = pair(job#1:p1, job#1:p3)"
    ∷ codes "deliver 3: new"
    ∷ codes "sent 4 to desk ask job#1:p1 from lab"
    ∷ codes "sent 5 to desk ask job#1:p3 from lab"
    ∷ codes "deliver 4: new"
    ∷ codes "sent 6 to lab tell job#1:p1 = 5"
    ∷ codes "deliver 5: new"
    ∷ codes "sent 7 to lab tell job#1:p3 = ok"
    ∷ codes "deliver 6: new"
    ∷ codes "deliver 7: new"
    ∷ codes "settled 7"
    ∷ codes "choose job#1/give.1 take: taken"
    ∷ codes "sent 8 to desk tell job#1/give.1:r1 = done(job#1:p1)"
    ∷ codes "deliver 8: new"
    ∷ codes "settled 1"
    ∷ codes "artifacts 2"
    ∷ codes "job#1 give {5} () <done(5)>"
    ∷ codes "job#1/give.1 take {} (pair(5, ok)) <done(5)>"
    ∷ [])
