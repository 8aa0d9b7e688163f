-- A small case that was worked by hand: a kept node on a disk that keeps nothing.
use Rattle.std.specs.Prelude.{◌≡◌, true, false, List, [], ◌∷◌, ℕ}
use Rattle.aw_term.specs.Choices.{Start}
use Rattle.aw_term.specs.Trees.{Never}
use Rattle.aw_law_sites.specs.Sites.{empty_site}
use Rattle.aw_law_sites.specs.Worked.{clinic, clinic_words}
use Rattle.aw_law_nodes.specs.Nodes as nodes
use Rattle.aw_law_system.specs.Systems as systems
use Rattle.aw_law_system.specs.Systems.{Unwritten, Asks}
use Rattle.aw_msg.specs.Frames.{Choose}
use Rattle.aw_session.specs.Frames.{AreAnswered}
use Rattle.aw_disk.specs.declared.edge.Disk.{Ghosts}
use Rattle.aw_journal.specs.Events.{Event}
use Rattle.aw_node.specs.TypedNodes.{Rules}
use Rattle.aw_kept_node.specs.Exits.{Origin}
use Rattle.aw_kept_node.specs.KeptSites.{Standing, standing}
use Rattle.aw_kept_node.specs.Replying.{RepliesSafely}
use Rattle.aw_law_kept_system.specs.KeptSystems.{Session, Deed, Crashes, AreDeeds, first_nodes, all_acts}

-- whatever is written, a crash leaves an empty file
abbrev forgetful : Ghosts (Unit {0})
forgetful = record { tells = λ d. true; seen = λ d. []; may_leave = λ d c. c ≡ []; moment = λ d. 0; left_since = λ d t c. c ≡ []; faults = λ d. 0 }

-- the clinic, and no types
abbrev rules : Rules
rules = record { words = clinic_words; types = record { typed = false; names = 0; shapes = []; carries = [] }; grammar = clinic }

-- a run that begins with an empty journal
abbrev began : Origin (Unit {0})
began = record { rules = rules; start = empty_site true 0; role = 0; text = []; limit = 0; first = []; disk = tt }

-- nothing has happened at the clinic
abbrev first : Standing
first = standing (first_nodes rules true 0) 0

-- a visit is begun, and no byte of the answer is written
abbrev unanswered : Session (Unit {0})
unanswered =
    record { role = 0; origin = began; end = tt; last = []; start = first; frames = []; replies = []; reached = []; written = first; unwritten = Choose (Start 0 1) ∷ [] }

-- then the node crashes, and the visit is gone
abbrev lost : List (Deed (Unit {0}))
lost = Crashes unanswered [] ∷ []

-- this may happen, and in a system it is a choice without an answer, and a crash that takes it
abbrev pub UnansweredMayGo : Type 0
UnansweredMayGo =
    AreDeeds forgetful rules true (first_nodes rules true) lost
    × (all_acts rules lost ≡ Asks 0 (nodes.Choose (Start 0 1)) Unwritten ∷ systems.Crashes 0 0 ∷ [])

-- no byte of an answer to it could be written on such a disk
abbrev pub NothingIsAnswered : Type 0
NothingIsAnswered = (last : List Event) (t : Standing) (reply : List ℕ) →
    AreAnswered (RepliesSafely forgetful began tt last) first (Choose (Start 0 1) ∷ []) (reply ∷ []) t → Never
