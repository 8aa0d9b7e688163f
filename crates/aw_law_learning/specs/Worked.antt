-- Small cases that were worked by hand: to what the laboratory is led, and what a forged message teaches.
use Rattle.std.specs.Prelude.{◌≡◌, true, false, [], ◌∷◌, codes}
use Rattle.aw_term.specs.Trees.{Text}
use Rattle.aw_term.specs.Names.{part}
use Rattle.aw_term.specs.Choices.{Start, Develop}
use Rattle.aw_term.specs.Configs.{Pending, Done}
use Rattle.aw_term.specs.Held.{Held}
use Rattle.aw_store.specs.Equations.{Is, Equation}
use Rattle.aw_apply.specs.Messages.{Tells}
use Rattle.aw_law_sites.specs.Homes.{home, parent, has_steps}
use Rattle.aw_law_sites.specs.SiteEvents.{Got, site_run}
use Rattle.aw_law_sites.specs.Sites.{Site, empty_site}
use Rattle.aw_law_sites.specs.Worked.{clinic, visit, test, ada}
use Rattle.aw_law_sites.specs.Worlds.{World, Chooses, Delivers, site_at, world_after}
use Rattle.aw_law_learning.specs.Learning.{IsLedTo}
use Rattle.aw_law_learning.specs.Working.{IsItsWork}

-- the test of a visit was called, with loads
abbrev called : World
called = world_after clinic true (Chooses (Start 0 1) ∷ Chooses (Develop visit 0 (ada ∷ [])) ∷ Delivers 0 ∷ [])

-- the laboratory then
abbrev pub lab : Site
lab = site_at called 1

-- its task inherited the sample, and the sample names the patient: it is led to both
abbrev pub LabIsLed : Type 0
LabIsLed = IsLedTo clinic lab (part visit 2) × IsLedTo clinic lab (part visit 1)

-- the patient's name, as somebody else may tell it
abbrev told_name : Equation
told_name = record { left = part visit 1; body = Is (Text (codes "Ada")) [] }

-- a laboratory without a task is told it by a message that nobody sent
abbrev told : Site
told = site_run clinic (empty_site true 1) (Got (record { to = 1; kind = Tells told_name [] }) ∷ [])

-- then it knows what no task of it leads to: the law is of worlds, in which messages are those that were sent
abbrev pub ForgedIsLearnt : Type 0
ForgedIsLearnt = (told.held ≡ []) × (told.equations ≡ told_name ∷ [])

-- the task of the laboratory, and that of the clinic
abbrev pub tested : Held
tested = record { node = test; sort = 1; inherited = part visit 2 ∷ []; state = Pending }

abbrev visited : Held
visited = record { node = visit; sort = 0; inherited = []; state = Done 0 (ada ∷ []) }

-- The laboratory holds a task of another office's, and its call was sent; the clinic's task began the case, and nobody called it.
abbrev pub LabIsCalled : Type 0
LabIsCalled =
    (lab.held ≡ tested ∷ []) × (home clinic (parent test) ≡ 0) × IsItsWork clinic called.messages 1 tested
    × ((site_at called 0).held ≡ visited ∷ []) × (has_steps visit.steps ≡ false)
