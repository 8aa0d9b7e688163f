-- The events of a journal that are about one case.
use Rattle.std.specs.Prelude.{◌≡◌, ℕ, Bool, true, ◌&&◌, nat_eq, List, [], ◌∷◌, if◌then◌else◌, None, Some}
use Rattle.std.specs.declared.option.Option.{Option}
use Rattle.aw_journal.specs.Events.{Event, Took, Got}
use Rattle.aw_law_sites.specs.Worlds.{node_of}
use Rattle.aw_msg.specs.declared.message.MsgKind.{MsgKind}
use Rattle.aw_msg.specs.declared.message.MsgKind.TheVariants.{Call, Ask, Tell}
use Rattle.aw_name.specs.declared.node.Node.{Node}
use Rattle.aw_book_drive.specs.declared.selecting.OneCase.{OneCase}
use Rattle.aw_book_drive.specs.declared.selecting.Selected.{Selected}

-- the node that a message is about
abbrev pub node_in : MsgKind → Node
node_in (Call n inherited load) = n
node_in (Ask r from) = r.node
node_in (Tell e load) = e.left.node

-- the node that an event is about
abbrev pub node_at : Event → Node
node_at (Took c) = node_of c
node_at (Got m) = node_in m.kind

-- a node of this case
abbrev pub is_in_case : OneCase → Node → Bool
is_in_case k n = nat_eq k.sort n.start && nat_eq k.number n.case

-- an event of this case, or any where none is named
abbrev pub is_selected : Option OneCase → Event → Bool
is_selected None e = true
is_selected (Some k) e = is_in_case k (node_at e)

-- those of these events
abbrev pub selected : Option OneCase → List Event → List Event
selected case [] = []
selected case (e ∷ es) = if is_selected case e then e ∷ selected case es else selected case es

-- these are the selected ones of events that the source can give
abbrev pub GivesSelected : {S : Type 0} → (S → List Event → Type 0) → Option OneCase → S → List Event → Type 0
GivesSelected gives case s events = (all : List Event) × gives s all × (events ≡ selected case all)

-- of a role with no journal there are none
abbrev pub GivesOf : {S : Type 0} → (S → List Event → Type 0) → Option OneCase → Option S → List Event → Type 0
GivesOf gives case None events = events ≡ []
GivesOf gives case (Some s) events = GivesSelected gives case s events

abbrev pub SelectedGives : {S : Type 0} → (S → List Event → Type 0) → Selected S → List Event → Type 0
SelectedGives gives x events = GivesOf gives x.case x.source events

-- how many reads failed of a source, where there is one
abbrev pub faults_of : {S : Type 0} → (S → ℕ) → Option S → ℕ
faults_of faults None = 0
faults_of faults (Some s) = faults s
