-- Which messages have a spelling in bytes. The sizes are those of the program's types; the ranges say the rest.
use Rattle.std.specs.Prelude.{◌<◌, ◌≤◌, ◌^◌, List, length}
use Rattle.aw_term.specs.WellFormed.{Each}
use Rattle.aw_term.specs.Limits.{most_of_load}
use Rattle.aw_store.specs.Equations.{Body, Same, Is, Equation}
use Rattle.aw_apply.specs.Messages.{Kind, Calls, Asks, Tells, Message}
use Rattle.aw_codec.specs.Ranges.{NodeSized, NodeInRange, RefSized, RefInRange, RefsSized, RefsInRange, HeadSized, HeadInRange}

-- the numbers of a body have the sizes of the program's types
abbrev pub BodySized : Body → Type 0
BodySized (Same r) = RefSized r
BodySized (Is h parts) = HeadSized h × RefsSized parts

-- a number and a text have no references, a constructor has few
abbrev pub BodyInRange : Body → Type 0
BodyInRange (Same r) = RefInRange r
BodyInRange (Is h parts) = HeadInRange h (length parts) × RefsInRange parts

-- the numbers of an equation have their sizes
abbrev pub EquationSized : Equation → Type 0
EquationSized e = RefSized e.left × BodySized e.body

-- both sides of an equation are in range
abbrev pub EquationInRange : Equation → Type 0
EquationInRange e = RefInRange e.left × BodyInRange e.body

-- the numbers of a load have their sizes
abbrev pub LoadSized : List Equation → Type 0
LoadSized es = Each EquationSized es

-- few equations
abbrev pub LoadInRange : List Equation → Type 0
LoadInRange es = (length es ≤ most_of_load) × Each EquationInRange es

-- the numbers of what a message says have their sizes
abbrev pub KindSized : Kind → Type 0
KindSized (Calls c load) = NodeSized c.node × (RefsSized c.inherited × LoadSized load)
KindSized (Asks r from) = RefSized r × (from < 2 ^ 16)
KindSized (Tells e load) = EquationSized e × LoadSized load

-- what a message says is in range, with its load
abbrev pub KindInRange : Kind → Type 0
KindInRange (Calls c load) = NodeInRange c.node × (RefsInRange c.inherited × LoadInRange load)
KindInRange (Asks r from) = RefInRange r
KindInRange (Tells e load) = EquationInRange e × LoadInRange load

-- the numbers of a message have their sizes, and that of its role has two bytes
abbrev pub MessageSized : Message → Type 0
MessageSized m = (m.to < 2 ^ 16) × KindSized m.kind

-- a message for any role is in range where what it says is
abbrev pub MessageInRange : Message → Type 0
MessageInRange m = KindInRange m.kind
