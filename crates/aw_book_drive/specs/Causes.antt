-- Why the event that is next in a journal is not allowed.
use Rattle.std.specs.Prelude.{◌≡◌, ℕ, true, false, nat_eq, List, [], None, Some, slice_get}
use Rattle.std.specs.declared.option.Option.{Option}
use Rattle.aw_choice.specs.ChoiceView.{choice_of, answer_of}
use Rattle.aw_journal.specs.declared.payload.NodeEvent.{NodeEvent}
use Rattle.aw_journal.specs.declared.payload.NodeEvent.TheVariants.{Took, Got}
use Rattle.aw_law_sites.specs.Worlds as V
use Rattle.aw_law_sites.specs.Worlds.{Answered, Chooses, step}
use Rattle.aw_msg.specs.declared.message.Message.{Message}
use Rattle.aw_msg.specs.declared.message.MsgKind.{MsgKind}
use Rattle.aw_msg.specs.declared.message.MsgKind.TheVariants.{Call, Ask, Tell}
use Rattle.aw_term.specs.Rules.{Grammar}
use Rattle.aw_term.specs.Trees.{Never}
use Rattle.aw_typed.specs.Types.{Types}
use Rattle.aw_book_drive.specs.Driving.{may_be_asked}
use Rattle.aw_book_drive.specs.Indexes.{IsAt}
use Rattle.aw_book_drive.specs.declared.causes.Cause.{Cause}
use Rattle.aw_book_drive.specs.declared.causes.Cause.TheVariants.{Unfit, Refused, Elsewhere, NotNew, OtherLoad, Unsent}
use Rattle.aw_book_drive.specs.declared.lanes.Lane.{Lane}

-- what a message says, without its load
abbrev pub without_load : MsgKind → MsgKind
without_load (Call n inherited load) = Call n inherited []
without_load (Ask r from) = Ask r from
without_load (Tell e load) = Tell e []

-- both say the same to the same role, whatever their loads
abbrev pub AreAlike : Message → Message → Type 0
AreAlike m n = (m.to ≡ n.to) × (without_load m.kind ≡ without_load n.kind)

-- one that is alike stands at this number
abbrev pub IsAlikeAt : List Message → Message → ℕ → Type 0
IsAlikeAt messages m k = (n : Message) × (slice_get messages k ≡ Some n) × AreAlike n m

-- A choice may not be asked at this role, or is answered so. A message is for another role; or it was sent with this number, and is nothing new; or one
-- was sent that says the same with another load; or none was that says the same.
abbrev pub IsCause : Types → Grammar → V.World → List Message → ℕ → NodeEvent → Cause → Type 0
IsCause t g v messages role (Took c) Unfit = may_be_asked t g role (choice_of c) ≡ false
IsCause t g v messages role (Took c) (Refused answer) =
    (may_be_asked t g role (choice_of c) ≡ true) × ((step g v (Chooses (choice_of c))).reply ≡ Answered (answer_of answer))
IsCause t g v messages role (Got m) Elsewhere = nat_eq m.to role ≡ false
IsCause t g v messages role (Got m) (NotNew k) = (nat_eq m.to role ≡ true) × IsAt messages m k
IsCause t g v messages role (Got m) (OtherLoad k) = (nat_eq m.to role ≡ true) × ((j : ℕ) → IsAt messages m j → Never) × IsAlikeAt messages m k
IsCause t g v messages role (Got m) Unsent = (nat_eq m.to role ≡ true) × ((k : ℕ) → IsAlikeAt messages m k → Never)
IsCause t g v messages role _ _ = Never

-- a cause is told of the event that is next, where there is one
abbrev pub TellsCause : Types → Grammar → V.World → List Message → ℕ → Lane → Option Cause → Type 0
TellsCause t g v messages role lane None = lane.next ≡ None
TellsCause t g v messages role lane (Some cause) = (event : NodeEvent) × (lane.next ≡ Some event) × IsCause t g v messages role event cause
