-- What a courier between the nodes of all roles leads to.
use Rattle.std.specs.Prelude.{◌≡◌, ◌⊎◌, ℕ, List, [], codes}
use Rattle.aw_term.specs.Rules.{get}
use Rattle.aw_grammar.specs.Declarations.{grammar_in, words_in}
use Rattle.aw_courier.specs.Carrying as courier
use Rattle.aw_courier.specs.Honest.{MeansOverHonest}
use Rattle.aw_courier.specs.declared.carrying.Carried.{Carried}
use Rattle.aw_courier.specs.declared.carrying.Carried.TheVariants.{Quiet, RoundsSpent}
use Rattle.aw_courier.specs.declared.carrying.CarryFault.{CarryFault}
use Rattle.aw_courier.specs.declared.carrying.CarryFault.TheVariants as fault
use Rattle.aw_spec.specs.Reading.{Spec}
use Rattle.aw_front.specs.declared.reply.Status.{Status}
use Rattle.aw_front.specs.declared.reply.Status.TheVariants.{NetFault, NoMemory, ReadFault}
use Rattle.aw_run.specs.Devices.{Wired}
use Rattle.aw_front.specs.Opening.{Opens}
use Rattle.aw_front.specs.Output.{Output, Writes, NoReplyOf, OfAccepted}

-- `quiet` or `rounds spent`, and a newline
abbrev pub carried_line : Carried → List ℕ
carried_line Quiet = codes "quiet\n"
carried_line RoundsSpent = codes "rounds spent\n"

-- this was carried between the roles of a specification, in so many rounds or until nothing moved
abbrev pub CarriesFor : Spec → (rounds : ℕ) → Wired → Carried → Type 0
CarriesFor s rounds x carried = courier.Carries (grammar_in s.declared) x.wire.content x.wire.faults x.wire.failed_openings rounds x.before x.after carried

-- over a wire that was honest for a world and some choices, `quiet` means that the world is quiet; and where no choice came meanwhile, `rounds spent` that
-- the rounds are at most twice as many as the bound on its messages
abbrev pub CarriedMeans : Spec → (rounds : ℕ) → Wired → Carried → Type 0
CarriedMeans s rounds x carried = ∥ MeansOverHonest (words_in s.declared) (grammar_in s.declared) x.wire.content x.wire.faults x.wire.failed_openings rounds x.before x.after carried ∥₁

-- the courier broke off by this fault
abbrev pub BreaksOffBy : Spec → (rounds : ℕ) → Wired → CarryFault → Type 0
BreaksOffBy s rounds x why = courier.IsBrokenOff (grammar_in s.declared) x.wire.content x.wire.faults rounds x.before x.after why

-- Messages were carried, and how that ended is written.
pub record WasCarried (s : Spec) (rounds : ℕ) (x : Wired) (output : Output) : Type 0 where
  pub carried : Carried
  pub carries : CarriesFor s rounds x carried
  pub world : CarriedMeans s rounds x carried
  pub writes : output ≡ Writes (carried_line carried)

-- What a role sent in a reply's place is none, and the role is named.
pub record HadNoReply (s : Spec) (rounds : ℕ) (x : Wired) (output : Output) : Type 0 where
  pub role : ℕ
  pub broken : BreaksOffBy s rounds x (fault.BadReply role)
  pub names : output ≡ NoReplyOf (get [] (words_in s.declared).roles role)

-- what comes of a courier for a specification
abbrev pub CarriesOver : (rounds : ℕ) → Wired → Spec → Output → Type 0
CarriesOver rounds x s output = WasCarried s rounds x output ⊎ HadNoReply s rounds x output

-- The output of a courier for an input.
unfoldable pub IsCarryingOutputOf : (rounds : ℕ) → Wired → List ℕ → Output → Type 0
IsCarryingOutputOf rounds x input output = OfAccepted (CarriesOver rounds x) input output

-- Why a courier came to no end, by the status that tells it. Memory may also have run out for the line, once the courier was done.
abbrev pub StopsCourier : Spec → (rounds : ℕ) → Wired → Status → Type 0
StopsCourier s rounds x NetFault = (role : ℕ) × BreaksOffBy s rounds x (fault.NetFault role)
StopsCourier s rounds x NoMemory = BreaksOffBy s rounds x fault.NoMemory ⊎ ((output : Output) × CarriesOver rounds x s output)
StopsCourier s rounds x _ = ⊥

-- the source failed or memory ran out before the wire was touched
pub record StopsUnwired (x : Wired) (status : Status) : Type 0 where
  pub why : (status ≡ ReadFault) ⊎ (status ≡ NoMemory)
  pub same_wire : x.after ≡ x.before

-- why a courier for an input came to no end, and how it left the wire
abbrev pub StopsCarrying : (rounds : ℕ) → Wired → List ℕ → Status → Type 0
StopsCarrying rounds x input status = StopsUnwired x status ⊎ ((s : Spec) × Opens input s × StopsCourier s rounds x status)
