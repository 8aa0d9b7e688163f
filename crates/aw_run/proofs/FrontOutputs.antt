-- What comes of the front of an input, for each command that serves.
use Rattle.std.proofs.Common.{ℕ, ◌<◌, List, length, inl, inr}
use Rattle.aw_spec.specs.Reading.{Spec}
use Rattle.aw_front.specs.declared.limit.TheConstants.{INPUT_LIMIT}
use Rattle.aw_front.specs.declared.reply.Reply.{Reply}
use Rattle.aw_front.specs.declared.reply.Status.{Status}
use Rattle.aw_run.specs.Devices.{Devices, Wired}
use Rattle.aw_front.specs.Output.{PastInputLimit, OfAccepted}
use Rattle.aw_front.specs.Replies.{Replies}
use Rattle.aw_run.specs.Serving.{ServesNamed, IsServingOutputOf}
use Rattle.aw_run.specs.Unserved.{StopsNodeNamed, StopsServing}
use Rattle.aw_run.specs.Keeping.{KeepsNamed, IsKeepingOutputOf, StopsKeeping, StopsNamed}
use Rattle.aw_run.specs.Carrying.{CarriesOver, IsCarryingOutputOf}
use Rattle.aw_front.specs.Opening.{Opens}
use Rattle.aw_front.specs.Fronts.{Nothing}
use Rattle.aw_front.proofs.FrontOutputs.{refused-of, opens-output, of-past}

-- ---- for the node of a role
pub serves-refused : (name : List ℕ) (sessions : ℕ) (x : Wired) (input : List ℕ) (said : Reply) → Replies (OfAccepted (λ s. Nothing) input) said →
    Replies (IsServingOutputOf name sessions x input) said
unfolding IsServingOutputOf
serves-refused name sessions x input said refused = refused-of (ServesNamed name sessions x) input said refused

pub serves-opened : (name : List ℕ) (sessions : ℕ) (x : Wired) (input : List ℕ) (s : Spec) (said : Reply) → Opens input s →
    Replies (ServesNamed name sessions x s) said → Replies (IsServingOutputOf name sessions x input) said
unfolding IsServingOutputOf
serves-opened name sessions x input s said opens (output, holds, is) = (output, opens-output (ServesNamed name sessions x) input s output opens holds, is)

pub served-past : (name : List ℕ) (sessions : ℕ) (x : Wired) (input : List ℕ) → INPUT_LIMIT < length input → IsServingOutputOf name sessions x input PastInputLimit
unfolding IsServingOutputOf
served-past name sessions x input past = of-past (ServesNamed name sessions x) input past

-- ---- for its kept node
pub keeps-refused : (name : List ℕ) (sessions : ℕ) (x : Devices) (input : List ℕ) (said : Reply) → Replies (OfAccepted (λ s. Nothing) input) said →
    Replies (IsKeepingOutputOf name sessions x input) said
unfolding IsKeepingOutputOf
keeps-refused name sessions x input said refused = refused-of (KeepsNamed name sessions x) input said refused

pub keeps-opened : (name : List ℕ) (sessions : ℕ) (x : Devices) (input : List ℕ) (s : Spec) (said : Reply) → Opens input s →
    Replies (KeepsNamed name sessions x s) said → Replies (IsKeepingOutputOf name sessions x input) said
unfolding IsKeepingOutputOf
keeps-opened name sessions x input s said opens (output, holds, is) = (output, opens-output (KeepsNamed name sessions x) input s output opens holds, is)

pub kept-past : (name : List ℕ) (sessions : ℕ) (x : Devices) (input : List ℕ) → INPUT_LIMIT < length input → IsKeepingOutputOf name sessions x input PastInputLimit
unfolding IsKeepingOutputOf
kept-past name sessions x input past = of-past (KeepsNamed name sessions x) input past

-- ---- for a courier
pub carries-refused : (rounds : ℕ) (x : Wired) (input : List ℕ) (said : Reply) → Replies (OfAccepted (λ s. Nothing) input) said → Replies (IsCarryingOutputOf rounds x input) said
unfolding IsCarryingOutputOf
carries-refused rounds x input said refused = refused-of (CarriesOver rounds x) input said refused

pub carries-opened : (rounds : ℕ) (x : Wired) (input : List ℕ) (s : Spec) (said : Reply) → Opens input s → Replies (CarriesOver rounds x s) said → Replies (IsCarryingOutputOf rounds x input) said
unfolding IsCarryingOutputOf
carries-opened rounds x input s said opens (output, holds, is) = (output, opens-output (CarriesOver rounds x) input s output opens holds, is)

pub carried-past : (rounds : ℕ) (x : Wired) (input : List ℕ) → INPUT_LIMIT < length input → IsCarryingOutputOf rounds x input PastInputLimit
unfolding IsCarryingOutputOf
carried-past rounds x input past = of-past (CarriesOver rounds x) input past

-- ---- where it came to a stop
-- a kept role of the specification that an input opens came to a stop
pub stops-opened : (name : List ℕ) (sessions : ℕ) (x : Devices) (input : List ℕ) (s : Spec) (status : Status) → Opens input s →
    StopsNamed name sessions x s status → StopsKeeping name sessions x input status
stops-opened name sessions x input s status opens (inl before) = inl before
stops-opened name sessions x input s status opens (inr (role, named, stops)) = inr (s, role, record { opens = opens; named = named }, stops)

-- and so did one that is not kept
pub stops-node : (name : List ℕ) (sessions : ℕ) (x : Wired) (input : List ℕ) (s : Spec) (status : Status) → Opens input s →
    StopsNodeNamed name sessions x s status → StopsServing name sessions x input status
stops-node name sessions x input s status opens (inl before) = inl before
stops-node name sessions x input s status opens (inr (role, named, stops)) = inr (s, role, record { opens = opens; named = named }, stops)
