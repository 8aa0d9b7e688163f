-- The payload of an event is one, and an event has no other.
use Rattle.std.specs.Prelude.{◌≡◌, ℕ, zero, suc, List, [], ◌∷◌, ◌++◌, Some, option_map}
use Rattle.std.proofs.Common.{refl, ap, subst}
use Rattle.aw_term.proofs.LastSteps.{mapped as mapped_is}
use Rattle.aw_codec.specs.Bytes.{AreBytes}
use Rattle.aw_codec.specs.Choices.{choice}
use Rattle.aw_codec.proofs.Laws.{AreBytes-drop}
use Rattle.aw_codec.proofs.ChoiceLaws.{choice_law}
use Rattle.aw_msg.specs.Frames.{whole}
use Rattle.aw_msg.specs.Messages.{message}
use Rattle.aw_msg.proofs.FrameLaws.{whole_again, whole_taken}
use Rattle.aw_msg.proofs.MessageLaws.{message_law}
use Rattle.aw_journal.specs.Events.{Event, Took, Got, event_in, payload_of, IsEvent}
use Rattle.aw_journal.specs.EventView.{event_of, events_seen}
use Rattle.aw_journal.specs.declared.payload.NodeEvent.{NodeEvent}

-- ---- payloads

-- what is spelled is read
pub event_in_payload : (event : Event) → IsEvent event → event_in (payload_of event) ≡ Some event
unfolding event_in
event_in_payload (Took c) is = ap (option_map Took) (whole_again choice_law c is.0 is.1)
event_in_payload (Got m) is = ap (option_map Got) (whole_again message_law m is.0 is.1)

-- what is read is spelled so
abbrev Spelled : List ℕ → Event → Type 0
Spelled payload event = (payload ≡ payload_of event) × IsEvent event

pub event_taken : (payload : List ℕ) (event : Event) → AreBytes payload → event_in payload ≡ Some event → (payload ≡ payload_of event) × IsEvent event
unfolding event_in
event_taken [] event fits e = absurd cc
event_taken (zero ∷ bytes) event fits e = absurd cc
event_taken (suc zero ∷ bytes) event fits e =
    let t = mapped_is Took (whole choice bytes) event e in
    let w = whole_taken choice_law bytes t.0 (AreBytes-drop 1 (1 ∷ bytes) fits) t.1 in
    subst (Spelled (1 ∷ bytes)) t.2 (ap (λ (l : List ℕ). 1 ∷ l) w.0, (w.1, w.2))
event_taken (suc (suc zero) ∷ bytes) event fits e =
    let t = mapped_is Got (whole message bytes) event e in
    let w = whole_taken message_law bytes t.0 (AreBytes-drop 1 (2 ∷ bytes) fits) t.1 in
    subst (Spelled (2 ∷ bytes)) t.2 (ap (λ (l : List ℕ). 2 ∷ l) w.0, (w.1, w.2))
event_taken (suc (suc (suc k)) ∷ bytes) event fits e = absurd cc

pub events_push : (events : List NodeEvent) (event : NodeEvent) → events_seen (events ++ event ∷ []) ≡ events_seen events ++ event_of event ∷ []
events_push [] event = refl
events_push (first ∷ events) event = ap (λ (es : List Event). event_of first ∷ es) (events_push events event)
