-- What a file stands for before, while and after a record is added to it.
use Rattle.std.specs.Prelude.{◌≡◌, ◌≢◌, ◌⊎◌, ℕ, ◌+◌, ◌^◌, ◌<◌, List, [], ◌∷◌, ◌++◌, Bool, IsTrue, length, drop, Result, Ok, Err}
use Rattle.std.proofs.Common.{inl, inr, sym, ◌∙◌, ap, arith, length-append, append_assoc, append-nil}
use Rattle.std.proofs.lemmas.Bool.{cases_eq}
use Rattle.aw_journal.specs.Format.{events_of, events_from, front, head, records, record_of}
use Rattle.aw_journal.specs.Events.{Event, IsEvent, AllEvents, payload_of}
use Rattle.aw_journal.specs.EventView.{event_of, events_seen}
use Rattle.aw_journal.specs.declared.payload.NodeEvent.{NodeEvent}
use Rattle.aw_journal.proofs.Events.{events_push}
use Rattle.aw_journal.proofs.Bytes.{closed, events_front, events_spelled, length-head, length-spelled}
use Rattle.aw_journal.specs.Journal.{Kept, HasEventsOf, IsSettled, StandsAt, IsAround, behind_gate}
use Rattle.aw_journal.specs.Opens.{HasEvents, HasThisHead}

-- the fault of a result, where it is one
abbrev fault_or : {T E : Type 0} → E → Result T E → E
fault_or d (Ok x) = d
fault_or d (Err e) = e

pub same_Err : {T E : Type 0} (a b : E) (r : Result T E) → r ≡ Err a → r ≡ Err b → a ≡ b
same_Err a b r is so = sym (ap (fault_or a) is) ∙ ap (fault_or a) so

pub length-front : (role : ℕ) (text : List ℕ) (events : List Event) → length (front role text events) ≡ 11 + length text + length (records events)
length-front role text events = omega (arith, length-append (head role text) (records events), length-head role text)

pub records_push : (events : List Event) (event : Event) → records (events ++ event ∷ []) ≡ records events ++ 1 ∷ record_of event
records_push [] event = ap (λ (l : List ℕ). 1 ∷ l) (append-nil (record_of event))
records_push (first ∷ events) event = ap (λ (l : List ℕ). 1 ∷ (record_of first ++ l)) (records_push events event) ∙ ap (λ (l : List ℕ). 1 ∷ l)
    (sym (append_assoc (record_of first) (records events) (1 ∷ record_of event)))

pub front_push : (role : ℕ) (text : List ℕ) (events : List Event) (event : Event) → front role text (events ++ event ∷ []) ≡ front role text events ++ 1 ∷ record_of event
front_push role text events event = ap (λ (l : List ℕ). 1 ∷ (head role text ++ l)) (records_push events event) ∙ ap (λ (l : List ℕ). 1 ∷ l)
    (sym (append_assoc (head role text) (records events) (1 ∷ record_of event)))

pub length-front_push : (role : ℕ) (text : List ℕ) (events : List Event) (event : Event) → length (front role text (events ++ event ∷ [])) ≡ length
    (front role text events) + length (payload_of event) + 9
length-front_push role text events event = omega (arith, ap length (front_push role text events event), length-append (front role text events) (1 ∷ record_of event), length-spelled event)

-- a file that begins with this head, open records and a gate
pub own_head : (role : ℕ) (text file tail : List ℕ) (events : List Event) (gate : ℕ) → file ≡ front role text events ++ gate ∷ tail → HasThisHead role text file
own_head role text file tail [] gate is = (gate, tail, is ∙ ap (λ (l : List ℕ). 1 ∷ l) (append_assoc (head role text) [] (gate ∷ tail)))
own_head role text file tail (event ∷ events) gate is =
    (1, (record_of event ++ records events) ++ gate ∷ tail, is ∙ ap (λ (l : List ℕ). 1 ∷ l) (append_assoc (head role text) (records (event ∷ events)) (gate ∷ tail)))

-- with these events
pub behind_own_head : (role : ℕ) (text file tail : List ℕ) (begun events : List Event) (gate : ℕ) → file ≡ front role text begun ++ gate ∷ tail →
    events_of file ≡ events → HasEvents role text events file
behind_own_head role text file tail begun events gate is has = record { events_are = has; no_other_head = λ foreign. foreign.1 (own_head role text file tail begun gate is) }

module _ (role : ℕ) (text : List ℕ) (events : List Event) (all : AllEvents events) (fits : length (front role text events) < 2 ^ 64) where
  long : length (front role text events) ≡ 11 + length text + length (records events)
  long = length-front role text events

  -- a closed gate behind the open records
  pub at_rest : (file tail : List ℕ) (gate : ℕ) → gate ≢ 1 → file ≡ front role text events ++ gate ∷ tail → events_of file ≡ events
  at_rest file tail gate shut is =
      ap events_of is ∙ events_front role text events (gate ∷ tail) all (omega (arith, long)) (omega (arith, long)) (omega arith)
      ∙ ap (λ (es : List Event). events ++ es) (closed gate tail shut) ∙ append-nil events

  -- an open one, and a record behind it
  pub with_record : (file rest : List ℕ) (event : Event) → IsEvent event → length (payload_of event) < 2 ^ 64 →
      file ≡ front role text events ++ 1 ∷ ((record_of event ++ 0 ∷ []) ++ rest) → events_of file ≡ events ++ event ∷ []
  with_record file rest event good small is =
      ap events_of is ∙ events_front role text events (1 ∷ ((record_of event ++ 0 ∷ []) ++ rest)) all (omega (arith, long)) (omega (arith, long)) (omega arith)
      ∙ ap (λ (l : List ℕ). events ++ events_from 0 (1 ∷ l)) (append_assoc (record_of event) (0 ∷ []) rest)
      ∙ ap (λ (es : List Event). events ++ es) (events_spelled event (0 ∷ rest) good small (omega arith))
      ∙ ap (λ (es : List Event). events ++ event ∷ es) (closed 0 rest (omega arith))

  pub rests : (file tail : List ℕ) (gate : ℕ) → gate ≢ 1 → file ≡ front role text events ++ gate ∷ tail → HasEvents role text events file
  rests file tail gate shut is = behind_own_head role text file tail events events gate is (at_rest file tail gate shut is)

  pub around : (c rest : List ℕ) (event : Event) (shut : ℕ) → shut ≢ 1 → IsEvent event → length (payload_of event) < 2 ^ 64 →
      IsAround (front role text events) shut (behind_gate (record_of event ++ 0 ∷ []) rest) c
      → HasEvents role text events c ⊎ HasEvents role text (events ++ event ∷ []) c
  around c rest event shut closed_gate good small (inl p) = inl (rests c p.0 shut closed_gate p.1)
  around c rest event shut closed_gate good small (inr p) = elim (cases_eq p.0 1) [
    | inl is_open ↦
        let behind = drop (length (record_of event ++ 0 ∷ [])) rest in
        let is : c ≡ front role text events ++ 1 ∷ ((record_of event ++ 0 ∷ []) ++ behind) =
        p.1 ∙ ap (λ (gate : ℕ). front role text events ++ gate ∷ behind_gate (record_of event ++ 0 ∷ []) rest) is_open in
        inr (behind_own_head role text c ((record_of event ++ 0 ∷ []) ++ behind) events (events ++ event ∷ []) 1 is (with_record c behind event good small is))
    | inr still ↦ inl (rests c (behind_gate (record_of event ++ 0 ∷ []) rest) p.0 still p.1)
  ]

module _ {D : Type 0} (tells : D → Bool) (seen : D → List ℕ) (may_leave : D → List ℕ → Type 0) where
  -- a settled journal's outcomes
  pub settled_events : (disk : D) (j : Kept) → AllEvents (events_seen j.events) → length (front j.role j.text (events_seen j.events)) < 2 ^ 64 →
      IsSettled seen may_leave disk j → (c : List ℕ) → may_leave disk c → HasEventsOf j c
  settled_events disk j all fits settled c left = rests j.role j.text (events_seen j.events) all fits c settled.file.rest settled.file.gate settled.file.shut (settled.durable c left ∙ settled.file.is)

  pub stands : (disk : D) (j : Kept) (place : ℕ) → IsTrue (tells disk) → place ≡ length (front j.role j.text (events_seen j.events)) →
      (settled : IsSettled seen may_leave disk j) → StandsAt tells seen may_leave disk place (front j.role j.text (events_seen j.events))
      settled.file.rest settled.file.gate
  stands disk j place told is settled = record { told = told; is = settled.file.is; durable = settled.durable; place_is = is }

  pub settled_after : (disk : D) (j : Kept) (place : ℕ) (event : NodeEvent) (rest : List ℕ) → StandsAt tells seen may_leave disk place
      (front j.role j.text (events_seen j.events)) (behind_gate (record_of (event_of event) ++ 0 ∷ []) rest) 1 → IsSettled seen may_leave disk
      (record j { events = j.events ++ event ∷ [] })
  settled_after disk j place event rest stands_at =
      let spelled = record_of (event_of event) in
      let events = events_seen j.events in
      let behind = drop (length (spelled ++ 0 ∷ [])) rest in
      record {
        file = record {
          gate = 0;
          rest = behind;
          shut = omega arith;
          is = stands_at.is ∙ ap (λ (l : List ℕ). front j.role j.text events ++ 1 ∷ l) (append_assoc spelled (0 ∷ []) behind)
              ∙ sym (append_assoc (front j.role j.text events) (1 ∷ spelled) (0 ∷ behind))
              ∙ ap (λ (l : List ℕ). l ++ 0 ∷ behind) (sym (front_push j.role j.text events (event_of event)))
              ∙ ap (λ (es : List Event). front j.role j.text es ++ 0 ∷ behind) (sym (events_push j.events event));
        };
        durable = stands_at.durable;
      }
