-- The file of a journal, case by case on its bytes: a head, and then records behind gates. A gate that is 1 is open.
use Rattle.std.specs.Prelude.{ℕ, zero, suc, ◌+◌, List, [], ◌∷◌, ◌++◌, Bool, false, None, Some, length, take, drop, if◌then◌else◌, ◌==◌, nat_lt}
use Rattle.std.specs.declared.option.Option.{Option}
use Rattle.std.specs.Int.{w16, w64, to_be_bytes, from_be_bytes}
use Rattle.aw_journal.specs.Events.{Event, event_in, payload_of}

-- an event whose payload has this length, and how long the record behind its gate is
abbrev pub with_length : ℕ → Option Event → Option (Event × ℕ)
with_length n None = None
with_length n (Some event) = Some (event, 8 + n)

-- a number in eight bytes, and the number that the first eight are
unfoldable pub u64_bytes : ℕ → List ℕ
u64_bytes n = to_be_bytes w64 n

-- the number that the first eight bytes are
unfoldable pub u64_in : List ℕ → ℕ
u64_in bytes = from_be_bytes w64 bytes

-- a number in two bytes
unfoldable pub u16_bytes : ℕ → List ℕ
u16_bytes n = to_be_bytes w16 n

-- the payload of this length, where it stands whole, is an event and has a gate behind it
abbrev pub whole_of : ℕ → List ℕ → Option (Event × ℕ)
whole_of n behind = if nat_lt n (length behind) then with_length n (event_in (take n behind)) else None

-- the record behind a gate, where it stands whole and a gate stands behind it
abbrev pub whole : List ℕ → Option (Event × ℕ)
whole rest = whole_of (u64_in rest) (drop 8 rest)

-- the first event and those behind it, where there is one
abbrev pub then_more : Option (Event × ℕ) → (ℕ → List Event) → List Event
then_more None more = []
then_more (Some first) more = first.0 ∷ more first.1

-- the events of the open records in turn, from a gate on that stands so many bytes further on
abbrev pub events_from : ℕ → List ℕ → List Event
events_from k [] = []
events_from (suc k) (byte ∷ rest) = events_from k rest
events_from zero (gate ∷ rest) = if gate == 1 then then_more (whole rest) (λ n. events_from n rest) else []

-- whether a head stands: its gate is open, and something stands behind it
abbrev pub has_head : List ℕ → Bool
has_head [] = false
has_head (gate ∷ []) = false
has_head (gate ∷ byte ∷ rest) = gate == 1

-- the events of a file
abbrev pub events_of : List ℕ → List Event
events_of file = if has_head file then events_from (11 + u64_in (drop 3 file)) file else []

-- a head behind its gate
abbrev pub head : ℕ → List ℕ → List ℕ
head role text = u16_bytes role ++ (u64_bytes (length text) ++ text)

-- where an open head ends whose text has this length, with the gate behind it: a gate, the role in two bytes, the length in eight, the text and a gate
abbrev pub end_of_head : ℕ → ℕ
end_of_head n = 12 + n

-- what a record holds behind its gate: the length of a payload, and the payload
abbrev pub framed : List ℕ → List ℕ
framed payload = u64_bytes (length payload) ++ payload

-- the record of an event, behind its gate
abbrev pub record_of : Event → List ℕ
record_of event = framed (payload_of event)

-- open records
abbrev pub records : List Event → List ℕ
records [] = []
records (event ∷ events) = 1 ∷ (record_of event ++ records events)

-- an open head and open records
abbrev pub front : ℕ → List ℕ → List Event → List ℕ
front role text events = 1 ∷ (head role text ++ records events)
