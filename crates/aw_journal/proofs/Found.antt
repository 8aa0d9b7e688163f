-- Whether a whole record stands behind a gate.
use Rattle.std.specs.Prelude.{◌≡◌, ◌≢◌, ℕ, ◌+◌, ◌-◌, ◌^◌, ◌<◌, ◌≤◌, List, [], ◌∷◌, ◌++◌, Bool, true, false, None, length, take, drop, get_or, cond, ◌==◌}
use Rattle.std.proofs.Common.{refl, sym, ◌∙◌, ap, arith, append_assoc, take-append-drop, length-drop}
use Rattle.std.proofs.lemmas.List.{length-take-le, drop-drop, drop_more, take-take}
use Rattle.std.proofs.lemmas.Bool.Decides.{nat_tests}
use Rattle.aw_journal.specs.Format.{framed, whole, whole_of, u64_in, u64_bytes, record_of, records, events_from}
use Rattle.aw_journal.specs.Events.{Event, event_in, payload_of}
use Rattle.aw_journal.proofs.Bytes.{u64_in-take, closed, whole_bad}
use Rattle.aw_journal.specs.Scan.{Found, FoundEvent, IsPayload}
use Rattle.aw_journal.proofs.Appends.{records_push}

pub whole_at : (rest : List ℕ) (n : ℕ) → n ≡ u64_in (take 8 rest) → whole rest ≡ whole_of n (drop 8 rest)
whole_at rest n is = ap (λ (k : ℕ). whole_of k (drop 8 rest)) (sym (is ∙ u64_in-take rest))

pub either : {A : Type 0} (b : Bool) (x : A) → cond b x x ≡ x
either true x = refl
either false x = refl

-- behind a gate, open or not, where no whole record stands
pub no_more : (gate : ℕ) (rest : List ℕ) → whole rest ≡ None → events_from 0 (gate ∷ rest) ≡ []
no_more gate rest none = rw none (either (gate == 1) [])

pub of_short : (n : ℕ) (behind : List ℕ) → length behind ≤ n → whole_of n behind ≡ None
of_short n behind short = grind (arith, nat_tests)

pub none_short : (rest : List ℕ) (n : ℕ) → n ≡ u64_in (take 8 rest) → length (drop 8 rest) ≤ n → whole rest ≡ None
none_short rest n is short = whole_at rest n is ∙ of_short n (drop 8 rest) short

framed_at : (payload : List ℕ) (n : ℕ) → length payload ≡ n → framed payload ≡ u64_bytes n ++ payload
framed_at payload n is = ap (λ (k : ℕ). u64_bytes k ++ payload) is

pub payload_stands : (rest : List ℕ) (n : ℕ) → u64_bytes n ≡ take 8 rest → n < length (drop 8 rest) → IsPayload rest n
payload_stands rest n bytes fits =
    let behind = drop 8 rest in
    let payload = take n behind in
    let long : length payload ≡ n = length-take-le n behind (omega arith) in
    record {
      within = omega (arith, length-drop 8 rest);
      parts = sym (take-append-drop 8 rest) ∙ ap (λ (l : List ℕ). take 8 rest ++ l) (sym (take-append-drop n behind))
          ∙ sym (append_assoc (take 8 rest) (take n behind) (drop n behind))
          ∙ ap (λ (l : List ℕ). l ++ take n behind ++ drop n behind) (sym bytes)
          ∙ ap (λ (l : List ℕ). l ++ drop n behind) (sym (framed_at payload n long))
          ∙ ap (λ (l : List ℕ). framed payload ++ l) (drop-drop n 8 rest);
    }

pub found_at : (bytes : List ℕ) (gate n : ℕ) → gate < length bytes → get_or bytes gate 0 ≡ 1 → IsPayload (drop (gate + 1) bytes) n → Found bytes gate (gate + 9 + n)
found_at bytes gate n within is_open payload =
    let rest = drop (gate + 1) bytes in
    let here : drop gate bytes ≡ 1 ∷ rest = drop_more bytes gate 0 within ∙ ap (λ (k : ℕ). k ∷ rest) is_open in
    let size = length-drop (gate + 1) bytes in
    let event_is : take n (drop 8 rest) ≡ take (gate + 9 + n - (gate + 9)) (drop (gate + 9) bytes) =
    (let same : n ≡ gate + 9 + n - (gate + 9) = omega arith in ap (λ (k : ℕ). take k (drop 8 rest)) same)
    ∙ ap (λ (l : List ℕ). take (gate + 9 + n - (gate + 9)) l) (drop-drop 8 (gate + 1) bytes ∙ (let same : gate + 1 + 8 ≡ gate + 9 = omega arith in ap (λ (k : ℕ). drop k bytes) same)) in
    let next_is : drop (8 + n) rest ≡ drop (gate + 9 + n) bytes = drop-drop (8 + n) (gate + 1) bytes ∙ (let same : gate + 1 + (8 + n) ≡ gate + 9 + n =
    omega arith in ap (λ (k : ℕ). drop k bytes) same) in
    record {
      within = omega (arith, payload.within, size);
      later = omega arith;
      parts = here ∙ ap (λ (l : List ℕ). 1 ∷ l) payload.parts
          ∙ ap (λ (l : List ℕ). 1 ∷ (framed l ++ drop (8 + n) rest)) event_is
          ∙ ap (λ (l : List ℕ). 1 ∷ (framed (take (gate + 9 + n - (gate + 9)) (drop (gate + 9) bytes)) ++ l)) next_is;
    }

pub not_open : (bytes : List ℕ) (gate : ℕ) → gate < length bytes → get_or bytes gate 0 ≢ 1 → events_from 0 (drop gate bytes) ≡ []
not_open bytes gate within shut = ap (events_from 0) (drop_more bytes gate 0 within) ∙ closed (get_or bytes gate 0) (drop (gate + 1) bytes) shut

pub not_whole : (bytes : List ℕ) (gate : ℕ) → gate < length bytes → whole (drop (gate + 1) bytes) ≡ None → events_from 0 (drop gate bytes) ≡ []
not_whole bytes gate within none = ap (events_from 0) (drop_more bytes gate 0 within) ∙ no_more (get_or bytes gate 0) (drop (gate + 1) bytes) none

pub found_push : (from events_at next : List ℕ) (events : List Event) (event : Event) → from ≡ records events ++ events_at →
    events_at ≡ 1 ∷ (record_of event ++ next) → from ≡ records (events ++ event ∷ []) ++ next
found_push from events_at next events event before here =
    before ∙ ap (λ (l : List ℕ). records events ++ l) here ∙ sym (append_assoc (records events) (1 ∷ record_of event) next)
    ∙ ap (λ (l : List ℕ). l ++ next) (sym (records_push events event))

-- the file ends before the payload of a record could begin
pub no_room : (file : List ℕ) (gate : ℕ) → gate < length file → length file < gate + 9 → events_from 0 (drop gate file) ≡ []
no_room file gate within short =
    let rest = drop (gate + 1) file in
    not_whole file gate within (none_short rest (u64_in (take 8 rest)) refl (omega (arith, length-drop 8 rest, length-drop (gate + 1) file, short)))

-- the gate at a place, and the length behind it
module _ (file front : List ℕ) (gate : ℕ) (within : gate + 9 ≤ length file) (front_is : front ≡ take 9 (drop gate file)) where
  pub front_parts : front ≡ get_or file gate 0 ∷ take 8 (drop (gate + 1) file)
  front_parts = front_is ∙ ap (λ (l : List ℕ). take 9 l) (drop_more file gate 0 (omega (arith, within)))

  pub front_long : length front ≡ 9
  front_long = ap length front_is ∙ length-take-le 9 (drop gate file) (omega (arith, within, length-drop gate file))

  pub front_gate : get_or front 0 0 ≡ get_or file gate 0
  front_gate = ap (λ (l : List ℕ). get_or l 0 0) front_parts

  pub front_length : take 8 (drop 1 front) ≡ take 8 (drop (gate + 1) file)
  front_length = ap (λ (l : List ℕ). take 8 (drop 1 l)) front_parts ∙ take-take 8 8 (drop (gate + 1) file) (omega arith)

  pub front_shut : get_or front 0 0 ≢ 1 → events_from 0 (drop gate file) ≡ []
  front_shut shut = not_open file gate (omega (arith, within)) (λ is_open. shut (front_gate ∙ is_open))

  pub front_none : (n : ℕ) → n ≡ u64_in (take 8 (drop 1 front)) → length file ≤ gate + 9 + n → events_from 0 (drop gate file) ≡ []
  front_none n is past =
      let rest = drop (gate + 1) file in
      not_whole file gate (omega (arith, within)) (none_short rest n (is ∙ ap u64_in front_length) (omega (arith, length-drop 8 rest, length-drop (gate + 1) file, past)))

  pub front_some : (n : ℕ) → u64_bytes n ≡ take 8 (drop 1 front) → get_or front 0 0 ≡ 1 → gate + 9 + n < length file → Found file gate (gate + 9 + n)
  front_some n is is_open behind =
      let rest = drop (gate + 1) file in
      let bytes : u64_bytes n ≡ take 8 rest = is ∙ front_length in
      found_at file gate n (omega (arith, within)) (sym front_gate ∙ is_open) (payload_stands rest n bytes (omega (arith, length-drop 8 rest, length-drop (gate + 1) file, behind)))

-- a record stands whole, and these bytes are its payload
module _ (file payload : List ℕ) (gate n : ℕ) (found : Found file gate (gate + 9 + n)) (payload_is : payload ≡ take n (drop (gate + 9) file)) where
  same_payload : take (gate + 9 + n - (gate + 9)) (drop (gate + 9) file) ≡ payload
  same_payload = (let same : gate + 9 + n - (gate + 9) ≡ n = omega arith in ap (λ (k : ℕ). take k (drop (gate + 9) file)) same) ∙ sym payload_is

  pub whole_payload : length payload ≡ n
  whole_payload = ap length payload_is ∙ length-take-le n (drop (gate + 9) file) (omega (arith, length-drop (gate + 9) file, found.within))

  pub next_event : (event : Event) → payload ≡ payload_of event → FoundEvent file gate (gate + 9 + n) event
  next_event event is = record {
    within = found.within;
    parts = found.parts ∙ ap (λ (l : List ℕ). 1 ∷ (framed l ++ drop (gate + 9 + n) file)) (same_payload ∙ is);
  }

  pub next_none : length payload < 2 ^ 64 → event_in payload ≡ None → events_from 0 (drop gate file) ≡ []
  next_none small bad =
      let next = gate + 9 + n in
      ap (events_from 0) found.parts ∙ ap (λ (l : List ℕ). events_from 0 (1 ∷ (framed l ++ drop next file))) same_payload
      ∙ no_more 1 (framed payload ++ drop next file) (whole_bad payload (drop next file) bad small (omega (arith, length-drop next file, found.within)))
