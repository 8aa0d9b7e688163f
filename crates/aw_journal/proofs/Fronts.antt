-- Whether a whole record stands behind a gate.
use Rattle.std.specs.Prelude.{◌≡◌, ◌≢◌, ℕ, ◌+◌, ◌^◌, ◌<◌, ◌≤◌, List, ◌∷◌, ◌++◌, Bool, true, false, None, Some, length, take, drop, get_or, nat_lt, ◌==◌}
use Rattle.std.specs.declared.option.Option.{Option}
use Rattle.std.proofs.Common.{refl, sym, ◌∙◌, ap, arith, append_assoc, take-append-drop, length-drop, ltb-true, ltb-false}
use Rattle.std.proofs.lemmas.List.{length-take, length-take-le, drop-drop, drop_more, drop_all, take-take}
use Rattle.std.proofs.lemmas.Bool.Decides.{nat_tests}
use Rattle.aw_spelling.proofs.NameCuts.{and_false as and_none}
use Rattle.aw_codec.specs.Bytes.{AreBytes}
use Rattle.aw_codec.proofs.Laws.{AreBytes-drop, AreBytes-take}
use Rattle.aw_disk.specs.Pages.{IsFile}
use Rattle.aw_journal.specs.Format.{whole, whole_of, u64_in, u64_bytes, record_of}
use Rattle.aw_journal.specs.Events.{Event, IsEvent, event_in, payload_of}
use Rattle.aw_journal.specs.Fronts.{IsFront, IsNoEvent}
use Rattle.aw_journal.specs.Scan.{FoundEvent}
use Rattle.aw_journal.specs.Standing.{begins_record}
use Rattle.aw_journal.proofs.Bytes.{whole_spelled}
use Rattle.aw_journal.proofs.Counts.{event_short}
use Rattle.aw_journal.proofs.Events.{event_taken}
use Rattle.aw_journal.proofs.Found.{whole_at, none_short}

-- behind a gate, open or not, where no whole record stands
no_record : (gate : ℕ) (rest : List ℕ) → whole rest ≡ None → begins_record (gate ∷ rest) ≡ false
no_record gate rest none = rw none (and_none (gate == 1))

pub shut_record : (gate : ℕ) (rest : List ℕ) → gate ≢ 1 → begins_record (gate ∷ rest) ≡ false
shut_record gate rest shut = grind (arith, nat_tests)

-- the payload of this length is no event
none_there : (n : ℕ) (behind : List ℕ) → (n < length behind → event_in (take n behind) ≡ None) → whole_of n behind ≡ None
none_there n behind bad = go (nat_lt n (length behind)) refl
  where
    go : (b : Bool) → nat_lt n (length behind) ≡ b → whole_of n behind ≡ None
    go true is = rw (is, bad (ltb-true _ _ is)) refl
    go false is = rw is refl

-- no event has a longer payload
long_none : (bytes : List ℕ) → AreBytes bytes → 1048577 < length bytes → event_in bytes ≡ None
long_none bytes fits long = go (event_in bytes) refl
  where
    go : (o : Option Event) → event_in bytes ≡ o → event_in bytes ≡ None
    go None is = is
    go (Some event) is =
        let taken = event_taken bytes event fits is in
        absurd (omega (arith, event_short event taken.1.1, ap length taken.0, long))

not_open : (file : List ℕ) (gate : ℕ) → gate < length file → get_or file gate 0 ≢ 1 → begins_record (drop gate file) ≡ false
not_open file gate within shut = ap begins_record (drop_more file gate 0 within) ∙ shut_record (get_or file gate 0) (drop (gate + 1) file) shut

not_whole : (file : List ℕ) (gate : ℕ) → gate < length file → whole (drop (gate + 1) file) ≡ None → begins_record (drop gate file) ≡ false
not_whole file gate within none = ap begins_record (drop_more file gate 0 within) ∙ no_record (get_or file gate 0) (drop (gate + 1) file) none

-- the file ends before the payload of a record could begin
pub no_room : (file : List ℕ) (gate : ℕ) → length file < gate + 9 → begins_record (drop gate file) ≡ false
no_room file gate short = go (nat_lt gate (length file)) refl
  where
    go : (b : Bool) → nat_lt gate (length file) ≡ b → begins_record (drop gate file) ≡ false
    go false is = ap begins_record (drop_all gate file (ltb-false _ _ is))
    go true is =
        let rest = drop (gate + 1) file in
        not_whole file gate (ltb-true _ _ is) (none_short rest (u64_in (take 8 rest)) refl (omega (arith, length-drop 8 rest, length-drop (gate + 1) file, short)))

-- the gate at a place, and the length behind it
module _ (file front : List ℕ) (gate : ℕ) (front_is : front ≡ take 9 (drop gate file)) where
  -- fewer bytes than those
  pub front_short : length front < 9 → begins_record (drop gate file) ≡ false
  front_short short = no_room file gate (omega (arith, ap length front_is, length-take 9 (drop gate file), length-drop gate file))

  module _ (long : 9 ≤ length front) where
    within : gate + 9 ≤ length file
    within = omega (arith, ap length front_is, length-take 9 (drop gate file), length-drop gate file)

    parts : front ≡ get_or file gate 0 ∷ take 8 (drop (gate + 1) file)
    parts = front_is ∙ ap (λ (l : List ℕ). take 9 l) (drop_more file gate 0 (omega (arith, within)))

    gate_is : get_or front 0 0 ≡ get_or file gate 0
    gate_is = ap (λ (l : List ℕ). get_or l 0 0) parts

    length_is : take 8 (drop 1 front) ≡ take 8 (drop (gate + 1) file)
    length_is = ap (λ (l : List ℕ). take 8 (drop 1 l)) parts ∙ take-take 8 8 (drop (gate + 1) file) (omega arith)

    pub front_shut : get_or front 0 0 ≢ 1 → begins_record (drop gate file) ≡ false
    front_shut shut = not_open file gate (omega (arith, within)) (λ is_open. shut (gate_is ∙ is_open))

    pub front_none : (n : ℕ) → n ≡ u64_in (take 8 (drop 1 front)) → length file ≤ gate + 9 + n → begins_record (drop gate file) ≡ false
    front_none n is past =
        let rest = drop (gate + 1) file in
        not_whole file gate (omega (arith, within)) (none_short rest n (is ∙ ap u64_in length_is) (omega (arith, length-drop 8 rest, length-drop (gate + 1) file, past)))

    pub front_long : (n : ℕ) → n ≡ u64_in (take 8 (drop 1 front)) → IsFile file → 1048577 < n → begins_record (drop gate file) ≡ false
    front_long n is fits large =
        let rest = drop (gate + 1) file in
        let behind = drop 8 rest in
        let bytes : AreBytes (take n behind) = AreBytes-take n behind (AreBytes-drop 8 rest (AreBytes-drop (gate + 1) file fits.are_bytes)) in
        not_whole file gate (omega (arith, within))
        (whole_at rest n (is ∙ ap u64_in length_is) ∙ none_there n behind (λ there. long_none (take n behind) bytes (omega (arith, length-take-le n behind (omega (arith, there)), large))))

    pub front_at : (n : ℕ) → n ≡ u64_in (take 8 (drop 1 front)) → u64_bytes n ≡ take 8 (drop 1 front) → get_or front 0 0 ≡ 1 → IsFront file gate n
    front_at n is bytes is_open = record {
      within = within;
      open_gate = sym gate_is ∙ is_open;
      bytes = bytes ∙ length_is;
      number = is ∙ ap u64_in length_is;
    }

-- an open gate and the length of a payload stand there, and these are the bytes behind them with one more
module _ (file asked : List ℕ) (gate n : ℕ) (front : IsFront file gate n) (asked_is : asked ≡ take (n + 1) (drop (gate + 9) file)) where
  behind_is : drop 8 (drop (gate + 1) file) ≡ drop (gate + 9) file
  behind_is = drop-drop 8 (gate + 1) file ∙ (let same : gate + 1 + 8 ≡ gate + 9 = omega arith in ap (λ (k : ℕ). drop k file) same)

  payload_is : take n asked ≡ take n (drop (gate + 9) file)
  payload_is = ap (λ (l : List ℕ). take n l) asked_is ∙ take-take n (n + 1) (drop (gate + 9) file) (omega arith)

  asked_long : n < length (drop (gate + 9) file) → n < length asked
  asked_long there = omega (arith, ap length asked_is, length-take (n + 1) (drop (gate + 9) file), there)

  there_long : n < length asked → gate + 9 + n < length file
  there_long there = omega (arith, ap length asked_is, length-take (n + 1) (drop (gate + 9) file), length-drop (gate + 9) file, there, front.within)

  -- no event stands there
  pub next_none : IsNoEvent asked n → begins_record (drop gate file) ≡ false
  next_none bad =
      let rest = drop (gate + 1) file in
      not_whole file gate (omega (arith, front.within))
      (whole_at rest n front.number ∙ ap (whole_of n) behind_is
      ∙ none_there n (drop (gate + 9) file) (λ there. ap event_in (sym payload_is) ∙ bad (asked_long there)))

  -- an event does
  pub next_event : (event : Event) → n < length asked → take n asked ≡ payload_of event → FoundEvent file gate (gate + 9 + n) event
  next_event event there is =
      let rest = drop (gate + 1) file in
      let behind = drop (gate + 9) file in
      let next = drop (gate + 9 + n) file in
      let long : length (payload_of event) ≡ n = ap length (sym is) ∙ length-take-le n asked (omega (arith, there)) in
      let here : drop gate file ≡ 1 ∷ rest = drop_more file gate 0 (omega (arith, front.within)) ∙ ap (λ (k : ℕ). k ∷ rest) front.open_gate in
      let back : behind ≡ payload_of event ++ next =
      sym (take-append-drop n behind) ∙ ap (λ (l : List ℕ). l ++ drop n behind) (sym payload_is ∙ is) ∙ ap (λ (l : List ℕ). payload_of event ++ l) (drop-drop n (gate + 9) file) in
      record {
        within = there_long there;
        parts = here ∙ ap (λ (l : List ℕ). 1 ∷ l)
            (sym (take-append-drop 8 rest) ∙ ap (λ (l : List ℕ). take 8 rest ++ l) (behind_is ∙ back) ∙ sym (append_assoc (take 8 rest) (payload_of event) next)
            ∙ ap (λ (l : List ℕ). (l ++ payload_of event) ++ next) (sym front.bytes ∙ ap u64_bytes (sym long)));
      }

-- a record that was found is one
pub begins_found : (file : List ℕ) (gate next : ℕ) (event : Event) → IsEvent event → FoundEvent file gate next event → begins_record (drop gate file) ≡ true
begins_found file gate next event good found =
    let tail = drop next file in
    let small : length (payload_of event) < 2 ^ 64 = omega (arith, event_short event good.1) in
    let is : whole (record_of event ++ tail) ≡ Some (event, 8 + length (payload_of event)) = whole_spelled event tail good small (omega (arith, length-drop next file, found.within)) in
    ap begins_record found.parts ∙ rw is refl
