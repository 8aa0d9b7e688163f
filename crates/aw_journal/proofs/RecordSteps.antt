-- From one record of a file to the next, and to the last.
use Rattle.std.specs.Prelude.{◌≡◌, ℕ, zero, suc, ◌+◌, ◌^◌, ◌<◌, List, [], ◌∷◌, ◌++◌, Bool, true, false, ◌&&◌, is_some, None, Some, length, drop, if◌then◌else◌, ◌==◌}
use Rattle.std.specs.declared.option.Option.{Option}
use Rattle.std.proofs.Common.{refl, sym, ◌∙◌, ap, arith, append_assoc, append-nil, length-drop}
use Rattle.aw_journal.specs.Format.{events_from, events_of, then_more, record_of, records, whole}
use Rattle.aw_journal.specs.Events.{Event, IsEvent, payload_of}
use Rattle.aw_journal.specs.Records.{Reached, IsOf, IsBehind, IsAtEnd}
use Rattle.aw_journal.specs.Scan.{FoundEvent}
use Rattle.aw_journal.specs.Standing.{begins_record, or_behind, tail_from}
use Rattle.aw_journal.proofs.Bytes.{all_push, events_spelled, length-spelled, whole_spelled}
use Rattle.aw_journal.proofs.Counts.{event_short}
use Rattle.aw_journal.proofs.Found.{found_push}

-- where no record begins nothing counts any more
ended_by : (open_gate : Bool) (o : Option (Event × ℕ)) (more : ℕ → List Event) (here : List ℕ) (behind : ℕ → List ℕ) → (open_gate && is_some o) ≡ false →
    ((if open_gate then then_more o more else []) ≡ []) × ((if open_gate then or_behind here o behind else here) ≡ here)
ended_by false o more here behind none = (refl, refl)
ended_by true None more here behind none = (refl, refl)
ended_by true (Some first) more here behind none = absurd cc

pub ended : (l : List ℕ) → begins_record l ≡ false → (events_from 0 l ≡ []) × (tail_from 0 l ≡ l)
ended [] none = (refl, refl)
ended (gate ∷ rest) none = ended_by (gate == 1) (whole rest) (λ n. events_from n rest) (gate ∷ rest) (λ n. tail_from n rest) none

-- what stands before the gate is passed over
pub tail_behind : (xs ys : List ℕ) (k : ℕ) → k ≡ length xs → tail_from k (xs ++ ys) ≡ tail_from 0 ys
tail_behind [] ys zero is = refl
tail_behind [] ys (suc k) is = absurd (omega arith)
tail_behind (x ∷ xs) ys zero is = absurd (omega arith)
tail_behind (x ∷ xs) ys (suc k) is = tail_behind xs ys k (omega arith)

tail_spelled : (event : Event) (tail : List ℕ) → IsEvent event → length (payload_of event) < 2 ^ 64 → 0 < length tail → tail_from 0 (1 ∷ (record_of event ++ tail)) ≡ tail_from 0 tail
tail_spelled event tail good fits more =
    ap (λ (o : Option (Event × ℕ)). or_behind (1 ∷ (record_of event ++ tail)) o (λ n. tail_from n (record_of event ++ tail))) (whole_spelled event tail good fits more)
    ∙ tail_behind (record_of event) tail (8 + length (payload_of event)) (sym (length-spelled event))

module _ (file : List ℕ) (events : List Event) (r s : Reached) (before : IsBehind file events r) (own : IsOf file s) (headed : s.headed ≡ r.headed) where
  -- a record was read
  pub behind_next : (event : Event) → IsEvent event → FoundEvent file r.gate s.gate event → IsBehind file (events ++ event ∷ []) s
  behind_next event good found =
      let next = drop s.gate file in
      let small : length (payload_of event) < 2 ^ 64 = omega (arith, event_short event good.1) in
      let more : 0 < length next = omega (arith, length-drop s.gate file, found.within) in
      record {
        own = own;
        headed = headed ∙ before.headed;
        whole_head = before.whole_head;
        place = found.within;
        all = all_push events event before.all good;
        parts = found_push _ (drop r.gate file) next events event before.parts found.parts;
        rest = before.rest ∙ ap (λ (es : List Event). events ++ es) (ap (events_from 0) found.parts ∙ events_spelled event next good small more)
            ∙ sym (append_assoc events (event ∷ []) (events_from 0 next));
        tail = before.tail ∙ ap (tail_from 0) found.parts ∙ tail_spelled event next good small more;
      }

  -- none was there
  pub behind_end : s.gate ≡ r.gate → begins_record (drop r.gate file) ≡ false → IsBehind file events s × IsAtEnd file s × (events_of file ≡ events)
  behind_end same none =
      let last = ended (drop r.gate file) none in
      let gate : drop s.gate file ≡ drop r.gate file = ap (λ (k : ℕ). drop k file) same in (
        record {
          own = own;
          headed = headed ∙ before.headed;
          whole_head = before.whole_head;
          place = omega (arith, same, before.place);
          all = before.all;
          parts = before.parts ∙ ap (λ (l : List ℕ). records events ++ l) (sym gate);
          rest = before.rest ∙ ap (λ (l : List ℕ). events ++ events_from 0 l) (sym gate);
          tail = before.tail ∙ ap (tail_from 0) (sym gate);
        },
        record {
          own = own;
          headed = headed ∙ before.headed ∙ sym before.whole_head;
          place = omega (arith, same, before.place);
          tail = before.tail ∙ last.1 ∙ sym gate;
        },
        before.rest ∙ ap (λ (es : List Event). events ++ es) last.0 ∙ append-nil events,
      )
