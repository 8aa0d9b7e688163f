-- Files without a head, and ones with one.
use Rattle.std.specs.Prelude.{◌≡◌, ◌≢◌, ℕ, ◌+◌, ◌-◌, ◌^◌, ◌<◌, ◌≤◌, List, [], ◌∷◌, ◌++◌, Bool, IsTrue, true, false, None, Some, length, take, drop, get_or, if◌then◌else◌, nat_lt, ◌==◌}
use Rattle.std.specs.declared.option.Option.{Option}
use Rattle.std.proofs.Common.{inl, inr, refl, sym, ◌∙◌, ap, subst, arith, length-append, append_assoc, append-nil, length-drop}
use Rattle.std.proofs.lemmas.Bool.{cases_eq, false≢true, ltb-true, ltb-false, lt-ltb}
use Rattle.std.proofs.lemmas.Bool.Decides.{nat_tests}
use Rattle.std.proofs.lemmas.List.{drop_more, length-take, take-take, drop-take, drop_all, drop_at}
use Rattle.aw_journal.specs.Format.{has_head, head, front, records, events_of, events_from, whole, whole_of, with_length, then_more, u64_in}
use Rattle.aw_journal.specs.Events.{Event, AllEvents, event_in}
use Rattle.aw_journal.specs.declared.payload.NodeEvent.{NodeEvent}
use Rattle.aw_journal.proofs.Bytes.{headless, events_front, length-head, u64_in-take, closed}
use Rattle.aw_journal.specs.Journal.{StandsAt, IsSettled, IsAround, behind_gate, Kept}
use Rattle.aw_journal.specs.Openings.{Resumed}
use Rattle.aw_journal.specs.Opens.{HasEvents, IsEnded, HasThisHead}
use Rattle.aw_journal.specs.Scan.{FoundAll}
use Rattle.aw_journal.proofs.Found.{no_more, of_short}
use Rattle.aw_journal.proofs.Appends.{behind_own_head, length-front, rests}

pub headless_shut : (gate : ℕ) (tail : List ℕ) → gate ≢ 1 → has_head (gate ∷ tail) ≡ false
headless_shut gate [] shut = refl
headless_shut gate (byte ∷ tail) shut = grind (arith, nat_tests)

-- a head with no records
pub front_none : (role : ℕ) (text tail : List ℕ) → front role text [] ++ tail ≡ 1 ∷ (head role text ++ tail)
front_none role text tail = ap (λ (l : List ℕ). 1 ∷ (l ++ tail)) (append-nil (head role text))

-- a file without a head
pub no_events : (role : ℕ) (text file : List ℕ) → has_head file ≡ false → HasEvents role text [] file
no_events role text file none = record { events_are = headless file none; no_other_head = λ foreign. false≢true (sym none ∙ foreign.0) }

-- while a head is written behind a closed gate, which is then opened
pub around_head : (role : ℕ) (text rest c : List ℕ) (shut : ℕ) → length (front role text []) < 2 ^ 64 → shut ≢ 1 →
    IsAround [] shut (behind_gate (head role text ++ 0 ∷ []) rest) c → HasEvents role text [] c
around_head role text rest c shut fits closed_gate (inl p) = no_events role text c (ap has_head p.1 ∙ headless_shut shut p.0 closed_gate)
around_head role text rest c shut fits closed_gate (inr p) = elim (cases_eq p.0 1) [
  | inl is_open ↦ rests role text [] tt fits c (drop (length (head role text ++ 0 ∷ [])) rest) 0 (omega arith)
      (p.1 ∙ ap (λ (gate : ℕ). gate ∷ behind_gate (head role text ++ 0 ∷ []) rest) is_open ∙ ap (λ (l : List ℕ). 1 ∷ l)
      (append_assoc (head role text) (0 ∷ []) (drop (length (head role text ++ 0 ∷ [])) rest))
      ∙ sym (front_none role text (0 ∷ drop (length (head role text ++ 0 ∷ [])) rest)))
  | inr still ↦ no_events role text c (ap has_head p.1 ∙ headless_shut p.0 _ still)
]

module _ {D : Type 0} (tells : D → Bool) (seen : D → List ℕ) (may_leave : D → List ℕ → Type 0) where
  pub settled_head : (disk : D) (role limit : ℕ) (text rest : List ℕ) → StandsAt tells seen may_leave disk 0 []
      (behind_gate (head role text ++ 0 ∷ []) rest) 1 → IsSettled seen may_leave disk
      (record { role = role; text = text; events = []; limit = limit; usable = true })
  settled_head disk role limit text rest stands = record {
    file = record {
      gate = 0;
      rest = drop (length (head role text ++ 0 ∷ [])) rest;
      shut = omega arith;
      is = stands.is ∙ ap (λ (l : List ℕ). 1 ∷ l) (append_assoc (head role text) (0 ∷ []) (drop (length (head role text ++ 0 ∷ [])) rest))
          ∙ sym (front_none role text (0 ∷ drop (length (head role text ++ 0 ∷ [])) rest));
    };
    durable = stands.durable;
  }

-- nor is a record whole in the front of what has none
of_front : (n m : ℕ) (behind : List ℕ) → whole_of n behind ≡ None → whole_of n (take m behind) ≡ None
of_front n m behind none = go (nat_lt n (length (take m behind))) refl
  where
    go : (b : Bool) → nat_lt n (length (take m behind)) ≡ b → whole_of n (take m behind) ≡ None
    go false is = rw is refl
    go true is =
        let lt : n < length (take m behind) = ltb-true _ _ is in
        let size = length-take m behind in
        let small : n ≤ m = omega arith in
        let inside : nat_lt n (length behind) ≡ true = lt-ltb _ _ (omega arith) in
        let bad : with_length n (event_in (take n behind)) ≡ None = rw inside at none in
        rw (is, take-take n m behind small) bad

pub whole_front : (k : ℕ) (rest : List ℕ) → whole rest ≡ None → whole (take k rest) ≡ None
whole_front k rest none = go (nat_lt k 8) refl
  where
    go : (b : Bool) → nat_lt k 8 ≡ b → whole (take k rest) ≡ None
    go true is =
        let lt : k < 8 = ltb-true _ _ is in
        ap (λ (l : List ℕ). whole_of (u64_in (take k rest)) l) (drop_all 8 (take k rest) (omega (arith, length-take k rest))) ∙ of_short (u64_in (take k rest)) [] (omega arith)
    go false is =
        let le : 8 ≤ k = ltb-false _ _ is in
        let j = k - 8 in
        let sum : k ≡ 8 + j = omega arith in
        let number : u64_in (take k rest) ≡ u64_in rest = sym (u64_in-take (take k rest)) ∙ ap u64_in (take-take 8 k rest le) ∙ u64_in-take rest in
        let behind : drop 8 (take k rest) ≡ take j (drop 8 rest) = ap (λ (n : ℕ). drop 8 (take n rest)) sum ∙ drop-take 8 j rest in
        ap (λ (n : ℕ). whole_of n (drop 8 (take k rest))) number ∙ ap (λ (l : List ℕ). whole_of (u64_in rest) l) behind ∙ of_front (u64_in rest) j (drop 8 rest) none

none_of : (o : Option (Event × ℕ)) (more : ℕ → List Event) → then_more o more ≡ [] → o ≡ None
none_of None more is = refl
none_of (Some first) more is = cc

clash : (gate : ℕ) → gate ≢ 1 → IsTrue (gate == 1) → ⊥
clash gate shut is = grind (arith, nat_tests)

-- while what lies past the last gate is cut off
pub ended_events : (role : ℕ) (text rest c : List ℕ) (events : List Event) (gate : ℕ) → AllEvents events → length (front role text events) < 2 ^ 64 →
    events_from 0 (gate ∷ rest) ≡ [] → IsEnded (front role text events) rest gate (gate == 1) c → HasEvents role text events c
ended_events role text rest c events gate all fits none left =
    let long = length-front role text events in
    behind_own_head role text c (take left.1 rest) events events left.0 left.2 (ap events_of left.2 ∙ events_front role text events
    (left.0 ∷ take left.1 rest) all (omega (arith, long)) (omega (arith, long)) (omega arith) ∙ ap (λ (es : List Event). events ++ es)
    behind ∙ append-nil events)
  where
    behind : events_from 0 (left.0 ∷ take left.1 rest) ≡ []
    behind = elim (cases_eq gate 1) [
      | inl is_open ↦ no_more left.0 (take left.1 rest) (whole_front left.1 rest (none_of (whole rest) (λ n. events_from n rest) (subst (λ (g : ℕ). events_from 0 (g ∷ rest) ≡ []) is_open none)))
      | inr still ↦ elim left.3 [
        | inl same ↦ ap (λ (g : ℕ). events_from 0 (g ∷ take left.1 rest)) same ∙ closed gate (take left.1 rest) still
        | inr is_open ↦ absurd (clash gate still is_open)
      ]
    ]

-- a file with this head, whose records were found
pub resumed : (role : ℕ) (text bytes : List ℕ) (from gate : ℕ) (events : List Event) → HasThisHead role text bytes → from ≡ 11 + length text →
    gate < 2 ^ 64 → AllEvents events → FoundAll bytes from gate events → Resumed role text bytes gate events
resumed role text bytes from gate events has is small all found =
    let h = 1 ∷ head role text in
    let long_head : length h ≡ 11 + length text = omega (arith, length-head role text) in
    let back : drop from bytes ≡ has.0 ∷ has.1 = ap (λ (l : List ℕ). drop from l) has.2 ∙ drop_at h (has.0 ∷ has.1) from (long_head ∙ sym is) in
    let parts : bytes ≡ front role text events ++ drop gate bytes =
    has.2 ∙ ap (λ (l : List ℕ). h ++ l) (sym back ∙ found.parts) ∙ sym (append_assoc h (records events) (drop gate bytes)) in
    let here : drop gate bytes ≡ get_or bytes gate 0 ∷ drop (gate + 1) bytes = drop_more bytes gate 0 found.within in
    let place : gate ≡ length (front role text events) = omega (arith, ap length parts, length-append (front role text events) (drop gate bytes), length-drop gate bytes, found.within) in
    let long = length-front role text events in
    record {
      own = has;
      within = found.within;
      place = place;
      is = parts ∙ ap (λ (l : List ℕ). front role text events ++ l) here;
      none = ap (events_from 0) (sym here) ∙ found.no_more;
      events_are = ap events_of parts ∙ events_front role text events (drop gate bytes) all (omega (arith, long, place, small))
          (omega (arith, long, place, small)) (omega (arith, length-drop gate bytes, found.within))
          ∙ ap (λ (es : List Event). events ++ es) found.no_more ∙ append-nil events;
      fits = omega (arith, place, small);
      all = all;
    }

pub shut_after : (gate : ℕ) → (if gate == 1 then 0 else gate) ≢ 1
shut_after gate is = grind (arith, nat_tests)

pub as_made : (j : Kept) (role limit : ℕ) (text given : List ℕ) (events had : List NodeEvent) → j ≡ record {
  role = role;
  text = given;
  events =
      had;
  limit = limit;
  usable = true;
} → given ≡ text → had ≡ events → j ≡ record { role = role; text = text; events = events; limit = limit; usable = true }
as_made j role limit text given events had is same_text same_events = cc
