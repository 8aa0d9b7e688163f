-- What is known of a file once it was read to its end.
use Rattle.std.proofs.Common.{◌≡◌, ℕ, zero, suc, ◌+◌, ◌-◌, ◌≤◌, Bool, true, false, cond, ◌&&◌, nat_lt, List, [], ◌∷◌, ◌++◌, length, drop, refl, ap, ◌∙◌, arith}
use Rattle.std.proofs.lemmas.Bool.Decides.{nat_tests}
use Rattle.std.proofs.lemmas.List.{length-append, length-drop}
use Rattle.aw_journal.specs.Events.{Event}
use Rattle.aw_journal.specs.Format.{has_head, events_of, events_from, record_of, records}
use Rattle.aw_journal.specs.Records.{IsBehind, Reached}
use Rattle.aw_journal.specs.Standing.{first_gate, has_whole_head, tail_of}

-- no record stands past the end of a file
none_past : (k : ℕ) (file : List ℕ) → length file ≤ k → events_from k file ≡ []
none_past k [] h = refl
none_past zero (b ∷ file) h = absurd (omega (arith, h))
none_past (suc k) (b ∷ file) h = none_past k file (omega (arith, h))

headed_events : (file : List ℕ) (headed : Bool) (within : Bool) → (within ≡ false → length file ≤ first_gate file) → (headed && within) ≡ false →
    cond headed (events_from (first_gate file) file) [] ≡ []
headed_events file false within past h = refl
headed_events file true within past h = none_past (first_gate file) file (past h)

not_below : (m n : ℕ) → nat_lt m n ≡ false → n ≤ m
not_below m n h = grind (arith, nat_tests)

-- a file without a whole head has no events
pub no_head-no_events : (file : List ℕ) → has_whole_head file ≡ false → events_of file ≡ []
no_head-no_events file h = headed_events file (has_head file) (nat_lt (first_gate file) (length file)) (not_below (first_gate file) (length file)) h

-- how many bytes stand before the last gate, and how many from there on
pub before_tail : (file : List ℕ) (gate : ℕ) → gate ≤ length file → tail_of file ≡ drop gate file → gate ≡ length file - length (tail_of file)
before_tail file gate within tail =
    let long : length (tail_of file) ≡ length file - gate = ap length tail ∙ length-drop gate file in omega arith

-- a record takes bytes
few : (events : List Event) → length events ≤ length (records events)
few [] = omega arith
few (e ∷ es) =
    let long : length (record_of e ++ records es) ≡ length (record_of e) + length (records es) = length-append (record_of e) (records es) in
    omega (arith, few es, long)

-- a gate stands past as many bytes as there are events before it
pub few_events : (file : List ℕ) (events : List Event) (r : Reached) → IsBehind file events r → length events ≤ r.gate
few_events file events r h =
    let parts : length (drop (first_gate file) file) ≡ length (records events ++ drop r.gate file) = ap length h.parts in
    let long = length-append (records events) (drop r.gate file) in
    omega (arith, parts, long, length-drop (first_gate file) file, length-drop r.gate file, h.place, few events)
