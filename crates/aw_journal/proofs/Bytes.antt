-- What files stand for.
use Rattle.std.specs.Prelude.{◌≡◌, ◌≢◌, ℕ, zero, suc, ◌+◌, ◌^◌, ◌<◌, List, [], ◌∷◌, ◌++◌, true, false, None, Some, length, take, drop, get_or, nat_lt}
use Rattle.std.specs.declared.option.Option.{Option}
use Rattle.std.specs.Int.{w64, from_be_bytes}
use Rattle.std.proofs.Common.{refl, sym, ◌∙◌, ap, arith, length-append, append_assoc}
use Rattle.std.proofs.lemmas.Bool.{lt-ltb}
use Rattle.std.proofs.lemmas.Bool.Decides.{nat_tests}
use Rattle.std.proofs.lemmas.Nat.{from_be_bytes-to_be_bytes_8, be_bytes_8}
use Rattle.std.proofs.lemmas.List.{take_at, drop_at}
use Rattle.aw_journal.proofs.Events.{event_in_payload}
use Rattle.aw_journal.specs.Format.{framed, whole_of, whole, then_more, events_from, has_head, events_of, head, record_of, records, front, u64_bytes, u64_in, u16_bytes}
use Rattle.aw_journal.specs.Events.{Event, IsEvent, AllEvents, event_in, payload_of}

pub length-u64_bytes : (n : ℕ) → length (u64_bytes n) ≡ 8
unfolding u64_bytes
length-u64_bytes n = refl

pub length-u16_bytes : (n : ℕ) → length (u16_bytes n) ≡ 2
unfolding u16_bytes
length-u16_bytes n = refl

pub u64_in-u64_bytes : (n : ℕ) (rest : List ℕ) → n < 2 ^ 64 → u64_in (u64_bytes n ++ rest) ≡ n
unfolding u64_bytes u64_in
u64_in-u64_bytes n rest fits = from_be_bytes-to_be_bytes_8 n fits

-- what stands before the gate is passed over
pub events_behind : (xs ys : List ℕ) (k : ℕ) → k ≡ length xs → events_from k (xs ++ ys) ≡ events_from 0 ys
events_behind [] ys zero is = refl
events_behind [] ys (suc k) is = absurd (omega arith)
events_behind (x ∷ xs) ys zero is = absurd (omega arith)
events_behind (x ∷ xs) ys (suc k) is = events_behind xs ys k (omega arith)

pub closed : (gate : ℕ) (rest : List ℕ) → gate ≢ 1 → events_from 0 (gate ∷ rest) ≡ []
closed gate rest shut = grind (arith, nat_tests)

pub whole_of_all : (n : ℕ) (payload : List ℕ) (event : Event) (tail : List ℕ) → length payload ≡ n → event_in payload ≡ Some event → 0 < length tail →
    whole_of n (payload ++ tail) ≡ Some (event, 8 + n)
whole_of_all n payload event tail size parsed more =
    let fits : nat_lt n (length (payload ++ tail)) ≡ true = lt-ltb _ _ (omega (arith, length-append payload tail)) in
    let cut : take n (payload ++ tail) ≡ payload = take_at payload tail n size in
    rw (fits, cut, parsed) refl

pub whole_spelled : (event : Event) (tail : List ℕ) → IsEvent event → length (payload_of event) < 2 ^ 64 → 0 < length tail →
    whole (record_of event ++ tail) ≡ Some (event, 8 + length (payload_of event))
whole_spelled event tail good fits more =
    let n = length (payload_of event) in
    let parts : record_of event ++ tail ≡ u64_bytes n ++ (payload_of event ++ tail) = append_assoc (u64_bytes n) (payload_of event) tail in
    ap whole parts
    ∙ ap (λ (k : ℕ). whole_of k (drop 8 (u64_bytes n ++ (payload_of event ++ tail)))) (u64_in-u64_bytes n (payload_of event ++ tail) fits)
    ∙ ap (λ (l : List ℕ). whole_of n l) (drop_at (u64_bytes n) (payload_of event ++ tail) 8 (length-u64_bytes n))
    ∙ whole_of_all n (payload_of event) event tail refl (event_in_payload event good) more

pub length-spelled : (event : Event) → length (record_of event) ≡ 8 + length (payload_of event)
length-spelled event = omega (arith, length-append (u64_bytes (length (payload_of event))) (payload_of event), length-u64_bytes (length (payload_of event)))

pub events_spelled : (event : Event) (tail : List ℕ) → IsEvent event → length (payload_of event) < 2 ^ 64 → 0 < length tail → events_from 0 (1 ∷ (record_of event ++ tail)) ≡ event ∷ events_from 0 tail
events_spelled event tail good fits more =
    ap (λ (o : Option (Event × ℕ)). then_more o (λ n. events_from n (record_of event ++ tail))) (whole_spelled event tail good fits more)
    ∙ ap (λ (es : List Event). event ∷ es) (events_behind (record_of event) tail (8 + length (payload_of event)) (sym (length-spelled event)))

-- a record whose payload is no event
pub whole_bad : (payload tail : List ℕ) → event_in payload ≡ None → length payload < 2 ^ 64 → 0 < length tail → whole (framed payload ++ tail) ≡ None
whole_bad payload tail bad fits more =
    let n = length payload in
    let parts : framed payload ++ tail ≡ u64_bytes n ++ (payload ++ tail) = append_assoc (u64_bytes n) payload tail in
    ap whole parts
    ∙ ap (λ (k : ℕ). whole_of k (drop 8 (u64_bytes n ++ (payload ++ tail)))) (u64_in-u64_bytes n (payload ++ tail) fits)
    ∙ ap (λ (l : List ℕ). whole_of n l) (drop_at (u64_bytes n) (payload ++ tail) 8 (length-u64_bytes n))
    ∙ whole_of_none n payload tail refl bad more
  where
    whole_of_none : (n : ℕ) (payload tail : List ℕ) → length payload ≡ n → event_in payload ≡ None → 0 < length tail → whole_of n (payload ++ tail) ≡ None
    whole_of_none n payload tail size none more =
        let fits : nat_lt n (length (payload ++ tail)) ≡ true = lt-ltb _ _ (omega (arith, length-append payload tail)) in
        let cut : take n (payload ++ tail) ≡ payload = take_at payload tail n size in
        rw (fits, cut, none) refl

pub all_push : (events : List Event) (event : Event) → AllEvents events → IsEvent event → AllEvents (events ++ event ∷ [])
all_push [] event all good = (good, tt)
all_push (first ∷ events) event all good = (all.0, all_push events event all.1 good)

pub length-records : (event : Event) (events : List Event) → length (records (event ∷ events)) ≡ 9 + length (payload_of event) + length (records events)
length-records event events = omega (arith, length-append (record_of event) (records events), length-spelled event)

pub events_records : (events : List Event) (tail : List ℕ) → AllEvents events → length (records events) < 2 ^ 64 → 0 < length tail →
    events_from 0 (records events ++ tail) ≡ events ++ events_from 0 tail
events_records [] tail all fits more = refl
events_records (event ∷ events) tail all fits more =
    let long = length-records event events in
    ap (λ (l : List ℕ). events_from 0 (1 ∷ l)) (append_assoc (record_of event) (records events) tail)
    ∙ events_spelled event (records events ++ tail) all.0 (omega (arith, long)) (omega (arith, length-append (records events) tail))
    ∙ ap (λ (es : List Event). event ∷ es) (events_records events tail all.1 (omega (arith, long)) more)

-- nothing counts without a head
pub headless : (file : List ℕ) → has_head file ≡ false → events_of file ≡ []
headless file none = rw none refl

pub length-head : (role : ℕ) (text : List ℕ) → length (head role text) ≡ 10 + length text
length-head role text = omega (
  arith,
  length-append (u16_bytes role) (u64_bytes (length text) ++ text),
  length-append (u64_bytes (length text)) text,
  length-u16_bytes role,
  length-u64_bytes (length text),
)

pub stands : (rest : List ℕ) → 0 < length rest → has_head (1 ∷ rest) ≡ true
stands [] more = absurd (omega arith)
stands (byte ∷ rest) more = refl

pub headed : (role : ℕ) (text rest : List ℕ) → length text < 2 ^ 64 → events_of (1 ∷ (head role text ++ rest)) ≡ events_from 0 rest
headed role text rest fits =
    let n = u64_in (drop 3 (1 ∷ (head role text ++ rest))) in
    let parts : head role text ++ rest ≡ u16_bytes role ++ (u64_bytes (length text) ++ (text ++ rest)) = append_assoc (u16_bytes role)
    (u64_bytes (length text) ++ text) rest ∙ ap (λ (l : List ℕ). u16_bytes role ++ l) (append_assoc (u64_bytes (length text)) text rest) in
    let behind : drop 2 (head role text ++ rest) ≡ u64_bytes (length text) ++ (text ++ rest) = ap (λ (l : List ℕ). drop 2 l) parts ∙ drop_at (u16_bytes role) _ 2 (length-u16_bytes role) in
    let size : n ≡ length text = ap u64_in behind ∙ u64_in-u64_bytes (length text) (text ++ rest) fits in
    let stands : has_head (1 ∷ (head role text ++ rest)) ≡ true = stands (head role text ++ rest) (omega (arith, length-append (head role text) rest, length-head role text)) in
    rw stands (events_behind (1 ∷ head role text) rest (11 + n) (omega (arith, length-head role text, size)))

-- a head, open records and a last part
pub events_front : (role : ℕ) (text : List ℕ) (events : List Event) (tail : List ℕ) → AllEvents events → length text < 2 ^ 64 →
    length (records events) < 2 ^ 64 → 0 < length tail → events_of (front role text events ++ tail) ≡ events ++ events_from 0 tail
events_front role text events tail all fits_text fits more =
    ap (λ (l : List ℕ). events_of (1 ∷ l)) (append_assoc (head role text) (records events) tail)
    ∙ headed role text (records events ++ tail) fits_text
    ∙ events_records events tail all fits more

pub u64_in-take : (rest : List ℕ) → u64_in (take 8 rest) ≡ u64_in rest
unfolding u64_in
u64_in-take [] = refl
u64_in-take (a ∷ []) = refl
u64_in-take (a ∷ b ∷ []) = refl
u64_in-take (a ∷ b ∷ c ∷ []) = refl
u64_in-take (a ∷ b ∷ c ∷ d ∷ []) = refl
u64_in-take (a ∷ b ∷ c ∷ d ∷ e ∷ []) = refl
u64_in-take (a ∷ b ∷ c ∷ d ∷ e ∷ f ∷ []) = refl
u64_in-take (a ∷ b ∷ c ∷ d ∷ e ∷ f ∷ g ∷ []) = refl
u64_in-take (a ∷ b ∷ c ∷ d ∷ e ∷ f ∷ g ∷ h ∷ rest) = refl

-- the bytes of a number have one spelling
pub u64_bytes-u64_in : (long : List ℕ) → length long ≡ 8 → ((i : ℕ) → get_or long i 0 < 256) → u64_bytes (u64_in long) ≡ long
unfolding u64_bytes u64_in
u64_bytes-u64_in long eight bytes = be_bytes_8 long (from_be_bytes w64 long) eight bytes refl
