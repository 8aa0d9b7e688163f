-- The head at the front of a file.
use Rattle.std.specs.Prelude.{◌≡◌, ◌≢◌, ℕ, ◌+◌, ◌<◌, ◌≤◌, List, [], ◌∷◌, ◌++◌, Bool, true, false, ◌&&◌, length, take, drop, get_or, nat_lt, ◌==◌}
use Rattle.std.proofs.Common.{refl, sym, ◌∙◌, ap, arith, append_assoc, take-append-drop, lt-ltb}
use Rattle.std.proofs.lemmas.Bool.{le-ltb}
use Rattle.std.proofs.lemmas.Bool.Decides.{nat_tests}
use Rattle.std.proofs.lemmas.List.{length-take, length-take-le, drop-drop, drop-take, drop_more, take-take}
use Rattle.aw_journal.specs.Beginning.{Begins, IsHead, IsHeadFront}
use Rattle.aw_journal.specs.Format.{events_from, has_head, head, u16_bytes, u64_bytes, u64_in}
use Rattle.aw_journal.specs.Pieces.{Holds}
use Rattle.aw_journal.specs.Records.{reached}
use Rattle.aw_journal.specs.Standing.{first_gate, has_whole_head, tail_from}
use Rattle.aw_journal.specs.declared.beginning.Begun.TheVariants.{Whole, Headless}
use Rattle.aw_journal.specs.declared.pieces.Reader.{Reader}
use Rattle.aw_journal.proofs.Bytes.{events_behind, u64_in-take}
use Rattle.aw_journal.proofs.RecordSteps.{tail_behind}

-- the first gate has no place in the file
none_whole : (file : List ℕ) → length file ≤ first_gate file → has_whole_head file ≡ false
none_whole file past = none (has_head file) (nat_lt (first_gate file) (length file)) (le-ltb (first_gate file) (length file) past)
  where
    none : (a b : Bool) → b ≡ false → (a && b) ≡ false
    none true b is = is
    none false b is = refl

gate_is : (file : List ℕ) (n : ℕ) → n ≡ u64_in (take 8 (drop 3 file)) → first_gate file ≡ 11 + n
gate_is file n is = ap (λ (k : ℕ). 11 + k) (sym (is ∙ u64_in-take (drop 3 file)))

shut_head : (file : List ℕ) → get_or file 0 0 ≢ 1 → has_head file ≡ false
shut_head [] shut = refl
shut_head (gate ∷ []) shut = refl
shut_head (gate ∷ byte ∷ rest) shut = grind (arith, nat_tests)

open_head : (file : List ℕ) → 2 ≤ length file → get_or file 0 0 ≡ 1 → has_head file ≡ true
open_head [] long is = absurd (omega arith)
open_head (gate ∷ []) long is = absurd (omega arith)
open_head (gate ∷ byte ∷ rest) long is = ap (λ (g : ℕ). g == 1) is

-- the first bytes of the file
module _ (file front : List ℕ) (front_is : front ≡ take 11 file) where
  pub front_short : length front < 11 → has_whole_head file ≡ false
  front_short short = none_whole file (omega (arith, ap length front_is, length-take 11 file))

  module _ (long : 11 ≤ length front) where
    within : 11 ≤ length file
    within = omega (arith, ap length front_is, length-take 11 file)

    first_is : get_or front 0 0 ≡ get_or file 0 0
    first_is = ap (λ (l : List ℕ). get_or l 0 0) (front_is ∙ ap (λ (l : List ℕ). take 11 l) (drop_more file 0 0 (omega (arith, within))))

    number_is : take 8 (drop 3 front) ≡ take 8 (drop 3 file)
    number_is = ap (λ (l : List ℕ). take 8 (drop 3 l)) front_is ∙ ap (λ (l : List ℕ). take 8 l) (drop-take 3 8 file) ∙ take-take 8 8 (drop 3 file) (omega arith)

    role_is : take 2 (drop 1 front) ≡ take 2 (drop 1 file)
    role_is = ap (λ (l : List ℕ). take 2 (drop 1 l)) front_is ∙ ap (λ (l : List ℕ). take 2 l) (drop-take 1 10 file) ∙ take-take 2 10 (drop 1 file) (omega arith)

    pub front_shut : get_or front 0 0 ≢ 1 → has_whole_head file ≡ false
    front_shut shut = rw (shut_head file (λ is. shut (first_is ∙ is))) refl

    pub front_past : (n : ℕ) → n ≡ u64_in (take 8 (drop 3 front)) → length file ≤ 11 + n → has_whole_head file ≡ false
    front_past n is past = none_whole file (omega (arith, gate_is file n (is ∙ ap u64_in number_is), past))

    pub front_there : (role n : ℕ) → u16_bytes role ≡ take 2 (drop 1 front) → u64_bytes n ≡ take 8 (drop 3 front) → n ≡ u64_in (take 8 (drop 3 front)) → get_or front 0 0 ≡ 1 → IsHeadFront file role n
    front_there role n roles bytes number is_open = record {
      long = within;
      open_gate = sym first_is ∙ is_open;
      role_is = roles ∙ role_is;
      bytes = bytes ∙ number_is;
      number = number ∙ ap u64_in number_is;
    }

-- no byte stands behind the text
pub nothing_behind : (file : List ℕ) (role n : ℕ) → IsHeadFront file role n → length file ≤ 11 + n → has_whole_head file ≡ false
nothing_behind file role n front past = none_whole file (omega (arith, gate_is file n front.number, past))

pub head_whole : (file : List ℕ) (role n : ℕ) → IsHead file role n → has_whole_head file ≡ true
head_whole file role n h =
    let there : nat_lt (first_gate file) (length file) ≡ true = lt-ltb _ _ (omega (arith, gate_is file n h.front.number, h.within)) in
    rw (open_head file (omega (arith, h.front.long)) h.front.open_gate, there) refl

head_parts : (file : List ℕ) (role : ℕ) (text : List ℕ) → IsHead file role (length text) → text ≡ take (length text) (drop 11 file) → file ≡ 1 ∷ (head role text ++ drop (11 + length text) file)
head_parts file role text h is =
    let n = length text in
    let next = drop (11 + n) file in
    let back : drop 11 file ≡ text ++ next = sym (take-append-drop n (drop 11 file)) ∙ ap (λ (l : List ℕ). l ++ drop n (drop 11 file)) (sym is)
    ∙ ap (λ (l : List ℕ). text ++ l) (drop-drop n 11 file) in
    let counted : drop 3 file ≡ u64_bytes n ++ (text ++ next) =
    sym (take-append-drop 8 (drop 3 file)) ∙ ap (λ (l : List ℕ). l ++ drop 8 (drop 3 file)) (sym h.front.bytes) ∙ ap (λ (l : List ℕ). u64_bytes n ++ l) (drop-drop 8 3 file ∙ back) in
    let roles : drop 1 file ≡ u16_bytes role ++ (u64_bytes n ++ (text ++ next)) =
    sym (take-append-drop 2 (drop 1 file)) ∙ ap (λ (l : List ℕ). l ++ drop 2 (drop 1 file)) (sym h.front.role_is) ∙ ap (λ (l : List ℕ). u16_bytes role ++ l) (drop-drop 2 1 file ∙ counted) in
    drop_more file 0 0 (omega (arith, h.front.long)) ∙ ap (λ (g : ℕ). g ∷ drop 1 file) h.front.open_gate
    ∙ ap (λ (l : List ℕ). 1 ∷ l)
    (roles ∙ sym (append_assoc (u16_bytes role) (u64_bytes n ++ text) next ∙ ap (λ (l : List ℕ). u16_bytes role ++ l) (append_assoc (u64_bytes n) text next)))

events_past : (k : ℕ) (l : List ℕ) → k ≤ length l → events_from k l ≡ events_from 0 (drop k l)
events_past k l le = ap (events_from k) (sym (take-append-drop k l)) ∙ events_behind (take k l) (drop k l) k (sym (length-take-le k l le))

tail_past : (k : ℕ) (l : List ℕ) → k ≤ length l → tail_from k l ≡ tail_from 0 (drop k l)
tail_past k l le = ap (tail_from k) (sym (take-append-drop k l)) ∙ tail_behind (take k l) (drop k l) k (sym (length-take-le k l le))

-- a head that stands whole, and the reader behind it
pub begins_whole : (file : List ℕ) (role : ℕ) (text : List ℕ) (reader : Reader) → IsHead file role (length text) → text ≡ take (length text) (drop 11 file) → Holds file reader →
    Begins file (Whole role text (reached (record { headed = true; gate = 11 + length text; reader = reader })))
begins_whole file role text reader h is holds =
    let gate = gate_is file (length text) h.front.number in
    let there : first_gate file ≤ length file = omega (arith, gate, h.within) in
    let same : drop (first_gate file) file ≡ drop (11 + length text) file = ap (λ (k : ℕ). drop k file) gate in (
      head_parts file role text h is,
      record {
        own = record { below = holds.below; within = holds.within; same = holds.same };
        headed = refl;
        whole_head = head_whole file role (length text) h;
        place = h.within;
        all = tt;
        parts = same;
        rest = rw (open_head file (omega (arith, h.front.long)) h.front.open_gate) (events_past (first_gate file) file there ∙ ap (events_from 0) same);
        tail = rw (head_whole file role (length text) h) (tail_past (first_gate file) file there ∙ ap (tail_from 0) same);
      },
    )

-- no head stands whole, and the reader is at the front
pub begins_headless : (file : List ℕ) (reader : Reader) → has_whole_head file ≡ false → Holds file reader → Begins file (Headless (reached (record { headed = false; gate = 0; reader = reader })))
begins_headless file reader none holds = (
  none,
  record {
    own = record { below = holds.below; within = holds.within; same = holds.same };
    headed = sym none;
    place = omega arith;
    tail = rw none refl;
  },
)
