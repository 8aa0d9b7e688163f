-- Seeking a record among bytes, and how a tail stands.
use Rattle.std.specs.Prelude.{◌≡◌, ◌≢◌, ℕ, zero, suc, ◌+◌, ◌<◌, ◌≤◌, List, [], ◌∷◌, Bool, true, false, None, Some, length, take, drop, get_or, MatchOption, ◌==◌, Result, Ok, Err, IfOk, if◌then◌else◌}
use Rattle.std.specs.declared.option.Option.{Option}
use Rattle.std.proofs.Common.{refl, sym, ◌∙◌, ap, arith}
use Rattle.std.proofs.lemmas.List.{drop-drop, drop_all, get_or-take}
use Rattle.memchr.specs.Find.{IsFirstByte, is_byte}
use Rattle.aw_journal.specs.Standing.{begins_record, by_tail, has_record, has_whole_head, headless, standing_by, tail_of}
use Rattle.aw_journal.specs.declared.pieces.ReadFault.{ReadFault}
use Rattle.aw_journal.specs.declared.records.Ending.{Ending}
use Rattle.aw_journal.specs.declared.standing.Standing.{Standing}
use Rattle.aw_journal.specs.declared.standing.Standing.TheVariants.{Damaged}
use Rattle.aw_journal.proofs.Fronts.{shut_record}

-- no record begins at a byte that is no open gate
passed : (byte : ℕ) (rest : List ℕ) → byte ≢ 1 → has_record (byte ∷ rest) ≡ has_record rest
passed byte rest shut = rw (shut_record byte rest shut) refl

-- nor among such bytes
pub passed_over : (k : ℕ) (l : List ℕ) → ((i : ℕ) → i < k → get_or l i 0 ≢ 1) → has_record l ≡ has_record (drop k l)
passed_over zero l shut = refl
passed_over (suc k) [] shut = refl
passed_over (suc k) (byte ∷ rest) shut = passed byte rest (shut 0 (omega arith)) ∙ passed_over k rest (λ i lt. shut (suc i) (omega (arith, lt)))

-- and where none begins it is further on
pub begun_later : (file : List ℕ) (place : ℕ) → begins_record (drop place file) ≡ false → has_record (drop place file) ≡ has_record (drop (place + 1) file)
begun_later file place none = later (drop place file) none ∙ ap has_record (drop-drop 1 place file)
  where
    later : (l : List ℕ) → begins_record l ≡ false → has_record l ≡ has_record (drop 1 l)
    later [] is = refl
    later (byte ∷ rest) is = rw is refl

-- nothing is there behind the end
pub none_past : (file : List ℕ) (place : ℕ) → length file ≤ place → has_record (drop place file) ≡ false
none_past file place past = ap has_record (drop_all place file past)

-- where a search found none
pub not_found : (r : Option ℕ) (A : Type 0) (B : ℕ → Type 0) → ((k : ℕ) → r ≡ Some k → ⊥) → MatchOption r A B → A
not_found None A B none h = h
not_found (Some k) A B none h = absurd (none k refl)

-- what a search among so many bytes of a file finds
pub found_held : (file piece : List ℕ) (place n : ℕ) (r : Option ℕ) → piece ≡ take n (drop place file) → n ≡ length piece → IsFirstByte (is_byte 1) piece r →
    MatchOption r (has_record (drop place file) ≡ has_record (drop (place + n) file)) (λ k. (k < n) × (has_record (drop place file) ≡ has_record (drop (place + k) file)))
found_held file piece place n r is long first = by_answer r first
  where
    same_byte : (i : ℕ) → i < n → get_or piece i 0 ≡ get_or (drop place file) i 0
    same_byte i lt = ap (λ (l : List ℕ). get_or l i 0) is ∙ get_or-take n (drop place file) i 0 lt

    none_up_to : (k : ℕ) → k ≤ n → ((i : ℕ) → i < k → (get_or piece i 0 == 1) ≡ true → ⊥) → has_record (drop place file) ≡ has_record (drop (place + k) file)
    none_up_to k le none =
        passed_over k (drop place file) (λ i lt one. none i lt (is_one (get_or piece i 0) (same_byte i (omega (arith, lt, le)) ∙ one)))
        ∙ ap has_record (drop-drop k place file)
      where
        is_one : (b : ℕ) → b ≡ 1 → (b == 1) ≡ true
        is_one b e = ap (λ (x : ℕ). x == 1) e

    by_answer : (r : Option ℕ) → IsFirstByte (is_byte 1) piece r →
        MatchOption r (has_record (drop place file) ≡ has_record (drop (place + n) file)) (λ k. (k < n) × (has_record (drop place file) ≡ has_record (drop (place + k) file)))
    by_answer None h = none_up_to n (omega arith) (λ i lt one. h i (omega arith) (omega (arith, lt, long)) one)
    by_answer (Some k) h =
        let high : k < n = omega (arith, h.0.high, long) in
        (high, none_up_to k (omega (arith, high)) (λ i lt one. h.0.before i (omega arith) lt one))

-- ---- how a file stands

abbrev made : Standing → ℕ → Ending
made s n = record { standing = s; tail = n }

-- a file whose tail is this, behind a head or with none
abbrev ending : List ℕ → Bool → Ending
ending tail headed = made (standing_by tail headed) (length tail)

-- a record begins in the tail, or its end tells
pub ending_is : (tail : List ℕ) (headed : Bool) (s : Standing) (damaged : Bool) (n : ℕ) → damaged ≡ has_record tail →
    s ≡ (if damaged then Damaged else (if headed then by_tail tail else headless tail)) → n ≡ length tail →
    made s n ≡ ending tail headed
ending_is tail headed s damaged n found is long =
    ap (λ (x : Standing). made x n) (is ∙ ap (λ (b : Bool). if b then Damaged else (if headed then by_tail tail else headless tail)) found) ∙ ap (λ (k : ℕ). made (standing_by tail headed) k) long

-- the tail is that of the file, and so is the head
pub ending_of : (file tail : List ℕ) (headed : Bool) (result : Result Ending ReadFault) → tail_of file ≡ tail → headed ≡ has_whole_head file → IfOk result (λ e. e ≡ ending tail headed) →
    IfOk result (λ e. e ≡ ending (tail_of file) (has_whole_head file))
ending_of file tail headed (Ok e) is whole h = h ∙ ap (λ (t : List ℕ). ending t headed) (sym is) ∙ ap (λ (b : Bool). ending (tail_of file) b) whole
ending_of file tail headed (Err e) is whole h = tt
