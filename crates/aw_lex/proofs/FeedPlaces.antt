-- Where the first line feed stands.
use Rattle.std.proofs.Common.{◌≡◌, ℕ, ◌<◌, refl, sym, ◌∙◌, ap, Bool, true, false, ◌==◌, List, length, arith, Option, None, Some, cond, nat_lt, position, IfSome}
use Rattle.std.proofs.lemmas.Bool.{lt-ltb, le-ltb}
use Rattle.std.proofs.lemmas.List.Sums.{position_or_len_is}
use Rattle.std.specs.List.{position_or_len}
use Rattle.memchr.specs.Find.{IsFirstByte, is_byte}

abbrev is_feed : ℕ → Bool
is_feed b = b == 10

-- no byte before this place is a line feed
fails : (t : Bool) → ¬ (t ≡ true) → t ≡ false
fails true h = absurd (h refl)
fails false h = refl

abbrev if_below : ℕ → ℕ → Option ℕ
if_below k n = cond (nat_lt k n) (Some k) None

pub feed_place : (text : List ℕ) (r : Option ℕ) → IsFirstByte (is_byte 10) text r → r ≡ position (λ b. b == 10) text
feed_place text None h =
    let end : position_or_len is_feed text ≡ length text =
    position_or_len_is is_feed text (length text) 0 (omega arith) (λ k below. fails _ (h k (omega arith) below)) (λ past. absurd (omega (arith, past))) in
    sym (ap (λ k. if_below k (length text)) end ∙ ap (λ t. cond t (Some (length text)) None) (le-ltb (length text) (length text) (omega arith)))
feed_place text (Some k) h =
    let first = h.0 in
    let place : position_or_len is_feed text ≡ k =
    position_or_len_is is_feed text k 0 (omega (arith, first.high)) (λ j below. fails _ (first.before j (omega arith) below)) (λ within. h.1) in
    sym (ap (λ j. if_below j (length text)) place ∙ ap (λ t. cond t (Some k) None) (lt-ltb k (length text) first.high))

pub feed_within : (text : List ℕ) (r : Option ℕ) → IsFirstByte (is_byte 10) text r → IfSome r (λ at. at < length text)
feed_within text None h = tt
feed_within text (Some k) h = h.0.high
