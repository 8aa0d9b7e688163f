-- Reading digits, where a number that is too large stays too large.
use Rattle.std.proofs.Common.{◌≡◌, ℕ, ◌+◌, ◌-◌, ◌*◌, ◌^◌, ◌≤◌, ◌<◌, ◌∙◌, ap, List, [], ◌∷◌, drop, length, get_or, arith, Some, None, is_some, Bool}
use Rattle.std.proofs.Common.{true, false, refl, nat_le, rules, zero, suc, cond, not, ◌==◌, ◌&&◌}
use Rattle.std.proofs.Math.Nat.{mul-le-mul_right, mul_assoc}
use Rattle.std.proofs.lemmas.Bool.{and_parts}
use Rattle.std.proofs.lemmas.Bool.Decides.{nat_tests}
use Rattle.std.proofs.lemmas.Grind.{common_steps}
use Rattle.std.proofs.lemmas.Str.Parse.{IsNumeralModel, numerals_by_fold}
use Rattle.std.proofs.lemmas.Fmt.{decimal_digit, first_decimal, digits_decimal, digits_value-decimal}
use Rattle.std.specs.List.{list_all}
use Rattle.std.specs.Fmt.{decimal}
use Rattle.aw_spelling.specs.Spelling.{value_after, if_word, is_digit, is_numeral, number_of}

pub le_value_after : (n : ℕ) (ds : List ℕ) → n ≤ value_after n ds
le_value_after n [] = omega arith
le_value_after n (d ∷ ds) = omega (arith, le_value_after (n * 10 + (d - 48)) ds)

pub no_word_above : (n m : ℕ) → if_word n ≡ None → n ≤ m → if_word m ≡ None
no_word_above n m e h = grind (arith, nat_tests)

pub word_below : (n : ℕ) → n < 2 ^ 64 → if_word n ≡ Some n
word_below n h = grind (arith, nat_tests)

pub value_at_end : (n i : ℕ) (ds : List ℕ) → length ds ≤ i → value_after n (drop i ds) ≡ n
value_at_end n i ds h = grind (arith, common_steps)

pub value_one_more : (n i : ℕ) (ds : List ℕ) → i < length ds → value_after (n * 10 + (get_or ds i 0 - 48)) (drop (i + 1) ds) ≡ value_after n (drop i ds)
value_one_more n i ds h = grind (arith, common_steps)

-- What is printed is read again.
own : IsNumeralModel (λ ds. list_all is_digit ds ≡ true) (value_after 0)
own = numerals_by_fold _ (search rules) value_after (search rules)

above_zero : (d : ℕ) → 48 < d → not (d == 48) ≡ true
above_zero d h = grind (arith, nat_tests)

numeral_when : (ds : List ℕ) → list_all is_digit ds ≡ true → 48 < get_or ds 0 0 → is_numeral ds ≡ true
numeral_when [] e h = absurd (omega arith)
numeral_when (d ∷ []) e h = (and_parts (is_digit d) true e).0
numeral_when (d ∷ e ∷ ds) t h = ap (λ x. x && list_all is_digit (d ∷ e ∷ ds)) (above_zero d h) ∙ t

numeral_again : (n : ℕ) → n < 2 ^ 64 → is_numeral (decimal n) ≡ true
numeral_again zero h = ap is_numeral (decimal_digit 0 (omega arith))
numeral_again (suc n) h = numeral_when (decimal (suc n)) (digits_decimal own (suc n) h) (first_decimal (suc n) (omega arith) h)

pub number_again : (n : ℕ) → n < 2 ^ 64 → number_of (decimal n) ≡ Some n
number_again n h =
    ap (λ t. cond t (if_word (value_after 0 (decimal n))) None) (numeral_again n h)
    ∙ ap if_word (digits_value-decimal own n h) ∙ word_below n h

pub decimal_digits : (n : ℕ) → n < 2 ^ 64 → list_all is_digit (decimal n) ≡ true
decimal_digits n h = digits_decimal own n h

-- Nineteen digits write a number below 2 ^ 64.
pub numeral_digits : (bs : List ℕ) → is_numeral bs ≡ true → list_all is_digit bs ≡ true
numeral_digits [] h = absurd cc
numeral_digits (d ∷ []) h = ap (λ t. t && true) h
numeral_digits (d ∷ e ∷ ds) h = (and_parts (not (d == 48)) (list_all is_digit (d ∷ e ∷ ds)) h).1

abbrev power : ℕ → ℕ
power zero = 1
power (suc k) = 10 * power k

some_power : (k : ℕ) → 1 ≤ power k
some_power zero = omega arith
some_power (suc k) = omega (arith, some_power k)

power_up : (k m : ℕ) → k ≤ m → power k ≤ power m
power_up zero m h = some_power m
power_up (suc k) zero h = absurd (omega arith)
power_up (suc k) (suc m) h = omega (arith, power_up k m (omega arith))

digit_most : (d : ℕ) → is_digit d ≡ true → d ≤ 57
digit_most d h = let high = (and_parts (nat_le 48 d) (nat_le d 57) h).1 in grind (arith, nat_tests)

value_most : (n : ℕ) (ds : List ℕ) → list_all is_digit ds ≡ true → value_after n ds + 1 ≤ (n + 1) * power (length ds)
value_most n [] h = omega arith
value_most n (d ∷ ds) h =
    let each = and_parts (is_digit d) (list_all is_digit ds) h in
    let high : d ≤ 57 = digit_most d each.0 in
    let next : ℕ = n * 10 + (d - 48) in
    let p : ℕ = power (length ds) in
    let more : value_after next ds + 1 ≤ (next + 1) * p = value_most next ds each.1 in
    let up : (next + 1) * p ≤ ((n + 1) * 10) * p = mul-le-mul_right p (omega (arith, high)) in
    let same : ((n + 1) * 10) * p ≡ (n + 1) * (10 * p) = mul_assoc (n + 1) 10 p in
    omega (arith, more, up, same)

short_word : (ds : List ℕ) → list_all is_digit ds ≡ true → length ds ≤ 19 → value_after 0 ds < 2 ^ 64
short_word ds h short =
    let up : power (length ds) ≤ power 19 = power_up (length ds) 19 short in
    omega (arith, value_most 0 ds h, up)

if_short : (bs : List ℕ) (t : Bool) → is_numeral bs ≡ t → length bs ≤ 19 → is_some (cond t (if_word (value_after 0 bs)) None) ≡ t
if_short bs true e short = ap is_some (word_below (value_after 0 bs) (short_word bs (numeral_digits bs e) short))
if_short bs false e short = refl

pub short_number : (bs : List ℕ) → length bs ≤ 19 → is_some (number_of bs) ≡ is_numeral bs
short_number bs short = if_short bs (is_numeral bs) refl short
