-- A node name that is printed is read again.
use Rattle.std.proofs.Common.{◌≡◌, ℕ, suc, ◌+◌, ◌-◌, ◌^◌, ◌≤◌, ◌<◌, refl, sym, ◌∙◌, ap, inl, inr, Bool, true, false, cond, not, ◌==◌, ◌&&◌, ◌||◌, List}
use Rattle.std.proofs.Common.{[], ◌∷◌, ◌++◌, map, length, arith, Option, Some, None, is_some, option_map, option_and_then, nat_le, nat_lt, append_assoc}
use Rattle.std.proofs.Common.{append-nil}
use Rattle.std.proofs.lemmas.Bool.{not-true, and_parts, ltb-true, eq-eqb}
use Rattle.std.proofs.lemmas.Bool.Decides.{nat_tests, eqb_tells}
use Rattle.std.proofs.lemmas.List.Folds.{list_all-append}
use Rattle.std.specs.List.{list_all}
use Rattle.std.specs.Fmt.{decimal}
use Rattle.aw_spelling.specs.Spelling.{cut, with_front, is_name, is_name_byte, is_digit, is_letter, is_step, has_spelling, spelled_steps, spelled_name}
use Rattle.aw_spelling.specs.Spelling.{parts, parts_of_name, name_from, start_of, step_of, steps_of, child_of, number_of, node_name, is_numeral}
use Rattle.aw_spelling.specs.Spelling.{if_word, value_after}
use Rattle.aw_spelling.proofs.Cuts.{split_after, split_by_cut}
use Rattle.aw_spelling.proofs.Numbers.{numeral_digits, number_again, decimal_digits}

-- no byte is the mark
abbrev pub lacks : ℕ → List ℕ → Bool
lacks mark bs = list_all (λ b. not (b == mark)) bs

pub cut_here : (mark : ℕ) (front rest : List ℕ) → lacks mark front ≡ true → cut mark (front ++ mark ∷ rest) ≡ Some (front, rest)
cut_here mark [] rest h = ap (λ t. cond t (Some ([], rest)) (option_map (with_front mark) (cut mark rest))) (eq-eqb mark mark refl)
cut_here mark (b ∷ bs) rest h =
    let each = and_parts (not (b == mark)) (lacks mark bs) h in
    ap (λ t. cond t (Some ([], bs ++ mark ∷ rest)) (option_map (with_front b) (cut mark (bs ++ mark ∷ rest)))) (not-true (b == mark) each.0)
    ∙ ap (option_map (with_front b)) (cut_here mark bs rest each.1)

pub cut_nowhere : (mark : ℕ) (bs : List ℕ) → lacks mark bs ≡ true → cut mark bs ≡ None
cut_nowhere mark [] h = refl
cut_nowhere mark (b ∷ bs) h =
    let each = and_parts (not (b == mark)) (lacks mark bs) h in
    ap (λ t. cond t (Some ([], bs)) (option_map (with_front b) (cut mark bs))) (not-true (b == mark) each.0)
    ∙ ap (option_map (with_front b)) (cut_nowhere mark bs each.1)

-- the bytes of names and of numbers are no marks
differs : (test : ℕ → Bool) (mark b : ℕ) → test mark ≡ false → test b ≡ true → not (b == mark) ≡ true
differs test mark b fails holds = elim (eqb_tells b mark) [ inl p ↦ absurd (cc (ap test p.1, fails, holds)) | inr p ↦ ap not p.0 ]

pub all_differ : (test : ℕ → Bool) (mark : ℕ) (bs : List ℕ) → test mark ≡ false → list_all test bs ≡ true → lacks mark bs ≡ true
all_differ test mark [] fails h = refl
all_differ test mark (b ∷ bs) fails h =
    let each = and_parts (test b) (list_all test bs) h in
    ap (λ t. t && lacks mark bs) (differs test mark b fails each.0) ∙ all_differ test mark bs fails each.1

letter_is_byte : (b : ℕ) → is_letter b ≡ true → is_name_byte b ≡ true
letter_is_byte b h = ap (λ t. (t || is_digit b) || b == 95) h

name_bytes : (bs : List ℕ) → is_name bs ≡ true → list_all is_name_byte bs ≡ true
name_bytes [] h = absurd cc
name_bytes (b ∷ bs) h =
    let short = and_parts (nat_le (suc (length bs)) 64) (is_letter b && list_all is_name_byte bs) h in
    let each = and_parts (is_letter b) (list_all is_name_byte bs) short.1 in
    ap (λ t. t && list_all is_name_byte bs) (letter_is_byte b each.0) ∙ each.1

name_lacks : (mark : ℕ) (bs : List ℕ) → is_name_byte mark ≡ false → is_name bs ≡ true → lacks mark bs ≡ true
name_lacks mark bs fails h = all_differ is_name_byte mark bs fails (name_bytes bs h)

-- Bytes of names alone are no node name.
no_start : (bs : List ℕ) → list_all is_name_byte bs ≡ true → start_of bs ≡ None
no_start bs h =
    let read : List ℕ × List ℕ → Option (List ℕ × ℕ) =
    λ halves. cond (is_name halves.0) (option_map (λ n. (halves.0, n)) (number_of halves.1)) None in
    ap (option_and_then read) (cut_nowhere 35 bs (all_differ is_name_byte 35 bs refl h))

pub plain_is_no_node : (bs : List ℕ) → list_all is_name_byte bs ≡ true → node_name bs ≡ false
plain_is_no_node bs h =
    let whole : List ℕ × ℕ → Option (List ℕ × ℕ × List (List ℕ × ℕ)) =
    λ s. option_map (λ trail. (s.0, s.1, trail)) (steps_of []) in
    ap (λ xs. is_some (name_from xs)) (split_by_cut 47 bs ∙ ap (split_after 47 bs) (cut_nowhere 47 bs (all_differ is_name_byte 47 bs refl h)))
    ∙ ap (λ o. is_some (option_and_then whole o)) (no_start bs h)

-- And bytes of which one stands in no name are no name and no number.
digit_is_byte : (b : ℕ) → is_digit b ≡ true → is_name_byte b ≡ true
digit_is_byte b h = elim (is_letter b) as (λ t. ((t || is_digit b) || b == 95) ≡ true) [ true ↦ refl | false ↦ ap (λ t. t || b == 95) h ]

digits_are_bytes : (bs : List ℕ) → list_all is_digit bs ≡ true → list_all is_name_byte bs ≡ true
digits_are_bytes [] h = refl
digits_are_bytes (b ∷ bs) h =
    let each = and_parts (is_digit b) (list_all is_digit bs) h in
    ap (λ t. t && list_all is_name_byte bs) (digit_is_byte b each.0) ∙ digits_are_bytes bs each.1

if_no_name : (bs : List ℕ) (t : Bool) → is_name bs ≡ t → list_all is_name_byte bs ≡ false → t ≡ false
if_no_name bs true e h = absurd (cc (name_bytes bs e, h))
if_no_name bs false e h = refl

pub joined_is_no_name : (bs : List ℕ) → list_all is_name_byte bs ≡ false → is_name bs ≡ false
joined_is_no_name bs h = if_no_name bs (is_name bs) refl h

if_no_numeral : (bs : List ℕ) (t : Bool) → is_numeral bs ≡ t → list_all is_name_byte bs ≡ false → t ≡ false
if_no_numeral bs true e h = absurd (cc (digits_are_bytes bs (numeral_digits bs e), h))
if_no_numeral bs false e h = refl

pub joined_is_no_number : (bs : List ℕ) → list_all is_name_byte bs ≡ false → number_of bs ≡ None
joined_is_no_number bs h = ap (λ t. cond t (if_word (value_after 0 bs)) None) (if_no_numeral bs (is_numeral bs) refl h)

-- a part of a node name, and the parts of all steps
abbrev step_part : List ℕ × ℕ → List ℕ
step_part step = step.0 ++ (46 ∷ (48 + step.1) ∷ [])

joined_lacks : (mark : ℕ) (front back : List ℕ) → lacks mark front ≡ true → lacks mark back ≡ true → lacks mark (front ++ back) ≡ true
joined_lacks mark front back h k = list_all-append (λ b. not (b == mark)) front back ∙ ap (λ t. t && lacks mark back) h ∙ k

child_test : (d : ℕ) → 49 ≤ d → d ≤ 56 → (nat_le 49 d && nat_le d 56) ≡ true
child_test d h k = grind (arith, nat_tests)

child_again : (child : ℕ) → nat_le 1 child ≡ true → nat_le child 8 ≡ true → child_of ((48 + child) ∷ []) ≡ Some child
child_again child h k =
    let low : 1 ≤ child = grind (arith, nat_tests) in
    let high : child ≤ 8 = grind (arith, nat_tests) in
    ap (λ t. cond t (Some ((48 + child) - 48)) None) (child_test (48 + child) (omega arith) (omega arith)) ∙ ap Some (omega arith)

child_lacks : (mark child : ℕ) → mark < 48 → lacks mark ((48 + child) ∷ []) ≡ true
child_lacks mark child h = let e : not ((48 + child) == mark) ≡ true = grind (arith, nat_tests) in ap (λ t. t && true) e

step_again : (step : List ℕ × ℕ) → is_step step ≡ true → step_of (step_part step) ≡ Some step
step_again step h =
    let each = and_parts (is_name step.0) (nat_le 1 step.1 && nat_le step.1 8) h in
    let bounds = and_parts (nat_le 1 step.1) (nat_le step.1 8) each.1 in
    let read : List ℕ × List ℕ → Option (List ℕ × ℕ) =
    λ halves. cond (is_name halves.0) (option_map (λ child. (halves.0, child)) (child_of halves.1)) None in
    ap (option_and_then read) (cut_here 46 step.0 ((48 + step.1) ∷ []) (name_lacks 46 step.0 refl each.0))
    ∙ ap (λ t. cond t (option_map (λ child. (step.0, child)) (child_of ((48 + step.1) ∷ []))) None) each.0
    ∙ ap (option_map (λ child. (step.0, child))) (child_again step.1 bounds.0 bounds.1)

step_lacks : (step : List ℕ × ℕ) → is_step step ≡ true → lacks 47 (step_part step) ≡ true
step_lacks step h =
    let each = and_parts (is_name step.0) (nat_le 1 step.1 && nat_le step.1 8) h in
    joined_lacks 47 step.0 (46 ∷ (48 + step.1) ∷ []) (name_lacks 47 step.0 refl each.0) (child_lacks 47 step.1 (omega arith))

parts_again : (part : List ℕ) (steps : List (List ℕ × ℕ)) → lacks 47 part ≡ true → list_all is_step steps ≡ true → parts (part ++ spelled_steps steps) ≡ part ∷ map step_part steps
parts_again part [] h k =
    ap parts (append-nil part) ∙ split_by_cut 47 part ∙ ap (split_after 47 part) (cut_nowhere 47 part h)
parts_again part (step ∷ steps) h k =
    let each = and_parts (is_step step) (list_all is_step steps) k in
    let rest = step.0 ++ (46 ∷ (48 + step.1) ∷ spelled_steps steps) in
    let joined : rest ≡ step_part step ++ spelled_steps steps = sym (append_assoc step.0 (46 ∷ (48 + step.1) ∷ []) (spelled_steps steps)) in
    split_by_cut 47 (part ++ 47 ∷ rest)
    ∙ ap (split_after 47 (part ++ 47 ∷ rest)) (cut_here 47 part rest h)
    ∙ ap (λ bs. part ∷ parts bs) joined
    ∙ ap (λ xs. part ∷ xs) (parts_again (step_part step) steps (step_lacks step each.0) each.1)

steps_again : (steps : List (List ℕ × ℕ)) → list_all is_step steps ≡ true → steps_of (map step_part steps) ≡ Some steps
steps_again [] h = refl
steps_again (step ∷ steps) h =
    let each = and_parts (is_step step) (list_all is_step steps) h in
    ap (option_and_then (λ s. option_map (λ more. s ∷ more) (steps_of (map step_part steps)))) (step_again step each.0)
    ∙ ap (option_map (λ more. step ∷ more)) (steps_again steps each.1)

start_again : (start : List ℕ) (case : ℕ) → is_name start ≡ true → case < 2 ^ 64 → start_of (start ++ 35 ∷ decimal case) ≡ Some (start, case)
start_again start case h k =
    let read : List ℕ × List ℕ → Option (List ℕ × ℕ) =
    λ halves. cond (is_name halves.0) (option_map (λ n. (halves.0, n)) (number_of halves.1)) None in
    ap (option_and_then read) (cut_here 35 start (decimal case) (name_lacks 35 start refl h))
    ∙ ap (λ t. cond t (option_map (λ n. (start, n)) (number_of (decimal case))) None) h
    ∙ ap (option_map (λ n. (start, n))) (number_again case k)

start_lacks : (start : List ℕ) (case : ℕ) → is_name start ≡ true → case < 2 ^ 64 → lacks 47 (start ++ 35 ∷ decimal case) ≡ true
start_lacks start case h k =
    joined_lacks 47 start (35 ∷ decimal case) (name_lacks 47 start refl h) (all_differ is_digit 47 (decimal case) refl (decimal_digits case k))

pub name_again : (name : List ℕ × ℕ × List (List ℕ × ℕ)) → has_spelling name ≡ true → parts_of_name (spelled_name name) ≡ Some name
name_again name h =
    let start = name.0 in
    let case = name.1 in
    let steps = name.2 in
    let each = and_parts (is_name start) (nat_lt case (2 ^ 64) && list_all is_step steps) h in
    let others = and_parts (nat_lt case (2 ^ 64)) (list_all is_step steps) each.1 in
    let word = ltb-true case (2 ^ 64) others.0 in
    let whole : List ℕ × ℕ → Option (List ℕ × ℕ × List (List ℕ × ℕ)) =
    λ s. option_map (λ trail. (s.0, s.1, trail)) (steps_of (map step_part steps)) in
    ap parts_of_name (sym (append_assoc start (35 ∷ decimal case) (spelled_steps steps)))
    ∙ ap name_from (parts_again (start ++ 35 ∷ decimal case) steps (start_lacks start case each.0 word) others.1)
    ∙ ap (option_and_then whole) (start_again start case each.0 word)
    ∙ ap (option_map (λ trail. (start, case, trail))) (steps_again steps others.1)
