-- Tokens at the front of bytes: names, numbers, texts and marks.
use Rattle.std.proofs.Common.{◌≡◌, ℕ, suc, ◌+◌, ◌-◌, ◌<◌, ◌^◌, refl, sym, ◌∙◌, ap, Bool, true, false, cond, ◌==◌, ◌&&◌, not, List, [], ◌∷◌, ◌++◌, take}
use Rattle.std.proofs.Common.{length, arith, Option, Some, None, is_some, option_map, append_assoc, length-append, nat_le, flat_map, subst, inl, inr}
use Rattle.std.proofs.Math.Seq.{take-append_seam}
use Rattle.std.proofs.lemmas.Bool.{and_parts}
use Rattle.std.proofs.lemmas.Bool.Decides.{nat_tests, eqb_tells}
use Rattle.std.proofs.lemmas.List.Folds.{list_all-append}
use Rattle.std.specs.List.{list_all}
use Rattle.std.specs.Fmt.{decimal}
use Rattle.aw_spelling.specs.Spelling.{is_letter, is_digit, is_name, is_name_byte, is_content, is_content_byte, is_numeral, if_word, value_after}
use Rattle.aw_spelling.specs.Spelling.{number_of, node_name, quoted, spelled, text_behind_quote}
use Rattle.aw_spelling.proofs.NodeNames.{lacks}
use Rattle.aw_spelling.proofs.Numbers.{decimal_digits, numeral_digits}
use Rattle.aw_spelling.proofs.Quotes.{text_again}
use Rattle.aw_lex.specs.declared.token.TokenKind.{TokenKind}
use Rattle.aw_lex.specs.declared.token.TokenKind.TheVariants as kinds
use Rattle.aw_lex.specs.declared.front.Front.TheVariants as front
use Rattle.aw_lex.specs.Tokens.{is_blank, is_mark, is_word_byte, word_len, kind_of_word, front_of_word, front_of_text, front_of}
use Rattle.aw_lex.proofs.Words.{name_in_word as name_is_word}

-- bytes that do not go on with a word
abbrev pub Ends : List ℕ → Type 0
Ends [] = Unit {0}
Ends (b ∷ bs) = is_word_byte b ≡ false

word_until : (w bs : List ℕ) → list_all is_word_byte w ≡ true → Ends bs → word_len (w ++ bs) ≡ length w
word_until [] [] h e = refl
word_until [] (b ∷ bs) h e = ap (λ t. cond t (suc (word_len bs)) 0) e
word_until (b ∷ w) bs h e =
    let each = and_parts (is_word_byte b) (list_all is_word_byte w) h in
    ap (λ t. cond t (suc (word_len (w ++ bs))) 0) each.0 ∙ ap (λ n. suc n) (word_until w bs each.1 e)

-- a byte with which a word may begin
pub record Begins (b : ℕ) : Type 0 where
  pub blank : is_blank b ≡ false
  pub mark : is_mark b ≡ false
  pub quote : (b == 34) ≡ false
  pub word : is_word_byte b ≡ true

pub letter_begins : (b : ℕ) → is_letter b ≡ true → Begins b
letter_begins b h = record { blank = grind (arith, nat_tests); mark = grind (arith, nat_tests); quote = grind (arith, nat_tests); word = grind (arith, nat_tests) }

digit_begins : (b : ℕ) → is_digit b ≡ true → Begins b
digit_begins b h = record { blank = grind (arith, nat_tests); mark = grind (arith, nat_tests); quote = grind (arith, nat_tests); word = grind (arith, nat_tests) }

pub word_front : (b : ℕ) (w bs : List ℕ) (kind : TokenKind) → Begins b → list_all is_word_byte w ≡ true → Ends bs → kind_of_word (b ∷ w) ≡ Some kind →
    front_of ((b ∷ w) ++ bs) ≡ front.Token kind (length (b ∷ w))
word_front b w bs kind begins h e k =
    let all = b ∷ (w ++ bs) in
    let word = front_of_word (word_len all) (kind_of_word (take (word_len all) all)) in
    let text = front_of_text (w ++ bs) (option_map (λ x. x.1) (text_behind_quote (w ++ bs))) in
    let len : word_len all ≡ length (b ∷ w) = word_until (b ∷ w) bs (ap (λ t. t && list_all is_word_byte w) begins.word ∙ h) e in
    ap (λ t. cond t front.Blank (cond (is_mark b) (front.Token (kinds.Mark b) 1) (cond (b == 34) text (cond (is_word_byte b) word front.Bad)))) begins.blank
    ∙ ap (λ t. cond t (front.Token (kinds.Mark b) 1) (cond (b == 34) text (cond (is_word_byte b) word front.Bad))) begins.mark
    ∙ ap (λ t. cond t text (cond (is_word_byte b) word front.Bad)) begins.quote
    ∙ ap (λ t. cond t word front.Bad) begins.word
    ∙ ap (λ n. front_of_word n (kind_of_word (take n all))) len
    ∙ ap (λ xs. front_of_word (length (b ∷ w)) (kind_of_word xs)) (take-append_seam (b ∷ w) bs)
    ∙ ap (front_of_word (length (b ∷ w))) k

-- what holds of a byte that passes a test holds of all that do
pub all_pass : (p q : ℕ → Bool) → ((b : ℕ) → p b ≡ true → q b ≡ true) → (bs : List ℕ) → list_all p bs ≡ true → list_all q bs ≡ true
all_pass p q f [] h = refl
all_pass p q f (b ∷ bs) h =
    let each = and_parts (p b) (list_all p bs) h in
    ap (λ t. t && list_all q bs) (f b each.0) ∙ all_pass p q f bs each.1

name_is_kept : (b : ℕ) → is_name_byte b ≡ true → not (b == 10) ≡ true
name_is_kept b h = grind (arith, nat_tests)

letter_is_kept : (b : ℕ) → is_letter b ≡ true → not (b == 10) ≡ true
letter_is_kept b h = grind (arith, nat_tests)

digit_is_kept : (b : ℕ) → is_digit b ≡ true → not (b == 10) ≡ true
digit_is_kept b h = grind (arith, nat_tests)

pub digit_is_word : (b : ℕ) → is_digit b ≡ true → is_word_byte b ≡ true
digit_is_word b h = (digit_begins b h).word

pub name_front : (n bs : List ℕ) → is_name n ≡ true → Ends bs → front_of (n ++ bs) ≡ front.Token kinds.Name (length n)
name_front [] bs h e = cc
name_front (b ∷ n) bs h e =
    let short = and_parts (nat_le (length (b ∷ n)) 64) (is_letter b && list_all is_name_byte n) h in
    let each = and_parts (is_letter b) (list_all is_name_byte n) short.1 in
    word_front b n bs kinds.Name (letter_begins b each.0) (all_pass is_name_byte is_word_byte name_is_word n each.1) e
    (ap (λ t. cond t (Some kinds.Name) (cond (is_some (number_of (b ∷ n))) (Some kinds.Number) (cond (node_name (b ∷ n)) (Some kinds.Node) None))) h)

pub name_unbroken : (n : List ℕ) → is_name n ≡ true → lacks 10 n ≡ true
name_unbroken [] h = refl
name_unbroken (b ∷ n) h =
    let short = and_parts (nat_le (length (b ∷ n)) 64) (is_letter b && list_all is_name_byte n) h in
    let each = and_parts (is_letter b) (list_all is_name_byte n) short.1 in
    ap (λ t. t && lacks 10 n) (letter_is_kept b each.0) ∙ all_pass is_name_byte (λ x. not (x == 10)) name_is_kept n each.1

pub some_name : (n : List ℕ) → is_name n ≡ true → 0 < length n
some_name [] h = cc
some_name (b ∷ n) h = omega arith

no_letter : (b : ℕ) → is_digit b ≡ true → is_letter b ≡ false
no_letter b h = grind (arith, nat_tests)

never_both : (a b : Bool) → (a && (false && b)) ≡ false
never_both true b = refl
never_both false b = refl

pub if_true : {A : Type 0} (t : Bool) (o : Option A) → is_some (cond t o None) ≡ true → t ≡ true
if_true true o h = refl
if_true false o h = cc

pub number_digits : (ds : List ℕ) → is_some (number_of ds) ≡ true → list_all is_digit ds ≡ true
number_digits ds h = numeral_digits ds (if_true (is_numeral ds) (if_word (value_after 0 ds)) h)

pub number_front : (ds bs : List ℕ) → is_some (number_of ds) ≡ true → Ends bs → front_of (ds ++ bs) ≡ front.Token kinds.Number (length ds)
number_front [] bs h e = cc
number_front (d ∷ ds) bs h e =
    let each = and_parts (is_digit d) (list_all is_digit ds) (number_digits (d ∷ ds) h) in
    let bytes = list_all is_name_byte ds in
    let rest = cond (node_name (d ∷ ds)) (Some kinds.Node) None in
    let none : is_name (d ∷ ds) ≡ false = ap (λ t. nat_le (length (d ∷ ds)) 64 && (t && bytes)) (no_letter d each.0) ∙ never_both (nat_le (length (d ∷ ds)) 64) bytes in
    word_front d ds bs kinds.Number (digit_begins d each.0) (all_pass is_digit is_word_byte digit_is_word ds each.1) e
    (ap (λ t. cond t (Some kinds.Name) (cond (is_some (number_of (d ∷ ds))) (Some kinds.Number) rest)) none ∙ ap (λ t. cond t (Some kinds.Number) rest) h)

pub some_number : (ds : List ℕ) → is_some (number_of ds) ≡ true → 0 < length ds
some_number [] h = cc
some_number (d ∷ ds) h = omega arith

pub number_unbroken : (n : ℕ) → n < 2 ^ 64 → lacks 10 (decimal n) ≡ true
number_unbroken n h = all_pass is_digit (λ x. not (x == 10)) digit_is_kept (decimal n) (decimal_digits n h)

quoted_from : (t bs : List ℕ) → (flat_map spelled t ++ 34 ∷ []) ++ bs ≡ flat_map spelled t ++ 34 ∷ bs
quoted_from t bs = append_assoc (flat_map spelled t) (34 ∷ []) bs

quoted_length : (f bs : List ℕ) → 1 + (length ((f ++ 34 ∷ []) ++ bs) - length bs) ≡ suc (length (f ++ 34 ∷ []))
quoted_length f bs = omega (arith, length-append (f ++ 34 ∷ []) bs)

pub text_front : (t bs : List ℕ) → is_content t ≡ true → front_of (quoted t ++ bs) ≡ front.Token kinds.Text (length (quoted t))
text_front t bs h =
    let behind = (flat_map spelled t ++ 34 ∷ []) ++ bs in
    ap (λ o. front_of_text behind (option_map (λ x. x.1) o)) (ap text_behind_quote (quoted_from t bs) ∙ text_again t bs h)
    ∙ ap (front.Token kinds.Text) (quoted_length (flat_map spelled t) bs)

spelled_unbroken : (b : ℕ) → is_content_byte b ≡ true → lacks 10 (spelled b) ≡ true
spelled_unbroken b h =
    elim (eqb_tells b 34) [
      | inl p ↦ subst (λ t. lacks 10 (cond t (92 ∷ 34 ∷ []) (cond (b == 92) (92 ∷ 92 ∷ []) (cond (b == 10) (92 ∷ 110 ∷ []) (b ∷ [])))) ≡ true) (sym p.0) refl
      | inr p ↦ subst (λ t. lacks 10 (cond t (92 ∷ 34 ∷ []) (cond (b == 92) (92 ∷ 92 ∷ []) (cond (b == 10) (92 ∷ 110 ∷ []) (b ∷ [])))) ≡ true) (sym p.0)
          (elim (b == 92) as (λ t. lacks 10 (cond t (92 ∷ 92 ∷ []) (cond (b == 10) (92 ∷ 110 ∷ []) (b ∷ []))) ≡ true) [
            | true ↦ refl
            | false ↦ elim (eqb_tells b 10) [
              | inl q ↦ subst (λ t. lacks 10 (cond t (92 ∷ 110 ∷ []) (b ∷ [])) ≡ true) (sym q.0) refl
              | inr q ↦ subst (λ t. lacks 10 (cond t (92 ∷ 110 ∷ []) (b ∷ [])) ≡ true) (sym q.0) (ap (λ t. not t && true) q.0)
            ]
          ])
    ]

contents_unbroken : (t : List ℕ) → list_all is_content_byte t ≡ true → lacks 10 (flat_map spelled t) ≡ true
contents_unbroken [] h = refl
contents_unbroken (b ∷ t) h =
    let each = and_parts (is_content_byte b) (list_all is_content_byte t) h in
    list_all-append (λ x. not (x == 10)) (spelled b) (flat_map spelled t) ∙ ap (λ u. u && lacks 10 (flat_map spelled t)) (spelled_unbroken b each.0) ∙ contents_unbroken t each.1

pub text_unbroken : (t : List ℕ) → is_content t ≡ true → lacks 10 (quoted t) ≡ true
text_unbroken t h =
    let parts = and_parts (nat_le (length t) 1024) (list_all is_content_byte t) h in
    list_all-append (λ x. not (x == 10)) (flat_map spelled t) (34 ∷ []) ∙ ap (λ u. u && true) (contents_unbroken t parts.1)

pub mark_front : (m : ℕ) (bs : List ℕ) → is_blank m ≡ false → is_mark m ≡ true → front_of (m ∷ bs) ≡ front.Token (kinds.Mark m) 1
mark_front m bs h k =
    let rest = cond (m == 34) (front_of_text bs (option_map (λ x. x.1) (text_behind_quote bs)))
    (cond (is_word_byte m) (front_of_word (word_len (m ∷ bs)) (kind_of_word (take (word_len (m ∷ bs)) (m ∷ bs)))) front.Bad) in
    ap (λ t. cond t front.Blank (cond (is_mark m) (front.Token (kinds.Mark m) 1) rest)) h ∙ ap (λ t. cond t (front.Token (kinds.Mark m) 1) rest) k
