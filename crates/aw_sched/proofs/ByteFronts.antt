-- What stands at the front of bytes, before what the rest of them says.
use Rattle.std.proofs.Common.{◌≡◌, ℕ, ◌+◌, ◌-◌, ◌<◌, ◌≤◌, refl, sym, ap, ◌∙◌, subst, true, cond, ◌==◌, List, [], ◌∷◌, ◌++◌, take, drop, get_or, length}
use Rattle.std.proofs.Common.{arith, Some, option_map, append_assoc, length-append}
use Rattle.std.specs.Prelude.{unwrap_or}
use Rattle.std.proofs.lemmas.List.{take_all}
use Rattle.std.specs.List.{list_all, prefix_len}
use Rattle.aw_spelling.specs.Spelling.{is_name, is_name_byte, number_of, unquoted, text_behind_quote}
use Rattle.aw_spelling.proofs.TextEnds.{text_word}
use Rattle.aw_lex.specs.declared.token.Token.{Token}
use Rattle.aw_lex.specs.declared.token.TokenKind.{TokenKind}
use Rattle.aw_lex.specs.declared.token.TokenKind.TheVariants as kinds
use Rattle.aw_lex.specs.declared.front.Front.TheVariants as front
use Rattle.aw_lex.specs.Tokens.{is_blank, is_mark, is_word_byte, word_len, kind_of_word, front_of, front_of_text, front_of_word, tokens_from, with_token}
use Rattle.aw_lex.proofs.TokenSteps.{blank_step, token_step}
use Rattle.aw_lex.proofs.Words.{all_plain, kept_prefix}
use Rattle.aw_term_reader.specs.Lexemes.{Lexeme, Name, Number, Quoted, Mark, said, lexemes}
use Rattle.aw_term_reader.proofs.Lexing.{Ends, mark_front}
use Rattle.aw_term_reader.proofs.SaysTokens.{Lexes, lexes_name, lexes_number}
use Rattle.aw_term_reader.proofs.TokensBehind.{lexes_tokens}
use Rattle.aw_sched.specs.ByteArguments.{EndsWord, IsMarkByte, Says, SaysBefore}

-- what bytes say they say wherever in a line they stand
pub lexes : (bs : List ℕ) (ls : List Lexeme) → Says bs ls → Lexes bs ls
lexes bs ls s = subst (Lexes bs) s.2 (lexes_tokens bs s.0 s.1)

pub says : (bs : List ℕ) (ls : List Lexeme) → Lexes bs ls → Says bs ls
says bs ls l = l []

pub says_nothing : Says [] []
says_nothing = ([], refl, refl)

pub says_same : (bs : List ℕ) → SaysBefore bs [] bs
says_same bs ls s = s

-- one front behind the other
pub says_then : (a b c : List ℕ) (f h : List Lexeme) → SaysBefore a f b → SaysBefore b h c → SaysBefore a (f ++ h) c
says_then a b c f h first next ls s = subst (Says a) (sym (append_assoc f h ls)) (first (h ++ ls) (next ls s))

-- a blank is passed over
pub blank_says : (b : ℕ) (bs : List ℕ) → is_blank b ≡ true → SaysBefore (b ∷ bs) [] bs
blank_says b bs blank ls s =
    let word = cond (is_word_byte b) (front_of_word (word_len (b ∷ bs)) (kind_of_word (take (word_len (b ∷ bs)) (b ∷ bs)))) front.Bad in
    let text = front_of_text bs (option_map (λ x. x.1) (text_behind_quote bs)) in
    let found : front_of (b ∷ bs) ≡ front.Blank = ap (λ t. cond t front.Blank (cond (is_mark b) (front.Token (kinds.Mark b) 1) (cond (b == 34) text word))) blank in
    let more = lexes bs ls s (b ∷ []) in
    (more.0, blank_step 0 (b ∷ bs) (omega arith) found ∙ more.1, more.2)

-- a token of these bytes
slice_first : (w bs : List ℕ) → take (length w) (w ++ bs) ≡ w
slice_first [] bs = refl
slice_first (b ∷ w) bs = ap (λ xs. b ∷ xs) (slice_first w bs)

drop_first : (w bs : List ℕ) → drop (length w) (w ++ bs) ≡ bs
drop_first [] bs = refl
drop_first (b ∷ w) bs = drop_first w bs

pub token_says : (w bs : List ℕ) (kind : TokenKind) → 0 < length w → front_of (w ++ bs) ≡ front.Token kind (length w) → SaysBefore (w ++ bs) (said kind w ∷ []) bs
token_says w bs kind some found ls s =
    let token : Token = record { kind = kind; start = 0; end = 0 + length w } in
    let more = lexes bs ls s w in
    let at : 0 + length w ≡ length w = omega arith in
    let size : (0 + length w) - 0 ≡ length w = omega arith in (
      token ∷ more.0,
      token_step 0 (length w) kind (w ++ bs) some (omega (arith, length-append w bs)) found
          ∙ ap (λ xs. with_token token (tokens_from (0 + length w) 0 xs)) (drop_first w bs)
          ∙ ap (λ n. with_token token (tokens_from n 0 bs)) at
          ∙ ap (with_token token) more.1,
      ap (λ n. said kind (take n (w ++ bs)) ∷ lexemes (w ++ bs) more.0) size
          ∙ ap (λ xs. said kind xs ∷ lexemes (w ++ bs) more.0) (slice_first w bs)
          ∙ ap (λ ks. said kind w ∷ ks) more.2,
    )

pub mark_says : (m : ℕ) (bs : List ℕ) → IsMarkByte m → SaysBefore (m ∷ bs) (Mark m ∷ []) bs
mark_says m bs mark = token_says (m ∷ []) bs (kinds.Mark m) (omega arith) (mark_front m bs mark.0 mark.1)

ends : (bs : List ℕ) → EndsWord bs → Ends bs
ends [] e = tt
ends (b ∷ bs) e = e

-- the bytes at the front that may stand in a name, cut off
pub plain_word : (bs w : List ℕ) (len : ℕ) → len ≡ prefix_len is_name_byte bs → w ≡ take len bs → length w ≡ len → list_all is_name_byte w ≡ true
plain_word bs w len e cut size =
    all_plain w (ap (prefix_len is_name_byte) cut ∙ kept_prefix is_name_byte len bs (omega (arith, e)) ∙ sym e ∙ sym size)

-- the same, where the bytes are cut
pub name_says : (bs w rest : List ℕ) → bs ≡ w ++ rest → is_name w ≡ true → EndsWord rest → SaysBefore bs (Name w ∷ []) rest
name_says bs w rest cut name e ls s = subst (λ x. Says x (Name w ∷ ls)) (sym cut) (says (w ++ rest) (Name w ∷ ls) (lexes_name w rest ls name (ends rest e) (lexes rest ls s)))

pub number_says : (bs w rest : List ℕ) (n : ℕ) → bs ≡ w ++ rest → number_of w ≡ Some n → EndsWord rest → SaysBefore bs (Number n ∷ []) rest
number_says bs w rest n cut number e ls s = subst (λ x. Says x (Number n ∷ ls)) (sym cut) (says (w ++ rest) (Number n ∷ ls) (lexes_number w n rest ls number (ends rest e) (lexes rest ls s)))

pub text_says : (bs w rest content : List ℕ) → bs ≡ w ++ rest → 0 < length w → front_of bs ≡ front.Token kinds.Text (length w) → unquoted w ≡ Some content → SaysBefore bs (Quoted content ∷ []) rest
text_says bs w rest content cut some found is ls s =
    let all = token_says w rest kinds.Text some (ap front_of (sym cut) ∙ found) ls s in
    subst (λ x. Says x (Quoted content ∷ ls)) (sym cut) (subst (λ o. Says (w ++ rest) (Quoted (unwrap_or o []) ∷ ls)) is all)

-- the same of the text behind an opening quote
pub quoted_says : (bs rest content : List ℕ) → text_behind_quote bs ≡ Some (content, rest) → SaysBefore (34 ∷ bs) (Quoted content ∷ []) rest
quoted_says bs rest content e =
    let word = text_word bs content rest e in
    let long : length bs ≡ length word.0 + length rest = ap length word.1 ∙ length-append word.0 rest in
    let len : 1 + (length bs - length rest) ≡ length (34 ∷ word.0) = omega (arith, long) in
    text_says (34 ∷ bs) (34 ∷ word.0) rest content (ap (λ xs. 34 ∷ xs) word.1) (omega arith)
    (ap (λ o. front_of_text bs (option_map (λ text. text.1) o)) e ∙ ap (front.Token kinds.Text) len) word.2

-- what is left behind the first byte
abbrev pub others : List ℕ → List ℕ
others bs = take (length bs - 1) (drop 1 bs)

pub behind_first : (bs : List ℕ) (d : ℕ) → 1 ≤ length bs → bs ≡ get_or bs 0 d ∷ others bs
behind_first [] d some = absurd (omega (arith, some))
behind_first (b ∷ bs) d some = ap (λ k. b ∷ k) (sym (take_all (length (b ∷ bs) - 1) bs (omega arith)))

pub blank_passed : (bytes rest : List ℕ) (d : ℕ) → SaysBefore bytes [] rest → 1 ≤ length rest → is_blank (get_or rest 0 d) ≡ true → SaysBefore bytes [] (others rest)
blank_passed bytes rest d so_far some blank ls s =
    so_far ls (subst (λ bs. Says bs ls) (sym (behind_first rest d some)) (blank_says (get_or rest 0 d) (others rest) blank ls s))

pub mark_passed : (bytes rest : List ℕ) (d m : ℕ) → SaysBefore bytes [] rest → 1 ≤ length rest → get_or rest 0 d ≡ m → IsMarkByte m → SaysBefore bytes (Mark m ∷ []) (others rest)
mark_passed bytes rest d m so_far some is mark ls s =
    let cut : rest ≡ m ∷ others rest = behind_first rest d some ∙ ap (λ b. b ∷ others rest) is in
    so_far (Mark m ∷ ls) (subst (λ bs. Says bs (Mark m ∷ ls)) (sym cut) (mark_says m (others rest) mark ls s))
