-- A word by how many of its bytes at the front may stand in a name.
use Rattle.std.proofs.Common.{◌≡◌, ℕ, zero, suc, ◌+◌, ◌≤◌, refl, sym, ap, ◌∙◌, Bool, true, false, cond, ◌==◌, ◌||◌, List, [], ◌∷◌, take, drop, length, arith, Option, Some, None, is_some}
use Rattle.std.proofs.lemmas.Bool.{eq-eqb, ne_eqb}
use Rattle.std.specs.List.{list_all, prefix_len}
use Rattle.aw_spelling.specs.Spelling.{is_name_byte, is_name, number_of, node_name}
use Rattle.aw_spelling.proofs.ByteRuns.{all_by_prefix}
use Rattle.aw_spelling.proofs.NodeNames.{joined_is_no_name, joined_is_no_number}
use Rattle.aw_lex.specs.declared.token.TokenKind.{TokenKind}
use Rattle.aw_lex.specs.declared.token.TokenKind.TheVariants.{Name, Number, Node}
use Rattle.aw_lex.specs.Tokens.{is_word_byte, word_len, kind_of_word, front_of_word}

-- as many bytes as come before the first that stands in no word
pub word_prefix : (bs : List ℕ) → word_len bs ≡ prefix_len is_word_byte bs
word_prefix [] = refl
word_prefix (b ∷ bs) =
    let one_more : suc (word_len bs) ≡ 1 + prefix_len is_word_byte bs = omega (arith, word_prefix bs) in
    ap (λ n. cond (is_word_byte b) n 0) one_more

pub name_in_word : (b : ℕ) → is_name_byte b ≡ true → is_word_byte b ≡ true
name_in_word b h = ap (λ t. ((t || b == 35) || b == 47) || b == 46) h

past_one : (b : ℕ) (bs : List ℕ) (t : Bool) → is_name_byte b ≡ t
    → prefix_len is_name_byte bs + prefix_len is_word_byte (drop (prefix_len is_name_byte bs) bs) ≡ word_len bs
    → let n = cond t (1 + prefix_len is_name_byte bs) 0 in n + prefix_len is_word_byte (drop n (b ∷ bs)) ≡ word_len (b ∷ bs)
past_one b bs true h e =
    let k = prefix_len is_name_byte bs in
    let up : 1 + k ≡ suc k = omega arith in
    let sum : suc k + prefix_len is_word_byte (drop k bs) ≡ suc (word_len bs) = omega (arith, e) in
    ap (λ n. n + prefix_len is_word_byte (drop n (b ∷ bs))) up ∙ sum
    ∙ sym (ap (λ t. cond t (suc (word_len bs)) 0) (name_in_word b h))
past_one b bs false h e = omega (arith, word_prefix (b ∷ bs))

-- the name, and what of the word stands behind it
pub past_name : (bs : List ℕ) → prefix_len is_name_byte bs + prefix_len is_word_byte (drop (prefix_len is_name_byte bs) bs) ≡ word_len bs
past_name [] = refl
past_name (b ∷ bs) = past_one b bs (is_name_byte b) refl (past_name bs)

-- the name is the same in a word that is cut off behind it
kept_one : (p : ℕ → Bool) (b n : ℕ) (bs : List ℕ) (t : Bool) → p b ≡ t → cond t (1 + prefix_len p bs) 0 ≤ suc n → (prefix_len p bs ≤ n → prefix_len p (take n bs) ≡ prefix_len p bs)
    → cond t (1 + prefix_len p (take n bs)) 0 ≡ cond t (1 + prefix_len p bs) 0
kept_one p b n bs true h le e = ap (λ k. 1 + k) (e (omega (arith, le)))
kept_one p b n bs false h le e = refl

pub kept_prefix : (p : ℕ → Bool) (n : ℕ) (bs : List ℕ) → prefix_len p bs ≤ n → prefix_len p (take n bs) ≡ prefix_len p bs
kept_prefix p zero [] le = refl
kept_prefix p (suc n) [] le = refl
kept_prefix p zero (b ∷ bs) le = omega (arith, le)
kept_prefix p (suc n) (b ∷ bs) le = kept_one p b n bs (p b) refl le (kept_prefix p n bs)

-- whether that is all of it
pub all_plain : (bs : List ℕ) → prefix_len is_name_byte bs ≡ length bs → list_all is_name_byte bs ≡ true
all_plain bs e = sym (all_by_prefix is_name_byte bs) ∙ eq-eqb (prefix_len is_name_byte bs) (length bs) e

pub not_all_plain : (bs : List ℕ) → ¬ (prefix_len is_name_byte bs ≡ length bs) → list_all is_name_byte bs ≡ false
not_all_plain bs e = sym (all_by_prefix is_name_byte bs) ∙ ne_eqb (prefix_len is_name_byte bs) (length bs) e

-- the kind of a word, by what it is not
pub no_kind : (w : List ℕ) → is_name w ≡ false → is_some (number_of w) ≡ false → node_name w ≡ false → kind_of_word w ≡ None
no_kind w e f g =
    let node : Option TokenKind = cond (node_name w) (Some Node) None in
    ap (λ t. cond t (Some Name) (cond (is_some (number_of w)) (Some Number) node)) e ∙ ap (λ t. cond t (Some Number) node) f ∙ ap (λ t. cond t (Some Node) None) g

pub joined_kind : (w : List ℕ) (t : Bool) → list_all is_name_byte w ≡ false → t ≡ node_name w → cond t (Some Node) None ≡ kind_of_word w
joined_kind w t h e =
    let node : Option TokenKind = cond (node_name w) (Some Node) None in
    ap (λ u. cond u (Some Node) None) e
    ∙ sym (ap (λ o. cond (is_some o) (Some Number) node) (joined_is_no_number w h))
    ∙ sym (ap (λ u. cond u (Some Name) (cond (is_some (number_of w)) (Some Number) node)) (joined_is_no_name w h))

-- what stands at the front, from the word that is cut off
pub cut_word : (bs word : List ℕ) (len : ℕ) (o : Option TokenKind) → len ≡ word_len bs → word ≡ take len bs → o ≡ kind_of_word word
    → front_of_word len o ≡ front_of_word (word_len bs) (kind_of_word (take (word_len bs) bs))
cut_word bs word len o e f g = ap (front_of_word len) (g ∙ ap kind_of_word f) ∙ ap (λ n. front_of_word n (kind_of_word (take n bs))) e
