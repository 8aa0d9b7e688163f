-- What stands at the front is a token of its kind, which has a byte and does not reach past the end.
use Rattle.std.proofs.Common.{◌≡◌, ℕ, suc, ◌+◌, ◌-◌, ◌<◌, ◌≤◌, refl, sym, ap, subst, inl, inr, Bool, true, false, cond, ◌==◌, List, [], ◌∷◌, take}
use Rattle.std.proofs.Common.{length, arith, Option, Some, None, is_some, option_map, IfSome}
use Rattle.std.proofs.lemmas.Bool.Decides.{eqb_tells}
use Rattle.aw_spelling.specs.Spelling.{is_name, number_of, node_name, unquoted, text_behind_quote}
use Rattle.aw_spelling.proofs.TextEnds.{text_stands_alone}
use Rattle.aw_lex.specs.declared.token.TokenKind.{TokenKind}
use Rattle.aw_lex.specs.declared.token.TokenKind.TheVariants.{Name, Number, Node, Mark}
use Rattle.aw_lex.specs.declared.front.Front.{Front}
use Rattle.aw_lex.specs.declared.front.Front.TheVariants as front
use Rattle.aw_lex.specs.Tokens.{is_blank, is_mark, is_word_byte, word_len, kind_of_word, front_of_word, front_of_text, front_of, Fits, Spells}

pub word_within : (bs : List ℕ) → word_len bs ≤ length bs
word_within [] = omega arith
word_within (b ∷ bs) = elim (is_word_byte b) as (λ t. cond t (suc (word_len bs)) 0 ≤ suc (length bs)) [ true ↦ omega (arith, word_within bs) | false ↦ omega arith ]

abbrev pub IsSpelled : Front → List ℕ → Type 0
IsSpelled front.Blank bs = Unit {0}
IsSpelled (front.Token kind len) bs = Spells kind (take len bs)
IsSpelled front.Bad bs = Unit {0}

-- a front that fits and is spelled as its kind says
abbrev pub IsSound : Front → List ℕ → Type 0
IsSound f bs = Fits f (length bs) × IsSpelled f bs

name_or : (word : List ℕ) (t : Bool) (o : Option TokenKind) → is_name word ≡ t → IfSome o (λ kind. Spells kind word) → IfSome (cond t (Some Name) o) (λ kind. Spells kind word)
name_or word true o e h = e
name_or word false o e h = h

number_or : (word : List ℕ) (t : Bool) (o : Option TokenKind) → is_some (number_of word) ≡ t → IfSome o (λ kind. Spells kind word) → IfSome (cond t (Some Number) o) (λ kind. Spells kind word)
number_or word true o e h = e
number_or word false o e h = h

node_or : (word : List ℕ) (t : Bool) → node_name word ≡ t → IfSome (cond t (Some Node) None) (λ kind. Spells kind word)
node_or word true e = e
node_or word false e = tt

kind_spells : (word : List ℕ) → IfSome (kind_of_word word) (λ kind. Spells kind word)
kind_spells word = name_or word (is_name word) _ refl (number_or word (is_some (number_of word)) _ refl (node_or word (node_name word) refl))

word_sound : (bs : List ℕ) (len : ℕ) (o : Option TokenKind) → 0 < len → len ≤ length bs → IfSome o (λ kind. Spells kind (take len bs)) → IsSound (front_of_word len o) bs
word_sound bs len None some within h = (tt, tt)
word_sound bs len (Some kind) some within h = ((some, within), h)

text_sound : (bs : List ℕ) (o : Option (List ℕ × List ℕ)) → IfSome o (λ text. is_some (unquoted (take (1 + (length bs - length text.1)) (34 ∷ bs))) ≡ true)
    → IsSound (front_of_text bs (option_map (λ text. text.1) o)) (34 ∷ bs)
text_sound bs None h = (tt, tt)
text_sound bs (Some text) h = ((omega arith, omega arith), h)

first_word_sound : (b : ℕ) (bs : List ℕ) (t : Bool) → is_word_byte b ≡ t
    → IsSound (cond t (front_of_word (word_len (b ∷ bs)) (kind_of_word (take (word_len (b ∷ bs)) (b ∷ bs)))) front.Bad) (b ∷ bs)
first_word_sound b bs true e =
    let some : word_len (b ∷ bs) ≡ suc (word_len bs) = ap (λ t. cond t (suc (word_len bs)) 0) e in
    word_sound (b ∷ bs) (word_len (b ∷ bs)) (kind_of_word (take (word_len (b ∷ bs)) (b ∷ bs))) (omega (arith, some)) (word_within (b ∷ bs))
    (kind_spells (take (word_len (b ∷ bs)) (b ∷ bs)))
first_word_sound b bs false e = (tt, tt)

pub front_is_sound : (bs : List ℕ) → IsSound (front_of bs) bs
front_is_sound [] = (tt, tt)
front_is_sound (b ∷ bs) =
    let word = cond (is_word_byte b) (front_of_word (word_len (b ∷ bs)) (kind_of_word (take (word_len (b ∷ bs)) (b ∷ bs)))) front.Bad in
    let text = front_of_text bs (option_map (λ x. x.1) (text_behind_quote bs)) in
    elim (is_blank b) as (λ t. IsSound (cond t front.Blank (cond (is_mark b) (front.Token (Mark b) 1) (cond (b == 34) text word))) (b ∷ bs)) [
      | true ↦ (tt, tt)
      | false ↦ elim (is_mark b) as (λ t. IsSound (cond t (front.Token (Mark b) 1) (cond (b == 34) text word)) (b ∷ bs)) [
        | true ↦ ((omega arith, omega arith), refl)
        | false ↦ elim (eqb_tells b 34) [
          | inl p ↦ subst (λ t. IsSound (cond t text word) (b ∷ bs)) (sym p.0)
              (subst (λ x. IsSound text (x ∷ bs)) (sym p.1) (text_sound bs (text_behind_quote bs) (text_stands_alone bs)))
          | inr p ↦ subst (λ t. IsSound (cond t text word) (b ∷ bs)) (sym p.0) (first_word_sound b bs (is_word_byte b) refl)
        ]
      ]
    ]
