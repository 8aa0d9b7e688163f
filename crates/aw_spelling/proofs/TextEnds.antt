-- A text that stands before other bytes is a text by itself.
use Rattle.std.proofs.Common.{◌≡◌, ℕ, suc, ◌+◌, ◌-◌, refl, sym, ◌∙◌, ap, subst, inl, inr, Bool, true, false, cond, ◌==◌, List, [], ◌∷◌, take, drop}
use Rattle.std.proofs.Common.{◌++◌, length, arith, Option, Some, None, is_some, IfSome, option_map, option_and_then, nat_le}
use Rattle.std.proofs.lemmas.Bool.Decides.{eqb_tells}
use Rattle.std.proofs.lemmas.List.{take-append-drop}
use Rattle.aw_spelling.specs.Spelling.{with_front, content_before_quote, text_behind_quote, whole, unquoted, escaped, stands_for_itself}
use Rattle.aw_spelling.proofs.Quotes.{plain_piece}

-- the first k bytes are the text's, and are it without the others
abbrev IsFront : List ℕ → List ℕ × List ℕ → Type 0
IsFront bs text = (k : ℕ) × (k + length text.1 ≡ length bs) × (content_before_quote (take k bs) ≡ Some (text.0, [])) × (text.1 ≡ drop k bs)

abbrev HasFront : List ℕ → Option (List ℕ × List ℕ) → Type 0
HasFront bs o = IfSome o (IsFront bs)

closed : (b : ℕ) → (b == 34) ≡ true → content_before_quote (b ∷ []) ≡ Some ([], [])
closed b e = ap (λ t. cond t (Some ([], [])) None) e

paired : (b c x : ℕ) (bs : List ℕ) → (b == 34) ≡ false → (b == 92) ≡ true → escaped c ≡ Some x
    → content_before_quote (b ∷ c ∷ bs) ≡ option_map (with_front x) (content_before_quote bs)
paired b c x bs e f h =
    let itself = cond (stands_for_itself b) (option_map (with_front b) (content_before_quote (c ∷ bs))) None in
    let pair = option_and_then (λ y. option_map (with_front y) (content_before_quote bs)) (escaped c) in
    ap (λ t. cond t (Some ([], c ∷ bs)) (cond (b == 92) pair itself)) e
    ∙ ap (λ t. cond t pair itself) f
    ∙ ap (option_and_then (λ y. option_map (with_front y) (content_before_quote bs))) h

itself_front : (b : ℕ) (bs : List ℕ) (o : Option (List ℕ × List ℕ)) → (b == 34) ≡ false → (b == 92) ≡ false → stands_for_itself b ≡ true
    → HasFront bs o → HasFront (b ∷ bs) (option_map (with_front b) o)
itself_front b bs None e f h front = tt
itself_front b bs (Some text) e f h front =
    (suc front.0, omega (arith, front.1), plain_piece b (take front.0 bs) e f h ∙ ap (option_map (with_front b)) front.2, front.3)

if_itself_front : (b : ℕ) (bs : List ℕ) (o : Option (List ℕ × List ℕ)) (t : Bool) → stands_for_itself b ≡ t → (b == 34) ≡ false → (b == 92) ≡ false
    → HasFront bs o → HasFront (b ∷ bs) (cond t (option_map (with_front b) o) None)
if_itself_front b bs o true h e f front = itself_front b bs o e f h front
if_itself_front b bs o false h e f front = tt

pair_front : (b c : ℕ) (bs : List ℕ) (x : Option ℕ) (o : Option (List ℕ × List ℕ)) → (b == 34) ≡ false → (b == 92) ≡ true → escaped c ≡ x
    → HasFront bs o → HasFront (b ∷ c ∷ bs) (option_and_then (λ y. option_map (with_front y) o) x)
pair_front b c bs None o e f h front = tt
pair_front b c bs (Some x) None e f h front = tt
pair_front b c bs (Some x) (Some text) e f h front =
    (suc (suc front.0), omega (arith, front.1), paired b c x (take front.0 bs) e f h ∙ ap (option_map (with_front x)) front.2, front.3)

content_front : (bs : List ℕ) → HasFront bs (content_before_quote bs)
content_front [] = tt
content_front (b ∷ []) = elim (eqb_tells b 34) [
  | inl p ↦ subst (λ t. HasFront (b ∷ []) (cond t (Some ([], [])) None)) (sym p.0) (1, refl, closed b p.0, refl)
  | inr p ↦ subst (λ t. HasFront (b ∷ []) (cond t (Some ([], [])) None)) (sym p.0) tt
]
content_front (b ∷ c ∷ bs) =
    let itself = cond (stands_for_itself b) (option_map (with_front b) (content_before_quote (c ∷ bs))) None in
    let pair = option_and_then (λ y. option_map (with_front y) (content_before_quote bs)) (escaped c) in
    elim (eqb_tells b 34) [
      | inl p ↦ subst (λ t. HasFront (b ∷ c ∷ bs) (cond t (Some ([], c ∷ bs)) (cond (b == 92) pair itself))) (sym p.0) (1, omega arith, closed b p.0, refl)
      | inr p ↦ subst (λ t. HasFront (b ∷ c ∷ bs) (cond t (Some ([], c ∷ bs)) (cond (b == 92) pair itself))) (sym p.0) (elim (eqb_tells b 92) [
        | inl q ↦ subst (λ t. HasFront (b ∷ c ∷ bs) (cond t pair itself)) (sym q.0)
            (pair_front b c bs (escaped c) (content_before_quote bs) p.0 q.0 refl (content_front bs))
        | inr q ↦ subst (λ t. HasFront (b ∷ c ∷ bs) (cond t pair itself)) (sym q.0)
            (if_itself_front b (c ∷ bs) (content_before_quote (c ∷ bs)) (stands_for_itself b) refl p.0 q.0 (content_front (c ∷ bs)))
      ])
    ]

-- The text with its quotes, cut where it ends.
abbrev StandsAlone : List ℕ → List ℕ × List ℕ → Type 0
StandsAlone bs text = is_some (unquoted (take (1 + (length bs - length text.1)) (34 ∷ bs))) ≡ true

alone : (bs : List ℕ) (text : List ℕ × List ℕ) → nat_le (length text.0) 1024 ≡ true → IsFront bs text → StandsAlone bs text
alone bs text short front =
    let at : 1 + (length bs - length text.1) ≡ suc front.0 = omega (arith, front.1) in
    let limit : List ℕ × List ℕ → Option (List ℕ × List ℕ) = λ x. cond (nat_le (length x.0) 1024) (Some x) None in
    ap (λ n. is_some (unquoted (take n (34 ∷ bs)))) at
    ∙ ap (λ o. is_some (option_and_then whole (option_and_then limit o))) front.2
    ∙ ap (λ t. is_some (option_and_then whole (cond t (Some (text.0, [])) None))) short

limited_alone : (bs : List ℕ) (text : List ℕ × List ℕ) (t : Bool) → nat_le (length text.0) 1024 ≡ t → IsFront bs text
    → IfSome (cond t (Some text) None) (StandsAlone bs)
limited_alone bs text true short front = alone bs text short front
limited_alone bs text false short front = tt

each_alone : (bs : List ℕ) (o : Option (List ℕ × List ℕ)) → HasFront bs o
    → IfSome (option_and_then (λ text. cond (nat_le (length text.0) 1024) (Some text) None) o) (StandsAlone bs)
each_alone bs None front = tt
each_alone bs (Some text) front = limited_alone bs text (nat_le (length text.0) 1024) refl front

pub text_stands_alone : (bs : List ℕ) → IfSome (text_behind_quote bs) (λ text. is_some (unquoted (take (1 + (length bs - length text.1)) (34 ∷ bs))) ≡ true)
text_stands_alone bs = each_alone bs (content_before_quote bs) (content_front bs)

-- The word of a text that stands before other bytes, without its opening quote.
abbrev HasWord : List ℕ → List ℕ × List ℕ → Type 0
HasWord bs text = (word : List ℕ) × (bs ≡ word ++ text.1) × (unquoted (34 ∷ word) ≡ Some text.0)

word_cut : (bs : List ℕ) (text : List ℕ × List ℕ) → nat_le (length text.0) 1024 ≡ true → IsFront bs text → HasWord bs text
word_cut bs text short front =
    let limit : List ℕ × List ℕ → Option (List ℕ × List ℕ) = λ x. cond (nat_le (length x.0) 1024) (Some x) None in (
      take front.0 bs,
      sym (take-append-drop front.0 bs) ∙ ap (λ xs. take front.0 bs ++ xs) (sym front.3),
      ap (λ o. option_and_then whole (option_and_then limit o)) front.2 ∙ ap (λ t. option_and_then whole (cond t (Some (text.0, [])) None)) short,
    )

limited_word : (bs : List ℕ) (text : List ℕ × List ℕ) (t : Bool) → nat_le (length text.0) 1024 ≡ t → IsFront bs text
    → IfSome (cond t (Some text) None) (HasWord bs)
limited_word bs text true short front = word_cut bs text short front
limited_word bs text false short front = tt

each_word : (bs : List ℕ) (o : Option (List ℕ × List ℕ)) → HasFront bs o
    → IfSome (option_and_then (λ text. cond (nat_le (length text.0) 1024) (Some text) None) o) (HasWord bs)
each_word bs None front = tt
each_word bs (Some text) front = limited_word bs text (nat_le (length text.0) 1024) refl front

pub text_word : (bs content rest : List ℕ) → text_behind_quote bs ≡ Some (content, rest) → (word : List ℕ) × (bs ≡ word ++ rest) × (unquoted (34 ∷ word) ≡ Some content)
text_word bs content rest e = subst (λ o. IfSome o (HasWord bs)) e (each_word bs (content_before_quote bs) (content_front bs))
