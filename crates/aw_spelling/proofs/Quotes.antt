-- A text between quotes, byte by byte.
use Rattle.std.proofs.Common.{◌≡◌, ℕ, ◌+◌, ◌<◌, refl, sym, ◌∙◌, ap, Bool, true, false, cond, List, [], ◌∷◌, ◌++◌, take, drop, length, arith, Option}
use Rattle.std.proofs.Common.{Some, None, option_map, option_and_then, nat_le, ◌==◌, suc, subst, inl, inr, ◌&&◌, ◌||◌, not, IfSome, IfOk, Result, Ok}
use Rattle.std.proofs.Common.{Err, flat_map, append_assoc, append-nil, length-append, length-take-le, get_or, ◌≤◌}
use Rattle.std.proofs.lemmas.Bool.{lt-leb, and_parts}
use Rattle.std.proofs.lemmas.Bool.Decides.{nat_tests, eqb_tells}
use Rattle.std.proofs.lemmas.List.{drop_more}
use Rattle.std.specs.List.{list_all, prefix_len}
use Rattle.aw_spelling.specs.Pieces.{run_len, with_run}
use Rattle.aw_spelling.specs.Spelling.{with_front, content_before_quote, text_behind_quote, whole, unquoted, quoted, spelled, escaped, stands_for_itself, is_content, is_content_byte}

-- what follows the closing quote, where k bytes of the content stand before
abbrev pub end_after : ℕ → Option (List ℕ × List ℕ) → Option (List ℕ)
end_after k None = None
end_after k (Some text) = cond (nat_le (k + length text.0) 1024) (Some text.1) None

limited : (text : List ℕ × List ℕ) (t : Bool) → cond t (Some text.1) None ≡ option_map {T = List ℕ × List ℕ} (λ x. x.1) (cond t (Some text) None)
limited text true = refl
limited text false = refl

pub end_at_start : (o : Option (List ℕ × List ℕ)) → end_after 0 o ≡ option_map (λ x. x.1) (option_and_then (λ text. cond (nat_le (length text.0) 1024) (Some text) None) o)
end_at_start None = refl
end_at_start (Some text) = ap (λ n. cond (nat_le n 1024) (Some text.1) None) (omega arith) ∙ limited text (nat_le (length text.0) 1024)

pub end_one_more : (k b : ℕ) (o : Option (List ℕ × List ℕ)) → end_after k (option_map (with_front b) o) ≡ end_after (k + 1) o
end_one_more k b None = refl
end_one_more k b (Some text) = ap (λ n. cond (nat_le n 1024) (Some text.1) None) (omega arith)

pub end_too_long : (k : ℕ) (o : Option (List ℕ × List ℕ)) → 1024 < k → end_after k o ≡ None
end_too_long k None h = refl
end_too_long k (Some text) h = grind (arith, nat_tests)

-- The same where the content is kept.
abbrev pub text_after : List ℕ → Option (List ℕ × List ℕ) → Option (List ℕ × List ℕ)
text_after front None = None
text_after front (Some text) = cond (nat_le (length front + length text.0) 1024) (Some (front ++ text.0, text.1)) None

pub text_at_start : (o : Option (List ℕ × List ℕ)) → text_after [] o ≡ option_and_then (λ text. cond (nat_le (length text.0) 1024) (Some text) None) o
text_at_start None = refl
text_at_start (Some text) = ap (λ n. cond (nat_le n 1024) (Some text) None) (omega arith)

pub text_one_more : (front : List ℕ) (b : ℕ) (o : Option (List ℕ × List ℕ)) → text_after front (option_map (with_front b) o) ≡ text_after (front ++ b ∷ []) o
text_one_more front b None = refl
text_one_more front b (Some text) =
    let same : length front + suc (length text.0) ≡ length (front ++ b ∷ []) + length text.0 = omega (arith, length-append front (b ∷ [])) in
    λ i. cond (nat_le (same i) 1024) (Some (sym (append_assoc front (b ∷ []) text.0) i, text.1)) None

pub text_too_long : (front : List ℕ) (o : Option (List ℕ × List ℕ)) → 1024 < length front → text_after front o ≡ None
text_too_long front None h = refl
text_too_long front (Some text) h = ap (λ t. cond t (Some (front ++ text.0, text.1)) None) (lt-leb (length front + length text.0) 1024 (omega (arith, h)))

short_enough : (n : ℕ) → n ≤ 1024 → nat_le n 1024 ≡ true
short_enough n h = grind (arith, nat_tests)

-- the closing quote stands next
pub text_closes : (front rest : List ℕ) → length front ≤ 1024 → text_after front (Some ([], rest)) ≡ Some (front, rest)
text_closes front rest h =
    ap (λ t. cond t (Some (front ++ [], rest)) None) (short_enough (length front + 0) (omega (arith, h)))
    ∙ ap (λ xs. Some (xs, rest)) (append-nil front)

-- Several bytes that stand for themselves.
pub end_run : (k : ℕ) (run : List ℕ) (o : Option (List ℕ × List ℕ)) → end_after k (option_map (with_run run) o) ≡ end_after (k + length run) o
end_run k run None = refl
end_run k run (Some text) = ap (λ n. cond (nat_le n 1024) (Some text.1) None) (omega (arith, length-append run text.0))

pub text_run : (front run : List ℕ) (o : Option (List ℕ × List ℕ)) → text_after front (option_map (with_run run) o) ≡ text_after (front ++ run) o
text_run front run None = refl
text_run front run (Some text) =
    let same : length front + length (run ++ text.0) ≡ length (front ++ run) + length text.0 = omega (arith, length-append front run, length-append run text.0) in
    λ i. cond (nat_le (same i) 1024) (Some (sym (append_assoc front run text.0) i, text.1)) None

-- as many bytes as come before the first that does not
pub run_prefix : (bs : List ℕ) → run_len bs ≡ prefix_len stands_for_itself bs
run_prefix [] = refl
run_prefix (b ∷ bs) =
    let one_more : suc (run_len bs) ≡ 1 + prefix_len stands_for_itself bs = omega (arith, run_prefix bs) in
    ap (λ n. cond (stands_for_itself b) n 0) one_more

no_run : (o : Option (List ℕ × List ℕ)) → o ≡ option_map (with_run []) o
no_run None = refl
no_run (Some text) = refl

longer_run : (b : ℕ) (run : List ℕ) (o : Option (List ℕ × List ℕ)) → option_map (with_front b) (option_map (with_run run) o) ≡ option_map (with_run (b ∷ run)) o
longer_run b run None = refl
longer_run b run (Some text) = refl

three_parts : (u x y v : Bool) → (u && (not x && (not y && v))) ≡ true → (x ≡ false) × (y ≡ false)
three_parts true false false true h = (refl, refl)
three_parts false x y v h = absurd cc
three_parts true true y v h = absurd cc
three_parts true false true v h = absurd cc
three_parts true false false false h = absurd cc

not_special : (b : ℕ) → stands_for_itself b ≡ true → ((b == 34) ≡ false) × ((b == 92) ≡ false)
not_special b h = three_parts (nat_le 32 b) (b == 34) (b == 92) (not (b == 127)) h

-- What is printed is read again.
pub plain_piece : (b : ℕ) (rest : List ℕ) → (b == 34) ≡ false → (b == 92) ≡ false → stands_for_itself b ≡ true
    → content_before_quote (b ∷ rest) ≡ option_map (with_front b) (content_before_quote rest)
plain_piece b [] e f h = simp e
plain_piece b (c ∷ bs) e f h =
    let itself = option_map (with_front b) (content_before_quote (c ∷ bs)) in
    let pair = option_and_then (λ x. option_map (with_front x) (content_before_quote bs)) (escaped c) in
    ap (λ t. cond t (Some ([], c ∷ bs)) (cond (b == 92) pair (cond (stands_for_itself b) itself None))) e
    ∙ ap (λ t. cond t pair (cond (stands_for_itself b) itself None)) f
    ∙ ap (λ t. cond t itself None) h

run_step : (b : ℕ) (bs : List ℕ) (t : Bool) → stands_for_itself b ≡ t → content_before_quote bs ≡ option_map (with_run (take (run_len bs) bs)) (content_before_quote (drop (run_len bs) bs))
    → let n = cond t (suc (run_len bs)) 0 in content_before_quote (b ∷ bs) ≡ option_map (with_run (take n (b ∷ bs))) (content_before_quote (drop n (b ∷ bs)))
run_step b bs true h e =
    let plain = not_special b h in
    plain_piece b bs plain.0 plain.1 h ∙ ap (option_map (with_front b)) e ∙ longer_run b (take (run_len bs) bs) (content_before_quote (drop (run_len bs) bs))
run_step b bs false h e = no_run (content_before_quote (b ∷ bs))

pub run_piece : (bs : List ℕ) → content_before_quote bs ≡ option_map (with_run (take (run_len bs) bs)) (content_before_quote (drop (run_len bs) bs))
run_piece [] = refl
run_piece (b ∷ bs) = run_step b bs (stands_for_itself b) refl (run_piece bs)

-- A content whose bytes all stand for themselves, with the closing quote behind it.
close_here : (rest : List ℕ) → content_before_quote (34 ∷ rest) ≡ Some ([], rest)
close_here [] = refl
close_here (b ∷ bs) = refl

plain_content : (bs : List ℕ) (k : ℕ) → k ≡ run_len bs → k < length bs → get_or bs k 0 ≡ 34 → content_before_quote bs ≡ Some (take k bs, drop (k + 1) bs)
plain_content bs k n l e =
    run_piece bs
    ∙ ap (λ j. option_map (with_run (take j bs)) (content_before_quote (drop j bs))) (sym n)
    ∙ ap (λ xs. option_map (with_run (take k bs)) (content_before_quote xs)) (drop_more bs k 0 l ∙ ap (λ b. b ∷ drop (k + 1) bs) e)
    ∙ ap (option_map (with_run (take k bs))) (close_here (drop (k + 1) bs))
    ∙ ap (λ xs. Some (xs, drop (k + 1) bs)) (append-nil (take k bs))

pub plain_text : (bs : List ℕ) (k : ℕ) → k ≡ run_len bs → k < length bs → get_or bs k 0 ≡ 34 → k ≤ 1024
    → text_behind_quote bs ≡ Some (take k bs, drop (k + 1) bs)
plain_text bs k n l e short =
    let text : List ℕ × List ℕ = (take k bs, drop (k + 1) bs) in
    let long : length (take k bs) ≡ k = length-take-le k bs (omega (arith, l)) in
    ap (option_and_then (λ x. cond (nat_le (length x.0) 1024) (Some x) None)) (plain_content bs k n l e)
    ∙ ap (λ t. cond t (Some text) None) (ap (λ m. nat_le m 1024) long ∙ short_enough k short)

-- how a content is spelled whose bytes all stand for themselves
itself_spelled : (b : ℕ) → stands_for_itself b ≡ true → spelled b ≡ b ∷ []
itself_spelled b h =
    let plain = not_special b h in
    let line : (b == 10) ≡ false = grind (arith, nat_tests) in
    simp (plain.0, plain.1, line)

plain_spelled_step : (b : ℕ) (bs : List ℕ) (t : Bool) → stands_for_itself b ≡ t → cond t (suc (run_len bs)) 0 ≡ suc (length bs)
    → (run_len bs ≡ length bs → flat_map spelled bs ≡ bs) → spelled b ++ flat_map spelled bs ≡ b ∷ bs
plain_spelled_step b bs true h e rest = ap (λ xs. xs ++ flat_map spelled bs) (itself_spelled b h) ∙ ap (λ xs. b ∷ xs) (rest (omega (arith, e)))
plain_spelled_step b bs false h e rest = absurd (omega (arith, e))

pub plain_spelled : (bs : List ℕ) → run_len bs ≡ length bs → flat_map spelled bs ≡ bs
plain_spelled [] e = refl
plain_spelled (b ∷ bs) e = plain_spelled_step b bs (stands_for_itself b) refl e (plain_spelled bs)

stands : (b : ℕ) → is_content_byte b ≡ true → (b == 34) ≡ false → (b == 92) ≡ false → (b == 10) ≡ false → stands_for_itself b ≡ true
stands b h e f g = simp (e, f) (simp g at h)

piece_again : (b : ℕ) (rest : List ℕ) → is_content_byte b ≡ true → content_before_quote (spelled b ++ rest) ≡ option_map (with_front b) (content_before_quote rest)
piece_again b rest h =
    let P : ℕ → Type 0 = λ x. content_before_quote (spelled x ++ rest) ≡ option_map (with_front x) (content_before_quote rest) in
    elim (eqb_tells b 34) [
      | inl p ↦ subst P (sym p.1) refl
      | inr p ↦ elim (eqb_tells b 92) [
        | inl q ↦ subst P (sym q.1) refl
        | inr q ↦ elim (eqb_tells b 10) [
          | inl r ↦ subst P (sym r.1) refl
          | inr r ↦ simp (p.0, q.0, r.0) (plain_piece b rest p.0 q.0 (stands b h p.0 q.0 r.0))
        ]
      ]
    ]

content_again : (c rest : List ℕ) → list_all is_content_byte c ≡ true → content_before_quote (flat_map spelled c ++ 34 ∷ rest) ≡ Some (c, rest)
content_again [] rest h = close_here rest
content_again (b ∷ bs) rest h =
    let parts = and_parts (is_content_byte b) (list_all is_content_byte bs) h in
    ap content_before_quote (append_assoc (spelled b) (flat_map spelled bs) (34 ∷ rest))
    ∙ piece_again b (flat_map spelled bs ++ 34 ∷ rest) parts.0
    ∙ ap (option_map (with_front b)) (content_again bs rest parts.1)

pub text_again : (c rest : List ℕ) → is_content c ≡ true → text_behind_quote (flat_map spelled c ++ 34 ∷ rest) ≡ Some (c, rest)
text_again c rest h =
    let parts = and_parts (nat_le (length c) 1024) (list_all is_content_byte c) h in
    ap (option_and_then (λ text. cond (nat_le (length text.0) 1024) (Some text) None)) (content_again c rest parts.1)
    ∙ ap (λ t. cond t (Some (c, rest)) None) parts.0

pub unquoted_quoted : (c : List ℕ) → is_content c ≡ true → unquoted (quoted c) ≡ Some c
unquoted_quoted c h = ap (option_and_then whole) (text_again c [] h)

-- What is read is a content.
abbrev AllContent : Option (List ℕ × List ℕ) → Type 0
AllContent o = IfSome o (λ text. list_all is_content_byte text.0 ≡ true)

escaped_is_content : (c : ℕ) → IfSome (escaped c) (λ e. is_content_byte e ≡ true)
escaped_is_content c =
    elim (c == 34) as (λ t. IfSome (cond t (Some 34) (cond (c == 92) (Some 92) (cond (c == 110) (Some 10) None))) (λ e. is_content_byte e ≡ true)) [
      | true ↦ refl
      | false ↦ elim (c == 92) as (λ t. IfSome (cond t (Some 92) (cond (c == 110) (Some 10) None)) (λ e. is_content_byte e ≡ true)) [
        | true ↦ refl
        | false ↦ elim (c == 110) as (λ t. IfSome (cond t (Some 10) None) (λ e. is_content_byte e ≡ true)) [ true ↦ refl | false ↦ tt ]
      ]
    ]

both_parts : (u v x y w : Bool) → (x && (u && (v && w))) ≡ true → (y || (x && w)) ≡ true
both_parts true true true true true h = refl
both_parts true true true false true h = refl
both_parts u v false y w h = absurd cc
both_parts false v true y w h = absurd cc
both_parts true false true y w h = absurd cc
both_parts true true true y false h = absurd cc

itself_is_content : (b : ℕ) → stands_for_itself b ≡ true → is_content_byte b ≡ true
itself_is_content b h = both_parts (not (b == 34)) (not (b == 92)) (nat_le 32 b) (b == 10) (not (b == 127)) h

front_is_content : (b : ℕ) (o : Option (List ℕ × List ℕ)) → is_content_byte b ≡ true → AllContent o → AllContent (option_map (with_front b) o)
front_is_content b None h k = tt
front_is_content b (Some text) h k = ap (λ t. t && list_all is_content_byte text.0) h ∙ k

pair_is_content : (e : Option ℕ) (o : Option (List ℕ × List ℕ)) → IfSome e (λ x. is_content_byte x ≡ true) → AllContent o
    → AllContent (option_and_then (λ x. option_map (with_front x) o) e)
pair_is_content None o h k = tt
pair_is_content (Some x) o h k = front_is_content x o h k

if_is_content : (b : ℕ) (t : Bool) (o : Option (List ℕ × List ℕ)) → (t ≡ true → is_content_byte b ≡ true) → AllContent o → AllContent (cond t (option_map (with_front b) o) None)
if_is_content b true o h k = front_is_content b o (h refl) k
if_is_content b false o h k = tt

content_bytes : (bs : List ℕ) → AllContent (content_before_quote bs)
content_bytes [] = tt
content_bytes (b ∷ []) = elim (b == 34) as (λ t. AllContent (cond t (Some ([], [])) None)) [ true ↦ refl | false ↦ tt ]
content_bytes (b ∷ c ∷ bs) =
    let itself = cond (stands_for_itself b) (option_map (with_front b) (content_before_quote (c ∷ bs))) None in
    let pair = option_and_then (λ x. option_map (with_front x) (content_before_quote bs)) (escaped c) in
    elim (b == 34) as (λ t. AllContent (cond t (Some ([], c ∷ bs)) (cond (b == 92) pair itself))) [
      | true ↦ refl
      | false ↦ elim (b == 92) as (λ t. AllContent (cond t pair itself)) [
        | true ↦ pair_is_content (escaped c) (content_before_quote bs) (escaped_is_content c) (content_bytes bs)
        | false ↦ if_is_content b (stands_for_itself b) (content_before_quote (c ∷ bs)) (itself_is_content b) (content_bytes (c ∷ bs))
      ]
    ]

limit_is_content : (text : List ℕ × List ℕ) (t : Bool) → nat_le (length text.0) 1024 ≡ t → list_all is_content_byte text.0 ≡ true
    → IfSome (cond t (Some text) None) (λ x. is_content x.0 ≡ true)
limit_is_content text true e h = ap (λ u. u && list_all is_content_byte text.0) e ∙ h
limit_is_content text false e h = tt

limited_is_content : (o : Option (List ℕ × List ℕ)) → AllContent o
    → IfSome (option_and_then (λ text. cond (nat_le (length text.0) 1024) (Some text) None) o) (λ x. is_content x.0 ≡ true)
limited_is_content None h = tt
limited_is_content (Some text) h = limit_is_content text (nat_le (length text.0) 1024) refl h

pub text_is_content : (bs : List ℕ) → IfSome (text_behind_quote bs) (λ text. is_content text.0 ≡ true)
text_is_content bs = limited_is_content (content_before_quote bs) (content_bytes bs)

whole_is_content : (o : Option (List ℕ × List ℕ)) → IfSome o (λ text. is_content text.0 ≡ true) → IfSome (option_and_then whole o) (λ c. is_content c ≡ true)
whole_is_content None h = tt
whole_is_content (Some text) h = elim (length text.1 == 0) as (λ t. IfSome (cond t (Some text.0) None) (λ c. is_content c ≡ true)) [ true ↦ h | false ↦ tt ]

pub unquoted_is_content : (bs : List ℕ) → IfSome (unquoted bs) (λ c. is_content c ≡ true)
unquoted_is_content [] = tt
unquoted_is_content (b ∷ bs) =
    elim (b == 34) as (λ t. IfSome (cond t (option_and_then whole (text_behind_quote bs)) None) (λ c. is_content c ≡ true)) [
      | true ↦ whole_is_content (text_behind_quote bs) (text_is_content bs)
      | false ↦ tt
    ]

pub read_is_content : {E : Type 0} (r : Result (Option (List ℕ)) E) (bs : List ℕ) → IfOk r (λ content. content ≡ option_and_then whole (text_behind_quote bs))
    → IfOk r (λ content. IfSome content (λ c. is_content c ≡ true))
read_is_content (Ok content) bs e = subst (λ o. IfSome o (λ c. is_content c ≡ true)) (sym e) (whole_is_content (text_behind_quote bs) (text_is_content bs))
read_is_content (Err x) bs e = tt
