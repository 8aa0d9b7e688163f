-- Reading on by one line.
use Rattle.std.proofs.Common.{◌≡◌, ℕ, zero, suc, ◌+◌, ◌-◌, ◌≤◌, refl, sym, ap, ◌∙◌, add-one, Bool, true, false, cond, ◌==◌, List, [], ◌∷◌, drop, length}
use Rattle.std.proofs.Common.{length-drop, arith, Option, Some, None, option_map, unwrap_or}
use Rattle.std.proofs.lemmas.List.{drop-drop, drop_all}
use Rattle.aw_spelling.specs.Spelling.{cut, with_front}
use Rattle.aw_lex.specs.Lines.{first_line}
use Rattle.aw_spec.specs.Reading.{Draft, LineRead, Next, read_line, after_line, read_lines}

one_read : (d : Draft) (n : ℕ) (line : List ℕ) (left lines : List (List ℕ)) (r : LineRead) → left ≡ line ∷ lines → read_line d line ≡ r →
    read_lines d n left ≡ after_line d (suc n) r (λ next. read_lines next (suc n) lines)
one_read d n line left lines r e h = ap (read_lines d n) e ∙ ap (λ x. after_line d (suc n) x (λ next. read_lines next (suc n) lines)) h

pub next_read : (d next : Draft) (n : ℕ) (line : List ℕ) (left lines : List (List ℕ)) → left ≡ line ∷ lines → read_line d line ≡ Next next → read_lines next (n + 1) lines ≡ read_lines d n left
next_read d next n line left lines e h = ap (λ m. read_lines next m lines) (add-one n) ∙ sym (one_read d n line left lines (Next next) e h)

pub one_dropped : (n : ℕ) (line : List ℕ) (left lines all : List (List ℕ)) → left ≡ line ∷ lines → left ≡ drop n all → lines ≡ drop (n + 1) all
one_dropped n line left lines all e h = ap (drop 1) (sym e ∙ h) ∙ drop-drop 1 n all

-- a suffix of bytes
abbrev pub IsBehind : List ℕ → List ℕ → Type 0
IsBehind rest text = (k : ℕ) × (rest ≡ drop k text)

shorter : (k : ℕ) (bs : List ℕ) → length (drop k bs) ≤ length bs
shorter k bs = omega (arith, length-drop k bs)

by_length : (k : ℕ) (bs : List ℕ) → drop (length bs - length (drop k bs)) bs ≡ drop k bs
by_length zero bs =
    let none : length bs - length bs ≡ 0 = omega arith in
    ap (λ n. drop n bs) none
by_length (suc k) [] = refl
by_length (suc k) (b ∷ bs) =
    let less : suc (length bs) - length (drop k bs) ≡ suc (length bs - length (drop k bs)) = omega (arith, shorter k bs) in
    ap (λ n. drop n (b ∷ bs)) less ∙ by_length k bs

pub behind_by_length : (rest text : List ℕ) → IsBehind rest text → drop (length text - length rest) text ≡ rest
behind_by_length rest text h = ap (λ r. drop (length text - length r) text) h.1 ∙ by_length h.0 text ∙ sym h.1

pub behind_both : (a b text : List ℕ) → IsBehind a b → IsBehind b text → IsBehind a text
behind_both a b text h k = (k.0 + h.0, h.1 ∙ ap (drop h.0) k.1 ∙ drop-drop h.0 k.0 text)

cut_behind : (mark : ℕ) (bs : List ℕ) (halves : List ℕ × List ℕ) → cut mark bs ≡ Some halves → IsBehind halves.1 bs
cut_behind mark [] halves e = cc
cut_behind mark (b ∷ bs) halves e = by_test (λ x k. cut_behind mark bs x k) (b == mark) e
  where
    further : (o : Option (List ℕ × List ℕ)) → ((h : List ℕ × List ℕ) → o ≡ Some h → IsBehind h.1 bs) → option_map (with_front b) o ≡ Some halves → IsBehind halves.1 (b ∷ bs)
    further None later e = cc
    further (Some h) later e =
        let same : with_front b h ≡ halves = cc in
        let found = later h refl in
        (suc found.0, sym (ap (λ (p : List ℕ × List ℕ). p.1) same) ∙ found.1)

    by_test : ((x : List ℕ × List ℕ) → cut mark bs ≡ Some x → IsBehind x.1 bs) → (t : Bool) → cond t (Some ([], bs))
        (option_map (with_front b) (cut mark bs)) ≡ Some halves → IsBehind halves.1 (b ∷ bs)
    by_test later true h =
        let same : ◌≡◌ {A = List ℕ × List ℕ} ([], bs) halves = cc in
        (1, sym (ap (λ (p : List ℕ × List ℕ). p.1) same))
    by_test later false h = further (cut mark bs) later h

pub line_behind : (text : List ℕ) (x : List ℕ × List ℕ) → Some x ≡ first_line text → IsBehind x.1 text
line_behind [] x e = cc
line_behind (b ∷ bs) x e = by_cut (cut 10 (b ∷ bs)) refl e
  where
    by_cut : (o : Option (List ℕ × List ℕ)) → cut 10 (b ∷ bs) ≡ o → Some x ≡ Some (unwrap_or o (b ∷ bs, [])) → IsBehind x.1 (b ∷ bs)
    by_cut None h k =
        let same : ◌≡◌ {A = List ℕ × List ℕ} x (b ∷ bs, []) = cc in
        (length (b ∷ bs), ap (λ (p : List ℕ × List ℕ). p.1) same ∙ sym (drop_all (length (b ∷ bs)) (b ∷ bs) (omega arith)))
    by_cut (Some halves) h k =
        let same : x ≡ halves = cc in
        let found = cut_behind 10 (b ∷ bs) halves h in
        (found.0, ap (λ (p : List ℕ × List ℕ). p.1) same ∙ found.1)
