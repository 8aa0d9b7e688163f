-- Line feeds in front of a text: each is an empty line, and changes nothing.
use Rattle.std.proofs.Common.{◌≡◌, ℕ, suc, ◌+◌, refl, sym, ap, ◌∙◌, arith, Bool, true, false, cond, ◌==◌, List, [], ◌∷◌, drop, Some, option_map}
use Rattle.std.specs.List.{prefix_len}
use Rattle.aw_spelling.specs.Spelling.{cut, with_front}
use Rattle.aw_lex.specs.Lines.{lines_of}
use Rattle.aw_lex.proofs.LineCuts.{lines_by_cut}
use Rattle.aw_spec.specs.Reading.{Draft, read_lines}

-- how many line feeds stand in front
abbrev pub feeds : List ℕ → ℕ
feeds text = prefix_len (λ b. b == 10) text

feed_line : (b : ℕ) (bs : List ℕ) → (b == 10) ≡ true → lines_of (b ∷ bs) ≡ [] ∷ lines_of bs
feed_line b bs e = lines_by_cut [] (b ∷ bs) bs (ap (λ t. cond t (Some ([], bs)) (option_map (with_front b) (cut 10 bs))) e)

one_more : (k : ℕ) → 1 + k ≡ suc k
one_more k = omega arith

-- behind the first line feed
behind_first : (b : ℕ) (bs : List ℕ) → drop (1 + feeds bs) (b ∷ bs) ≡ drop (feeds bs) bs
behind_first b bs = ap (λ m. drop m (b ∷ bs)) (one_more (feeds bs))

-- reading goes on behind them
read_by : (d : Draft) (n b : ℕ) (bs : List ℕ) (t : Bool) → (b == 10) ≡ t → read_lines d (suc n + feeds bs) (lines_of (drop (feeds bs) bs)) ≡ read_lines d (suc n) (lines_of bs)
    → read_lines d (n + cond t (1 + feeds bs) 0) (lines_of (drop (cond t (1 + feeds bs) 0) (b ∷ bs))) ≡ read_lines d n (lines_of (b ∷ bs))
read_by d n b bs true e rest =
    let count : n + (1 + feeds bs) ≡ suc n + feeds bs = omega arith in
    ap (λ m. read_lines d m (lines_of (drop (1 + feeds bs) (b ∷ bs)))) count
    ∙ ap (λ r. read_lines d (suc n + feeds bs) (lines_of r)) (behind_first b bs)
    ∙ rest ∙ sym (ap (read_lines d n) (feed_line b bs e))
read_by d n b bs false e rest = let count : n + 0 ≡ n = omega arith in ap (λ m. read_lines d m (lines_of (b ∷ bs))) count

pub feeds_read : (d : Draft) (n : ℕ) (text : List ℕ) → read_lines d (n + feeds text) (lines_of (drop (feeds text) text)) ≡ read_lines d n (lines_of text)
feeds_read d n [] = let count : n + 0 ≡ n = omega arith in ap (λ m. read_lines d m (lines_of [])) count
feeds_read d n (b ∷ bs) = read_by d n b bs (b == 10) refl (feeds_read d (suc n) bs)

-- as many lines are left out
dropped_by : (b : ℕ) (bs : List ℕ) (t : Bool) → (b == 10) ≡ t → lines_of (drop (feeds bs) bs) ≡ drop (feeds bs) (lines_of bs)
    → lines_of (drop (cond t (1 + feeds bs) 0) (b ∷ bs)) ≡ drop (cond t (1 + feeds bs) 0) (lines_of (b ∷ bs))
dropped_by b bs true e rest =
    ap lines_of (behind_first b bs) ∙ rest
    ∙ sym (ap (drop (1 + feeds bs)) (feed_line b bs e) ∙ ap (λ m. drop m ([] ∷ lines_of bs)) (one_more (feeds bs)))
dropped_by b bs false e rest = refl

pub feeds_dropped : (text : List ℕ) → lines_of (drop (feeds text) text) ≡ drop (feeds text) (lines_of text)
feeds_dropped [] = refl
feeds_dropped (b ∷ bs) = dropped_by b bs (b == 10) refl (feeds_dropped bs)
