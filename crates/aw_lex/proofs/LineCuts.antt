-- Lines, cut at the first line feed.
use Rattle.std.proofs.Common.{◌≡◌, ℕ, ◌++◌, append-nil, ◌+◌, ◌<◌, refl, sym, ◌∙◌, ap, false, cond, ◌==◌, List, [], ◌∷◌, length, arith, Option, Some, None}
use Rattle.std.proofs.lemmas.Bool.{ne_eqb}
use Rattle.std.proofs.lemmas.Bool.Decides.{nat_tests}
use Rattle.aw_spelling.specs.Spelling.{cut}
use Rattle.aw_spelling.proofs.Cuts.{split_after, split_by_cut}
use Rattle.aw_lex.specs.Lines.{lines_of, without_empty_last}

more_follow : (line text : List ℕ) (o : Option (List ℕ × List ℕ)) → without_empty_last (line ∷ split_after 10 text o) ≡ line ∷ without_empty_last (split_after 10 text o)
more_follow line text None = refl
more_follow line text (Some halves) = refl

pub lines_by_cut : (line text rest : List ℕ) → cut 10 text ≡ Some (line, rest) → lines_of text ≡ line ∷ lines_of rest
lines_by_cut line text rest e =
    ap without_empty_last (split_by_cut 10 text ∙ ap (split_after 10 text) e ∙ ap (λ xs. line ∷ xs) (split_by_cut 10 rest))
    ∙ more_follow line rest (cut 10 rest)
    ∙ ap (λ xs. line ∷ without_empty_last xs) (sym (split_by_cut 10 rest))

pub last_line : (text : List ℕ) → 0 < length text → cut 10 text ≡ None → lines_of text ≡ text ∷ []
last_line text some e =
    ap without_empty_last (split_by_cut 10 text ∙ ap (split_after 10 text) e) ∙ ap (λ t. cond t [] (text ∷ [])) (ne_eqb (length text) 0 (λ none. omega (arith, none)))

-- The rest is empty, so the line is all.
pub all_is_last : (text line rest : List ℕ) → (length text == 0) ≡ false → cut 10 text ≡ None → text ≡ line ++ rest → length rest + length text ≡ length text
    → lines_of text ≡ line ∷ lines_of rest
all_is_last text line [] some e parts short = last_line text (grind (arith, nat_tests)) e ∙ ap (λ xs. xs ∷ []) (parts ∙ append-nil line)
all_is_last text line (b ∷ bs) some e parts short = absurd (omega arith)
