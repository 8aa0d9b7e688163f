-- Texts that grow by one item after the other.
use Rattle.std.proofs.Common.{◌≡◌, ℕ, refl, sym, ap, ◌∙◌, List, [], ◌∷◌, ◌++◌, codes, append_assoc}
use Rattle.aw_grammar.specs.Written.{Writtens, Empty, Then}
use Rattle.aw_spec.specs.Lines.{Line}
use Rattle.aw_spec_writer.specs.LineTexts.{term_text, parts_behind, line_text, text_of_lines}

-- terms with a separator before the first
abbrev pub separated : List ℕ → Writtens → List ℕ
separated separator Empty = []
separated separator (Then t ts) = separator ++ (term_text t ++ parts_behind ts)

-- lines

pub lines_both : (xs ys : List Line) → text_of_lines (xs ++ ys) ≡ text_of_lines xs ++ text_of_lines ys
lines_both [] ys = refl
lines_both (x ∷ xs) ys =
    ap (λ u. line_text x ++ (codes "\n" ++ u)) (lines_both xs ys)
    ∙ sym (append_assoc (line_text x) (codes "\n" ++ text_of_lines xs) (text_of_lines ys))

pub two_added : (xs ys : List Line) (t0 t1 t2 : List ℕ) → t1 ≡ t0 ++ text_of_lines xs → t2 ≡ t1 ++ text_of_lines ys → t2 ≡ t0 ++ text_of_lines (xs ++ ys)
two_added xs ys t0 t1 t2 e1 e2 =
    e2 ∙ ap (λ u. u ++ text_of_lines ys) e1 ∙ append_assoc t0 (text_of_lines xs) (text_of_lines ys) ∙ ap (λ u. t0 ++ u) (sym (lines_both xs ys))

pub four_added : (xs ys zs vs : List Line) (t0 t1 t2 t3 t4 : List ℕ) → t1 ≡ t0 ++ text_of_lines xs → t2 ≡ t1 ++ text_of_lines ys →
    t3 ≡ t2 ++ text_of_lines zs → t4 ≡ t3 ++ text_of_lines vs → t4 ≡ t0 ++ text_of_lines (xs ++ (ys ++ (zs ++ vs)))
four_added xs ys zs vs t0 t1 t2 t3 t4 e1 e2 e3 e4 =
    two_added xs (ys ++ (zs ++ vs)) t0 t1 t4 e1 (two_added ys (zs ++ vs) t1 t2 t4 e2 (two_added zs vs t2 t3 t4 e3 e4))
