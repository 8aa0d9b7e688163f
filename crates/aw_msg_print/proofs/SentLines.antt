-- The lines of messages, and of the equations that they carry.
use Rattle.std.proofs.Common.{◌≡◌, ℕ, zero, suc, ◌+◌, ◌-◌, ◌≤◌, arith, List, [], ◌∷◌, ◌++◌, length, map, drop, get_or, codes, flat_map, ap, sym, ◌∙◌, Some, slice_get, append_assoc, append-nil}
use Rattle.std.specs.Prelude.{Result, Ok, Err, OnOk}
use Rattle.aw_term.specs.Artifacts.{Words, joined}
use Rattle.aw_apply.specs.Messages.{Message}
use Rattle.aw_store.specs.declared.equation.Equation.{Equation}
use Rattle.aw_store.specs.EquationView.{equation_of}
use Rattle.aw_law_sites.specs.Transcripts.{equation_text, load_text, sent_line, sent_lines}

-- the first equation, and each other one behind a separator
joined_first : (w : Words) (x : Equation) (xs : List Equation) → joined (codes "; ") (map (equation_text w) (map equation_of (x ∷ xs)))
    ≡ equation_text w (equation_of x) ++ flat_map (λ e. codes "; " ++ equation_text w (equation_of e)) xs
joined_first w x [] = sym (append-nil (equation_text w (equation_of x)))
joined_first w x (y ∷ ys) =
    ap (λ t. equation_text w (equation_of x) ++ (codes "; " ++ t)) (joined_first w y ys)
    ∙ ap (λ t. equation_text w (equation_of x) ++ t) (sym (append_assoc (codes "; ") (equation_text w (equation_of y)) (flat_map (λ e. codes "; " ++ equation_text w (equation_of e)) ys)))

pub load_split : (w : Words) (es : List Equation) (x : Equation) (rest : List Equation) → 1 ≤ length es → x ≡ get_or es 0 x → rest ≡ drop 1 es
    → codes " with " ++ (equation_text w (equation_of x) ++ flat_map (λ e. codes "; " ++ equation_text w (equation_of e)) rest) ≡ load_text w (map equation_of es)
load_split w [] x rest l e d = absurd (omega (arith, l))
load_split w (y ∷ ys) x rest l e d =
    ap (λ t. codes " with " ++ (equation_text w (equation_of x) ++ flat_map (λ e. codes "; " ++ equation_text w (equation_of e)) t)) d
    ∙ ap (λ t. codes " with " ++ (equation_text w (equation_of t) ++ flat_map (λ e. codes "; " ++ equation_text w (equation_of e)) ys)) e
    ∙ ap (λ t. codes " with " ++ t) (sym (joined_first w y ys))

-- a text to which three texts were added
pub added_thrice : {T E : Type 0} (r : Result T E) (old a b rest one two new whole : List ℕ) → one ≡ old ++ a → two ≡ one ++ b →
    a ++ (b ++ rest) ≡ whole → OnOk r (new ≡ two ++ rest) → OnOk r (new ≡ old ++ whole)
added_thrice (Ok x) old a b rest one two new whole e f g h =
    h ∙ ap (λ t. t ++ rest) (f ∙ ap (λ t. t ++ b) e ∙ append_assoc old a b) ∙ append_assoc old (a ++ b) rest ∙ ap (λ t. old ++ t) (append_assoc a b rest ∙ g)
added_thrice (Err x) old a b rest one two new whole e f g h = h

drop_here : {A : Type 0} (xs : List A) (i j : ℕ) (x : A) → j ≡ i + 1 → slice_get xs i ≡ Some x → drop i xs ≡ x ∷ drop j xs
drop_here [] i j x n e = absurd cc
drop_here (y ∷ xs) zero j x n e = let same : y ≡ x = cc in let one : 1 ≡ j = omega (arith, n) in ap (λ z. z ∷ xs) same ∙ ap (λ k. x ∷ drop k (y ∷ xs)) one
drop_here (y ∷ xs) (suc i) zero x n e = absurd (omega (arith, n))
drop_here (y ∷ xs) (suc i) (suc j) x n e = drop_here xs i j x (omega (arith, n)) e

-- the line of one message in front of those behind it
pub sent_drop : (w : Words) (xs : List Message) (i j : ℕ) (x : Message) → j ≡ i + 1 → slice_get xs i ≡ Some x → sent_lines w i (drop i xs) ≡ sent_line w i x ++ sent_lines w j (drop j xs)
sent_drop w xs i j x n e =
    let next : suc i ≡ j = omega (arith, n) in
    ap (sent_lines w i) (drop_here xs i j x n e) ∙ ap (λ k. sent_line w i x ++ sent_lines w k (drop j xs)) next
