-- The names of types by their numbers, and the lines of shapes and carries from a place on.
use Rattle.std.proofs.Common.{◌≡◌, ℕ, zero, suc, ◌-◌, refl, ap, ◌∙◌, List, [], ◌∷◌, ◌++◌, codes, drop, map, Option, Some, None, slice_get, append_assoc, append-nil, arith}
use Rattle.aw_term.specs.Rules.{get}
use Rattle.aw_grammar.specs.declared.rule.Con as decl
use Rattle.aw_grammar.specs.declared.rule.Sort.{Sort}
use Rattle.aw_typed.specs.declared.data.Shape.{Shape}
use Rattle.aw_typed.specs.declared.data.Carry.{Carry}
use Rattle.aw_spec_writer.specs.LineTexts.{names_text, text_of_lines}
use Rattle.aw_spec_writer.specs.SpecLines.{shape_line, shape_lines, carry_line, carry_lines}

-- the line of an item, and those of the items behind it
pub shapes_from : (all : List (List ℕ)) (os : List (Option Shape)) (cons : List decl.Con) (i : ℕ) (o : Option Shape) (c : decl.Con) → slice_get os i ≡ Some o → slice_get cons i ≡ Some c →
    shape_lines all (drop i os) (drop i cons) ≡ shape_line all c.name o ++ shape_lines all (drop (suc i) os) (drop (suc i) cons)
shapes_from all [] cons i o c e h = cc
shapes_from all (x ∷ os) [] i o c e h = cc
shapes_from all (x ∷ os) (k ∷ cons) zero o c e h =
    let same : x ≡ o = cc in
    let here : k ≡ c = cc in
    ap (λ (y : Option Shape). shape_line all k.name y ++ shape_lines all os cons) same ∙ ap (λ (y : decl.Con). shape_line all y.name o ++ shape_lines all os cons) here
shapes_from all (x ∷ os) (k ∷ cons) (suc i) o c e h = shapes_from all os cons i o c e h

pub carries_from : (all : List (List ℕ)) (os : List (Option Carry)) (sorts : List Sort) (i : ℕ) (o : Option Carry) (s : Sort) → slice_get os i ≡ Some o → slice_get sorts i ≡ Some s →
    carry_lines all (drop i os) (drop i sorts) ≡ carry_line all s.name o ++ carry_lines all (drop (suc i) os) (drop (suc i) sorts)
carries_from all [] sorts i o s e h = cc
carries_from all (x ∷ os) [] i o s e h = cc
carries_from all (x ∷ os) (k ∷ sorts) zero o s e h =
    let same : x ≡ o = cc in
    let here : k ≡ s = cc in
    ap (λ (y : Option Carry). carry_line all k.name y ++ carry_lines all os sorts) same ∙ ap (λ (y : Sort). carry_line all y.name o ++ carry_lines all os sorts) here
carries_from all (x ∷ os) (k ∷ sorts) (suc i) o s e h = carries_from all os sorts i o s e h

-- past the last constructor or sort stands no line
none_of_shapes : (all : List (List ℕ)) (os : List (Option Shape)) → shape_lines all os [] ≡ []
none_of_shapes all [] = refl
none_of_shapes all (o ∷ os) = refl

pub no_shapes_from : (all : List (List ℕ)) (os : List (Option Shape)) (cons : List decl.Con) (i : ℕ) → slice_get cons i ≡ None → shape_lines all (drop i os) (drop i cons) ≡ []
no_shapes_from all os [] zero h = none_of_shapes all os
no_shapes_from all os [] (suc i) h = none_of_shapes all (drop (suc i) os)
no_shapes_from all os (k ∷ cons) zero h = cc
no_shapes_from all [] (k ∷ cons) (suc i) h = refl
no_shapes_from all (o ∷ os) (k ∷ cons) (suc i) h = no_shapes_from all os cons i h

none_of_carries : (all : List (List ℕ)) (os : List (Option Carry)) → carry_lines all os [] ≡ []
none_of_carries all [] = refl
none_of_carries all (o ∷ os) = refl

pub no_carries_from : (all : List (List ℕ)) (os : List (Option Carry)) (sorts : List Sort) (i : ℕ) → slice_get sorts i ≡ None → carry_lines all (drop i os) (drop i sorts) ≡ []
no_carries_from all os [] zero h = none_of_carries all os
no_carries_from all os [] (suc i) h = none_of_carries all (drop (suc i) os)
no_carries_from all os (k ∷ sorts) zero h = cc
no_carries_from all [] (k ∷ sorts) (suc i) h = refl
no_carries_from all (o ∷ os) (k ∷ sorts) (suc i) h = no_carries_from all os sorts i h

-- behind two names
pub got_behind : (a b : List ℕ) (names : List (List ℕ)) (n : ℕ) → (n ≡ 0 → ⊥) → (n ≡ 1 → ⊥) → get [] names (n - 2) ≡ get [] (a ∷ b ∷ names) n
got_behind a b names zero h k = absurd (h refl)
got_behind a b names (suc zero) h k = absurd (k refl)
got_behind a b names (suc (suc n)) h k = let same : suc (suc n) - 2 ≡ n = omega arith in ap (get [] names) same

-- the name at a place
pub got_at : (names : List (List ℕ)) (i : ℕ) (x : List ℕ) → slice_get names i ≡ Some x → get [] names i ≡ x
got_at [] i x h = cc
got_at (y ∷ names) zero x h = cc
got_at (y ∷ names) (suc i) x h = got_at names i x h

pub got_none : (names : List (List ℕ)) (i : ℕ) → slice_get names i ≡ None → get [] names i ≡ []
got_none [] i h = refl
got_none (y ∷ names) zero h = cc
got_none (y ∷ names) (suc i) h = got_none names i h

-- the parts of the line of a carry, one behind the other
grouped : (t a s b n c m d e : List ℕ) → ((((((t ++ a) ++ s) ++ b) ++ n) ++ c) ++ m) ++ (d ++ e) ≡ t ++ ((a ++ (s ++ (b ++ (n ++ (c ++ (m ++ d)))))) ++ (e ++ []))
grouped t a s b n c m d e = simp (append_assoc, append-nil)

pub carry_added : (all : List (List ℕ)) (sort : List ℕ) (k : Carry) (t0 t1 t2 t3 t4 t5 t6 t7 : List ℕ) → t1 ≡ t0 ++ codes "carry " → t2 ≡ t1 ++ sort →
    t3 ≡ t2 ++ codes " (" → t4 ≡ t3 ++ names_text (map (get [] all) k.takes) → t5 ≡ t4 ++ codes ")<" → t6 ≡ t5 ++ names_text
    (map (get [] all) k.gives) → t7 ≡ t6 ++ codes ">\n" →
    t7 ≡ t0 ++ text_of_lines (carry_line all sort (Some k))
carry_added all sort k t0 t1 t2 t3 t4 t5 t6 t7 e1 e2 e3 e4 e5 e6 e7 =
    let n = names_text (map (get [] all) k.takes) in
    let m = names_text (map (get [] all) k.gives) in
    e7 ∙ ap (λ u. u ++ codes ">\n") (e6 ∙ ap (λ u. u ++ m) (e5 ∙ ap (λ u. u ++ codes ")<") (e4 ∙ ap (λ u. u ++ n) (e3 ∙ ap (λ u. u ++ codes " (") (e2 ∙ ap (λ u. u ++ sort) e1)))))
    ∙ grouped t0 (codes "carry ") sort (codes " (") n (codes ")<") m (codes ">") (codes "\n")
