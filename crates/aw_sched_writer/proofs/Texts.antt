-- The texts of arguments, one behind the other.
use Rattle.std.proofs.Common.{◌≡◌, ℕ, zero, suc, ◌+◌, ◌<◌, List, [], ◌∷◌, ◌++◌, map, take, get_or, length, codes, refl, sym, ap, ◌∙◌, arith, append_assoc}
use Rattle.std.proofs.lemmas.List.{length-map, length-take-le, take_more}
use Rattle.aw_term.specs.Trees.{Never, join}
use Rattle.aw_term.specs.Views.{ground_of}
use Rattle.aw_term.specs.declared.ground.Ground as grounds
use Rattle.aw_term.proofs.ViewLemmas.{ground_con}
use Rattle.aw_term.specs.Rules.{Ground, get}
use Rattle.aw_term.specs.Artifacts as A
use Rattle.aw_term.specs.Artifacts.{Words}

-- what stands before an item
abbrev pub before : ℕ → List ℕ
before zero = []
before (suc n) = codes ", "

pub listed-push : (ts : List (List ℕ)) (t : List ℕ) → A.listed (ts ++ t ∷ []) ≡ A.listed ts ++ (before (length ts) ++ t)
listed-push [] t = refl
listed-push (a ∷ []) t = refl
listed-push (a ∷ b ∷ ts) t = ap (λ x. a ++ (codes ", " ++ x)) (listed-push (b ∷ ts) t)
    ∙ sym (append_assoc a (codes ", " ++ A.listed (b ∷ ts)) (codes ", " ++ t)
    ∙ ap (λ x. a ++ x) (append_assoc (codes ", ") (A.listed (b ∷ ts)) (codes ", " ++ t)))

-- the texts of parts
pub parts_texts : (w : Words) (us : List Ground) → A.trees_texts w (λ (x : Never). elim x [ ]) (join us) ≡ map (A.ground_text w) us
parts_texts w [] = refl
parts_texts w (u ∷ us) = ap (λ ts. A.ground_text w u ∷ ts) (parts_texts w us)

-- a constructor of an argument
abbrev pub con_text : Words → ℕ → List grounds.Ground → List ℕ
con_text w c ps = A.with_parts (get [] w.cons c) (map (A.ground_text w) (map ground_of ps))

pub ground_text-con : (w : Words) (g : grounds.Ground) (c : ℕ) (ps : List grounds.Ground) → g ≡ grounds.Con c ps → A.ground_text w (ground_of g) ≡ con_text w c ps
ground_text-con w g c ps e = ap (λ x. A.ground_text w (ground_of x)) e ∙ ap (A.ground_text w) (ground_con c ps) ∙ ap (A.with_parts (get [] w.cons c)) (parts_texts w (map ground_of ps))

pub con_text-none : (w : Words) (c : ℕ) (ps : List grounds.Ground) → ps ≡ [] → con_text w c ps ≡ get [] w.cons c
con_text-none w c ps e = ap (con_text w c) e

pub con_text-some : (w : Words) (c : ℕ) (ps : List grounds.Ground) → (ps ≡ [] → ⊥) → con_text w c ps ≡ get [] w.cons
    c ++ (codes "(" ++ (A.listed (map (A.ground_text w) (map ground_of ps)) ++ codes ")"))
con_text-some w c [] e = absurd (e refl)
con_text-some w c (p ∷ ps) e = refl

-- one more argument
pub one_argument : (w : Words) (ps : List grounds.Ground) (i : ℕ) (p : grounds.Ground) (old t mid new between : List ℕ) → i < length ps →
    p ≡ get_or ps i p → between ≡ before i → t ≡ old ++ A.listed (map (A.ground_text w) (map ground_of (take i ps))) →
    mid ≡ t ++ between → new ≡ mid ++ A.ground_text w (ground_of p) → new ≡ old ++ A.listed (map (A.ground_text w) (map ground_of (take (i + 1) ps)))
one_argument w ps i p old t mid new between l ep eb et em en =
    let f = λ (x : grounds.Ground). A.ground_text w (ground_of x) in
    let texts = map (A.ground_text w) (map ground_of (take i ps)) in
    let many : length texts ≡ i = length-map (map ground_of (take i ps)) (A.ground_text w) ∙ length-map (take i ps) ground_of ∙ length-take-le i ps (omega (arith, l)) in
    en ∙ ap (λ x. x ++ f p) (em ∙ (λ j. et j ++ eb j)) ∙ ap (λ x. x ++ f p) (append_assoc old (A.listed texts) (before i)) ∙ append_assoc old (A.listed texts ++ before i) (f p)
    ∙ ap (λ x. old ++ x) (append_assoc (A.listed texts) (before i) (f p) ∙ ap (λ n. A.listed texts ++ (before n ++ f p)) (sym many) ∙ sym (listed-push texts (f p))
    ∙ ap A.listed (sym (pushed w (take i ps) p)) ∙ ap (λ xs. A.listed (map (A.ground_text w) (map ground_of xs))) (sym (take_more ps i p l ∙ ap (λ x. take i ps ++ x ∷ []) (sym ep))))
  where
    pushed : (w : Words) (xs : List grounds.Ground) (p : grounds.Ground) → map (A.ground_text w) (map ground_of (xs ++ p ∷ [])) ≡ map
        (A.ground_text w) (map ground_of xs) ++ A.ground_text w (ground_of p) ∷ []
    pushed w [] p = refl
    pushed w (x ∷ xs) p = ap (λ ys. A.ground_text w (ground_of x) ∷ ys) (pushed w xs p)

-- a constructor with parts was added
pub con_done : (w : Words) (g : grounds.Ground) (c : ℕ) (ps qs : List grounds.Ground) (name old t1 t2 t3 new : List ℕ) → g ≡ grounds.Con c ps → qs ≡ ps → (ps ≡ [] → ⊥) → name ≡ get [] w.cons c →
    t1 ≡ old ++ name → t2 ≡ t1 ++ codes "(" → t3 ≡ t2 ++ A.listed (map (A.ground_text w) (map ground_of qs)) → new ≡ t3 ++ codes ")" → new ≡ old ++ A.ground_text w (ground_of g)
con_done w g c ps qs name old t1 t2 t3 new eg eq some en e1 e2 e3 e4 =
    let inner = A.listed (map (A.ground_text w) (map ground_of ps)) in
    e4 ∙ ap (λ t. t ++ codes ")") (e3 ∙ ap (λ xs. t2 ++ A.listed (map (A.ground_text w) (map ground_of xs))) eq ∙ ap (λ t. t ++ inner) (e2 ∙ ap (λ t. t ++ codes "(") (e1 ∙ ap (λ t. old ++ t) en)))
    ∙ append_assoc ((old ++ get [] w.cons c) ++ codes "(") inner (codes ")") ∙ append_assoc (old ++ get [] w.cons c) (codes "(") (inner ++ codes ")")
    ∙ append_assoc old (get [] w.cons c) (codes "(" ++ (inner ++ codes ")"))
    ∙ ap (λ t. old ++ t) (sym (ground_text-con w g c ps eg ∙ con_text-some w c ps some))
