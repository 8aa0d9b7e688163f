-- Values one behind another.
use Rattle.std.proofs.Common.{◌≡◌, ℕ, zero, suc, ◌+◌, ◌-◌, ◌<◌, ◌≤◌, List, [], ◌∷◌, ◌++◌, map, drop, take, get_or, length, codes, refl, sym, ap, ◌∙◌, subst, arith, append_assoc}
use Rattle.std.specs.Prelude.{Result, Ok, Err}
use Rattle.std.proofs.lemmas.List.{at_drop_more, take_more}
use Rattle.std.proofs.lemmas.List.{length-map, length-take-le}
use Rattle.aw_term.specs.Trees.{Never, join}
use Rattle.aw_term.specs.Views.{ground_of}
use Rattle.aw_term.specs.declared.ground.Ground as grounds
use Rattle.aw_term.proofs.ViewLemmas.{ground_con}
use Rattle.aw_base.proofs.TextLemmas.{all_behind}
use Rattle.aw_term.specs.Names.{Node, Ref, result}
use Rattle.aw_term.specs.Rules.{Ground, upto, get}
use Rattle.aw_term.specs.Artifacts as A
use Rattle.aw_term.specs.Artifacts.{Words}
use Rattle.aw_store.specs.Equations.{Map}
use Rattle.aw_out.specs.declared.error.PrintFault.{PrintFault}
use Rattle.aw_print.specs.Drafts.{Draft, Whole, then, following, listed, draft}
use Rattle.aw_print.specs.Growing.{Printing, Underway, PutsTo, Puts}
use Rattle.aw_print.proofs.DraftLemmas.{then-assoc, then-Grows, Grows, draft-next, following-Grow}
use Rattle.aw_print.proofs.GrowingLemmas.{starts, alike, then_puts, first_puts}

comma-Grows : (w : Words) (k : Map) (r : Ref) → Grows (λ n. then (Whole (codes ", ")) (draft n w k r))
comma-Grows w k r = then-Grows (λ n. Whole (codes ", ")) (λ n. draft n w k r) (λ n. refl) (λ n. draft-next n w k r)

-- one more reference of those that follow
pub one_more : (w : Words) (k : Map) (all : ℕ → Draft) (r : Ref) (rs ss : List Ref) (old mid new : Printing) (res : Result Unit PrintFault) → rs ≡ r ∷ ss →
    Underway all old mid (λ n. following (map (draft n w k) rs)) → Puts (λ n. then (Whole (codes ", ")) (draft n w k r)) mid new res → PutsTo all old new (λ n. following (map (draft n w k) ss)) res
one_more w k all r rs ss old mid new res e u p =
    then_puts all (λ n. following (map (draft n w k) rs)) (λ n. following (map (draft n w k) ss)) old mid new res u
    (alike (λ n. then (then (Whole (codes ", ")) (draft n w k r)) (following (map (draft n w k) ss))) (λ n. following (map (draft n w k) rs)) (λ n. following (map (draft n w k) ss)) mid new res
    (λ n. then-assoc (Whole (codes ", ")) (draft n w k r) (following (map (draft n w k) ss)) ∙ ap (λ xs. following (map (draft n w k) xs)) (sym e))
    (first_puts (λ n. then (Whole (codes ", ")) (draft n w k r)) (λ n. following (map (draft n w k) ss)) mid new res (comma-Grows w k r) (following-Grow w k ss) p))

-- the first reference, and then the others
pub first_and : (w : Words) (k : Map) (r : Ref) (rs ss : List Ref) (old mid new : Printing) (res : Result Unit PrintFault) → rs ≡ r ∷ ss →
    Underway (λ n. draft n w k r) old mid (λ n. Whole []) → Puts (λ n. following (map (draft n w k) ss)) mid new res → Puts (λ n. listed (map (draft n w k) rs)) old new res
first_and w k r rs ss old mid new res e u p =
    alike (λ n. then (draft n w k r) (following (map (draft n w k) ss))) (λ n. listed (map (draft n w k) rs)) (λ n. Whole []) old new res (λ n. ap (λ xs. listed (map (draft n w k) xs)) (sym e))
    (then_puts _ (λ n. following (map (draft n w k) ss)) (λ n. Whole []) old mid new res
    (first_puts (λ n. draft n w k r) (λ n. following (map (draft n w k) ss)) old mid (Ok tt) (λ n. draft-next n w k r) (following-Grow w k ss) u) p)

-- the first reference is not printed whole
pub first_not : (w : Words) (k : Map) (r : Ref) (rs ss : List Ref) (old new : Printing) (fault : PrintFault) → rs ≡ r ∷ ss →
    Puts (λ n. draft n w k r) old new (Err fault) → Puts (λ n. listed (map (draft n w k) rs)) old new (Err fault)
first_not w k r rs ss old new fault e p =
    alike (λ n. then (draft n w k r) (following (map (draft n w k) ss))) (λ n. listed (map (draft n w k) rs)) (λ n. Whole []) old new (Err fault)
    (λ n. ap (λ xs. listed (map (draft n w k) xs)) (sym e))
    (first_puts (λ n. draft n w k r) (λ n. following (map (draft n w k) ss)) old new (Err fault) (λ n. draft-next n w k r) (following-Grow w k ss) p)

pub at_item : (rs : List Ref) (i : ℕ) (r : Ref) → i < length rs → r ≡ get_or rs i r → drop i rs ≡ r ∷ drop (i + 1) rs
at_item rs i r l e = at_drop_more (λ xs. xs) rs i r l ∙ ap (λ x. x ∷ drop (i + 1) rs) (sym e)

-- the results from one on
pub results_from : (node : Node) (i n : ℕ) → i < n → map (result node) (upto (i + 1) (n - i)) ≡ result node (i + 1) ∷ map (result node) (upto (i + 1 + 1) (n - (i + 1)))
results_from node i n l =
    let e : n - i ≡ suc (n - (i + 1)) = omega arith in
    let f : suc (i + 1) ≡ i + 1 + 1 = omega arith in
    ap (λ m. map (result node) (upto (i + 1) m)) e ∙ ap (λ j. result node (i + 1) ∷ map (result node) (upto j (n - (i + 1)))) f

-- what stands before argument i
abbrev pub before : ℕ → List ℕ
before zero = []
before (suc n) = codes ", "

pub listed-push : (ts : List (List ℕ)) (t : List ℕ) → A.listed (ts ++ t ∷ []) ≡ A.listed ts ++ (before (length ts) ++ t)
listed-push [] t = refl
listed-push (a ∷ []) t = refl
listed-push (a ∷ b ∷ ts) t = ap (λ x. a ++ (codes ", " ++ x)) (listed-push (b ∷ ts) t)
    ∙ sym (append_assoc a (codes ", " ++ A.listed (b ∷ ts)) (codes ", " ++ t)
    ∙ ap (λ x. a ++ x) (append_assoc (codes ", ") (A.listed (b ∷ ts)) (codes ", " ++ t)))

-- nothing is left
pub no_more : (w : Words) (k : Map) (all : ℕ → Draft) (old new : Printing) (rs : List Ref) → rs ≡ [] → Underway all old new
    (λ n. following (map (draft n w k) rs)) → Underway all old new (λ n. Whole [])
no_more w k all old new rs e u = subst (λ xs. Underway all old new (λ n. following (map (draft n w k) xs))) e u

pub none_listed : (w : Words) (k : Map) (rs : List Ref) (p : Printing) → rs ≡ [] → Underway (λ n. listed (map (draft n w k) rs)) p p (λ n. Whole [])
none_listed w k rs p e = subst (λ xs. Underway (λ n. listed (map (draft n w k) xs)) p p (λ n. Whole [])) (sym e) (starts (λ n. Whole []) p)

-- a list that is not empty is its first, and then the others
pub first_item : (rs : List Ref) (r : Ref) → 1 ≤ length rs → r ≡ get_or rs 0 r → rs ≡ r ∷ take (length rs - 1) (drop 1 rs)
first_item [] r l e = absurd (omega (arith, l))
first_item (x ∷ rs) r l e = ap (λ y. y ∷ rs) (sym e) ∙ ap (λ xs. r ∷ xs) (sym (all_behind (x ∷ rs)))

-- the results, the first of them apart
pub first_result : (node m : Node) (n : ℕ) → m ≡ node → 0 < n → map (result node) (upto 1 n) ≡ result m 1 ∷ map (result m) (upto 2 (n - 1))
first_result node m n e l =
    let f : n ≡ suc (n - 1) = omega arith in
    ap (λ x. map (result node) (upto 1 x)) f ∙ ap (λ x. result x 1 ∷ map (result x) (upto 2 (n - 1))) (sym e)

pub no_results : (node : Node) (n : ℕ) → n ≡ 0 → map (result node) (upto 1 n) ≡ []
no_results node n e = ap (λ x. map (result node) (upto 1 x)) e

pub results_end : (node : Node) (i n : ℕ) → n ≤ i → map (result node) (upto (i + 1) (n - i)) ≡ []
results_end node i n l = let e : n - i ≡ 0 = omega arith in ap (λ x. map (result node) (upto (i + 1) x)) e

-- the texts of parts
pub parts_texts : (w : Words) (us : List Ground) → A.trees_texts w (λ (x : Never). elim x [ ]) (join us) ≡ map (A.ground_text w) us
parts_texts w [] = refl
parts_texts w (u ∷ us) = ap (λ ts. A.ground_text w u ∷ ts) (parts_texts w us)

-- a constructor of an argument
abbrev pub con_text : Words → ℕ → List grounds.Ground → List ℕ
con_text w c ps = A.with_parts (get [] w.cons c) (map (A.ground_text w) (map ground_of ps))

pub ground_text-con : (w : Words) (g : grounds.Ground) (c : ℕ) (ps : List grounds.Ground) → g ≡ grounds.Con c ps → A.ground_text w (ground_of g) ≡ con_text w c ps
ground_text-con w g c ps e = ap (λ x. A.ground_text w (ground_of x)) e ∙ ap (A.ground_text w) (ground_con c ps) ∙ ap (A.with_parts (get [] w.cons c)) (parts_texts w (map ground_of ps))

pub con_text-none : (w : Words) (c : ℕ) (ps : List grounds.Ground) → ps ≡ [] → con_text w c ps ≡ get [] w.cons c
con_text-none w c ps e = ap (con_text w c) e

pub con_text-some : (w : Words) (c : ℕ) (ps : List grounds.Ground) → (ps ≡ [] → ⊥) → con_text w c ps ≡ get [] w.cons
    c ++ (codes "(" ++ (A.listed (map (A.ground_text w) (map ground_of ps)) ++ codes ")"))
con_text-some w c [] e = absurd (e refl)
con_text-some w c (p ∷ ps) e = refl

-- one more argument
pub one_argument : (w : Words) (ps : List grounds.Ground) (i : ℕ) (p : grounds.Ground) (old t mid new between : List ℕ) → i < length ps →
    p ≡ get_or ps i p → between ≡ before i → t ≡ old ++ A.listed (map (A.ground_text w) (map ground_of (take i ps))) →
    mid ≡ t ++ between → new ≡ mid ++ A.ground_text w (ground_of p) → new ≡ old ++ A.listed (map (A.ground_text w) (map ground_of (take (i + 1) ps)))
one_argument w ps i p old t mid new between l ep eb et em en =
    let f = λ (x : grounds.Ground). A.ground_text w (ground_of x) in
    let texts = map (A.ground_text w) (map ground_of (take i ps)) in
    let many : length texts ≡ i = length-map (map ground_of (take i ps)) (A.ground_text w) ∙ length-map (take i ps) ground_of ∙ length-take-le i ps (omega (arith, l)) in
    en ∙ ap (λ x. x ++ f p) (em ∙ (λ j. et j ++ eb j)) ∙ ap (λ x. x ++ f p) (append_assoc old (A.listed texts) (before i)) ∙ append_assoc old (A.listed texts ++ before i) (f p)
    ∙ ap (λ x. old ++ x) (append_assoc (A.listed texts) (before i) (f p) ∙ ap (λ n. A.listed texts ++ (before n ++ f p)) (sym many) ∙ sym (listed-push texts (f p))
    ∙ ap A.listed (sym (pushed w (take i ps) p)) ∙ ap (λ xs. A.listed (map (A.ground_text w) (map ground_of xs))) (sym (take_more ps i p l ∙ ap (λ x. take i ps ++ x ∷ []) (sym ep))))
  where
    pushed : (w : Words) (xs : List grounds.Ground) (p : grounds.Ground) → map (A.ground_text w) (map ground_of (xs ++ p ∷ [])) ≡ map
        (A.ground_text w) (map ground_of xs) ++ A.ground_text w (ground_of p) ∷ []
    pushed w [] p = refl
    pushed w (x ∷ xs) p = ap (λ ys. A.ground_text w (ground_of x) ∷ ys) (pushed w xs p)

-- a constructor with parts was added
pub con_done : (w : Words) (g : grounds.Ground) (c : ℕ) (ps qs : List grounds.Ground) (name old t1 t2 t3 new : List ℕ) → g ≡ grounds.Con c ps → qs ≡ ps → (ps ≡ [] → ⊥) → name ≡ get [] w.cons c →
    t1 ≡ old ++ name → t2 ≡ t1 ++ codes "(" → t3 ≡ t2 ++ A.listed (map (A.ground_text w) (map ground_of qs)) → new ≡ t3 ++ codes ")" → new ≡ old ++ A.ground_text w (ground_of g)
con_done w g c ps qs name old t1 t2 t3 new eg eq some en e1 e2 e3 e4 =
    let inner = A.listed (map (A.ground_text w) (map ground_of ps)) in
    e4 ∙ ap (λ t. t ++ codes ")") (e3 ∙ ap (λ xs. t2 ++ A.listed (map (A.ground_text w) (map ground_of xs))) eq ∙ ap (λ t. t ++ inner) (e2 ∙ ap (λ t. t ++ codes "(") (e1 ∙ ap (λ t. old ++ t) en)))
    ∙ append_assoc ((old ++ get [] w.cons c) ++ codes "(") inner (codes ")") ∙ append_assoc (old ++ get [] w.cons c) (codes "(") (inner ++ codes ")")
    ∙ append_assoc old (get [] w.cons c) (codes "(" ++ (inner ++ codes ")"))
    ∙ ap (λ t. old ++ t) (sym (ground_text-con w g c ps eg ∙ con_text-some w c ps some))
