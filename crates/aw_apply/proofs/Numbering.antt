-- The equations of one choice have different left sides.
use Rattle.std.proofs.Common.{◌≡◌, ℕ, suc, ◌+◌, ◌<◌, ◌≤◌, cond, List, [], ◌∷◌, ◌++◌, length, Some, None, refl, sym, ap, subst, arith}
use Rattle.aw_term.specs.Trees.{Never, Tree, Leaf, Made, Trees, Nil, More}
use Rattle.aw_term.specs.Names.{Node, Ref, Slot, Result, Part, result, part}
use Rattle.aw_term.specs.Rules.{Term, Ground, Child, Rule, get}
use Rattle.aw_term.specs.WellFormed.{Each, Later}
use Rattle.aw_term.proofs.Eaches.{each_map, each_append}
use Rattle.aw_store.specs.Adding.{AreNew}
use Rattle.aw_store.specs.Equations.{Same, Is, Equation, Map, find}
use Rattle.aw_term.proofs.RefTests.{ref_eq-self}
use Rattle.aw_store.proofs.MoreEquations.{find-absent, find-left_more, Holds, Holds-wider, Holds-past, Holds-append, new_apart}
use Rattle.aw_apply.specs.Made.{lay, lays, lay_list, lay_children, lay_result, lay_results, child_refs, made}

pub later_append : {A : Type 0} (R : A → A → Type 0) (xs ys : List A) → Later R xs → Later R ys → Each (λ x. Each (R x) ys) xs → Later R (xs ++ ys)
later_append R [] ys a b f = b
later_append R (x ∷ xs) ys a b f = (each_append (R x) xs ys a.0 f.0, later_append R xs ys a.1 b f.1)

-- parts from a below b, results from c below d
abbrev pub Covers : ℕ → ℕ → ℕ → ℕ → Slot → Type 0
Covers a b c d (Part i) = (a ≤ i) × (i < b)
Covers a b c d (Result j) = (c ≤ j) × (j < d)

abbrev pub Lies : Node → ℕ → ℕ → ℕ → ℕ → Equation → Type 0
Lies n a b c d e = (e.left.node ≡ n) × Covers a b c d e.left.slot

-- it has different left sides, which lie there
pub record Apart (n : Node) (a b c d : ℕ) (es : List Equation) : Type 0 where
  pub lie : Each (Lies n a b c d) es
  pub hold : Holds es es
  pub differ : Later (λ (e f : Equation). e.left ≡ f.left → Never) es

covers-wider : (a b c d a' b' c' d' : ℕ) → a' ≤ a → b ≤ b' → c' ≤ c → d ≤ d' → (s : Slot) → Covers a b c d s → Covers a' b' c' d' s
covers-wider a b c d a' b' c' d' p q u v (Part i) h = (omega (arith, h.0), omega (arith, h.1))
covers-wider a b c d a' b' c' d' p q u v (Result i) h = (omega (arith, h.0), omega (arith, h.1))

covers-apart : (a b e c d f : ℕ) (s : Slot) → Covers a b c d s → Covers b e d f s → Never
covers-apart a b e c d f (Part i) h g = absurd (omega (arith, h.1, g.0))
covers-apart a b e c d f (Result j) h g = absurd (omega (arith, h.1, g.0))

absent_from : (n : Node) (a b e c d f : ℕ) (es : List Equation) (r : Ref) → Each (Lies n a b c d) es → Covers b e d f r.slot → Each (λ (e : Equation). r ≡ e.left → Never) es
absent_from n a b e c d f [] r l h = tt
absent_from n a b e c d f (x ∷ es) r l h = ((λ p. covers-apart a b e c d f r.slot (subst (λ (r : Ref). Covers a b c d r.slot) (sym p) l.0.1) h), absent_from n a b e c d f es r l.1 h)

pub Apart-append : (n : Node) (a b e c d f : ℕ) (es fs : List Equation) → a ≤ b → b ≤ e → c ≤ d → d ≤ f → Apart n a b c d es → Apart n b e d f fs → Apart n a e c f (es ++ fs)
Apart-append n a b e c d f es fs p q u v x y = record {
  lie = each_append (Lies n a e c f) es fs
      (each_map (Lies n a b c d) (Lies n a e c f) es (λ z h. (h.0, covers-wider a b c d a e c f (omega arith) (omega arith) (omega arith) (omega arith) z.left.slot h.1)) x.lie)
      (each_map (Lies n b e d f) (Lies n a e c f) fs (λ z h. (h.0, covers-wider b e d f a e c f (omega arith) (omega arith) (omega arith) (omega arith) z.left.slot h.1)) y.lie);
  hold = Holds-append (es ++ fs) es fs
      (Holds-wider es (es ++ fs) (find-left_more es fs) es x.hold)
      (Holds-past es fs fs
      (each_map (Lies n b e d f) (λ (z : Equation). find es z.left ≡ None) fs (λ z h. find-absent es z.left (absent_from n a b e c d f es z.left x.lie h.1)) y.lie)
      y.hold);
  differ = later_append (λ (e f : Equation). e.left ≡ f.left → Never) es fs x.differ y.differ
      (each_map (Lies n a b c d) (λ (u : Equation). Each (λ (v : Equation). u.left ≡ v.left → Never) fs) es
      (λ u l. each_map (Lies n b e d f) (λ (v : Equation). u.left ≡ v.left → Never) fs (λ v r q. covers-apart a b e c d f v.left.slot (subst (λ (r : Ref). Covers a b c d r.slot) q l.1) r.1) y.lie)
      x.lie);
}

one_apart : (n : Node) (a b c d : ℕ) (e : Equation) → Lies n a b c d e → Apart n a b c d (e ∷ [])
one_apart n a b c d e l = record { lie = (l, tt); hold = (ap (λ b. cond b (Some e.body) None) (ref_eq-self e.left), tt); differ = (tt, tt) }

none_apart : (n : Node) (a c : ℕ) → Apart n a a c c []
none_apart n a c = record { lie = tt; hold = tt; differ = tt }

module _ {L : Type 0} (n : Node) (f : L → Ref) (c : ℕ) where
  mutual
    lay-apart : (t : Tree L) (i : ℕ) → (i ≤ (lay n f i t).next) × Apart n i (lay n f i t).next c c (lay n f i t).equations
    lay-apart (Leaf x) i = (omega arith, none_apart n i c)
    lay-apart (Made h ts) i =
        let (le, a) = lays-apart ts (suc i) in (
          omega (arith, le),
          Apart-append n i (suc i) (lays n f (suc i) ts).next c c c (record { left = part n i; body = Is h (lays n f (suc i) ts).roots } ∷ [])
              (lays n f (suc i) ts).equations (omega arith) le (omega arith) (omega arith)
              (one_apart n i (suc i) c c (record { left = part n i; body = Is h (lays n f (suc i) ts).roots }) (refl, (omega arith, omega arith))) a,
        )

    lays-apart : (ts : Trees L) (i : ℕ) → (i ≤ (lays n f i ts).next) × Apart n i (lays n f i ts).next c c (lays n f i ts).equations
    lays-apart Nil i = (omega arith, none_apart n i c)
    lays-apart (More t ts) i =
        let (le, a) = lay-apart t i in
        let (le', b) = lays-apart ts (lay n f i t).next in (
          omega (arith, le, le'),
          Apart-append n i (lay n f i t).next (lays n f (lay n f i t).next ts).next c c c (lay n f i t).equations
              (lays n f (lay n f i t).next ts).equations le le' (omega arith) (omega arith) a b,
        )

  pub lay_list-apart : (ts : List (Tree L)) (i : ℕ) → (i ≤ (lay_list n f i ts).next) × Apart n i (lay_list n f i ts).next c c (lay_list n f i ts).equations
  lay_list-apart [] i = (omega arith, none_apart n i c)
  lay_list-apart (t ∷ ts) i =
      let (le, a) = lay-apart t i in
      let (le', b) = lay_list-apart ts (lay n f i t).next in (
        omega (arith, le, le'),
        Apart-append n i (lay n f i t).next (lay_list n f (lay n f i t).next ts).next c c c (lay n f i t).equations
            (lay_list n f (lay n f i t).next ts).equations le le' (omega arith) (omega arith) a b,
      )

module _ (n : Node) (r : ℕ) (f : ℕ → Ref) where
  lay_children-apart : (cs : List Child) (i k : ℕ) → (k ≤ (lay_children n r f i k cs).next) × Apart n k (lay_children n r f i k cs).next 1 1 (lay_children n r f i k cs).equations
  lay_children-apart [] i k = (omega arith, none_apart n k 1)
  lay_children-apart (d ∷ cs) i k =
      let (le, a) = lay_list-apart n f 1 d.args k in
      let (le', b) = lay_children-apart cs (suc i) (lay_list n f k d.args).next in (
        omega (arith, le, le'),
        Apart-append n k (lay_list n f k d.args).next (lay_children n r f (suc i) (lay_list n f k d.args).next cs).next 1 1 1
            (lay_list n f k d.args).equations (lay_children n r f (suc i) (lay_list n f k d.args).next cs).equations le le' (omega arith) (omega arith) a b,
      )

  lay_result-apart : (t : Term) (k j : ℕ) → (k ≤ (lay_result n f k j t).next) × Apart n k (lay_result n f k j t).next j (suc j) (lay_result n f k j t).equations
  lay_result-apart (Leaf v) k j = (omega arith, one_apart n k k j (suc j) (record { left = result n j; body = Same (f v) }) (refl, (omega arith, omega arith)))
  lay_result-apart (Made h ts) k j =
      let (le, a) = lays-apart n f (suc j) ts k in (
        le,
        Apart-append n k k (lays n f k ts).next j (suc j) (suc j) (record { left = result n j; body = Is h (lays n f k ts).roots } ∷ [])
            (lays n f k ts).equations (omega arith) le (omega arith) (omega arith)
            (one_apart n k k j (suc j) (record { left = result n j; body = Is h (lays n f k ts).roots }) (refl, (omega arith, omega arith))) a,
      )

  lay_results-apart : (ts : List Term) (k j : ℕ) → (e : ℕ) × (k ≤ e) × Apart n k e j (j + length ts) (lay_results n f k j ts)
  lay_results-apart [] k j = let z : j ≡ j + 0 = omega arith in (k, omega arith, subst (λ d. Apart n k k j d []) z (none_apart n k j))
  lay_results-apart (t ∷ ts) k j =
      let (le, a) = lay_result-apart t k j in
      let (e, le', b) = lay_results-apart ts (lay_result n f k j t).next (suc j) in
      let z : suc j + length ts ≡ j + suc (length ts) = omega arith in (
        e,
        omega (arith, le, le'),
        subst (λ d. Apart n k e j d (lay_results n f k j (t ∷ ts))) z
            (Apart-append n k (lay_result n f k j t).next e j (suc j) (suc j + length ts) (lay_result n f k j t).equations
            (lay_results n f (lay_result n f k j t).next (suc j) ts) le le' (omega arith) (omega arith) a b),
      )

-- the equations of a choice
pub made-apart : (n : Node) (ri : ℕ) (r : Rule) (args : List Ground) (bound : List Ref) → (e : ℕ) × Apart n 1 e 1 (1 + length r.results) (made n ri r args bound).equations
made-apart n ri r args bound =
    let a = lay_list n (λ x. elim x [ ]) 1 args in
    let f = get (part n 0) (bound ++ (a.roots ++ child_refs n ri 1 r.children)) in
    let c = lay_children n ri f 1 a.next r.children in
    let (le, x) = lay_list-apart n (λ (x : Never). elim x [ ]) 1 args 1 in
    let (le', y) = lay_children-apart n ri f r.children 1 a.next in
    let (e, le'', z) = lay_results-apart n ri f r.results c.next 1 in (
      e,
      Apart-append n 1 a.next e 1 1 (1 + length r.results) a.equations (c.equations ++ lay_results n f c.next 1 r.results) le (omega (arith, le', le'')) (omega arith) (omega arith) x
          (Apart-append n a.next c.next e 1 1 (1 + length r.results) c.equations (lay_results n f c.next 1 r.results) le' le'' (omega arith) (omega arith) y z),
    )

-- and they hold behind equations that have none of the node
pub made-holds : (k : Map) (n : Node) (ri : ℕ) (r : Rule) (args : List Ground) (bound : List Ref) → ((x : Ref) → x.node ≡ n → find k x ≡ None) →
    Holds (k ++ (made n ri r args bound).equations) (made n ri r args bound).equations
made-holds k n ri r args bound free =
    let (e, a) = made-apart n ri r args bound in
    let es = (made n ri r args bound).equations in
    Holds-past k es es (each_map (Lies n 1 e 1 (1 + length r.results)) (λ (e : Equation). find k e.left ≡ None) es (λ x l. free x.left l.0) a.lie) a.hold

-- behind equations that have none of the node they can be added one after the other
pub made-new : (k : Map) (n : Node) (ri : ℕ) (r : Rule) (args : List Ground) (bound : List Ref) → ((x : Ref) → x.node ≡ n → find k x ≡ None) → AreNew k (made n ri r args bound).equations
made-new k n ri r args bound free =
    let (e, a) = made-apart n ri r args bound in
    let es = (made n ri r args bound).equations in
    new_apart k es (each_map (Lies n 1 e 1 (1 + length r.results)) (λ (x : Equation). find k x.left ≡ None) es (λ x l. free x.left l.0) a.lie) a.differ
