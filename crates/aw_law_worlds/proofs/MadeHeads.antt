-- The heads in the equations of a choice are those of its arguments and of its rule, each with its number of parts.
use Rattle.std.proofs.Common.{List, Some, [], ap, arith, inl, inr, length, refl, subst, suc, sym, true, ℕ, ◌++◌, ◌+◌, ◌∙◌, ◌∷◌, ◌≡◌}
use Rattle.std.specs.Prelude.{slice_get}
use Rattle.std.proofs.lemmas.Bool.{and_from, and_parts}
use Rattle.aw_list.specs.Members.{Member}
use Rattle.aw_list.proofs.Members.{member_split, never}
use Rattle.aw_term.specs.Names.{Node, Ref, below, part}
use Rattle.aw_term.specs.Rules.{Child, Grammar, Ground, Rule, Term, get}
use Rattle.aw_term.specs.Trees.{Leaf, Made, More, Never, Nil, Tree, Trees, count}
use Rattle.aw_term.specs.WellFormed.{all_heads_fit, head_fits, heads_fit}
use Rattle.aw_base.specs.ChoiceFits.{ref_ok}
use Rattle.aw_store.specs.Equations.{Body, Equation, Is, Same, mentions}
use Rattle.aw_apply.specs.Made.{Call, child_refs, lay, lay_children, lay_list, lay_result, lay_results, lays, made}
use Rattle.aw_law_sites.proofs.Entering.{IsTermOf}
use Rattle.aw_law_sites.specs.ValidNames.{body_ok, refs_ok}

-- heads
module _ (g : Grammar) where
  abbrev pub HeadOk : Body → Type 0
  HeadOk (Same r) = Unit {0}
  HeadOk (Is h rs) = head_fits g.arities h (length rs) ≡ true

  abbrev pub Heads : List Equation → Type 0
  Heads es = (e : Equation) → Member e es → HeadOk e.body

  heads-both : (es fs : List Equation) → Heads es → Heads fs → Heads (es ++ fs)
  heads-both es fs a b e m = elim (member_split e es fs m) [ inl o ↦ a e o | inr o ↦ b e o ]

  module _ {L : Type 0} (n : Node) (f : L → Ref) where
    count-roots : (ts : Trees L) (i : ℕ) → length (lays n f i ts).roots ≡ count ts
    count-roots Nil i = refl
    count-roots (More t ts) i = ap suc (count-roots ts (lay n f i t).next)

    mutual
      lay-heads : (t : Tree L) (i : ℕ) → heads_fit g.arities t ≡ true → Heads (lay n f i t).equations
      lay-heads (Leaf x) i h = λ e m. never m
      lay-heads (Made c ts) i h =
          let (p, q) = and_parts (head_fits g.arities c (count ts)) (all_heads_fit g.arities ts) h in
          λ e m. elim m [
            | inl z ↦ subst (λ (e : Equation). HeadOk e.body) (sym z) (subst (λ l. head_fits g.arities c l ≡ true) (sym (count-roots ts (suc i))) p)
            | inr o ↦ lays-heads ts (suc i) q e o
          ]

      lays-heads : (ts : Trees L) (i : ℕ) → all_heads_fit g.arities ts ≡ true → Heads (lays n f i ts).equations
      lays-heads Nil i h = λ e m. never m
      lays-heads (More t ts) i h =
          let (p, q) = and_parts (heads_fit g.arities t) (all_heads_fit g.arities ts) h in
          heads-both (lay n f i t).equations (lays n f (lay n f i t).next ts).equations (lay-heads t i p) (lays-heads ts (lay n f i t).next q)

    list-heads : (ts : List (Tree L)) (i : ℕ) → ((t : Tree L) → Member t ts → heads_fit g.arities t ≡ true) → Heads (lay_list n f i ts).equations
    list-heads [] i h = λ e m. never m
    list-heads (t ∷ ts) i h = heads-both (lay n f i t).equations (lay_list n f (lay n f i t).next ts).equations (lay-heads t i (h t (inl refl))) (list-heads ts (lay n f i t).next (λ t m. h t (inr m)))

  module _ (n : Node) (ri : ℕ) (f : ℕ → Ref) where
    kids-heads : (cs : List Child) (i k : ℕ) → ((j : ℕ) (d : Child) → slice_get cs j ≡ Some d → (t : Term) → Member t d.args →
        heads_fit g.arities t ≡ true) → Heads (lay_children n ri f i k cs).equations
    kids-heads [] i k h = λ e m. never m
    kids-heads (d ∷ cs) i k h = heads-both (lay_list n f k d.args).equations (lay_children n ri f (suc i) (lay_list n f k d.args).next cs).equations
        (list-heads n f d.args k (h 0 d refl)) (kids-heads cs (suc i) (lay_list n f k d.args).next (λ j d e. h (suc j) d e))

    result-heads : (t : Term) (k j : ℕ) → heads_fit g.arities t ≡ true → Heads (lay_result n f k j t).equations
    result-heads (Leaf v) k j h e m = elim m [ inl z ↦ subst (λ (e : Equation). HeadOk e.body) (sym z) tt | inr z ↦ never z ]
    result-heads (Made c ts) k j h e m =
        let (p, q) = and_parts (head_fits g.arities c (count ts)) (all_heads_fit g.arities ts) h in
        elim m [
          | inl z ↦ subst (λ (e : Equation). HeadOk e.body) (sym z) (subst (λ l. head_fits g.arities c l ≡ true) (sym (count-roots n f ts k)) p)
          | inr o ↦ lays-heads n f ts k q e o
        ]

    results-heads : (ts : List Term) (k j : ℕ) → ((t : Term) → Member t ts → heads_fit g.arities t ≡ true) → Heads (lay_results n f k j ts)
    results-heads [] k j h = λ e m. never m
    results-heads (t ∷ ts) k j h = heads-both (lay_result n f k j t).equations (lay_results n f (lay_result n f k j t).next (suc j) ts)
        (result-heads t k j (h t (inl refl))) (results-heads ts (lay_result n f k j t).next (suc j) (λ t m. h t (inr m)))

    pub kid-many : (cs : List Child) (i k : ℕ) (c : Call) → Member c (lay_children n ri f i k cs).roots → (j : ℕ) × (d : Child)
        × (slice_get cs j ≡ Some d) × (c.node ≡ below n ri (i + j)) × (c.sort ≡ d.sort) × (length c.inherited ≡ length d.args)
    kid-many [] i k c m = never m
    kid-many (d ∷ cs) i k c (inl p) =
        let z : i ≡ i + 0 = omega arith in
        (0, d, refl, ap (λ (c : Call). c.node) p ∙ ap (below n ri) z, ap (λ (c : Call). c.sort) p, ap (λ (c : Call). length c.inherited) p ∙ many d.args k)
      where
        many : (ts : List Term) (k : ℕ) → length (lay_list n f k ts).roots ≡ length ts
        many [] k = refl
        many (t ∷ ts) k = ap suc (many ts (lay n f k t).next)
    kid-many (d ∷ cs) i k c (inr m) =
        let (j, d', e, a, b, l) = kid-many cs (suc i) (lay_list n f k d.args).next c m in
        let z : suc i + j ≡ i + suc j = omega arith in
        (suc j, d', e, a ∙ ap (below n ri) z, b, l)

  pub made-heads : (n : Node) (ri : ℕ) (rule : Rule) (args : List Ground) (bound : List Ref) →
      ((t : Ground) → Member t args → heads_fit g.arities t ≡ true) → ((t : Term) → IsTermOf rule t → heads_fit g.arities t ≡ true) →
      Heads (made n ri rule args bound).equations
  made-heads n ri rule args bound h k =
      let a = lay_list n (λ x. elim x [ ]) 1 args in
      let f = get (part n 0) (bound ++ (a.roots ++ child_refs n ri 1 rule.children)) in
      let c = lay_children n ri f 1 a.next rule.children in
      heads-both a.equations (c.equations ++ lay_results n f c.next 1 rule.results) (list-heads n (λ (x : Never). elim x [ ]) args 1 h)
      (heads-both c.equations (lay_results n f c.next 1 rule.results) (kids-heads n ri f rule.children 1 a.next (λ j d e t m. k t (inr (j, d, e, m))))
      (results-heads n ri f rule.results c.next 1 (λ t m. k t (inl m))))

  pub all-refs-ok : (rs : List Ref) → ((r : Ref) → Member r rs → ref_ok g r ≡ true) → refs_ok g rs ≡ true
  all-refs-ok [] h = refl
  all-refs-ok (r ∷ rs) h = and_from (ref_ok g r) (refs_ok g rs) (h r (inl refl)) (all-refs-ok rs (λ r m. h r (inr m)))

  pub body-of : (b : Body) → HeadOk b → ((r : Ref) → Member r (mentions b) → ref_ok g r ≡ true) → body_ok g b ≡ true
  body-of (Same r) k h = h r (inl refl)
  body-of (Is c rs) k h = and_from (head_fits g.arities c (length rs)) (refs_ok g rs) k (all-refs-ok rs h)
