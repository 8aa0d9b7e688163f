-- A choice makes equations and children of its own case, and a load stays in the case that it begins in.
use Rattle.std.proofs.Common.{◌≡◌, ℕ, zero, suc, Bool, true, false, cond, List, [], ◌∷◌, ◌++◌, map, Option, Some, None, refl, sym, ap, ◌∙◌, subst, inl, inr}
use Rattle.aw_list.specs.Members.{Member}
use Rattle.aw_list.proofs.Members.{never, member_split, member_unmap}
use Rattle.aw_term.specs.Names.{Node, Ref, below, part, result}
use Rattle.aw_term.specs.Rules.{Term, Ground, Child, Rule, Grammar, get, upto}
use Rattle.aw_term.specs.Trees.{Tree, Trees, Leaf, Made, Nil, More, Never}
use Rattle.aw_store.specs.Equations.{Body, Equation, find, mentions}
use Rattle.aw_apply.specs.Made.{Call, lay, lays, lay_list, lay_children, lay_result, lay_results, child_refs, made}
use Rattle.aw_law_sites.specs.Loads.{Given, given_on, load_of, may_give, next_given, walk}
use Rattle.aw_law_sites.specs.Sites.{Site}
use Rattle.aw_law_cases.specs.Cases.{Cases, of_node, of_ref, of_equation, keep_site, AllOn, AreParted, AreOn}
use Rattle.aw_law_cases.proofs.Keeping.{find-kept, body-on}

module _ (C : Cases) where
  pub both-refs : (b : Bool) (rs ss : List Ref) → AllOn C b rs → AllOn C b ss → AllOn C b (rs ++ ss)
  both-refs b rs ss f h r m = elim (member_split r rs ss m) [ inl i ↦ f r i | inr i ↦ h r i ]

  pub one-ref : (b : Bool) (r : Ref) (rs : List Ref) → of_ref C r ≡ b → AllOn C b rs → AllOn C b (r ∷ rs)
  one-ref b r rs i f u (inl p) = subst (λ r. of_ref C r ≡ b) (sym p) i
  one-ref b r rs i f u (inr m) = f u m

  pub both-on : (b : Bool) (es fs : List Equation) → AreOn C b es → AreOn C b fs → AreOn C b (es ++ fs)
  both-on b es fs f h e m = elim (member_split e es fs m) [ inl i ↦ f e i | inr i ↦ h e i ]

  pub one-on : (b : Bool) (e : Equation) (es : List Equation) → of_equation C e ≡ b → AllOn C b (mentions e.body) → AreOn C b es → AreOn C b (e ∷ es)
  one-on b e es i f h d (inl p) = subst (λ (e : Equation). (of_equation C e ≡ b) × AllOn C b (mentions e.body)) (sym p) (i, f)
  one-on b e es i f h d (inr m) = h d m

  get-on : (b : Bool) (d : Ref) (rs : List Ref) (v : ℕ) → of_ref C d ≡ b → AllOn C b rs → of_ref C (get d rs v) ≡ b
  get-on b d [] v i f = i
  get-on b d (r ∷ rs) zero i f = f r (inl refl)
  get-on b d (r ∷ rs) (suc v) i f = get-on b d rs v i (λ u m. f u (inr m))

  -- what is laid down at a node
  module _ {L : Type 0} (n : Node) (f : L → Ref) (on : (x : L) → of_ref C (f x) ≡ of_node C n) where
    mutual
      lay-on : (t : Tree L) (k : ℕ) → (of_ref C (lay n f k t).roots ≡ of_node C n) × AreOn C (of_node C n) (lay n f k t).equations
      lay-on (Leaf x) k = (on x, λ e m. never m)
      lay-on (Made h ts) k =
          let (a, e) = lays-on ts (suc k) in
          (refl, one-on (of_node C n) _ (lays n f (suc k) ts).equations refl a e)

      lays-on : (ts : Trees L) (k : ℕ) → AllOn C (of_node C n) (lays n f k ts).roots × AreOn C (of_node C n) (lays n f k ts).equations
      lays-on Nil k = (λ r m. never m, λ e m. never m)
      lays-on (More t ts) k =
          let (a, e) = lay-on t k in
          let (b, d) = lays-on ts (lay n f k t).next in
          (one-ref (of_node C n) (lay n f k t).roots (lays n f (lay n f k t).next ts).roots a b, both-on (of_node C n) (lay n f k t).equations (lays n f (lay n f k t).next ts).equations e d)

    lay_list-on : (ts : List (Tree L)) (k : ℕ) → AllOn C (of_node C n) (lay_list n f k ts).roots × AreOn C (of_node C n) (lay_list n f k ts).equations
    lay_list-on [] k = (λ r m. never m, λ e m. never m)
    lay_list-on (t ∷ ts) k =
        let (a, e) = lay-on t k in
        let (b, d) = lay_list-on ts (lay n f k t).next in
        (one-ref (of_node C n) (lay n f k t).roots (lay_list n f (lay n f k t).next ts).roots a b, both-on (of_node C n) (lay n f k t).equations (lay_list n f (lay n f k t).next ts).equations e d)

  -- children of one side
  abbrev pub CallsOn : Bool → List Call → Type 0
  CallsOn b cs = (c : Call) → Member c cs → (of_node C c.node ≡ b) × AllOn C b c.inherited

  module _ (n : Node) (f : ℕ → Ref) (on : (x : ℕ) → of_ref C (f x) ≡ of_node C n) where
    children-on : (r i k : ℕ) (cs : List Child) → CallsOn (of_node C n) (lay_children n r f i k cs).roots × AreOn C (of_node C n) (lay_children n r f i k cs).equations
    children-on r i k [] = (λ c m. never m, λ e m. never m)
    children-on r i k (c ∷ cs) =
        let (a, e) = lay_list-on n f on c.args k in
        let (b, d) = children-on r (suc i) (lay_list n f k c.args).next cs in (
          λ x m. elim m [
            | inl p ↦ subst (λ (c : Call). (of_node C c.node ≡ of_node C n) × AllOn C (of_node C n) c.inherited) (sym p) (refl, a)
            | inr o ↦ b x o
          ],
          both-on (of_node C n) (lay_list n f k c.args).equations (lay_children n r f (suc i) (lay_list n f k c.args).next cs).equations e d,
        )

    result-on : (k j : ℕ) (t : Term) → AreOn C (of_node C n) (lay_result n f k j t).equations
    result-on k j (Leaf v) = one-on (of_node C n) _ [] refl (one-ref (of_node C n) (f v) [] (on v) (λ r m. never m)) (λ e m. never m)
    result-on k j (Made h ts) = let (a, e) = lays-on n f on ts k in one-on (of_node C n) _ (lays n f k ts).equations refl a e

    results-on : (k j : ℕ) (ts : List Term) → AreOn C (of_node C n) (lay_results n f k j ts)
    results-on k j [] = λ e m. never m
    results-on k j (t ∷ ts) = both-on (of_node C n) (lay_result n f k j t).equations (lay_results n f (lay_result n f k j t).next (suc j) ts)
        (result-on k j t) (results-on (lay_result n f k j t).next (suc j) ts)

  kids-on : (n : Node) (r k : ℕ) (cs : List Child) → AllOn C (of_node C n) (child_refs n r k cs)
  kids-on n r k [] = λ u m. never m
  kids-on n r k (c ∷ cs) =
      both-refs (of_node C n) (map (result (below n r k)) (upto 1 c.outs)) (child_refs n r (suc k) cs)
      (λ u m. let (j, i, p) = member_unmap (result (below n r k)) u (upto 1 c.outs) m in ap (of_ref C) p) (kids-on n r (suc k) cs)

  pub made-on : (n : Node) (r : ℕ) (rule : Rule) (args : List Ground) (bound : List Ref) → AllOn C (of_node C n) bound → CallsOn (of_node C n)
      (made n r rule args bound).calls × AreOn C (of_node C n) (made n r rule args bound).equations
  made-on n r rule args bound old =
      let none : Never → Ref = λ x. elim x [ ] in
      let a = lay_list n none 1 args in
      let refs = bound ++ (a.roots ++ child_refs n r 1 rule.children) in
      let f = get (part n 0) refs in
      let (ar, ae) = lay_list-on n none (λ x. never x) args 1 in
      let all = both-refs (of_node C n) bound (a.roots ++ child_refs n r 1 rule.children) old (both-refs (of_node C n) a.roots (child_refs n r 1 rule.children) ar (kids-on n r 1 rule.children)) in
      let on : (v : ℕ) → of_ref C (f v) ≡ of_node C n = λ v. get-on (of_node C n) (part n 0) refs v refl all in
      let c = lay_children n r f 1 a.next rule.children in
      let (cr, ce) = children-on n f on r 1 a.next rule.children in (
        cr,
        both-on (of_node C n) a.equations (c.equations ++ lay_results n f c.next 1 rule.results) ae
            (both-on (of_node C n) c.equations (lay_results n f c.next 1 rule.results) ce (results-on n f on c.next 1 rule.results)),
      )

  -- loads
  module _ (g : Grammar) (s : Site) (p : AreParted C s.equations) where
    abbrev GivenOn : Bool → Option Given → Type 0
    GivenOn b None = Unit {0}
    GivenOn b (Some d) = (of_equation C d.equation ≡ b) × AllOn C b (mentions d.equation.body) × AllOn C b d.rest

    given-by : (b x : Bool) (r : Ref) (o : Option Body) (rs : List Ref) (later : Option Given) → find s.equations r ≡ o → of_ref C r ≡ b →
        AllOn C b rs → GivenOn b later → GivenOn b (given_on x r o rs later)
    given-by b true r (Some body) rs later e i on l = (i, λ u m. body-on C s.equations p r body e u m ∙ i, on)
    given-by b true r None rs later e i on l = l
    given-by b false r o rs later e i on l = l

    next-on : (b : Bool) (seen rs : List Ref) → AllOn C b rs → GivenOn b (next_given g s seen rs)
    next-on b seen [] on = tt
    next-on b seen (r ∷ rs) on = given-by b (may_give g s seen r) r (find s.equations r) rs (next_given g s seen rs) refl (on r (inl refl))
        (λ u m. on u (inr m)) (next-on b seen rs (λ u m. on u (inr m)))

    next-kept : (seen rs : List Ref) → AllOn C true rs → next_given g (keep_site C s) seen rs ≡ next_given g s seen rs
    next-kept seen [] on = refl
    next-kept seen (r ∷ rs) on =
        let here = find-kept C s.equations r (on r (inl refl)) in
        let later = next-kept seen rs (λ u m. on u (inr m)) in
        λ i. given_on (may_give g s seen r) r (here i) rs (later i)

    abbrev walk_by : ℕ → Site → List Ref → Option Given → List Equation
    walk_by n v seen None = []
    walk_by n v seen (Some d) = d.equation ∷ walk n g v (d.equation.left ∷ seen) (mentions d.equation.body ++ d.rest)

    walk-by-on : (b : Bool) (n : ℕ) (seen : List Ref) (o : Option Given) → GivenOn b o → ((seen rs : List Ref) → AllOn C b rs → AreOn C b (walk n g s seen rs)) → AreOn C b (walk_by n s seen o)
    walk-by-on b n seen None on f = λ e m. never m
    walk-by-on b n seen (Some d) on f =
        one-on b d.equation (walk n g s (d.equation.left ∷ seen) (mentions d.equation.body ++ d.rest)) on.0 on.1
        (f (d.equation.left ∷ seen) (mentions d.equation.body ++ d.rest) (both-refs b (mentions d.equation.body) d.rest on.1 on.2))

    walk-on : (b : Bool) (n : ℕ) (seen rs : List Ref) → AllOn C b rs → AreOn C b (walk n g s seen rs)
    walk-on b zero seen rs on = λ e m. never m
    walk-on b (suc n) seen rs on = walk-by-on b n seen (next_given g s seen rs) (next-on b seen rs on) (λ seen rs on. walk-on b n seen rs on)

    walk-by-kept : (n : ℕ) (seen : List Ref) (o : Option Given) → GivenOn true o →
        ((seen rs : List Ref) → AllOn C true rs → walk n g (keep_site C s) seen rs ≡ walk n g s seen rs) → walk_by n (keep_site C s) seen o ≡ walk_by n s seen o
    walk-by-kept n seen None on f = refl
    walk-by-kept n seen (Some d) on f = ap (◌∷◌ d.equation) (f (d.equation.left ∷ seen) (mentions d.equation.body ++ d.rest) (both-refs true (mentions d.equation.body) d.rest on.1 on.2))

    walk-kept : (n : ℕ) (seen rs : List Ref) → AllOn C true rs → walk n g (keep_site C s) seen rs ≡ walk n g s seen rs
    walk-kept zero seen rs on = refl
    walk-kept (suc n) seen rs on = ap (walk_by n (keep_site C s) seen) (next-kept seen rs on) ∙ walk-by-kept n seen (next_given g s seen rs)
        (next-on true seen rs on) (λ seen rs on. walk-kept n seen rs on)

    pub load-kept : (seen rs : List Ref) → AllOn C true rs → load_of g (keep_site C s) seen rs ≡ load_of g s seen rs
    load-kept seen rs on = ap (λ xs. cond s.loads xs []) (walk-kept 64 seen rs on)

    pub load-on : (b : Bool) (seen rs : List Ref) → AllOn C b rs → AreOn C b (load_of g s seen rs)
    load-on b seen rs on = by s.loads (walk-on b 64 seen rs on)
      where
        by : (x : Bool) → AreOn C b (walk 64 g s seen rs) → AreOn C b (cond x (walk 64 g s seen rs) [])
        by true f = f
        by false f = λ e m. never m
