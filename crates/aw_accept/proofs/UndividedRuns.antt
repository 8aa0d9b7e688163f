-- Each configuration that choices lead to is acyclic.
use Rattle.std.proofs.Common.{◌≡◌, ℕ, zero, suc, ◌+◌, ◌<◌, Bool, true, false, cond, List, [], ◌∷◌, ◌++◌, map, length, Option, Some, None, slice_get, refl, sym, ap, ◌∙◌, subst, inl, inr, arith}
use Rattle.std.specs.Prelude.{◌⊎◌, nat_eq}
use Rattle.aw_term.specs.Trees.{Never, Leaf, In}
use Rattle.aw_term.specs.Names.{Node, Ref, Step, node_eq, below, result, root}
use Rattle.aw_term.specs.Rules.{Ground, Value, Rule, Grammar, upto}
use Rattle.aw_term.specs.Matching.{Matched, Yes, Waits, Differs, Circle, match_all}
use Rattle.aw_term.specs.Configs.{State, Pending, Done, Row, Config, env, child_rows, insert_row, row_of, done_row, row_put, rounds, develop}
use Rattle.aw_iograph.specs.Graphs.{Plus, step, more}
use Rattle.aw_iograph.specs.Occurrences.{item}
use Rattle.aw_iograph.specs.Dependence.{IsClosedUnder, HasNoCircle}
use Rattle.aw_accept.specs.Acyclic.{Needs, need, Stands, IsWhole, IsAcyclic, IsGivenGrammar, IsTree, HasNoHoleOf, RunsAreAcyclic, HasAcyclicRuns}
use Rattle.std.proofs.lemmas.Bool.{eqb-true}
use Rattle.std.proofs.lemmas.List.{length-map, same_from_push}
use Rattle.std.proofs.lemmas.Option.{same_Some, option_and_then_some}
use Rattle.aw_list.specs.Members.{Member}
use Rattle.aw_list.proofs.Members.{never, member_map, member_unmap, member_got}
use Rattle.aw_term.specs.Choices.{Choice, Start, Develop, Answer, NotItsRule, Arguments, Outcome, Refused, Starts, Takes, deep, after_guard, at_rule}
use Rattle.aw_term.specs.Choices.{at_state, at_row, not_held, outcome, start_row, taken, undivided}
use Rattle.aw_accept.specs.Acyclic.{gives}
use Rattle.aw_accept.proofs.Spots.{occ_of, moves}
use Rattle.aw_accept.proofs.ConfigLemmas.{below-child, child_row, Member-insert_row, Member-inserted, Member-all_inserted, Member-rounds}
use Rattle.aw_accept.proofs.ConfigLemmas.{Member-rounded, rounds-sort, rounds-state, rounds-results-length, done_row-cases, length-upto, upto-bound}
use Rattle.aw_accept.proofs.ConfigLemmas.{upto-low, done_row-same}
use Rattle.aw_accept.proofs.Developing.{Taking, develop-acyclic, added, sigma, e, FromChild, added_cases}
use Rattle.aw_name.specs.SameNodes.{node_is, node_self}
use Rattle.aw_term.proofs.RowParts.{rounds_node}

item_none : {A : Type 0} (i : ℕ) (t : A) → item [] i ≡ Some t → Never
item_none zero t e = absurd cc
item_none (suc i) t e = absurd cc

-- what a taken rule says
pub record Decoded (g : Grammar) (c : Config) (n : Node) (ri : ℕ) (args : List Ground) (rule : Rule) (bs : List Value) : Type 0 where
  pub row : Row
  pub held : Member row c
  pub node : row.node ≡ n
  pub open_ : row.state ≡ Pending
  pub rule_is : slice_get g.rules ri ≡ Some rule
  pub sort : rule.sort ≡ row.sort
  pub given : length args ≡ rule.params
  pub bound : match_all 1 rule.patterns row.inherited ≡ Yes bs

pub found_cases : {A : Type 0} (node : A → Node) (b : Bool) (n : Node) (q h : A) (o : Option A) → node_eq n (node q) ≡ b → cond b (Some q) o ≡ Some h → ((q ≡ h) × (n ≡ node q)) ⊎ (o ≡ Some h)
found_cases node true n q h o e f = inl (same_Some q h f, node_is n (node q) e)
found_cases node false n q h o e f = inr f

pub row_of-found : (n : Node) (c : Config) (h : Row) → row_of n c ≡ Some h → Member h c × (h.node ≡ n)
row_of-found n [] h e = absurd cc
row_of-found n (q ∷ qs) h e =
    elim (found_cases (λ (r : Row). r.node) (node_eq n q.node) n q h (row_of n qs) refl e) [
      | inl x ↦ (inl (sym x.0), sym (ap (λ (h : Row). h.node) x.0) ∙ sym x.1)
      | inr x ↦ (let (m, f) = row_of-found n qs h x in (inr m, f))
    ]

pub none_cases : (b : Bool) (q : Row) (o : Option Row) → cond b (Some q) o ≡ None → (b ≡ false) × (o ≡ None)
none_cases true q o e = absurd cc
none_cases false q o e = (refl, e)

pub row_of-none : (n : Node) (c : Config) → row_of n c ≡ None → (p : Row) → Member p c → p.node ≡ n → Never
row_of-none n [] e p m f = never m
row_of-none n (q ∷ qs) e p m f =
    let (a, b) = none_cases (node_eq n q.node) q (row_of n qs) e in
    elim m [
      | inl x ↦ (let z : node_eq n n ≡ false = subst (λ k. node_eq n k ≡ false) (sym (ap (λ (h : Row). h.node) x) ∙ f) a in let y = node_self n in absurd cc)
      | inr x ↦ row_of-none n qs b p x f
    ]

cond-takes : {A R : Type 0} (b : Bool) (x : Outcome A R) (a : Answer R) (rule : Rule) (bs : List A) → cond b x (Refused a) ≡ Takes rule bs → (b ≡ true) × (x ≡ Takes rule bs)
cond-takes true x a rule bs e = (refl, e)
cond-takes false x a rule bs e = absurd cc

pub deep-takes : {A R : Type 0} (b : Bool) (x : Outcome A R) (a : Answer R) (rule : Rule) (bs : List A) → cond b (Refused a) x ≡ Takes rule bs → x ≡ Takes rule bs
deep-takes true x a rule bs e = absurd cc
deep-takes false x a rule bs e = e

guard-takes : {A R : Type 0} (n : Node) (ru : Rule) (m : Matched A R) (rule : Rule) (bs : List A) → after_guard n ru m ≡ Takes rule bs → (ru ≡ rule) × (m ≡ Yes bs)
guard-takes n ru (Yes xs) rule bs e = let f = deep-takes (deep n ru) (Takes ru xs) _ rule bs e in (cc, cc)
guard-takes n ru (Waits r) rule bs e = absurd cc
guard-takes n ru (Differs r) rule bs e = absurd cc
guard-takes n ru (Circle r) rule bs e = absurd cc

-- what the tests of a rule say, whatever its guard reads
pub tests-take : {A R : Type 0} (n : Node) (ru : Rule) (sort : ℕ) (args : List Ground) (m : Matched A R) (rule : Rule) (bs : List A)
    → cond (nat_eq ru.sort sort) (cond (nat_eq (length args) ru.params) (after_guard n ru m) (Refused Arguments)) (Refused NotItsRule) ≡ Takes rule
    bs → (ru ≡ rule) × (ru.sort ≡ sort) × (length args ≡ ru.params) × (m ≡ Yes bs)
tests-take n ru sort args m rule bs e =
    let (a, f) = cond-takes (nat_eq ru.sort sort) (cond (nat_eq (length args) ru.params) (after_guard n ru m) (Refused Arguments)) NotItsRule rule bs e in
    let (b, h) = cond-takes (nat_eq (length args) ru.params) (after_guard n ru m) Arguments rule bs f in
    let (p, y) = guard-takes n ru m rule bs h in
    (p, eqb-true ru.sort sort a, eqb-true (length args) ru.params b, y)

abbrev RuleFacts : Option Rule → List Ground → Row → Rule → List Value → Type 0
RuleFacts o args q rule bs = (o ≡ Some rule) × (rule.sort ≡ q.sort) × (length args ≡ rule.params) × (match_all 1 rule.patterns q.inherited ≡ Yes bs)

rule-takes : (o : Option Rule) (n : Node) (args : List Ground) (q : Row) (rule : Rule) (bs : List Value) → at_rule o n args q ≡ Takes rule bs → RuleFacts o args q rule bs
rule-takes None n args q rule bs e = absurd cc
rule-takes (Some ru) n args q rule bs e =
    let (p, a, b, y) = tests-take n ru q.sort args (match_all 1 ru.patterns q.inherited) rule bs e in
    subst (λ ru'. RuleFacts (Some ru) args q ru' bs) p (refl, a, b, y)

state-takes : (g : Grammar) (s : State) (n : Node) (ri : ℕ) (args : List Ground) (q : Row) (rule : Rule) (bs : List Value) →
    at_state s g n ri args q ≡ Takes rule bs → (s ≡ Pending) × RuleFacts (slice_get g.rules ri) args q rule bs
state-takes g (Done a b) n ri args q rule bs e = absurd cc
state-takes g Pending n ri args q rule bs e = (refl, rule-takes (slice_get g.rules ri) n args q rule bs e)

pub decode_on : (g : Grammar) (c : Config) (o : Option Row) (n : Node) (ri : ℕ) (args : List Ground) (rule : Rule) (bs : List Value) →
    row_of n c ≡ o → at_row o g n ri args ≡ Takes rule bs → Decoded g c n ri args rule bs
decode_on g c None n ri args rule bs f e = absurd cc
decode_on g c (Some q) n ri args rule bs f e =
    let (a, b) = state-takes g q.state n ri args q rule bs e in
    let (m, p) = row_of-found n c q f in
    record { row = q; held = m; node = p; open_ = a; rule_is = b.0; sort = b.1; given = b.2; bound = b.3 }

pub below-node : (n m : Node) (r r' k k' : ℕ) → below n r k ≡ below m r' k' → n ≡ m
below-node n m r r' k k' e =
    let a = ap (λ (n : Node). n.start) e in
    let b = ap (λ (n : Node). n.case) e in
    let c = (same_from_push n.steps m.steps (record { rule = r; child = k }) (record { rule = r'; child = k' }) (ap (λ (n : Node). n.steps) e)).0 in
    λ i. record { start = a i; case = b i; steps = c i }

pub root-below : (s k : ℕ) (n : Node) (r i : ℕ) → root s k ≡ below n r i → Never
root-below s k n r i e = no_end n.steps (record { rule = r; child = i }) (ap (λ (n : Node). n.steps) e)
  where
    no_end : (xs : List Step) (x : Step) → [] ≡ xs ++ x ∷ [] → Never
    no_end [] x e = absurd cc
    no_end (y ∷ xs) x e = absurd cc

-- over any relation that is closed under the rules, and over which no rule has a circle
module _ (g : Grammar) (fit : IsGivenGrammar g) (rel : ℕ → ℕ → ℕ → Type 0) (kept : IsClosedUnder g rel) (ok : HasNoCircle g rel) where
  abbrev pub Good : Config → Type 0
  Good c = IsTree g c × IsAcyclic rel c

  -- a taken rule
  module _ (c : Config) (n : Node) (ri : ℕ) (args : List Ground) (rule : Rule) (bs : List Value) (good : Good c) (D : Decoded g c n ri args rule bs) where
    abbrev pub q : Row
    q = D.row

    pub taking : Taking rel c q ri rule bs args
    taking = record {
      held = D.held;
      open_ = D.open_;
      sort = D.sort;
      bound = D.bound;
      given = D.given;
      many = good.0.many D.row D.held ∙ (ap (gives g) (sym D.sort) ∙ sym (fit.results rule (member_got g.rules ri rule D.rule_is)));
      closed = λ i j w. subst (λ s. rel s i j) D.sort (kept rule (member_got g.rules ri rule D.rule_is) i j (moves rule rel w));
      no_inner = λ o w. ok rule (member_got g.rules ri rule D.rule_is) (occ_of o) (moves rule rel w);
      whole = good.1.whole;
      no_circle = good.1.no_circle;
      fresh = λ p m k f. let (p', m', a, b) = good.0.parents p m D.row.node ri k f in b (ap (λ (r : Row). r.state) (good.0.apart p' D.row m' D.held a) ∙ D.open_);
      apart = λ p m f. good.0.apart p D.row m D.held f;
    }

    abbrev pub A : Config
    A = added rel c q ri rule bs args taking

    abbrev pub new : Config
    new = develop q.node ri rule bs args c

    abbrev pub M : ℕ
    M = length rule.results

    abbrev pub F : Row → Row
    F = rounds M (row_put (sigma rel c q ri rule bs args taking))

    pub from_added : (y : Row) → Member y new → (z : Row) × Member z A × (y ≡ F z)
    from_added y m = Member-rounds M (row_put (sigma rel c q ri rule bs args taking)) y A m

    pub F-node : (z : Row) → (F z).node ≡ z.node
    F-node z = rounds_node M (sigma rel c q ri rule bs args taking) z

    abbrev Origin : Row → Type 0
    Origin z = FromChild rel c q ri rule bs args taking z ⊎ ((p : Row) × Member p c × (z ≡ done_row q.node (Done ri args) p))

    origin : (z : Row) → Member z A → Origin z
    origin z m = added_cases rel c q ri rule bs args taking z m

    pub done-same : (p : Row) → ((done_row q.node (Done ri args) p).node ≡ p.node) × ((done_row q.node (Done ri args) p).sort ≡ p.sort) × ((done_row q.node (Done ri args) p).results ≡ p.results)
    done-same p = (
      done_row-same (λ (r : Row). r.node) q.node (Done ri args) p refl,
      done_row-same (λ (r : Row). r.sort) q.node (Done ri args) p refl,
      done_row-same (λ (r : Row). r.results) q.node (Done ri args) p refl,
    )

    one_origin : (z z' : Row) → Origin z → Origin z' → z.node ≡ z'.node → z ≡ z'
    one_origin z z' (inl (k, d, f, a)) (inl (k', d', f', a')) e =
        let s : suc k ≡ suc k' = below-child q.node ri (suc k) (suc k') (sym (ap (λ (r : Row). r.node) a) ∙ (e ∙ ap (λ (r : Row). r.node) a')) in
        let t : k ≡ k' = omega arith in
        let u : d ≡ d' = same_Some _ _ (sym f ∙ (ap (slice_get rule.children) t ∙ f')) in
        a ∙ ((λ i. child_row q.node ri (env q.node ri rule bs args) (suc (t i)) (u i)) ∙ sym a')
    one_origin z z' (inr (p, m, a)) (inr (p', m', a')) e =
        let s = good.0.apart p p' m m' (sym (done-same p).0 ∙ (sym (ap (λ (r : Row). r.node) a) ∙ (e ∙ (ap (λ (r : Row). r.node) a' ∙ (done-same p').0)))) in
        a ∙ (ap (done_row q.node (Done ri args)) s ∙ sym a')
    one_origin z z' (inl (k, d, f, a)) (inr (p, m, a')) e =
        never (taking.fresh p m (suc k) (sym (done-same p).0 ∙ (sym (ap (λ (r : Row). r.node) a') ∙ (sym e ∙ ap (λ (r : Row). r.node) a))))
    one_origin z z' (inr (p, m, a')) (inl (k, d, f, a)) e =
        never (taking.fresh p m (suc k) (sym (done-same p).0 ∙ (sym (ap (λ (r : Row). r.node) a') ∙ (e ∙ ap (λ (r : Row). r.node) a))))

    pub kept_row : (p : Row) → Member p c → Member (F (done_row q.node (Done ri args) p)) new
    kept_row p m = Member-rounded M (row_put (sigma rel c q ri rule bs args taking)) (done_row q.node (Done ri args) p) A
        (Member-all_inserted _ (child_rows q.node ri (env q.node ri rule bs args) 1 rule.children) (map (done_row q.node (Done ri args)) c) (inr (member_map (done_row q.node (Done ri args)) p c m)))

    pub still_closed : (p : Row) → (p.state ≡ Pending → Never) → (F (done_row q.node (Done ri args) p)).state ≡ Pending → Never
    still_closed p no_ f =
        let h = sym (rounds-state M (sigma rel c q ri rule bs args taking) (done_row q.node (Done ri args) p)) ∙ f in
        elim (done_row-cases q.node (Done ri args) p) [
          | inl x ↦ (let z : Done ri args ≡ Pending = sym (ap (λ (r : Row). r.state) x.1) ∙ h in absurd cc)
          | inr x ↦ no_ (sym (ap (λ (r : Row). r.state) x) ∙ h)
        ]

    pub own_closed : (p : Row) → q.node ≡ p.node → (F (done_row q.node (Done ri args) p)).state ≡ Pending → Never
    own_closed p e f =
        let h = sym (rounds-state M (sigma rel c q ri rule bs args taking) (done_row q.node (Done ri args) p)) ∙ f in
        let t : node_eq q.node p.node ≡ true = subst (λ n. node_eq q.node n ≡ true) e (node_self q.node) in
        let z : Done ri args ≡ Pending = sym (ap (λ b. (cond b (record p { state = Done ri args }) p).state) t) ∙ h in absurd cc

    new_tree : IsTree g new
    new_tree = record {
      apart = λ y y' m m' e.
          let (z, o, a) = from_added y m in
          let (z', o', a') = from_added y' m' in
          a ∙ (ap F (one_origin z z' (origin z o) (origin z' o') (sym (F-node z) ∙ (sym (ap (λ (r : Row). r.node) a) ∙ (e ∙ (ap (λ (r : Row). r.node) a' ∙ F-node z'))))) ∙ sym a');
      parents = λ y m n' ri' k' e.
          let (z, o, a) = from_added y m in
          let zn = sym (F-node z) ∙ (sym (ap (λ (r : Row). r.node) a) ∙ e) in
          elim (origin z o) [
            | inl x ↦ (let qn = below-node q.node n' ri ri' (suc x.0) k' (sym (ap (λ (r : Row). r.node) x.3) ∙ zn) in
                (F (done_row q.node (Done ri args) q), kept_row q taking.held, F-node _ ∙ ((done-same q).0 ∙ qn), own_closed q refl))
            | inr x ↦ (let (p', mp, np, sp) = good.0.parents x.0 x.1 n' ri' k' (sym (done-same x.0).0 ∙ (sym (ap (λ (r : Row). r.node) x.2) ∙ zn)) in
                (F (done_row q.node (Done ri args) p'), kept_row p' mp, F-node _ ∙ ((done-same p').0 ∙ np), still_closed p' sp))
          ];
      many = λ y m.
          let (z, o, a) = from_added y m in
          let len = ap (λ (r : Row). length r.results) a ∙ rounds-results-length M (sigma rel c q ri rule bs args taking) z in
          let so = ap (λ (r : Row). r.sort) a ∙ rounds-sort M (sigma rel c q ri rule bs args taking) z in
          elim (origin z o) [
            | inl x ↦ len ∙ (ap (λ (r : Row). length r.results) x.3 ∙ (length-map (upto 1 x.1.outs) (λ j. Leaf (result (below q.node ri (suc x.0)) j)) ∙ (length-upto 1 x.1.outs
                ∙ (fit.outs rule (member_got g.rules ri rule D.rule_is) x.0 x.1 x.2 ∙ ap (gives g) (sym (so ∙ ap (λ (r : Row). r.sort) x.3))))))
            | inr x ↦ len ∙ (ap (λ (r : Row). length r.results) x.2
                ∙ (ap length (done-same x.0).2 ∙ (good.0.many x.0 x.1 ∙ ap (gives g) (sym (so ∙ (ap (λ (r : Row). r.sort) x.2 ∙ (done-same x.0).1))))))
          ];
    }

    new_acyclic : IsAcyclic rel new
    new_acyclic = develop-acyclic rel c D.row ri rule bs args taking

    pub developed : Good (develop n ri rule bs args c)
    developed = subst (λ n. Good (develop n ri rule bs args c)) D.node (new_tree, new_acyclic)

    -- each hole is one of a pending row, and the row of the node is done
    no_hole : HasNoHoleOf q.node new
    no_hole y m h at s =
        let (p, j, mp, open_, f, low, high) = new_acyclic.whole y m h s in
        let own = F (done_row q.node (Done ri args) q) in
        let there : p.node ≡ own.node = sym (ap (λ (r : Ref). r.node) f) ∙ (at ∙ sym (F-node (done_row q.node (Done ri args) q) ∙ (done-same q).0)) in
        let same : p ≡ own = new_tree.apart p own mp (kept_row q taking.held) there in
        own_closed q refl (sym (ap (λ (r : Row). r.state) same) ∙ open_)

    pub leaves_no_hole : HasNoHoleOf n (develop n ri rule bs args c)
    leaves_no_hole = subst (λ n. HasNoHoleOf n (develop n ri rule bs args c)) D.node no_hole

  -- a start
  module _ (c : Config) (s k : ℕ) (good : Good c) (gone : row_of (root s k) c ≡ None) where
    abbrev row : Row
    row = start_row g s k

    abbrev with_row : Config
    with_row = insert_row row c

    start_tree : IsTree g with_row
    start_tree = record {
      apart = λ y y' m m' e.
          elim (Member-insert_row y row c m) [
            | inl a ↦ elim (Member-insert_row y' row c m') [
              | inl a' ↦ a ∙ sym a'
              | inr o' ↦ never (row_of-none (root s k) c gone y' o' (sym e ∙ ap (λ (r : Row). r.node) a))
            ]
            | inr o ↦ elim (Member-insert_row y' row c m') [
              | inl a' ↦ never (row_of-none (root s k) c gone y o (e ∙ ap (λ (r : Row). r.node) a'))
              | inr o' ↦ good.0.apart y y' o o' e
            ]
          ];
      parents = λ y m n' ri' k' e.
          elim (Member-insert_row y row c m) [
            | inl a ↦ never (root-below s k n' ri' k' (sym (ap (λ (r : Row). r.node) a) ∙ e))
            | inr o ↦ (let (p', mp, np, sp) = good.0.parents y o n' ri' k' e in (p', Member-inserted p' row c (inr mp), np, sp))
          ];
      many = λ y m.
          elim (Member-insert_row y row c m) [
            | inl a ↦ ap (λ (r : Row). length r.results) a ∙ (length-map (upto 1 (gives g s)) (λ j. Leaf (result (root s k) j))
                ∙ (length-upto 1 (gives g s) ∙ ap (gives g) (sym (ap (λ (r : Row). r.sort) a))))
            | inr o ↦ good.0.many y o
          ];
    }

    old_need : {a b : Ref} → Needs rel with_row a b → Needs rel c a b
    old_need (need y i j t m p x f w) = elim (Member-insert_row y row c m) [
      | inl a ↦ (let z : item [] i ≡ Some t = sym (ap (λ (r : Row). item r.inherited i) a) ∙ f in never (item_none i t z))
      | inr o ↦ need y i j t o p x f w
    ]

    old_walk : {a b : Ref} → Plus (Needs rel with_row) a b → Plus (Needs rel c) a b
    old_walk (step e) = step (old_need e)
    old_walk (more e w) = more (old_need e) (old_walk w)

    start_whole : IsWhole with_row
    start_whole y m h st =
        elim (Member-insert_row y row c m) [
          | inl a ↦ elim (subst (Stands h) a st) [
            | inl (t, n, w) ↦ never n
            | inr (t, n, w) ↦
                (let (j, o, f) = member_unmap (λ j. Leaf (result (root s k) j)) t (upto 1 (gives g s)) n in
                let lt : j < 1 + gives g s = upto-bound 1 (gives g s) j o in
                let low : 0 < j = upto-low 1 (gives g s) j o in (
                  row,
                  j,
                  Member-inserted row row c (inl refl),
                  refl,
                  subst (In h) f w,
                  low,
                  omega (arith, lt, length-map (upto 1 (gives g s)) (λ j. Leaf (result (root s k) j)), length-upto 1 (gives g s)),
                ))
          ]
          | inr o ↦ (let (p, j, mp, sp, f, lt0, lt) = good.1.whole y o h st in (p, j, Member-inserted p row c (inr mp), sp, f, lt0, lt))
        ]

    pub started : Good (insert_row (start_row g s k) c)
    started = (start_tree, record { whole = start_whole; no_circle = λ h w. good.1.no_circle h (old_walk w) })

  pub held_none : (o : Option Row) → not_held o ≡ Starts → o ≡ None
  held_none None e = refl
  held_none (Some q) e = absurd cc

  -- one choice
  pub taken-good : (c : Config) (x : Choice) (o : Outcome Value Ref) (d : Config) → Good c → outcome g c x ≡ o → taken g c x o ≡ Some d → Good d
  taken-good c x (Refused a) d good e t = absurd cc
  taken-good c (Start s k) Starts d good e t = subst Good (same_Some _ _ t) (started c s k good (held_none (row_of (root s k) c) e))
  taken-good c (Start s k) (Takes rule bs) d good e t = absurd cc
  taken-good c (Develop n ri args) Starts d good e t = absurd cc
  taken-good c (Develop n ri args) (Takes rule bs) d good e t =
      subst Good (same_Some _ _ t) (developed c n ri args rule bs good (decode_on g c (row_of n c) n ri args rule bs refl e))

  pub undivided-good : (c : Config) (xs : List Choice) (z : Config) → Good c → undivided g c xs ≡ Some z → Good z
  undivided-good c [] z good e = subst Good (same_Some _ _ e) good
  undivided-good c (x ∷ xs) z good e =
      option_and_then_some (λ d. undivided g d xs) (taken g c x (outcome g c x)) z e (λ d t f. undivided-good d xs z (taken-good c x (outcome g c x) d good refl t) f)

  pub empty_good : Good []
  empty_good = (record { apart = λ p p' m. never m; parents = λ p m. never m; many = λ p m. never m }, record { whole = λ q m. never m; no_circle = none })
    where
      none : (h : Ref) → Plus (Needs rel []) h h → Never
      none h (step (need q i j t m p x f w)) = never m
      none h (more (need q i j t m p x f w) v) = never m

  -- each undivided configuration is a tree of tasks and acyclic
  pub undivided-acyclic : RunsAreAcyclic g rel
  undivided-acyclic xs z e = undivided-good [] xs z empty_good e

  pub taken-leaves : (c : Config) (n : Node) (ri : ℕ) (args : List Ground) (o : Outcome Value Ref) (d : Config) → Good c →
      outcome g c (Develop n ri args) ≡ o → taken g c (Develop n ri args) o ≡ Some d → HasNoHoleOf n d
  taken-leaves c n ri args (Refused a) d good e t = absurd cc
  taken-leaves c n ri args Starts d good e t = absurd cc
  taken-leaves c n ri args (Takes rule bs) d good e t =
      subst (HasNoHoleOf n) (same_Some _ _ t) (leaves_no_hole c n ri args rule bs good (decode_on g c (row_of n c) n ri args rule bs refl e))

  -- the laws over this relation
  pub acyclic_runs : HasAcyclicRuns g rel
  acyclic_runs = record {
    keeps = λ c d x tree acyclic t. taken-good c x (outcome g c x) d (tree, acyclic) refl t;
    all = undivided-acyclic;
    leaves_none = λ c d n ri args tree acyclic t. taken-leaves c n ri args (outcome g c (Develop n ri args)) d (tree, acyclic) refl t;
  }
