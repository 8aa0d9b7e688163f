-- The joint configuration and the undivided one stay in step.
use Rattle.std.proofs.Common.{◌≡◌, ℕ, suc, List, [], ◌∷◌, ◌++◌, map, length, Option, Some, None, refl, sym, ap, ◌∙◌, subst, inl, inr, arith}
use Rattle.std.specs.Prelude.{slice_get, option_and_then}
use Rattle.aw_list.specs.Members.{Member}
use Rattle.aw_list.proofs.Members.{never, member_got}
use Rattle.aw_term.specs.Trees.{Never, Leaf, In, bind}
use Rattle.aw_term.specs.Names.{below, Node, node_eq, Ref, result, part, root}
use Rattle.aw_term.specs.Rules.{Term, Ground, Value, Child, Rule, Grammar, get}
use Rattle.aw_term.specs.Configs.{env, fill, State, Pending, Done, Row, Config, child_rows, insert_row, insert_rows, done_row, row_put, rounds, develop, row_of}
use Rattle.aw_term.specs.Choices.{Choice, Start, Develop, Outcome, Refused, Starts, Takes, outcome, start_row, gives_of, taken, undivided}
use Rattle.aw_accept.specs.Acyclic.{Pairs, IsGivenGrammar}
use Rattle.aw_iograph.specs.Dependence.{IO, HasNoCircle}
use Rattle.aw_iograph.proofs.Relations.{io_closed}
use Rattle.aw_iograph.specs.Occurrences.{item, entries}
use Rattle.aw_term.specs.WellFormed.{Each}
use Rattle.aw_store.specs.Equations.{Body, Equation, Map, find}
use Rattle.aw_store.specs.Unfold.{Unfolds, missing}
use Rattle.aw_apply.specs.Made.{lay, lay_list, lay_children, lay_results, Making, made, child_refs}
use Rattle.aw_law_sites.specs.Joint.{Held, held_of, insert_held, insert_all, mark, root_held, called_held, Joint, empty_joint, joint_outcome, add_made, joint_taken, joint_run}
use Rattle.aw_law_sites.specs.Laws.{AllUnfold, Agree, AgreeWhereTaken}
use Rattle.aw_law_sites.proofs.Entering.{IsTermOf, VariablesEnter}
use Rattle.aw_accept.proofs.Sources.{EntersAt, env_enters}
use Rattle.aw_accept.proofs.ConfigLemmas.{child_row, rounds-inherited-list, rounds-results-list, rounds-sort, rounds-state, item-mapped, Member-inserted, done_row-same}
use Rattle.aw_accept.proofs.Developing.{Taking, Known, Item-at, sigma}
use Rattle.aw_law_sites.proofs.LeftSides.{find-left, lefts}
use Rattle.aw_store.proofs.MoreEquations.{Holds, Holds-left, Holds-right}
use Rattle.aw_law_sites.proofs.FlatSteps.{FlatTaking, value_changes, term_changes, child_ref_ok, made_holds, left_own}
use Rattle.aw_accept.proofs.UndividedRuns.{Good, Decoded, decode_on, taking, kept_row, still_closed, own_closed, done-same, developed, started, held_none, row_of-none, empty_good}
use Rattle.aw_law_sites.proofs.AnyOrders.{option_cases, marked}
use Rattle.aw_law_sites.proofs.EquationValues.{HaveValues, have_values}
use Rattle.aw_law_sites.proofs.SideBySide.{cond_pair, insert_pairs, insert_all_pairs, look_up, map_pairs, map_right, rounds-map, out_at, Pairs-length}
use Rattle.aw_law_sites.proofs.BoundParts.{match_all-parts}
use Rattle.aw_law_sites.proofs.OutcomesAlike.{OutLike, held_like, start_like, node_same}
use Rattle.aw_term.proofs.RowParts.{rounds_node}

module _ (g : Grammar) (fit : IsGivenGrammar g) (enter : VariablesEnter g) (ok : HasNoCircle g (IO g)) where
  pub record Lockstep (w : Joint) (c : Config) : Type 0 where
    pub pairs : Pairs (λ h q. Agree w.equations h q) w.held c
    pub good : Good g fit (IO g) (io_closed g) ok c
    pub lefts : (x : Ref) (b : Body) → find w.equations x ≡ Some b → (p : Row) × Member p c × (x.node ≡ p.node) × (p.state ≡ Pending → Never)
    pub values : HaveValues w.equations c

  -- the outcome over references is the one over trees
  pub answers_agree : (w : Joint) (c : Config) → Lockstep w c → (x : Choice) → OutLike w.equations (joint_outcome w g x) (outcome g c x)
  answers_agree w c J (Start s k) = start_like w.equations (held_of (root s k) w.held) (row_of (root s k) c)
      (look_up (λ h q. Agree w.equations h q) (node_same w.equations) (root s k) w.held c J.pairs)
  answers_agree w c J (Develop n r args) = held_like g w.equations (held_of n w.held) (row_of n c) n r args (look_up (λ h q. Agree w.equations h q) (node_same w.equations) n w.held c J.pairs)

  module _ (w : Joint) (c : Config) (J : Lockstep w c) (n : Node) (ri : ℕ) (args : List Ground) (rule : Rule) (bs : List Value) (bound : List Ref)
      (D : Decoded g c n ri args rule bs) (values : AllUnfold w.equations bound bs) where
    abbrev q : Row
    q = D.row

    abbrev k : Map
    k = w.equations

    abbrev P : Taking (IO g) c q ri rule bs args
    P = taking g fit (IO g) (io_closed g) ok c n ri args rule bs J.good D

    no_equation : (x : Ref) → ((p : Row) → Member p c → x.node ≡ p.node → (p.state ≡ Pending → Never) → Never) → find k x ≡ None
    no_equation x h = go (find k x) refl
      where
        go : (o : Option Body) → find k x ≡ o → find k x ≡ None
        go None f = f
        go (Some b) f = let (p, m, e, s) = J.lefts x b f in never (h p m e s)

    rule_in : Member rule g.rules
    rule_in = member_got g.rules ri rule D.rule_is

    T : FlatTaking (IO g) c q ri rule bs args k bound
    T = record {
      plain = P;
      own_free = λ x e. no_equation x (λ p m f s. s (ap (λ (r : Row). r.state) (J.good.0.apart p q m D.held (sym f ∙ e)) ∙ D.open_));
      child_free = λ x i e. no_equation x (λ p m f s. P.fresh p m i (sym f ∙ e));
      values = values;
      parts = λ b m h i. let (t, mt, it) = match_all-parts 1 rule.patterns q.inherited bs D.bound b m h i in J.good.1.whole q D.held h (inl (t, mt, it));
      in_range = λ t o v i. let a = enter rule rule_in t o v i in let b = Pairs-length (EntersAt q ri rule) (entries rule)
          (env q.node ri rule bs args) (env_enters q ri rule bs args D.bound D.given) in omega (arith, a, b);
    }

    abbrev m : Making
    m = made q.node ri rule args bound

    abbrev k1 : Map
    k1 = k ++ m.equations

    abbrev s : Ref → Value
    s = sigma (IO g) c q ri rule bs args P

    abbrev M : ℕ
    M = length rule.results

    abbrev G : Value → Value
    G = rounds M (bind s)

    abbrev st : State
    st = Done ri args

    abbrev FF : Row → Row
    FF = rounds M (row_put s)

    abbrev R : Held → Row → Type 0
    R h z = Agree k1 h (FF z)

    changes : (x : Ref) (t : Value) → Unfolds k x t → ((h : Ref) → In h t → Known (IO g) c q ri rule bs args P h) → Unfolds k1 x (G t)
    changes x t d g' = value_changes (IO g) c q ri rule bs args k bound T x t d g'

    FF-inherited : (z : Row) → (FF z).inherited ≡ map (λ t. G t) z.inherited
    FF-inherited z = rounds-inherited-list M s z ∙ rounds-map M (bind s) z.inherited

    FF-results : (z : Row) → (FF z).results ≡ map (λ t. G t) z.results
    FF-results z = rounds-results-list M s z ∙ rounds-map M (bind s) z.results

    done_inherited : (p : Row) → (done_row q.node st p).inherited ≡ p.inherited
    done_inherited p = done_row-same (λ (r : Row). r.inherited) q.node st p refl

    old_pair : (h : Held) (p : Row) → Member p c → Agree k h p → R (mark q.node st h) (done_row q.node st p)
    old_pair h p mp a =
        let z = done_row q.node st p in
        let (mn, ms, mi) = marked q.node st h in
        let ds = done-same g fit (IO g) (io_closed g) ok c n ri args rule bs J.good D p in
        record {
          node = mn ∙ (a.node ∙ (sym ds.0 ∙ sym (rounds_node M s (done_row q.node st p))));
          sort = ms ∙ (a.sort ∙ (sym ds.1 ∙ sym (rounds-sort M s (done_row q.node st p))));
          state = cond_pair (λ (h : Held) (p : Row). h.state ≡ p.state) (node_eq q.node h.node) (node_eq q.node p.node) (record h { state = st }) h
              (record p { state = st }) p (ap (node_eq q.node) a.node) refl a.state ∙ sym (rounds-state M s (done_row q.node st p));
          inherited = subst (λ rs. AllUnfold k1 rs (FF (done_row q.node st p)).inherited) (sym mi)
              (subst (λ ts. AllUnfold k1 h.inherited ts) (sym (FF-inherited (done_row q.node st p) ∙ ap (map (λ t. G t)) (done_inherited p)))
              (map_right (λ r t. Unfolds k r t) (λ r t. Unfolds k1 r t) (λ t. G t) h.inherited p.inherited (λ r t mt u. changes r t u (λ x i. J.good.1.whole p mp x (inl (t, mt, i)))) a.inherited));
          results = λ j t e.
              let e' = sym (ap (λ ts. item ts j) (FF-results (done_row q.node st p) ∙ ap (map (λ t. G t)) ds.2)) ∙ e in
              let (t0, f, eq) = item-mapped (λ t. G t) p.results j t e' in
              let u = changes (result h.node j) t0 (a.results j t0 f) (λ x i. J.good.1.whole p mp x (inr (t0, Item-at p.results j t0 f, i))) in
              subst (λ nd. Unfolds k1 (result nd j) t) (sym mn) (subst (Unfolds k1 (result h.node j)) (sym eq) u);
        }

    abbrev refs : ℕ → Ref
    refs = get (part q.node 0) (bound ++ ((lay_list q.node (λ (x : Never). elim x [ ]) 1 args).roots ++ child_refs q.node ri 1 rule.children))

    abbrev vals : List Value
    vals = env q.node ri rule bs args

    arg_pairs : (ts : List Term) (i : ℕ) → ((t : Term) → Member t ts → IsTermOf rule t) → Holds k1 (lay_list q.node refs i ts).equations →
        AllUnfold k1 (lay_list q.node refs i ts).roots (map (λ t. G t) (map (fill vals) ts))
    arg_pairs [] i o h = tt
    arg_pairs (t ∷ ts) i o h =
        let a = lay q.node refs i t in (
          term_changes (IO g) c q ri rule bs args k bound T t (o t (inl refl)) i (Holds-left k1 a.equations (lay_list q.node refs a.next ts).equations h),
          arg_pairs ts a.next (λ t m. o t (inr m)) (Holds-right k1 a.equations (lay_list q.node refs a.next ts).equations h),
        )

    child_result : (i j : ℕ) → Unfolds k1 (result (below q.node ri i) j) (G (Leaf (result (below q.node ri i) j)))
    child_result i j =
        elim (child_ref_ok (IO g) c q ri rule bs args k bound T i j) [ inl d ↦ changes _ _ d.0 d.1 | inr d ↦ d M ]

    child_pairs : (cs : List Child) (i l : ℕ) → ((j : ℕ) (d : Child) → slice_get cs j ≡ Some d → (j' : ℕ) × (slice_get rule.children j' ≡ Some d)) →
        Holds k1 (lay_children q.node ri refs i l cs).equations → Pairs R (map called_held (lay_children q.node ri refs i l cs).roots)
        (child_rows q.node ri vals i cs)
    child_pairs [] i l at h = tt
    child_pairs (d ∷ cs) i l at h =
        let a = lay_list q.node refs l d.args in
        let z = child_row q.node ri vals i d in
        let (j', f) = at 0 d refl in (
          record {
            node = sym (rounds_node M s (child_row q.node ri vals i d));
            sort = sym (rounds-sort M s (child_row q.node ri vals i d));
            state = sym (rounds-state M s (child_row q.node ri vals i d));
            inherited = subst (λ ts. AllUnfold k1 a.roots ts) (sym (FF-inherited (child_row q.node ri vals i d)))
                (arg_pairs d.args l (λ t m. inr (j', d, f, m)) (Holds-left k1 a.equations (lay_children q.node ri refs (suc i) a.next cs).equations h));
            results = λ j t e.
                let e' = sym (ap (λ ts. item ts j) (FF-results (child_row q.node ri vals i d))) ∙ e in
                let (t0, f0, eq) = item-mapped (λ t. G t) (child_row q.node ri vals i d).results j t e' in
                let p = out_at (λ j. Leaf (result (below q.node ri i) j)) d.outs j t0 f0 in
                subst (Unfolds k1 (result (below q.node ri i) j)) (sym (eq ∙ ap G p)) (child_result i j);
          },
          child_pairs cs (suc i) a.next (λ j d e. at (suc j) d e) (Holds-right k1 a.equations (lay_children q.node ri refs (suc i) a.next cs).equations h),
        )

    calls_hold : Holds k1 (lay_children q.node ri refs 1 (lay_list q.node (λ (x : Never). elim x [ ]) 1 args).next rule.children).equations
    calls_hold =
        let a = lay_list q.node (λ (x : Never). elim x [ ]) 1 args in
        let d = lay_children q.node ri refs 1 a.next rule.children in
        Holds-left k1 d.equations (lay_results q.node refs d.next 1 rule.results)
        (Holds-right k1 a.equations (d.equations ++ lay_results q.node refs d.next 1 rule.results) (made_holds (IO g) c q ri rule bs args k bound T))

    before_rounds : Pairs R (insert_all (map called_held m.calls) (map (mark q.node st) w.held)) (insert_rows (child_rows q.node ri vals 1 rule.children) (map (done_row q.node st) c))
    before_rounds =
        insert_all_pairs R (λ h z a. a.node ∙ rounds_node M s z) (map called_held m.calls) (child_rows q.node ri vals 1 rule.children) (map (mark q.node st) w.held) (map (done_row q.node st) c)
        (child_pairs rule.children 1 (lay_list q.node (λ (x : Never). elim x [ ]) 1 args).next (λ j d e. (j, e)) calls_hold)
        (map_pairs (λ h p. Agree k h p) R (mark q.node st) (done_row q.node st) w.held c (λ h p mp a. old_pair h p mp a) J.pairs)

    after_rounds : Pairs (λ h z. Agree k1 h z) (insert_all (map called_held m.calls) (map (mark q.node st) w.held)) (develop q.node ri rule bs args c)
    after_rounds = subst (λ zs. Pairs (λ h z. Agree k1 h z) (insert_all (map called_held m.calls) (map (mark q.node st) w.held)) zs) (sym (rounds-map M (row_put s) _))
        (map_right R (λ h z. Agree k1 h z) FF _ _ (λ h z mz a. a) before_rounds)

    left_there : (es : List Equation) (x : Ref) → Each (λ (e : Equation). e.left.node ≡ q.node) es → Member x (lefts es) → x.node ≡ q.node
    left_there [] x o mm = never mm
    left_there (e ∷ es) x o (inl p) = ap (λ (r : Ref). r.node) p ∙ o.0
    left_there (e ∷ es) x o (inr p) = left_there es x o.1 p

    new_lefts : (x : Ref) (b : Body) → find k1 x ≡ Some b → (p : Row) × Member p (develop q.node ri rule bs args c) × (x.node ≡ p.node) × (p.state ≡ Pending → Never)
    new_lefts x b f =
        elim (option_cases k m.equations x b (find k x) refl f) [
          | inl a ↦
              (let (p, mp, e, np) = J.lefts x b a in (
                FF (done_row q.node st p),
                kept_row g fit (IO g) (io_closed g) ok c n ri args rule bs J.good D p mp,
                e
                    ∙ (sym (done-same g fit (IO g) (io_closed g) ok c n ri args rule bs J.good D p).0 ∙ sym (rounds_node M s _)),
                still_closed g fit (IO g) (io_closed g) ok c n ri args rule bs J.good D p np,
              ))
          | inr a ↦
              (let e = left_there m.equations x (left_own (IO g) c q ri rule bs args k bound T) (find-left m.equations x b a) in (
                FF (done_row q.node st q),
                kept_row g fit (IO g) (io_closed g) ok c n ri args rule bs J.good D q D.held,
                e
                    ∙ (sym (done-same g fit (IO g) (io_closed g) ok c n ri args rule bs J.good D q).0 ∙ sym (rounds_node M s _)),
                own_closed g fit (IO g) (io_closed g) ok c n ri args rule bs J.good D q refl,
              ))
        ]

    pub develop_lockstep : Lockstep (add_made w n (Done ri args) (made n ri rule args bound)) (develop n ri rule bs args c)
    develop_lockstep = subst (λ n. Lockstep (add_made w n (Done ri args) (made n ri rule args bound)) (develop n ri rule bs args c)) D.node
        (record {
          pairs = after_rounds;
          good = subst (λ n. Good g fit (IO g) (io_closed g) ok (develop n ri rule bs args c)) (sym D.node)
              (developed g fit (IO g) (io_closed g) ok c n ri args rule bs J.good D);
          lefts = new_lefts;
          values = have_values (IO g) c q ri rule bs
              args k bound T J.values;
        })

  start_pair : (k : Map) (s l : ℕ) → ((x : Ref) → x.node ≡ root s l → find k x ≡ None) → Agree k (root_held s l) (start_row g s l)
  start_pair k s l free = record {
    node = refl;
    sort = refl;
    state = refl;
    inherited = tt;
    results = λ j t e. subst (Unfolds k (result (root s l) j)) (sym (out_at (λ j. Leaf (result (root s l) j)) (gives_of (slice_get g.sorts s)) j t e)) (missing (free (result (root s l) j) refl));
  }

  start_lockstep : (w : Joint) (c : Config) → Lockstep w c → (s l : ℕ) → row_of (root s l) c ≡ None → Lockstep (record w { held = insert_held (root_held s l) w.held }) (insert_row (start_row g s l) c)
  start_lockstep w c J s l gone = record {
    pairs = insert_pairs (λ h q. Agree w.equations h q) (node_same w.equations) (root_held s l) (start_row g s l) w.held c (start_pair w.equations s l free) J.pairs;
    good = started g fit (IO g) (io_closed g) ok c s l J.good gone;
    lefts = λ x b f. let (p, m, e, np) = J.lefts x b f in (p, Member-inserted p (start_row g s l) c (inr m), e, np);
    values = λ x b f. let (t, d, o) = J.values x b f in (t, d, λ h w. let (p, j, m, st, e, low, high) = o h w in (p, j, Member-inserted p (start_row g s l) c (inr m), st, e, low, high));
  }
    where
      free : (x : Ref) → x.node ≡ root s l → find w.equations x ≡ None
      free x e = go (find w.equations x) refl
        where
          go : (o : Option Body) → find w.equations x ≡ o → find w.equations x ≡ None
          go None f = f
          go (Some b) f = let (p, m, d, np) = J.lefts x b f in never (row_of-none (root s l) c gone p m (sym d ∙ e))

  abbrev pub LikeStates : Option Joint → Option Config → Type 0
  LikeStates None None = Unit {0}
  LikeStates (Some w) (Some c) = Lockstep w c
  LikeStates None (Some c) = Never
  LikeStates (Some w) None = Never

  pub step_lockstep : (w : Joint) (c : Config) → Lockstep w c → (x : Choice) (o : Outcome Ref Ref) (o' : Outcome Value Ref) →
      joint_outcome w g x ≡ o → outcome g c x ≡ o' → OutLike w.equations o o' → LikeStates (joint_taken w x o) (taken g c x o')
  step_lockstep w c J x (Refused a) (Refused b) e e' l = tt
  step_lockstep w c J (Start s k) Starts Starts e e' l = start_lockstep w c J s k (held_none g fit (IO g) (io_closed g) ok (row_of (root s k) c) e')
  step_lockstep w c J (Start s k) (Takes r xs) (Takes r' ts) e e' l = tt
  step_lockstep w c J (Develop n r args) Starts Starts e e' l = tt
  step_lockstep w c J (Develop n ri args) (Takes r xs) (Takes r' ts) e e' l =
      subst (λ r. Lockstep (add_made w n (Done ri args) (made n ri r args xs)) (develop n ri r' ts args c)) (sym l.0)
      (develop_lockstep w c J n ri args r' ts xs (decode_on g c (row_of n c) n ri args r' ts refl e') l.1)
  step_lockstep w c J x (Refused a) Starts e e' l = never l
  step_lockstep w c J x (Refused a) (Takes r ts) e e' l = never l
  step_lockstep w c J x Starts (Refused a) e e' l = never l
  step_lockstep w c J x Starts (Takes r ts) e e' l = never l
  step_lockstep w c J x (Takes r xs) (Refused a) e e' l = never l
  step_lockstep w c J x (Takes r xs) Starts e e' l = never l

  on_lockstep : (xs : List Choice) → ((w : Joint) (c : Config) → Lockstep w c → LikeStates (joint_run g w xs) (undivided g c xs)) →
      (o : Option Joint) (o' : Option Config) → LikeStates o o' → LikeStates (option_and_then (λ v. joint_run g v xs) o)
      (option_and_then (λ d. undivided g d xs) o')
  on_lockstep xs f None None l = tt
  on_lockstep xs f (Some w) (Some c) l = f w c l
  on_lockstep xs f None (Some c) l = never l
  on_lockstep xs f (Some w) None l = never l

  pub run_lockstep : (xs : List Choice) (w : Joint) (c : Config) → Lockstep w c → LikeStates (joint_run g w xs) (undivided g c xs)
  run_lockstep [] w c K = K
  run_lockstep (x ∷ xs) w c K = on_lockstep xs (run_lockstep xs) (joint_taken w x (joint_outcome w g x)) (taken g c x (outcome g c x))
      (step_lockstep w c K x (joint_outcome w g x) (outcome g c x) refl refl (answers_agree w c K x))

  pub weaken : (o : Option Joint) (o' : Option Config) → LikeStates o o' → AgreeWhereTaken o o'
  weaken None None l = tt
  weaken (Some w) (Some c) l = l.pairs
  weaken None (Some c) l = never l
  weaken (Some w) None l = never l

  pub empty_lockstep : Lockstep (empty_joint) []
  empty_lockstep = record { pairs = tt; good = empty_good g fit (IO g) (io_closed g) ok; lefts = λ x b f. absurd cc; values = λ x b f. absurd cc }

  -- flat equations are substitution, for every list of choices
  pub flat_is_substitution : (cs : List Choice) → AgreeWhereTaken (joint_run g empty_joint cs) (undivided g [] cs)
  flat_is_substitution cs = weaken (joint_run g empty_joint cs) (undivided g [] cs) (run_lockstep cs (empty_joint) [] empty_lockstep)
