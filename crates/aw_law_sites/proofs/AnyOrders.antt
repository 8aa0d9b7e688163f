-- Two lists of the same choices make the same nodes and equations.
use Rattle.std.proofs.Common.{◌≡◌, ℕ, Bool, true, false, cond, List, [], ◌∷◌, ◌++◌, map, Option, Some, None, refl, sym, ap, ◌∙◌, subst, inl, inr}
use Rattle.std.specs.Prelude.{slice_get, ◌⊎◌}
use Rattle.std.proofs.lemmas.Option.{same_Some, option_and_then_some}
use Rattle.aw_list.specs.Members.{Member}
use Rattle.aw_list.proofs.Members.{never, member_unmap, member_map}
use Rattle.aw_term.specs.Names.{Node, node_eq, node_lt, Ref}
use Rattle.aw_term.specs.Rules.{Term, Ground, Rule, Grammar}
use Rattle.aw_term.specs.Configs.{State, Pending, Done}
use Rattle.aw_term.specs.Choices.{Choice, Start, Develop, Outcome, Refused, Starts, Takes}
use Rattle.aw_term.specs.Matching.{Yes}
use Rattle.aw_store.specs.Equations.{Body, Equation, Map, find}
use Rattle.aw_store.specs.Refs.{ref_eq}
use Rattle.aw_apply.specs.Made.{Making, Call, made}
use Rattle.aw_apply.specs.Guard.{guard_all}
use Rattle.aw_law_sites.specs.Joint.{Held, held_of, insert_held, insert_all, mark, root_held, called_held, by_rule, by_state, by_held, Joint}
use Rattle.aw_law_sites.specs.Joint.{empty_joint, joint_outcome, add_made, joint_taken, joint_run}
use Rattle.aw_accept.proofs.ConfigLemmas.{insert_cases, inserted_cases}
use Rattle.aw_store.proofs.MoreEquations.{find-left_more, find-right_more, Holds, Holds-wider}
use Rattle.aw_apply.proofs.Numbering.{made-holds}
use Rattle.aw_law_sites.proofs.Guarding.{guard_all-keeps, Final}
use Rattle.aw_accept.proofs.Binding.{yes-inj}
use Rattle.aw_accept.proofs.UndividedRuns.{found_cases, tests-take}
use Rattle.aw_name.specs.SameNodes.{node_is, node_self}
use Rattle.aw_term.proofs.RefTests.{ref_eq-true}

pub held_of-found : (n : Node) (hs : List Held) (h : Held) → held_of n hs ≡ Some h → Member h hs × (h.node ≡ n)
held_of-found n [] h e = absurd cc
held_of-found n (q ∷ qs) h e =
    elim (found_cases (λ (q : Held). q.node) (node_eq n q.node) n q h (held_of n qs) refl e) [
      | inl x ↦ (inl (sym x.0), sym (ap (λ (h : Held). h.node) x.0) ∙ sym x.1)
      | inr x ↦ (let (m, f) = held_of-found n qs h x in (inr m, f))
    ]

-- what is known of a rule that is taken
pub record Took (g : Grammar) (w : Joint) (n : Node) (r : ℕ) (args : List Ground) (rule : Rule) (bound : List Ref) : Type 0 where
  pub held : Held
  pub is_held : Member held w.held
  pub node : held.node ≡ n
  pub open_ : held.state ≡ Pending
  pub rule_is : slice_get g.rules r ≡ Some rule
  pub yes : guard_all w.equations 1 rule.patterns held.inherited ≡ Yes bound

pub rule-takes : (g : Grammar) (o : Option Rule) (k : Map) (n : Node) (args : List Ground) (q : Held) (rule : Rule) (bound : List Ref) →
    by_rule o k n args q ≡ Takes rule bound → (o ≡ Some rule) × (guard_all k 1 rule.patterns q.inherited ≡ Yes bound)
rule-takes g None k n args q rule bound e = absurd cc
rule-takes g (Some ru) k n args q rule bound e =
    let (p, a, b, y) = tests-take n ru q.sort args (guard_all k 1 ru.patterns q.inherited) rule bound e in
    (ap Some p, subst (λ (ru : Rule). guard_all k 1 ru.patterns q.inherited ≡ Yes bound) p y)

pub state-takes : (g : Grammar) (s : State) (k : Map) (n : Node) (r : ℕ) (args : List Ground) (q : Held) (rule : Rule) (bound : List Ref) →
    by_state s g k n r args q ≡ Takes rule bound → (s ≡ Pending) × (slice_get g.rules r ≡ Some rule) × (guard_all k 1 rule.patterns q.inherited ≡ Yes bound)
state-takes g (Done a b) k n r args q rule bound e = absurd cc
state-takes g Pending k n r args q rule bound e = let (a, b) = rule-takes g (slice_get g.rules r) k n args q rule bound e in (refl, a, b)

pub held-takes : (g : Grammar) (w : Joint) (o : Option Held) (n : Node) (r : ℕ) (args : List Ground) (rule : Rule) (bound : List Ref) →
    held_of n w.held ≡ o → by_held o g w.equations n r args ≡ Takes rule bound → Took g w n r args rule bound
held-takes g w None n r args rule bound f e = absurd cc
held-takes g w (Some q) n r args rule bound f e =
    let (a, b, c) = state-takes g q.state w.equations n r args q rule bound e in
    let (m, p) = held_of-found n w.held q f in
    record { held = q; is_held = m; node = p; open_ = a; rule_is = b; yes = c }

pub takes : (g : Grammar) (w : Joint) (n : Node) (r : ℕ) (args : List Ground) (rule : Rule) (bound : List Ref) → joint_outcome w g (Develop n r args) ≡ Takes rule bound → Took g w n r args rule bound
takes g w n r args rule bound e = held-takes g w (held_of n w.held) n r args rule bound refl e

-- pending, or the same state
abbrev pub Goes_on : State → State → Type 0
Goes_on s t = (s ≡ Pending) ⊎ (s ≡ t)

goes_on : (s t u : State) → Goes_on s t → Goes_on t u → Goes_on s u
goes_on s t u (inl e) f = inl e
goes_on s t u (inr e) (inl f) = inl (e ∙ f)
goes_on s t u (inr e) (inr f) = inr (e ∙ f)

-- the same node with the same inherited references, in a state that goes on
abbrev pub Is_at : Held → List Held → Type 0
Is_at h hs = (h' : Held) × Member h' hs × (h.node ≡ h'.node) × (h.sort ≡ h'.sort) × (h.inherited ≡ h'.inherited) × Goes_on h.state h'.state

pub record IsPartOf (v w : Joint) : Type 0 where
  pub held : (h : Held) → Member h v.held → Is_at h w.held
  pub equations : (r : Ref) (b : Body) → find v.equations r ≡ Some b → find w.equations r ≡ Some b

done_on : (s t : State) (r : ℕ) (args : List Ground) → s ≡ Done r args → Goes_on s t → t ≡ Done r args
done_on s t r args e (inl f) = absurd cc
done_on s t r args e (inr f) = sym f ∙ e

-- what stays of a choice that was taken
abbrev pub Fixed : Grammar → Joint → Choice → Type 0
Fixed g w (Start s k) = Is_at (root_held s k) w.held
Fixed g w (Develop n r args) =
    (h : Held) × (rule : Rule) × (bound : List Ref) × Member h w.held × (h.node ≡ n) × (h.state ≡ Done r args) × (slice_get g.rules r ≡ Some rule) ×
    (guard_all w.equations 1 rule.patterns h.inherited ≡ Yes bound) × Holds w.equations (made n r rule args bound).equations ×
    ((c : Call) → Member c (made n r rule args bound).calls → Is_at (called_held c) w.held)

IsPartOf-at : (v w : Joint) → IsPartOf v w → (h : Held) → Is_at h v.held → Is_at h w.held
IsPartOf-at v w p h (h', m, a, b, c, s) = let (h'', m', a', b', c', s') = p.held h' m in (h'', m', a ∙ a', b ∙ b', c ∙ c', goes_on h.state h'.state h''.state s s')

pub yes-kept : (k k' : Map) → ((r : Ref) (b : Body) → find k r ≡ Some b → find k' r ≡ Some b) → (ps : List Term) (rs bound : List Ref) →
    guard_all k 1 ps rs ≡ Yes bound → guard_all k' 1 ps rs ≡ Yes bound
yes-kept k k' f ps rs bound e = guard_all-keeps k k' f 1 ps rs (subst (Final k') (sym e) tt) ∙ e

pub Fixed-more : (g : Grammar) (v w : Joint) → IsPartOf v w → (c : Choice) → Fixed g v c → Fixed g w c
Fixed-more g v w p (Start s k) f = IsPartOf-at v w p (root_held s k) f
Fixed-more g v w p (Develop n r args) (h, rule, bound, m, e, sd, f, y, hs, cs) =
    let (h', m', a, b, c, st) = p.held h m in (
      h',
      rule,
      bound,
      m',
      sym a ∙ e,
      done_on h.state h'.state r args sd st,
      f,
      subst (λ i. guard_all w.equations 1 rule.patterns i ≡ Yes bound) c (yes-kept v.equations w.equations p.equations rule.patterns h.inherited bound y),
      Holds-wider v.equations w.equations p.equations _ hs,
      λ c m. IsPartOf-at v w p (called_held c) (cs c m),
    )

-- members after a choice
pub Member-insert_held : (y r : Held) (c : List Held) → Member y (insert_held r c) → (y ≡ r) ⊎ Member y c
Member-insert_held y r [] (inl e) = inl e
Member-insert_held y r [] (inr m) = inr m
Member-insert_held y r (q ∷ qs) m = insert_cases (node_lt r.node q.node) y r q qs (insert_held r qs) (Member-insert_held y r qs) m

pub Member-insert_all : (y : Held) (rs c : List Held) → Member y (insert_all rs c) → Member y rs ⊎ Member y c
Member-insert_all y [] c m = inr m
Member-insert_all y (r ∷ rs) c m =
    elim (Member-insert_all y rs (insert_held r c) m) [ inl n ↦ inl (inr n) | inr n ↦ elim (Member-insert_held y r c n) [ inl e ↦ inl (inl e) | inr o ↦ inr o ] ]

pub Member-inserted_held : (y r : Held) (c : List Held) → (y ≡ r) ⊎ Member y c → Member y (insert_held r c)
Member-inserted_held y r [] m = m
Member-inserted_held y r (q ∷ qs) m = inserted_cases (node_lt r.node q.node) y r q qs (insert_held r qs) (Member-inserted_held y r qs) m

pub Member-all_held : (y : Held) (rs c : List Held) → Member y rs ⊎ Member y c → Member y (insert_all rs c)
Member-all_held y [] c (inl m) = never m
Member-all_held y [] c (inr m) = m
Member-all_held y (r ∷ rs) c (inl (inl e)) = Member-all_held y rs (insert_held r c) (inr (Member-inserted_held y r c (inl e)))
Member-all_held y (r ∷ rs) c (inl (inr m)) = Member-all_held y rs (insert_held r c) (inl m)
Member-all_held y (r ∷ rs) c (inr m) = Member-all_held y rs (insert_held r c) (inr (Member-inserted_held y r c (inr m)))

mark_cases : (b : Bool) (s : State) (q : Held) → ((cond b (record q { state = s }) q).node ≡ q.node)
    × ((cond b (record q { state = s }) q).sort ≡ q.sort) × ((cond b (record q { state = s }) q).inherited ≡ q.inherited)
mark_cases true s q = (refl, refl, refl)
mark_cases false s q = (refl, refl, refl)

pub marked : (n : Node) (s : State) (q : Held) → ((mark n s q).node ≡ q.node) × ((mark n s q).sort ≡ q.sort) × ((mark n s q).inherited ≡ q.inherited)
marked n s q = mark_cases (node_eq n q.node) s q

-- no equation is of a node without a choice, and nodes differ
pub record IsFit (w : Joint) : Type 0 where
  pub open_free : (h : Held) → Member h w.held → h.state ≡ Pending → (x : Ref) → x.node ≡ h.node → find w.equations x ≡ None
  pub apart : (h h' : Held) → Member h w.held → Member h' w.held → h.node ≡ h'.node → h ≡ h'

mark_state : (b : Bool) (s : State) (q : Held) → (b ≡ true → q.state ≡ Pending) → Goes_on q.state (cond b (record q { state = s }) q).state
mark_state true s q f = inl (f refl)
mark_state false s q f = inr refl

pub mark_done : (n : Node) (s : State) (q : Held) → q.node ≡ n → (mark n s q).state ≡ s
mark_done n s q e = ap (λ b. (cond b (record q { state = s }) q).state) (subst (λ m. node_eq n m ≡ true) (sym e) (node_self n))

add_made-part : (w : Joint) (n : Node) (s : State) (m : Making) → ((h : Held) → Member h w.held → h.node ≡ n → h.state ≡ Pending) → IsPartOf w (add_made w n s m)
add_made-part w n s m f = record {
  held = λ h o. let (a, b, c) = marked n s h in (
    mark n s h,
    Member-all_held _ (map called_held m.calls) _ (inr (member_map (mark n s) h w.held o)),
    sym a,
    sym b,
    sym c,
    mark_state (node_eq n h.node) s h (λ e. f h o (sym (node_is n h.node e))),
  );
  equations = find-left_more w.equations m.equations;
}

in_cases : (t : Bool) (k es : Map) (x : Ref) (q : Equation) (b : Body) → ref_eq x q.left ≡ t → find k q.left ≡ Some q.body →
    (find es x ≡ Some b → find k x ≡ Some b) → cond t (Some q.body) (find es x) ≡ Some b → find k x ≡ Some b
in_cases true k es x q b f h ih g = ap (find k) (ref_eq-true x q.left f) ∙ h ∙ g
in_cases false k es x q b f h ih g = ih g

pub find-in_holds : (k es : Map) (x : Ref) (b : Body) → Holds k es → find es x ≡ Some b → find k x ≡ Some b
find-in_holds k [] x b h e = absurd cc
find-in_holds k (q ∷ es) x b h e = in_cases (ref_eq x q.left) k es x q b refl h.0 (find-in_holds k es x b h.1) e

pub option_cases : (k es : Map) (x : Ref) (b : Body) (o : Option Body) → find k x ≡ o → find (k ++ es) x ≡ Some b → (find k x ≡ Some b) ⊎ (find es x ≡ Some b)
option_cases k es x b None e f = inr (sym (find-right_more k es x e) ∙ f)
option_cases k es x b (Some y) e f = inl (e ∙ (sym (find-left_more k es x y e) ∙ f))

-- a taken choice is fixed from then on
step_fixed : (g : Grammar) (w : Joint) (c : Choice) (o : Outcome Ref Ref) (w' : Joint) → IsFit w → joint_outcome w g c ≡ o → joint_taken w c o ≡ Some w' → IsPartOf w w' × Fixed g w' c
step_fixed g w c (Refused a) w' f e t = absurd cc
step_fixed g w (Start s k) Starts w' f e t =
    let p = same_Some _ _ t in (
      subst (IsPartOf w) p (record {
        held = λ h m. (h, Member-inserted_held h (root_held s k) w.held (inr m), refl, refl, refl, inr refl);
        equations = λ r b e. e;
      }),
      subst (λ w'. Fixed g w' (Start s k)) p (root_held s k, Member-inserted_held _ (root_held s k) w.held (inl refl), refl, refl, refl, inr refl),
    )
step_fixed g w (Start s k) (Takes rule bound) w' f e t = absurd cc
step_fixed g w (Develop n r args) Starts w' f e t = absurd cc
step_fixed g w (Develop n r args) (Takes rule bound) w' f e t =
    let p = same_Some _ _ t in
    let T = takes g w n r args rule bound e in
    let part = add_made-part w n (Done r args) (made n r rule args bound) (λ h o e. ap (λ (h : Held). h.state) (f.apart h T.held o T.is_held (e ∙ sym T.node)) ∙ T.open_) in
    let (a, b, c) = marked n (Done r args) T.held in
    let free = λ (x : Ref) (e : x.node ≡ n). f.open_free T.held T.is_held T.open_ x (e ∙ sym T.node) in (
      subst (IsPartOf w) p part,
      subst (λ w'. Fixed g w' (Develop n r args)) p (
        mark n (Done r args) T.held,
        rule,
        bound,
        Member-all_held _ (map called_held (made n r rule args bound).calls) _ (inr (member_map (mark n (Done r args)) T.held w.held T.is_held)),
        a ∙ T.node,
        mark_done n (Done r args) T.held T.node,
        T.rule_is,
        subst (λ i. guard_all (w.equations ++ (made n r rule args bound).equations) 1 rule.patterns i ≡ Yes bound) (sym c)
            (yes-kept w.equations (w.equations ++ (made n r rule args bound).equations) (find-left_more w.equations (made n r rule args bound).equations) rule.patterns T.held.inherited bound T.yes),
        made-holds w.equations n r rule args bound free,
        λ c o. (
          called_held c,
          Member-all_held (called_held c) (map called_held (made n r rule args bound).calls) (map (mark n (Done r args)) w.held)
              (inl (member_map called_held c (made n r rule args bound).calls o)),
          refl,
          refl,
          refl,
          inr refl,
        ),
      ),
    )

marked_on : (b : Bool) (s : State) (d u : Held) → Goes_on d.state u.state → (b ≡ true → u.state ≡ s) → Goes_on (cond b (record d { state = s }) d).state u.state
marked_on true s d u g f = inr (sym (f refl))
marked_on false s d u g f = g

-- from a part of w, a choice that is fixed in w leads to a part of w
step_part : (g : Grammar) (v : Joint) (c : Choice) (o : Outcome Ref Ref) (v' w : Joint) → ((h h' : Held) → Member h w.held → Member h' w.held →
    h.node ≡ h'.node → h ≡ h') → joint_outcome v g c ≡ o → joint_taken v c o ≡ Some v' → IsPartOf v w → Fixed g w c → IsPartOf v' w
step_part g v c (Refused a) v' w one_each e t p f = absurd cc
step_part g v (Start s k) Starts v' w one_each e t p f =
    subst (λ v. IsPartOf v w) (same_Some _ _ t) (record {
      held = λ h m. elim (Member-insert_held h (root_held s k) v.held m) [ inl x ↦ subst (λ h. Is_at h w.held) (sym x) f | inr x ↦ p.held h x ];
      equations = p.equations;
    })
step_part g v (Start s k) (Takes rule bound) v' w one_each e t p f = absurd cc
step_part g v (Develop n r args) Starts v' w one_each e t p f = absurd cc
step_part g v (Develop n r args) (Takes rule bound) v' w one_each e t p (h, rule', bound', m, nd, sd, ru, y, hs, cs) =
    let T = takes g v n r args rule bound e in
    let (h1, m1, a, b, c, s1) = p.held T.held T.is_held in
    let same = one_each h1 h m1 m (sym a ∙ T.node ∙ sym nd) in
    let rl : rule ≡ rule' = same_Some _ _ (sym T.rule_is ∙ ru) in
    let inh : T.held.inherited ≡ h.inherited = c ∙ ap (λ (h : Held). h.inherited) same in
    let y1 = yes-kept v.equations w.equations p.equations rule.patterns T.held.inherited bound T.yes in
    let y2 : guard_all w.equations 1 rule'.patterns h.inherited ≡ Yes bound = subst (λ i. guard_all w.equations 1 rule'.patterns i ≡ Yes bound) inh
    (subst (λ (u : Rule). guard_all w.equations 1 u.patterns T.held.inherited ≡ Yes bound) rl y1) in
    let bd : bound ≡ bound' = yes-inj (sym y2 ∙ y) in
    let mk : made n r rule args bound ≡ made n r rule' args bound' = λ i. made n r (rl i) args (bd i) in
    let hs' = subst (λ (m : Making). Holds w.equations m.equations) (sym mk) hs in
    let cs' = subst (λ (m : Making). (c : Call) → Member c m.calls → Is_at (called_held c) w.held) (sym mk) cs in
    subst (λ v. IsPartOf v w) (same_Some _ _ t) (record {
      held = λ z o. elim (Member-insert_all z (map called_held (made n r rule args bound).calls) (map (mark n (Done r args)) v.held) o) [
        | inl x ↦ (let (d, x', q) = member_unmap called_held z (made n r rule args bound).calls x in subst (λ z. Is_at z w.held) (sym q) (cs' d x'))
        | inr x ↦ (let (d, x', q) = member_unmap (mark n (Done r args)) z v.held x in
            let (a', b', c') = marked n (Done r args) d in
            let (u, mu, a2, b2, c2, s2) = p.held d x' in (
              u,
              mu,
              ap (λ (h : Held). h.node) q ∙ a' ∙ a2,
              ap (λ (h : Held). h.sort) q ∙ b' ∙ b2,
              ap (λ (h : Held). h.inherited) q ∙ c' ∙ c2,
              subst (λ t. Goes_on t u.state) (sym (ap (λ (h : Held). h.state) q)) (marked_on (node_eq n d.node) (Done r args) d u s2
                  (λ e. let du = one_each u h mu m (sym a2 ∙ sym (node_is n d.node e) ∙ sym nd) in ap (λ (h : Held). h.state) du ∙ sd)),
            ))
      ];
      equations = λ x b e. elim (option_cases v.equations (made n r rule args bound).equations x b (find v.equations x) refl e)
          [ inl z ↦ p.equations x b z | inr z ↦ find-in_holds w.equations (made n r rule args bound).equations x b hs' z ];
    })

module _ (g : Grammar) (Fit : Joint → Type 0) (fit_of : (w : Joint) → Fit w → IsFit w) (keep : (w w' : Joint) (c : Choice) → Fit w → joint_taken w c (joint_outcome w g c) ≡ Some w' → Fit w') where
  first_taken : (w : Joint) (c : Choice) (cs : List Choice) (z : Joint) → joint_run g w (c ∷ cs) ≡ Some z → (w' : Joint)
      × (joint_taken w c (joint_outcome w g c) ≡ Some w') × (joint_run g w' cs ≡ Some z)
  first_taken w c cs z e = option_and_then_some (λ v. joint_run g v cs) (joint_taken w c (joint_outcome w g c)) z e (λ w' t f. (w', t, f))

  run_part : (w : Joint) (cs : List Choice) (z : Joint) → Fit w → joint_run g w cs ≡ Some z → IsPartOf w z × Fit z
  run_part w [] z f e = (subst (IsPartOf w) (same_Some _ _ e) (record { held = λ h m. (h, m, refl, refl, refl, inr refl); equations = λ r b e. e }), subst Fit (same_Some _ _ e) f)
  run_part w (c ∷ cs) z f e =
      let (w', t, e') = first_taken w c cs z e in
      let (p, q) = run_part w' cs z (keep w w' c f t) e' in
      let (s, x) = step_fixed g w c (joint_outcome w g c) w' (fit_of w f) refl t in
      (record { held = λ h m. IsPartOf-at w' z p h (s.held h m); equations = λ r b e. p.equations r b (s.equations r b e) }, q)

  run_fixed : (w : Joint) (cs : List Choice) (z : Joint) → Fit w → joint_run g w cs ≡ Some z → (c : Choice) → Member c cs → Fixed g z c
  run_fixed w [] z f e c m = never m
  run_fixed w (d ∷ cs) z f e c m =
      let (w', t, e') = first_taken w d cs z e in
      let f' = keep w w' d f t in
      let (p, q) = run_part w' cs z f' e' in
      let (s, x) = step_fixed g w d (joint_outcome w g d) w' (fit_of w f) refl t in
      elim m [ inl y ↦ subst (Fixed g z) (sym y) (Fixed-more g w' z p d x) | inr y ↦ run_fixed w' cs z f' e' c y ]

  run_within : (v : Joint) (ds : List Choice) (y w : Joint) → Fit w → IsPartOf v w → ((d : Choice) → Member d ds → Fixed g w d) → joint_run g v ds ≡ Some y → IsPartOf y w
  run_within v [] y w f p h e = subst (λ y. IsPartOf y w) (same_Some _ _ e) p
  run_within v (d ∷ ds) y w f p h e =
      let (v', t, e') = first_taken v d ds y e in
      run_within v' ds y w f (step_part g v d (joint_outcome v g d) v' w (fit_of w f).apart refl t p (h d (inl refl))) (λ d m. h d (inr m)) e'

  -- any order: each is a part of the other
  pub any_order : Fit (empty_joint) → (cs ds : List Choice) (w v : Joint) → ((d : Choice) → Member d ds → Member d cs) →
      joint_run g empty_joint cs ≡ Some w → joint_run g empty_joint ds ≡ Some v → IsPartOf v w
  any_order z cs ds w v h e f =
      run_within (empty_joint) ds v w (run_part (empty_joint) cs w z e).1 (record { held = λ h m. never m; equations = λ r b e. absurd cc })
      (λ d m. run_fixed (empty_joint) cs w z e d (h d m)) f
