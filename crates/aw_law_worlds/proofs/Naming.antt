-- Every name in a world is valid.
use Rattle.std.specs.Prelude.{is_some, nat_le, slice_get}
use Rattle.std.proofs.Common.{List, None, Option, Some, [], ap, arith, inl, inr, length, map, refl, subst, suc, sym, true, ℕ, ◌+◌, ◌<◌, ◌∙◌, ◌∷◌, ◌≡◌, ◌≤◌}
use Rattle.std.proofs.lemmas.Bool.{and_from, and_parts, eq-eqb, le-leb, leb-true}
use Rattle.std.proofs.lemmas.Option.{same_Some}
use Rattle.aw_list.specs.Members.{Member}
use Rattle.aw_list.proofs.Members.{member_got, member_split, member_unmap, never}
use Rattle.aw_term.specs.Choices.{outcome as plain_outcome, Choice, Develop, Outcome, Refused, Start, Starts, Takes}
use Rattle.aw_term.specs.Artifacts.{Words}
use Rattle.aw_term.specs.Configs.{Done, Row, row_of}
use Rattle.aw_term.specs.Names.{Node, Part, Ref, Result, Slot, below, result}
use Rattle.aw_term.specs.Rules.{Child, Grammar, Ground, Rule, Sort, Term, Value, sort_of}
use Rattle.aw_term.specs.WellFormed.{ChildFits, IsWellFormed, RuleFits, SortFits, TermFits, child_symbols, heads_fit, symbols_of, takes_of, variables}
use Rattle.aw_term.specs.Held.{Held, insert_held, mark}
use Rattle.aw_term.specs.Limits.{most_node_parts, most_arguments}
use Rattle.aw_base.specs.ChoiceFits.{args_ok, choice_ok, ground_ok, grounds_ok, ref_ok, slot_ok}
use Rattle.aw_base.specs.NodeNames.{is_start}
use Rattle.aw_iograph.specs.Dependence.{HasNoCircle, IO}
use Rattle.aw_accept.specs.Acyclic.{IsGivenGrammar, gives}
use Rattle.aw_accept.proofs.Fitting.{each_member, given_of}
use Rattle.aw_accept.proofs.UndividedRuns.{decode_on}
use Rattle.aw_store.specs.Equations.{Equation}
use Rattle.aw_apply.specs.Made.{Call, Making, made}
use Rattle.aw_apply.proofs.Numbering.{Covers, Lies, made-apart}
use Rattle.aw_law_sites.specs.Joint.{Joint, add_made, called_held, joint_outcome, joint_taken, root_held}
use Rattle.aw_law_sites.specs.Laws.{IsAccepted}
use Rattle.aw_law_sites.proofs.AnyOrders.{Member-insert_all, Member-insert_held, Took, marked}
use Rattle.aw_law_sites.proofs.Entering.{IsTermOf, VariablesEnter, variables_enter}
use Rattle.aw_law_sites.proofs.Lockstep.{answers_agree}
use Rattle.aw_law_sites.proofs.OutcomesAlike.{OutLike}
use Rattle.aw_law_sites.proofs.SameConfigs.{Fit, row_for}
use Rattle.aw_law_sites.specs.ValidNames.{body_ok, call_ok, equation_ok, refs_ok, takes_as}
use Rattle.aw_law_worlds.specs.Invariant.{IsValid, as_call}
use Rattle.aw_law_worlds.proofs.Delivering.{mention-ok}
use Rattle.aw_law_worlds.proofs.MadeHeads.{all-refs-ok, body-of, kid-many, made-heads}
use Rattle.aw_law_worlds.proofs.MadeMentions.{MentionsIn, made-in}
use Rattle.aw_law_worlds.proofs.PartNumbers.{Under, made-under}
use Rattle.aw_law_worlds.proofs.Rooted.{T, bound_mentioned, is_given, is_many}
use Rattle.aw_law_worlds.proofs.Sorts.{sort_below, sort_of_root, step_sort}

-- a part up to 512, or a result of the sort
pub slot_within : (g : Grammar) (s k a b m : ℕ) (t : Slot) → k ≤ 513 → m ≤ 1 + gives g s → Under k t → Covers a b 1 m t → slot_ok g (Some s) t ≡ true
slot_within g s k a b m (Part i) l q (x, y) c = and_from (nat_le 1 i) (nat_le i most_node_parts) (le-leb 1 i x) (le-leb i most_node_parts (omega (arith, y, l)))
slot_within g s k a b m (Result j) l q u c = and_from (nat_le 1 j) (nat_le j (gives g s)) (le-leb 1 j c.0) (le-leb j (gives g s) (omega (arith, c.1, q)))

pub each_ground : (g : Grammar) (ts : List Ground) → grounds_ok g ts ≡ true → (t : Ground) → Member t ts → heads_fit g.arities t ≡ true
each_ground g [] e t m = never m
each_ground g (u ∷ ts) e t (inl p) = subst (λ t. heads_fit g.arities t ≡ true) (sym p) (and_parts _ _ (and_parts (ground_ok g u) (grounds_ok g ts) e).0).0
each_ground g (u ∷ ts) e t (inr m) = each_ground g ts (and_parts (ground_ok g u) (grounds_ok g ts) e).1 t m

-- what a rule of a well-formed grammar says
module _ (w : Words) (g : Grammar) (formed : IsWellFormed w g) where
  rule_fits : (r : Rule) → Member r g.rules → RuleFits g r
  rule_fits r m = each_member (RuleFits g) g.rules r formed.rules m

  child_fits : (r : Rule) → Member r g.rules → (i : ℕ) (d : Child) → slice_get r.children i ≡ Some d → ChildFits g (variables r) d
  child_fits r m i d e = each_member (ChildFits g (variables r)) r.children d (rule_fits r m).children (member_got r.children i d e)

  terms_fit : (r : Rule) → Member r g.rules → (t : Term) → IsTermOf r t → heads_fit g.arities t ≡ true
  terms_fit r m t (inl o) = (each_member (TermFits g.arities) r.results t (rule_fits r m).results o).heads
  terms_fit r m t (inr (k, d, e, o)) = (each_member (TermFits g.arities) d.args t (child_fits r m k d e).terms o).heads

  -- a start inherits nothing
  start_takes : (s : ℕ) → is_start (slice_get g.sorts s) ≡ true → takes_of (slice_get g.sorts s) ≡ 0
  start_takes s e = go (slice_get g.sorts s) refl e
    where
      go : (o : Option Sort) → slice_get g.sorts s ≡ o → is_start o ≡ true → takes_of o ≡ 0
      go None f z = absurd cc
      go (Some t) f z = (each_member (SortFits g.roles) g.sorts t formed.sorts (member_got g.sorts s t f)).start z

  valid_call : (c : Call) (s : ℕ) → sort_of g c.node ≡ Some s → length c.inherited ≡ takes_of (slice_get g.sorts s) → refs_ok g c.inherited ≡ true → call_ok g c ≡ true
  valid_call c s e l r = and_from (takes_as g (sort_of g c.node) c.inherited) (refs_ok g c.inherited) (subst (λ o. takes_as g o c.inherited ≡ true)
      (sym e) (eq-eqb (length c.inherited) (takes_of (slice_get g.sorts s)) l)) r

module _ (w : Words) (g : Grammar) (accepted : IsAccepted w g) (x : Joint) where
  abbrev fit : IsGivenGrammar g
  fit = given_of w g accepted.0

  abbrev enter : VariablesEnter g
  enter = variables_enter w g accepted.0

  abbrev ok : HasNoCircle g (IO g)
  ok = accepted.1

  module _ (F : Fit g fit enter ok x) (V : IsValid g x) (n : Node) (ri : ℕ) (args : List Ground) (rule : Rule) (bound : List Ref)
      (e0 : joint_outcome x g (Develop n ri args) ≡ Takes rule bound) (given : choice_ok g (Develop n ri args) ≡ true) where
    T0 : Took g x n ri args rule bound
    T0 = T g fit enter ok x F n ri args rule bound e0

    abbrev mk : Making
    mk = made n ri rule args bound

    in_rules : Member rule g.rules
    in_rules = member_got g.rules ri rule T0.rule_is

    sort_on : (o : Outcome Value Ref) → plain_outcome g F.config (Develop n ri args) ≡ o → OutLike x.equations (Takes rule bound) o → (h : Held) → Member h x.held → h.node ≡ n → rule.sort ≡ h.sort
    sort_on (Refused z) f l h m e = never l
    sort_on Starts f l h m e = never l
    sort_on (Takes rule' bs) f l h m e =
        let D = decode_on g F.config (row_of n F.config) n ri args rule' bs refl f in
        let (q, mq, ag) = row_for g fit enter ok x.equations x.held F.config F.joint.pairs h m in
        let p = F.joint.good.0.apart D.row q D.held mq (D.node ∙ (sym e ∙ ag.node)) in
        ap (λ (r : Rule). r.sort) l.0 ∙ (D.sort ∙ (ap (λ (r : Row). r.sort) p ∙ sym ag.sort))

    rule_sort : sort_of g n ≡ Some rule.sort
    rule_sort =
        let p = sort_on (plain_outcome g F.config (Develop n ri args)) refl
        (subst (λ o. OutLike x.equations o (plain_outcome g F.config (Develop n ri args))) e0 (answers_agree g fit enter ok x F.config F.joint
        (Develop n ri args))) T0.held T0.is_held T0.node in
        ap (sort_of g) (sym T0.node) ∙ (V.sorts T0.held T0.is_held ∙ ap Some (sym p))

    args_fit : (symbols_of args ≤ 256) × (grounds_ok g args ≡ true)
    args_fit =
        let (a, b) = and_parts (is_some (sort_of g n)) _ given in
        let (c, d) = and_parts (is_some (slice_get g.rules ri)) (args_ok g args) b in
        let (e, f) = and_parts (nat_le (length args) most_arguments) _ d in
        let (h, i) = and_parts (nat_le (symbols_of args) 256) (grounds_ok g args) f in
        (leb-true (symbols_of args) 256 h, i)

    few : 1 + (symbols_of args + (child_symbols rule.children + symbols_of rule.results)) ≤ 513
    few = let a = (rule_fits w g accepted.0 rule in_rules).few_symbols in omega (arith, a, args_fit.0)

    -- a child
    kid_sort : (i : ℕ) (d : Child) → slice_get rule.children i ≡ Some d → sort_of g (below n ri (1 + i)) ≡ Some d.sort
    kid_sort i d f =
        let z : suc i ≡ 1 + i = omega arith in
        subst (λ k. sort_of g (below n ri k) ≡ Some d.sort) z (sort_below g n rule.sort d.sort ri (suc i) rule_sort (step_sort g rule ri i d T0.rule_is f))

    kid_ref : (i : ℕ) (d : Child) (l : ℕ) → slice_get rule.children i ≡ Some d → 0 < l → l ≤ d.outs → ref_ok g (result (below n ri (1 + i)) l) ≡ true
    kid_ref i d l f lo b =
        let q = fit.outs rule in_rules i d f in
        subst (λ o. slot_ok g o (Result l) ≡ true) (sym (kid_sort i d f))
        (and_from (nat_le 1 l) (nat_le l (gives g d.sort)) (le-leb 1 l lo) (le-leb l (gives g d.sort) (omega (arith, b, q))))

    left_ok : (e : Equation) → Member e mk.equations → ref_ok g e.left ≡ true
    left_ok e m =
        let (z, A) = made-apart n ri rule args bound in
        let (p, c) = each_member (Lies n 1 z 1 (1 + length rule.results)) mk.equations e A.lie m in
        let q = fit.results rule in_rules in
        subst (λ o. slot_ok g o e.left.slot ≡ true) (sym (ap (sort_of g) p ∙ rule_sort))
        (slot_within g rule.sort (1 + (symbols_of args + (child_symbols rule.children + symbols_of rule.results))) 1 z (1 + length rule.results)
        e.left.slot few (omega (arith, q)) (made-under n ri rule args bound e m) c)

    inner : ((c : Call) → Member c mk.calls → (r : Ref) → Member r c.inherited → ref_ok g r ≡ true) × MentionsIn (λ r. ref_ok g r ≡ true) mk.equations
    inner = made-in g enter n ri rule T0.rule_is args (is_given g fit enter ok x F n ri args rule bound e0) bound (is_many g fit enter ok x F n ri args rule bound e0) (λ r. ref_ok g r ≡ true)
        (λ r m. mention-ok g x V r (bound_mentioned g fit enter ok x F n ri args rule bound e0 r m))
        (λ e m s. left_ok e m)
        (λ i c l f lo b. kid_ref i c l f lo b)

    equation_is : (e : Equation) → Member e mk.equations → equation_ok g e ≡ true
    equation_is e m = and_from (ref_ok g e.left) (body_ok g e.body) (left_ok e m)
        (body-of g e.body (made-heads g n ri rule args bound (each_ground g args args_fit.1) (terms_fit w g accepted.0 rule in_rules) e m) (inner.1 e m))

    kid_is : (c : Call) → Member c mk.calls → (call_ok g c ≡ true) × (sort_of g c.node ≡ Some c.sort)
    kid_is c m =
        let (i, d, f, nd, so, l) = kid-many g n ri _ rule.children 1 _ c m in
        let s = ap (sort_of g) nd ∙ kid_sort i d f in
        (valid_call w g accepted.0 c d.sort s (l ∙ (child_fits w g accepted.0 rule in_rules i d f).takes) (all-refs-ok g c.inherited (inner.0 c m)), s ∙ ap Some (sym so))

    pub valid_next : IsValid g (add_made x n (Done ri args) mk)
    valid_next = record {
      held = λ h m. elim (Member-insert_all h (map called_held mk.calls) (map (mark n (Done ri args)) x.held) m) [
        | inl o ↦ (let (c, j, p) = member_unmap called_held h mk.calls o in subst (λ (h : Held). call_ok g (as_call h) ≡ true) (sym p) (kid_is c j).0)
        | inr o ↦ (let (d, j, p) = member_unmap (mark n (Done ri args)) h x.held o in
            let (a, b, c) = marked n (Done ri args) d in
            subst (λ (h : Held). call_ok g (as_call h) ≡ true) (sym p)
            (subst (λ nd. call_ok g (record { node = nd; sort = (mark n (Done ri args) d).sort; inherited = (mark n (Done ri args) d).inherited }) ≡ true) (sym a)
            (subst (λ rs. call_ok g (record { node = d.node; sort = d.sort; inherited = rs }) ≡ true) (sym c) (V.held d j))))
      ];
      sorts = λ h m. elim (Member-insert_all h (map called_held mk.calls) (map (mark n (Done ri args)) x.held) m) [
        | inl o ↦ (let (c, j, p) = member_unmap called_held h mk.calls o in subst (λ (h : Held). sort_of g h.node ≡ Some h.sort) (sym p) (kid_is c j).1)
        | inr o ↦ (let (d, j, p) = member_unmap (mark n (Done ri args)) h x.held o in
            let (a, b, c) = marked n (Done ri args) d in
            subst (λ (h : Held). sort_of g h.node ≡ Some h.sort) (sym p) (ap (sort_of g) a ∙ (V.sorts d j ∙ ap Some (sym b))))
      ];
      equations = λ e m. elim (member_split e x.equations mk.equations m) [ inl o ↦ V.equations e o | inr o ↦ equation_is e o ];
    }

  root_valid : IsValid g x → (s k : ℕ) → is_start (slice_get g.sorts s) ≡ true → IsValid g (record x { held = insert_held (root_held s k) x.held })
  root_valid V s k z = record {
    held = λ h m. elim (Member-insert_held h (root_held s k) x.held m) [
      | inl p ↦ subst (λ (h : Held). call_ok g (as_call h) ≡ true) (sym p) (valid_call w g accepted.0 (as_call (root_held s k)) s (sort_of_root g s k z) (sym (start_takes w g accepted.0 s z)) refl)
      | inr o ↦ V.held h o
    ];
    sorts = λ h m. elim (Member-insert_held h (root_held s k) x.held m) [ inl p ↦ subst (λ (h : Held). sort_of g h.node ≡ Some h.sort) (sym p) (sort_of_root g s k z) | inr o ↦ V.sorts h o ];
    equations = V.equations;
  }

  valid_on : Fit g fit enter ok x → IsValid g x → (y : Joint) (c : Choice) → choice_ok g c ≡ true → (o : Outcome Ref Ref) → joint_outcome x g c ≡ o → joint_taken x c o ≡ Some y → IsValid g y
  valid_on F V y c k (Refused a) e t = absurd cc
  valid_on F V y (Start s n) k Starts e t = subst (IsValid g) (same_Some _ _ t) (root_valid V s n k)
  valid_on F V y (Start s n) k (Takes rule bound) e t = absurd cc
  valid_on F V y (Develop n ri args) k Starts e t = absurd cc
  valid_on F V y (Develop n ri args) k (Takes rule bound) e t = subst (IsValid g) (same_Some _ _ t) (valid_next F V n ri args rule bound e k)

  pub valid_kept : Fit g fit enter ok x → IsValid g x → (y : Joint) (c : Choice) → choice_ok g c ≡ true → joint_taken x c (joint_outcome x g c) ≡ Some y → IsValid g y
  valid_kept F V y c k t = valid_on F V y c k (joint_outcome x g c) refl t
