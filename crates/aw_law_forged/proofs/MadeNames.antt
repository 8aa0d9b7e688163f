-- At a site whose names are valid what a rule makes has valid names, whatever else the site was told.
use Rattle.std.specs.Prelude.{is_some, nat_le, slice_get}
use Rattle.std.proofs.Common.{◌≡◌, ℕ, suc, ◌+◌, ◌<◌, ◌≤◌, true, List, length, Option, Some, None, refl, sym, ap, ◌∙◌, subst, inl, inr, arith}
use Rattle.std.proofs.lemmas.Bool.{and_from, and_parts, eq-eqb, le-leb, leb-true}
use Rattle.aw_list.specs.Members.{Member}
use Rattle.aw_list.proofs.Members.{member_got}
use Rattle.aw_term.specs.Artifacts.{Words}
use Rattle.aw_term.specs.Choices.{Develop, Takes}
use Rattle.aw_term.specs.Configs.{State, Done, Pending}
use Rattle.aw_term.specs.Held.{Held, held_of}
use Rattle.aw_term.specs.Names.{Node, Ref, Result, below, result}
use Rattle.aw_term.specs.Rules.{Child, Grammar, Ground, Rule, Sort, Term, sort_of}
use Rattle.aw_term.specs.WellFormed.{ChildFits, IsWellFormed, RuleFits, SortFits, TermFits, child_symbols, heads_fit, symbols_of, takes_of, variables}
use Rattle.aw_term.specs.Limits.{most_arguments}
use Rattle.aw_base.specs.ChoiceFits.{args_ok, choice_ok, grounds_ok, ref_ok, slot_ok}
use Rattle.aw_base.specs.NodeNames.{is_start}
use Rattle.aw_iograph.specs.Occurrences.{pattern_entries}
use Rattle.aw_accept.specs.Acyclic.{IsGivenGrammar, gives}
use Rattle.aw_accept.proofs.Fitting.{each_member, given_of}
use Rattle.aw_accept.proofs.UndividedRuns.{tests-take}
use Rattle.aw_store.specs.Equations.{Equation, Is, Map}
use Rattle.aw_apply.specs.Guard.{guard_all}
use Rattle.aw_apply.specs.Made.{Call, Making, made}
use Rattle.aw_apply.proofs.Numbering.{Lies, made-apart}
use Rattle.aw_law_sites.specs.Joint.{Joint, by_held, by_rule, by_state, joint_outcome}
use Rattle.aw_law_sites.specs.ValidNames.{body_ok, call_ok, equation_ok, refs_ok, takes_as}
use Rattle.aw_law_sites.proofs.AnyOrders.{Took, held_of-found, takes}
use Rattle.aw_law_sites.proofs.Entering.{IsTermOf, VariablesEnter, variables_enter}
use Rattle.aw_law_worlds.specs.Invariant.{IsValid}
use Rattle.aw_law_worlds.specs.Mentioned.{IsMentioned}
use Rattle.aw_law_worlds.proofs.Delivering.{mention-ok}
use Rattle.aw_law_worlds.proofs.GuardBinds.{all_bound, all_many}
use Rattle.aw_law_worlds.proofs.Learning.{find-member}
use Rattle.aw_law_worlds.proofs.MadeHeads.{all-refs-ok, body-of, kid-many, made-heads}
use Rattle.aw_law_worlds.proofs.MadeMentions.{MentionsIn, made-in}
use Rattle.aw_law_worlds.proofs.PartNumbers.{made-under}
use Rattle.aw_law_worlds.proofs.Sorts.{sort_below, step_sort}
use Rattle.aw_law_worlds.proofs.Naming.{slot_within, each_ground}

-- what a well-formed grammar says of a rule and of a start
module _ (w : Words) (g : Grammar) (formed : IsWellFormed w g) where
  rule_fits : (r : Rule) → Member r g.rules → RuleFits g r
  rule_fits r m = each_member (RuleFits g) g.rules r formed.rules m

  child_fits : (r : Rule) → Member r g.rules → (i : ℕ) (d : Child) → slice_get r.children i ≡ Some d → ChildFits g (variables r) d
  child_fits r m i d e = each_member (ChildFits g (variables r)) r.children d (rule_fits r m).children (member_got r.children i d e)

  terms_fit : (r : Rule) → Member r g.rules → (t : Term) → IsTermOf r t → heads_fit g.arities t ≡ true
  terms_fit r m t (inl o) = (each_member (TermFits g.arities) r.results t (rule_fits r m).results o).heads
  terms_fit r m t (inr (k, d, e, o)) = (each_member (TermFits g.arities) d.args t (child_fits r m k d e).terms o).heads

  -- a start inherits nothing
  pub start-takes : (s : ℕ) → is_start (slice_get g.sorts s) ≡ true → takes_of (slice_get g.sorts s) ≡ 0
  start-takes s e = go (slice_get g.sorts s) refl e
    where
      go : (o : Option Sort) → slice_get g.sorts s ≡ o → is_start o ≡ true → takes_of o ≡ 0
      go None f z = absurd cc
      go (Some t) f z = (each_member (SortFits g.roles) g.sorts t formed.sorts (member_got g.sorts s t f)).start z

  pub valid-call : (c : Call) (s : ℕ) → sort_of g c.node ≡ Some s → length c.inherited ≡ takes_of (slice_get g.sorts s) → refs_ok g c.inherited ≡ true → call_ok g c ≡ true
  valid-call c s e l r =
      and_from (takes_as g (sort_of g c.node) c.inherited) (refs_ok g c.inherited)
      (subst (λ o. takes_as g o c.inherited ≡ true) (sym e) (eq-eqb (length c.inherited) (takes_of (slice_get g.sorts s)) l)) r

-- the sort and the arguments of a rule that is taken
module _ (g : Grammar) (k : Map) (n : Node) (ri : ℕ) (args : List Ground) (rule : Rule) (bound : List Ref) where
  abbrev Ruled : Held → Type 0
  Ruled q = (rule.sort ≡ q.sort) × (length args ≡ rule.params)

  by-rule : (o : Option Rule) (q : Held) → by_rule o k n args q ≡ Takes rule bound → Ruled q
  by-rule None q e = absurd cc
  by-rule (Some u) q e =
      let (p, a, b, y) = tests-take n u q.sort args (guard_all k 1 u.patterns q.inherited) rule bound e in
      subst (λ (u : Rule). (u.sort ≡ q.sort) × (length args ≡ u.params)) p (a, b)

  by-state : (s : State) (q : Held) → by_state s g k n ri args q ≡ Takes rule bound → Ruled q
  by-state (Done a b) q e = absurd cc
  by-state Pending q e = by-rule (slice_get g.rules ri) q e

  ruled : (hs : List Held) (o : Option Held) → held_of n hs ≡ o → by_held o g k n ri args ≡ Takes rule bound → (q : Held) × Member q hs × (q.node ≡ n) × Ruled q
  ruled hs None f e = absurd cc
  ruled hs (Some q) f e = let (m, p) = held_of-found n hs q f in (q, m, p, by-state q.state q e)

module _ (w : Words) (g : Grammar) (formed : IsWellFormed w g) (x : Joint) (V : IsValid g x) (n : Node) (ri : ℕ) (args : List Ground) (rule : Rule) (bound : List Ref)
    (e0 : joint_outcome x g (Develop n ri args) ≡ Takes rule bound) (given : choice_ok g (Develop n ri args) ≡ true) where
  fit : IsGivenGrammar g
  fit = given_of w g formed

  enter : VariablesEnter g
  enter = variables_enter w g formed

  T : Took g x n ri args rule bound
  T = takes g x n ri args rule bound e0

  abbrev mk : Making
  mk = made n ri rule args bound

  in_rules : Member rule g.rules
  in_rules = member_got g.rules ri rule T.rule_is

  ruling : (q : Held) × Member q x.held × (q.node ≡ n) × ((rule.sort ≡ q.sort) × (length args ≡ rule.params))
  ruling = ruled g x.equations n ri args rule bound x.held (held_of n x.held) refl e0

  rule_sort : sort_of g n ≡ Some rule.sort
  rule_sort = let (q, m, p, s) = ruling in ap (sort_of g) (sym p) ∙ (V.sorts q m ∙ ap Some (sym s.0))

  is_given : length args ≡ rule.params
  is_given = let (q, m, p, s) = ruling in s.1

  is_many : length bound ≡ length (pattern_entries 1 rule.patterns)
  is_many = all_many x.equations 1 1 rule.patterns T.held.inherited bound T.yes

  -- what is bound was mentioned
  bound_ok : (r : Ref) → Member r bound → ref_ok g r ≡ true
  bound_ok r m =
      mention-ok g x V r
      (all_bound x.equations (λ r. IsMentioned r x.equations x.held) (λ s h rs u f i. inl (record { left = s; body = Is h rs }, find-member x.equations s (Is h rs) f, i))
      1 rule.patterns T.held.inherited bound (λ u i. inr (T.held, T.is_held, i)) T.yes r m)

  args_fit : (symbols_of args ≤ 256) × (grounds_ok g args ≡ true)
  args_fit =
      let (a, b) = and_parts (is_some (sort_of g n)) _ given in
      let (c, d) = and_parts (is_some (slice_get g.rules ri)) (args_ok g args) b in
      let (e, f) = and_parts (nat_le (length args) most_arguments) _ d in
      let (h, i) = and_parts (nat_le (symbols_of args) 256) (grounds_ok g args) f in
      (leb-true (symbols_of args) 256 h, i)

  few : 1 + (symbols_of args + (child_symbols rule.children + symbols_of rule.results)) ≤ 513
  few = let a = (rule_fits w g formed rule in_rules).few_symbols in omega (arith, a, args_fit.0)

  -- a child
  kid_sort : (i : ℕ) (d : Child) → slice_get rule.children i ≡ Some d → sort_of g (below n ri (1 + i)) ≡ Some d.sort
  kid_sort i d f =
      let z : suc i ≡ 1 + i = omega arith in
      subst (λ k. sort_of g (below n ri k) ≡ Some d.sort) z (sort_below g n rule.sort d.sort ri (suc i) rule_sort (step_sort g rule ri i d T.rule_is f))

  kid_ref : (i : ℕ) (d : Child) (l : ℕ) → slice_get rule.children i ≡ Some d → 0 < l → l ≤ d.outs → ref_ok g (result (below n ri (1 + i)) l) ≡ true
  kid_ref i d l f lo b =
      let q = fit.outs rule in_rules i d f in
      subst (λ o. slot_ok g o (Result l) ≡ true) (sym (kid_sort i d f))
      (and_from (nat_le 1 l) (nat_le l (gives g d.sort)) (le-leb 1 l lo) (le-leb l (gives g d.sort) (omega (arith, b, q))))

  left_ok : (e : Equation) → Member e mk.equations → ref_ok g e.left ≡ true
  left_ok e m =
      let (z, A) = made-apart n ri rule args bound in
      let (p, c) = each_member (Lies n 1 z 1 (1 + length rule.results)) mk.equations e A.lie m in
      let q = fit.results rule in_rules in
      subst (λ o. slot_ok g o e.left.slot ≡ true) (sym (ap (sort_of g) p ∙ rule_sort))
      (slot_within g rule.sort (1 + (symbols_of args + (child_symbols rule.children + symbols_of rule.results))) 1 z (1 + length rule.results) e.left.slot few
      (omega (arith, q)) (made-under n ri rule args bound e m) c)

  inner : ((c : Call) → Member c mk.calls → (r : Ref) → Member r c.inherited → ref_ok g r ≡ true) × MentionsIn (λ r. ref_ok g r ≡ true) mk.equations
  inner = made-in g enter n ri rule T.rule_is args is_given bound is_many (λ r. ref_ok g r ≡ true) bound_ok (λ e m s. left_ok e m) (λ i c l f lo b. kid_ref i c l f lo b)

  pub equation-is : (e : Equation) → Member e mk.equations → equation_ok g e ≡ true
  equation-is e m = and_from (ref_ok g e.left) (body_ok g e.body) (left_ok e m)
      (body-of g e.body (made-heads g n ri rule args bound (each_ground g args args_fit.1) (terms_fit w g formed rule in_rules) e m) (inner.1 e m))

  pub kid-is : (c : Call) → Member c mk.calls → (call_ok g c ≡ true) × (sort_of g c.node ≡ Some c.sort)
  kid-is c m =
      let (i, d, f, nd, so, l) = kid-many g n ri _ rule.children 1 _ c m in
      let s = ap (sort_of g) nd ∙ kid_sort i d f in
      (valid-call w g formed c d.sort s (l ∙ (child_fits w g formed rule in_rules i d f).takes) (all-refs-ok g c.inherited (inner.0 c m)), s ∙ ap Some (sym so))
