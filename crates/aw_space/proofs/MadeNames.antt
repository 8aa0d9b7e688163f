-- The names of what a rule makes at a valid node are valid.
use Rattle.std.specs.Prelude.{nat_le, slice_get}
use Rattle.std.proofs.Common.{List, None, Option, Some, [], ap, arith, inl, inr, length, refl, subst, suc, sym, true, ℕ, ◌+◌, ◌<◌, ◌∙◌, ◌∷◌, ◌≡◌, ◌≤◌}
use Rattle.std.proofs.lemmas.Bool.{and_from, and_parts, eq-eqb, le-leb, leb-true}
use Rattle.aw_list.specs.Members.{Member}
use Rattle.aw_list.proofs.Members.{member_got, never}
use Rattle.aw_term.specs.Artifacts.{Words}
use Rattle.aw_term.specs.Names.{Node, Ref, Result, below, result}
use Rattle.aw_term.specs.Rules.{Child, Grammar, Ground, Rule, Sort, Term, sort_of}
use Rattle.aw_term.specs.WellFormed.{ChildFits, IsWellFormed, RuleFits, SortFits, TermFits, child_symbols, heads_fit, symbols_of, takes_of, variables}
use Rattle.aw_term.specs.Limits.{most_arguments}
use Rattle.aw_base.specs.ChoiceFits.{args_ok, grounds_ok, ref_ok, slot_ok}
use Rattle.aw_base.specs.NodeNames.{is_start}
use Rattle.aw_iograph.specs.Occurrences.{pattern_entries}
use Rattle.aw_accept.specs.Acyclic.{IsGivenGrammar, gives}
use Rattle.aw_accept.proofs.Fitting.{each_member, given_of}
use Rattle.aw_store.specs.Equations.{Equation}
use Rattle.aw_apply.specs.Made.{Call, Making, made}
use Rattle.aw_apply.proofs.Numbering.{Lies, made-apart}
use Rattle.aw_law_sites.proofs.Entering.{IsTermOf, variables_enter}
use Rattle.aw_law_sites.specs.ValidNames.{body_ok, equation_ok, equations_ok, refs_ok, takes_as}
use Rattle.aw_law_worlds.proofs.MadeHeads.{all-refs-ok, body-of, kid-many, made-heads}
use Rattle.aw_law_worlds.proofs.MadeMentions.{MentionsIn, made-in}
use Rattle.aw_law_worlds.proofs.PartNumbers.{made-under}
use Rattle.aw_law_worlds.proofs.Sorts.{sort_below, step_sort}
use Rattle.aw_law_worlds.proofs.Naming.{slot_within, each_ground}
use Rattle.aw_law_worlds.proofs.Delivering.{each-ok as all_valid}

pub each_valid : (g : Grammar) (es : List Equation) → equations_ok g es ≡ true → (e : Equation) → Member e es → equation_ok g e ≡ true
each_valid g [] v e m = never m
each_valid g (x ∷ es) v e (inl p) = subst (λ (y : Equation). equation_ok g y ≡ true) (sym p) (and_parts (equation_ok g x) _ v).0
each_valid g (x ∷ es) v e (inr m) = each_valid g es (and_parts (equation_ok g x) _ v).1 e m

-- references that are each valid
pub each_ref : (g : Grammar) (rs : List Ref) → refs_ok g rs ≡ true → (r : Ref) → Member r rs → ref_ok g r ≡ true
each_ref g [] v r m = never m
each_ref g (x ∷ rs) v r (inl p) = subst (λ y. ref_ok g y ≡ true) (sym p) (and_parts (ref_ok g x) _ v).0
each_ref g (x ∷ rs) v r (inr m) = each_ref g rs (and_parts (ref_ok g x) _ v).1 r m

module _ (w : Words) (g : Grammar) (formed : IsWellFormed w g) where
  rule_fits : (r : Rule) → Member r g.rules → RuleFits g r
  rule_fits r m = each_member (RuleFits g) g.rules r formed.rules m

  child_fits : (r : Rule) → Member r g.rules → (i : ℕ) (d : Child) → slice_get r.children i ≡ Some d → ChildFits g (variables r) d
  child_fits r m i d e = each_member (ChildFits g (variables r)) r.children d (rule_fits r m).children (member_got r.children i d e)

  terms_fit : (r : Rule) → Member r g.rules → (t : Term) → IsTermOf r t → heads_fit g.arities t ≡ true
  terms_fit r m t (inl o) = (each_member (TermFits g.arities) r.results t (rule_fits r m).results o).heads
  terms_fit r m t (inr (k, d, e, o)) = (each_member (TermFits g.arities) d.args t (child_fits r m k d e).terms o).heads

  -- a start inherits nothing
  pub start_takes : (s : ℕ) → is_start (slice_get g.sorts s) ≡ true → takes_of (slice_get g.sorts s) ≡ 0
  start_takes s e = go (slice_get g.sorts s) refl e
    where
      go : (o : Option Sort) → slice_get g.sorts s ≡ o → is_start o ≡ true → takes_of o ≡ 0
      go None f z = absurd cc
      go (Some t) f z = (each_member (SortFits g.roles) g.sorts t formed.sorts (member_got g.sorts s t f)).start z

  module _ (n : Node) (ri : ℕ) (rule : Rule) (rule_is : slice_get g.rules ri ≡ Some rule) (sorted : sort_of g n ≡ Some rule.sort) (args : List Ground)
      (given : length args ≡ rule.params) (fit : args_ok g args ≡ true)
      (bound : List Ref) (many : length bound ≡ length (pattern_entries 1 rule.patterns)) (old : (r : Ref) → Member r bound → ref_ok g r ≡ true) where
    abbrev mk : Making
    mk = made n ri rule args bound

    in_rules : Member rule g.rules
    in_rules = member_got g.rules ri rule rule_is

    grammar : IsGivenGrammar g
    grammar = given_of w g formed

    args_fit : (symbols_of args ≤ 256) × (grounds_ok g args ≡ true)
    args_fit =
        let (e, f) = and_parts (nat_le (length args) most_arguments) _ fit in
        let (h, i) = and_parts (nat_le (symbols_of args) 256) (grounds_ok g args) f in
        (leb-true (symbols_of args) 256 h, i)

    few : 1 + (symbols_of args + (child_symbols rule.children + symbols_of rule.results)) ≤ 513
    few = let a = (rule_fits rule in_rules).few_symbols in omega (arith, a, args_fit.0)

    kid_sort : (i : ℕ) (d : Child) → slice_get rule.children i ≡ Some d → sort_of g (below n ri (1 + i)) ≡ Some d.sort
    kid_sort i d f =
        let z : suc i ≡ 1 + i = omega arith in
        subst (λ k. sort_of g (below n ri k) ≡ Some d.sort) z (sort_below g n rule.sort d.sort ri (suc i) sorted (step_sort g rule ri i d rule_is f))

    kid_ref : (i : ℕ) (d : Child) (l : ℕ) → slice_get rule.children i ≡ Some d → 0 < l → l ≤ d.outs → ref_ok g (result (below n ri (1 + i)) l) ≡ true
    kid_ref i d l f lo b =
        let q = grammar.outs rule in_rules i d f in
        subst (λ o. slot_ok g o (Result l) ≡ true) (sym (kid_sort i d f))
        (and_from (nat_le 1 l) (nat_le l (gives g d.sort)) (le-leb 1 l lo) (le-leb l (gives g d.sort) (omega (arith, b, q))))

    left_ok : (e : Equation) → Member e mk.equations → ref_ok g e.left ≡ true
    left_ok e m =
        let (z, A) = made-apart n ri rule args bound in
        let (p, c) = each_member (Lies n 1 z 1 (1 + length rule.results)) mk.equations e A.lie m in
        let q = grammar.results rule in_rules in
        subst (λ o. slot_ok g o e.left.slot ≡ true) (sym (ap (sort_of g) p ∙ sorted))
        (slot_within g rule.sort (1 + (symbols_of args + (child_symbols rule.children + symbols_of rule.results))) 1 z (1 + length rule.results) e.left.slot few (omega (arith, q))
        (made-under n ri rule args bound e m) c)

    inner : ((c : Call) → Member c mk.calls → (r : Ref) → Member r c.inherited → ref_ok g r ≡ true) × MentionsIn (λ r. ref_ok g r ≡ true) mk.equations
    inner = made-in g (variables_enter w g formed) n ri rule rule_is args given bound many (λ r. ref_ok g r ≡ true) old (λ e m s. left_ok e m) (λ i c l f lo b. kid_ref i c l f lo b)

    equation_is : (e : Equation) → Member e mk.equations → equation_ok g e ≡ true
    equation_is e m = and_from (ref_ok g e.left) (body_ok g e.body) (left_ok e m)
        (body-of g e.body (made-heads g n ri rule args bound (each_ground g args args_fit.1) (terms_fit rule in_rules) e m) (inner.1 e m))

    -- the equations
    pub made_valid : equations_ok g mk.equations ≡ true
    made_valid = all_valid g mk.equations equation_is

    -- a child, with its sort
    pub kid_valid : (c : Call) → Member c mk.calls → (sort_of g c.node ≡ Some c.sort) × (takes_as g (sort_of g c.node) c.inherited ≡ true) × (refs_ok g c.inherited ≡ true)
    kid_valid c m =
        let (i, d, f, nd, so, l) = kid-many g n ri _ rule.children 1 _ c m in
        let s = ap (sort_of g) nd ∙ kid_sort i d f in
        let takes = l ∙ (child_fits rule in_rules i d f).takes in
        (s ∙ ap Some (sym so), subst (λ o. takes_as g o c.inherited ≡ true) (sym s) (eq-eqb (length c.inherited) (takes_of (slice_get g.sorts d.sort)) takes), all-refs-ok g c.inherited (inner.0 c m))
