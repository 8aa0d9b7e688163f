-- Rules that are visited again only where a child's relation grew.
use Rattle.std.proofs.Common.{◌≡◌, ◌≢◌, ℕ, ◌<◌, ◌≤◌, Bool, true, false, List, length, Some, slice_get, slice_set, slice_index, refl, sym, ap, ◌∙◌, subst, inl, inr, arith}
use Rattle.std.specs.Prelude.{◌⊎◌}
use Rattle.std.proofs.lemmas.Option.{same_Some, slice_get_within}
use Rattle.std.proofs.lemmas.List.{get_or-set_same, get_or-set_other, length-set}
use Rattle.aw_list.proofs.Members.{got_unmap}
use Rattle.aw_term.specs.Rules as P
use Rattle.aw_grammar.specs.declared.rule.Child.{Child}
use Rattle.aw_grammar.specs.declared.rule.Rule.{Rule}
use Rattle.aw_grammar.specs.declared.rule.Sort.{Sort}
use Rattle.aw_grammar.specs.declared.grammar.Grammar.{Grammar}
use Rattle.aw_grammar.specs.GrammarView.{rule_of, child_of}
use Rattle.aw_iograph.specs.declared.io.Io.{Io}
use Rattle.aw_iograph.specs.declared.occ.Occ.{Occ}
use Rattle.aw_iograph.specs.declared.visits.Visits.{Visits}
use Rattle.aw_iograph.specs.Graphs.{Plus, step, more}
use Rattle.aw_iograph.specs.Growth.{Grown}
use Rattle.aw_iograph.specs.Occurrences.{inherited, given}
use Rattle.aw_iograph.specs.Dependence.{Edge, text, call, IsKept}
use Rattle.aw_iograph.specs.Pairs.{Has, HasMark}
use Rattle.aw_iograph.specs.Visiting.{IsCalm, AreVisited}
use Rattle.aw_iograph.proofs.Joining.{same_or_not}
use Rattle.aw_iograph.proofs.RuleGraphs.{child_got}
use Rattle.aw_iograph.proofs.Sweeps.{has_grown}

-- relations grew at one sort alone, and no child of a rule has that sort
module _ (sorts : List Sort) (r : Rule) (old new : Io) (s : ℕ) (apart : (n : ℕ) (c : Child) → slice_get r.children n ≡ Some c → c.sort ≢ s)
    (only : (t i j : ℕ) → Has new t i j → Has old t i j ⊎ (t ≡ s)) where
  back_edge : {o u : Occ} → Edge (rule_of sorts r) (Has new) o u → Edge (rule_of sorts r) (Has old) o u
  back_edge (text v t a b x) = text v t a b x
  back_edge (call k i l c a x) = elim (only c.sort i l x) [
    | inl was ↦ call k i l c a was
    | inr at ↦ (let (j, e, got) = child_got (rule_of sorts r) k c a in
        let (d, here, same) = got_unmap (child_of sorts) r.children j c got in
        let one : c.sort ≡ d.sort = ap (λ (y : P.Child). y.sort) same in absurd (apart j d here (sym one ∙ at)))
  ]

  pub back_plus : {o u : Occ} → Plus (Edge (rule_of sorts r) (Has new)) o u → Plus (Edge (rule_of sorts r) (Has old)) o u
  back_plus (step e) = step (back_edge e)
  back_plus (more e w) = more (back_edge e) (back_plus w)

-- rule m, of value r, was visited
module _ (g : Grammar) (old next : Io) (before after : Visits) (m : ℕ) (r : Rule) (so : AreVisited g old before) (here : slice_get g.rules m ≡ Some r)
    (declared : r.sort < length g.sorts) (rules : after.rules.items ≡ slice_set before.rules.items m before.count) (up : before.count ≤ after.count) where
  in_rules : m < length before.rules.items
  in_rules = let lt : m < length g.rules = slice_get_within g.rules m r here in let e = so.rules in omega arith

  now : slice_index after.rules.items m ≡ before.count
  now = ap (λ (xs : List ℕ). slice_index xs m) rules ∙ get_or-set_same before.rules.items m before.count 0 in_rules

  other : (k : ℕ) → k ≢ m → slice_index after.rules.items k ≡ slice_index before.rules.items k
  other k apart = ap (λ (xs : List ℕ). slice_index xs k) rules ∙ get_or-set_other before.rules.items m k before.count 0 apart

  latest : (k : ℕ) → slice_index after.rules.items k ≤ before.count
  latest k = elim (same_or_not k m) [
    | inl same ↦ subst (λ n. slice_index after.rules.items n ≤ before.count) (sym same) (let e = now in omega arith)
    | inr apart ↦ (let e = other k apart in let p = so.past k in omega arith)
  ]

  one_rule : (k : ℕ) (q : Rule) → slice_get g.rules k ≡ Some q → k ≡ m → r ≡ q
  one_rule k q got same = same_Some r q (sym here ∙ ap (slice_get g.rules) (sym same) ∙ got)

  -- the relation of its sort grew
  grown_next : Grown old.marks.items next.marks.items true → ((i j : ℕ) → Plus (Edge (rule_of g.sorts r) (Has old)) (inherited 0 i) (given 0 j) → Has next r.sort i j) →
      ((t i j : ℕ) → Has next t i j → Has old t i j ⊎ (t ≡ r.sort)) → after.sorts.items ≡ slice_set before.sorts.items r.sort before.count → AreVisited g next after
  grown_next grown kept only sorts = record {
    rules = ap length rules ∙ length-set before.rules.items m before.count ∙ so.rules;
    sorts = ap length sorts ∙ length-set before.sorts.items r.sort before.count ∙ so.sorts;
    past = λ k. (let le = latest k in omega arith);
    kept = λ k q got calm. elim (same_or_not k m) [
      | inl same ↦ subst (λ (x : Rule). IsKept (Has next) (rule_of g.sorts x)) (one_rule k q got same)
          (λ i j w. kept i j (back_plus g.sorts r old next r.sort (apart k r (subst (λ (x : Rule). IsCalm after k x.children) (sym (one_rule k q got same)) calm)) only w))
      | inr off ↦ λ i j w. has_grown old next true grown q.sort i j
          (so.kept k q got (calm_before k q off calm) i j (back_plus g.sorts q old next r.sort (apart k q calm) only w))
    ];
  }
    where
      in_sorts : r.sort < length before.sorts.items
      in_sorts = let e = so.sorts in omega arith

      grew : slice_index after.sorts.items r.sort ≡ before.count
      grew = ap (λ (xs : List ℕ). slice_index xs r.sort) sorts ∙ get_or-set_same before.sorts.items r.sort before.count 0 in_sorts

      apart : (k : ℕ) (q : Rule) → IsCalm after k q.children → (n : ℕ) (c : Child) → slice_get q.children n ≡ Some c → c.sort ≢ r.sort
      apart k q calm n c got same =
          let less : slice_index after.sorts.items c.sort < slice_index after.rules.items k = calm.still n c got in
          let most : slice_index after.rules.items k ≤ before.count = latest k in
          let e : slice_index after.sorts.items c.sort ≡ before.count = ap (slice_index after.sorts.items) same ∙ grew in omega arith

      calm_before : (k : ℕ) (q : Rule) → k ≢ m → IsCalm after k q.children → IsCalm before k q.children
      calm_before k q off calm = record {
        visited = subst (λ n. 0 < n) (other k off) calm.visited;
        still = λ n c got.
            let same : slice_index after.sorts.items c.sort ≡ slice_index before.sorts.items c.sort =
            ap (λ (xs : List ℕ). slice_index xs c.sort) sorts ∙ get_or-set_other before.sorts.items r.sort c.sort before.count 0 (apart k q calm n c got) in
            subst (λ x. x < slice_index before.rules.items k) same (subst (λ x. slice_index after.sorts.items c.sort < x) (other k off) (calm.still n c got));
      }

  -- no relation grew
  same_next : next.marks.items ≡ old.marks.items → ((i j : ℕ) → Plus (Edge (rule_of g.sorts r) (Has old)) (inherited 0 i) (given 0 j) →
      Has next r.sort i j) → after.sorts.items ≡ before.sorts.items → AreVisited g next after
  same_next marks kept sorts = record {
    rules = ap length rules ∙ length-set before.rules.items m before.count ∙ so.rules;
    sorts = ap length sorts ∙ so.sorts;
    past = λ k. (let le = latest k in omega arith);
    kept = λ k q got calm. subst (λ (ms : List Bool). IsKept (HasMark ms) (rule_of g.sorts q)) (sym marks) (elim (same_or_not k m) [
      | inl same ↦ subst (λ (x : Rule). IsKept (Has old) (rule_of g.sorts x)) (one_rule k q got same) (λ i j w. subst (λ (ms : List Bool). HasMark ms r.sort i j) marks (kept i j w))
      | inr off ↦ so.kept k q got (calm_before k q off calm)
    ]);
  }
    where
      calm_before : (k : ℕ) (q : Rule) → k ≢ m → IsCalm after k q.children → IsCalm before k q.children
      calm_before k q off calm = record {
        visited = subst (λ n. 0 < n) (other k off) calm.visited;
        still = λ n c got. subst (λ (xs : List ℕ). slice_index xs c.sort < slice_index before.rules.items k) sorts
            (subst (λ x. slice_index after.sorts.items c.sort < x) (other k off) (calm.still n c got));
      }

  pub visited_next : (grew : Bool) → Grown old.marks.items next.marks.items grew → ((i j : ℕ) → Plus (Edge (rule_of g.sorts r) (Has old)) (inherited 0 i) (given 0 j) → Has next r.sort i j) →
      ((t i j : ℕ) → Has next t i j → Has old t i j ⊎ (t ≡ r.sort)) → (grew ≡ true → after.sorts.items ≡ slice_set before.sorts.items r.sort
      before.count) → (grew ≡ false → after.sorts.items ≡ before.sorts.items) → AreVisited g next after
  visited_next true grown kept only sorts same = grown_next grown kept only (sorts refl)
  visited_next false grown kept only sorts same = same_next (grown.same refl) kept (same refl)
