-- The sorts and homes of valid nodes.
use Rattle.std.proofs.Common.{Bool, List, None, Option, Some, [], ap, arith, cond, false, refl, subst, suc, sym, true, ℕ, ◌++◌, ◌<◌, ◌∙◌, ◌∷◌, ◌≡◌}
use Rattle.std.specs.Prelude.{is_some, nat_eq, option_and_then, option_map, slice_get}
use Rattle.std.proofs.lemmas.Bool.{and_parts, eq-eqb}
use Rattle.std.proofs.lemmas.Option.{same_Some}
use Rattle.std.specs.Option.{unwrap_or}
use Rattle.aw_list.proofs.Members.{member_got}
use Rattle.aw_term.specs.Artifacts.{Words}
use Rattle.aw_term.specs.Choices.{Choice, Develop, Start}
use Rattle.aw_term.specs.Names.{Node, Step, below, root}
use Rattle.aw_term.specs.Rules.{Child, Grammar, Rule, Sort, child_at, sort_after, sort_of, sort_of_step}
use Rattle.aw_term.specs.WellFormed.{IsWellFormed, SortFits}
use Rattle.aw_base.specs.ChoiceFits.{choice_ok}
use Rattle.aw_base.specs.NodeNames.{is_start}
use Rattle.aw_accept.proofs.Fitting.{each_member}
use Rattle.aw_law_sites.specs.Homes.{home}
use Rattle.aw_law_sites.specs.Worlds.{node_of}

-- ---- the sort of a child

after_more : (g : Grammar) (s u v : ℕ) (steps : List Step) (t : Step) → sort_after g s steps ≡ Some u → sort_of_step g u t ≡ Some v → sort_after g s (steps ++ t ∷ []) ≡ Some v
after_more g s u v [] t e f = ap (option_and_then (λ t. Some t)) (ap (λ s. sort_of_step g s t) (same_Some _ _ e) ∙ f)
after_more g s u v (x ∷ xs) t e f = go (sort_of_step g s x) e (λ r z. after_more g r u v xs t z f)
  where
    go : (o : Option ℕ) → option_and_then (λ t. sort_after g t xs) o ≡ Some u →
        ((r : ℕ) → sort_after g r xs ≡ Some u → sort_after g r (xs ++ t ∷ []) ≡ Some v) → option_and_then (λ r. sort_after g r (xs ++ t ∷ [])) o ≡ Some v
    go None z h = absurd cc
    go (Some r) z h = h r z

-- a child that the rule has is a node of the child's sort
pub sort_below : (g : Grammar) (n : Node) (u v : ℕ) (r k : ℕ) → sort_of g n ≡ Some u → sort_of_step g u (record { rule = r; child = k }) ≡ Some v → sort_of g (below n r k) ≡ Some v
sort_below g n u v r k e f = go (slice_get g.sorts n.start) e
  where
    by_start : (b : Bool) → cond b (sort_after g n.start n.steps) None ≡ Some u → cond b (sort_after g n.start (n.steps ++ record { rule = r; child = k } ∷ [])) None ≡ Some v
    by_start true z = after_more g n.start u v n.steps (record { rule = r; child = k }) z f
    by_start false z = absurd cc

    go : (o : Option Sort) → option_and_then (λ (s : Sort). cond s.start (sort_after g n.start n.steps) None) o ≡ Some u
        → option_and_then (λ (s : Sort). cond s.start (sort_after g n.start (n.steps ++ record { rule = r; child = k } ∷ [])) None) o ≡ Some v
    go None z = absurd cc
    go (Some s) z = by_start s.start z

pub step_sort : (g : Grammar) (rule : Rule) (r i : ℕ) (d : Child) → slice_get g.rules r ≡ Some rule → slice_get rule.children i ≡ Some d →
    sort_of_step g rule.sort (record { rule = r; child = suc i }) ≡ Some d.sort
step_sort g rule r i d e f =
    ap (option_and_then (λ (q : Rule). cond (nat_eq q.sort rule.sort) (option_map (λ (c : Child). c.sort) (child_at q.children (suc i))) None)) e
    ∙ (ap (λ b. cond b (option_map (λ (c : Child). c.sort) (slice_get rule.children i)) None) (eq-eqb rule.sort rule.sort refl) ∙ ap (option_map (λ (c : Child). c.sort)) f)

pub sort_of_root : (g : Grammar) (s k : ℕ) → is_start (slice_get g.sorts s) ≡ true → sort_of g (root s k) ≡ Some s
sort_of_root g s k e = go (slice_get g.sorts s) e
  where
    go : (o : Option Sort) → is_start o ≡ true → option_and_then (λ (t : Sort). cond t.start (Some s) None) o ≡ Some s
    go None z = absurd cc
    go (Some t) z = ap (λ b. cond b (Some s) None) z

pub some_sort : (g : Grammar) (n : Node) → is_some (sort_of g n) ≡ true → (s : ℕ) × (sort_of g n ≡ Some s)
some_sort g n e = go (sort_of g n) refl e
  where
    go : (o : Option ℕ) → sort_of g n ≡ o → is_some o ≡ true → (s : ℕ) × (sort_of g n ≡ Some s)
    go None f z = absurd cc
    go (Some s) f z = (s, f)

-- the node of a choice that may be asked is valid
pub choice_node : (g : Grammar) (c : Choice) → choice_ok g c ≡ true → is_some (sort_of g (node_of c)) ≡ true
choice_node g (Start s k) e = ap is_some (sort_of_root g s k e)
choice_node g (Develop n r args) e = (and_parts _ _ e).0

-- ---- homes

module _ (w : Words) (g : Grammar) (formed : IsWellFormed w g) where
  role_within : (i : ℕ) (s : Sort) → slice_get g.sorts i ≡ Some s → s.role < g.roles
  role_within i s e = (each_member (SortFits g.roles) g.sorts s formed.sorts (member_got g.sorts i s e)).declared

  some_role : (n : Node) (s : ℕ) → sort_of g n ≡ Some s → 0 < g.roles
  some_role n s e = go (slice_get g.sorts n.start) refl e
    where
      go : (o : Option Sort) → slice_get g.sorts n.start ≡ o → option_and_then (λ (t : Sort). cond t.start (sort_after g n.start n.steps) None) o ≡ Some s → 0 < g.roles
      go None f z = absurd cc
      go (Some t) f z = let l = role_within n.start t f in omega (arith, l)

  -- the home of a valid node is a role
  pub home_within : (n : Node) → is_some (sort_of g n) ≡ true → home g n < g.roles
  home_within n e =
      let (s, f) = some_sort g n e in
      subst (λ o. unwrap_or (option_and_then (λ s. option_map (λ (t : Sort). t.role) (slice_get g.sorts s)) o) 0 < g.roles) (sym f) (go s f (slice_get g.sorts s) refl)
    where
      go : (s : ℕ) → sort_of g n ≡ Some s → (o : Option Sort) → slice_get g.sorts s ≡ o → unwrap_or (option_map (λ (t : Sort). t.role) o) 0 < g.roles
      go s f None z = some_role n s f
      go s f (Some t) z = role_within s t z
