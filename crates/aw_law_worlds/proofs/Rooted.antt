-- Each mentioned reference was created.
use Rattle.std.specs.Prelude.{slice_get}
use Rattle.std.proofs.Common.{List, Some, [], ap, arith, inl, inr, length, map, refl, subst, suc, sym, true, zero, ℕ, ◌+◌, ◌∙◌, ◌∷◌, ◌≡◌, ◌≤◌}
use Rattle.std.proofs.lemmas.Option.{same_Some}
use Rattle.aw_list.specs.Members.{Member}
use Rattle.aw_list.proofs.Members.{member_got, member_left, member_map, member_right, member_split, member_unmap, never}
use Rattle.aw_term.specs.Choices.{outcome as plain_outcome, Choice, Develop, Outcome, Refused, Start, Starts, Takes}
use Rattle.aw_term.specs.Configs.{Done, row_of}
use Rattle.aw_term.specs.Names.{Node, Ref, below, result}
use Rattle.aw_term.specs.Rules.{Child, Grammar, Ground, Rule, Value}
use Rattle.aw_term.specs.Held.{Held, insert_held, mark}
use Rattle.aw_iograph.specs.Dependence.{HasNoCircle, IO}
use Rattle.aw_iograph.specs.Occurrences.{pattern_entries}
use Rattle.aw_accept.specs.Acyclic.{IsGivenGrammar, gives}
use Rattle.aw_accept.proofs.UndividedRuns.{decode_on}
use Rattle.aw_store.specs.Equations.{Is}
use Rattle.aw_apply.specs.Made.{Call, Making, lay_children, lay_list, made}
use Rattle.aw_law_sites.specs.Joint.{Joint, add_made, called_held, joint_outcome, joint_taken, root_held}
use Rattle.aw_law_sites.proofs.AnyOrders.{Member-all_held, Member-insert_all, Member-insert_held, Member-inserted_held, Took, marked, takes}
use Rattle.aw_law_sites.proofs.Entering.{VariablesEnter}
use Rattle.aw_law_sites.proofs.Lockstep.{answers_agree}
use Rattle.aw_law_sites.proofs.OutcomesAlike.{OutLike}
use Rattle.aw_law_sites.proofs.SameConfigs.{Fit}
use Rattle.aw_law_sites.specs.Homes.{has_steps}
use Rattle.aw_law_worlds.specs.Mentioned.{IsCreated, IsMentioned, IsRooted}
use Rattle.aw_law_worlds.proofs.Delivering.{has-end}
use Rattle.aw_law_worlds.proofs.GuardBinds.{all_bound, all_many}
use Rattle.aw_law_worlds.proofs.Learning.{find-member}
use Rattle.aw_law_worlds.proofs.MadeMentions.{MentionsIn, made-in}

pub call_there : (n : Node) (ri : ℕ) (f : ℕ → Ref) (cs : List Child) (i k j : ℕ) (d : Child) → slice_get cs j ≡ Some d → (c : Call)
    × Member c (lay_children n ri f i k cs).roots × (c.node ≡ below n ri (i + j)) × (c.sort ≡ d.sort)
call_there n ri f [] i k j d e = absurd cc
call_there n ri f (u ∷ cs) i k zero d e =
    let z : i ≡ i + 0 = omega arith in
    let p : u ≡ d = same_Some _ _ e in
    (_, inl refl, ap (below n ri) z, ap (λ (c : Child). c.sort) p)
call_there n ri f (u ∷ cs) i k (suc j) d e =
    let (c, m, a, b) = call_there n ri f cs (suc i) (lay_list n f k u.args).next j d e in
    let z : suc i + j ≡ i + suc j = omega arith in
    (c, inr m, a ∙ ap (below n ri) z, b)

-- what a taken rule says, in the whole
module _ (g : Grammar) (fit : IsGivenGrammar g) (enter : VariablesEnter g) (ok : HasNoCircle g (IO g)) (x : Joint) (F : Fit g fit enter ok x)
    (n : Node) (ri : ℕ) (args : List Ground) (rule : Rule) (bound : List Ref) (e0 : joint_outcome x g (Develop n ri args) ≡ Takes rule bound) where
  pub T : Took g x n ri args rule bound
  T = takes g x n ri args rule bound e0

  given_on : (o : Outcome Value Ref) → plain_outcome g F.config (Develop n ri args) ≡ o → OutLike x.equations (Takes rule bound) o → (length args ≡ rule.params)
  given_on (Refused z) f l = never l
  given_on Starts f l = never l
  given_on (Takes rule' bs) f l =
      let D = decode_on g F.config (row_of n F.config) n ri args rule' bs refl f in
      subst (λ (r : Rule). length args ≡ r.params) (sym l.0) D.given

  pub is_given : length args ≡ rule.params
  is_given = given_on (plain_outcome g F.config (Develop n ri args)) refl
      (subst (λ o. OutLike x.equations o (plain_outcome g F.config (Develop n ri args))) e0
      (answers_agree g fit enter ok x F.config F.joint (Develop n ri args)))

  pub is_many : length bound ≡ length (pattern_entries 1 rule.patterns)
  is_many = all_many x.equations 1 1 rule.patterns T.held.inherited bound T.yes

  -- what is bound was mentioned
  pub bound_mentioned : (r : Ref) → Member r bound → IsMentioned r x.equations x.held
  bound_mentioned r m =
      all_bound x.equations (λ r. IsMentioned r x.equations x.held) (λ s h rs u f i. inl (record { left = s; body = Is h rs }, find-member x.equations s (Is h rs) f, i))
      1 rule.patterns T.held.inherited bound (λ u i. inr (T.held, T.is_held, i)) T.yes r m

  abbrev mk : Making
  mk = made n ri rule args bound

  abbrev y : Joint
  y = add_made x n (Done ri args) mk

  created_more : (r : Ref) → IsCreated g x r → IsCreated g y r
  created_more r (inl (e, m, p, s)) = inl (e, member_left e x.equations mk.equations m, p, s)
  created_more r (inr (h, j, m, s, lo, l, p)) =
      let (a, b, c) = marked n (Done ri args) h in
      inr (
        mark n (Done ri args) h,
        j,
        Member-all_held _ (map called_held mk.calls) (map (mark n (Done ri args)) x.held) (inr (member_map (mark n (Done ri args)) h x.held m)),
        subst (λ nd. has_steps nd.steps ≡ true) (sym a) s,
        lo,
        subst (λ so. j ≤ gives g so) (sym b) l,
        subst (λ nd. r ≡ result nd j) (sym a) p,
      )

  module _ (rooted : IsRooted g x) where
    made_rooted : ((c : Call) → Member c mk.calls → (r : Ref) → Member r c.inherited → IsCreated g y r) × MentionsIn (IsCreated g y) mk.equations
    made_rooted = made-in g enter n ri rule T.rule_is args is_given bound is_many (IsCreated g y)
        (λ r m. created_more r (rooted r (bound_mentioned r m)))
        (λ e m s. inl (e, member_right e x.equations mk.equations m, refl, s))
        (λ i c l f lo b.
        let (d, m, a, so) = call_there n ri _ rule.children 1 _ i c f in
        let q = fit.outs rule (member_got g.rules ri rule T.rule_is) i c f in
        let z : l ≤ gives g c.sort = omega (arith, b, q) in
        inr (
          called_held d,
          l,
          Member-all_held (called_held d) (map called_held mk.calls) (map (mark n (Done ri args)) x.held) (inl (member_map called_held d mk.calls m)),
          subst (λ nd. has_steps nd.steps ≡ true) (sym a) (has-end n.steps (record { rule = ri; child = 1 + i })),
          lo,
          subst (λ so. l ≤ gives g so) (sym so) z,
          ap (λ nd. result nd l) (sym a),
        ))

    pub rooted_next : IsRooted g y
    rooted_next r (inl (e, m, i)) = elim (member_split e x.equations mk.equations m) [
      | inl o ↦ created_more r (rooted r (inl (e, o, i)))
      | inr o ↦ made_rooted.1 e o r i
    ]
    rooted_next r (inr (h, m, i)) = elim (Member-insert_all h (map called_held mk.calls) (map (mark n (Done ri args)) x.held) m) [
      | inl o ↦ (let (c, j, p) = member_unmap called_held h mk.calls o in made_rooted.0 c j r (subst (λ (h : Held). Member r h.inherited) p i))
      | inr o ↦ (let (d, j, p) = member_unmap (mark n (Done ri args)) h x.held o in
          let (a, b, c) = marked n (Done ri args) d in
          created_more r (rooted r (inr (d, j, subst (Member r) (ap (λ (h : Held). h.inherited) p ∙ c) i))))
    ]

root_rooted : (g : Grammar) (x : Joint) (s k : ℕ) → IsRooted g x → IsRooted g (record x { held = insert_held (root_held s k) x.held })
root_rooted g x s k f r (inl (e, m, i)) = more (f r (inl (e, m, i)))
  where
    more : IsCreated g x r → IsCreated g (record x { held = insert_held (root_held s k) x.held }) r
    more (inl z) = inl z
    more (inr (h, j, m, z, lo, l, p)) = inr (h, j, Member-inserted_held h (root_held s k) x.held (inr m), z, lo, l, p)
root_rooted g x s k f r (inr (h, m, i)) = elim (Member-insert_held h (root_held s k) x.held m) [
  | inl p ↦ never (subst (λ (h : Held). Member r h.inherited) p i)
  | inr o ↦ more (f r (inr (h, o, i)))
]
  where
    more : IsCreated g x r → IsCreated g (record x { held = insert_held (root_held s k) x.held }) r
    more (inl z) = inl z
    more (inr (h, j, m, z, lo, l, p)) = inr (h, j, Member-inserted_held h (root_held s k) x.held (inr m), z, lo, l, p)

module _ (g : Grammar) (fit : IsGivenGrammar g) (enter : VariablesEnter g) (ok : HasNoCircle g (IO g)) where
  rooted_on : (x y : Joint) (c : Choice) → Fit g fit enter ok x → IsRooted g x → (o : Outcome Ref Ref) → joint_outcome x g c ≡ o → joint_taken x c o ≡ Some y → IsRooted g y
  rooted_on x y c F r (Refused a) e t = absurd cc
  rooted_on x y (Start s k) F r Starts e t = subst (IsRooted g) (same_Some _ _ t) (root_rooted g x s k r)
  rooted_on x y (Start s k) F r (Takes rule bound) e t = absurd cc
  rooted_on x y (Develop n ri args) F r Starts e t = absurd cc
  rooted_on x y (Develop n ri args) F r (Takes rule bound) e t = subst (IsRooted g) (same_Some _ _ t) (rooted_next g fit enter ok x F n ri args rule bound e r)

  pub rooted_kept : (x y : Joint) (c : Choice) → Fit g fit enter ok x → IsRooted g x → joint_taken x c (joint_outcome x g c) ≡ Some y → IsRooted g y
  rooted_kept x y c F r t = rooted_on x y c F r (joint_outcome x g c) refl t
