-- The dependence relation of the whole lies within what the roles found, so no value of the whole depends on itself.
use Rattle.std.proofs.Common.{◌≡◌, ℕ, zero, suc, ◌+◌, Bool, true, false, cond, List, [], ◌∷◌, Option, Some, None, slice_get, refl, sym, ap, ◌∙◌, subst, inl, inr, arith}
use Rattle.std.specs.Prelude.{◌⊎◌, nat_eq}
use Rattle.std.proofs.lemmas.Bool.{eqb-true, eqb-false}
use Rattle.std.proofs.lemmas.Option.{same_Some}
use Rattle.aw_list.specs.Members.{Member}
use Rattle.aw_list.proofs.Members.{never, member_got, member_split}
use Rattle.aw_term.specs.Trees.{Never}
use Rattle.aw_term.specs.Rules.{Child, Rule, Sort, Grammar, child_at}
use Rattle.aw_term.specs.WellFormed.{Each}
use Rattle.aw_iograph.specs.declared.occ.Occ.{Occ}
use Rattle.aw_iograph.specs.Graphs.{Plus, step, more}
use Rattle.aw_iograph.specs.Dependence.{Edge, text, call, IO, IsClosedUnder, HasNoCircle}
use Rattle.aw_base.specs.declared.declared.Triple.{Triple}
use Rattle.aw_iograph.proofs.Relations.{plus_map, io_least}
use Rattle.aw_face.specs.declared.faces.Using.{Using}
use Rattle.aw_face.specs.declared.faces.FaceKind.{FaceKind}
use Rattle.aw_face.specs.declared.faces.FaceKind.TheVariants.{NotUsed, NotOffered}
use Rattle.aw_face.specs.Faces.{role_of, is_offered, is_used, kind_between, here_or_later, children_fault, rule_fault, at_rule, rules_fault, face_fault}
use Rattle.aw_modular.specs.Roles.{Declares, IsOf, Mixed, RoleRelation, Part, SaysYes, AllSayYes, rules_of, IsJoined, LiesWithin}
use Rattle.aw_modular.proofs.RoleRelations.{role_closed}

-- a child is of the rule's own role, or its sort is offered
used_cases : (b : Bool) (o : Bool) → cond b (cond o None (Some NotOffered)) (Some NotUsed) ≡ None → o ≡ true
used_cases true true e = refl
used_cases true false e = absurd cc
used_cases false o e = absurd cc

kind_cases : (b : Bool) (offers : List ℕ) (uses : List Using) (role a sort : ℕ) → nat_eq a role ≡ b →
    cond b None (cond (is_used role sort uses) (cond (is_offered sort offers) None (Some NotOffered)) (Some NotUsed)) ≡ None → (a ≡ role)
    ⊎ (is_offered sort offers ≡ true)
kind_cases true offers uses role a sort t e = inl (eqb-true a role t)
kind_cases false offers uses role a sort t e = inr (used_cases (is_used role sort uses) (is_offered sort offers) e)

kept_here : (k : ℕ) (kind : Option FaceKind) (later : Option (ℕ × FaceKind)) → here_or_later k kind later ≡ None → (kind ≡ None) × (later ≡ None)
kept_here k None later e = (refl, e)
kept_here k (Some x) later e = absurd cc

child_keeps : (sorts : List Sort) (offers : List ℕ) (uses : List Using) (role k : ℕ) (cs : List Child) → children_fault sorts offers uses role k
    cs ≡ None → (c : Child) → Member c cs → (role_of sorts c.sort ≡ role) ⊎ (is_offered c.sort offers ≡ true)
child_keeps sorts offers uses role k [] e c m = never m
child_keeps sorts offers uses role k (d ∷ cs) e c m =
    let (a, b) = kept_here k (kind_between offers uses role (role_of sorts d.sort) d.sort) (children_fault sorts offers uses role (suc k) cs) e in
    elim m [
      | inl same ↦ subst (λ (x : Child). (role_of sorts x.sort ≡ role) ⊎ (is_offered x.sort offers ≡ true)) (sym same)
          (kind_cases (nat_eq (role_of sorts d.sort) role) offers uses role (role_of sorts d.sort) d.sort refl a)
      | inr n ↦ child_keeps sorts offers uses role (suc k) cs b c n
    ]

kept_rule : (i : ℕ) (fault : Option (ℕ × FaceKind)) (later : Option (ℕ × ℕ × FaceKind)) → at_rule i fault later ≡ None → (fault ≡ None) × (later ≡ None)
kept_rule i None later e = (refl, e)
kept_rule i (Some x) later e = absurd cc

pub rule_keeps : (sorts : List Sort) (offers : List ℕ) (uses : List Using) (i : ℕ) (rs : List Rule) → rules_fault sorts offers uses i rs ≡ None →
    (r : Rule) → Member r rs → rule_fault sorts offers uses r ≡ None
rule_keeps sorts offers uses i [] e r m = never m
rule_keeps sorts offers uses i (x ∷ rs) e r m =
    let (a, b) = kept_rule i (rule_fault sorts offers uses x) (rules_fault sorts offers uses (suc i) rs) e in
    elim m [
      | inl same ↦ subst (λ (y : Rule). rule_fault sorts offers uses y ≡ None) (sym same) a
      | inr n ↦ rule_keeps sorts offers uses (suc i) rs b r n
    ]

faces_keep : (g : Grammar) (offers : List ℕ) (uses : List Using) → face_fault g offers uses ≡ None → (r : Rule) → Member r g.rules → (k : ℕ) (c : Child) → child_at r.children k ≡ Some c
    → (role_of g.sorts c.sort ≡ role_of g.sorts r.sort) ⊎ (is_offered c.sort offers ≡ true)
faces_keep g offers uses e r m zero c f = absurd cc
faces_keep g offers uses e r m (suc k) c f = child_keeps g.sorts offers uses (role_of g.sorts r.sort) 1 r.children (rule_keeps g.sorts offers uses 0 g.rules e r m) c (member_got r.children k c f)

-- the part of a rule of the whole
part_of_rule : (parts : List Part) (r : Rule) → Member r (rules_of parts) → (k : ℕ) × (p : Part) × (slice_get parts k ≡ Some p) × Member r p.grammar.rules
part_of_rule [] r m = never m
part_of_rule (p ∷ ps) r m =
    elim (member_split r p.grammar.rules (rules_of ps) m) [
      | inl a ↦ (0, p, refl, a)
      | inr a ↦ (let (k, q, e, n) = part_of_rule ps r a in (suc k, q, e, n))
    ]

each_part : (P : Part → Type 0) (parts : List Part) (k : ℕ) (p : Part) → Each P parts → slice_get parts k ≡ Some p → P p
each_part P [] k p each e = absurd cc
each_part P (q ∷ qs) zero p each e = subst P (same_Some q p e) each.0
each_part P (q ∷ qs) (suc k) p each e = each_part P qs k p each.1 e

says : (offers : List ℕ) (declared : List Triple) (n : ℕ) (parts : List Part) (k : ℕ) (p : Part) → AllSayYes offers declared n parts → slice_get parts k ≡ Some p → SaysYes offers declared (n + k) p
says offers declared n [] k p all e = absurd cc
says offers declared n (q ∷ qs) zero p all e =
    let z : n ≡ n + 0 = omega arith in
    subst (λ i. SaysYes offers declared i p) z (subst (SaysYes offers declared n) (same_Some q p e) all.0)
says offers declared n (q ∷ qs) (suc k) p all e =
    let z : suc n + k ≡ n + suc k = omega arith in
    subst (λ i. SaysYes offers declared i p) z (says offers declared (suc n) qs k p all.1 e)

module _ (offers : List ℕ) (declared : List Triple) (parts : List Part) (g : Grammar) (joined : IsJoined parts g) (all : AllSayYes offers declared 0 parts) where
  abbrev D : ℕ → ℕ → ℕ → Type 0
  D s i j = Declares declared s i j

  abbrev Own : ℕ → Part → ℕ → ℕ → ℕ → Type 0
  Own k p s i j = RoleRelation p.grammar k D s i j

  -- what the roles found, all together
  abbrev Within : ℕ → ℕ → ℕ → Type 0
  Within s i j = (k : ℕ) × (p : Part) × (slice_get parts k ≡ Some p) × IsOf g k s × Own k p s i j

  yes : (k : ℕ) (p : Part) → slice_get parts k ≡ Some p → SaysYes offers declared k p
  yes k p e = let z : 0 + k ≡ k = omega arith in subst (λ i. SaysYes offers declared i p) z (says offers declared 0 parts k p all e)

  sorts : (k : ℕ) (p : Part) → slice_get parts k ≡ Some p → p.grammar.sorts ≡ g.sorts
  sorts k p e = each_part (λ p. p.grammar.sorts ≡ g.sorts) parts k p joined.sorts e

  -- at a child of the role, and at a child of another role, whose sort is offered
  by_role : (k : ℕ) (p : Part) (got : slice_get parts k ≡ Some p) (r : Rule) (m : Member r p.grammar.rules) (n : ℕ) (c : Child) → child_at r.children n ≡ Some c → (i j : ℕ) → Within c.sort i j
      → (b : Bool) → nat_eq (role_of p.grammar.sorts c.sort) k ≡ b → Mixed p.grammar k (Own k p) D c.sort i j
  by_role k p got r m n c f i j (l, q, e, a, x) true t =
      let here = eqb-true (role_of p.grammar.sorts c.sort) k t in
      let same : l ≡ k = sym a ∙ (sym (ap (λ s. role_of s c.sort) (sorts k p got)) ∙ here) in
      let one : q ≡ p = same_Some q p (sym e ∙ (ap (slice_get parts) same ∙ got)) in
      inl (here, subst (λ z. Own k z c.sort i j) one (subst (λ z. Own z q c.sort i j) same x))
  by_role k p got r m n c f i j (l, q, e, a, x) false t =
      let there : IsOf p.grammar k c.sort → Never = λ z. absurd (eqb-false (role_of p.grammar.sorts c.sort) k t z) in
      let Y = yes k p got in
      elim (faces_keep p.grammar offers p.uses Y.faces r m n c f) [
        | inl w ↦ never (there (w ∙ Y.own r m))
        | inr w ↦ inr (there, (yes l q e).declares c.sort i j w x)
      ]

  edge_within : (k : ℕ) (p : Part) (got : slice_get parts k ≡ Some p) (r : Rule) (m : Member r p.grammar.rules) {o u : Occ} → Edge r Within o u → Edge r (Mixed p.grammar k (Own k p) D) o u
  edge_within k p got r m (text v t a b x) = text v t a b x
  edge_within k p got r m (call n i l c f x) = call n i l c f (by_role k p got r m n c f i l x (nat_eq (role_of p.grammar.sorts c.sort) k) refl)

  plus_within : (k : ℕ) (p : Part) (got : slice_get parts k ≡ Some p) (r : Rule) (m : Member r p.grammar.rules) {o u : Occ} →
      Plus (Edge r Within) o u → Plus (Edge r (Mixed p.grammar k (Own k p) D)) o u
  plus_within k p got r m (step e) = step (edge_within k p got r m e)
  plus_within k p got r m (more e w) = more (edge_within k p got r m e) (plus_within k p got r m w)

  part_of : (r : Rule) → Member r g.rules → (k : ℕ) × (p : Part) × (slice_get parts k ≡ Some p) × Member r p.grammar.rules
  part_of r m = part_of_rule parts r (subst (Member r) joined.rules m)

  within_closed : IsClosedUnder g Within
  within_closed r m i j w =
      let (k, p, got, n) = part_of r m in
      let own = (yes k p got).own r n in
      (k, p, got, sym (ap (λ s. role_of s r.sort) (sorts k p got)) ∙ own, role_closed p.grammar k D r n own i j (plus_within k p got r n w))

  pub lies_within : LiesWithin declared parts g
  lies_within s i j x = io_least g Within within_closed s i j x

  pub no_circle : HasNoCircle g (IO g)
  no_circle r m o w =
      let (k, p, got, n) = part_of r m in
      (yes k p got).no_circle r n o (plus_within k p got r n (plus_map r (IO g) Within (io_least g Within within_closed) w))
