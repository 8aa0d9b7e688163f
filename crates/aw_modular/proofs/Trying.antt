-- A list that decides the rules of a role, with what is declared of others, shows that the role says yes.
use Rattle.std.proofs.Common.{◌≡◌, ℕ, zero, suc, Bool, true, false, List, None, sym, subst, inl, inr, eq-eqb}
use Rattle.std.specs.Prelude.{◌&&◌, ◌||◌, not, nat_eq}
use Rattle.std.proofs.lemmas.Bool.{eqb-true, and_parts}
use Rattle.aw_list.specs.Members.{Member}
use Rattle.aw_list.proofs.Members.{never}
use Rattle.aw_term.specs.Rules.{Rule, Grammar}
use Rattle.aw_base.specs.declared.declared.Triple.{Triple}
use Rattle.aw_iograph.proofs.Relations.{plus_map, follows_least}
use Rattle.aw_face.specs.Faces.{role_of, is_offered, face_fault}
use Rattle.aw_iograph.specs.Decided.{Pair, Holds, all, any, pair_eq, decides}
use Rattle.aw_iograph.proofs.Deciding.{all_member, any_member, listed_member, decided_closed, decided_none, or_true as or_second, implied as implies}
use Rattle.aw_modular.specs.Roles.{Declares, IsOf, Mixed, RoleRelation, HasOwnRules, DeclaredElsewhere, Part, SaysYes}
use Rattle.aw_modular.proofs.RoleRelations.{mixed-follows}

abbrev pub all_own : ℕ → Grammar → Bool
all_own role g = all (λ (r : Rule). nat_eq (role_of g.sorts r.sort) role) g.rules

abbrev pub lists_others : ℕ → Grammar → List Triple → List Pair → Bool
lists_others role g declared pairs = all (λ (t : Triple). nat_eq (role_of g.sorts t.sort) role || any (pair_eq (record { sort = t.sort; i = t.i; j = t.j })) pairs) declared

abbrev pub triple_is : Pair → Triple → Bool
triple_is p t = nat_eq p.sort t.sort && (nat_eq p.i t.i && nat_eq p.j t.j)

abbrev pub declares_offered : ℕ → Grammar → List ℕ → List Triple → List Pair → Bool
declares_offered role g offers declared pairs = all (λ (p : Pair). not (nat_eq (role_of g.sorts p.sort) role && is_offered p.sort offers) || any (triple_is p) declared) pairs

both : (a b : Bool) → a ≡ true → b ≡ true → (a && b) ≡ true
both true b e f = f
both false b e f = absurd cc

own_rules : (role : ℕ) (g : Grammar) → all_own role g ≡ true → HasOwnRules role g
own_rules role g e r m = eqb-true (role_of g.sorts r.sort) role (all_member (λ (r : Rule). nat_eq (role_of g.sorts r.sort) role) g.rules r e m)

elsewhere : (role : ℕ) (g : Grammar) (declared : List Triple) (pairs : List Pair) → lists_others role g declared pairs ≡ true → (s i j : ℕ) →
    DeclaredElsewhere g role (Declares declared) s i j → Holds pairs s i j
elsewhere role g declared pairs e s i j (not_own, m) =
    elim (or_second (nat_eq (role_of g.sorts s) role) (any (pair_eq (record { sort = s; i = i; j = j })) pairs)
    (all_member (λ (t : Triple). nat_eq (role_of g.sorts t.sort) role || any (pair_eq (record { sort = t.sort; i = t.i; j = t.j })) pairs) declared (record { sort = s; i = i; j = j }) e m)) [
      | inl a ↦ never (not_own (eqb-true (role_of g.sorts s) role a))
      | inr a ↦ listed_member pairs (record { sort = s; i = i; j = j }) a
    ]

declared_member : (p : Pair) (ts : List Triple) → any (triple_is p) ts ≡ true → Declares ts p.sort p.i p.j
declared_member p ts e =
    let (t, m, f) = any_member (triple_is p) ts e in
    let (a, b) = and_parts _ _ f in
    let (c, d) = and_parts _ _ b in
    let x = eqb-true p.sort t.sort a in
    let y = eqb-true p.i t.i c in
    let z = eqb-true p.j t.j d in
    let same : t ≡ record { sort = p.sort; i = p.i; j = p.j } = λ k. record { sort = sym x k; i = sym y k; j = sym z k } in
    subst (λ u. Member u ts) same m

module _ (offers : List ℕ) (declared : List Triple) (role : ℕ) (p : Part) (pairs : List Pair) (own : all_own role p.grammar ≡ true)
    (others : lists_others role p.grammar declared pairs ≡ true) (decided : decides pairs p.grammar.rules ≡ true) where
  mixed_holds : (s i j : ℕ) → Mixed p.grammar role (RoleRelation p.grammar role (Declares declared)) (Declares declared) s i j → Holds pairs s i j
  mixed_holds s i j x =
      follows_least p.grammar (DeclaredElsewhere p.grammar role (Declares declared)) (Holds pairs) (decided_closed p.grammar pairs decided) (elsewhere role p.grammar declared pairs others) s i j
      (mixed-follows p.grammar role (Declares declared) (own_rules role p.grammar own) s i j x)

  is_own : (s i j : ℕ) → RoleRelation p.grammar role (Declares declared) s i j → IsOf p.grammar role s
  is_own s i j (zero, x) = never x
  is_own s i j (suc h, (a, x)) = a

  pub says_yes : face_fault p.grammar offers p.uses ≡ None → declares_offered role p.grammar offers declared pairs ≡ true → SaysYes offers declared role p
  says_yes faces declares = record {
    own = own_rules role p.grammar own;
    faces = faces;
    no_circle = λ r m o w. decided_none p.grammar pairs decided r m o
        (plus_map r (Mixed p.grammar role (RoleRelation p.grammar role (Declares declared)) (Declares declared)) (Holds pairs) mixed_holds w);
    declares = λ s i j off x.
        let a = is_own s i j x in
        declared_member (record { sort = s; i = i; j = j }) declared
        (implies (nat_eq (role_of p.grammar.sorts s) role && is_offered s offers) (any (triple_is (record { sort = s; i = i; j = j })) declared)
        (all_member (λ (q : Pair). not (nat_eq (role_of p.grammar.sorts q.sort) role && is_offered q.sort offers) || any (triple_is q) declared) pairs
        (record { sort = s; i = i; j = j }) declares (mixed_holds s i j (inl (a, x))))
        (both (nat_eq (role_of p.grammar.sorts s) role) (is_offered s offers) (eq-eqb (role_of p.grammar.sorts s) role a) off));
  }
