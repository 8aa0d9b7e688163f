-- Rules of one grammar, role by role, are well formed together.
use Rattle.std.proofs.Common.{◌≡◌, ◌≢◌, ℕ, suc, ◌<◌, ◌≤◌, Bool, true, false, cond, List, [], ◌∷◌, ◌++◌, map, length, refl, sym, ap, ◌∙◌, subst, inl, inr, arith}
use Rattle.std.specs.Prelude.{◌⊎◌, filter}
use Rattle.std.proofs.Math.Logic.{∥∥₁_map}
use Rattle.std.proofs.lemmas.Bool.{eqb-true}
use Rattle.std.proofs.lemmas.List.{map-append}
use Rattle.aw_list.specs.Members.{Member}
use Rattle.aw_list.proofs.Members.{never, member_map}
use Rattle.aw_spelling.specs.Spelling.{is_name}
use Rattle.aw_term.specs.Rules.{role_of}
use Rattle.aw_term.specs.WellFormed.{Each, Later, Differ, RuleFits}
use Rattle.aw_term.proofs.Eaches.{each_append, each_map, later_filter}
use Rattle.aw_grammar.specs.declared.rule.Con.{Con}
use Rattle.aw_grammar.specs.declared.rule.Sort.{Sort}
use Rattle.aw_grammar.specs.declared.rule.Rule.{Rule}
use Rattle.aw_grammar.specs.GrammarView.{rule_of, sorts_of, plain_grammar}
use Rattle.aw_grammar.specs.SomeRules.{is_at, rules_at}
use Rattle.aw_grammar.proofs.Added.{Good}
use Rattle.aw_grammar.proofs.Counted.{rules_counted}
use Rattle.aw_grammar.proofs.GoodRule.{other_rules}
use Rattle.aw_grammar.proofs.Growth.{four_from, four_to}
use Rattle.aw_accept.proofs.Fitting.{each_member}
use Rattle.aw_grammar.specs.declared.grammar.Grammar.{Grammar}
use Rattle.aw_accept.proofs.Pigeonholes.{pigeon}
use Rattle.aw_modular.specs.declared.yes.RoleYes.{RoleYes}
use Rattle.aw_modular.specs.Wholes.{HaveRoles, all_rules, WouldFit, ArePartsOf}

abbrev name : Rule → List ℕ
name r = r.name

-- those of which each is among others have what the others have
each_among : {A B : Type 0} (P : B → Type 0) (f : A → B) (xs ys : List A) → Each (λ y. Member y xs) ys → Each P (map f xs) → Each P (map f ys)
each_among P f xs [] m each = tt
each_among P f xs (y ∷ ys) m each = (each_member P (map f xs) (f y) each (member_map f y xs m.0), each_among P f xs ys m.1 each)

members_map : {A B : Type 0} (f : A → B) (xs ys : List A) → Each (λ y. Member y xs) ys → Each (λ z. Member z (map f xs)) (map f ys)
members_map f xs [] m = tt
members_map f xs (y ∷ ys) m = (member_map f y xs m.0, members_map f xs ys m.1)

cases : (a b : ℕ) → (a ≤ b) ⊎ (b < a)
cases a b = grind arith

-- names that differ, each among others, are no more than those
no_more : (names few : List (List ℕ)) → Each (λ n. Member n names) few → Differ few → length few ≤ length names
no_more names few m d = elim (cases (length few) (length names)) [ inl le ↦ le | inr lt ↦ (let (z, differs) = pigeon (λ a b. a ≢ b) names few m d lt in absurd (differs refl)) ]

-- rules of a well-formed grammar whose names differ make one
good_among : (roles : List (List ℕ)) (cons : List Con) (sorts : List Sort) (rules few : List Rule) → Each (λ r. Member r rules) few →
    Differ (map name few) → Good roles cons sorts rules → Good roles cons sorts few
good_among roles cons sorts rules few m d w =
    let con_names = map (λ (c : Con). c.name) cons in
    let sort_names = map (λ (s : Sort). s.name) sorts in
    let names = four_from (λ n. is_name n ≡ true) roles con_names sort_names (map name rules) w.names in
    let le = no_more (map name rules) (map name few) (members_map name rules few m) d in
    record {
      roles = refl;
      all_cons = w.all_cons;
      all_sorts = w.all_sorts;
      all_rules = rules_counted sorts few;
      few_roles = w.few_roles;
      few_cons = w.few_cons;
      few_sorts = w.few_sorts;
      few_rules = omega (arith, w.few_rules, le);
      names = four_to (λ n. is_name n ≡ true) roles con_names sort_names (map name few) names.roles_fit names.cons_fit names.sorts_fit
          (each_among (λ n. is_name n ≡ true) name rules few m names.rules_fit);
      roles_differ = w.roles_differ;
      cons_differ = w.cons_differ;
      sorts_differ = w.sorts_differ;
      rules_differ = d;
      arities = w.arities;
      sorts = w.sorts;
      rules = each_map (RuleFits (plain_grammar roles cons sorts rules)) (RuleFits (plain_grammar roles cons sorts few)) (map (rule_of sorts) few)
          (λ u h. other_rules roles cons sorts rules few u h) (each_among (RuleFits (plain_grammar roles cons sorts rules)) (rule_of sorts) rules few m w.rules);
    }

-- two rules with one name are one
one_named : (rules : List Rule) → Differ (map name rules) → (a b : Rule) → Member a rules → Member b rules → a.name ≡ b.name → a ≡ b
one_named [] d a b m n e = never m
one_named (r ∷ rs) d a b (inl x) (inl y) e = x ∙ sym y
one_named (r ∷ rs) d a b (inl x) (inr y) e = absurd (each_member (λ n. r.name ≢ n) (map name rs) b.name d.0 (member_map name b rs y) (ap name (sym x) ∙ e))
one_named (r ∷ rs) d a b (inr x) (inl y) e = absurd (each_member (λ n. r.name ≢ n) (map name rs) a.name d.0 (member_map name a rs x) (ap name (sym y) ∙ sym e))
one_named (r ∷ rs) d a b (inr x) (inr y) e = one_named rs d.1 a b x y e

later_both : {A : Type 0} (R : A → A → Type 0) (xs ys : List A) → Later R xs → Later R ys → Each (λ x. Each (R x) ys) xs → Later R (xs ++ ys)
later_both R [] ys a b cross = b
later_both R (x ∷ xs) ys a b cross = (each_append (R x) xs ys a.0 cross.0, later_both R xs ys a.1 b cross.1)

each_mapped : {A B : Type 0} (P : B → Type 0) (f : A → B) (xs : List A) → Each (λ x. P (f x)) xs → Each P (map f xs)
each_mapped P f [] each = tt
each_mapped P f (x ∷ xs) each = (each.0, each_mapped P f xs each.1)

filter_has : {A : Type 0} (P : A → Type 0) (p : A → Bool) (xs : List A) → ((x : A) → Member x xs → p x ≡ true → P x) → Each P (filter p xs)
filter_has P p [] f = tt
filter_has P p (x ∷ xs) f = kept (p x) refl (filter_has P p xs (λ y m e. f y (inr m) e))
  where
    kept : (b : Bool) → p x ≡ b → Each P (filter p xs) → Each P (cond b (x ∷ filter p xs) (filter p xs))
    kept true e rest = (f x (inl refl) e, rest)
    kept false e rest = rest

abbrev home : List Sort → Rule → ℕ
home sorts r = role_of (sorts_of sorts) r.sort

-- a rule of the grammar, at this role or a later one
abbrev From : List Sort → List Rule → ℕ → Rule → Type 0
From sorts rules k r = Member r rules × (k ≤ home sorts r)

-- the rules of the roles from one on, role by role
abbrev pub AreRulesFrom : List Sort → List Rule → ℕ → List (List Rule) → Type 0
AreRulesFrom sorts rules k [] = Unit {0}
AreRulesFrom sorts rules k (rs ∷ more) = (rs ≡ rules_at sorts k rules) × AreRulesFrom sorts rules (suc k) more

abbrev pub flat : List (List Rule) → List Rule
flat [] = []
flat (rs ∷ more) = rs ++ flat more

at_role : (sorts : List Sort) (rules : List Rule) (k : ℕ) → Each (λ r. Member r rules × (home sorts r ≡ k)) (rules_at sorts k rules)
at_role sorts rules k = filter_has (λ r. Member r rules × (home sorts r ≡ k)) (λ r. is_at (sorts_of sorts) k (rule_of sorts r)) rules (λ r m e. (m, eqb-true (home sorts r) k e))

from_role : (sorts : List Sort) (rules : List Rule) (k : ℕ) (all : List (List Rule)) → AreRulesFrom sorts rules k all → Each (From sorts rules k) (flat all)
from_role sorts rules k [] are = tt
from_role sorts rules k (rs ∷ more) (here, later) =
    each_append (From sorts rules k) rs (flat more)
    (subst (Each (From sorts rules k)) (sym here) (each_map (λ r. Member r rules × (home sorts r ≡ k)) (From sorts rules k) (rules_at sorts k rules)
    (λ r x. (x.0, omega (arith, x.1))) (at_role sorts rules k)))
    (each_map (From sorts rules (suc k)) (From sorts rules k) (flat more) (λ r x. (x.0, omega (arith, x.1))) (from_role sorts rules (suc k) more later))

differ_from : (sorts : List Sort) (rules : List Rule) (k : ℕ) (all : List (List Rule)) → Differ (map name rules) → AreRulesFrom sorts rules k all → Differ (map name (flat all))
differ_from sorts rules k [] d are = tt
differ_from sorts rules k (rs ∷ more) d (here, later) =
    subst Differ (sym (map-append name rs (flat more)))
    (later_both (λ a b. a ≢ b) (map name rs) (map name (flat more))
    (subst (λ (xs : List Rule). Differ (map name xs)) (sym here) (later_filter (λ a b. a ≢ b) name (λ r. is_at (sorts_of sorts) k (rule_of sorts r)) rules d))
    (differ_from sorts rules (suc k) more d later)
    (each_mapped (λ n. Each (λ m. n ≢ m) (map name (flat more))) name rs
    (subst (Each (λ a. Each (λ m. a.name ≢ m) (map name (flat more)))) (sym here)
    (each_map (λ r. Member r rules × (home sorts r ≡ k)) (λ a. Each (λ m. a.name ≢ m) (map name (flat more))) (rules_at sorts k rules)
    (λ a x. each_mapped (λ m. a.name ≢ m) name (flat more)
    (each_map (From sorts rules (suc k)) (λ b. a.name ≢ b.name) (flat more)
    (λ b y e. (let same : a ≡ b = one_named rules d a b x.0 y.0 e in let h : home sorts a ≡ home sorts b = ap (home sorts) same in
    omega (arith, x.1, y.1, h))) (from_role sorts rules (suc k) more later)))
    (at_role sorts rules k)))))

-- all rules, role by role, with the declarations of the grammar
pub good_by_role : (roles : List (List ℕ)) (cons : List Con) (sorts : List Sort) (rules : List Rule) (all : List (List Rule)) →
    AreRulesFrom sorts rules 0 all → Good roles cons sorts rules → Good roles cons sorts (flat all)
good_by_role roles cons sorts rules all are w =
    good_among roles cons sorts rules (flat all) (each_map (From sorts rules 0) (λ r. Member r rules) (flat all) (λ r x. x.0)
    (from_role sorts rules 0 all are)) (differ_from sorts rules 0 all w.rules_differ are) w

-- parts of one grammar are of the roles of their places
pub in_order : (g : Grammar) (role : ℕ) (ys : List RoleYes) → ArePartsOf g role ys → HaveRoles role ys
in_order g role [] are = tt
in_order g role (y ∷ ys) (is, are) = (is.role, in_order g (suc role) ys are)

-- the rules of each part
abbrev rule_lists : List RoleYes → List (List Rule)
rule_lists ys = map (λ (y : RoleYes). y.part.grammar.rules) ys

lists_flat : (ys : List RoleYes) → flat (rule_lists ys) ≡ all_rules ys
lists_flat [] = refl
lists_flat (y ∷ ys) = ap (λ rs. y.part.grammar.rules ++ rs) (lists_flat ys)

lists_from : (g : Grammar) (role : ℕ) (ys : List RoleYes) → ArePartsOf g role ys → AreRulesFrom g.sorts g.rules role (rule_lists ys)
lists_from g role [] are = tt
lists_from g role (y ∷ ys) (is, are) = (is.rules, lists_from g (suc role) ys are)

-- they fit together
pub would_fit : (g : Grammar) (ys : List RoleYes) → ArePartsOf g 0 ys → WouldFit ys
would_fit g [] are = tt
would_fit g (y ∷ ys) are = λ share.
    ∥∥₁_map g.well_formed (λ w.
    subst (λ xs. Good xs y.part.grammar.cons y.part.grammar.sorts (all_rules (y ∷ ys))) (sym are.0.roles)
    (subst (λ xs. Good g.roles xs y.part.grammar.sorts (all_rules (y ∷ ys))) (sym are.0.cons)
    (subst (λ xs. Good g.roles g.cons xs (all_rules (y ∷ ys))) (sym are.0.sorts)
    (subst (λ xs. Good g.roles g.cons g.sorts xs) (lists_flat (y ∷ ys)) (good_by_role g.roles g.cons g.sorts g.rules (rule_lists (y ∷ ys)) (lists_from g 0 (y ∷ ys) are) w)))))
