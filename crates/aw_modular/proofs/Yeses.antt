-- What is known to a role, and that it says yes.
use Rattle.std.proofs.Common.{◌≡◌, ℕ, zero, suc, Bool, true, false, cond, List, [], ◌∷◌, Option, None, Result, Ok, Err, IfOk, refl, sym, ap, ◌∙◌, subst, inl, inr, eq-eqb}
use Rattle.std.specs.Prelude.{◌⊎◌, ◌↔◌, nat_eq, filter}
use Rattle.std.proofs.Math.Logic.{∥∥₁_elim}
use native.Mathlib.Nat.{ℕ_set}
use Rattle.std.proofs.lemmas.Bool.{eqb-true, eqb-false}
use Rattle.aw_list.specs.Members.{Member}
use Rattle.aw_list.proofs.Members.{never, member_map}
use Rattle.aw_base.specs.declared.declared.Triple.{Triple}
use Rattle.aw_term.specs.Trees.{Never}
use Rattle.aw_term.specs.Rules.{Grammar, role_of, some_rules}
use Rattle.aw_grammar.specs.declared.grammar.Grammar.{Grammar as GrammarValue}
use Rattle.aw_grammar.specs.GrammarView.{rule_of, sorts_of, plain_grammar}
use Rattle.aw_grammar.specs.GrammarOf.{grammar_of}
use Rattle.aw_grammar.specs.SomeRules.{is_at, rules_at}
use Rattle.aw_iograph.specs.Dependence.{Follows, HasNoCircle}
use Rattle.aw_iograph.proofs.Relations.{follows_least, follows_closed, follows_held}
use Rattle.aw_iograph.specs.declared.io.Io.{Io}
use Rattle.aw_iograph.specs.Pairs.{Has}
use Rattle.aw_accept.specs.declared.refused.Fault.{Fault}
use Rattle.aw_accept.specs.Circular.{LeastFaultOver}
use Rattle.aw_accept.proofs.Faults.{fault_same}
use Rattle.aw_face.specs.Faces.{face_fault}
use Rattle.aw_modular.specs.Roles.{Declares, IsOf, RoleRelation, HasOwnRules, DeclaredElsewhere, Known, Part, SaysYes}
use Rattle.aw_modular.specs.declared.part.Part.{Part as PartValue}
use Rattle.aw_face.specs.declared.faces.Faces.{Faces}
use Rattle.aw_modular.specs.PartViews.{IsCopy, part_of}
use Rattle.aw_modular.specs.Exceeding.{IsLoose}
use Rattle.aw_modular.specs.Refusals.{IsExcess, LeastPair}
use Rattle.aw_modular.proofs.RoleRelations.{mixed-follows, follows-mixed}

own_prop : (role : ℕ) (g : Grammar) → IsProp (HasOwnRules role g)
own_prop role g = λ a b i r m. ℕ_set _ _ (a r m) (b r m) i

pub own_rules : (role : ℕ) (g : Grammar) → ∥ HasOwnRules role g ∥₁ → HasOwnRules role g
own_rules role g own = ∥∥₁_elim own (own_prop role g) (λ x. x)

-- what follows from a relation follows from an equal one
pub follows_same : (g : Grammar) (seed seed' : ℕ → ℕ → ℕ → Type 0) → ((s i j : ℕ) → seed s i j → seed' s i j) → (s i j : ℕ) → Follows g seed s i j → Follows g seed' s i j
follows_same g seed seed' there = follows_least g seed (Follows g seed') (follows_closed g seed') (λ s i j x. follows_held g seed' s i j (there s i j x))

-- what follows from what is declared elsewhere is what is known
pub known_follows : (g : Grammar) (role : ℕ) (declared : List Triple) (seed has : ℕ → ℕ → ℕ → Type 0) → HasOwnRules role g →
    ((s i j : ℕ) → seed s i j ↔ DeclaredElsewhere g role (Declares declared) s i j)
    → ((s i j : ℕ) → has s i j ↔ Follows g seed s i j) → (s i j : ℕ) → has s i j ↔ Known g role declared s i j
known_follows g role declared seed has own seeds made s i j = (
  (λ x. follows-mixed g role (Declares declared) own s i j (follows_same g seed (DeclaredElsewhere g role (Declares declared)) (λ s i j y. (seeds s i j).0 y) s i j ((made s i j).0 x))),
  (λ x. (made s i j).1 (follows_same g (DeclaredElsewhere g role (Declares declared)) seed (λ s i j y. (seeds s i j).1 y) s i j (mixed-follows g role (Declares declared) own s i j x))),
)

-- each pair that a role finds is of a sort of its own
pub found_own : (g : Grammar) (role : ℕ) (declared : ℕ → ℕ → ℕ → Type 0) (s i j : ℕ) → RoleRelation g role declared s i j → IsOf g role s
found_own g role declared s i j (zero, x) = never x
found_own g role declared s i j (suc h, (a, x)) = a

pub found_of_known : (g : Grammar) (role : ℕ) (declared : List Triple) (s i j : ℕ) → IsOf g role s → Known g role declared s i j → RoleRelation g role (Declares declared) s i j
found_of_known g role declared s i j own (inl x) = x.1
found_of_known g role declared s i j own (inr x) = never (x.0 own)

-- each pair is declared, or it is not
same_triple : (s i j : ℕ) (t : Triple) → (t ≡ record { sort = s; i = i; j = j }) ⊎ (t ≡ record { sort = s; i = i; j = j } → Never)
same_triple s i j t = at (nat_eq t.sort s) (nat_eq t.i i) (nat_eq t.j j) refl refl refl
  where
    at : (a b c : Bool) → nat_eq t.sort s ≡ a → nat_eq t.i i ≡ b → nat_eq t.j j ≡ c → (t ≡ record { sort = s; i = i; j = j }) ⊎ (t ≡ record { sort = s; i = i; j = j } → Never)
    at false b c x y z = inr (λ e. absurd (eqb-false t.sort s x (ap (λ (u : Triple). u.sort) e)))
    at true false c x y z = inr (λ e. absurd (eqb-false t.i i y (ap (λ (u : Triple). u.i) e)))
    at true true false x y z = inr (λ e. absurd (eqb-false t.j j z (ap (λ (u : Triple). u.j) e)))
    at true true true x y z = inl (λ k. record { sort = eqb-true t.sort s x k; i = eqb-true t.i i y k; j = eqb-true t.j j z k })

pub declares_or_not : (ts : List Triple) (s i j : ℕ) → Declares ts s i j ⊎ (Declares ts s i j → Never)
declares_or_not [] s i j = inr (λ m. m)
declares_or_not (t ∷ ts) s i j =
    elim (same_triple s i j t) [
      | inl same ↦ inl (inl (sym same))
      | inr differs ↦
          elim (declares_or_not ts s i j) [
            | inl m ↦ inl (inr m)
            | inr none ↦ inr (λ x. elim x [ inl e ↦ differs (sym e) | inr m ↦ none m ])
          ]
    ]

-- a role without a circle and without an excess says yes
pub says_yes : (offers : List ℕ) (declared : List Triple) (role : ℕ) (p : Part) → ∥ HasOwnRules role p.grammar ∥₁ → face_fault p.grammar offers
    p.uses ≡ None → HasNoCircle p.grammar (Known p.grammar role declared)
    → LeastPair (IsExcess offers declared role p.grammar) None → SaysYes offers declared role p
says_yes offers declared role p own faces free none =
    record {
      own = own_rules role p.grammar own;
      faces = faces;
      no_circle = free;
      declares = λ s i j off x. elim (declares_or_not declared s i j) [ inl m ↦ m | inr without ↦ never (none (record { sort = s; i = i; j = j }) (off, x, without)) ];
    }

filter_cases : {A : Type 0} (b : Bool) (x : A) (xs ys : List A) → b ≡ true → ys ≡ xs → cond b (x ∷ ys) ys ≡ x ∷ xs
filter_cases true x xs ys e same = ap (λ zs. x ∷ zs) same
filter_cases false x xs ys e same = absurd cc

member_cases : {A : Type 0} (p : A → Bool) (b : Bool) (y x : A) (ys : List A) → p y ≡ b → (Member x ys → p x ≡ true) → Member x (cond b (y ∷ ys) ys) → p x ≡ true
member_cases p true y x ys e later (inl same) = ap p same ∙ e
member_cases p true y x ys e later (inr n) = later n
member_cases p false y x ys e later n = later n

filter_member : {A : Type 0} (p : A → Bool) (xs : List A) (x : A) → Member x (filter p xs) → p x ≡ true
filter_member p [] x m = never m
filter_member p (y ∷ ys) x m = member_cases p (p y) y x (filter p ys) refl (filter_member p ys x) m

-- a test that holds of all leaves none out
pub filter_all : {A : Type 0} (p : A → Bool) (xs : List A) → ((x : A) → Member x xs → p x ≡ true) → filter p xs ≡ xs
filter_all p [] all = refl
filter_all p (x ∷ xs) all = filter_cases (p x) x xs (filter p xs) (all x (inl refl)) (filter_all p xs (λ y m. all y (inr m)))

-- the rules of one role are of its sorts
pub own_of_part : (role : ℕ) (g h : Grammar) → h ≡ some_rules (is_at g.sorts role) g → HasOwnRules role h
own_of_part role g h is = subst (HasOwnRules role) (sym is) (λ r m. eqb-true (role_of g.sorts r.sort) role (filter_member (is_at g.sorts role) g.rules r m))

-- where all rules are, those of the role are all
pub rules_of_own : (role : ℕ) (g : GrammarValue) → HasOwnRules role (grammar_of g) → rules_at g.sorts role g.rules ≡ g.rules
rules_of_own role g own = filter_all (λ r. is_at (sorts_of g.sorts) role (rule_of g.sorts r)) g.rules
    (λ r m. eq-eqb (role_of (sorts_of g.sorts) r.sort) role (own (rule_of g.sorts r) (member_map (rule_of g.sorts) r g.rules m)))

-- what follows within a result
pub known_if_ok : {E : Type 0} (g : Grammar) (role : ℕ) (declared : List Triple) (seed : Io) (r : Result Io E) → ∥ HasOwnRules role g ∥₁ →
    ((s i j : ℕ) → Has seed s i j ↔ DeclaredElsewhere g role (Declares declared) s i j)
    → IfOk r (λ io. (s i j : ℕ) → Has io s i j ↔ Follows g (Has seed) s i j) → IfOk r (λ io. (s i j : ℕ) → Has io s i j ↔ Known g role declared s i j)
known_if_ok g role declared seed (Ok io) own seeds made = known_follows g role declared (Has seed) (Has io) (own_rules role g own) seeds made
known_if_ok g role declared seed (Err e) own seeds made = tt

pub fault_if_ok : {E : Type 0} (g : Grammar) (rel rel' : ℕ → ℕ → ℕ → Type 0) (r : Result (Option Fault) E) → ((s i j : ℕ) → rel s i j ↔ rel' s i j) →
    IfOk r (λ found. LeastFaultOver g rel found) → IfOk r (λ found. LeastFaultOver g rel' found)
fault_if_ok g rel rel' (Ok found) same least = fault_same g rel rel' found same least
fault_if_ok g rel rel' (Err e) same least = tt

-- a loose pair is an excess, and an excess is loose
pub loose_is_excess : (p : PartValue) (declared : List Triple) (all found : Io) → ((s i j : ℕ) → Has all s i j ↔ Declares declared s i j)
    → ((s i j : ℕ) → Has found s i j ↔ Known (grammar_of p.grammar) p.role declared s i j) → (t : Triple) → IsLoose p all found t → IsExcess p.faces.offers declared p.role (grammar_of p.grammar) t
loose_is_excess p declared all found alls known t (has, not, own, off) =
    (off, found_of_known (grammar_of p.grammar) p.role declared t.sort t.i t.j own ((known t.sort t.i t.j).0 has), λ m. not ((alls t.sort t.i t.j).1 m))

pub excess_is_loose : (p : PartValue) (declared : List Triple) (all found : Io) → ((s i j : ℕ) → Has all s i j ↔ Declares declared s i j)
    → ((s i j : ℕ) → Has found s i j ↔ Known (grammar_of p.grammar) p.role declared s i j) → (t : Triple) → IsExcess p.faces.offers declared p.role (grammar_of p.grammar) t → IsLoose p all found t
excess_is_loose p declared all found alls known t (off, x, without) =
    let own = found_own (grammar_of p.grammar) p.role (Declares declared) t.sort t.i t.j x in
    ((known t.sort t.i t.j).1 (inl (own, x)), (λ has. without ((alls t.sort t.i t.j).0 has)), own, off)

-- a copy says yes
pub says_copy : (p copy : PartValue) (declared again : List Triple) → IsCopy p copy → again ≡ declared → SaysYes p.faces.offers declared p.role
    (part_of p) → SaysYes copy.faces.offers again copy.role (part_of copy)
says_copy p copy declared again is same says =
    let q : part_of copy ≡ part_of p = λ k. record { grammar = plain_grammar (is.roles k) (is.cons k) (is.sorts k) (is.rules k); uses = (is.faces k).uses } in
    subst (λ (os : List ℕ). SaysYes os again copy.role (part_of copy)) (sym (ap (λ (f : Faces). f.offers) is.faces))
    (subst (λ ts. SaysYes p.faces.offers ts copy.role (part_of copy)) (sym same)
    (subst (λ r. SaysYes p.faces.offers declared r (part_of copy)) (sym is.role) (subst (SaysYes p.faces.offers declared p.role) (sym q) says)))
