-- The test of grammars is exact.
use Rattle.std.proofs.Common.{◌≡◌, Bool, true, false, List, [], ◌∷◌, refl, ap, eq-eqb}
use Rattle.std.specs.Prelude.{◌&&◌, nat_eq}
use Rattle.std.proofs.lemmas.Bool.{eqb-true, and_parts, and_from}
use Rattle.aw_term.specs.Trees.{Leaf, Made, Trees, Nil, More, nats_eq, head_eq}
use Rattle.aw_term.specs.Rules.{Term, Child, Rule, Sort, Grammar}
use Rattle.aw_term.specs.SameGrammar.{all_eq, bool_eq, term_eq, terms_eq, child_eq, rule_eq, sort_eq, same_grammar}
use Rattle.aw_term.proofs.HeadTests.{nats_Decides, head_eq-true, head_eq-self}

pub all_are : {A : Type 0} (eq : A → A → Bool) → ((x y : A) → eq x y ≡ true → x ≡ y) → (xs ys : List A) → all_eq eq xs ys ≡ true → xs ≡ ys
all_are eq is [] [] e = refl
all_are eq is [] (y ∷ ys) e = absurd cc
all_are eq is (x ∷ xs) [] e = absurd cc
all_are eq is (x ∷ xs) (y ∷ ys) e =
    let (a, b) = and_parts (eq x y) (all_eq eq xs ys) e in
    let p = is x y a in
    let q = all_are eq is xs ys b in
    λ i. p i ∷ q i

pub all_self : {A : Type 0} (eq : A → A → Bool) → ((x : A) → eq x x ≡ true) → (xs : List A) → all_eq eq xs xs ≡ true
all_self eq self [] = refl
all_self eq self (x ∷ xs) = and_from (eq x x) (all_eq eq xs xs) (self x) (all_self eq self xs)

bool_is : (a b : Bool) → bool_eq a b ≡ true → a ≡ b
bool_is true true e = refl
bool_is true false e = absurd cc
bool_is false true e = absurd cc
bool_is false false e = refl

bool_self : (a : Bool) → bool_eq a a ≡ true
bool_self true = refl
bool_self false = refl

mutual
  term_is : (t u : Term) → term_eq t u ≡ true → t ≡ u
  term_is (Leaf x) (Leaf y) e = ap Leaf (eqb-true x y e)
  term_is (Leaf x) (Made k us) e = absurd cc
  term_is (Made h ts) (Leaf y) e = absurd cc
  term_is (Made h ts) (Made k us) e =
      let (a, b) = and_parts (head_eq h k) (terms_eq ts us) e in
      let p = head_eq-true h k a in
      let q = terms_are ts us b in
      λ i. Made (p i) (q i)

  terms_are : (ts us : Trees _) → terms_eq ts us ≡ true → ts ≡ us
  terms_are Nil Nil e = refl
  terms_are Nil (More u us) e = absurd cc
  terms_are (More t ts) Nil e = absurd cc
  terms_are (More t ts) (More u us) e =
      let (a, b) = and_parts (term_eq t u) (terms_eq ts us) e in
      let p = term_is t u a in
      let q = terms_are ts us b in
      λ i. More (p i) (q i)

mutual
  term_self : (t : Term) → term_eq t t ≡ true
  term_self (Leaf x) = eq-eqb x x refl
  term_self (Made h ts) = and_from (head_eq h h) (terms_eq ts ts) (head_eq-self h) (terms_self ts)

  terms_self : (ts : Trees _) → terms_eq ts ts ≡ true
  terms_self Nil = refl
  terms_self (More t ts) = and_from (term_eq t t) (terms_eq ts ts) (term_self t) (terms_self ts)

child_is : (a b : Child) → child_eq a b ≡ true → a ≡ b
child_is a b e =
    let (s, f) = and_parts _ _ e in
    let (t, o) = and_parts _ _ f in
    let p = eqb-true a.sort b.sort s in
    let q = all_are term_eq term_is a.args b.args t in
    let r = eqb-true a.outs b.outs o in
    λ i. record { sort = p i; args = q i; outs = r i }

child_self : (a : Child) → child_eq a a ≡ true
child_self a =
    and_from (nat_eq a.sort a.sort) (all_eq term_eq a.args a.args && nat_eq a.outs a.outs) (eq-eqb a.sort a.sort refl)
    (and_from (all_eq term_eq a.args a.args) (nat_eq a.outs a.outs) (all_self term_eq term_self a.args) (eq-eqb a.outs a.outs refl))

pub rule_is : (a b : Rule) → rule_eq a b ≡ true → a ≡ b
rule_is a b e =
    let (s, f) = and_parts _ _ e in
    let (t, g) = and_parts _ _ f in
    let (u, h) = and_parts _ _ g in
    let (v, w) = and_parts _ _ h in
    let p = eqb-true a.sort b.sort s in
    let q = all_are term_eq term_is a.patterns b.patterns t in
    let r = eqb-true a.params b.params u in
    let x = all_are term_eq term_is a.results b.results v in
    let y = all_are child_eq child_is a.children b.children w in
    λ i. record { sort = p i; patterns = q i; params = r i; results = x i; children = y i }

pub rule_self : (a : Rule) → rule_eq a a ≡ true
rule_self a =
    and_from (nat_eq a.sort a.sort) _ (eq-eqb a.sort a.sort refl)
    (and_from (all_eq term_eq a.patterns a.patterns) _ (all_self term_eq term_self a.patterns)
    (and_from (nat_eq a.params a.params) _ (eq-eqb a.params a.params refl)
    (and_from (all_eq term_eq a.results a.results) _ (all_self term_eq term_self a.results) (all_self child_eq child_self a.children))))

sort_is : (a b : Sort) → sort_eq a b ≡ true → a ≡ b
sort_is a b e =
    let (r, f) = and_parts _ _ e in
    let (t, g) = and_parts _ _ f in
    let (v, s) = and_parts _ _ g in
    let p = eqb-true a.role b.role r in
    let q = eqb-true a.takes b.takes t in
    let x = eqb-true a.gives b.gives v in
    let y = bool_is a.start b.start s in
    λ i. record { role = p i; takes = q i; gives = x i; start = y i }

sort_self : (a : Sort) → sort_eq a a ≡ true
sort_self a =
    and_from (nat_eq a.role a.role) _ (eq-eqb a.role a.role refl)
    (and_from (nat_eq a.takes a.takes) _ (eq-eqb a.takes a.takes refl) (and_from (nat_eq a.gives a.gives) _ (eq-eqb a.gives a.gives refl) (bool_self a.start)))

pub grammars_are_one : (a b : Grammar) → same_grammar a b ≡ true → a ≡ b
unfolding same_grammar
grammars_are_one a b e =
    let (r, f) = and_parts _ _ e in
    let (n, g) = and_parts _ _ f in
    let (s, u) = and_parts _ _ g in
    let p = eqb-true a.roles b.roles r in
    let q = (nats_Decides a.arities b.arities).0 n in
    let x = all_are sort_eq sort_is a.sorts b.sorts s in
    let y = all_are rule_eq rule_is a.rules b.rules u in
    λ i. record { roles = p i; arities = q i; sorts = x i; rules = y i }

pub grammar_is_itself : (a : Grammar) → same_grammar a a ≡ true
unfolding same_grammar
grammar_is_itself a =
    and_from (nat_eq a.roles a.roles) _ (eq-eqb a.roles a.roles refl)
    (and_from (nats_eq a.arities a.arities) _ ((nats_Decides a.arities a.arities).1 refl)
    (and_from (all_eq sort_eq a.sorts a.sorts) _ (all_self sort_eq sort_self a.sorts) (all_self rule_eq rule_self a.rules)))
