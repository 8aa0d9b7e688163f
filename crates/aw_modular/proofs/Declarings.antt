-- What is declared, one triple after the other, and that it is within a grammar's sorts.
use Rattle.std.proofs.Common.{◌≡◌, ℕ, suc, ◌+◌, ◌<◌, ◌≤◌, List, [], ◌∷◌, zero, length, Some, slice_get, refl, sym, ap, ◌∙◌, subst, inl, inr, arith}
use Rattle.std.specs.Prelude.{◌⊎◌, ◌↔◌, slice_index_or}
use Rattle.std.specs.Coded.{le_prop}
use Rattle.std.proofs.Math.Logic.{∥∥₁_elim}
use Rattle.std.proofs.lemmas.List.{length-map}
use Rattle.std.proofs.lemmas.Option.{slice_get_within}
use Rattle.aw_list.proofs.Members.{below_or_at, member_got, member_place}
use Rattle.aw_base.specs.declared.declared.Triple.{Triple}
use Rattle.aw_term.specs.Choices.{gives_of}
use Rattle.aw_term.specs.WellFormed.{Each, takes_of}
use Rattle.aw_term.specs.Limits.{most_inherited, most_results}
use Rattle.aw_grammar.specs.declared.grammar.Grammar.{Grammar}
use Rattle.aw_grammar.specs.GrammarView.{sort_of}
use Rattle.aw_grammar.specs.GrammarOf.{grammar_of}
use Rattle.aw_iograph.specs.declared.io.Io.{Io}
use Rattle.aw_iograph.specs.Pairs.{Has, HasSort, IsFor, IsNumber}
use Rattle.aw_iograph.proofs.FewOf.{takes_few, gives_few}
use Rattle.aw_modular.specs.Roles.{Declares}
use Rattle.aw_modular.specs.Declaring.{DeclaresBefore, AddsOne, IsAny}
use Rattle.aw_modular.specs.Refusals.{IsPosition}

-- relations that were made for a grammar have each of its sorts
pub has_sort : (g : Grammar) (io : Io) (t : Triple) → IsFor g io → IsPosition (grammar_of g).sorts t → HasSort io t.sort
has_sort g io t made at = let below : t.sort < length g.sorts = subst (λ n. t.sort < n) (length-map g.sorts sort_of) at.sort in omega (arith, made, below)

-- numbers of values of a sort are at most 8
pub number_inherited : (g : Grammar) (t : Triple) → IsPosition (grammar_of g).sorts t → IsNumber t.i
number_inherited g t at = record {
  counted = at.inherited;
  few = let le : takes_of (slice_get (grammar_of g).sorts t.sort) ≤ most_inherited = ∥∥₁_elim g.well_formed le_prop
      (λ w. takes_few (grammar_of g).roles (grammar_of g).sorts w.sorts t.sort) in omega (arith, at.takes, le);
}

pub number_result : (g : Grammar) (t : Triple) → IsPosition (grammar_of g).sorts t → IsNumber t.j
number_result g t at = record {
  counted = at.result;
  few = let le : gives_of (slice_get (grammar_of g).sorts t.sort) ≤ most_results = ∥∥₁_elim g.well_formed le_prop
      (λ w. gives_few (grammar_of g).roles (grammar_of g).sorts w.sorts t.sort) in omega (arith, at.gives, le);
}

-- all of them declare what the list declares
pub all_before : (ts : List Triple) (n : ℕ) → length ts ≤ n → (s i j : ℕ) → Declares ts s i j → DeclaresBefore ts n s i j
all_before ts n le s i j m = let (k, lt, e) = member_place ts _ m in (k, omega (arith, lt, le), e)

pub before_all : (ts : List Triple) (n : ℕ) (s i j : ℕ) → DeclaresBefore ts n s i j → Declares ts s i j
before_all ts n s i j (k, lt, e) = member_got ts k _ e

last_before : (ts : List Triple) (n : ℕ) (t : Triple) → slice_get ts n ≡ Some t → (s i j : ℕ) → DeclaresBefore ts (n + 1) s i j → DeclaresBefore ts n s i j ⊎ (t ≡ record { sort = s; i = i; j = j })
last_before ts n t at s i j (k, lt, e) =
    elim (below_or_at k n lt) [
      | inl less ↦ inl (k, less, e)
      | inr same ↦
          (let here : slice_get ts n ≡ Some (record { sort = s; i = i; j = j }) = subst (λ m. slice_get ts m ≡ Some (record { sort = s; i = i; j = j })) same e in
          inr (cc (sym at ∙ here)))
    ]

-- of the sorts with Q, one declared triple more
pub declares_more : (Q : ℕ → Type 0) (ts : List Triple) (n : ℕ) (t : Triple) (old new : Io) → slice_get ts n ≡ Some t →
    ((s i j : ℕ) → Has old s i j ↔ (Q s × DeclaresBefore ts n s i j)) → AddsOne old new Q t
    → (s i j : ℕ) → Has new s i j ↔ (Q s × DeclaresBefore ts (n + 1) s i j)
declares_more Q ts n t old new at so adds s i j = (
  (λ has. elim ((adds s i j).0 has) [
    | inl was ↦ (let (p, (k, lt, e)) = (so s i j).0 was in (p, (k, omega (arith, lt), e)))
    | inr now ↦ (now.0, (n, omega arith, at ∙ ap Some now.1))
  ]),
  (λ (p, before). elim (last_before ts n t at s i j before) [
    | inl less ↦ (adds s i j).1 (inl ((so s i j).1 (p, less)))
    | inr same ↦ (adds s i j).1 (inr (p, same))
  ]),
)

-- one pair was added
pub adds_pair : (Q : ℕ → Type 0) (t : Triple) (old new : Io) → Q t.sort → Has new t.sort t.i t.j → ((s i j : ℕ) → Has old s i j → Has new s i j)
    → ((s i j : ℕ) → Has new s i j → Has old s i j ⊎ ((s ≡ t.sort) × (i ≡ t.i) × (j ≡ t.j))) → AddsOne old new Q t
adds_pair Q t old new q there kept only s i j = (
  (λ has. elim (only s i j has) [ inl was ↦ inl was | inr (a, b, c) ↦ inr (subst Q (sym a) q, (λ k. record { sort = sym a k; i = sym b k; j = sym c k })) ]),
  (λ x. elim x [ inl was ↦ kept s i j was | inr now ↦ subst (λ (u : Triple). Has new u.sort u.i u.j) now.1 there ]),
)

-- the item at a place within a list
pub item_got : (xs ts : List Triple) (i : ℕ) (d : Triple) → xs ≡ ts → i < length xs → slice_get ts i ≡ Some (slice_index_or xs i d)
item_got xs ts i d same lt = subst (λ (zs : List Triple). slice_get zs i ≡ Some (slice_index_or xs i d)) same (got xs i lt)
  where
    got : (ys : List Triple) (k : ℕ) → k < length ys → slice_get ys k ≡ Some (slice_index_or ys k d)
    got [] k l = absurd (omega (arith, l))
    got (y ∷ ys) zero l = refl
    got (y ∷ ys) (suc k) l = got ys k (omega (arith, l))

pub declares_all : (Q : ℕ → Type 0) (ts : List Triple) (n : ℕ) (io : Io) → length ts ≤ n →
    ((s i j : ℕ) → Has io s i j ↔ (Q s × DeclaresBefore ts n s i j)) → (s i j : ℕ) → Has io s i j ↔ (Q s × Declares ts s i j)
declares_all Q ts n io le so s i j = (
  (λ has. let x = (so s i j).0 has in (x.0, before_all ts n s i j x.1)),
  (λ x. (so s i j).1 (x.0, all_before ts n le s i j x.1)),
)

-- a pair that was added is one of a sort with Q, where its sort has Q
pub adds_any : (Q : ℕ → Type 0) (t : Triple) (old new : Io) → Q t.sort → AddsOne old new IsAny t → AddsOne old new Q t
adds_any Q t old new q adds s i j = (
  (λ has. elim ((adds s i j).0 has) [ inl was ↦ inl was | inr now ↦ inr (subst Q (ap (λ (u : Triple). u.sort) now.1) q, now.1) ]),
  (λ x. elim x [ inl was ↦ (adds s i j).1 (inl was) | inr now ↦ (adds s i j).1 (inr (tt, now.1)) ]),
)

-- what holds of each item before a place and of the one there
pub positions_more : (P : Triple → Type 0) (ts : List Triple) (n : ℕ) (t : Triple) → slice_get ts n ≡ Some t →
    ((k : ℕ) → k < n → (u : Triple) → slice_get ts k ≡ Some u → P u) → P t → (k : ℕ) → k < n + 1 → (u : Triple) → slice_get ts k ≡ Some u → P u
positions_more P ts n t at before p k lt u got =
    elim (below_or_at k n lt) [
      | inl less ↦ before k less u got
      | inr same ↦ (let here : slice_get ts n ≡ Some u = subst (λ m. slice_get ts m ≡ Some u) same got in let one : t ≡ u = cc (sym at ∙ here) in subst P one p)
    ]

-- and so of each
each_place : (P : Triple → Type 0) (ts : List Triple) → ((k : ℕ) (u : Triple) → slice_get ts k ≡ Some u → P u) → Each P ts
each_place P [] all = tt
each_place P (t ∷ ts) all = (all 0 t refl, each_place P ts (λ k u got. all (suc k) u got))

pub each_got : (P : Triple → Type 0) (ts : List Triple) (n : ℕ) → length ts ≤ n → ((k : ℕ) → k < n → (u : Triple) → slice_get ts k ≡ Some u → P u) → Each P ts
each_got P ts n le all = each_place P ts (λ k u got. all k (omega (arith, le, slice_get_within ts k u got)) u got)

pub all_read : (xs ts : List Triple) (n : ℕ) → xs ≡ ts → length xs ≤ n → length ts ≤ n
all_read xs ts n same le = subst (λ (zs : List Triple). length zs ≤ n) same le
