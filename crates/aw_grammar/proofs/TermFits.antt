-- A written term without fault stands for a term that fits.
use Rattle.std.proofs.Common.{◌≡◌, ℕ, zero, suc, ◌+◌, ◌<◌, ◌≤◌, max, true, ◌&&◌, List, [], ◌∷◌, ◌++◌, length, map, Option, Some, None, option_and_then, slice_get, refl, sym, ap, ◌∙◌, subst, arith}
use Rattle.std.proofs.lemmas.Bool.{and_from, and_parts}
use Rattle.std.proofs.lemmas.List.{map-append}
use Rattle.aw_spelling.specs.Spelling.{is_content}
use Rattle.aw_name_index.specs.Places.{place_of, or_else, number_of, stands}
use Rattle.aw_name_index.proofs.Lookups.{some_place, place_within}
use Rattle.aw_term.specs.Trees.{Head, Con, Num, Text, Tree, Leaf, Made, Trees, Nil, More, bind, binds, count}
use Rattle.aw_term.specs.WellFormed.{Each, leaves, all_leaves, leaves_of, symbols, all_symbols, symbols_of, nesting, all_nesting, head_fits, heads_fit, all_heads_fit, TermFits}
use Rattle.aw_grammar.specs.declared.rule.Con as decl
use Rattle.aw_grammar.specs.Written.{Written, Word, Apply, Literal, Writtens, Empty, Then}
use Rattle.aw_grammar.specs.Terms.{symbols_in, symbols_in_parts, symbols_in_all, depth_of, depth_of_parts, depth_of_all, is_literal, has_contents, parts_have_contents, all_have_contents}
use Rattle.aw_grammar.specs.Resolved.{word_tree, resolved, resolved_parts, all_resolved, numbered}
use Rattle.aw_grammar.specs.Kinds.{is_known, parts_are_known, all_known, has_arity, con_called, count_parts, has_arities, parts_have_arities, all_have_arities}

abbrev numbered_parts : List (List ℕ) → List (List ℕ) → Writtens → Trees ℕ
numbered_parts cons variables ts = binds (λ x. Leaf (number_of x variables)) (resolved_parts cons ts)

-- sizes

symbols_word : (f : List ℕ → ℕ) (x : List ℕ) (o : Option ℕ) → symbols (bind (λ y. Leaf (f y)) (word_tree x o)) ≡ 1
symbols_word f x None = refl
symbols_word f x (Some c) = refl

mutual
  pub numbered_symbols : (cons variables : List (List ℕ)) (t : Written) → symbols (numbered cons variables t) ≡ symbols_in t
  numbered_symbols cons variables (Word x) = symbols_word (λ y. number_of y variables) x (place_of x cons)
  numbered_symbols cons variables (Apply x ts) = ap (λ n. suc n) (parts_symbols cons variables ts)
  numbered_symbols cons variables (Literal h) = refl

  parts_symbols : (cons variables : List (List ℕ)) (ts : Writtens) → all_symbols (numbered_parts cons variables ts) ≡ symbols_in_parts ts
  parts_symbols cons variables Empty = refl
  parts_symbols cons variables (Then t ts) = λ i. numbered_symbols cons variables t i + parts_symbols cons variables ts i

pub all_numbered_symbols : (cons variables : List (List ℕ)) (ts : List Written) → symbols_of (map (numbered cons variables) ts) ≡ symbols_in_all ts
all_numbered_symbols cons variables [] = refl
all_numbered_symbols cons variables (t ∷ ts) = λ i. numbered_symbols cons variables t i + all_numbered_symbols cons variables ts i

nesting_word : (f : List ℕ → ℕ) (x : List ℕ) (o : Option ℕ) → nesting (bind (λ y. Leaf (f y)) (word_tree x o)) ≡ 1
nesting_word f x None = refl
nesting_word f x (Some c) = refl

mutual
  numbered_nesting : (cons variables : List (List ℕ)) (t : Written) → nesting (numbered cons variables t) ≡ depth_of t
  numbered_nesting cons variables (Word x) = nesting_word (λ y. number_of y variables) x (place_of x cons)
  numbered_nesting cons variables (Apply x ts) = ap (λ n. suc n) (parts_nesting cons variables ts)
  numbered_nesting cons variables (Literal h) = refl

  parts_nesting : (cons variables : List (List ℕ)) (ts : Writtens) → all_nesting (numbered_parts cons variables ts) ≡ depth_of_parts ts
  parts_nesting cons variables Empty = refl
  parts_nesting cons variables (Then t ts) = λ i. max (numbered_nesting cons variables t i) (parts_nesting cons variables ts i)

parts_count : (cons variables : List (List ℕ)) (ts : Writtens) → count (numbered_parts cons variables ts) ≡ count_parts ts
parts_count cons variables Empty = refl
parts_count cons variables (Then t ts) = ap (λ n. suc n) (parts_count cons variables ts)

-- leaves

mutual
  leaves_bound : {A B : Type 0} (f : A → B) (t : Tree A) → leaves (bind (λ x. Leaf (f x)) t) ≡ map f (leaves t)
  leaves_bound f (Leaf x) = refl
  leaves_bound f (Made h ts) = all_leaves_bound f ts

  all_leaves_bound : {A B : Type 0} (f : A → B) (ts : Trees A) → all_leaves (binds (λ x. Leaf (f x)) ts) ≡ map f (all_leaves ts)
  all_leaves_bound f Nil = refl
  all_leaves_bound f (More t ts) = (λ i. leaves_bound f t i ++ all_leaves_bound f ts i) ∙ sym (map-append f (leaves t) (all_leaves ts))

pub numbered_leaves : (cons variables : List (List ℕ)) (ts : List Written) → leaves_of (map (numbered cons variables) ts) ≡ map (λ x. number_of x variables) (leaves_of (all_resolved cons ts))
numbered_leaves cons variables [] = refl
numbered_leaves cons variables (t ∷ ts) =
    (λ i. leaves_bound (λ x. number_of x variables) (resolved cons t) i ++ numbered_leaves cons variables ts i)
    ∙ sym (map-append (λ x. number_of x variables) (leaves (resolved cons t)) (leaves_of (all_resolved cons ts)))

-- heads

con_fits : (cons : List decl.Con) (c n : ℕ) → c < length cons → has_arity n (slice_get cons c) ≡ true → head_fits (map (λ (k : decl.Con). k.arity) cons) (Con c) n ≡ true
con_fits [] c n less h = absurd (omega arith)
con_fits (k ∷ cons) zero n less h = h
con_fits (k ∷ cons) (suc c) n less h = con_fits cons c n (omega arith) h

length_names : (cons : List decl.Con) → length (map (λ (k : decl.Con). k.name) cons) ≡ length cons
length_names [] = refl
length_names (k ∷ cons) = ap (λ n. suc n) (length_names cons)

-- a name at its place has the arity that is declared there
name_fits : (cons : List decl.Con) (x : List ℕ) (n c : ℕ) → place_of x (map (λ (k : decl.Con). k.name) cons) ≡ Some c →
    has_arity n (con_called x cons) ≡ true → head_fits (map (λ (k : decl.Con). k.arity) cons) (Con c) n ≡ true
name_fits cons x n c placed h =
    con_fits cons c n (subst (λ m. c < m) (length_names cons) (place_within x (map (λ (k : decl.Con). k.name) cons) c placed))
    (ap (λ o. has_arity n (option_and_then (λ i. slice_get cons i) o)) (sym placed) ∙ h)

word_fits : (cons : List decl.Con) (f : List ℕ → ℕ) (x : List ℕ) (o : Option ℕ) → place_of x (map (λ (k : decl.Con). k.name) cons) ≡ o →
    has_arity 0 (con_called x cons) ≡ true → heads_fit (map (λ (k : decl.Con). k.arity) cons) (bind (λ y. Leaf (f y)) (word_tree x o)) ≡ true
word_fits cons f x None placed h = refl
word_fits cons f x (Some c) placed h = and_from _ true (name_fits cons x 0 c placed h) refl

literal_fits : (arities : List ℕ) (h : Head) → is_literal h ≡ true → (head_fits arities h 0 && true) ≡ true
literal_fits arities (Con c) e = cc
literal_fits arities (Num n) e = refl
literal_fits arities (Text t) e = and_from (is_content t) true e refl

mutual
  numbered_heads : (cons : List decl.Con) (variables : List (List ℕ)) (t : Written) → is_known (map (λ (k : decl.Con). k.name) cons) t ≡ true →
      has_arities cons t ≡ true → has_contents t ≡ true → heads_fit (map (λ (k : decl.Con). k.arity) cons)
      (numbered (map (λ (k : decl.Con). k.name) cons) variables t) ≡ true
  numbered_heads cons variables (Word x) known arity content = word_fits cons (λ y. number_of y variables) x (place_of x (map (λ (k : decl.Con). k.name) cons)) refl arity
  numbered_heads cons variables (Apply x ts) known arity content =
      let names = map (λ (k : decl.Con). k.name) cons in
      let k = and_parts (stands x names) (parts_are_known names ts) known in
      let a = and_parts (has_arity (count_parts ts) (con_called x cons)) (parts_have_arities cons ts) arity in
      let found = some_place x names k.0 in
      and_from _ _
      (ap (λ o. head_fits (map (λ (c : decl.Con). c.arity) cons) (Con (or_else (length names) o)) (count (numbered_parts names variables ts))) found.1
      ∙ ap (λ n. head_fits (map (λ (c : decl.Con). c.arity) cons) (Con found.0) n) (parts_count names variables ts)
      ∙ name_fits cons x (count_parts ts) found.0 found.1 a.0)
      (parts_heads cons variables ts k.1 a.1 content)
  numbered_heads cons variables (Literal h) known arity content = literal_fits (map (λ (k : decl.Con). k.arity) cons) h content

  parts_heads : (cons : List decl.Con) (variables : List (List ℕ)) (ts : Writtens) → parts_are_known (map (λ (k : decl.Con). k.name) cons) ts ≡ true →
      parts_have_arities cons ts ≡ true → parts_have_contents ts ≡ true → all_heads_fit (map (λ (k : decl.Con). k.arity) cons)
      (numbered_parts (map (λ (k : decl.Con). k.name) cons) variables ts) ≡ true
  parts_heads cons variables Empty known arity content = refl
  parts_heads cons variables (Then t ts) known arity content =
      let names = map (λ (k : decl.Con). k.name) cons in
      let k = and_parts (is_known names t) (parts_are_known names ts) known in
      let a = and_parts (has_arities cons t) (parts_have_arities cons ts) arity in
      let e = and_parts (has_contents t) (parts_have_contents ts) content in
      and_from _ _ (numbered_heads cons variables t k.0 a.0 e.0) (parts_heads cons variables ts k.1 a.1 e.1)

-- terms in which nothing is at fault
pub record Sound (cons : List decl.Con) (ts : List Written) : Type 0 where
  pub known : all_known (map (λ (k : decl.Con). k.name) cons) ts ≡ true
  pub arities : all_have_arities cons ts ≡ true
  pub contents : all_have_contents ts ≡ true
  pub shallow : depth_of_all ts ≤ 32

-- each of them stands for a term that fits
pub sound_fit : (cons : List decl.Con) (variables : List (List ℕ)) (ts : List Written) → Sound cons ts →
    Each (TermFits (map (λ (k : decl.Con). k.arity) cons)) (map (numbered (map (λ (k : decl.Con). k.name) cons) variables) ts)
sound_fit cons variables [] s = tt
sound_fit cons variables (t ∷ ts) s =
    let names = map (λ (k : decl.Con). k.name) cons in
    let k = and_parts (is_known names t) (all_known names ts) s.known in
    let a = and_parts (has_arities cons t) (all_have_arities cons ts) s.arities in
    let e = and_parts (has_contents t) (all_have_contents ts) s.contents in
    let deep = s.shallow in
    let same = numbered_nesting names variables t in (
      record { heads = numbered_heads cons variables t k.0 a.0 e.0; depth = subst (λ n. n ≤ 32) (sym same) (omega arith) },
      sound_fit cons variables ts (record { known = k.1; arities = a.1; contents = e.1; shallow = omega arith }),
    )
