-- Terms with their names are known, have their arities, and are resolved to the terms.
use Rattle.std.proofs.Common.{◌≡◌, ℕ, zero, suc, ◌+◌, ◌<◌, ◌≤◌, max, nat_eq, refl, sym, ap, ◌∙◌, true, false, List, [], ◌∷◌, ◌++◌, length, map, Some, option_and_then, slice_get, arith}
use Rattle.std.proofs.lemmas.List.{map-append}
use Rattle.std.proofs.lemmas.Bool.{and_parts, and_from, eqb-true}
use Rattle.aw_spelling.specs.Spelling.{is_content}
use Rattle.aw_name_index.specs.Places.{number_of, stands}
use Rattle.aw_name_index.proofs.Lookups.{no_place}
use Rattle.aw_term.specs.Trees.{Head, Con, Num, Text, Tree, Leaf, Made, Trees, Nil, More, bind, binds, count}
use Rattle.aw_term.specs.Rules.{Term, get}
use Rattle.aw_term.specs.WellFormed.{Each, Differ, leaves, all_leaves, leaves_of, symbols, all_symbols, symbols_of, nesting, all_nesting, head_fits, heads_fit, all_heads_fit, TermFits}
use Rattle.aw_term.proofs.Eaches.{each_get, each_left, each_right}
use Rattle.aw_grammar.specs.declared.rule.Con as decl
use Rattle.aw_grammar.specs.Terms.{symbols_in, symbols_in_parts, symbols_in_all, depth_of, depth_of_parts, depth_of_all}
use Rattle.aw_grammar.specs.Resolved.{word_tree, resolved, resolved_parts, all_resolved, numbered}
use Rattle.aw_grammar.specs.Kinds.{is_known, parts_are_known, all_known, has_arity, count_parts, has_arities, parts_have_arities, all_have_arities}
use Rattle.aw_grammar.proofs.PlacedNames.{place_again}
use Rattle.aw_spec_writer.specs.SpecLines.{named, named_parts}
use Rattle.aw_spec_writer.proofs.Placed.{number_again, stands_at}

abbrev pub names_in : List decl.Con → List (List ℕ)
names_in cons = map (λ (c : decl.Con). c.name) cons

abbrev pub arities_in : List decl.Con → List ℕ
arities_in cons = map (λ (c : decl.Con). c.arity) cons

-- a constructor that fits is declared
pub record Found (cons : List decl.Con) (c n : ℕ) : Type 0 where
  pub con : decl.Con
  pub at : slice_get cons c ≡ Some con
  pub arity : nat_eq con.arity n ≡ true
  pub below : c < length (names_in cons)

pub found : (cons : List decl.Con) (c n : ℕ) → head_fits (arities_in cons) (Con c) n ≡ true → Found cons c n
found [] c n h = cc
found (k ∷ cons) zero n h = record { con = k; at = refl; arity = h; below = omega arith }
found (k ∷ cons) (suc c) n h =
    let f = found cons c n h in
    record { con = f.con; at = f.at; arity = f.arity; below = omega (arith, f.below) }

-- what is so of a term with its names, and of parts
abbrev to_names : List (List ℕ) → Term → Tree (List ℕ)
to_names vars t = bind (λ v. Leaf (get [] vars v)) t

abbrev to_names_parts : List (List ℕ) → Trees ℕ → Trees (List ℕ)
to_names_parts vars ts = binds (λ v. Leaf (get [] vars v)) ts

record Well (cons : List decl.Con) (vars : List (List ℕ)) (t : Term) : Type 0 where
  pub known : is_known (names_in cons) (named (names_in cons) vars t) ≡ true
  pub arities : has_arities cons (named (names_in cons) vars t) ≡ true
  pub same : resolved (names_in cons) (named (names_in cons) vars t) ≡ to_names vars t
  pub depth : depth_of (named (names_in cons) vars t) ≡ nesting t
  pub symbols : symbols_in (named (names_in cons) vars t) ≡ symbols t

record WellParts (cons : List decl.Con) (vars : List (List ℕ)) (ts : Trees ℕ) : Type 0 where
  pub known : parts_are_known (names_in cons) (named_parts (names_in cons) vars ts) ≡ true
  pub arities : parts_have_arities cons (named_parts (names_in cons) vars ts) ≡ true
  pub same : resolved_parts (names_in cons) (named_parts (names_in cons) vars ts) ≡ to_names_parts vars ts
  pub depth : depth_of_parts (named_parts (names_in cons) vars ts) ≡ all_nesting ts
  pub symbols : symbols_in_parts (named_parts (names_in cons) vars ts) ≡ all_symbols ts
  pub count : count_parts (named_parts (names_in cons) vars ts) ≡ count ts

variable_well : (cons : List decl.Con) (vars : List (List ℕ)) (v : ℕ) → stands (get [] vars v) (names_in cons) ≡ false → Well cons vars (Leaf v)
variable_well cons vars v free =
    let x = get [] vars v in
    let none = no_place x (names_in cons) free in
    record {
      known = refl;
      arities = ap (λ o. has_arity 0 (option_and_then (λ i. slice_get cons i) o)) none;
      same = ap (word_tree x) none;
      depth = refl;
      symbols = refl;
    }

pub never_zero : (k : ℕ) → nat_eq (suc k) 0 ≡ true → ⊥
never_zero k h = absurd (omega (arith, eqb-true (suc k) 0 h))

made_well : (cons : List decl.Con) (vars : List (List ℕ)) → Differ (names_in cons) → (h : Head) (ts : Trees ℕ) → head_fits (arities_in cons) h
    (count ts) ≡ true → WellParts cons vars ts → Well cons vars (Made h ts)
made_well cons vars differ (Con c) Nil fits parts =
    let names = names_in cons in
    let f = found cons c 0 fits in
    let placed = place_again names c differ f.below in
    record {
      known = refl;
      arities = ap (λ o. has_arity 0 (option_and_then (λ i. slice_get cons i) o)) placed ∙ ap (has_arity 0) f.at ∙ f.arity;
      same = ap (word_tree (get [] names c)) placed;
      depth = refl;
      symbols = refl;
    }
made_well cons vars differ (Con c) (More t ts) fits parts =
    let names = names_in cons in
    let all = More t ts in
    let f = found cons c (count all) fits in
    let x = get [] names c in
    let size = count_parts (named_parts names vars all) in
    record {
      known = and_from _ _ (stands_at names c differ f.below) parts.known;
      arities = and_from _ _
          (ap (λ o. has_arity size (option_and_then (λ i. slice_get cons i) o)) (place_again names c differ f.below)
          ∙ ap (has_arity size) f.at ∙ ap (nat_eq f.con.arity) parts.count ∙ f.arity)
          parts.arities;
      same = ap (λ n. Made (Con n) (resolved_parts names (named_parts names vars all))) (number_again names c differ f.below) ∙ ap (Made (Con c)) parts.same;
      depth = ap (λ n. suc n) parts.depth;
      symbols = ap (λ n. suc n) parts.symbols;
    }
made_well cons vars differ (Num n) Nil fits parts = record { known = refl; arities = refl; same = refl; depth = refl; symbols = refl }
made_well cons vars differ (Num n) (More t ts) fits parts = absurd (never_zero (count ts) fits)
made_well cons vars differ (Text t) Nil fits parts = record { known = refl; arities = refl; same = refl; depth = refl; symbols = refl }
made_well cons vars differ (Text x) (More t ts) fits parts = absurd (never_zero (count ts) (and_parts (nat_eq (count (More t ts)) 0) (is_content x) fits).0)

mutual
  well : (cons : List decl.Con) (vars : List (List ℕ)) → Differ (names_in cons) → Each (λ v. stands v (names_in cons) ≡ false) vars → (t : Term) →
      heads_fit (arities_in cons) t ≡ true → Each (λ v. v < length vars) (leaves t) → Well cons vars t
  well cons vars differ free (Leaf v) fits below = variable_well cons vars v (each_get (λ x. stands x (names_in cons) ≡ false) [] vars v free below.0)
  well cons vars differ free (Made h ts) fits below =
      let parts = and_parts (head_fits (arities_in cons) h (count ts)) (all_heads_fit (arities_in cons) ts) fits in
      made_well cons vars differ h ts parts.0 (parts_well cons vars differ free ts parts.1 below)

  parts_well : (cons : List decl.Con) (vars : List (List ℕ)) → Differ (names_in cons) → Each (λ v. stands v (names_in cons) ≡ false) vars →
      (ts : Trees ℕ) → all_heads_fit (arities_in cons) ts ≡ true → Each (λ v. v < length vars) (all_leaves ts) → WellParts cons vars ts
  parts_well cons vars differ free Nil fits below = record { known = refl; arities = refl; same = refl; depth = refl; symbols = refl; count = refl }
  parts_well cons vars differ free (More t ts) fits below =
      let parts = and_parts (heads_fit (arities_in cons) t) (all_heads_fit (arities_in cons) ts) fits in
      let first = well cons vars differ free t parts.0 (each_left (λ v. v < length vars) (leaves t) (all_leaves ts) below) in
      let rest = parts_well cons vars differ free ts parts.1 (each_right (λ v. v < length vars) (leaves t) (all_leaves ts) below) in
      record {
        known = and_from _ _ first.known rest.known;
        arities = and_from _ _ first.arities rest.arities;
        same = λ i. More (first.same i) (rest.same i);
        depth = λ i. max (first.depth i) (rest.depth i);
        symbols = λ i. first.symbols i + rest.symbols i;
        count = ap (λ n. suc n) rest.count;
      }

-- names back to numbers

mutual
  back : (vars : List (List ℕ)) → Differ vars → (t : Term) → Each (λ v. v < length vars) (leaves t) → bind (λ x. Leaf (number_of x vars)) (to_names vars t) ≡ t
  back vars differ (Leaf v) below = ap Leaf (number_again vars v differ below.0)
  back vars differ (Made h ts) below = ap (Made h) (parts_back vars differ ts below)

  parts_back : (vars : List (List ℕ)) → Differ vars → (ts : Trees ℕ) → Each (λ v. v < length vars) (all_leaves ts) → binds (λ x. Leaf (number_of x vars)) (to_names_parts vars ts) ≡ ts
  parts_back vars differ Nil below = refl
  parts_back vars differ (More t ts) below = λ i.
      More (back vars differ t (each_left (λ v. v < length vars) (leaves t) (all_leaves ts) below) i)
      (parts_back vars differ ts (each_right (λ v. v < length vars) (leaves t) (all_leaves ts) below) i)

mutual
  leaves_named : (vars : List (List ℕ)) (t : Term) → leaves (to_names vars t) ≡ map (get [] vars) (leaves t)
  leaves_named vars (Leaf v) = refl
  leaves_named vars (Made h ts) = all_leaves_named vars ts

  all_leaves_named : (vars : List (List ℕ)) (ts : Trees ℕ) → all_leaves (to_names_parts vars ts) ≡ map (get [] vars) (all_leaves ts)
  all_leaves_named vars Nil = refl
  all_leaves_named vars (More t ts) = (λ i. leaves_named vars t i ++ all_leaves_named vars ts i) ∙ sym (map-append (get [] vars) (leaves t) (all_leaves ts))

-- what is so of a list of terms with their names
pub record AllWell (cons : List decl.Con) (vars : List (List ℕ)) (ts : List Term) : Type 0 where
  pub known : all_known (names_in cons) (map (named (names_in cons) vars) ts) ≡ true
  pub arities : all_have_arities cons (map (named (names_in cons) vars) ts) ≡ true
  pub leaves : leaves_of (all_resolved (names_in cons) (map (named (names_in cons) vars) ts)) ≡ map (get [] vars) (leaves_of ts)
  pub depth : depth_of_all (map (named (names_in cons) vars) ts) ≤ 32
  pub symbols : symbols_in_all (map (named (names_in cons) vars) ts) ≡ symbols_of ts
  pub back : map (numbered (names_in cons) vars) (map (named (names_in cons) vars) ts) ≡ ts

pub all_well : (cons : List decl.Con) (vars : List (List ℕ)) → Differ (names_in cons) → Differ vars → Each (λ v. stands v (names_in cons) ≡ false)
    vars → (ts : List Term) → Each (TermFits (arities_in cons)) ts → Each (λ v. v < length vars) (leaves_of ts) → AllWell cons vars ts
all_well cons vars differ apart free [] fit below = record { known = refl; arities = refl; leaves = refl; depth = omega arith; symbols = refl; back = refl }
all_well cons vars differ apart free (t ∷ ts) fit below =
    let names = names_in cons in
    let here = each_left (λ v. v < length vars) (leaves t) (leaves_of ts) below in
    let first = well cons vars differ free t fit.0.heads here in
    let rest = all_well cons vars differ apart free ts fit.1 (each_right (λ v. v < length vars) (leaves t) (leaves_of ts) below) in
    record {
      known = and_from _ _ first.known rest.known;
      arities = and_from _ _ first.arities rest.arities;
      leaves = (λ i. (ap leaves first.same ∙ leaves_named vars t) i ++ rest.leaves i) ∙ sym (map-append (get [] vars) (leaves t) (leaves_of ts));
      depth = omega (arith, first.depth, fit.0.depth, rest.depth);
      symbols = λ i. first.symbols i + rest.symbols i;
      back = λ i. (ap (bind (λ x. Leaf (number_of x vars))) first.same ∙ back vars apart t here) i ∷ rest.back i;
    }
