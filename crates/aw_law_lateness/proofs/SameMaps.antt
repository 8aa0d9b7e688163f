-- Guards and worklists over two lists of equations that are one map.
use Rattle.std.specs.Prelude.{nat_eq}
use Rattle.std.proofs.Common.{◌≡◌, ℕ, suc, cond, List, [], ◌∷◌, ◌++◌, length, Some, None, refl, sym, ◌∙◌, subst}
use Rattle.aw_term.specs.Choices.{after_guard}
use Rattle.aw_term.specs.Configs.{State, Pending, Done}
use Rattle.aw_term.specs.Held.{Held}
use Rattle.aw_term.specs.Matching.{and_then, under}
use Rattle.aw_term.specs.Names.{Ref}
use Rattle.aw_term.specs.Rules.{Rule, Grammar, Term}
use Rattle.aw_term.specs.Runs.{refusal_of}
use Rattle.aw_term.specs.Trees.{Leaf, Made, Trees, Nil, More, count}
use Rattle.aw_store.specs.Chase.{Chased, Found, Missing, Round, chase}
use Rattle.aw_store.specs.Equations.{Body, Map, find}
use Rattle.aw_store.proofs.ChaseEnds.{chase_in-ends, found-more, missing-more, round-more}
use Rattle.aw_store.proofs.Ends.{At_missing, Ends, stands, lacks, follows}
use Rattle.aw_apply.specs.Guard.{guard_end, guard, guard_parts, guard_all}
use Rattle.aw_law_sites.specs.Worklists.{open_items, site_items, site_worklist}

-- where a chase ends without an equation there is none
ends-none : (k : Map) (s : Ref) {n : ℕ} {r : Ref} → Ends k (At_missing s) n r → find k s ≡ None
ends-none k s (stands f e) = absurd cc
ends-none k s (lacks {r = r} f e) = let same : s ≡ r = cc in subst (λ x. find k x ≡ None) (sym same) f
ends-none k s (follows f d) = ends-none k s d

module _ (k l : Map) (same : (r : Ref) → find k r ≡ find l r) where
  extends : (r : Ref) (b : Body) → find k r ≡ Some b → find l r ≡ Some b
  extends r b f = sym (same r) ∙ f

  chase-same : (r : Ref) → chase k r ≡ chase l r
  chase-same r = by (chase k r) refl
    where
      by : (c : Chased) → chase k r ≡ c → c ≡ chase l r
      by (Found h rs) e = sym (found-more k l extends r h rs e)
      by (Missing s) e = let (n, d) = chase_in-ends k (At_missing s) (length k) r e in sym (missing-more k l extends r s (sym (same s) ∙ ends-none k s d) e)
      by Round e = sym (round-more k l extends r e)

  mutual
    guard-same : (p : Term) (r : Ref) → guard k p r ≡ guard l p r
    guard-same (Leaf v) r = refl
    guard-same (Made h ps) r = let here = chase-same r in λ i. guard_end (here i) (λ rs. parts-same ps 1 rs i) h (count ps) r

    parts-same : (ps : Trees ℕ) (n : ℕ) (rs : List Ref) → guard_parts k n ps rs ≡ guard_parts l n ps rs
    parts-same Nil n rs = refl
    parts-same (More p ps) n [] = refl
    parts-same (More p ps) n (r ∷ rs) = let here = guard-same p r in let later = parts-same ps (suc n) rs in λ i. and_then (under n (here i)) (later i)

  guards-same : (n : ℕ) (ps : List Term) (rs : List Ref) → guard_all k n ps rs ≡ guard_all l n ps rs
  guards-same n [] rs = refl
  guards-same n (p ∷ ps) [] = refl
  guards-same n (p ∷ ps) (r ∷ rs) = let here = guard-same p r in let later = guards-same (suc n) ps rs in λ i. and_then (under n (here i)) (later i)

  items-same : (h : Held) (j : ℕ) (rules : List Rule) → site_items k h j rules ≡ site_items l h j rules
  items-same h j [] = refl
  items-same h j (rule ∷ rules) =
      let later = items-same h (suc j) rules in
      let here = guards-same 1 rule.patterns h.inherited in
      λ i. cond (nat_eq rule.sort h.sort) (record { node = h.node; rule = j; refusal = refusal_of (after_guard h.node rule (here i)) } ∷ later i) (later i)

  open-same : (g : Grammar) (s : State) (h : Held) → open_items g s k h ≡ open_items g s l h
  open-same g Pending h = items-same h 0 g.rules
  open-same g (Done r args) h = refl

  pub worklist-same : (g : Grammar) (hs : List Held) → site_worklist g k hs ≡ site_worklist g l hs
  worklist-same g [] = refl
  worklist-same g (h ∷ hs) = let here = open-same g h.state h in let later = worklist-same g hs in λ i. here i ++ later i
