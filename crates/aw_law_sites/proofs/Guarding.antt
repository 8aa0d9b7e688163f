-- Guards over references: they keep over more equations, and they are matches of the values.
use Rattle.std.proofs.Common.{◌≡◌, ℕ, suc, Bool, true, false, cond, List, [], ◌∷◌, length, Some, None, refl, sym, ap, ◌∙◌, subst}
use Rattle.std.specs.Prelude.{◌&&◌, nat_eq}
use Rattle.aw_list.proofs.Members.{never}
use Rattle.aw_term.specs.Trees.{Never, Head, Tree, Leaf, Made, Trees, Nil, More, count, head_eq}
use Rattle.aw_term.specs.Names.{Ref}
use Rattle.aw_term.specs.Rules.{Term}
use Rattle.aw_term.specs.Matching.{Matched, Yes, Waits, Differs, Circle, and_then, under, match, match_parts, match_all}
use Rattle.aw_store.specs.Equations.{Body, Same, Map, find}
use Rattle.aw_store.specs.Chase.{Chased, Found, Missing, Round, chase}
use Rattle.aw_store.proofs.Ends.{At_body, At_missing, Ends, stands, lacks, follows}
use Rattle.aw_store.specs.Unfold.{Unfolds, UnfoldAll, missing, same, is, none, one}
use Rattle.aw_store.proofs.ChaseEnds.{ends-chase, found-more, missing-more, round-more}
use Rattle.aw_apply.specs.Guard.{guard_end, guard, guard_parts, guard_all}
use Rattle.aw_accept.specs.Acyclic.{Pairs}
use Rattle.aw_accept.proofs.Binding.{Pairs-append}
use Rattle.aw_law_sites.specs.Laws.{AllUnfold}

-- an answer that l does not change: it waits for nothing that has an equation there
abbrev pub Final : Map → Matched Ref Ref → Type 0
Final l (Yes xs) = Unit {0}
Final l (Differs p) = Unit {0}
Final l (Waits r) = find l r ≡ None
Final l (Circle r) = Unit {0}

and_then-keeps : (l : Map) (m n m' n' : Matched Ref Ref) → (Final l m → m' ≡ m) → (Final l n → n' ≡ n) → Final l (and_then m n) → and_then m' n' ≡ and_then m n
and_then-keeps l (Yes xs) (Yes ys) m' n' f g h = let a = f tt in let b = g tt in λ i. and_then (a i) (b i)
and_then-keeps l (Yes xs) (Differs p) m' n' f g h = let a = f tt in let b = g tt in λ i. and_then (a i) (b i)
and_then-keeps l (Yes xs) (Waits r) m' n' f g h = let a = f tt in let b = g h in λ i. and_then (a i) (b i)
and_then-keeps l (Yes xs) (Circle r) m' n' f g h = let a = f tt in let b = g tt in λ i. and_then (a i) (b i)
and_then-keeps l (Differs p) n m' n' f g h = ap (λ z. and_then z n') (f tt)
and_then-keeps l (Waits r) n m' n' f g h = ap (λ z. and_then z n') (f h)
and_then-keeps l (Circle r) n m' n' f g h = ap (λ z. and_then z n') (f tt)

pub under-keeps : (l : Map) (k : ℕ) (m m' : Matched Ref Ref) → (Final l m → m' ≡ m) → Final l (under k m) → under k m' ≡ under k m
under-keeps l k (Yes xs) m' f h = ap (under k) (f tt)
under-keeps l k (Differs p) m' f h = ap (under k) (f tt)
under-keeps l k (Waits r) m' f h = ap (under k) (f h)
under-keeps l k (Circle r) m' f h = ap (under k) (f tt)

module _ (k l : Map) (extends : (r : Ref) (b : Body) → find k r ≡ Some b → find l r ≡ Some b) where
  end-keeps : (c : Chased) (go go' : List Ref → Matched Ref Ref) (h : Head) (n : ℕ) (r : Ref) → chase k r ≡ c →
      ((rs : List Ref) → Final l (go rs) → go' rs ≡ go rs) → Final l (guard_end c go h n r) → guard_end (chase l r) go' h n r ≡ guard_end c go h n r
  end-keeps (Missing s) go go' h n r e g x = ap (λ z. guard_end z go' h n r) (missing-more k l extends r s x e)
  end-keeps Round go go' h n r e g x = ap (λ z. guard_end z go' h n r) (round-more k l extends r e)
  end-keeps (Found h' rs) go go' h n r e g x = ap (λ z. guard_end z go' h n r) (found-more k l extends r h' rs e) ∙ tested (head_eq h h' && nat_eq n (length rs)) x
    where
      tested : (b : Bool) → Final l (cond b (go rs) (Differs [])) → cond b (go' rs) (Differs []) ≡ cond b (go rs) (Differs [])
      tested true y = g rs y
      tested false y = refl

  mutual
    pub guard-keeps : (p : Term) (r : Ref) → Final l (guard k p r) → guard l p r ≡ guard k p r
    guard-keeps (Leaf v) r x = refl
    guard-keeps (Made h ps) r x = end-keeps (chase k r) (guard_parts k 1 ps) (guard_parts l 1 ps) h (count ps) r refl (guard_parts-keeps ps 1) x

    pub guard_parts-keeps : (ps : Trees ℕ) (n : ℕ) (rs : List Ref) → Final l (guard_parts k n ps rs) → guard_parts l n ps rs ≡ guard_parts k n ps rs
    guard_parts-keeps Nil n rs x = refl
    guard_parts-keeps (More p ps) n [] x = refl
    guard_parts-keeps (More p ps) n (r ∷ rs) x =
        and_then-keeps l (under n (guard k p r)) (guard_parts k (suc n) ps rs) (under n (guard l p r)) (guard_parts l (suc n) ps rs)
        (under-keeps l n (guard k p r) (guard l p r) (guard-keeps p r)) (guard_parts-keeps ps (suc n) rs) x

  pub guard_all-keeps : (n : ℕ) (ps : List Term) (rs : List Ref) → Final l (guard_all k n ps rs) → guard_all l n ps rs ≡ guard_all k n ps rs
  guard_all-keeps n [] rs x = refl
  guard_all-keeps n (p ∷ ps) [] x = refl
  guard_all-keeps n (p ∷ ps) (r ∷ rs) x =
      and_then-keeps l (under n (guard k p r)) (guard_all k (suc n) ps rs) (under n (guard l p r)) (guard_all l (suc n) ps rs)
      (under-keeps l n (guard k p r) (guard l p r) (guard-keeps p r)) (guard_all-keeps (suc n) ps rs) x

module _ (k : Map) where
  -- the same answer, over references and over values
  abbrev pub Like : Matched Ref Ref → Matched (Tree Ref) Ref → Type 0
  Like (Yes rs) (Yes ts) = Pairs (λ r t. Unfolds k r t) rs ts
  Like (Waits r) (Waits s) = r ≡ s
  Like (Differs p) (Differs q) = p ≡ q
  Like _ _ = Never

  like-and_then : (m n : Matched Ref Ref) (m' n' : Matched (Tree Ref) Ref) → Like m m' → Like n n' → Like (and_then m n) (and_then m' n')
  like-and_then (Yes rs) (Yes ss) (Yes ts) (Yes us) a b = Pairs-append (λ r t. Unfolds k r t) rs ts ss us a b
  like-and_then (Yes rs) (Waits s) (Yes ts) (Waits u) a b = b
  like-and_then (Yes rs) (Differs s) (Yes ts) (Differs u) a b = b
  like-and_then (Yes rs) (Yes ss) (Yes ts) (Waits u) a b = never b
  like-and_then (Yes rs) (Yes ss) (Yes ts) (Differs u) a b = never b
  like-and_then (Yes rs) (Yes ss) (Yes ts) (Circle u) a b = never b
  like-and_then (Yes rs) (Waits s) (Yes ts) (Yes u) a b = never b
  like-and_then (Yes rs) (Waits s) (Yes ts) (Differs u) a b = never b
  like-and_then (Yes rs) (Waits s) (Yes ts) (Circle u) a b = never b
  like-and_then (Yes rs) (Differs s) (Yes ts) (Yes u) a b = never b
  like-and_then (Yes rs) (Differs s) (Yes ts) (Waits u) a b = never b
  like-and_then (Yes rs) (Differs s) (Yes ts) (Circle u) a b = never b
  like-and_then (Yes rs) (Circle s) (Yes ts) n' a b = never b
  like-and_then (Yes rs) n (Waits u) n' a b = never a
  like-and_then (Yes rs) n (Differs u) n' a b = never a
  like-and_then (Yes rs) n (Circle u) n' a b = never a
  like-and_then (Waits r) n (Waits s) n' a b = a
  like-and_then (Waits r) n (Yes s) n' a b = never a
  like-and_then (Waits r) n (Differs s) n' a b = never a
  like-and_then (Waits r) n (Circle s) n' a b = never a
  like-and_then (Differs r) n (Differs s) n' a b = a
  like-and_then (Differs r) n (Yes s) n' a b = never a
  like-and_then (Differs r) n (Waits s) n' a b = never a
  like-and_then (Differs r) n (Circle s) n' a b = never a
  like-and_then (Circle r) n m' n' a b = never a

  like-under : (i : ℕ) (m : Matched Ref Ref) (m' : Matched (Tree Ref) Ref) → Like m m' → Like (under i m) (under i m')
  like-under i (Yes rs) (Yes ts) a = a
  like-under i (Waits r) (Waits s) a = a
  like-under i (Differs p) (Differs q) a = ap (λ z. i ∷ z) a
  like-under i (Yes rs) (Waits s) a = never a
  like-under i (Yes rs) (Differs s) a = never a
  like-under i (Yes rs) (Circle s) a = never a
  like-under i (Waits r) (Yes s) a = never a
  like-under i (Waits r) (Differs s) a = never a
  like-under i (Waits r) (Circle s) a = never a
  like-under i (Differs r) (Yes s) a = never a
  like-under i (Differs r) (Waits s) a = never a
  like-under i (Differs r) (Circle s) a = never a
  like-under i (Circle r) m' a = never a

  count-all : {rs : List Ref} {ts : Trees Ref} → UnfoldAll k rs ts → length rs ≡ count ts
  count-all none = refl
  count-all (one d ds) = ap suc (count-all ds)

  -- where the chase of a reference with a value ends
  abbrev pub EndOf : Ref → Tree Ref → Type 0
  EndOf r (Leaf s) = (n : ℕ) × Ends k (At_missing s) n r
  EndOf r (Made h ts) = (rs : List Ref) × (n : ℕ) × Ends k (At_body h rs) n r × UnfoldAll k rs ts

  end_on : (r s : Ref) (t : Tree Ref) → find k r ≡ Some (Same s) → EndOf s t → EndOf r t
  end_on r s (Leaf u) f (n, d) = (suc n, follows f d)
  end_on r s (Made h ts) f (rs, n, d, a) = (rs, suc n, follows f d, a)

  pub end_of : {r : Ref} {t : Tree Ref} → Unfolds k r t → EndOf r t
  end_of (missing f) = (0, lacks f refl)
  end_of (same {t = t} f d) = end_on _ _ t f (end_of d)
  end_of (is {rs = rs} f a) = (rs, 0, stands f refl, a)

  mutual
    pub guard-match : (p : Term) (r : Ref) (t : Tree Ref) → Unfolds k r t → Like (guard k p r) (match p t)
    guard-match (Leaf v) r t d = (d, tt)
    guard-match (Made h ps) r (Leaf s) d =
        let (n, x) = end_of d in
        subst (λ c. Like (guard_end c (guard_parts k 1 ps) h (count ps) r) (Waits s)) (sym (ends-chase k (At_missing s) x)) refl
    guard-match (Made h ps) r (Made h' ts) d =
        let (rs, n, x, a) = end_of d in
        subst (λ c. Like (guard_end c (guard_parts k 1 ps) h (count ps) r) (cond (head_eq h h' && nat_eq (count ps) (count ts)) (match_parts 1 ps ts)
        (Differs []))) (sym (ends-chase k (At_body h' rs) x))
        (subst (λ l. Like (cond (head_eq h h' && nat_eq (count ps) l) (guard_parts k 1 ps rs) (Differs []))
        (cond (head_eq h h' && nat_eq (count ps) (count ts)) (match_parts 1 ps ts) (Differs []))) (sym (count-all a))
        (like-cond (head_eq h h' && nat_eq (count ps) (count ts)) (guard_parts k 1 ps rs) (match_parts 1 ps ts) (guard_parts-match ps 1 rs ts a)))
      where
        like-cond : (b : Bool) (m : Matched Ref Ref) (m' : Matched (Tree Ref) Ref) → Like m m' → Like (cond b m (Differs [])) (cond b m' (Differs []))
        like-cond true m m' x = x
        like-cond false m m' x = refl

    pub guard_parts-match : (ps : Trees ℕ) (n : ℕ) (rs : List Ref) (ts : Trees Ref) → UnfoldAll k rs ts → Like (guard_parts k n ps rs) (match_parts n ps ts)
    guard_parts-match Nil n rs ts a = tt
    guard_parts-match (More p ps) n [] Nil a = refl
    guard_parts-match (More p ps) n [] (More t ts) a = elim a [ ]
    guard_parts-match (More p ps) n (r ∷ rs) Nil a = elim a [ ]
    guard_parts-match (More p ps) n (r ∷ rs) (More t ts) (one d ds) =
        like-and_then (under n (guard k p r)) (guard_parts k (suc n) ps rs) (under n (match p t)) (match_parts (suc n) ps ts)
        (like-under n (guard k p r) (match p t) (guard-match p r t d)) (guard_parts-match ps (suc n) rs ts ds)

  pub guard_all-match : (n : ℕ) (ps : List Term) (rs : List Ref) (ts : List (Tree Ref)) → AllUnfold k rs ts → Like (guard_all k n ps rs) (match_all n ps ts)
  guard_all-match n [] rs ts a = tt
  guard_all-match n (p ∷ ps) [] [] a = refl
  guard_all-match n (p ∷ ps) [] (t ∷ ts) a = never a
  guard_all-match n (p ∷ ps) (r ∷ rs) [] a = never a
  guard_all-match n (p ∷ ps) (r ∷ rs) (t ∷ ts) a =
      like-and_then (under n (guard k p r)) (guard_all k (suc n) ps rs) (under n (match p t)) (match_all (suc n) ps ts)
      (like-under n (guard k p r) (match p t) (guard-match p r t a.0)) (guard_all-match (suc n) ps rs ts a.1)
