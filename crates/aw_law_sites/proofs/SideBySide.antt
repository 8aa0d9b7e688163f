-- Held nodes and rows side by side, and other lists side by side.
use Rattle.std.proofs.Common.{◌≡◌, ℕ, zero, suc, ◌+◌, Bool, true, false, cond, List, [], ◌∷◌, map, length, Option, Some, None, refl, sym, ap, ◌∙◌, inl, inr, arith}
use Rattle.std.specs.Prelude.{slice_get}
use Rattle.std.proofs.lemmas.Option.{same_Some}
use Rattle.std.proofs.lemmas.List.{map-id}
use Rattle.std.proofs.lemmas.Simd.{map-map}
use Rattle.aw_list.specs.Members.{Member}
use Rattle.aw_list.proofs.Members.{never}
use Rattle.aw_term.specs.Trees.{Never}
use Rattle.aw_term.specs.Names.{Node, node_eq, node_lt}
use Rattle.aw_term.specs.Rules.{Value, upto}
use Rattle.aw_term.specs.Configs.{Row, Config, insert_row, insert_rows, rounds, row_of}
use Rattle.aw_accept.specs.Acyclic.{Pairs}
use Rattle.aw_iograph.specs.Occurrences.{item}
use Rattle.aw_law_sites.specs.Joint.{Held, held_of, insert_held, insert_all}

-- what holds of the first and of the second holds of either choice
pub cond_pair : {A B : Type 0} (R : A → B → Type 0) (b b' : Bool) (x u : A) (y v : B) → b ≡ b' → R x y → R u v → R (cond b x u) (cond b' y v)
cond_pair R true true x u y v e p q = p
cond_pair R false false x u y v e p q = q
cond_pair R true false x u y v e p q = absurd cc
cond_pair R false true x u y v e p q = absurd cc

out_from : (f : ℕ → Value) (i l j : ℕ) (t : Value) → slice_get (map f (upto i l)) j ≡ Some t → t ≡ f (i + j)
out_from f i zero j t e = absurd cc
out_from f i (suc l) zero t e = let z : i ≡ i + 0 = omega arith in sym (same_Some _ _ e) ∙ ap f z
out_from f i (suc l) (suc j) t e = let z : suc i + j ≡ i + suc j = omega arith in out_from f (suc i) l j t e ∙ ap f z

pub out_at : (f : ℕ → Value) (l j : ℕ) (t : Value) → item (map f (upto 1 l)) j ≡ Some t → t ≡ f j
out_at f l zero t e = absurd cc
out_at f l (suc j) t e = let z : 1 + j ≡ suc j = omega arith in out_from f 1 l j t e ∙ ap f z

module _ (R : Held → Row → Type 0) (same : (h : Held) (q : Row) → R h q → h.node ≡ q.node) where
  pub insert_pairs : (h : Held) (r : Row) (hs : List Held) (qs : Config) → R h r → Pairs R hs qs → Pairs R (insert_held h hs) (insert_row r qs)
  insert_pairs h r [] [] a p = (a, tt)
  insert_pairs h r [] (z ∷ zs) a p = never p
  insert_pairs h r (q ∷ qs) [] a p = never p
  insert_pairs h r (q ∷ qs) (z ∷ zs) a p =
      let s = same h r a in
      let t = same q z p.0 in
      cond_pair (Pairs R) (node_lt h.node q.node) (node_lt r.node z.node) (h ∷ q ∷ qs) (q ∷ insert_held h qs) (r ∷ z ∷ zs) (z ∷ insert_row r zs)
      (λ i. node_lt (s i) (t i)) (a, (p.0, p.1)) (p.0, insert_pairs h r qs zs a p.1)

  pub insert_all_pairs : (rs : List Held) (ss : List Row) (hs : List Held) (qs : Config) → Pairs R rs ss → Pairs R hs qs → Pairs R (insert_all rs hs) (insert_rows ss qs)
  insert_all_pairs [] [] hs qs a p = p
  insert_all_pairs [] (s ∷ ss) hs qs a p = never a
  insert_all_pairs (r ∷ rs) [] hs qs a p = never a
  insert_all_pairs (r ∷ rs) (s ∷ ss) hs qs a p = insert_all_pairs rs ss (insert_held r hs) (insert_row s qs) a.1 (insert_pairs r s hs qs a.0 p)

  abbrev pub LikeOption : Option Held → Option Row → Type 0
  LikeOption None None = Unit {0}
  LikeOption (Some h) (Some q) = R h q
  LikeOption None (Some q) = Never
  LikeOption (Some h) None = Never

  pub look_up : (n : Node) (hs : List Held) (qs : Config) → Pairs R hs qs → LikeOption (held_of n hs) (row_of n qs)
  look_up n [] [] p = tt
  look_up n [] (q ∷ qs) p = never p
  look_up n (h ∷ hs) [] p = never p
  look_up n (h ∷ hs) (q ∷ qs) p = cond_pair LikeOption (node_eq n h.node) (node_eq n q.node) (Some h) (held_of n hs) (Some q) (row_of n qs) (ap (node_eq n) (same h q p.0)) p.0 (look_up n hs qs p.1)

pub map_pairs : {A B C D : Type 0} (P : A → B → Type 0) (R : C → D → Type 0) (f : A → C) (g : B → D) (xs : List A) (ys : List B) →
    ((a : A) (b : B) → Member b ys → P a b → R (f a) (g b)) → Pairs P xs ys → Pairs R (map f xs) (map g ys)
map_pairs P R f g [] [] h p = tt
map_pairs P R f g [] (y ∷ ys) h p = never p
map_pairs P R f g (x ∷ xs) [] h p = never p
map_pairs P R f g (x ∷ xs) (y ∷ ys) h p = (h x y (inl refl) p.0, map_pairs P R f g xs ys (λ a b m. h a b (inr m)) p.1)

pub map_right : {A B D : Type 0} (P : A → B → Type 0) (R : A → D → Type 0) (g : B → D) (xs : List A) (ys : List B) →
    ((a : A) (b : B) → Member b ys → P a b → R a (g b)) → Pairs P xs ys → Pairs R xs (map g ys)
map_right P R g [] [] h p = tt
map_right P R g [] (y ∷ ys) h p = never p
map_right P R g (x ∷ xs) [] h p = never p
map_right P R g (x ∷ xs) (y ∷ ys) h p = (h x y (inl refl) p.0, map_right P R g xs ys (λ a b m. h a b (inr m)) p.1)

pub rounds-map : {A : Type 0} (m : ℕ) (f : A → A) (xs : List A) → rounds m (map f) xs ≡ map (λ x. rounds m f x) xs
rounds-map zero f xs = sym (map-id xs)
rounds-map (suc m) f xs = rounds-map m f (map f xs) ∙ map-map (λ x. rounds m f x) f xs

pub Pairs-length : {A B : Type 0} (P : A → B → Type 0) (xs : List A) (ys : List B) → Pairs P xs ys → length xs ≡ length ys
Pairs-length P [] [] p = refl
Pairs-length P [] (y ∷ ys) p = never p
Pairs-length P (x ∷ xs) [] p = never p
Pairs-length P (x ∷ xs) (y ∷ ys) p = ap suc (Pairs-length P xs ys p.1)
