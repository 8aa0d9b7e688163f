-- Bodies by slots.
use Rattle.std.proofs.Common.{◌≡◌, ℕ, zero, suc, ◌<◌, ◌≤◌, true, List, [], ◌∷◌, ◌++◌, length, Option, Some, None, refl, ap, sym, ◌∙◌, arith}
use Rattle.std.specs.Prelude.{slice_get, option_map, nat_lt, nat_le}
use Rattle.std.proofs.lemmas.Bool.{and_parts, and_from, ltb-true, lt-ltb}
use Rattle.aw_list.proofs.Everyday.{get_within as here}
use Rattle.aw_term.specs.Trees as T
use Rattle.aw_term.specs.Names.{Ref}
use Rattle.aw_term.specs.Limits.{most_parts}
use Rattle.aw_store.specs.Equations as P
use Rattle.aw_store.specs.Equations.{mentions}
use Rattle.aw_store.specs.NamedRefs.{is_named, all_named, con_parts, as_text}
use Rattle.aw_store.specs.StoreView.{IsKindOf}
use Rattle.aw_store.proofs.NameLemmas.{is_named-at}
use Rattle.aw_cells.specs.declared.stored.Stored.{Stored}
use Rattle.aw_cells.specs.declared.stored.Stored.TheVariants.{Missing, Same, Con, Num, Text}
use Rattle.aw_cells.specs.StoredBodies.{with_ref, refs_of, body_from, all_below, fits, is_written, slots_of, text_from, kind_from}

pub slice_get-front : {A : Type 0} (xs ys : List A) (i : ℕ) → i < length xs → slice_get (xs ++ ys) i ≡ slice_get xs i
slice_get-front [] ys i l = absurd (omega (arith, l))
slice_get-front (x ∷ xs) ys zero l = refl
slice_get-front (x ∷ xs) ys (suc i) l = slice_get-front xs ys i (omega (arith, l))

pub below : (s n : ℕ) → nat_lt s n ≡ true → s < n
below s n e = ltb-true s n e

-- The references of slots
one_more : (ns : List Ref) (o : Option Ref) (rs : List Ref) (n : ℕ) → (r : Ref) × (o ≡ Some r) → length rs ≡ n → length (with_ref o rs) ≡ suc n
one_more ns o rs n (r, e) l = ap (λ x. length (with_ref x rs)) e ∙ ap suc l

pub refs_of-length : (ns : List Ref) (ss : List ℕ) → all_below (length ns) ss ≡ true → length (refs_of ns ss) ≡ length ss
refs_of-length ns [] w = refl
refs_of-length ns (s ∷ ss) w =
    let (a, b) = and_parts (nat_lt s (length ns)) _ w in
    one_more ns (slice_get ns s) (refs_of ns ss) (length ss) (here ns s (below s _ a)) (refs_of-length ns ss b)

first_of : (o : Option Ref) (rs : List Ref) (r : Ref) → o ≡ Some r → slice_get (with_ref o rs) 0 ≡ o
first_of o rs r e = ap (λ x. slice_get (with_ref x rs) 0) e ∙ sym e

later_of : (o : Option Ref) (rs : List Ref) (r : Ref) (k : ℕ) → o ≡ Some r → slice_get (with_ref o rs) (suc k) ≡ slice_get rs k
later_of o rs r k e = ap (λ x. slice_get (with_ref x rs) (suc k)) e

pub refs_of-at : (ns : List Ref) (ss : List ℕ) (k s : ℕ) → all_below (length ns) ss ≡ true → slice_get ss k ≡ Some s → slice_get (refs_of ns ss) k ≡ slice_get ns s
refs_of-at ns [] k s w e = absurd cc
refs_of-at ns (x ∷ ss) zero s w e =
    let (a, b) = and_parts (nat_lt x (length ns)) _ w in
    let h = here ns x (below x _ a) in
    let f : x ≡ s = cc in
    first_of (slice_get ns x) (refs_of ns ss) h.0 h.1 ∙ ap (slice_get ns) f
refs_of-at ns (x ∷ ss) (suc k) s w e =
    let (a, b) = and_parts (nat_lt x (length ns)) _ w in
    let h = here ns x (below x _ a) in
    later_of (slice_get ns x) (refs_of ns ss) h.0 k h.1 ∙ refs_of-at ns ss k s b e

with_named : (ns : List Ref) (o : Option Ref) (rs : List Ref) → ((r : Ref) → o ≡ Some r → is_named ns r ≡ true) → all_named ns rs ≡ true → all_named ns (with_ref o rs) ≡ true
with_named ns None rs f w = w
with_named ns (Some r) rs f w = and_from _ _ (f r refl) w

pub refs_of-named : (ns : List Ref) (ss : List ℕ) → all_named ns (refs_of ns ss) ≡ true
refs_of-named ns [] = refl
refs_of-named ns (s ∷ ss) = with_named ns (slice_get ns s) (refs_of ns ss) (λ r e. is_named-at ns s r e) (refs_of-named ns ss)

pub refs_of-grown : (ns more : List Ref) (ss : List ℕ) → all_below (length ns) ss ≡ true → refs_of (ns ++ more) ss ≡ refs_of ns ss
refs_of-grown ns more [] w = refl
refs_of-grown ns more (s ∷ ss) w =
    let (a, b) = and_parts (nat_lt s (length ns)) _ w in
    (λ i. with_ref (slice_get-front ns more s (below s _ a) i) (refs_of-grown ns more ss b i))

pub refs_of-push : (ns : List Ref) (ss : List ℕ) (s : ℕ) (r : Ref) → slice_get ns s ≡ Some r → refs_of ns (ss ++ s ∷ []) ≡ refs_of ns ss ++ r ∷ []
refs_of-push ns [] s r e = ap (λ o. with_ref o []) e
refs_of-push ns (x ∷ ss) s r e = ap (with_ref (slice_get ns x)) (refs_of-push ns ss s r e) ∙ front (slice_get ns x)
  where
    front : (o : Option Ref) → with_ref o (refs_of ns ss ++ r ∷ []) ≡ with_ref o (refs_of ns ss) ++ r ∷ []
    front None = refl
    front (Some q) = refl

-- Slots below a number
pub all_below-grown : (m n : ℕ) (ss : List ℕ) → m ≤ n → all_below m ss ≡ true → all_below n ss ≡ true
all_below-grown m n [] l w = refl
all_below-grown m n (s ∷ ss) l w =
    let (a, b) = and_parts (nat_lt s m) _ w in
    and_from _ _ (lt-ltb s n (omega (arith, below s m a, l))) (all_below-grown m n ss l b)

pub all_below-push : (n : ℕ) (ss : List ℕ) (s : ℕ) → all_below n ss ≡ true → s < n → all_below n (ss ++ s ∷ []) ≡ true
all_below-push n [] s w l = and_from _ _ (lt-ltb s n l) refl
all_below-push n (x ∷ ss) s w l =
    let (a, b) = and_parts (nat_lt x n) _ w in
    and_from _ _ a (all_below-push n ss s b l)

pub all_below-at : (n : ℕ) (ss : List ℕ) (k s : ℕ) → all_below n ss ≡ true → slice_get ss k ≡ Some s → s < n
all_below-at n [] k s w e = absurd cc
all_below-at n (x ∷ ss) zero s w e = let f : x ≡ s = cc in let l = below x n (and_parts (nat_lt x n) _ w).0 in omega (arith, l, f)
all_below-at n (x ∷ ss) (suc k) s w e = all_below-at n ss k s (and_parts (nat_lt x n) _ w).1 e

pub fits-grown : (m n : ℕ) (c : Stored) → m ≤ n → fits m c ≡ true → fits n c ≡ true
fits-grown m n Missing l w = refl
fits-grown m n (Same s) l w = lt-ltb s n (omega (arith, below s m w, l))
fits-grown m n (Con c parts) l w =
    let (a, b) = and_parts (all_below m parts.items) _ w in
    and_from _ _ (all_below-grown m n parts.items l a) b
fits-grown m n (Num x) l w = refl
fits-grown m n (Text t) l w = refl

-- What a body by slots stands for
pub body_from-grown : (ns more : List Ref) (c : Stored) → fits (length ns) c ≡ true → body_from (ns ++ more) c ≡ body_from ns c
body_from-grown ns more Missing w = refl
body_from-grown ns more (Same s) w = ap (option_map P.Same) (slice_get-front ns more s (below s _ w))
body_from-grown ns more (Con c parts) w = ap (λ rs. Some (P.Is (T.Con c) rs)) (refs_of-grown ns more parts.items (and_parts (all_below (length ns) parts.items) _ w).0)
body_from-grown ns more (Num x) w = refl
body_from-grown ns more (Text t) w = refl

pub body_from-some : (ns : List Ref) (c : Stored) → fits (length ns) c ≡ true → is_written c ≡ true → (b : P.Body) × (body_from ns c ≡ Some b)
body_from-some ns Missing w v = absurd cc
body_from-some ns (Same s) w v = let h = here ns s (below s _ w) in (P.Same h.0, ap (option_map P.Same) h.1)
body_from-some ns (Con c parts) w v = (_, refl)
body_from-some ns (Num x) w v = (_, refl)
body_from-some ns (Text t) w v = (_, refl)

pub body_from-written : (ns : List Ref) (c : Stored) (b : P.Body) → body_from ns c ≡ Some b → is_written c ≡ true
body_from-written ns Missing b e = absurd cc
body_from-written ns (Same s) b e = refl
body_from-written ns (Con c parts) b e = refl
body_from-written ns (Num x) b e = refl
body_from-written ns (Text t) b e = refl

pub body_from-named : (ns : List Ref) (c : Stored) (b : P.Body) → body_from ns c ≡ Some b → all_named ns (mentions b) ≡ true
body_from-named ns Missing b e = absurd cc
body_from-named ns (Same s) b e = by_name (slice_get ns s) refl e
  where
    by_name : (o : Option Ref) → slice_get ns s ≡ o → option_map P.Same o ≡ Some b → all_named ns (mentions b) ≡ true
    by_name None f e = absurd cc
    by_name (Some r) f e = let p : P.Same r ≡ b = cc in ap (λ x. all_named ns (mentions x)) (sym p) ∙ and_from _ _ (is_named-at ns s r f) refl
body_from-named ns (Con c parts) b e = let p : P.Is (T.Con c) (refs_of ns parts.items) ≡ b = cc in ap (λ x. all_named ns (mentions x)) (sym p) ∙ refs_of-named ns parts.items
body_from-named ns (Num x) b e = let p : P.Is (T.Num x) [] ≡ b = cc in ap (λ x. all_named ns (mentions x)) (sym p)
body_from-named ns (Text t) b e = let p : P.Is (T.Text t) [] ≡ b = cc in ap (λ x. all_named ns (mentions x)) (sym p)

pub body_from-few : (ns : List Ref) (c : Stored) (b : P.Body) → fits (length ns) c ≡ true → body_from ns c ≡ Some b → nat_le (length (mentions b)) most_parts ≡ true
body_from-few ns Missing b w e = absurd cc
body_from-few ns (Same s) b w e = by_name (slice_get ns s) e
  where
    by_name : (o : Option Ref) → option_map P.Same o ≡ Some b → nat_le (length (mentions b)) most_parts ≡ true
    by_name None e = absurd cc
    by_name (Some r) e = let p : P.Same r ≡ b = cc in ap (λ x. nat_le (length (mentions x)) most_parts) (sym p)
body_from-few ns (Con c parts) b w e =
    let p : P.Is (T.Con c) (refs_of ns parts.items) ≡ b = cc in
    let (x, y) = and_parts (all_below (length ns) parts.items) _ w in
    ap (λ z. nat_le (length (mentions z)) most_parts) (sym p) ∙ ap (λ n. nat_le n most_parts) (refs_of-length ns parts.items x) ∙ y
body_from-few ns (Num x) b w e = let p : P.Is (T.Num x) [] ≡ b = cc in ap (λ x. nat_le (length (mentions x)) most_parts) (sym p)
body_from-few ns (Text t) b w e = let p : P.Is (T.Text t) [] ≡ b = cc in ap (λ x. nat_le (length (mentions x)) most_parts) (sym p)

-- what is read of a body by slots
pub kind_is : (ns : List Ref) (c : Stored) → fits (length ns) c ≡ true → IsKindOf ns (body_from ns c) (kind_from c)
kind_is ns Missing w = tt
kind_is ns (Same s) w = by_name (slice_get ns s) refl (here ns s (below s _ w))
  where
    by_name : (o : Option Ref) → slice_get ns s ≡ o → (r : Ref) × (slice_get ns s ≡ Some r) → IsKindOf ns (option_map P.Same o) (kind_from (Same s))
    by_name None f h = absurd (let e : None ≡ Some h.0 = sym f ∙ h.1 in cc)
    by_name (Some r) f h = f
kind_is ns (Con c parts) w = (refl, sym (refs_of-length ns parts.items (and_parts (all_below (length ns) parts.items) _ w).0))
kind_is ns (Num x) w = (refl, refl)
kind_is ns (Text t) w = refl

pub child_is : (ns : List Ref) (c : Stored) (k s : ℕ) → fits (length ns) c ≡ true → slice_get (slots_of c) k ≡ Some s → slice_get ns s ≡ slice_get (con_parts (body_from ns c)) k
child_is ns Missing k s w e = absurd cc
child_is ns (Same x) k s w e = absurd cc
child_is ns (Con c parts) k s w e = sym (refs_of-at ns parts.items k s (and_parts (all_below (length ns) parts.items) _ w).0 e)
child_is ns (Num x) k s w e = absurd cc
child_is ns (Text t) k s w e = absurd cc

pub parts_are : (ns : List Ref) (c : Stored) → fits (length ns) c ≡ true → length (con_parts (body_from ns c)) ≡ length (slots_of c)
parts_are ns Missing w = refl
parts_are ns (Same s) w = by_name (slice_get ns s)
  where
    by_name : (o : Option Ref) → length (con_parts (option_map P.Same o)) ≡ 0
    by_name None = refl
    by_name (Some r) = refl
parts_are ns (Con c parts) w = refs_of-length ns parts.items (and_parts (all_below (length ns) parts.items) _ w).0
parts_are ns (Num x) w = refl
parts_are ns (Text t) w = refl

pub text_is : (ns : List Ref) (c : Stored) → as_text (body_from ns c) ≡ text_from c
text_is ns Missing = refl
text_is ns (Same s) = by_name (slice_get ns s)
  where
    by_name : (o : Option Ref) → as_text (option_map P.Same o) ≡ None
    by_name None = refl
    by_name (Some r) = refl
text_is ns (Con c parts) = refl
text_is ns (Num x) = refl
text_is ns (Text t) = refl
