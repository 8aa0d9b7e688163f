-- Nodes told by their numbers: one put in, one changed, one more.
use Rattle.std.proofs.Common.{◌≡◌, ◌≢◌, ℕ, zero, suc, ◌<◌, ◌≤◌, List, [], ◌∷◌, ◌++◌, length, Some, slice_get, ◌⊎◌, inl, inr, ap, sym, ◌∙◌, refl, arith, length-append}
use Rattle.std.specs.Prelude.{insert, slice_set}
use Rattle.aw_node_list.specs.declared.held.Held.{Held}
use Rattle.aw_node_list.specs.Picked.{pick_on, picked, AreKnown, AreApart}
use Rattle.aw_node_list.proofs.Numbers.{apart_tail, apart_inserted, inserted_one}

-- there is something at a place within a list
pub got : (hs : List Held) (n : ℕ) → n < length hs → (h : Held) × (slice_get hs n ≡ Some h)
got [] n l = absurd (omega (arith, l))
got (h ∷ hs) zero l = (h, refl)
got (h ∷ hs) (suc n) l = got hs n (omega (arith, l))

front : (hs ks : List Held) (n : ℕ) → n < length hs → slice_get (hs ++ ks) n ≡ slice_get hs n
front [] ks n l = absurd (omega (arith, l))
front (h ∷ hs) ks zero l = refl
front (h ∷ hs) ks (suc n) l = front hs ks n (omega (arith, l))

known_tail : (n : ℕ) (ns : List ℕ) (hs : List Held) → AreKnown (n ∷ ns) hs → AreKnown ns hs
known_tail n ns hs f = λ i m e. f (suc i) m e

-- as many nodes as numbers
pub length_picked : (ns : List ℕ) (hs : List Held) → AreKnown ns hs → length (picked ns hs) ≡ length ns
length_picked [] hs f = refl
length_picked (n ∷ ns) hs f =
    let w = got hs n (f 0 n refl) in
    ap (λ o. length (pick_on o (picked ns hs))) w.1 ∙ ap suc (length_picked ns hs (known_tail n ns hs f))

-- the node at a place is the one with the number there
pub picked_at : (ns : List ℕ) (hs : List Held) (i n : ℕ) → AreKnown ns hs → slice_get ns i ≡ Some n → slice_get (picked ns hs) i ≡ slice_get hs n
picked_at [] hs i n f e = absurd cc
picked_at (m ∷ ns) hs zero n f e =
    let same : m ≡ n = cc in
    let w = got hs m (f 0 m refl) in
    ap (λ o. slice_get (pick_on o (picked ns hs)) 0) w.1 ∙ sym w.1 ∙ ap (slice_get hs) same
picked_at (m ∷ ns) hs (suc i) n f e =
    let w = got hs m (f 0 m refl) in
    ap (λ o. slice_get (pick_on o (picked ns hs)) (suc i)) w.1 ∙ picked_at ns hs i n (known_tail m ns hs f) e

-- nodes behind the others change nothing
pub picked_pushed : (ns : List ℕ) (hs ks : List Held) → AreKnown ns hs → picked ns (hs ++ ks) ≡ picked ns hs
picked_pushed [] hs ks f = refl
picked_pushed (n ∷ ns) hs ks f =
    ap (λ o. pick_on o (picked ns (hs ++ ks))) (front hs ks n (f 0 n refl)) ∙ ap (pick_on (slice_get hs n)) (picked_pushed ns hs ks (known_tail n ns hs f))

-- a number put in is its node put in
pub picked_inserted : (ns : List ℕ) (hs : List Held) (i n : ℕ) (y : Held) → AreKnown ns hs → i ≤ length ns → slice_get hs n ≡ Some y →
    picked (insert ns i n) hs ≡ insert (picked ns hs) i y
picked_inserted ns hs zero n y f l e = ap (λ o. pick_on o (picked ns hs)) e
picked_inserted [] hs (suc i) n y f l e = absurd (omega (arith, l))
picked_inserted (m ∷ ns) hs (suc i) n y f l e =
    let w = got hs m (f 0 m refl) in
    ap (λ o. pick_on o (picked (insert ns i n) hs)) w.1
    ∙ ap (λ z. w.0 ∷ z) (picked_inserted ns hs i n y (known_tail m ns hs f) (omega (arith, l)) e)
    ∙ ap (λ o. insert (pick_on o (picked ns hs)) (suc i) y) (sym w.1)

same_place : (hs : List Held) (n : ℕ) (y : Held) → n < length hs → slice_get (slice_set hs n y) n ≡ Some y
same_place [] n y l = absurd (omega (arith, l))
same_place (h ∷ hs) zero y l = refl
same_place (h ∷ hs) (suc n) y l = same_place hs n y (omega (arith, l))

other_place : (hs : List Held) (n m : ℕ) (y : Held) → m ≢ n → slice_get (slice_set hs n y) m ≡ slice_get hs m
other_place [] n m y d = refl
other_place (h ∷ hs) zero zero y d = absurd (d refl)
other_place (h ∷ hs) zero (suc m) y d = refl
other_place (h ∷ hs) (suc n) zero y d = refl
other_place (h ∷ hs) (suc n) (suc m) y d = other_place hs n m y (λ e. d (ap suc e))

picked_others : (ns : List ℕ) (hs : List Held) (n : ℕ) (y : Held) → ((j m : ℕ) → slice_get ns j ≡ Some m → m ≢ n) → picked ns (slice_set hs n y) ≡ picked ns hs
picked_others [] hs n y d = refl
picked_others (m ∷ ns) hs n y d =
    ap (λ o. pick_on o (picked ns (slice_set hs n y))) (other_place hs n m y (d 0 m refl))
    ∙ ap (pick_on (slice_get hs m)) (picked_others ns hs n y (λ j k e. d (suc j) k e))

-- a node changed under its number is changed at its place alone
pub picked_set : (ns : List ℕ) (hs : List Held) (i n : ℕ) (y : Held) → AreKnown ns hs → AreApart ns → slice_get ns i ≡ Some n →
    picked ns (slice_set hs n y) ≡ slice_set (picked ns hs) i y
picked_set [] hs i n y f a e = absurd cc
picked_set (m ∷ ns) hs zero n y f a e =
    let same : m ≡ n = cc in
    let w = got hs m (f 0 m refl) in
    let here : slice_get (slice_set hs n y) m ≡ Some y = ap (slice_get (slice_set hs n y)) same ∙ same_place hs n y (f 0 n e) in
    let away : (j k : ℕ) → slice_get ns j ≡ Some k → k ≢ n = λ j k g s. let z : 0 ≡ suc j = a 0 (suc j) n e (g ∙ ap Some s) in absurd (omega (arith, z)) in
    ap (λ o. pick_on o (picked ns (slice_set hs n y))) here
    ∙ ap (λ z. y ∷ z) (picked_others ns hs n y away)
    ∙ ap (λ o. slice_set (pick_on o (picked ns hs)) 0 y) (sym w.1)
picked_set (m ∷ ns) hs (suc i) n y f a e =
    let w = got hs m (f 0 m refl) in
    let away : m ≢ n = λ s. let z : 0 ≡ suc i = a 0 (suc i) n (ap Some s) e in absurd (omega (arith, z)) in
    ap (λ o. pick_on o (picked ns (slice_set hs n y))) (other_place hs n m y away ∙ w.1)
    ∙ ap (λ z. w.0 ∷ z) (picked_set ns hs i n y (known_tail m ns hs f) (apart_tail m ns a) e)
    ∙ ap (λ o. slice_set (pick_on o (picked ns hs)) (suc i) y) (sym w.1)

get_last : (hs : List Held) (y : Held) (n : ℕ) → n ≡ length hs → slice_get (hs ++ y ∷ []) n ≡ Some y
get_last [] y zero e = refl
get_last [] y (suc n) e = absurd (omega (arith, e))
get_last (h ∷ hs) y zero e = absurd (omega (arith, e))
get_last (h ∷ hs) y (suc n) e = get_last hs y n (omega (arith, e))

-- a node behind the others, whose number is put in, is put in
module _ (ns : List ℕ) (hs : List Held) (i n : ℕ) (y : Held) (known : AreKnown ns hs) (last : n ≡ length hs) where
  pub put_items : i ≤ length ns → picked (insert ns i n) (hs ++ y ∷ []) ≡ insert (picked ns hs) i y
  put_items l =
      picked_inserted ns (hs ++ y ∷ []) i n y (λ j m e. omega (arith, known j m e, length-append hs (y ∷ []))) l (get_last hs y n last)
      ∙ ap (λ z. insert z i y) (picked_pushed ns hs (y ∷ []) known)

  pub put_known : AreKnown (insert ns i n) (hs ++ y ∷ [])
  put_known j m e = by (inserted_one ns i n j m e)
    where
      by : (m ≡ n) ⊎ ((k : ℕ) × (slice_get ns k ≡ Some m)) → m < length (hs ++ y ∷ [])
      by (inl s) = omega (arith, s, last, length-append hs (y ∷ []))
      by (inr (k, f)) = omega (arith, known k m f, length-append hs (y ∷ []))

  pub put_apart : AreApart ns → AreApart (insert ns i n)
  put_apart apart = apart_inserted ns i n apart (λ j e. absurd (omega (arith, known j n e, last)))
