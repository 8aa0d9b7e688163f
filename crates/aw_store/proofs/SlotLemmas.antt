-- Slots and the references that they name.
use Rattle.std.proofs.Common.{◌≡◌, ℕ, zero, suc, ◌+◌, ◌<◌, ◌≤◌, true, List, [], ◌∷◌, ◌++◌, length, map, take, get_or, Some, slice_get, refl, ap, sym, ◌∙◌, arith}
use Rattle.std.specs.Prelude.{All}
use Rattle.std.proofs.lemmas.Bool.{and_from}
use Rattle.std.proofs.lemmas.List.{take_more, take_all, map-append}
use Rattle.std.proofs.lemmas.Option.{slice_get_within, get_or_from_slice_get}
use Rattle.aw_term.specs.Names.{Ref}
use Rattle.aw_store.specs.NamedRefs.{names_at, AreNamed, all_named, Grows}
use Rattle.aw_store.proofs.NameLemmas.{is_named-at}

-- a slot keeps its name where more names come
slot_stays : (ns more : List Ref) (i : ℕ) (r : Ref) → slice_get ns i ≡ Some r → slice_get (ns ++ more) i ≡ Some r
slot_stays [] more i r e = absurd cc
slot_stays (n ∷ ns) more zero r e = e
slot_stays (n ∷ ns) more (suc i) r e = slot_stays ns more i r e

pub slot-grown : (ns ms : List Ref) (i : ℕ) (r : Ref) → Grows ns ms → slice_get ns i ≡ Some r → slice_get ms i ≡ Some r
slot-grown ns ms i r (more, e) w = ap (λ x. slice_get x i) e ∙ slot_stays ns more i r w

pub AreNamed-grown : (ns ms : List Ref) (slots : List ℕ) (rs : List Ref) → Grows ns ms → AreNamed ns slots rs → AreNamed ms slots rs
AreNamed-grown ns ms [] [] g w = refl
AreNamed-grown ns ms [] (r ∷ rs) g w = absurd cc
AreNamed-grown ns ms (s ∷ slots) [] g w = absurd cc
AreNamed-grown ns ms (s ∷ slots) (r ∷ rs) g w =
    let here : slice_get ns s ≡ Some r = cc in
    let there : AreNamed ns slots rs = cc in
    let a = slot-grown ns ms s r g here in
    let b = AreNamed-grown ns ms slots rs g there in
    λ i. a i ∷ b i

live_at : (names : List Ref) (slots : List ℕ) (rs : List Ref) (k d : ℕ) → AreNamed names slots rs → k < length slots → get_or slots k d < length names
live_at names [] rs k d e l = absurd (omega (arith, l))
live_at names (s ∷ slots) [] k d e l = absurd cc
live_at names (s ∷ slots) (r ∷ rs) zero d e l = let f : slice_get names s ≡ Some r = cc in slice_get_within names s r f
live_at names (s ∷ slots) (r ∷ rs) (suc k) d e l = let f : AreNamed names slots rs = cc in live_at names slots rs k d f (omega (arith, l))

-- slots that name references are slots of the store
pub named_live : (names : List Ref) (slots : List ℕ) (rs : List Ref) → AreNamed names slots rs → All (λ s. s < length names) slots
named_live names slots rs e = λ k d l. live_at names slots rs k d e l

-- and the references are named
pub AreNamed-all : (names : List Ref) (slots : List ℕ) (rs : List Ref) → AreNamed names slots rs → all_named names rs ≡ true
AreNamed-all names [] [] e = refl
AreNamed-all names [] (r ∷ rs) e = absurd cc
AreNamed-all names (s ∷ slots) [] e = absurd cc
AreNamed-all names (s ∷ slots) (r ∷ rs) e =
    let here : slice_get names s ≡ Some r = cc in
    let there : AreNamed names slots rs = cc in
    and_from _ _ (is_named-at names s r here) (AreNamed-all names slots rs there)

pub same_somes : {A : Type 0} (xs ys : List A) → map Some xs ≡ map Some ys → xs ≡ ys
same_somes [] [] e = refl
same_somes [] (y ∷ ys) e = absurd cc
same_somes (x ∷ xs) [] e = absurd cc
same_somes (x ∷ xs) (y ∷ ys) e =
    let here : x ≡ y = cc in
    let rest : map Some xs ≡ map Some ys = cc in
    let there = same_somes xs ys rest in
    λ i. here i ∷ there i

-- one slot more
pub named_push : (names : List Ref) (slots : List ℕ) (rs : List Ref) (s : ℕ) (r : Ref) → AreNamed names slots rs → slice_get names s ≡ Some r → AreNamed names (slots ++ s ∷ []) (rs ++ r ∷ [])
named_push names slots rs s r e f =
    map-append (slice_get names) slots (s ∷ [])
    ∙ ap (λ xs. xs ++ slice_get names s ∷ []) e
    ∙ ap (λ x. map Some rs ++ x ∷ []) f
    ∙ sym (map-append Some rs (r ∷ []))

-- one part more
pub parts_more : (ps refs : List Ref) (k : ℕ) (r : Ref) → refs ≡ take k ps → slice_get ps k ≡ Some r → refs ++ r ∷ [] ≡ take (k + 1) ps
parts_more ps refs k r e f =
    ap (λ xs. xs ++ r ∷ []) e
    ∙ ap (λ x. take k ps ++ x ∷ []) (sym (get_or_from_slice_get ps k r r f))
    ∙ sym (take_more ps k r (slice_get_within ps k r f))

pub slots_more : (ns ms : List Ref) (slots new : List ℕ) (rs : List Ref) (i s : ℕ) (r : Ref) → Grows ns ms → AreNamed ns slots (take i rs) →
    slice_get ms s ≡ Some r → new ≡ slots ++ s ∷ [] → i < length rs → r ≡ get_or rs i r → AreNamed ms new (take (i + 1) rs)
slots_more ns ms slots new rs i s r g e f n l o =
    ap (names_at ms) n
    ∙ named_push ms slots (take i rs) s r (AreNamed-grown ns ms slots (take i rs) g e) f
    ∙ ap (map Some) (ap (λ x. take i rs ++ x ∷ []) o ∙ sym (take_more rs i r l))

pub all_slots : (ns : List Ref) (slots : List ℕ) (rs : List Ref) (i : ℕ) → length rs ≤ i → AreNamed ns slots (take i rs) → all_named ns rs ≡ true
all_slots ns slots rs i l e = ap (all_named ns) (sym (take_all i rs l)) ∙ AreNamed-all ns slots (take i rs) e
