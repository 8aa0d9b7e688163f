-- Lists of named references.
use Rattle.std.proofs.Common.{◌≡◌, ℕ, zero, suc, ◌+◌, ◌<◌, Bool, true, false, List, [], ◌∷◌, ◌++◌, length, take, get_or, Some, refl, ap, sym, ◌∙◌, inl, inr, append_assoc}
use Rattle.std.specs.Prelude.{slice_get, ◌⊎◌, ◌||◌, if◌then◌else◌, Result, Ok, Err, IsOk, OnOk, OnErr}
use Rattle.std.proofs.lemmas.Bool.{and_parts, and_from, both_ways, or_right}
use Rattle.std.proofs.lemmas.List.{take_more}
use Rattle.std.proofs.lemmas.Option.{slice_get_read}
use Rattle.aw_term.specs.Names.{Ref}
use Rattle.aw_store.specs.Refs.{ref_eq}
use Rattle.aw_store.specs.Equations.{Equation, Map, mentions}
use Rattle.aw_store.specs.NamedRefs.{is_named, all_named, has_names_of, has_names, with_name, refs_in, IsNamedOnce, Grows, NamesOnly}
use Rattle.aw_term.proofs.RefTests.{ref_eq-self, ref_eq-true}

pub grows_more : (a b c : List Ref) → Grows a b → Grows b c → Grows a c
grows_more a b c (m, e) (n, f) = (m ++ n, f ∙ ap (λ x. x ++ n) e ∙ append_assoc a m n)

by_first : (b x y : Bool) → (b || x) ≡ true → (x ≡ true → y ≡ true) → (b || y) ≡ true
by_first true x y e go = refl
by_first false x y e go = go e

pub is_named-append : (ns more : List Ref) (r : Ref) → is_named ns r ≡ true → is_named (ns ++ more) r ≡ true
is_named-append [] more r e = absurd cc
is_named-append (n ∷ ns) more r e = by_first (ref_eq r n) (is_named ns r) (is_named (ns ++ more) r) e (is_named-append ns more r)

pub is_named-grown : (ns ms : List Ref) (r : Ref) → Grows ns ms → is_named ns r ≡ true → is_named ms r ≡ true
is_named-grown ns ms r (m, e) w = ap (λ x. is_named x r) e ∙ is_named-append ns m r w

pub all_named-grown : (ns ms rs : List Ref) → Grows ns ms → all_named ns rs ≡ true → all_named ms rs ≡ true
all_named-grown ns ms [] g w = refl
all_named-grown ns ms (r ∷ rs) g w =
    let (a, b) = and_parts _ _ w in
    and_from _ _ (is_named-grown ns ms r g a) (all_named-grown ns ms rs g b)

pub has_names_of-grown : (ns ms : List Ref) (e : Equation) → Grows ns ms → has_names_of ns e ≡ true → has_names_of ms e ≡ true
has_names_of-grown ns ms e g w =
    let (a, b) = and_parts _ _ w in
    and_from _ _ (is_named-grown ns ms e.left g a) (all_named-grown ns ms (mentions e.body) g b)

pub has_names-grown : (ns ms : List Ref) (k : Map) → Grows ns ms → has_names ns k ≡ true → has_names ms k ≡ true
has_names-grown ns ms [] g w = refl
has_names-grown ns ms (e ∷ k) g w =
    let (a, b) = and_parts _ _ w in
    and_from _ _ (has_names_of-grown ns ms e g a) (has_names-grown ns ms k g b)

pub has_names-push : (ns : List Ref) (k : Map) (e : Equation) → has_names ns k ≡ true → has_names_of ns e ≡ true → has_names ns (k ++ e ∷ []) ≡ true
has_names-push ns [] e w v = and_from _ _ v refl
has_names-push ns (x ∷ k) e w v =
    let (a, b) = and_parts _ _ w in
    and_from _ _ a (has_names-push ns k e b v)

pub all_named-push : (ns rs : List Ref) (r : Ref) → all_named ns rs ≡ true → is_named ns r ≡ true → all_named ns (rs ++ r ∷ []) ≡ true
all_named-push ns [] r w v = and_from _ _ v refl
all_named-push ns (x ∷ rs) r w v =
    let (a, b) = and_parts _ _ w in
    and_from _ _ a (all_named-push ns rs r b v)

-- Slots
pub is_named-at : (ns : List Ref) (i : ℕ) (r : Ref) → slice_get ns i ≡ Some r → is_named ns r ≡ true
is_named-at [] i r e = absurd cc
is_named-at (n ∷ ns) zero r e = let f : n ≡ r = cc in ap (λ x. ref_eq r x || is_named ns r) f ∙ ap (λ b. b || is_named ns r) (ref_eq-self r)
is_named-at (n ∷ ns) (suc i) r e = or_right (ref_eq r n) _ (is_named-at ns i r e)

pub named_part : (ns rs : List Ref) (k : ℕ) (r : Ref) → all_named ns rs ≡ true → slice_get rs k ≡ Some r → is_named ns r ≡ true
named_part ns [] k r w e = absurd cc
named_part ns (x ∷ rs) zero r w e = let (a, b) = and_parts (is_named ns x) _ w in let f : x ≡ r = cc in ap (is_named ns) (sym f) ∙ a
named_part ns (x ∷ rs) (suc k) r w e = let (a, b) = and_parts (is_named ns x) _ w in named_part ns rs k r b e

pub slice_get-last : {A : Type 0} (xs : List A) (x : A) → slice_get (xs ++ x ∷ []) (length xs) ≡ Some x
slice_get-last [] x = refl
slice_get-last (y ∷ xs) x = slice_get-last xs x

pushed : {A : Type 0} (xs : List A) (x y : A) (i : ℕ) → slice_get (xs ++ x ∷ []) i ≡ Some y → (slice_get xs i ≡ Some y) ⊎ ((i ≡ length xs) × (x ≡ y))
pushed [] x y zero e = inr (refl, cc)
pushed [] x y (suc i) e = absurd cc
pushed (z ∷ xs) x y zero e = inl e
pushed (z ∷ xs) x y (suc i) e = elim (pushed xs x y i e) [ inl p ↦ inl p | inr p ↦ inr (ap suc p.0, p.1) ]

not_there : (ns : List Ref) (r q : Ref) (i : ℕ) → is_named ns r ≡ false → r ≡ q → slice_get ns i ≡ Some q → ⊥
not_there ns r q i w e f = both_ways (is_named ns r) w (is_named-at ns i r (f ∙ ap Some (sym e)))

pub once_push : (ns : List Ref) (r : Ref) → IsNamedOnce ns → is_named ns r ≡ false → IsNamedOnce (ns ++ r ∷ [])
once_push ns r o w i j q e f =
    elim (pushed ns r q i e) [
      | inl p ↦ elim (pushed ns r q j f) [ inl s ↦ o i j q p s | inr s ↦ absurd (not_there ns r q i w s.1 p) ]
      | inr p ↦ elim (pushed ns r q j f) [ inl s ↦ absurd (not_there ns r q j w p.1 s) | inr s ↦ p.0 ∙ sym s.0 ]
    ]

pub all_named-take : (ns rs : List Ref) (i : ℕ) (r : Ref) → i < length rs → r ≡ get_or rs i r → all_named ns (take i rs) ≡ true → is_named ns r ≡ true → all_named ns (take (i + 1) rs) ≡ true
all_named-take ns rs i r l e w v = ap (all_named ns) (take_more rs i r l ∙ ap (λ x. take i rs ++ x ∷ []) (sym e)) ∙ all_named-push ns (take i rs) r w v

-- a reference of a list whose references are named
pub named_at : (ns rs : List Ref) (i : ℕ) (r : Ref) → i < length rs → r ≡ get_or rs i r → all_named ns rs ≡ true → is_named ns r ≡ true
named_at ns rs i r l e w = named_part ns rs i r w (slice_get_read rs (length rs) i r refl l e)

pub not_ok : {T E : Type 0} (r : Result T E) (e : E) → r ≡ Err e → IsOk r → ⊥
not_ok (Ok x) e p w = cc
not_ok (Err x) e p w = cc

pub names_both : {T E : Type 0} (r : Result T E) (ns : List Ref) (e : Equation) → is_named ns e.left ≡ true → OnOk r (all_named ns (mentions e.body) ≡ true) → OnOk r (has_names_of ns e ≡ true)
names_both (Ok x) ns e a w = and_from _ _ a w
names_both (Err x) ns e a w = w

-- a name that is there is not named again
pub with_name-named : (ns : List Ref) (r : Ref) → is_named ns r ≡ true → ns ≡ with_name ns r
with_name-named ns r w = ap (λ b. if b then ns else ns ++ r ∷ []) (sym w)

-- Which names came
pub only_same : (ns new rs : List Ref) → new ≡ ns → NamesOnly ns new rs
only_same ns new rs e = λ q v. inl (sym (ap (λ x. is_named x q) e) ∙ v)

pub only_more : (a b c rs : List Ref) → NamesOnly a b rs → NamesOnly b c rs → NamesOnly a c rs
only_more a b c rs f g = λ q v. elim (g q v) [ inl w ↦ f q w | inr w ↦ inr w ]

pub only_among : (a b rs qs : List Ref) → ((q : Ref) → is_named rs q ≡ true → is_named qs q ≡ true) → NamesOnly a b rs → NamesOnly a b qs
only_among a b rs qs h f = λ q v. elim (f q v) [ inl w ↦ inl w | inr w ↦ inr (h q w) ]

pub is_named-behind : (ns more : List Ref) (r : Ref) → is_named more r ≡ true → is_named (ns ++ more) r ≡ true
is_named-behind [] more r w = w
is_named-behind (n ∷ ns) more r w = or_right (ref_eq r n) _ (is_named-behind ns more r w)

pub named_first : (r : Ref) (rs : List Ref) → is_named (r ∷ rs) r ≡ true
named_first r rs = ap (λ b. b || is_named rs r) (ref_eq-self r)

came_behind : (b x y : Bool) (P : Type 0) → (b || y) ≡ true → (y ≡ true → (x ≡ true) ⊎ P) → ((b || x) ≡ true) ⊎ P
came_behind true x y P e go = inl refl
came_behind false x y P e go = go e

-- a reference among the names and one more
came : (ns : List Ref) (r q : Ref) → is_named (ns ++ r ∷ []) q ≡ true → (is_named ns q ≡ true) ⊎ (q ≡ r)
came [] r q v = inr (by (ref_eq q r) refl v)
  where
    by : (b : Bool) → ref_eq q r ≡ b → (b || false) ≡ true → q ≡ r
    by true f e = ref_eq-true q r f
    by false f e = absurd cc
came (n ∷ ns) r q v = came_behind (ref_eq q n) (is_named ns q) (is_named (ns ++ r ∷ []) q) (q ≡ r) v (came ns r q)

came_with : (ns : List Ref) (r q : Ref) (b : Bool) → is_named (if b then ns else ns ++ r ∷ []) q ≡ true → (is_named ns q ≡ true) ⊎ (q ≡ r)
came_with ns r q true v = inl v
came_with ns r q false v = came ns r q v

pub only_named : {T E : Type 0} (o : Result T E) (ns new rs : List Ref) (r : Ref) → is_named rs r ≡ true → OnOk o (new ≡ with_name ns r) → OnErr o (new ≡ ns) → NamesOnly ns new rs
only_named (Ok x) ns new rs r h e w = λ q v.
    elim (came_with ns r q (is_named ns r) (sym (ap (λ y. is_named y q) e) ∙ v)) [ inl u ↦ inl u | inr u ↦ inr (ap (is_named rs) u ∙ h) ]
only_named (Err x) ns new rs r h w e = only_same ns new rs e

-- the names of a body, after that of the left side
pub only_both : (a b c : List Ref) (e : Equation) → NamesOnly a b (refs_in e) → NamesOnly b c (mentions e.body) → NamesOnly a c (refs_in e)
only_both a b c e f g = only_more a b c (refs_in e) f (only_among b c (mentions e.body) (refs_in e) (λ q w. or_right (ref_eq q e.left) _ w) g)

-- a step of a loop over references
pub only_at : {T E : Type 0} (o : Result T E) (a b c rs : List Ref) (i : ℕ) (r : Ref) → i < length rs → r ≡ get_or rs i r → NamesOnly a b rs →
    OnOk o (c ≡ with_name b r) → OnErr o (c ≡ b) → NamesOnly a c rs
only_at o a b c rs i r l e f k w = only_more a b c rs f (only_named o b c rs r (is_named-at rs i r (slice_get_read rs (length rs) i r refl l e)) k w)
