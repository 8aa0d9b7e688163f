-- The equations that names and bodies by slots stand for.
use Rattle.std.proofs.Common.{◌≡◌, ℕ, zero, suc, Bool, true, false, cond, List, [], ◌∷◌, ◌++◌, length, Option, Some, None, refl, ap, sym, ◌∙◌, arith, inl, inr}
use Rattle.std.specs.Prelude.{slice_get, option_and_then, nat_eq, nat_le, ◌||◌}
use Rattle.std.specs.List.{slice_set}
use Rattle.std.proofs.lemmas.Bool.{and_parts, and_from, or_parts, eqb-true, eq-eqb, both_ways, cases_lt}
use Rattle.std.proofs.lemmas.Option.{slice_get_within, slice_get_past}
use Rattle.aw_list.proofs.Everyday.{get_within as here}
use Rattle.aw_term.specs.Names.{Ref}
use Rattle.aw_store.specs.Refs.{ref_eq}
use Rattle.aw_store.specs.Equations.{Body, Equation, Map, find, mentions}
use Rattle.aw_store.specs.NamedRefs.{is_named, all_named, has_names, IsNamedOnce}
use Rattle.aw_store.specs.StoreView.{all_few}
use Rattle.aw_term.proofs.RefTests.{ref_eq-true, ref_eq-self}
use Rattle.aw_term.specs.Limits.{most_parts}
use Rattle.aw_store.proofs.NameLemmas.{is_named-at}
use Rattle.aw_cells.specs.declared.stored.Stored.{Stored}
use Rattle.aw_cells.specs.declared.stored.Stored.TheVariants.{Missing}
use Rattle.aw_cells.specs.StoredBodies.{body_from, fits, is_written}
use Rattle.aw_cells.specs.Cells.{body_in, equation_with, map_in, all_fit, is_full, stands}
use Rattle.aw_cells.proofs.BodyLemmas.{slice_get-front, body_from-grown, body_from-some, body_from-written, body_from-named, body_from-few}

pub all_fit-at : (n : ℕ) (cs : List Stored) (s : ℕ) (c : Stored) → all_fit n cs ≡ true → slice_get cs s ≡ Some c → fits n c ≡ true
all_fit-at n [] s c w e = absurd cc
all_fit-at n (x ∷ cs) zero c w e = let f : x ≡ c = cc in ap (fits n) (sym f) ∙ (and_parts (fits n x) _ w).0
all_fit-at n (x ∷ cs) (suc s) c w e = all_fit-at n cs s c (and_parts (fits n x) _ w).1 e

-- a body in a list is that of a cell
pub cell_of : (ns : List Ref) (o : Option Stored) (b : Body) → option_and_then (body_from ns) o ≡ Some b → (c : Stored) × (o ≡ Some c) × (body_from ns c ≡ Some b)
cell_of ns None b e = absurd cc
cell_of ns (Some c) b e = (c, refl, e)

-- each left side is named, each reference in a body too, and a body has few
equation-named : (ns : List Ref) (o : Option Ref) (p : Option Body) (k : Map) → ((r : Ref) → o ≡ Some r → is_named ns r ≡ true) →
    ((b : Body) → p ≡ Some b → all_named ns (mentions b) ≡ true) → has_names ns k ≡ true → has_names ns (equation_with o p k) ≡ true
equation-named ns None p k f g w = w
equation-named ns (Some r) None k f g w = w
equation-named ns (Some r) (Some b) k f g w = and_from _ _ (and_from _ _ (f r refl) (g b refl)) w

pub map-named : (ns : List Ref) (cs : List Stored) (order : List ℕ) → has_names ns (map_in ns cs order) ≡ true
map-named ns cs [] = refl
map-named ns cs (s ∷ ss) =
    equation-named ns (slice_get ns s) (body_in ns cs s) (map_in ns cs ss) (λ r e. is_named-at ns s r e)
    (λ b e. let (c, f, g) = cell_of ns (slice_get cs s) b e in body_from-named ns c b g) (map-named ns cs ss)

equation-few : (o : Option Ref) (p : Option Body) (k : Map) → ((b : Body) → p ≡ Some b → nat_le (length (mentions b)) most_parts ≡ true) → all_few k ≡ true → all_few (equation_with o p k) ≡ true
equation-few None p k g w = w
equation-few (Some r) None k g w = w
equation-few (Some r) (Some b) k g w = and_from _ _ (g b refl) w

pub map-few : (ns : List Ref) (cs : List Stored) (order : List ℕ) → all_fit (length ns) cs ≡ true → all_few (map_in ns cs order) ≡ true
map-few ns cs [] w = refl
map-few ns cs (s ∷ ss) w =
    equation-few (slice_get ns s) (body_in ns cs s) (map_in ns cs ss)
    (λ b e. let (c, f, g) = cell_of ns (slice_get cs s) b e in body_from-few ns c b (all_fit-at (length ns) cs s c w f) g) (map-few ns cs ss w)

-- The equation of a slot
abbrev pub found : Bool → Option Body → Option Body
found b p = cond b p None

other_slot : (q r : Ref) (b : Body) (k : Map) (p : Option Body) → (r ≡ q → ⊥) → find k r ≡ p → find (record { left = q; body = b } ∷ k) r ≡ p
other_slot q r b k p apart e = by (ref_eq r q) refl
  where
    by : (t : Bool) → ref_eq r q ≡ t → cond t (Some b) (find k r) ≡ p
    by true f = absurd (apart (ref_eq-true r q f))
    by false f = e

own_slot : (o : Option Ref) (p : Option Body) (k : Map) (r : Ref) (t : Bool) → o ≡ Some r → find k r ≡ found t p → find (equation_with o p k) r ≡ p
own_slot None p k r t e f = absurd cc
own_slot (Some q) None k r true e f = f
own_slot (Some q) None k r false e f = f
own_slot (Some q) (Some b) k r t e f = let g : q ≡ r = cc in ap (λ x. cond x (Some b) (find k r)) (ap (ref_eq r) g ∙ ref_eq-self r)

skipped_slot : (o : Option Ref) (p x : Option Body) (k : Map) (r : Ref) → (o ≡ Some r → ⊥) → find k r ≡ x → find (equation_with o p k) r ≡ x
skipped_slot None p x k r apart e = e
skipped_slot (Some q) None x k r apart e = e
skipped_slot (Some q) (Some b) x k r apart e = other_slot q r b k x (λ f. apart (ap Some (sym f))) e

find-stands : (ns : List Ref) (cs : List Stored) (order : List ℕ) (s : ℕ) (r : Ref) → IsNamedOnce ns → slice_get ns s ≡ Some r → find (map_in ns cs order) r ≡ found (stands s order) (body_in ns cs s)
find-stands ns cs [] s r o e = refl
find-stands ns cs (x ∷ xs) s r o e = by (nat_eq s x) refl (find-stands ns cs xs s r o e)
  where
    by : (t : Bool) → nat_eq s x ≡ t → find (map_in ns cs xs) r ≡ found (stands s xs) (body_in ns cs s) → find (map_in ns cs (x ∷ xs)) r ≡ found (t || stands s xs) (body_in ns cs s)
    by true f rest =
        let g : s ≡ x = eqb-true s x f in
        own_slot (slice_get ns x) (body_in ns cs x) (map_in ns cs xs) r (stands s xs) (ap (slice_get ns) (sym g) ∙ e)
        (rest ∙ ap (λ y. found (stands s xs) (body_in ns cs y)) g) ∙ ap (body_in ns cs) (sym g)
    by false f rest = skipped_slot (slice_get ns x) (body_in ns cs x) _ (map_in ns cs xs) r (λ h. both_ways (nat_eq s x) f (eq-eqb s x (o s x r e h))) rest

pub empty_body : (ns : List Ref) (o : Option Stored) → is_full o ≡ false → option_and_then (body_from ns) o ≡ None
empty_body ns None w = refl
empty_body ns (Some c) w = by (body_from ns c) refl
  where
    by : (p : Option Body) → body_from ns c ≡ p → p ≡ None
    by None e = refl
    by (Some b) e = absurd (both_ways (is_written c) w (body_from-written ns c b e))

-- what is found for a name is the body at its slot
pub find-slot : (ns : List Ref) (cs : List Stored) (order : List ℕ) (s : ℕ) (r : Ref) → IsNamedOnce ns → stands s order ≡ is_full (slice_get cs s) →
    slice_get ns s ≡ Some r → find (map_in ns cs order) r ≡ body_in ns cs s
find-slot ns cs order s r o w e = find-stands ns cs order s r o e ∙ ap (λ t. found t (body_in ns cs s)) w ∙ by (is_full (slice_get cs s)) refl
  where
    by : (t : Bool) → is_full (slice_get cs s) ≡ t → found t (body_in ns cs s) ≡ body_in ns cs s
    by true f = refl
    by false f = sym (empty_body ns (slice_get cs s) f)

-- One more name
pub body_in-grown : (ns more : List Ref) (cs : List Stored) (s : ℕ) → all_fit (length ns) cs ≡ true → body_in (ns ++ more) (cs ++ Missing ∷ []) s ≡ body_in ns cs s
body_in-grown ns more [] zero w = refl
body_in-grown ns more [] (suc s) w = refl
body_in-grown ns more (c ∷ cs) zero w = body_from-grown ns more c (and_parts (fits (length ns) c) _ w).0
body_in-grown ns more (c ∷ cs) (suc s) w = body_in-grown ns more cs s (and_parts (fits (length ns) c) _ w).1

no_equation : (o : Option Ref) (k : Map) → equation_with o None k ≡ k
no_equation None k = refl
no_equation (Some r) k = refl

equation-grown : (ns more : List Ref) (cs : List Stored) (s : ℕ) (k : Map) → all_fit (length ns) cs ≡ true → length cs ≡ length ns →
    equation_with (slice_get (ns ++ more) s) (body_in (ns ++ more) (cs ++ Missing ∷ []) s) k ≡ equation_with (slice_get ns s) (body_in ns cs s) k
equation-grown ns more cs s k w n = elim (cases_lt s (length ns)) [
  | inl l ↦ λ i. equation_with (slice_get-front ns more s l i) (body_in-grown ns more cs s w i) k
  | inr l ↦
      let none : body_in ns cs s ≡ None = ap (option_and_then (body_from ns)) (slice_get_past cs s (omega (arith, l, n))) in
      ap (λ p. equation_with (slice_get (ns ++ more) s) p k) (body_in-grown ns more cs s w ∙ none) ∙ no_equation _ k
      ∙ sym (ap (λ p. equation_with (slice_get ns s) p k) none ∙ no_equation _ k)
]

pub map-grown : (ns more : List Ref) (cs : List Stored) (order : List ℕ) → all_fit (length ns) cs ≡ true → length cs ≡ length ns → map_in (ns ++ more) (cs ++ Missing ∷ []) order ≡ map_in ns cs order
map-grown ns more cs [] w n = refl
map-grown ns more cs (s ∷ ss) w n =
    ap (equation_with _ _) (map-grown ns more cs ss w n) ∙ equation-grown ns more cs s (map_in ns cs ss) w n

pub slice_get-others : {A : Type 0} (xs : List A) (j s : ℕ) (x : A) → (s ≡ j → ⊥) → slice_get (slice_set xs j x) s ≡ slice_get xs s
slice_get-others [] j s x f = refl
slice_get-others (y ∷ xs) zero zero x f = absurd (f refl)
slice_get-others (y ∷ xs) zero (suc s) x f = refl
slice_get-others (y ∷ xs) (suc j) zero x f = refl
slice_get-others (y ∷ xs) (suc j) (suc s) x f = slice_get-others xs j s x (λ e. f (ap suc e))

pub map-apart : (ns : List Ref) (cs : List Stored) (order : List ℕ) (j : ℕ) (c : Stored) → stands j order ≡ false → map_in ns (slice_set cs j c) order ≡ map_in ns cs order
map-apart ns cs [] j c w = refl
map-apart ns cs (s ∷ ss) j c w =
    let (a, b) = or_parts (nat_eq j s) (stands j ss) w in
    let same = slice_get-others cs j s c (λ e. both_ways (nat_eq j s) a (eq-eqb j s (sym e))) in
    (λ i. equation_with (slice_get ns s) (option_and_then (body_from ns) (same i)) (map-apart ns cs ss j c b i))

equation-append : (o : Option Ref) (p : Option Body) (k l : Map) → equation_with o p (k ++ l) ≡ equation_with o p k ++ l
equation-append None p k l = refl
equation-append (Some r) None k l = refl
equation-append (Some r) (Some b) k l = refl

pub map-push : (ns : List Ref) (cs : List Stored) (order : List ℕ) (j : ℕ) (e : Equation) → slice_get ns j ≡ Some e.left →
    body_in ns cs j ≡ Some e.body → map_in ns cs (order ++ j ∷ []) ≡ map_in ns cs order ++ e ∷ []
map-push ns cs [] j e f g = λ i. equation_with (f i) (g i) []
map-push ns cs (s ∷ ss) j e f g = ap (equation_with (slice_get ns s) (body_in ns cs s)) (map-push ns cs ss j e f g) ∙ equation-append _ _ (map_in ns cs ss) (e ∷ [])

-- there is an equation for each slot that stands in the order
one-equation : (o : Option Ref) (p : Option Body) (k : Map) → (r : Ref) × (o ≡ Some r) → (b : Body) × (p ≡ Some b) → length (equation_with o p k) ≡ suc (length k)
one-equation o p k (r, e) (b, f) = λ i. length (equation_with (e i) (f i) k)

pub map-length : (ns : List Ref) (cs : List Stored) (order : List ℕ) → all_fit (length ns) cs ≡ true → length cs ≡ length ns →
    ((s : ℕ) → stands s order ≡ true → is_full (slice_get cs s) ≡ true) → length (map_in ns cs order) ≡ length order
map-length ns cs [] w n f = refl
map-length ns cs (s ∷ ss) w n f =
    let full : is_full (slice_get cs s) ≡ true = f s (ap (λ t. t || stands s ss) (eq-eqb s s refl)) in
    one-equation (slice_get ns s) (body_in ns cs s) (map_in ns cs ss) (named full) (written full)
    ∙ ap suc (map-length ns cs ss w n (λ x e. f x (or_second (nat_eq x s) (stands x ss) e)))
  where
    or_second : (a b : Bool) → b ≡ true → (a || b) ≡ true
    or_second true b e = refl
    or_second false b e = e

    cell : is_full (slice_get cs s) ≡ true → (c : Stored) × (slice_get cs s ≡ Some c) × (is_written c ≡ true)
    cell e = by (slice_get cs s) refl e
      where
        by : (o : Option Stored) → slice_get cs s ≡ o → is_full o ≡ true → (c : Stored) × (slice_get cs s ≡ Some c) × (is_written c ≡ true)
        by None g e = absurd cc
        by (Some c) g e = (c, g, e)

    named : is_full (slice_get cs s) ≡ true → (r : Ref) × (slice_get ns s ≡ Some r)
    named e = let (c, g, h) = cell e in here ns s (let l = slice_get_within cs s c g in omega (arith, l, n))

    written : is_full (slice_get cs s) ≡ true → (b : Body) × (body_in ns cs s ≡ Some b)
    written e =
        let (c, g, h) = cell e in
        let (b, q) = body_from-some ns c (all_fit-at (length ns) cs s c w g) h in
        (b, ap (option_and_then (body_from ns)) g ∙ q)
