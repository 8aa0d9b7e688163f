-- What holds of a table goes on to hold.
use Rattle.std.proofs.Common.{◌≡◌, ℕ, zero, suc, ◌+◌, ◌<◌, ◌≤◌, Bool, true, false, cond, List, [], ◌∷◌, ◌++◌, length, Option, Some, None, refl, ap, sym, ◌∙◌, subst, arith, inl, inr}
use Rattle.std.specs.Prelude.{slice_get, nat_eq, ◌||◌, option_and_then}
use Rattle.std.specs.List.{slice_set}
use Rattle.std.proofs.lemmas.Bool.{and_parts, and_from, eq-eqb, cases_eq, cases_lt, ne_eqb, false_from_ne_true}
use Rattle.std.proofs.lemmas.Option.{none-some, slice_get_past}
use Rattle.std.proofs.lemmas.List.{length-append}
use Rattle.aw_list.proofs.Everyday.{get_within as here, set-here as slice_get-written, length-slice_set}
use Rattle.aw_term.specs.Names.{Ref}
use Rattle.aw_store.specs.Equations.{find}
use Rattle.aw_store.specs.NamedRefs.{is_named, body_at}
use Rattle.aw_store.proofs.NameLemmas.{once_push}
use Rattle.aw_cells.specs.declared.stored.Stored.{Stored}
use Rattle.aw_cells.specs.declared.stored.Stored.TheVariants.{Missing}
use Rattle.aw_cells.specs.StoredBodies.{body_from, fits, is_written}
use Rattle.aw_cells.specs.Cells.{body_in, map_in, all_fit, is_full, stands, empty_ones, IsSound}
use Rattle.aw_cells.proofs.BodyLemmas.{fits-grown, body_from-some}
use Rattle.aw_cells.proofs.MapLemmas.{slice_get-others, map-named, map-few, find-slot, all_fit-at}

-- One more name
all_fit-push : (m n : ℕ) (cs : List Stored) → m ≤ n → all_fit m cs ≡ true → all_fit n (cs ++ Missing ∷ []) ≡ true
all_fit-push m n [] l w = refl
all_fit-push m n (c ∷ cs) l w =
    let (a, b) = and_parts (fits m c) _ w in
    and_from _ _ (fits-grown m n c l a) (all_fit-push m n cs l b)

fitting-named : (ns : List Ref) (cs : List Stored) (r : Ref) → all_fit (length ns) cs ≡ true → all_fit (length (ns ++ r ∷ [])) (cs ++ Missing ∷ []) ≡ true
fitting-named ns cs r w = all_fit-push (length ns) (length (ns ++ r ∷ [])) cs (omega (arith, length-append ns (r ∷ []))) w

is_full-push : (cs : List Stored) (s : ℕ) → is_full (slice_get (cs ++ Missing ∷ []) s) ≡ is_full (slice_get cs s)
is_full-push [] zero = refl
is_full-push [] (suc s) = refl
is_full-push (c ∷ cs) zero = refl
is_full-push (c ∷ cs) (suc s) = is_full-push cs s

count-case : (b : Bool) (m n : ℕ) → m ≡ n + 1 → cond b m (suc m) ≡ cond b n (suc n) + 1
count-case true m n e = e
count-case false m n e = omega (arith, e)

empty_ones-push : (cs : List Stored) → empty_ones (cs ++ Missing ∷ []) ≡ empty_ones cs + 1
empty_ones-push [] = refl
empty_ones-push (c ∷ cs) = count-case (is_written c) _ _ (empty_ones-push cs)

pub sound-named : (ns : List Ref) (cs : List Stored) (order : List ℕ) (r : Ref) → IsSound ns cs order → is_named ns r ≡ false → IsSound (ns ++ r ∷ []) (cs ++ Missing ∷ []) order
sound-named ns cs order r s f =
    let more = length-append ns (r ∷ []) in
    record {
      once = once_push ns r s.once f;
      as_many = omega (arith, s.as_many, more, length-append cs (Missing ∷ []));
      fitting = fitting-named ns cs r s.fitting;
      ordered = λ i. s.ordered i ∙ sym (is_full-push cs i);
      counted = omega (arith, s.counted, empty_ones-push cs, length-append cs (Missing ∷ []));
      named = map-named (ns ++ r ∷ []) (cs ++ Missing ∷ []) order;
      few = map-few (ns ++ r ∷ []) (cs ++ Missing ∷ []) order (fitting-named ns cs r s.fitting);
    }

-- One more body
all_fit-set : (n : ℕ) (cs : List Stored) (j : ℕ) (c : Stored) → all_fit n cs ≡ true → fits n c ≡ true → all_fit n (slice_set cs j c) ≡ true
all_fit-set n [] j c w f = w
all_fit-set n (x ∷ cs) zero c w f = and_from _ _ f (and_parts (fits n x) _ w).1
all_fit-set n (x ∷ cs) (suc j) c w f =
    let (a, b) = and_parts (fits n x) _ w in
    and_from _ _ a (all_fit-set n cs j c b f)

count-set : (b : Bool) (m n : ℕ) → m + 1 ≡ n → cond b m (suc m) + 1 ≡ cond b n (suc n)
count-set true m n e = e
count-set false m n e = omega (arith, e)

count-first : (a b : Bool) (n : ℕ) → a ≡ true → b ≡ false → cond a n (suc n) + 1 ≡ cond b n (suc n)
count-first true true n e f = absurd cc
count-first true false n e f = omega arith
count-first false b n e f = absurd cc

empty_ones-set : (cs : List Stored) (j : ℕ) (c : Stored) → j < length cs → is_full (slice_get cs j) ≡ false → is_written c ≡ true → empty_ones (slice_set cs j c) + 1 ≡ empty_ones cs
empty_ones-set [] j c l f w = absurd (omega (arith, l))
empty_ones-set (x ∷ cs) zero c l f w = count-first (is_written c) (is_written x) (empty_ones cs) w f
empty_ones-set (x ∷ cs) (suc j) c l f w = count-set (is_written x) _ _ (empty_ones-set cs j c (omega (arith, l)) f w)

stands-push : (xs : List ℕ) (s j : ℕ) → stands s (xs ++ j ∷ []) ≡ (nat_eq s j || stands s xs)
stands-push [] s j = refl
stands-push (x ∷ xs) s j = ap (λ t. nat_eq s x || t) (stands-push xs s j) ∙ swap (nat_eq s x) (nat_eq s j) (stands s xs)
  where
    swap : (a b c : Bool) → (a || (b || c)) ≡ (b || (a || c))
    swap true true c = refl
    swap true false c = refl
    swap false true c = refl
    swap false false c = refl

ordered-set : (cs : List Stored) (order : List ℕ) (j : ℕ) (c : Stored) (s : ℕ) → j < length cs → is_written c ≡ true → stands s order ≡ is_full
    (slice_get cs s) → stands s (order ++ j ∷ []) ≡ is_full (slice_get (slice_set cs j c) s)
ordered-set cs order j c s l w e = elim (cases_eq s j) [
  | inl f ↦
      stands-push order s j ∙ ap (λ t. t || stands s order) (eq-eqb s j f)
      ∙ sym (ap (λ i. is_full (slice_get (slice_set cs j c) i)) f ∙ ap is_full (slice_get-written cs j c l) ∙ w)
  | inr f ↦ stands-push order s j ∙ ap (λ t. t || stands s order) (ne_eqb s j f) ∙ e ∙ ap is_full (sym (slice_get-others cs j s c f))
]

pub sound-written : (ns : List Ref) (cs : List Stored) (order : List ℕ) (j : ℕ) (c : Stored) → IsSound ns cs order → j < length cs →
    is_full (slice_get cs j) ≡ false → fits (length ns) c ≡ true → is_written c ≡ true → IsSound ns (slice_set cs j c) (order ++ j ∷ [])
sound-written ns cs order j c s l f w v =
    record {
      once = s.once;
      as_many = length-slice_set cs j c ∙ s.as_many;
      fitting = all_fit-set (length ns) cs j c s.fitting w;
      ordered = λ i. ordered-set cs order j c i l v (s.ordered i);
      counted = omega (arith, s.counted, length-append order (j ∷ []), empty_ones-set cs j c l f v, length-slice_set cs j c);
      named = map-named ns (slice_set cs j c) (order ++ j ∷ []);
      few = map-few ns (slice_set cs j c) (order ++ j ∷ []) (all_fit-set (length ns) cs j c s.fitting w);
    }

-- where a slot has no body, there is room for it in the order
pub order-room : (cs : List Stored) (order : List ℕ) (j : ℕ) → length order + empty_ones cs ≡ length cs → j < length cs → is_full (slice_get cs j) ≡ false → length order + 1 ≤ length cs
order-room cs order j n l f = omega (arith, n, empty_ones-some cs j l f)
  where
    case : (b : Bool) (m : ℕ) → 1 ≤ m → 1 ≤ cond b m (suc m)
    case true m l = l
    case false m l = omega arith

    first : (b : Bool) (m : ℕ) → b ≡ false → 1 ≤ cond b m (suc m)
    first true m e = absurd cc
    first false m e = omega arith

    empty_ones-some : (cs : List Stored) (j : ℕ) → j < length cs → is_full (slice_get cs j) ≡ false → 1 ≤ empty_ones cs
    empty_ones-some [] j l f = absurd (omega (arith, l))
    empty_ones-some (c ∷ cs) zero l f = first (is_written c) (empty_ones cs) f
    empty_ones-some (c ∷ cs) (suc j) l f = case (is_written c) _ (empty_ones-some cs j (omega (arith, l)) f)

pub sound-same : (ns ms : List Ref) (cs ds : List Stored) (os ps : List ℕ) → ms ≡ ns → ds ≡ cs → ps ≡ os → IsSound ns cs os → IsSound ms ds ps
sound-same ns ms cs ds os ps e f g w = subst (λ x. IsSound x ds ps) (sym e) (subst (λ x. IsSound ns x ps) (sym f) (subst (λ x. IsSound ns cs x) (sym g) w))

-- a name that has no equation has no body at its slot
pub empty_slot : (ns : List Ref) (cs : List Stored) (order : List ℕ) (s : ℕ) (r : Ref) → IsSound ns cs order → slice_get ns s ≡ Some r →
    find (map_in ns cs order) r ≡ None → is_full (slice_get cs s) ≡ false
empty_slot ns cs order s r w e f = by (slice_get cs s) refl (sym (find-slot ns cs order s r w.once (w.ordered s) e) ∙ f)
  where
    by : (o : Option Stored) → slice_get cs s ≡ o → option_and_then (body_from ns) o ≡ None → is_full o ≡ false
    by None g h = refl
    by (Some c) g h = false_from_ne_true (is_written c) (λ v. let (b, q) = body_from-some ns c (all_fit-at (length ns) cs s c w.fitting g) v in none-some b (sym h ∙ q))

-- what is found at a slot is the body there
pub body_at-is : (ns : List Ref) (cs : List Stored) (order : List ℕ) (s : ℕ) → IsSound ns cs order → body_at (map_in ns cs order) ns s ≡ body_in ns cs s
body_at-is ns cs order s w = by (slice_get ns s) refl
  where
    past : slice_get ns s ≡ None → length cs ≤ s
    past e = elim (cases_lt s (length cs)) [
      | inl l ↦ absurd (let h = here ns s (omega (arith, l, w.as_many)) in none-some h.0 (sym e ∙ h.1))
      | inr l ↦ l
    ]

    by : (o : Option Ref) → slice_get ns s ≡ o → option_and_then (find (map_in ns cs order)) o ≡ body_in ns cs s
    by None e = sym (ap (option_and_then (body_from ns)) (slice_get_past cs s (past e)))
    by (Some r) e = find-slot ns cs order s r w.once (w.ordered s) e

pub body_at-cell : (ns : List Ref) (cs : List Stored) (order : List ℕ) (s : ℕ) (c : Stored) → IsSound ns cs order → slice_get cs s ≡ Some c → body_at (map_in ns cs order) ns s ≡ body_from ns c
body_at-cell ns cs order s c w e = body_at-is ns cs order s w ∙ ap (option_and_then (body_from ns)) e

pub slot_fits : (ns : List Ref) (cs : List Stored) (order : List ℕ) (s : ℕ) (c : Stored) → IsSound ns cs order → slice_get cs s ≡ Some c → fits (length ns) c ≡ true
slot_fits ns cs order s c w e = all_fit-at (length ns) cs s c w.fitting e
