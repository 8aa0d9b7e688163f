-- Guards over equations, slot by slot.
use Rattle.std.proofs.Common.{◌≡◌, ℕ, zero, suc, ◌+◌, ◌<◌, true, false, cond, List, [], ◌∷◌, ◌++◌, length, map, drop, get_or, Option, Some, None, refl}
use Rattle.std.proofs.Common.{ap, sym, subst, ◌∙◌, arith, append_assoc, append-nil}
use Rattle.std.specs.Prelude.{slice_get, option_and_then, ◌&&◌, nat_eq}
use Rattle.std.proofs.Math.Bool.{and-true}
use Rattle.std.proofs.lemmas.Bool.{eqb-true, and_parts}
use Rattle.std.proofs.lemmas.List.{at_drop_more, drop_more, map-append, length-append}
use Rattle.std.proofs.lemmas.Option.{slice_get_within, get_or_from_slice_get}
use Rattle.aw_list.proofs.Everyday.{get_within as name_at}
use Rattle.aw_term.specs.Trees as P
use Rattle.aw_term.specs.Trees.{Head, Con, Leaf, Made, Nil, More, nats_eq, head_eq, join}
use Rattle.aw_term.specs.Names.{Ref}
use Rattle.aw_term.specs.Matching.{Matched, Yes, Waits, Differs, Circle, and_then, under}
use Rattle.aw_term.specs.WellFormed.{leaves, all_leaves}
use Rattle.aw_term.specs.Views.{pattern_of}
use Rattle.aw_term.specs.declared.term.Pattern.{Pattern}
use Rattle.aw_term.specs.declared.term.Pattern as pattern
use Rattle.aw_term.proofs.HeadTests.{head_eq-true}
use Rattle.aw_term.proofs.ViewLemmas.{pattern_con}
use Rattle.aw_store.specs.Equations.{Body, Same, Is, Map, find}
use Rattle.aw_store.specs.Chase.{Chased, Found, Missing, Round, chase}
use Rattle.aw_store.specs.ChaseView.{IsChasedTo}
use Rattle.aw_store.specs.NamedRefs.{body_at, as_text}
use Rattle.aw_store.specs.StoreView.{IsKindOf}
use Rattle.aw_store.specs.declared.facts.Kind.{Kind}
use Rattle.aw_store.specs.declared.facts.Kind.TheVariants as kind
use Rattle.aw_store.specs.declared.facts.Chase.TheVariants as answer
use Rattle.aw_store.proofs.ChaseLemmas.{chase_in-none, chase_in-is}
use Rattle.aw_apply.specs.Guard.{guard_end, guard, guard_parts, guard_all}
use Rattle.aw_apply.specs.Named.{AreNamed, names_at, as_named, behind, is_head}
use Rattle.aw_apply.specs.GuardView.{step_of}
use Rattle.aw_apply.specs.declared.guarding.Step.{Step}
use Rattle.aw_apply.specs.declared.guarding.Step.TheVariants as step

abbrev pub N : Type 0
N = Matched (Option Ref) (Option Ref)

-- What a chase has come to
pub chased_missing : (k : Map) (names : List Ref) (slot end : ℕ) (x : Chased) → IsChasedTo k names slot x (answer.Missing end) → (r : Ref) × (x ≡ Missing r) × (slice_get names end ≡ Some r)
chased_missing k names slot end (Found h parts) w = elim w [ ]
chased_missing k names slot end (Missing r) w = (r, refl, w)
chased_missing k names slot end Round w = elim w [ ]

pub chased_found : (k : Map) (names : List Ref) (slot end : ℕ) (x : Chased) → IsChasedTo k names slot x (answer.Found end) → (h : Head)
    × (parts : List Ref) × (x ≡ Found h parts) × (body_at k names end ≡ Some (Is h parts)) × (end < length names)
chased_found k names slot end (Found h parts) w = (h, parts, refl, ap (option_and_then (find k)) w.1 ∙ w.2, slice_get_within names end w.0 w.1)
chased_found k names slot end (Missing r) w = elim w [ ]
chased_found k names slot end Round w = elim w [ ]

-- one look at a slot whose reference has no equation
none_of : (names : List Ref) (b : Option Body) → IsKindOf names b kind.Missing → b ≡ None
none_of names None w = refl
none_of names (Some (Same r)) w = elim w [ ]
none_of names (Some (Is (Con c) parts)) w = elim w [ ]
none_of names (Some (Is (P.Num n) parts)) w = elim w [ ]
none_of names (Some (Is (P.Text t) parts)) w = elim w [ ]

-- one look at a slot that stands for no other one
is_here : (names : List Ref) (b : Option Body) (x : Kind) → IsKindOf names b x → (x ≡ kind.Missing → ⊥) → ((s : ℕ) → x ≡ kind.Same s → ⊥) → (h : Head) × (parts : List Ref) × (b ≡ Some (Is h parts))
is_here names (Some (Is h parts)) x w m s = (h, parts, refl)
is_here names None kind.Missing w m s = absurd (m refl)
is_here names None (kind.Same q) w m s = elim w [ ]
is_here names None (kind.Con c n) w m s = elim w [ ]
is_here names None (kind.Num n) w m s = elim w [ ]
is_here names None kind.Text w m s = elim w [ ]
is_here names (Some (Same r)) kind.Missing w m s = elim w [ ]
is_here names (Some (Same r)) (kind.Same q) w m s = absurd (s q refl)
is_here names (Some (Same r)) (kind.Con c n) w m s = elim w [ ]
is_here names (Some (Same r)) (kind.Num n) w m s = elim w [ ]
is_here names (Some (Same r)) kind.Text w m s = elim w [ ]

-- what one look tells of a chase
pub missing_here : (k : Map) (names : List Ref) (slot : ℕ) (r : Ref) → slice_get names slot ≡ Some r → IsKindOf names (body_at k names slot)
    kind.Missing → IsChasedTo k names slot (chase k r) (answer.Missing slot)
missing_here k names slot r e w =
    let b = ap (option_and_then (find k)) (sym e) ∙ none_of names (body_at k names slot) w in
    subst (λ x. IsChasedTo k names slot x (answer.Missing slot)) (sym (chase_in-none (length k) k r b)) e

pub found_here : (k : Map) (names : List Ref) (slot : ℕ) (x : Kind) (r : Ref) → slice_get names slot ≡ Some r → IsKindOf names (body_at k names slot)
    x → (x ≡ kind.Missing → ⊥) → ((s : ℕ) → x ≡ kind.Same s → ⊥) → IsChasedTo k names slot (chase k r) (answer.Found slot)
found_here k names slot x r e w m s =
    let (h, parts, f) = is_here names (body_at k names slot) x w m s in
    let b = ap (option_and_then (find k)) (sym e) ∙ f in
    subst (λ y. IsChasedTo k names slot y (answer.Found slot)) (sym (chase_in-is (length k) k r h parts b)) (r, e, b)

-- the end of a chase from a live slot is a live slot
pub found_live : (k : Map) (names : List Ref) (slot end : ℕ) → slot < length names →
    ((r : Ref) → slice_get names slot ≡ Some r → IsChasedTo k names slot (chase k r) (answer.Found end)) → end < length names
found_live k names slot end l w = let (r, e) = name_at names slot l in (chased_found k names slot end _ (w r e)).4

pub end_differs : (k : Map) (names : List Ref) (slot end : ℕ) (bs : List (Option Ref)) (path : List ℕ) (x : Chased) (go : List Ref → Matched Ref Ref) (h : Head) (n : ℕ) (r : Ref) →
    IsChasedTo k names slot x (answer.Found end) → is_head h n (body_at k names end) ≡ false → Differs path ≡ and_then (Yes bs) (behind path (as_named (guard_end x go h n r)))
end_differs k names slot end bs path x go h n r w t =
    let (j, parts, e, b, l) = chased_found k names slot end x w in
    let t' : (head_eq h j && nat_eq n (length parts)) ≡ false = ap (is_head h n) (sym b) ∙ t in
    ap Differs (sym (append-nil path))
    ∙ ap (λ c. and_then (Yes bs) (behind path (as_named (cond c (go parts) (Differs []))))) (sym t')
    ∙ ap (λ y. and_then (Yes bs) (behind path (as_named (guard_end y go h n r)))) (sym e)

pub end_goes : (k : Map) (names : List Ref) (slot end : ℕ) (bs : List (Option Ref)) (path : List ℕ) (x : Chased) (go : List Ref → Matched Ref Ref) (h : Head) (n : ℕ) (r : Ref) →
    IsChasedTo k names slot x (answer.Found end) → is_head h n (body_at k names end) ≡ true → (parts : List Ref)
    × (body_at k names end ≡ Some (Is h parts)) × (n ≡ length parts) × (and_then (Yes bs) (behind path (as_named (go parts))) ≡ and_then (Yes bs)
    (behind path (as_named (guard_end x go h n r))))
end_goes k names slot end bs path x go h n r w t =
    let (j, parts, e, b, l) = chased_found k names slot end x w in
    let t' : (head_eq h j && nat_eq n (length parts)) ≡ true = ap (is_head h n) (sym b) ∙ t in
    let (same, as_many) = and_parts _ _ t' in (
      parts,
      b ∙ ap (λ y. Some (Is y parts)) (sym (head_eq-true h j same)),
      eqb-true n (length parts) as_many,
      ap (λ c. and_then (Yes bs) (behind path (as_named (cond c (go parts) (Differs []))))) (sym t') ∙ ap (λ y. and_then (Yes bs) (behind path (as_named (guard_end y go h n r)))) (sym e),
    )

-- The parts from place i on, with numbers from n on
abbrev pub from : Map → ℕ → ℕ → List Pattern → List Ref → Matched Ref Ref
from k n i ps rs = guard_parts k n (join (map pattern_of (drop i ps))) (drop i rs)

-- a constructor in a pattern, as a plain one
pub con_term : (qs ps : List Pattern) (p : Pattern) (c : ℕ) → qs ≡ ps → p ≡ pattern.Con c ps → pattern_of p ≡ Made (Con c) (join (map pattern_of qs))
con_term qs ps p c e i = ap pattern_of i ∙ pattern_con c ps ∙ ap (λ zs. Made (Con c) (join (map pattern_of zs))) (sym e)

-- the variables of the patterns from a place on
pub leaves_at : (ps : List Pattern) (i : ℕ) (p : Pattern) → i < length ps → p ≡ get_or ps i p →
    length (all_leaves (join (map pattern_of (drop i ps)))) ≡ length (leaves (pattern_of p)) + length (all_leaves (join (map pattern_of (drop (i + 1) ps))))
leaves_at ps i p l e =
    ap (λ zs. length (all_leaves (join (map pattern_of zs)))) (at_drop_more (λ zs. zs) ps i p l ∙ ap (λ z. z ∷ drop (i + 1) ps) (sym e))
    ∙ length-append (leaves (pattern_of p)) (all_leaves (join (map pattern_of (drop (i + 1) ps))))

-- Joining matches
assoc : (xs : List (Option Ref)) (m n : N) → and_then (Yes xs) (and_then m n) ≡ and_then (and_then (Yes xs) m) n
assoc xs (Yes ys) (Yes zs) = ap Yes (sym (append_assoc xs ys zs))
assoc xs (Yes ys) (Waits r) = refl
assoc xs (Yes ys) (Differs p) = refl
assoc xs (Yes ys) (Circle r) = refl
assoc xs (Waits r) n = refl
assoc xs (Differs p) n = refl
assoc xs (Circle r) n = refl

-- one part behind a path, and then the others
behind_parts : (q : List ℕ) (n : ℕ) (a b : Matched Ref Ref) → behind q (as_named (and_then (under n a) b)) ≡ and_then (behind (q ++ n ∷ []) (as_named a)) (behind q (as_named b))
behind_parts q n (Yes xs) (Yes ys) = ap Yes (map-append Some xs ys)
behind_parts q n (Yes xs) (Waits r) = refl
behind_parts q n (Yes xs) (Differs p) = refl
behind_parts q n (Yes xs) (Circle r) = refl
behind_parts q n (Waits r) b = refl
behind_parts q n (Differs p) b = ap Differs (sym (append_assoc q (n ∷ []) p))
behind_parts q n (Circle r) b = refl

pub part_at : (rs : List Ref) (i : ℕ) (r : Ref) → slice_get rs i ≡ Some r → drop i rs ≡ r ∷ drop (i + 1) rs
part_at rs i r e = drop_more rs i r (slice_get_within rs i r e) ∙ ap (λ x. x ∷ drop (i + 1) rs) (get_or_from_slice_get rs i r r e)

from_more : (k : Map) (n i : ℕ) (ps : List Pattern) (rs : List Ref) (p : Pattern) (r : Ref) → i < length ps → p ≡ get_or ps i p →
    slice_get rs i ≡ Some r → from k n i ps rs ≡ and_then (under n (guard k (pattern_of p) r)) (from k (suc n) (i + 1) ps rs)
from_more k n i ps rs p r l e f =
    ap (λ zs. guard_parts k n (join (map pattern_of zs)) (drop i rs)) (at_drop_more (λ zs. zs) ps i p l ∙ ap (λ z. z ∷ drop (i + 1) ps) (sym e))
    ∙ ap (guard_parts k n (More (pattern_of p) (join (map pattern_of (drop (i + 1) ps))))) (part_at rs i r f)

-- one more part has given this, and the rest follows it
pub one_more : (k : Map) (q here : List ℕ) (n i : ℕ) (ps : List Pattern) (rs : List Ref) (p : Pattern) (r : Ref) (xs : List (Option Ref))
    (s whole : N) → i < length ps → p ≡ get_or ps i p → slice_get rs i ≡ Some r → here ≡ q ++ n ∷ [] →
    s ≡ and_then (Yes xs) (behind here (as_named (guard k (pattern_of p) r))) →
    and_then (Yes xs) (behind q (as_named (from k n i ps rs))) ≡ whole →
    and_then s (behind q (as_named (from k (suc n) (i + 1) ps rs))) ≡ whole
one_more k q here n i ps rs p r xs s whole l e f h es w =
    ap (λ z. and_then z (behind q (as_named (from k (suc n) (i + 1) ps rs)))) (es ∙ ap (λ z. and_then (Yes xs) (behind z (as_named (guard k (pattern_of p) r)))) h)
    ∙ sym (assoc xs _ _)
    ∙ ap (and_then (Yes xs)) (sym (behind_parts q n _ _))
    ∙ ap (λ z. and_then (Yes xs) (behind q (as_named z))) (sym (from_more k n i ps rs p r l e f))
    ∙ w

-- a pattern that does not match decides
pub not_yes : (names : List Ref) (bound : List ℕ) (s : Step) (m : N) → (s ≡ step.Yes → ⊥) → and_then (step_of names bound s) m ≡ step_of names bound s
not_yes names bound step.Yes m w = absurd (w refl)
not_yes names bound (step.Waits slot) m w = refl
not_yes names bound (step.Differs path) m w = refl
not_yes names bound (step.Circle slot) m w = refl

-- a text in a pattern, and the text at a slot
pub is_text : (names : List Ref) (b : Option Body) (t u : List ℕ) → IsKindOf names b kind.Text → as_text b ≡ Some u → nats_eq t u ≡ is_head (P.Text t) 0 b
is_text names None t u w e = elim w [ ]
is_text names (Some (Same r)) t u w e = elim w [ ]
is_text names (Some (Is (Con c) parts)) t u w e = elim w [ ]
is_text names (Some (Is (P.Num n) parts)) t u w e = elim w [ ]
is_text names (Some (Is (P.Text v) parts)) t u w e =
    let f : u ≡ v = cc in
    ap (nats_eq t) f ∙ sym (and-true (nats_eq t v)) ∙ ap (λ p. nats_eq t v && nat_eq 0 (length p)) (sym w)

-- The patterns from attribute i on, with numbers from n on
abbrev pub all_from : Map → ℕ → ℕ → List Pattern → List Ref → Matched Ref Ref
all_from k n i ps rs = guard_all k n (map pattern_of (drop i ps)) (drop i rs)

-- the reference that one of these slots names
named_slot : (names : List Ref) (slots : List ℕ) (rs : List Ref) (i : ℕ) → AreNamed names slots rs → i < length slots → (r : Ref)
    × (slice_get rs i ≡ Some r) × (slice_get names (get_or slots i 0) ≡ Some r)
named_slot names [] rs i w l = absurd (omega (arith, l))
named_slot names (x ∷ slots) [] i w l = absurd cc
named_slot names (x ∷ slots) (r ∷ rs) zero w l = let f : slice_get names x ≡ Some r = cc in (r, refl, f)
named_slot names (x ∷ slots) (r ∷ rs) (suc i) w l = let f : AreNamed names slots rs = cc in named_slot names slots rs i f (omega (arith, l))

all_more : (k : Map) (n i : ℕ) (ps : List Pattern) (rs : List Ref) (p : Pattern) (r : Ref) → i < length ps → p ≡ get_or ps i p →
    slice_get rs i ≡ Some r → all_from k n i ps rs ≡ and_then (under n (guard k (pattern_of p) r)) (all_from k (suc n) (i + 1) ps rs)
all_more k n i ps rs p r l e f =
    ap (λ zs. guard_all k n (map pattern_of zs) (drop i rs)) (at_drop_more (λ zs. zs) ps i p l ∙ ap (λ z. z ∷ drop (i + 1) ps) (sym e))
    ∙ ap (guard_all k n (pattern_of p ∷ map pattern_of (drop (i + 1) ps))) (part_at rs i r f)

-- one attribute, and then the others
under_named : (n : ℕ) (xs : List (Option Ref)) (a b : Matched Ref Ref) → and_then (Yes xs) (as_named (and_then (under n a) b)) ≡ and_then
    (under n (and_then (Yes xs) (behind [] (as_named a)))) (as_named b)
under_named n xs (Yes ys) (Yes zs) = ap (λ t. Yes (xs ++ t)) (map-append Some ys zs) ∙ ap Yes (sym (append_assoc xs (map Some ys) (map Some zs)))
under_named n xs (Yes ys) (Waits r) = refl
under_named n xs (Yes ys) (Differs p) = refl
under_named n xs (Yes ys) (Circle r) = refl
under_named n xs (Waits r) b = refl
under_named n xs (Differs p) b = refl
under_named n xs (Circle r) b = refl

-- one more attribute has given this, and the rest follows it
pub one_attribute : (k : Map) (names : List Ref) (here : List ℕ) (n i : ℕ) (ps : List Pattern) (slots : List ℕ) (rs : List Ref) (p : Pattern) (old new : List ℕ) (x y : Step) (whole : N) →
    length ps ≡ length slots → i < length ps → p ≡ get_or ps i p → AreNamed names slots rs → here ≡ [] → y ≡ x →
    ((r : Ref) → slice_get names (get_or slots i 0) ≡ Some r → step_of names new y ≡ and_then (Yes (names_at names old)) (behind here (as_named (guard k (pattern_of p) r)))) →
    and_then (Yes (names_at names old)) (as_named (all_from k n i ps rs)) ≡ whole →
    and_then (under n (step_of names new x)) (as_named (all_from k (suc n) (i + 1) ps rs)) ≡ whole
one_attribute k names here n i ps slots rs p old new x y whole same l e named h is es w =
    let (r, f, live) = named_slot names slots rs i named (omega (arith, l, same)) in
    let xs = names_at names old in
    ap (λ z. and_then (under n z) (as_named (all_from k (suc n) (i + 1) ps rs)))
    (ap (step_of names new) (sym is) ∙ es r live ∙ ap (λ z. and_then (Yes xs) (behind z (as_named (guard k (pattern_of p) r)))) h)
    ∙ sym (under_named n xs _ _)
    ∙ ap (λ z. and_then (Yes xs) (as_named z)) (sym (all_more k n i ps rs p r l e f))
    ∙ w
