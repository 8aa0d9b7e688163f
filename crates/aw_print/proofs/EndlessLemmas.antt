-- A value that a circle through constructors makes endless has no draft to its end.
use Rattle.std.proofs.Common.{◌≡◌, ℕ, zero, suc, Bool, true, false, List, [], ◌∷◌, ◌++◌, map, codes, refl, sym, ap, subst, inl, inr, rules}
use Rattle.std.specs.Prelude.{Result, Ok, Err, IsErr, ◌||◌, ◌⊎◌}
use Rattle.aw_list.specs.Members.{Member}
use Rattle.aw_list.proofs.Members.{member_split}
use Rattle.aw_term.specs.Trees.{Head}
use Rattle.aw_term.specs.Names.{Ref}
use Rattle.aw_term.specs.Artifacts.{Words, head_text}
use Rattle.aw_store.specs.Equations.{Map}
use Rattle.aw_store.proofs.Ends.{At_body, Ends, stands, follows}
use Rattle.aw_out.specs.Report.{Bounded}
use Rattle.aw_out.specs.declared.error.PrintFault.{PrintFault}
use Rattle.aw_print.specs.Drafts.{Draft, Whole, Front, then, following, listed, with_parts, draft_on, draft}
use Rattle.aw_print.specs.Rows.{Reaches, here, same, part, IsEndless, values_draft}
use Rattle.aw_print.specs.Growing.{Ended}
use Rattle.aw_store.proofs.ChaseEnds.{ends-chase}

abbrev IsFront : Draft → Type 0
IsFront d = (a : List ℕ) × (d ≡ Front a)

then-front : (d e : Draft) → IsFront e → IsFront (then d e)
then-front (Whole a) e (b, f) = (a ++ b, ap (then (Whole a)) f)
then-front (Front a) e (b, f) = (a, refl)

front-then : (d e : Draft) → IsFront d → IsFront (then d e)
front-then d e (a, f) = (a, ap (λ x. then x e) f)

following-front : (f : Ref → Draft) (rs : List Ref) (s : Ref) → Member s rs → IsFront (f s) → IsFront (following (map f rs))
following-front f [] s m h = elim m [ ]
following-front f (r ∷ rs) s (inl e) h = then-front (Whole (codes ", ")) _ (front-then (f r) _ (subst (λ x. IsFront (f x)) e h))
following-front f (r ∷ rs) s (inr m) h = then-front (Whole (codes ", ")) _ (then-front (f r) _ (following-front f rs s m h))

listed-front : (f : Ref → Draft) (rs : List Ref) (s : Ref) → Member s rs → IsFront (f s) → IsFront (listed (map f rs))
listed-front f [] s m h = elim m [ ]
listed-front f (r ∷ rs) s (inl e) h = front-then (f r) _ (subst (λ x. IsFront (f x)) e h)
listed-front f (r ∷ rs) s (inr m) h = then-front (f r) _ (following-front f rs s m h)

parts-front : (head : List ℕ) (f : Ref → Draft) (rs : List Ref) (s : Ref) → Member s rs → IsFront (f s) → IsFront (with_parts head (map f rs))
parts-front head f [] s m h = elim m [ ]
parts-front head f (r ∷ rs) s m h = then-front (Whole (head ++ codes "(")) _ (front-then (listed (map f (r ∷ rs))) _ (listed-front f (r ∷ rs) s m h))

-- the body at which the chase ends, and a part from which the way goes on
record Onward (k : Map) (r t : Ref) : Type 0 where
  head : Head
  parts : List Ref
  steps : ℕ
  ends : Ends k (At_body head parts) steps r
  next : Ref
  among : Member next parts
  passes : Bool
  way : Reaches k passes next t

onward : (k : Map) {b : Bool} {r t : Ref} → Reaches k b r t → b ≡ true → Onward k r t
onward k here e = absurd cc
onward k (same f p) e = let o = onward k p e in record { head = o.head; parts = o.parts; steps = suc o.steps; ends = follows f o.ends; next = o.next; among = o.among; passes = o.passes; way = o.way }
onward k (part {b = b} {s = s} {h = h} {rs = rs} f m p) e = record { head = h; parts = rs; steps = 0; ends = stands f refl; next = s; among = m; passes = b; way = p }

both_ways : (k : Map) {b c : Bool} {r s t : Ref} → Reaches k b r s → Reaches k c s t → Reaches k (b || c) r t
both_ways k here q = q
both_ways k (same f p) q = same f (both_ways k p q)
both_ways k (part f m p) q = part f m (both_ways k p q)

passed : (k : Map) (b : Bool) (r s : Ref) → Reaches k (b || true) r s → Reaches k true r s
passed k true r s p = p
passed k false r s p = p

pub endless-front : (n : ℕ) (w : Words) (k : Map) (r : Ref) → IsEndless k r → IsFront (draft n w k r)
endless-front zero w k r e = ([], refl)
endless-front (suc n) w k r (s, b, p, q) =
    let o = onward k (passed k b r s (both_ways k p q)) refl in
    subst (λ x. IsFront (draft_on w (draft n w k) r x)) (sym (ends-chase k (At_body o.head o.parts) o.ends))
    (parts-front (head_text w o.head) (draft n w k) o.parts o.next o.among (endless-front n w k o.next (s, o.passes, o.way, q)))

values-front : (n : ℕ) (w : Words) (k : Map) (ins outs : List Ref) (r : Ref) → Member r ins ⊎ Member r outs → IsEndless k r → IsFront (values_draft n w k ins outs)
values-front n w k ins outs r (inl m) e = front-then (listed (map (draft n w k) ins)) _ (listed-front (draft n w k) ins r m (endless-front n w k r e))
values-front n w k ins outs r (inr m) e = then-front (listed (map (draft n w k) ins)) _
    (then-front (Whole (codes ") <")) _ (front-then (listed (map (draft n w k) outs)) _ (listed-front (draft n w k) outs r m (endless-front n w k r e))))

-- a line with such a value is never printed whole
pub never_ends : (w : Words) (k : Map) (opening : List ℕ) (ins outs : List Ref) (r : Ref) → Member r (ins ++ outs) → IsEndless k r →
    (old new : Bounded) (result : Result Unit PrintFault) → Ended (λ n. then (Whole opening) (values_draft n w k ins outs)) old new result → IsErr result
never_ends w k opening ins outs r m e old new (Ok done) (n, t, is, _) = let f = then-front (Whole opening) _ (values-front n w k ins outs r (member_split r ins outs m) e) in absurd (cc (f.1, is))
never_ends w k opening ins outs r m e old new (Err fault) s = search rules
