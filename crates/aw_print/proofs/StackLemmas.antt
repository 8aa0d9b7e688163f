-- Values on a stack.
use Rattle.std.proofs.Common.{◌≡◌, ℕ, suc, ◌-◌, ◌<◌, ◌≤◌, List, [], ◌∷◌, ◌++◌, map, drop, take, length, codes, Some, Bool, true, false, cond}
use Rattle.std.proofs.Common.{refl, sym, ap, ◌∙◌, subst, arith, append_assoc, append-nil, length-append}
use Rattle.std.specs.Prelude.{Option, None, slice_get, slice_range, option_and_then}
use Rattle.std.proofs.lemmas.Option.{slice_get_within}
use Rattle.std.proofs.lemmas.List.{drop-append-le, take-append-le, length-drop, take_all}
use Rattle.std.proofs.lemmas.Bool.{and_parts, both_ways}
use Rattle.aw_list.proofs.Everyday.{get_within as name_at, from_here as drop_at}
use Rattle.aw_term.specs.Trees as T
use Rattle.aw_term.specs.Trees.{Head}
use Rattle.aw_term.specs.Names.{Ref, ref_eq}
use Rattle.aw_term.specs.Artifacts.{Words, ref_text}
use Rattle.aw_term.proofs.RefTests.{ref_eq-true}
use Rattle.aw_store.specs.Equations as P
use Rattle.aw_store.specs.Equations.{Map, Is, Same, find}
use Rattle.aw_store.specs.NamedRefs.{con_parts, as_text, body_at, is_named, has_names, has_names_of}
use Rattle.aw_store.specs.StoreView.{IsKindOf}
use Rattle.aw_store.specs.Chase.{Chased, Found, Missing, Round}
use Rattle.aw_store.specs.ChaseView.{IsChasedTo}
use Rattle.aw_store.specs.declared.facts.Kind.TheVariants as kind
use Rattle.aw_store.specs.declared.facts.Chase.TheVariants as answer
use Rattle.aw_store.proofs.ChaseLemmas.{chase_in-none}
use Rattle.aw_out.specs.Report.{Bounded}
use Rattle.aw_out.proofs.Printing.{printed-nil}
use Rattle.aw_print.specs.declared.stack.Piece.{Piece}
use Rattle.aw_print.specs.declared.stack.Piece.TheVariants.{First, Next, Close}
use Rattle.aw_print.specs.declared.stack.Span.{Span}
use Rattle.aw_print.specs.Drafts.{Draft, Whole, then, following, listed, draft_on, draft}
use Rattle.aw_print.specs.Stacks.{named_draft, piece_draft, pending, IsLive, AreLive, IsPart, AreParts, IsOpen, AreOpen, IsKept, Origin, pieces_draft, begun_draft, Notes, following_behind}
use Rattle.aw_print.specs.Growing.{Begins, LeadTo, Printing, Underway, printing}
use Rattle.aw_print.proofs.DraftLemmas.{then-assoc, then-nothing, nothing-then, then-Begins, Grows, then-Grows, draft-next}
use Rattle.aw_print.proofs.LeadLemmas.{lead-same, lead-on, lead-then, lead-behind}
use Rattle.aw_print.proofs.GrowingLemmas.{whole_is}

pub pending_push : (n : ℕ) (w : Words) (k : Map) (names : List Ref) (ps : List Piece) (p : Piece) → pending n w k names (ps ++ p ∷ []) ≡ then (piece_draft n w k names p) (pending n w k names ps)
pending_push n w k names [] p = nothing-then (piece_draft n w k names p) ∙ sym (then-nothing (piece_draft n w k names p))
pending_push n w k names (q ∷ ps) p = ap (λ d. then d (piece_draft n w k names q)) (pending_push n w k names ps p)
    ∙ then-assoc (piece_draft n w k names p) (pending n w k names ps) (piece_draft n w k names q)

pub live_push : (names : List Ref) (ps : List Piece) (p : Piece) → AreLive names ps → IsLive names p → AreLive names (ps ++ p ∷ [])
live_push names [] p a b = (b, tt)
live_push names (q ∷ ps) p a b = (a.0, live_push names ps p a.1 b)

pub live_pop : (names : List Ref) (ps : List Piece) (p : Piece) → AreLive names (ps ++ p ∷ []) → AreLive names ps × IsLive names p
live_pop names [] p a = (tt, a.0)
live_pop names (q ∷ ps) p a = let h = live_pop names ps p a.1 in ((a.0, h.0), h.1)

-- a part at a slot, behind the first
pub next_part : (m : ℕ) (w : Words) (k : Map) (names parts : List Ref) (s i j : ℕ) → i < length parts → j ≡ suc i → slice_get names s ≡ slice_get parts i →
    then (piece_draft m w k names (Next s)) (following (map (draft m w k) (drop j parts))) ≡ following (map (draft m w k) (drop i parts))
next_part m w k names parts s i j l ej e =
    let (r, f) = name_at parts i l in
    let more = following (map (draft m w k) (drop (suc i) parts)) in
    ap (λ x. then (piece_draft m w k names (Next s)) (following (map (draft m w k) (drop x parts)))) ej
    ∙ ap (λ o. then (then (Whole (codes ", ")) (named_draft m w k o)) more) (e ∙ f)
    ∙ then-assoc (Whole (codes ", ")) (draft m w k r) more
    ∙ ap (λ ps. following (map (draft m w k) ps)) (sym (drop_at parts i r f))

pub live_part : (names parts : List Ref) (s i : ℕ) → i < length parts → slice_get names s ≡ slice_get parts i → s < length names
live_part names parts s i l e = let (r, f) = name_at parts i l in slice_get_within names s r (e ∙ f)

-- the parts behind the first
pub behind_first : (part : Ref → Draft) (rs : List Ref) → 0 < length rs → following (map part (drop 1 rs)) ≡ following_behind part rs
behind_first part [] l = absurd (omega (arith, l))
behind_first part (r ∷ rs) l = refl

-- all parts, the first of them by its slot
pub all_parts : (m : ℕ) (w : Words) (k : Map) (names parts : List Ref) (s : ℕ) → 0 < length parts → slice_get names s ≡ slice_get parts 0 →
    then (piece_draft m w k names (First s)) (following_behind (draft m w k) parts) ≡ listed (map (draft m w k) parts)
all_parts m w k names [] s l e = absurd (omega (arith, l))
all_parts m w k names (r ∷ rs) s l e = ap (λ o. then (named_draft m w k o) (following (map (draft m w k) rs))) e

-- pieces behind others
pub pending_append : (n : ℕ) (w : Words) (k : Map) (names : List Ref) (ps qs : List Piece) → pending n w k names (ps ++ qs) ≡ then (pending n w k names qs) (pending n w k names ps)
pending_append n w k names [] qs = sym (then-nothing (pending n w k names qs))
pending_append n w k names (p ∷ ps) qs = ap (λ d. then d (piece_draft n w k names p)) (pending_append n w k names ps qs)
    ∙ then-assoc (pending n w k names qs) (pending n w k names ps) (piece_draft n w k names p)

pub live_append : (names : List Ref) (ps qs : List Piece) → AreLive names ps → AreLive names qs → AreLive names (ps ++ qs)
live_append names [] qs a b = b
live_append names (p ∷ ps) qs a b = (a.0, live_append names ps qs a.1 b)

pub parts_push : (ps : List Piece) (p : Piece) → AreParts ps → IsPart p → AreParts (ps ++ p ∷ [])
parts_push [] p a b = (b, tt)
parts_push (q ∷ ps) p a b = (a.0, parts_push ps p a.1 b)

part_open : (o : Origin) (bytes : List ℕ) (p : Piece) (above : List Piece) → IsPart p → IsOpen o bytes p above
part_open o bytes (First s) above a = tt
part_open o bytes (Next s) above a = tt
part_open o bytes (Close s from) above a = elim a [ ]

pub parts_open : (o : Origin) (bytes : List ℕ) (ps : List Piece) → AreParts ps → AreOpen o bytes ps
parts_open o bytes [] a = tt
parts_open o bytes (p ∷ ps) a = (part_open o bytes p ps a.0, parts_open o bytes ps a.1)

-- one more piece is noted
pub notes_push : (o : Origin) (all more : ℕ → Draft) (before mid after : List Piece) (p : Piece) → Notes o all before mid → after ≡ mid ++ p ∷ [] → IsLive o.names p → IsPart p →
    ((n : ℕ) → then (piece_draft n o.words o.equations o.names p) (all n) ≡ more n) → Notes o more before after
notes_push o all more before mid after p notes e live part h = record {
  added = notes.added ++ p ∷ [];
  stack = e ∙ ap (λ x. x ++ p ∷ []) notes.stack ∙ append_assoc before notes.added (p ∷ []);
  drafts = λ n. pending_push n o.words o.equations o.names notes.added p ∙ ap (then (piece_draft n o.words o.equations o.names p)) (notes.drafts n) ∙ h n;
  live = live_push o.names notes.added p notes.live live;
  parts = parts_push notes.added p notes.parts part;
}

-- nothing is noted yet
pub notes_none : (o : Origin) (all : ℕ → Draft) (before : List Piece) → ((n : ℕ) → all n ≡ Whole []) → Notes o all before before
notes_none o all before h = record { added = []; stack = sym (append-nil before); drafts = λ n. sym (h n); live = tt; parts = tt }

pub notes_as : (o : Origin) (all more : ℕ → Draft) (before after : List Piece) → ((n : ℕ) → all n ≡ more n) → Notes o all before after → Notes o more before after
notes_as o all more before after h notes = record { added = notes.added; stack = notes.stack; drafts = λ n. notes.drafts n ∙ h n; live = notes.live; parts = notes.parts }

-- what stands at a slot by its kind
pub con_count : (names : List Ref) (b : Option P.Body) (c n : ℕ) → IsKindOf names b (kind.Con c n) → length (con_parts b) ≡ n
con_count names None c n w = elim w [ ]
con_count names (Some (P.Same r)) c n w = elim w [ ]
con_count names (Some (P.Is (T.Con d) parts)) c n w = sym w.1
con_count names (Some (P.Is (T.Num d) parts)) c n w = elim w [ ]
con_count names (Some (P.Is (T.Text d) parts)) c n w = elim w [ ]

pub text_there : (names : List Ref) (b : Option P.Body) → IsKindOf names b kind.Text → (t : List ℕ) × (as_text b ≡ Some t) × (b ≡ Some (P.Is (T.Text t) []))
text_there names None w = elim w [ ]
text_there names (Some (P.Same r)) w = elim w [ ]
text_there names (Some (P.Is (T.Con d) parts)) w = elim w [ ]
text_there names (Some (P.Is (T.Num d) parts)) w = elim w [ ]
text_there names (Some (P.Is (T.Text d) parts)) w = (d, refl, ap (λ ps. Some (P.Is (T.Text d) ps)) w)

pub con_found : (names : List Ref) (b : Option P.Body) (c n : ℕ) (h : Head) (rs : List Ref) → IsKindOf names b (kind.Con c n) → b ≡ Some (P.Is h rs) → Found (T.Con c) (con_parts b) ≡ Found h rs
con_found names None c n h rs w e = elim w [ ]
con_found names (Some (P.Same r)) c n h rs w e = elim w [ ]
con_found names (Some (P.Is (T.Con d) parts)) c n h rs w e = let f : c ≡ d = w.0 in cc
con_found names (Some (P.Is (T.Num d) parts)) c n h rs w e = elim w [ ]
con_found names (Some (P.Is (T.Text d) parts)) c n h rs w e = elim w [ ]

pub num_found : (names : List Ref) (b : Option P.Body) (m : ℕ) (h : Head) (rs : List Ref) → IsKindOf names b (kind.Num m) → b ≡ Some (P.Is h rs) → Found (T.Num m) [] ≡ Found h rs
num_found names None m h rs w e = elim w [ ]
num_found names (Some (P.Same r)) m h rs w e = elim w [ ]
num_found names (Some (P.Is (T.Con d) parts)) m h rs w e = elim w [ ]
num_found names (Some (P.Is (T.Num d) parts)) m h rs w e = let f : m ≡ d = w.0 in let l : parts ≡ [] = w.1 in cc
num_found names (Some (P.Is (T.Text d) parts)) m h rs w e = elim w [ ]

pub text_found : (names : List Ref) (b : Option P.Body) (t : List ℕ) (h : Head) (rs : List Ref) → IsKindOf names b kind.Text → as_text b ≡ Some t →
    b ≡ Some (P.Is h rs) → Found (T.Text t) [] ≡ Found h rs
text_found names b t h rs w f e = let (u, p, q) = text_there names b w in let same : u ≡ t = cc in cc

-- where a chase ends
pub chased_found : (k : Map) (names : List Ref) (slot at : ℕ) (x : Chased) → IsChasedTo k names slot x (answer.Found at) → (h : Head)
    × (rs : List Ref) × (x ≡ Found h rs) × (body_at k names at ≡ Some (P.Is h rs)) × (at < length names)
chased_found k names slot at (Found h rs) w = let (r, e, f) = w in (h, rs, refl, ap (option_and_then (find k)) e ∙ f, slice_get_within names at r e)
chased_found k names slot at (Missing r) w = elim w [ ]
chased_found k names slot at Round w = elim w [ ]

pub chased_missing : (k : Map) (names : List Ref) (slot at : ℕ) (x : Chased) → IsChasedTo k names slot x (answer.Missing at) → (r : Ref) × (x ≡ Missing r) × (slice_get names at ≡ Some r)
chased_missing k names slot at (Found h rs) w = elim w [ ]
chased_missing k names slot at (Missing r) w = (r, refl, w)
chased_missing k names slot at Round w = elim w [ ]

pub chased_round : (k : Map) (names : List Ref) (slot at : ℕ) (x : Chased) → IsChasedTo k names slot x (answer.Circle at) → (x ≡ Round) × (at ≡ slot)
chased_round k names slot at (Found h rs) w = elim w [ ]
chased_round k names slot at (Missing r) w = elim w [ ]
chased_round k names slot at Round w = (refl, w)

-- what a stack stands for grows with the depth
named-next : (n : ℕ) (w : Words) (k : Map) (o : Option Ref) → Begins (named_draft n w k o) (named_draft (suc n) w k o)
named-next n w k None = refl
named-next n w k (Some r) = draft-next n w k r

pub piece-next : (n : ℕ) (w : Words) (k : Map) (names : List Ref) (p : Piece) → Begins (piece_draft n w k names p) (piece_draft (suc n) w k names p)
piece-next n w k names (First s) = named-next n w k (slice_get names s)
piece-next n w k names (Next s) = then-Begins (Whole (codes ", ")) (Whole (codes ", ")) _ _ refl (named-next n w k (slice_get names s))
piece-next n w k names (Close s from) = refl

pub pending-next : (n : ℕ) (w : Words) (k : Map) (names : List Ref) (ps : List Piece) → Begins (pending n w k names ps) (pending (suc n) w k names ps)
pending-next n w k names [] = refl
pending-next n w k names (p ∷ ps) = then-Begins (pending n w k names ps) (pending (suc n) w k names ps) _ _ (pending-next n w k names ps) (piece-next n w k names p)

-- more bytes behind those that were made
pub dropped : (from : ℕ) (old new t : List ℕ) → from ≤ length old → new ≡ old ++ t → drop from new ≡ drop from old ++ t
dropped from old new t l e = ap (drop from) e ∙ drop-append-le from old t l

-- the end of a constructor stays open while the pieces above it are printed
begun_on : (o : Origin) (old new t : List ℕ) (p : Piece) (added qs : List Piece) (from : ℕ) → from ≤ length old → new ≡ old ++ t →
    LeadTo (λ n. then (Whole t) (pieces_draft o added n)) (λ n. piece_draft n o.words o.equations o.names p) → LeadTo (begun_draft o new from (qs ++ added)) (begun_draft o old from (qs ++ p ∷ []))
begun_on o old new t p added qs from l e h =
    let front = Whole (drop from old) in
    let close = Whole (codes ")") in
    let rest = λ (n : ℕ). then (pieces_draft o qs n) close in
    let one = λ (n : ℕ). piece_draft n o.words o.equations o.names p in
    let more = λ (n : ℕ). then (Whole t) (pieces_draft o added n) in
    let left : (n : ℕ) → begun_draft o new from (qs ++ added) n ≡ then front (then (more n) (rest n)) = λ n.
    ap (λ x. then (Whole x) (then (pieces_draft o (qs ++ added) n) close)) (dropped from old new t l e)
    ∙ then-assoc front (Whole t) (then (pieces_draft o (qs ++ added) n) close)
    ∙ ap (λ d. then front (then (Whole t) (then d close))) (pending_append n o.words o.equations o.names qs added)
    ∙ ap (λ d. then front (then (Whole t) d)) (then-assoc (pieces_draft o added n) (pieces_draft o qs n) close)
    ∙ ap (then front) (sym (then-assoc (Whole t) (pieces_draft o added n) (rest n))) in
    let right : (n : ℕ) → then front (then (one n) (rest n)) ≡ begun_draft o old from (qs ++ p ∷ []) n = λ n.
    ap (then front) (sym (then-assoc (one n) (pieces_draft o qs n) close) ∙ ap (λ d. then d close) (sym (pending_push n o.words o.equations o.names qs p))) in
    let rest-grows : Grows rest = then-Grows (pieces_draft o qs) (λ n. close) (λ n. pending-next n o.words o.equations o.names qs) (λ n. refl) in
    let one-grows : Grows one = λ n. piece-next n o.words o.equations o.names p in
    lead-on (begun_draft o new from (qs ++ added)) (λ n. then front (then (more n) (rest n))) (begun_draft o old from (qs ++ p ∷ []))
    (lead-same (begun_draft o new from (qs ++ added)) (λ n. then front (then (more n) (rest n))) left)
    (lead-on (λ n. then front (then (more n) (rest n))) (λ n. then front (then (one n) (rest n))) (begun_draft o old from (qs ++ p ∷ []))
    (lead-behind front (λ n. then (more n) (rest n)) (λ n. then (one n) (rest n)) (lead-then more rest one rest one-grows rest-grows h (lead-same rest rest (λ n. refl))))
    (lead-same (λ n. then front (then (one n) (rest n))) (begun_draft o old from (qs ++ p ∷ [])) right))

open_on : (o : Origin) (old new t : List ℕ) (p : Piece) (added : List Piece) (q : Piece) (qs : List Piece) → new ≡ old ++ t →
    LeadTo (λ n. then (Whole t) (pieces_draft o added n)) (λ n. piece_draft n o.words o.equations o.names p) → IsOpen o old q (qs ++ p ∷ []) → IsOpen o new q (qs ++ added)
open_on o old new t p added (First s) qs e h a = tt
open_on o old new t p added (Next s) qs e h a = tt
open_on o old new t p added (Close s from) qs e h a = (
  omega (arith, a.0, ap length e, length-append old t),
  λ r f. lead-on (begun_draft o new from (qs ++ added)) (begun_draft o old from (qs ++ p ∷ [])) (λ n. draft n o.words o.equations r) (begun_on o old new t p added qs from a.0 e h) (a.1 r f),
)

pub opens_on : (o : Origin) (old new t : List ℕ) (p : Piece) (added : List Piece) → new ≡ old ++ t →
    LeadTo (λ n. then (Whole t) (pieces_draft o added n)) (λ n. piece_draft n o.words o.equations o.names p) →
    AreOpen o new added → (qs : List Piece) → AreOpen o old (qs ++ p ∷ []) → AreOpen o new (qs ++ added)
opens_on o old new t p added e h b [] a = b
opens_on o old new t p added e h b (q ∷ qs) a = (open_on o old new t p added q qs e h a.0, opens_on o old new t p added e h b qs a.1)

pub open_top : (o : Origin) (bytes : List ℕ) (qs : List Piece) (p : Piece) → AreOpen o bytes (qs ++ p ∷ []) → IsOpen o bytes p []
open_top o bytes [] p a = a.0
open_top o bytes (q ∷ qs) p a = open_top o bytes qs p a.1

-- what stands among the bytes stands there when there are more
pub range_on : (from until : ℕ) (old new t : List ℕ) → from ≤ until → until ≤ length old → new ≡ old ++ t → slice_range new from until ≡ slice_range old from until
range_on from until old new t a b e =
    ap (take (until - from)) (dropped from old new t (omega (arith, a, b)) e) ∙ take-append-le (until - from) (drop from old) t (omega (arith, a, b, length-drop from old))

pub kept_on : (o : Origin) (old new t : List ℕ) (x : Span) → new ≡ old ++ t → IsKept o old x → IsKept o new x
kept_on o old new t x e kept = record {
  order = kept.order;
  within = omega (arith, kept.within, ap length e, length-append old t);
  text = λ r f. let (m, d) = kept.text r f in (m, d ∙ ap Whole (sym (range_on x.from x.until old new t kept.order kept.within e)));
}

-- the end of a constructor was printed
pub closed_kept : (o : Origin) (old new : List ℕ) (slot from : ℕ) → new ≡ old ++ codes ")" → IsOpen o old (Close slot from) [] → IsKept o new (record { slot = slot; from = from; until = length new })
closed_kept o old new slot from e a = record {
  order = omega (arith, a.0, ap length e, length-append old (codes ")"));
  within = omega arith;
  text = λ r f.
      let (m, b) = a.1 r f 0 in
      let whole : slice_range new from (length new) ≡ drop from new = take_all (length new - from) (drop from new) (omega (arith, length-drop from new)) in
      (m, whole_is _ (draft m o.words o.equations r) b ∙ ap Whole (sym (whole ∙ dropped from old new (codes ")") a.0 e)));
}

-- the last piece, and those below it
pub popped : (w : Words) (k : Map) (names : List Ref) (all : ℕ → Draft) (old new : Printing) (ps qs : List Piece) (p : Piece) → ps ≡ qs ++ p ∷ [] →
    Underway all old new (λ n. pending n w k names ps) → Underway all old new (λ n. then (piece_draft n w k names p) (pending n w k names qs))
popped w k names all old new ps qs p e u = record {
  taken = u.taken;
  out = u.out;
  report = u.report;
  gathered = u.gathered;
  rest = λ n. let (m, b) = u.rest n in (m, subst (λ d. Begins (then (Whole u.out) d) (all m)) (ap (pending n w k names) e ∙ pending_push n w k names qs p) b);
}

-- nothing is left on the stack
pub emptied : (w : Words) (k : Map) (names : List Ref) (all : ℕ → Draft) (old new : Printing) (ps : List Piece) → ps ≡ [] → Underway all old new
    (λ n. pending n w k names ps) → Underway all old new (λ n. Whole [])
emptied w k names all old new ps e u = subst (λ qs. Underway all old new (λ n. pending n w k names qs)) e u

-- a reference that is not named has no equation
unnamed_by : (b : Bool) (names : List Ref) (k : Map) (r : Ref) (e : P.Equation) → ref_eq r e.left ≡ b → is_named names e.left ≡ true →
    is_named names r ≡ false → find k r ≡ None → cond b (Some e.body) (find k r) ≡ None
unnamed_by true names k r e p w v f = absurd (both_ways (is_named names r) v (ap (is_named names) (ref_eq-true r e.left p) ∙ w))
unnamed_by false names k r e p w v f = f

pub unnamed : (names : List Ref) (k : Map) (r : Ref) → has_names names k ≡ true → is_named names r ≡ false → find k r ≡ None
unnamed names [] r w v = refl
unnamed names (e ∷ k) r w v =
    let (a, b) = and_parts (has_names_of names e) _ w in
    let (c, d) = and_parts (is_named names e.left) _ a in
    unnamed_by (ref_eq r e.left) names k r e refl c v (unnamed names k r b v)

-- the text of a reference without an equation
pub missing_underway : (w : Words) (k : Map) (r : Ref) (old new : List ℕ) (p : Bounded) → find k r ≡ None → new ≡ old ++ (codes "?" ++ ref_text w r) →
    Underway (λ n. draft n w k r) (printing old p) (printing new p) (λ n. Whole [])
missing_underway w k r old new p f e =
    let out = codes "?" ++ ref_text w r in
    record {
      taken = [];
      out = out;
      report = sym (printed-nil p);
      gathered = e;
      rest = λ n. (1, subst (Begins (Whole (out ++ []))) (sym (ap (draft_on w (draft 0 w k) r) (chase_in-none (length k) k r f))) (sym (append-nil out)));
    }

-- a stack with one slot stands for what the slot names
pub one_slot : (n : ℕ) (w : Words) (k : Map) (names : List Ref) (ps : List Piece) (slot : ℕ) (r : Ref) → ps ≡ First slot ∷ [] → slice_get names slot ≡ Some r → pending n w k names ps ≡ draft n w k r
one_slot n w k names ps slot r e f = ap (pending n w k names) e ∙ nothing-then (named_draft n w k (slice_get names slot)) ∙ ap (named_draft n w k) f
