-- Texts that are begun at a slot, as that of the constructor there.
use Rattle.std.proofs.Common.{◌≡◌, ℕ, zero, suc, ◌+◌, ◌<◌, ◌≤◌, List, [], ◌∷◌, ◌++◌, map, drop, length, codes, Some, refl, sym, ap, ◌∙◌, subst, arith, append_assoc, append-nil, length-append}
use Rattle.std.specs.Prelude.{Option, None, slice_get, slice_range, option_and_then, Result, Ok, Err, IfOk}
use Rattle.std.proofs.Math.Seq.{drop-append_seam}
use Rattle.aw_term.specs.Trees as T
use Rattle.aw_term.specs.Names.{Ref}
use Rattle.aw_term.specs.Artifacts.{head_text}
use Rattle.aw_store.specs.Equations as P
use Rattle.aw_store.specs.Equations.{Map, find}
use Rattle.aw_store.specs.NamedRefs.{con_parts, body_at, parts_at}
use Rattle.aw_store.specs.StoreView.{IsKindOf}
use Rattle.aw_store.specs.Chase.{Chased, Found, chase}
use Rattle.aw_store.proofs.Ends.{At_body, stands}
use Rattle.aw_store.specs.ChaseView.{IsChasedTo}
use Rattle.aw_store.specs.declared.facts.Kind.TheVariants as kind
use Rattle.aw_store.specs.declared.facts.Chase.TheVariants as answer
use Rattle.aw_store.proofs.ChaseEnds.{ends-chase}
use Rattle.aw_out.specs.Report.{Bounded}
use Rattle.aw_print.specs.declared.stack.Piece.{Piece}
use Rattle.aw_print.specs.declared.stack.Piece.TheVariants.{Close}
use Rattle.aw_print.specs.declared.stack.Span.{Span}
use Rattle.aw_print.specs.Drafts.{Draft, Whole, then, listed, with_parts, draft_on, draft}
use Rattle.aw_print.specs.Growing.{Begins, Printing, made}
use Rattle.aw_print.specs.Ends.{AreEnds}
use Rattle.aw_print.specs.Stacks.{Table, IsKept, AreKept, Holds, Origin, Desk, pieces_draft, begun_draft, end_draft, Notes, Begun, OpensCon, OpensBody, OpensSlot, IsAtRest}
use Rattle.aw_print.proofs.DraftLemmas.{Begins-self}
use Rattle.aw_print.proofs.LeadLemmas.{lead-same}
use Rattle.aw_print.proofs.StackLemmas.{parts_open, kept_on, con_found, chased_found}

-- all bytes, where more were gathered
pub made_on : (old new : Printing) (out : List ℕ) → new.gathered ≡ old.gathered ++ out → new.report ≡ old.report → made new ≡ made old ++ out
made_on old new out g r =
    ap (λ (b : Bounded). b.text ++ new.gathered) r ∙ ap (λ t. old.report.text ++ t) g ∙ sym (append_assoc old.report.text old.gathered out)

pub kept_grows : (o : Origin) (old new : Desk) (out : List ℕ) → new.printing.gathered ≡ old.printing.gathered ++ out →
    new.printing.report ≡ old.printing.report → new.table ≡ old.table → AreKept o old → AreKept o new
kept_grows o old new out g r s kept = record {
  texts = λ x h. kept_on o (made old.printing) (made new.printing) out x (made_on old.printing new.printing out g r) (kept.texts x (subst (λ (t : Table). Holds t.spans x) s h));
  ends = subst (λ (t : Table). AreEnds o.equations o.names t.ends) (sym s) kept.ends;
}

-- no piece is left, also when more was gathered
pub rest_on : (o : Origin) (old new : Desk) (out : List ℕ) → new.printing.gathered ≡ old.printing.gathered ++ out →
    new.printing.report ≡ old.printing.report → new.pieces ≡ old.pieces → new.table ≡ old.table → IsAtRest o old → IsAtRest o new
rest_on o old new out g r p s rest = (p ∙ rest.0, kept_grows o old new out g r s rest.1)

-- a text behind which nothing is left
pub begun_leaf : (o : Origin) (all : ℕ → Draft) (old new : Desk) (out : List ℕ) → new.printing.gathered ≡ old.printing.gathered ++ out →
    new.printing.report ≡ old.printing.report → new.pieces ≡ old.pieces → new.table ≡ old.table →
    AreKept o old → (m : ℕ) → all m ≡ Whole out → Begun o all None old new
begun_leaf o all old new out g r p s kept m e = record {
  out = out;
  gathered = g;
  report = r;
  within = tt;
  added = [];
  stack = p ∙ sym (append-nil old.pieces);
  leads = λ n. (m, subst (Begins (Whole ((out ++ []) ++ []))) (ap Whole (append-nil (out ++ []) ∙ append-nil out) ∙ sym e) (Begins-self (Whole ((out ++ []) ++ []))));
  live = tt;
  ends = tt;
  kept = kept_grows o old new out g r s kept;
  work = omega (arith, ap length p);
}

-- a text that stands where it is kept
pub begun_again : (o : Origin) (all : ℕ → Draft) (d : Desk) (x : Span) → AreKept o d → IsKept o (made d.printing) x → (m : ℕ) →
    all m ≡ Whole (slice_range (made d.printing) x.from x.until) → Begun o all (Some x) d d
begun_again o all d x kept is m e =
    let t = slice_range (made d.printing) x.from x.until in
    record {
      out = [];
      gathered = sym (append-nil d.printing.gathered);
      report = refl;
      within = (is.order, is.within);
      added = [];
      stack = sym (append-nil d.pieces);
      leads = λ n. (m, subst (Begins (Whole (t ++ []))) (ap Whole (append-nil t) ∙ sym e) (Begins-self (Whole (t ++ []))));
      live = tt;
      ends = tt;
      kept = kept;
      work = omega arith;
    }

-- the constructor at a slot
con_is : (names : List Ref) (b : Option P.Body) (c n : ℕ) → IsKindOf names b (kind.Con c n) → b ≡ Some (P.Is (T.Con c) (con_parts b))
con_is names None c n w = elim w [ ]
con_is names (Some (P.Same r)) c n w = elim w [ ]
con_is names (Some (P.Is (T.Con d) parts)) c n w = let e : d ≡ c = sym w.0 in ap (λ x. Some (P.Is (T.Con x) parts)) e
con_is names (Some (P.Is (T.Num d) parts)) c n w = elim w [ ]
con_is names (Some (P.Is (T.Text d) parts)) c n w = elim w [ ]

pub con_chase : (k : Map) (names : List Ref) (at c n : ℕ) (r : Ref) → IsKindOf names (body_at k names at) (kind.Con c n) → slice_get names at ≡ Some
    r → chase k r ≡ Found (T.Con c) (parts_at k names at)
con_chase k names at c n r w e =
    let found : find k r ≡ Some (P.Is (T.Con c) (parts_at k names at)) = ap (option_and_then (find k)) (sym e) ∙ con_is names (body_at k names at) c n w in
    ends-chase k (At_body (T.Con c) (parts_at k names at)) (stands found refl)

-- what was printed of the constructor at a slot is the text of each reference whose chase ends there
pub con_text : (o : Origin) (r s : Ref) (c : ℕ) (parts : List Ref) (t : List ℕ) → chase o.equations s ≡ Found (T.Con c) parts → (m : ℕ) →
    draft m o.words o.equations s ≡ Whole t → (n : ℕ) × (end_draft o r (Found (T.Con c) parts) n ≡ Whole t)
con_text o r s c parts t e zero d = absurd (cc d)
con_text o r s c parts t e (suc n) d = (n, sym (ap (draft_on o.words (draft n o.words o.equations) s) e) ∙ d)

-- a slot where a constructor stands has a name
named_by : (k : Map) (names : List Ref) (c n : ℕ) (s : Option Ref) → IsKindOf names (option_and_then (find k) s) (kind.Con c n) → (r : Ref) × (s ≡ Some r)
named_by k names c n None w = elim w [ ]
named_by k names c n (Some r) w = (r, refl)

-- the text of the constructor at a slot is kept
pub begun_kept : (o : Origin) (d : Desk) (c at n : ℕ) (x : Span) (r : Ref) → IsKindOf o.names (body_at o.equations o.names at) (kind.Con c n) → AreKept o d → x.slot ≡ at → Holds d.table.spans x →
    Begun o (end_draft o r (Found (T.Con c) (parts_at o.equations o.names at))) (Some x) d d
begun_kept o d c at n x r w kept e h =
    let is = kept.texts x h in
    let (s, named) = named_by o.equations o.names c n (slice_get o.names at) w in
    let (m, f) = is.text s (ap (slice_get o.names) e ∙ named) in
    let (l, g) = con_text o r s c (parts_at o.equations o.names at) _ (con_chase o.equations o.names at c n s w named) m f in
    begun_again o (end_draft o r (Found (T.Con c) (parts_at o.equations o.names at))) d x kept is l g

-- a constructor without parts
pub con_alone : (o : Origin) (r : Ref) (c : ℕ) (parts : List Ref) → length parts ≡ 0 → end_draft o r (Found (T.Con c) parts) 0 ≡ Whole (head_text o.words (T.Con c))
con_alone o r c [] l = refl
con_alone o r c (p ∷ ps) l = absurd (omega (arith, l))

-- a constructor up to its first part, and its parts
con_draft : (head : List ℕ) (f : Ref → Draft) (parts : List Ref) (inner : Draft) → 0 < length parts → inner ≡ listed (map f parts) →
    then (Whole (head ++ codes "(")) (then inner (Whole (codes ")"))) ≡ with_parts head (map f parts)
con_draft head f [] inner l e = absurd (omega (arith, l))
con_draft head f (r ∷ rs) inner l e = ap (λ d. then (Whole (head ++ codes "(")) (then d (Whole (codes ")")))) e

pub begun_con : (o : Origin) (old new : Desk) (c at n from : ℕ) (mid : List ℕ) (noted : List Piece) (r : Ref) →
    IsKindOf o.names (body_at o.equations o.names at) (kind.Con c n) → 0 < length (parts_at o.equations o.names at) →
    mid ≡ old.printing.gathered ++ head_text o.words (T.Con c) → new.printing.gathered ≡ mid ++ codes "(" →
    new.printing.report ≡ old.printing.report → new.table ≡ old.table → from ≡ length (made old.printing) →
    noted ≡ old.pieces ++ Close at from ∷ [] → Notes o (λ m. listed (map (draft m o.words o.equations) (parts_at o.equations o.names at))) noted
    new.pieces → length new.pieces ≤ length noted + 256 → AreKept o old →
    Begun o (end_draft o r (Found (T.Con c) (parts_at o.equations o.names at))) None old new
begun_con o old new c at n from mid noted r w some e f report spans start g notes few kept =
    let parts = parts_at o.equations o.names at in
    let head = head_text o.words (T.Con c) in
    let out = head ++ codes "(" in
    let bytes = made new.printing ++ [] in
    let gathered : new.printing.gathered ≡ old.printing.gathered ++ out = f ∙ ap (λ t. t ++ codes "(") e ∙ append_assoc old.printing.gathered head (codes "(") in
    let is_made : bytes ≡ made old.printing ++ out = append-nil (made new.printing) ∙ made_on old.printing new.printing out gathered report in
    let whole = λ (m : ℕ). con_draft head (draft m o.words o.equations) parts (pieces_draft o notes.added m) some (notes.drafts m) in
    let behind : drop from bytes ≡ out = ap (drop from) is_made ∙ ap (λ i. drop i (made old.printing ++ out)) start ∙ drop-append_seam (made old.printing) out in
    record {
      out = out;
      gathered = gathered;
      report = report;
      within = tt;
      added = Close at from ∷ notes.added;
      stack = notes.stack ∙ ap (λ ps. ps ++ notes.added) g ∙ append_assoc old.pieces (Close at from ∷ []) notes.added;
      leads =
          lead-same (λ m. then (Whole (out ++ [])) (pieces_draft o (Close at from ∷ notes.added) m)) (end_draft o r (Found (T.Con c) parts))
          (λ m. ap (λ t. then (Whole t) (then (pieces_draft o notes.added m) (Whole (codes ")")))) (append-nil out) ∙ whole m);
      live = (tt, notes.live);
      ends = (
        (
          omega (arith, ap length is_made, length-append (made old.printing) out, start),
          λ s h m. (
            suc m,
            subst (Begins (begun_draft o bytes from notes.added m))
                (ap (λ t. then (Whole t) (then (pieces_draft o notes.added m) (Whole (codes ")")))) behind ∙ whole m
                ∙ sym (ap (draft_on o.words (draft m o.words o.equations) s) (con_chase o.equations o.names at c n s w h)))
                (Begins-self (begun_draft o bytes from notes.added m)),
          ),
        ),
        parts_open o bytes notes.added notes.parts,
      );
      kept = kept_grows o old new out gathered report spans kept;
      work = omega (arith, few, ap length g, length-append old.pieces (Close at from ∷ []), length-append head (codes "("));
    }

-- the constructor that was found
pub opens_body : {E : Type 0} (o : Origin) (at c n : ℕ) (result : Result (Option Span) E) (old new : Desk) →
    IsKindOf o.names (body_at o.equations o.names at) (kind.Con c n) → IfOk result (λ again. OpensCon o at c again old new) →
    IfOk result (λ again. OpensBody o at again old new)
opens_body o at c n (Ok again) old new w h = λ r head rs e. subst (λ (x : Chased). Begun o (end_draft o r x) again old new) (con_found o.names (body_at o.equations o.names at) c n head rs w e) (h r)
opens_body o at c n (Err fault) old new w h = tt

-- where the chase of a slot ends
pub opens_slot : {E : Type 0} (o : Origin) (slot at : ℕ) (result : Result (Option Span) E) (old new : Desk) →
    ((r : Ref) → slice_get o.names slot ≡ Some r → IsChasedTo o.equations o.names slot (chase o.equations r) (answer.Found at)) →
    IfOk result (λ again. OpensBody o at again old new) → IfOk result (λ again. OpensSlot o slot again old new)
opens_slot o slot at (Ok again) old new w h = λ r e.
    let (head, rs, f, b, l) = chased_found o.equations o.names slot at (chase o.equations r) (w r e) in
    subst (λ (x : Chased). Begun o (end_draft o r x) again old new) (sym f) (h r head rs b)
opens_slot o slot at (Err fault) old new w h = tt

-- what is begun behind a chase is begun, whatever the chase kept
pub begun_since : (o : Origin) (all : ℕ → Draft) (again : Option Span) (old mid new : Desk) → mid.printing ≡ old.printing → mid.pieces ≡ old.pieces →
    Begun o all again mid new → Begun o all again old new
begun_since o all again old mid new p q b = record {
  out = b.out;
  gathered = b.gathered ∙ ap (λ (x : Printing). x.gathered ++ b.out) p;
  report = b.report ∙ ap (λ (x : Printing). x.report) p;
  within = b.within;
  added = b.added;
  stack = b.stack ∙ ap (λ ps. ps ++ b.added) q;
  leads = b.leads;
  live = b.live;
  ends = b.ends;
  kept = b.kept;
  work = omega (arith, b.work, ap length q);
}

pub slot_since : {E : Type 0} (o : Origin) (slot : ℕ) (result : Result (Option Span) E) (old mid new : Desk) → mid.printing ≡ old.printing →
    mid.pieces ≡ old.pieces → IfOk result (λ again. OpensSlot o slot again mid new) → IfOk result (λ again. OpensSlot o slot again old new)
slot_since o slot (Ok again) old mid new p q h = λ r e. begun_since o (end_draft o r (chase o.equations r)) again old mid new p q (h r e)
slot_since o slot (Err fault) old mid new p q h = tt
