-- Pieces that are begun and printed, and what holds of the stack and the table behind one.
use Rattle.std.proofs.Common.{◌≡◌, ℕ, suc, ◌+◌, ◌<◌, ◌≤◌, List, [], ◌++◌, length, codes, Some, refl, sym, inl, inr, ap, ◌∙◌, subst, arith, append_assoc, append-nil, length-append}
use Rattle.std.specs.Prelude.{Option, slice_get, Result, Ok, Err, IfOk, OnOk, OnErr}
use Rattle.aw_term.specs.Names.{Ref}
use Rattle.aw_store.specs.Chase.{chase}
use Rattle.aw_out.specs.Report.{Bounded, printed}
use Rattle.aw_out.specs.declared.error.PrintFault.{PrintFault}
use Rattle.aw_out.specs.declared.error.PrintFault.TheVariants.{TooLarge}
use Rattle.aw_out.proofs.Printing.{printed-nil}
use Rattle.aw_print.specs.declared.stack.Piece.{Piece}
use Rattle.aw_print.specs.declared.stack.Piece.TheVariants.{First, Next, Close}
use Rattle.aw_print.specs.declared.stack.Span.{Span}
use Rattle.aw_print.specs.Drafts.{Draft, Whole, then}
use Rattle.aw_print.specs.Growing.{Begins, LeadTo, Printing, Underway, Puts, PutsTo, made, printing}
use Rattle.aw_print.specs.Ends.{AreEnds}
use Rattle.aw_print.specs.Stacks.{Table, named_draft, piece_draft, AreLive, IsOpen, AreOpen, IsKept, AreKept, Holds, Origin, Desk, pieces_draft}
use Rattle.aw_print.specs.Stacks.{end_draft, Begun, OpensSlot, BeginsPiece, Closes, copied, IsSound, IsSoundWith, IsLess}
use Rattle.aw_print.proofs.DraftLemmas.{then-assoc, Begins-self}
use Rattle.aw_print.proofs.GrowingLemmas.{goes_on, gathers, first_of, first_stops, stops_later, hands_on}
use Rattle.aw_print.proofs.LeadLemmas.{lead-same, lead-on, lead-then, lead-behind}
use Rattle.aw_print.proofs.StackLemmas.{pending_append, pending-next, piece-next, live_append, live_pop, opens_on, kept_on, closed_kept}
use Rattle.aw_print.proofs.BeginLemmas.{made_on}

-- what is begun is begun of all that it leads to
pub begun_as : (o : Origin) (all more : ℕ → Draft) (again : Option Span) (old new : Desk) → LeadTo all more → Begun o all again old new → Begun o more again old new
begun_as o all more again old new h b = record {
  out = b.out;
  gathered = b.gathered;
  report = b.report;
  within = b.within;
  added = b.added;
  stack = b.stack;
  leads = lead-on (λ n. then (Whole (b.out ++ copied (made new.printing) again)) (pieces_draft o b.added n)) all more b.leads h;
  live = b.live;
  ends = b.ends;
  kept = b.kept;
  work = b.work;
}

pub begun_first : (o : Origin) (slot : ℕ) (r : Ref) (again : Option Span) (old new : Desk) → slice_get o.names slot ≡ Some r →
    Begun o (end_draft o r (chase o.equations r)) again old new → Begun o (λ n. piece_draft n o.words o.equations o.names (First slot)) again old new
begun_first o slot r again old new e b =
    begun_as o (end_draft o r (chase o.equations r)) (λ n. piece_draft n o.words o.equations o.names (First slot)) again old new
    (λ n. (suc n, subst (Begins (end_draft o r (chase o.equations r) n)) (ap (named_draft (suc n) o.words o.equations) (sym e)) (Begins-self (end_draft o r (chase o.equations r) n)))) b

-- behind a text
begun_behind : (o : Origin) (all : ℕ → Draft) (again : Option Span) (old mid new : Desk) (t : List ℕ) →
    mid.printing.gathered ≡ old.printing.gathered ++ t → mid.printing.report ≡ old.printing.report → mid.pieces ≡ old.pieces →
    Begun o all again mid new → Begun o (λ n. then (Whole t) (all n)) again old new
begun_behind o all again old mid new t e r p b =
    let bytes = copied (made new.printing) again in
    record {
      out = t ++ b.out;
      gathered = b.gathered ∙ ap (λ x. x ++ b.out) e ∙ append_assoc old.printing.gathered t b.out;
      report = b.report ∙ r;
      within = b.within;
      added = b.added;
      stack = b.stack ∙ ap (λ ps. ps ++ b.added) p;
      leads =
          lead-on (λ n. then (Whole ((t ++ b.out) ++ bytes)) (pieces_draft o b.added n)) (λ n. then (Whole t) (then (Whole (b.out ++ bytes)) (pieces_draft o b.added n))) (λ n. then (Whole t) (all n))
          (lead-same (λ n. then (Whole ((t ++ b.out) ++ bytes)) (pieces_draft o b.added n)) (λ n. then (Whole t) (then (Whole (b.out ++ bytes)) (pieces_draft o b.added n)))
          (λ n. ap (λ x. then (Whole x) (pieces_draft o b.added n)) (append_assoc t b.out bytes) ∙ then-assoc (Whole t) (Whole (b.out ++ bytes)) (pieces_draft o b.added n)))
          (lead-behind (Whole t) (λ n. then (Whole (b.out ++ bytes)) (pieces_draft o b.added n)) all b.leads);
      live = b.live;
      ends = b.ends;
      kept = b.kept;
      work = omega (arith, b.work, ap length p, length-append t b.out);
    }

pub begun_next : (o : Origin) (slot : ℕ) (r : Ref) (again : Option Span) (old mid new : Desk) → slice_get o.names slot ≡ Some r →
    mid.printing.gathered ≡ old.printing.gathered ++ codes ", " → mid.printing.report ≡ old.printing.report → mid.pieces ≡ old.pieces →
    Begun o (end_draft o r (chase o.equations r)) again mid new → Begun o (λ n. piece_draft n o.words o.equations o.names (Next slot)) again old new
begun_next o slot r again old mid new e f g p b =
    begun_behind o (λ n. piece_draft n o.words o.equations o.names (First slot)) again old mid new (codes ", ") f g p (begun_first o slot r again mid new e b)

pub begun_close : (o : Origin) (slot from : ℕ) (again : Option Span) (old new : Desk) → Closes slot from again old new → IsOpen o (made old.printing)
    (Close slot from) [] → AreKept o old → Begun o (λ n. piece_draft n o.words o.equations o.names (Close slot from)) again old new
begun_close o slot from again old new c is_open kept =
    subst (λ x. Begun o (λ n. piece_draft n o.words o.equations o.names (Close slot from)) x old new) (sym c.none)
    (record {
      out = codes ")";
      gathered = c.gathered;
      report = c.report;
      within = tt;
      added = [];
      stack = c.pieces ∙ sym (append-nil old.pieces);
      leads = λ n. (n, subst (Begins (Whole ((codes ")" ++ []) ++ []))) (ap Whole (append-nil (codes ")" ++ []) ∙ append-nil (codes ")"))) (Begins-self (Whole ((codes ")" ++ []) ++ []))));
      live = tt;
      ends = tt;
      kept = record {
        texts = λ x h. elim (c.kept x h) [
          | inl e ↦ subst (IsKept o (made new.printing)) (sym e) (closed_kept o (made old.printing) (made new.printing) slot from is_made is_open)
          | inr g ↦ kept_on o (made old.printing) (made new.printing) (codes ")") x is_made (kept.texts x g)
        ];
        ends = subst (AreEnds o.equations o.names) (sym c.ends) kept.ends;
      };
      work = omega (arith, ap length c.pieces);
    })
  where
    is_made : made new.printing ≡ made old.printing ++ codes ")"
    is_made = made_on old.printing new.printing (codes ")") c.gathered c.report

-- a piece has begun to be printed
pub piece_underway : (o : Origin) (p : Piece) (again : Option Span) (old new : Desk) → Begun o (λ n. piece_draft n o.words o.equations o.names p) again old new →
    Underway (λ n. then (piece_draft n o.words o.equations o.names p) (pieces_draft o old.pieces n)) old.printing new.printing
    (λ n. then (Whole (copied (made new.printing) again)) (pieces_draft o new.pieces n))
piece_underway o p again old new b =
    let bytes = copied (made new.printing) again in
    let one = λ (n : ℕ). piece_draft n o.words o.equations o.names p in
    let mine = λ (n : ℕ). then (Whole (b.out ++ bytes)) (pieces_draft o b.added n) in
    let below = pieces_draft o old.pieces in
    let all = λ (n : ℕ). then (Whole b.out) (then (Whole bytes) (pieces_draft o new.pieces n)) in
    record {
      taken = [];
      out = b.out;
      report = b.report ∙ sym (printed-nil old.printing.report);
      gathered = b.gathered;
      rest =
          lead-on all (λ n. then (mine n) (below n)) (λ n. then (one n) (below n))
          (lead-same all (λ n. then (mine n) (below n))
          (λ n. ap (λ d. then (Whole b.out) (then (Whole bytes) d)) (ap (pieces_draft_at n) b.stack ∙ pending_append n o.words o.equations o.names old.pieces b.added)
          ∙ sym (then-assoc (Whole b.out) (Whole bytes) (then (pieces_draft o b.added n) (below n)))
          ∙ sym (then-assoc (Whole (b.out ++ bytes)) (pieces_draft o b.added n) (below n))))
          (lead-then mine below one below (λ n. piece-next n o.words o.equations o.names p) (λ n. pending-next n o.words o.equations o.names old.pieces) b.leads (lead-same below below (λ n. refl)));
    }
  where
    pieces_draft_at : ℕ → List Piece → Draft
    pieces_draft_at n ps = pieces_draft o ps n

-- what holds behind a piece
pub sound_on : (o : Origin) (p : Piece) (again : Option Span) (old new last : Desk) → Begun o (λ n. piece_draft n o.words o.equations o.names p) again old new → IsSoundWith o p old →
    last.pieces ≡ new.pieces → last.table ≡ new.table → made last.printing ≡ made new.printing ++ copied (made new.printing) again → IsSound o last
sound_on o p again old new last b sound ps ss e =
    let bytes = copied (made new.printing) again in
    let is_made : made last.printing ≡ made old.printing ++ (b.out ++ bytes) =
    e ∙ ap (λ t. t ++ bytes) (made_on old.printing new.printing b.out b.gathered b.report) ∙ append_assoc (made old.printing) b.out bytes in
    let below = live_pop o.names old.pieces p sound.live in
    record {
      live = subst (AreLive o.names) (sym (ps ∙ b.stack)) (live_append o.names old.pieces b.added below.0 b.live);
      ends = subst (AreOpen o (made last.printing)) (sym (ps ∙ b.stack)) (opens_on o (made old.printing) (made last.printing) (b.out ++ bytes) p
          b.added is_made b.leads (subst (λ t. AreOpen o t b.added) (sym e) b.ends) old.pieces sound.ends);
      kept = record {
        texts = λ x h. kept_on o (made new.printing) (made last.printing) bytes x e (b.kept.texts x (subst (λ (t : Table). Holds t.spans x) ss h));
        ends = subst (λ (t : Table). AreEnds o.equations o.names t.ends) (sym ss) b.kept.ends;
      };
    }

-- all bytes, once something was printed
pub made_under : (all left : ℕ → Draft) (old new : Printing) (u : Underway all old new left) → made new ≡ made old ++ u.out
made_under all left old new u =
    ap (λ (r : Bounded). r.text ++ new.gathered) u.report ∙ append_assoc old.report.text u.taken new.gathered ∙ ap (λ t. old.report.text ++ t)
    u.gathered ∙ sym (append_assoc old.report.text old.gathered u.out)

-- all bytes, when what was gathered went to the report
pub made_flushed : (t u taken : List ℕ) (r s : Bounded) → s ≡ printed r taken → taken ++ u ≡ t → made (printing u s) ≡ made (printing t r)
made_flushed t u taken r s e f = ap (λ (b : Bounded). b.text ++ u) e ∙ append_assoc r.text taken u ∙ ap (λ x. r.text ++ x) f

-- all bytes, when a text was printed
pub made_puts : (c : List ℕ) (old new : Printing) → Puts (λ n. Whole c) old new (Ok tt) → made new ≡ made old ++ c
made_puts c old new u = let (m, p) = u.rest 0 in made_under (λ n. Whole c) (λ n. Whole []) old new u ∙ ap (λ t. made old ++ t) (sym (append-nil u.out) ∙ sym p)

-- the same pieces, table and bytes
pub sound_same : (o : Origin) (old new : Desk) → new.pieces ≡ old.pieces → new.table ≡ old.table → made new.printing ≡ made old.printing → IsSound o old → IsSound o new
sound_same o old new p s e sound = record {
  live = subst (AreLive o.names) (sym p) sound.live;
  ends = subst (AreOpen o (made new.printing)) (sym p) (subst (λ t. AreOpen o t old.pieces) (sym e) sound.ends);
  kept = record {
    texts = λ x h. subst (λ t. IsKept o t x) (sym e) (sound.kept.texts x (subst (λ (t : Table). Holds t.spans x) s h));
    ends = subst (λ (t : Table). AreEnds o.equations o.names t.ends) (sym s) sound.kept.ends;
  };
}

-- a piece, the copy behind it, and then what was gathered goes to the report or not
pub piece_puts : (o : Origin) (p : Piece) (again : Option Span) (old new : Desk) (mid : Printing) (t : List ℕ) (s : Bounded)
    (result : Result Unit PrintFault) → Begun o (λ n. piece_draft n o.words o.equations o.names p) again old new →
    Puts (λ n. Whole (copied (made new.printing) again)) new.printing mid (Ok tt) →
    OnOk result ((taken : List ℕ) × (s ≡ printed mid.report taken) × (taken ++ t ≡ mid.gathered)) → OnErr result (s ≡ mid.report) →
    (result ≡ Err TooLarge → mid.report.limit < length mid.report.text + length mid.gathered) →
    PutsTo (λ n. then (piece_draft n o.words o.equations o.names p) (pieces_draft o old.pieces n)) old.printing (printing t s) (pieces_draft o new.pieces) result
piece_puts o p again old new mid t s result b c ok err large =
    let all = λ (n : ℕ). then (piece_draft n o.words o.equations o.names p) (pieces_draft o old.pieces n) in
    let bytes = copied (made new.printing) again in
    let left = pieces_draft o new.pieces in
    gathers all left old.printing mid t s result
    (goes_on all (λ n. then (Whole bytes) (left n)) left old.printing new.printing mid (piece_underway o p again old new b)
    (first_of (λ n. Whole bytes) left new.printing mid (λ n. refl) (λ n. pending-next n o.words o.equations o.names new.pieces) c)) ok err large

pub piece_stops : (o : Origin) (p : Piece) (again : Option Span) (old new : Desk) (mid : Printing) (fault : PrintFault)
    (result : Result Unit PrintFault) (left : ℕ → Draft) → Begun o (λ n. piece_draft n o.words o.equations o.names p) again old new →
    Puts (λ n. Whole (copied (made new.printing) again)) new.printing mid (Err fault) → result ≡ Err fault →
    PutsTo (λ n. then (piece_draft n o.words o.equations o.names p) (pieces_draft o old.pieces n)) old.printing mid left result
piece_stops o p again old new mid fault result left b c e =
    let all = λ (n : ℕ). then (piece_draft n o.words o.equations o.names p) (pieces_draft o old.pieces n) in
    let bytes = copied (made new.printing) again in
    hands_on all left old.printing mid fault result e
    (stops_later all (λ n. then (Whole bytes) (pieces_draft o new.pieces n)) old.printing new.printing mid.report fault (piece_underway o p again old new b)
    (first_stops (λ n. Whole bytes) (pieces_draft o new.pieces) new.printing mid.report fault c))

pub piece_sound : (o : Origin) (p : Piece) (again : Option Span) (old new last : Desk) (mid : Printing) (result : Result Unit PrintFault) →
    Begun o (λ n. piece_draft n o.words o.equations o.names p) again old new → IsSoundWith o p old →
    last.pieces ≡ new.pieces → last.table ≡ new.table → Puts (λ n. Whole (copied (made new.printing) again)) new.printing mid (Ok tt) →
    OnOk result ((taken : List ℕ) × (last.printing.report ≡ printed mid.report taken) × (taken ++ last.printing.gathered ≡ mid.gathered)) → OnOk result (IsSound o last)
piece_sound o p again old new last mid (Ok done) b sound ps ss c ok =
    let (taken, e, f) = ok in
    sound_on o p again old new last b sound ps ss (made_flushed mid.gathered last.printing.gathered taken mid.report last.printing.report e f
    ∙ made_puts (copied (made new.printing) again) new.printing mid c)
piece_sound o p again old new last mid (Err fault) b sound ps ss c ok = tt

pub piece_less : (o : Origin) (p : Piece) (again : Option Span) (old new last : Desk) (mid : Printing) (result : Result Unit PrintFault) →
    Begun o (λ n. piece_draft n o.words o.equations o.names p) again old new →
    last.pieces ≡ new.pieces → Puts (λ n. Whole (copied (made new.printing) again)) new.printing mid (Ok tt) →
    OnOk result ((taken : List ℕ) × (last.printing.report ≡ printed mid.report taken) × (taken ++ last.printing.gathered ≡ mid.gathered)) → OnOk result (length last.printing.gathered < 4096) →
    length last.printing.report.text ≤ last.printing.report.limit → OnOk result (IsLess old last)
piece_less o p again old new last mid (Ok done) b ps c ok short within =
    let (taken, e, f) = ok in
    let bytes = copied (made new.printing) again in
    let more = made_flushed mid.gathered last.printing.gathered taken mid.report last.printing.report e f ∙ made_puts bytes new.printing mid c in
    record {
      work = omega (
        arith,
        b.work,
        ap length ps,
        ap length more,
        length-append (made new.printing) bytes,
        ap length (made_on old.printing new.printing b.out b.gathered b.report),
        length-append (made old.printing) b.out,
      );
      short = short;
      within = within;
      limit = ap (λ (r : Bounded). r.limit) e ∙ ap (λ (r : Bounded). r.limit) c.report ∙ ap (λ (r : Bounded). r.limit) b.report;
    }
piece_less o p again old new last mid (Err fault) b ps c ok short within = tt

pub first_piece : {E : Type 0} (o : Origin) (slot : ℕ) (r : Ref) (result : Result (Option Span) E) (old new : Desk) → slice_get o.names slot ≡ Some
    r → IfOk result (λ again. OpensSlot o slot again old new) → IfOk result (λ again. BeginsPiece o (First slot) again old new)
first_piece o slot r (Ok again) old new e h = begun_first o slot r again old new e (h r e)
first_piece o slot r (Err fault) old new e h = tt

pub next_piece : {E : Type 0} (o : Origin) (slot : ℕ) (r : Ref) (result : Result (Option Span) E) (old mid new : Desk) → slice_get o.names slot ≡ Some
    r → mid.printing.gathered ≡ old.printing.gathered ++ codes ", " → mid.printing.report ≡ old.printing.report → mid.pieces ≡ old.pieces →
    IfOk result (λ again. OpensSlot o slot again mid new) → IfOk result (λ again. BeginsPiece o (Next slot) again old new)
next_piece o slot r (Ok again) old mid new e f g p h = begun_next o slot r again old mid new e f g p (h r e)
next_piece o slot r (Err fault) old mid new e f g p h = tt

pub close_piece : {E : Type 0} (o : Origin) (slot from : ℕ) (result : Result (Option Span) E) (old new : Desk) → IsOpen o (made old.printing)
    (Close slot from) [] → AreKept o old → IfOk result (λ again. Closes slot from again old new) →
    IfOk result (λ again. BeginsPiece o (Close slot from) again old new)
close_piece o slot from (Ok again) old new is_open kept h = begun_close o slot from again old new h is_open kept
close_piece o slot from (Err fault) old new is_open kept h = tt
