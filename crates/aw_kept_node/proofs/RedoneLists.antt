-- Events of a journal, done again one by one.
use Rattle.std.proofs.Common.{◌≡◌, ℕ, zero, suc, ◌+◌, ◌<◌, List, [], ◌∷◌, ◌++◌, length, take, drop, get_or, refl, sym, ap, ◌∙◌, subst, arith}
use Rattle.std.proofs.lemmas.List.{take_more}
use Rattle.aw_law_sites.specs.Sites.{Site}
use Rattle.aw_journal.specs.Events.{Event, AllEvents, EventInRange}
use Rattle.aw_journal.specs.EventView.{event_of, events_seen}
use Rattle.aw_journal.specs.declared.payload.NodeEvent.{NodeEvent}
use Rattle.aw_journal.proofs.Events.{events_push}
use Rattle.aw_node.specs.TypedNodes.{Rules}
use Rattle.aw_kept_node.specs.KeptEvents.{site_by, AreKept}
use Rattle.aw_kept_node.specs.Redone.{Redoes, RedoesAll, StopsAt, StopsRedoing}
use Rattle.aw_kept_node.specs.declared.fault.KeptFault.{KeptFault}
use Rattle.aw_kept_node.specs.declared.fault.KeptFault.TheVariants.{NetFault, DiskFault, BadHead, BadEvent, Full, NoMemory}
use Rattle.aw_kept_node.proofs.KeptSites.{kept-push, by-push}

-- the one at a place is in range
pub in-range : (es : List NodeEvent) (i : ℕ) (e : NodeEvent) → i < length es → e ≡ get_or es i e → AllEvents (events_seen es) → EventInRange (event_of e)
in-range [] i e l s a = absurd (omega (arith, l))
in-range (x ∷ es) zero e l s a = subst (λ (z : NodeEvent). EventInRange (event_of z)) (sym s) a.0.1
in-range (x ∷ es) (suc i) e l s a = in-range es i e (omega (arith, l)) s a.1

-- those up to a place, with the one there
seen-more : (es : List NodeEvent) (i j : ℕ) (e : NodeEvent) → j ≡ i + 1 → i < length es → e ≡ get_or es i e → events_seen (take j es) ≡ events_seen (take i es) ++ event_of e ∷ []
seen-more es i j e n l s =
    ap (λ (k : ℕ). events_seen (take k es)) n
    ∙ (ap events_seen (take_more es i e l) ∙ (ap (λ (z : NodeEvent). events_seen (take i es ++ z ∷ [])) (sym s) ∙ events_push (take i es) e))

-- one event more was done again
pub redone-more : (r : Rules) (s : Site) (shows : Site → Type 0) (es : List NodeEvent) (i j : ℕ) (e : NodeEvent) → j ≡ i + 1 → i < length es →
    e ≡ get_or es i e → AreKept r s (events_seen (take i es)) →
    Redoes r (site_by r s (events_seen (take i es))) (event_of e) shows → RedoesAll r s (events_seen (take j es)) shows
redone-more r s shows es i j e n l at kept h =
    subst (λ (xs : List Event). RedoesAll r s xs shows) (sym (seen-more es i j e n l at))
    (kept-push r s (events_seen (take i es)) (event_of e) kept h.0, subst shows (sym (by-push r s (events_seen (take i es)) (event_of e))) h.1)

-- the parts in front of a place, at it, and behind it
parts-at : (es : List NodeEvent) (i : ℕ) (e : NodeEvent) → i < length es → e ≡ get_or es i e → events_seen es ≡ events_seen (take i es) ++ event_of e ∷ events_seen (drop (suc i) es)
parts-at [] i e l s = absurd (omega (arith, l))
parts-at (x ∷ es) zero e l s = ap (λ (z : NodeEvent). event_of z ∷ events_seen es) (sym s)
parts-at (x ∷ es) (suc i) e l s = ap (λ (xs : List Event). event_of x ∷ xs) (parts-at es i e (omega (arith, l)) s)

long-at : (es : List NodeEvent) (i : ℕ) → i < length es → length (events_seen (take i es)) ≡ i
long-at [] i l = absurd (omega (arith, l))
long-at (x ∷ es) zero l = refl
long-at (x ∷ es) (suc i) l = ap suc (long-at es i (omega (arith, l)))

-- an event was none
pub stopped-at : (r : Rules) (s : Site) (es : List NodeEvent) (i number : ℕ) (e : NodeEvent) (fault : KeptFault) → number ≡ i → i < length es →
    e ≡ get_or es i e → AreKept r s (events_seen (take i es)) →
    StopsAt r (site_by r s (events_seen (take i es))) number (event_of e) fault → StopsRedoing r s (events_seen es) fault
stopped-at r s es i number e NetFault n l at kept h = absurd h
stopped-at r s es i number e DiskFault n l at kept h = absurd h
stopped-at r s es i number e BadHead n l at kept h = absurd h
stopped-at r s es i number e (BadEvent k) n l at kept h = record {
  before = events_seen (take i es);
  bad = event_of e;
  rest = events_seen (drop (suc i) es);
  parts = parts-at es i e l at;
  counted = h.0 ∙ (n ∙ sym (long-at es i l));
  kept = kept;
  refused = h.1;
}
stopped-at r s es i number e Full n l at kept h = absurd h
stopped-at r s es i number e NoMemory n l at kept h = tt
