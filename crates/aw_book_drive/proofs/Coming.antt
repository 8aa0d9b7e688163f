-- What can come of a journal, as its source is read on.
use Rattle.std.proofs.Common.{◌≡◌, ℕ, ◌+◌, List, [], ◌∷◌, ◌++◌, Option, Some, None, refl, sym, subst, append_assoc, length-append, arith}
use Rattle.aw_journal.specs.Events.{Event}
use Rattle.aw_journal.specs.EventView.{event_of}
use Rattle.aw_journal.specs.declared.payload.NodeEvent.{NodeEvent}
use Rattle.aw_book_drive.specs.Lanes.{ToCome, IsLane}
use Rattle.aw_book_drive.specs.Sources.{Gives}
use Rattle.aw_book_drive.specs.declared.lanes.Lane.{Lane}

module _ {S : Type 0} (gives : S → List Event → Type 0) where
  -- what comes behind what was given could come before it
  pub gives-next : (old new : S) (found : Option NodeEvent) → Gives gives old new found → (events : List Event) → ToCome gives new found events → gives old events
  gives-next old new None h events e = subst (gives old) (sym e) h
  gives-next old new (Some e) h events c = let (rest, p, k) = c in subst (gives old) (sym p) (h rest k)

  -- the lane of a journal of which nothing came
  pub lane-fresh : (old new : S) (found : Option NodeEvent) → Gives gives old new found → IsLane gives (gives old) new (record { next = found; count = 0 }) []
  lane-fresh old new found h = record { count = refl; whole = gives-next old new found h }

  -- the lane behind one event more
  pub lane-next : (first : List Event → Type 0) (old new : S) (lane : Lane) (came : List Event) (e : NodeEvent) (found : Option NodeEvent) (count : ℕ) → lane.next ≡ Some e → count ≡ lane.count →
      IsLane gives first old lane came → Gives gives old new found → IsLane gives first new (record { next = found; count = count + 1 }) (came ++ event_of e ∷ [])
  lane-next first old new lane came e found count n same l h = record {
    count = (let q = length-append came (event_of e ∷ []) in let k = l.count in omega (arith, q, k, same));
    whole = λ events c. subst first (sym (append_assoc came (event_of e ∷ []) events))
        (l.whole (event_of e ∷ events) (subst (λ o. ToCome gives old o (event_of e ∷ events)) (sym n) (events, refl, gives-next old new found h events c)));
  }
