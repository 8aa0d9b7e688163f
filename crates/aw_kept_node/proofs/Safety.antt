-- First frames of those that were answered, and runs that go on from the disk of another.
use Rattle.std.proofs.Common.{ℕ, ◌≤◌, List, [], ◌∷◌, IsTrue, ◌⊎◌, inl, inr, take, drop, sym, subst, arith}
use Rattle.std.proofs.lemmas.List.{take-append-drop}
use Rattle.aw_msg.specs.Frames.{Frame}
use Rattle.aw_disk.specs.declared.edge.Disk.{Ghosts}
use Rattle.aw_session.specs.Frames.{AreAnswered}
use Rattle.aw_journal.specs.Events.{Event}
use Rattle.aw_journal.specs.Format.{events_of}
use Rattle.aw_journal.specs.Opens.{IsForeign}
use Rattle.aw_kept_node.specs.Exits.{Origin, Begins, IsOldOrBetween}
use Rattle.aw_kept_node.specs.KeptSites.{KeptSite}
use Rattle.aw_kept_node.specs.Laws.{after_frames, begun, FirstAreSafe, BytesAreSafe, StaySafe}
use Rattle.aw_kept_node.specs.Replying.{IsSafeSince, RepliesSafely}
use Rattle.aw_kept_node.proofs.Exits.{begins-trans}

-- the file has the events, behind the own head of the journal
abbrev Has : {D : Type 0} → Origin D → List Event → List ℕ → Type 0
Has o events file = (IsForeign o.role o.text file → ⊥) × Begins events (events_of file)

module _ {D : Type 0} (d : Ghosts D) where
  pub first-safe : FirstAreSafe d
  first-safe o end last s t [] back replies told safe h = (s.moment, omega arith, safe)
  first-safe o end last s t (f ∷ front) back [] told safe h = absurd h
  first-safe o end last s t (f ∷ front) back (x ∷ replies) told safe h =
      let one = h.1 in
      let rest = first-safe o end last h.0 t front back replies told (one.safe told) h.2 in (
        rest.0,
        omega (arith, one.later told, rest.1),
        subst (λ (k : KeptSite). IsSafeSince d o end last rest.0 (after_frames o.rules k front).events) one.replied.1 rest.2,
      )

  pub bytes-safe : BytesAreSafe d
  bytes-safe o end last s t frames replies n told safe h =
      let k = begun replies n in
      first-safe o end last s t (take k frames) (drop k frames) replies told safe
      (subst (λ (fs : List Frame). AreAnswered (RepliesSafely d o end last) s fs replies t) (sym (take-append-drop k frames)) h)

  pub stay-safe : (reads : (x : D) → IsTrue (d.tells x) → d.may_leave x (d.seen x)) (counts : (x : D) (t : ℕ) (c : List ℕ) → t ≤ d.moment x → d.may_leave x c → d.left_since x t c) → StaySafe d
  stay-safe reads counts o p last answered later moment events new told same_role same_text first safe left c since = go (left.moments.before moment c safe.passed since)
    where
      here : (file : List ℕ) → d.left_since p.disk moment file → Has o events file
      here file past = let h = safe.left file past in (h.own, h.from)

      begins : Begins events p.first
      begins = subst (Begins events) (sym first) (here (d.seen p.disk) (counts p.disk moment (d.seen p.disk) safe.passed (reads p.disk told))).1

      again : IsOldOrBetween (d.may_leave p.disk) p.role p.text p.first later c → Has o events c
      again (inl old) = here c (counts p.disk moment c safe.passed old)
      again (inr h) = (
        subst (λ (n : ℕ). IsForeign n o.text c → ⊥) same_role (subst (λ (y : List ℕ). IsForeign p.role y c → ⊥) same_text h.own),
        begins-trans events p.first (events_of c) begins h.from,
      )

      go : (d.left_since p.disk moment c ⊎ ((s : ℕ) → s ≤ d.moment p.disk → d.left_since new s c)) → Has o events c
      go (inl past) = here c past
      go (inr any) = again (left.moments.each c (any (d.moment p.disk) (omega arith)))
