-- A courier comes to an end: it pulls no more messages than its world may have, and pushes each of them once.
use Rattle.std.specs.Prelude.{slice_get, filter, nat_eq, nat_le}
use Rattle.std.proofs.Common.{◌≡◌, ℕ, suc, ◌+◌, ◌*◌, ◌<◌, ◌≤◌, Bool, true, false, cond, List, [], ◌∷◌, ◌++◌, map, length, Option, Some, None, refl, sym, ap, ◌∙◌, subst, arith}
use Rattle.std.proofs.lemmas.Bool.{eqb-true, leb-true, le-leb}
use Rattle.aw_list.proofs.Members.{never}
use Rattle.aw_term.specs.Choices.{Choice}
use Rattle.aw_term.specs.Rules.{Grammar, get}
use Rattle.aw_term.specs.Trees.{Never}
use Rattle.aw_term.specs.WellFormed.{Each}
use Rattle.aw_term.proofs.Eaches.{each_append}
use Rattle.aw_base.specs.ChoiceFits.{choice_ok}
use Rattle.aw_apply.specs.Messages.{Message, Received, New, Repeat, Conflict, NotMine, BadName}
use Rattle.aw_law_sites.specs.Bounds.{bound_of}
use Rattle.aw_law_sites.specs.Reacting.{receive}
use Rattle.aw_law_sites.specs.SiteEvents.{SiteEvent, Chose, Got}
use Rattle.aw_law_sites.specs.Sites.{Reaction}
use Rattle.aw_law_sites.specs.Worlds.{World, site_at, received_at, deliver_on, Move, Chooses, Delivers, step, run}
use Rattle.aw_law_worlds.specs.Invariant.{sender}
use Rattle.aw_law_worlds.specs.Laws.{MayCome, MessagesAreBounded, world_after}
use Rattle.aw_law_worlds.proofs.Lists.{length-mapped}
use Rattle.aw_law_nodes.specs.Couriers.{Heard, Session, Courier, new_courier, after_session, AreReplies, AreTurns, round_moves, after_all, flat}
use Rattle.aw_law_nodes.specs.Couriers.{IsSpentCall, Visit, choice_frame, asked_at, choice_frames, session_frames, visit_frames, IsHonestWire}
use Rattle.aw_law_nodes.specs.Couriers.{session_of, NoChoice, ChoicesOk, HasRole}
use Rattle.aw_law_nodes.specs.Nodes.{Frame, Push, Choose, Pull, Listed, happenings, ReadAs, sent_by}
use Rattle.aw_law_nodes.proofs.Balance.{total, turns-balance, moving-count}
use Rattle.aw_law_nodes.proofs.Mail.{Given}
use Rattle.aw_law_nodes.proofs.Served.{IsReached, reached-run, messages_are_outboxes}
use Rattle.aw_law_nodes.proofs.Runs.{happenings-append}
use Rattle.aw_law_nodes.proofs.Knowing.{Knows, knows-start}
use Rattle.aw_law_nodes.proofs.Turns.{rounds-known, visits-go}
use Rattle.aw_law_nodes.proofs.Carried.{flat-map}

-- ---- what a courier pulls

module _ (g : Grammar) where
  -- the messages of the senders from one on
  abbrev sent_from : ℕ → List Message → List Message
  sent_from i ms = filter (λ (m : Message). nat_le i (sender g m.kind)) ms

  -- those of one sender, and those of the later ones
  one-more-sender : (i : ℕ) (ms : List Message) → length (sent_by g i ms) + length (sent_from (suc i) ms) ≤ length (sent_from i ms)
  one-more-sender i [] = omega arith
  one-more-sender i (m ∷ ms) = go (nat_eq (sender g m.kind) i) (nat_le (suc i) (sender g m.kind)) (nat_le i (sender g m.kind)) refl refl refl (one-more-sender i ms)
    where
      go : (a b c : Bool) → nat_eq (sender g m.kind) i ≡ a → nat_le (suc i) (sender g m.kind) ≡ b → nat_le i (sender g m.kind) ≡ c
          → length (sent_by g i ms) + length (sent_from (suc i) ms) ≤ length (sent_from i ms)
          → length (cond a (m ∷ sent_by g i ms) (sent_by g i ms)) + length (cond b (m ∷ sent_from (suc i) ms) (sent_from (suc i) ms)) ≤ length (cond c (m ∷ sent_from i ms) (sent_from i ms))
      go true true c p q s h = let u = eqb-true (sender g m.kind) i p in let v = leb-true (suc i) (sender g m.kind) q in absurd (omega (arith, u, v))
      go true false true p q s h = omega (arith, h)
      go true false false p q s h = let u = le-leb i (sender g m.kind) (let v = eqb-true (sender g m.kind) i p in omega (arith, v)) in absurd cc
      go false true true p q s h = omega (arith, h)
      go false true false p q s h = let u = le-leb i (sender g m.kind) (let v = leb-true (suc i) (sender g m.kind) q in omega (arith, v)) in absurd cc
      go false false true p q s h = omega (arith, h)
      go false false false p q s h = h

  fewer-from : (i : ℕ) (ms : List Message) → length (sent_from i ms) ≤ length ms
  fewer-from i [] = omega arith
  fewer-from i (m ∷ ms) = go (nat_le i (sender g m.kind)) (fewer-from i ms)
    where
      go : (b : Bool) → length (sent_from i ms) ≤ length ms → length (cond b (m ∷ sent_from i ms) (sent_from i ms)) ≤ suc (length ms)
      go true h = omega (arith, h)
      go false h = omega (arith, h)

  -- places within the outboxes of the senders from one on
  places-from : (ps : List ℕ) (i : ℕ) (ms : List Message) → ((r j : ℕ) → j ≡ i + r → r < length ps → get 0 ps r ≤ length (sent_by g j ms)) → total ps ≤ length (sent_from i ms)
  places-from [] i ms f = omega arith
  places-from (p ∷ ps) i ms f =
      let a = f 0 i (omega arith) (omega arith) in
      let b = places-from ps (suc i) ms (λ r j q l. f (suc r) j (omega (arith, q)) (omega (arith, l))) in
      let s = one-more-sender i ms in
      omega (arith, a, b, s)

  places-few : (ps : List ℕ) (ms : List Message) → ((r : ℕ) → r < length ps → get 0 ps r ≤ length (sent_by g r ms)) → total ps ≤ length ms
  places-few ps ms f =
      let a = places-from ps 0 ms (λ r j q l. let e : r ≡ j = omega (arith, q) in subst (λ (j : ℕ). get 0 ps r ≤ length (sent_by g j ms)) e (f r l)) in
      let b = fewer-from 0 ms in
      omega (arith, a, b)

  -- ---- nothing is chosen meanwhile

  abbrev pub IsGot : SiteEvent → Type 0
  IsGot (Got m) = Unit {0}
  IsGot (Chose c) = Never

  received-same : (w : World) (k to : ℕ) (z : Received Reaction) → (received_at w k to z).world.taken ≡ w.taken
  received-same w k to (New x) = refl
  received-same w k to Repeat = refl
  received-same w k to (Conflict a b) = refl
  received-same w k to NotMine = refl
  received-same w k to BadName = refl

  -- a delivery takes no choice
  pub delivered-same : (w : World) (k : ℕ) (o : Option Message) → (deliver_on g w k o).world.taken ≡ w.taken
  delivered-same w k None = refl
  delivered-same w k (Some m) = received-same w k m.to (receive g (site_at w m.to) m)

  same-taken : (w : World) (hs : List SiteEvent) → Each IsGot hs → (es : List Move) → ReadAs g w hs es → (run g w es).taken ≡ w.taken
  same-taken w [] k [] r = refl
  same-taken w [] k (e ∷ es) r = never r
  same-taken w (Chose c ∷ hs) k es r = never k.0
  same-taken w (Got m ∷ hs) k [] r = never r
  same-taken w (Got m ∷ hs) k (Chooses d ∷ es) r = never r
  same-taken w (Got m ∷ hs) k (Delivers j ∷ es) r = same-taken (step g w (Delivers j)).world hs k.1 es r.1 ∙ delivered-same w j (slice_get w.messages j)

  no-choices : (vs : List Visit) → Each NoChoice vs → Each (ChoicesOk g) vs
  no-choices [] n = tt
  no-choices (v ∷ vs) n = (subst (λ cs. Each (λ (c : Choice). choice_ok g c ≡ true) cs) (sym n.0) tt, no-choices vs n.1)

  known-roles : (n : ℕ) → n ≡ g.roles → (vs : List Visit) → Each (HasRole g) vs → Each (λ (s : Session). s.role < n) (map session_of vs)
  known-roles n e [] k = tt
  known-roles n e (v ∷ vs) k = (subst (λ (n : ℕ). v.session.role < n) (sym e) k.0, known-roles n e vs k.1)

  module _ (size : Frame → ℕ) where
    -- a turn asks for no choice
    pub frames-got : (r : ℕ) (fs : List Frame) (xs : List Heard) → AreReplies size g fs xs → Each IsGot (happenings (map (asked_at r) fs))
    frames-got r [] xs a = tt
    frames-got r (f ∷ fs) [] a = never a
    frames-got r (Push m ∷ fs) (x ∷ xs) a = (tt, frames-got r fs xs a.1)
    frames-got r (Pull p ∷ fs) (x ∷ xs) a = frames-got r fs xs a.1
    frames-got r (Choose c ∷ fs) (x ∷ xs) a = never a.0
    frames-got r (Listed p ∷ fs) (x ∷ xs) a = never a.0

    visits-got : (c : Courier) (vs : List Visit) → Each NoChoice vs → AreTurns size g c (map session_of vs) → Each IsGot (happenings (visit_frames g vs))
    visits-got c [] n t = tt
    visits-got c (v ∷ vs) n t =
        let no : choice_frames g v ≡ [] = ap (map (choice_frame g)) n.0 in
        subst (Each IsGot) (sym (ap (λ as_. happenings (as_ ++ (session_frames v ++ visit_frames g vs))) no ∙ happenings-append (session_frames v) (visit_frames g vs)))
        (each_append IsGot (happenings (session_frames v)) (happenings (visit_frames g vs)) (frames-got v.session.role v.session.asked v.session.heard
        t.1) (visits-got (after_session c v.session) vs n.1 t.2))

    module _ (G : Given g) (loads : Bool) (few : MessagesAreBounded g) where
      -- what was pulled in a world is within the bound of its choices
      pulled-few : (w : World) → IsReached g G loads w → (c : Courier) → Knows g size w c → total c.places ≤ bound_of g w.taken
      pulled-few w R c K =
          let boxes : (r : ℕ) → (site_at w r).outbox ≡ sent_by g r w.messages =
          subst (λ (w : World). (r : ℕ) → (site_at w r).outbox ≡ sent_by g r w.messages) R.is (messages_are_outboxes g G loads R.events R.ok) in
          let some : length w.messages ≤ bound_of g w.taken = subst (λ (w : World). length w.messages ≤ bound_of g w.taken) R.is (few loads R.events R.ok).0 in
          let n = K.count in
          let p = places-few c.places w.messages (λ r l. subst (λ (ms : List Message). get 0 c.places r ≤ length ms) (boxes r) (K.within r (omega (arith, n, l)))) in
          omega (arith, p, some)

      pub rounds_are_bounded : (es : List Move) → Each (MayCome g) es → (rounds : List (List Visit)) → IsSpentCall size g (map (map session_of) rounds) → Each NoChoice (flat rounds)
          → IsHonestWire g (world_after g loads es).sites (flat rounds) → length rounds ≤ 2 * bound_of g (world_after g loads es).taken
      rounds_are_bounded es k rounds C none h =
          let R : IsReached g G loads (world_after g loads es) = record { events = es; ok = k; is = refl } in
          let K = knows-start g size (world_after g loads es) in
          let all = rounds-known g rounds C.each in
          let t = subst (AreTurns size g (new_courier g)) (flat-map session_of rounds) C.turns in
          let A = visits-go g size G loads (world_after g loads es) R (new_courier g) K (flat rounds) t (no-choices (flat rounds) none) all h in
          let V = reached-run g G loads (world_after g loads es) R A.ran.events A.ran.ok in
          let same = same-taken (world_after g loads es) (happenings (visit_frames g (flat rounds))) (visits-got (new_courier g) (flat rounds) none t) A.ran.events A.ran.read in
          let B = turns-balance g size (new_courier g) (map session_of (flat rounds)) (known-roles (length (new_courier g).places) K.count (flat rounds) all) t in
          let moved = B.moved in
          let pulled = subst (λ (cs : List Choice). total (after_all (new_courier g) (map session_of (flat rounds))).places ≤ bound_of g cs) same
          (pulled-few (run g (world_after g loads es) A.ran.events) V (after_all (new_courier g) (map session_of (flat rounds))) A.knows) in
          let count = moving-count (map (map session_of) rounds) C.moving in
          let as_many = length-mapped (map session_of) rounds in
          let as_flat = ap round_moves (flat-map session_of rounds) in
          omega (arith, moved, pulled, count, as_many, as_flat)
