-- What a run of the program tells at its ends is a session, wherever it is cut.
use Rattle.std.proofs.Common.{◌≡◌, ℕ, ◌<◌, ◌≤◌, Bool, List, [], ◌∷◌, ◌++◌, length, Option, Some, None, refl, sym, ap, ◌∙◌, subst, arith, IsTrue}
use Rattle.aw_out.specs.Wires as wire
use Rattle.aw_out.specs.declared.edge.Wire as wires
use Rattle.aw_law_sites.specs.Sites.{empty_site}
use Rattle.aw_msg.specs.Frames.{Frame}
use Rattle.aw_session.specs.Broken.{StopsAt, Reading, Replying}
use Rattle.aw_session.specs.Frames.{AreAnswered}
use Rattle.aw_session.specs.Served.{AreServed}
use Rattle.aw_session.specs.Sessions.{LastStops}
use Rattle.aw_session.specs.declared.log.SessionLog.{SessionLog}
use Rattle.aw_disk.specs.declared.edge.Disk.{Ghosts}
use Rattle.aw_journal.specs.Events.{Event}
use Rattle.aw_node.specs.TypedNodes.{Rules}
use Rattle.aw_kept_node.specs.Exits.{Origin}
use Rattle.aw_kept_node.specs.KeptSites.{KeptSite, Standing, after_frame, reopened, standing, with_event}
use Rattle.aw_kept_node.specs.Laws.{after_frames}
use Rattle.aw_kept_node.specs.Replying.{IsSafeSince, LeavesInHand, RepliesSafely}
use Rattle.aw_kept_node.specs.Serving.{begun_at}
use Rattle.aw_law_kept_system.specs.Runs.{IsRunOf, RunsFrom, ServedAreSessions, UnopenedAreSessions, CutOffAreSessions}
use Rattle.aw_law_kept_system.proofs.Serving.{answered-end}

-- ---- frames that were answered

module _ (A : Standing → Frame → List ℕ → Standing → Type 0) where
  join-answered : (s m t : Standing) (fs gs : List Frame) (xs ys : List (List ℕ)) → AreAnswered A s fs xs m → AreAnswered A m gs ys t → AreAnswered A s (fs ++ gs) (xs ++ ys) t
  join-answered s m t [] gs [] ys h k = subst (λ (s : Standing). AreAnswered A s gs ys t) h k
  join-answered s m t [] gs (x ∷ xs) ys h k = absurd h
  join-answered s m t (f ∷ fs) gs [] ys h k = absurd h
  join-answered s m t (f ∷ fs) gs (x ∷ xs) ys h k = (h.0, h.1, join-answered h.0 m t fs gs xs ys h.2 k)

  record Split (s t : Standing) (front back : List Frame) : Type 0 where
    between : Standing
    first : List (List ℕ)
    before : AreAnswered A s front first between
    rest : List (List ℕ)
    behind : AreAnswered A between back rest t

  split-answered : (s t : Standing) (front back : List Frame) (replies : List (List ℕ)) → AreAnswered A s (front ++ back) replies t → Split s t front back
  split-answered s t [] back replies h = record { between = s; first = []; before = refl; rest = replies; behind = h }
  split-answered s t (f ∷ front) back [] h = absurd h
  split-answered s t (f ∷ front) back (x ∷ replies) h =
      let p = split-answered h.0 t front back replies h.2 in
      record { between = p.between; first = x ∷ p.first; before = (h.0, h.1, p.before); rest = p.rest; behind = p.behind }

  -- those of several sessions, one behind the other
  record All (s t : Standing) : Type 0 where
    frames : List Frame
    replies : List (List ℕ)
    answered : AreAnswered A s frames replies t

  more-answered : (s m t : Standing) (frames : List Frame) (replies : List (List ℕ)) → AreAnswered A s frames replies m → All m t → All s t
  more-answered s m t frames replies h k = record {
    frames = frames ++ k.frames;
    replies = replies ++ k.replies;
    answered = join-answered s m t frames k.frames replies k.replies h k.answered;
  }

  all-served : (role : ℕ) (s t : Standing) (xs : List wire.Session) (ls : List SessionLog) → AreServed A role s xs ls t → All s t
  all-served role s t [] [] h = record { frames = []; replies = []; answered = h }
  all-served role s t [] (l ∷ ls) h = absurd h
  all-served role s t (x ∷ xs) [] h = absurd h
  all-served role s t (x ∷ xs) (l ∷ ls) h =
      let (m, a, b, I, later) = h in
      more-answered s m t I.frames I.replies I.answered (all-served role m t xs ls later)

after-append : (r : Rules) (k : KeptSite) (fs gs : List Frame) → after_frames r k (fs ++ gs) ≡ after_frames r (after_frames r k fs) gs
after-append r k [] gs = refl
after-append r k (f ∷ fs) gs = after-append r (after_frame r k f) fs gs

-- ---- a run

module _ {D : Type 0} (d : Ghosts D) (o : Origin D) (end : D) (last : List Event) where
  run-is : (role : ℕ) → role < o.rules.grammar.roles → IsTrue (d.tells o.disk) → (s t : Standing) → IsSafeSince d o end last s.moment s.kept.events
      → All (RepliesSafely d o end last) s t → (stop : KeptSite) → t.kept ≡ stop → (in_hand : List Frame) → (answered : List Frame) × IsRunOf d o.rules role s.kept stop end answered in_hand
  run-is role l told s t safe H stop e in_hand = (
    H.frames,
    λ front back reached p n.
        let q = split-answered (RepliesSafely d o end last) s t front back H.replies (subst (λ fs. AreAnswered (RepliesSafely d o end last) s fs H.replies t) p H.answered) in
        record {
          session =
              record { role = role; origin = o; end = end; last = last; start = s; frames = front; replies = q.first; reached = reached; written = q.between; unwritten = back ++ in_hand };
          same_role = refl;
          same_end = refl;
          asked = refl;
          reach = refl;
          rest = refl;
          is_session = record { declared = l; rules = refl; starts = refl; tells = told; safe = safe; answered = q.before; many = n };
          stops =
              after-append o.rules q.between.kept back in_hand
              ∙ ap (λ (k : KeptSite). after_frames o.rules k in_hand) (sym (answered-end d o end last q.between t back q.rest q.behind) ∙ e);
        },
  )

pub served_are_sessions : {W D : Type 0} (w : wires.Ghosts W) (d : Ghosts D) → ServedAreSessions w d
served_are_sessions w d r loads role text u v old new log l told x =
    let o = begun_at r (empty_site loads role) role text x.events old in
    let s = standing (reopened r (empty_site loads role) x.events) x.opened_at in
    let H = all-served (RepliesSafely d o new x.after.kept.events) role s x.after x.served.sessions log x.served.served in
    run-is d o new x.after.kept.events role l told s x.after (x.safe told) H x.after.kept refl []

pub unopened_are_sessions : {W D : Type 0} (w : wires.Ghosts W) (d : Ghosts D) → UnopenedAreSessions w d
unopened_are_sessions w d r loads role text u v old new l told x =
    let o = begun_at r (empty_site loads role) role text x.events old in
    let s = standing (reopened r (empty_site loads role) x.events) x.opened_at in
    let H = all-served (RepliesSafely d o new x.after.kept.events) role s x.after x.served.sessions x.served.log x.served.served in
    run-is d o new x.after.kept.events role l told s x.after (x.safe told) H x.after.kept refl []

-- ---- a frame that got no reply

module _ {D : Type 0} (d : Ghosts D) (r : Rules) (loads : Bool) (role : ℕ) (text : List ℕ) (old new : D) (events : List Event) (opened_at : ℕ) (last : List Event) where
  abbrev o : Origin D
  o = begun_at r (empty_site loads role) role text events old

  abbrev s : Standing
  s = standing (reopened r (empty_site loads role) events) opened_at

  abbrev Ran : KeptSite → Type 0
  Ran stop = (answered : List Frame) × (in_hand : List Frame) × (length in_hand ≤ 1) × RunsFrom d r loads role events stop new answered in_hand

  module _ (l : role < r.grammar.roles) (told : IsTrue (d.tells old)) (safe : IsSafeSince d o new last opened_at events) where
    with-in-hand : (m t : Standing) → All (RepliesSafely d o new last) s m → m.kept ≡ t.kept → (in_hand : List Frame) → length in_hand ≤ 1 → Ran t.kept
    with-in-hand m t H e in_hand n = let (answered, run) = run-is d o new last role l told s m safe H t.kept e in_hand in (answered, in_hand, n, run)

    stopped-at : (rest : List ℕ) (m t : Standing) → All (RepliesSafely d o new last) s m → StopsAt {F = Unit {0}} (LeavesInHand r) rest m tt t → Ran t.kept
    stopped-at rest m t H (Reading e) = with-in-hand m t H (ap (λ (s : Standing). s.kept) (sym e)) [] (omega arith)
    stopped-at rest m t H (Replying f behind p e) = with-in-hand m t H (ap (λ (s : Standing). s.kept) (sym e)) (f ∷ []) (omega arith)

    last-stops : (m t : Standing) → All (RepliesSafely d o new last) s m → (x : Option wire.Session) → LastStops {F = Unit {0}} (RepliesSafely d o new last) (LeavesInHand r) role m t tt x → Ran t.kept
    last-stops m t H None e = with-in-hand m t H (ap (λ (s : Standing). s.kept) (sym e)) [] (omega arith)
    last-stops m t H (Some x) h =
        let (a, b, c, S) = h in
        let more : All (RepliesSafely d o new last) m S.between = record { frames = S.frames; replies = S.replies; answered = S.answered } in
        stopped-at S.rest S.between t (more-answered (RepliesSafely d o new last) s m S.between H.frames H.replies H.answered more) S.stops

pub cut_off_are_sessions : {W D : Type 0} (w : wires.Ghosts W) (d : Ghosts D) → CutOffAreSessions w d
cut_off_are_sessions w d r loads role text u v old new fault l told x =
    let end = with_event x.after.kept.events x.after.in_hand in
    let o = begun_at r (empty_site loads role) role text x.events old in
    let s = standing (reopened r (empty_site loads role) x.events) x.opened_at in
    let C = x.served in
    let H = all-served (RepliesSafely d o new end) role s C.between C.sessions C.log C.served in
    last-stops d r loads role text old new x.events x.opened_at end l told (x.safe told) C.between x.after H C.last C.stops
