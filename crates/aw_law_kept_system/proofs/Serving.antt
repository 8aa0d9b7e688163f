-- What kept nodes do is what happens in a system.
use Rattle.std.specs.Prelude.{nat_eq, take}
use Rattle.std.proofs.Common.{◌≡◌, ℕ, zero, suc, ◌<◌, ◌≤◌, Bool, true, false, cond, List, [], ◌∷◌, ◌++◌, map, length, refl, sym, ap, ◌∙◌, subst, inl, inr, arith, length-append, IsTrue}
use Rattle.std.proofs.lemmas.Bool.{eq-eqb, eqb-true}
use Rattle.std.proofs.lemmas.List.{map-append, take_at}
use Rattle.aw_list.proofs.Members.{never}
use Rattle.aw_term.specs.Rules.{Grammar, get}
use Rattle.aw_term.specs.Trees.{Never}
use Rattle.aw_law_sites.specs.SiteEvents.{site_run}
use Rattle.aw_law_sites.specs.Sites.{Site, empty_site}
use Rattle.aw_law_worlds.specs.Laws.{RefusalsAreNotTaken}
use Rattle.aw_law_worlds.proofs.Lists.{length-mapped}
use Rattle.aw_law_worlds.proofs.Places.{same_or_not}
use Rattle.aw_law_nodes.specs.Crashes.{Kept, new_kept, back_kept}
use Rattle.aw_law_nodes.proofs.OwnEvents.{start-kept}
use Rattle.aw_law_system.specs.Laws.{SystemIsOneWorld}
use Rattle.aw_law_system.specs.Systems as systems
use Rattle.aw_law_system.specs.Systems.{Extent, Unwritten, System, node_at, safe_at, first_system, Act, Asks, after_frame, act, acts_on, AreAllowed, IsAllowed}
use Rattle.aw_law_system.proofs.Acting.{IsSound, acts-append, asked-here, asked-there, crashed-here, crashed-there, sound-act, sound-asked, sound-first}
use Rattle.aw_msg.specs.Frames.{Frame}
use Rattle.aw_session.specs.Frames.{AreAnswered}
use Rattle.aw_disk.specs.declared.edge.Disk.{Ghosts}
use Rattle.aw_journal.specs.Events.{Event}
use Rattle.aw_journal.specs.Format.{events_of}
use Rattle.aw_node.specs.TypedNodes.{Rules}
use Rattle.aw_kept_node.specs.Exits.{Origin}
use Rattle.aw_kept_node.specs.KeptSites as kept
use Rattle.aw_kept_node.specs.KeptSites.{KeptSite, Standing, reopened}
use Rattle.aw_kept_node.specs.Laws.{SitesAreRuns, site_event, after_frames}
use Rattle.aw_kept_node.specs.Replying.{IsSafeSince, RepliesSafely}
use Rattle.aw_law_kept_system.specs.KeptSystems.{Session, Deed, Serves, Crashes, IsSession, IsCrash, put, first_nodes, after_deed, after_deeds, AreDeeds}
use Rattle.aw_law_kept_system.specs.KeptSystems.{frame_in, node_in, asked_of, none_of, session_acts, deed_acts, all_acts, AreCarried, stop_of, KeptNodesAreASystem, KeptNodesAreOneWorld}
use Rattle.aw_law_kept_system.proofs.Keeping.{node-after}

-- ---- lists of acts

carried-split : (g : Grammar) (loads : Bool) (u : System) (as_ bs : List Act) → AreCarried g loads u (as_ ++ bs) → AreCarried g loads u as_ × AreCarried g loads (acts_on g loads u as_) bs
carried-split g loads u [] bs h = (tt, h)
carried-split g loads u (Asks a f x ∷ as_) bs h = let (p, q) = carried-split g loads (act g loads u (Asks a f x)) as_ bs h.1 in ((h.0, p), q)
carried-split g loads u (systems.Crashes a n ∷ as_) bs h = carried-split g loads (act g loads u (systems.Crashes a n)) as_ bs h

allowed-join : (g : Grammar) (loads : Bool) (u : System) (as_ bs : List Act) → AreAllowed g loads u as_ → AreAllowed g loads (acts_on g loads u as_) bs → AreAllowed g loads u (as_ ++ bs)
allowed-join g loads u [] bs h k = k
allowed-join g loads u (a ∷ as_) bs h k = (h.0, allowed-join g loads (act g loads u a) as_ bs h.1 k)

get-map : {A B : Type 0} (f : A → B) (d : A) (xs : List A) (i : ℕ) → get (f d) (map f xs) i ≡ f (get d xs i)
get-map f d [] i = refl
get-map f d (x ∷ xs) zero = refl
get-map f d (x ∷ xs) (suc i) = get-map f d xs i

put-here : (K : ℕ → KeptSite) (role : ℕ) (k : KeptSite) → put K role k role ≡ k
put-here K role k = ap (λ b. cond b k (K role)) (eq-eqb role role refl)

put-there : (K : ℕ → KeptSite) (role : ℕ) (k : KeptSite) (a : ℕ) → (role ≡ a → Never) → put K role k a ≡ K a
put-there K role k a n = go (nat_eq a role) refl
  where
    go : (b : Bool) → nat_eq a role ≡ b → cond b k (K a) ≡ K a
    go true e = never (n (sym (eqb-true a role e)))
    go false e = refl

-- ---- what a kept node promises of the frames of a session

module _ {D : Type 0} (d : Ghosts D) (o : Origin D) (end : D) (last : List Event) where
  pub answered-end : (s t : Standing) (frames : List Frame) (replies : List (List ℕ)) → AreAnswered (RepliesSafely d o end last) s frames replies t → t.kept ≡ after_frames o.rules s.kept frames
  answered-end s t [] [] h = ap (λ (x : Standing). x.kept) h
  answered-end s t [] (x ∷ replies) h = absurd h
  answered-end s t (f ∷ frames) [] h = absurd h
  answered-end s t (f ∷ frames) (x ∷ replies) h =
      answered-end h.0 t frames replies h.2 ∙ ap (λ (k : KeptSite). after_frames o.rules k frames) h.1.replied.1

  answered-safe : IsTrue (d.tells o.disk) → (s t : Standing) (frames : List Frame) (replies : List (List ℕ)) → IsSafeSince d o end last s.moment s.kept.events
      → AreAnswered (RepliesSafely d o end last) s frames replies t → IsSafeSince d o end last t.moment t.kept.events
  answered-safe told s t [] [] safe h = subst (λ (x : Standing). IsSafeSince d o end last x.moment x.kept.events) (sym h) safe
  answered-safe told s t [] (x ∷ replies) safe h = absurd h
  answered-safe told s t (f ∷ frames) [] safe h = absurd h
  answered-safe told s t (f ∷ frames) (x ∷ replies) safe h = answered-safe told h.0 t frames replies (h.1.safe told) h.2

-- ---- frames

module _ (r : Rules) (refusals : RefusalsAreNotTaken r.grammar) (loads : Bool) where
  abbrev g : Grammar
  g = r.grammar

  abbrev after : System → ℕ → List Frame → List Extent → System
  after u role fs xs = acts_on g loads u (asked_of r role fs xs)

  -- what frames do in a system where the node is this one
  record Asked (u v : System) (role : ℕ) (k : KeptSite) : Type 0 where
    here : node_at v role ≡ node_in r k
    there : (a : ℕ) → (role ≡ a → Never) → node_at v a ≡ node_at u a
    sound : IsSound g loads v

  frames-asked : (role : ℕ) → role < g.roles → (fs : List Frame) (xs : List Extent) (u : System) → IsSound g loads u → (k : KeptSite) → length xs ≡ length fs → node_at u role ≡ node_in r k
      → AreCarried g loads u (asked_of r role fs xs) → AreAllowed g loads u (asked_of r role fs xs) × Asked u (after u role fs xs) role (after_frames r k fs)
  frames-asked role l [] xs u S k n e c = (tt, record { here = e; there = λ a d. refl; sound = S })
  frames-asked role l (f ∷ fs) [] u S k n e c = absurd (omega (arith, n))
  frames-asked role l (f ∷ fs) (x ∷ xs) u S k n e c =
      let q = frame_in r f in
      let now = asked-here g loads u S role q x l ∙ (ap (λ n. after_frame g n q) e ∙ node-after r refusals k f) in
      let (a, A) = frames-asked role l fs xs (act g loads u (Asks role q x)) (sound-asked g loads u S role q x l) (kept.after_frame r k f) (omega (arith, n)) now c.1 in
      (((l, c.0), a), record { here = A.here; there = λ b d. A.there b d ∙ asked-there g loads u S role q x l b d; sound = A.sound })

  -- where nothing is written nothing becomes safe
  none-safe : (role : ℕ) (fs : List Frame) (u : System) → safe_at (after u role fs (none_of fs)) role ≡ safe_at u role
  none-safe role [] u = refl
  none-safe role (f ∷ fs) u = none-safe role fs (act g loads u (Asks role (frame_in r f) Unwritten))

  none-many : (fs : List Frame) → length (none_of fs) ≡ length fs
  none-many fs = length-mapped (λ f. Unwritten) fs

  -- ---- a session

  record Served {D : Type 0} (u v : System) (s : Session D) : Type 0 where
    asked : Asked u v s.role (stop_of r s)
    safe : safe_at v s.role ≤ length s.written.kept.events

  session-served : {D : Type 0} (d : Ghosts D) (from : KeptSite) (s : Session D) → IsSession d r from s → (u : System) → IsSound g loads u → node_at u s.role ≡ node_in r from
      → AreCarried g loads u (session_acts r s) → AreAllowed g loads u (session_acts r s) × Served u (acts_on g loads u (session_acts r s)) s
  session-served d from s I u S e c =
      let front = asked_of r s.role s.frames s.reached in
      let back = asked_of r s.role s.unwritten (none_of s.unwritten) in
      let v = acts_on g loads u front in
      let w = acts_on g loads v back in
      let (c0, c1) = carried-split g loads u front back c in
      let stands : s.written.kept ≡ after_frames r s.start.kept s.frames = answered-end d s.origin s.end s.last s.start s.written s.frames s.replies I.answered
      ∙ ap (λ r. after_frames r s.start.kept s.frames) I.rules in
      let (a, A) = frames-asked s.role I.declared s.frames s.reached u S s.start.kept I.many (e ∙ ap (node_in r) (sym I.starts)) c0 in
      let here : node_at v s.role ≡ node_in r s.written.kept = A.here ∙ ap (node_in r) (sym stands) in
      let (b, B) = frames-asked s.role I.declared s.unwritten (none_of s.unwritten) v A.sound s.written.kept (none-many s.unwritten) here c1 in
      let safe = A.sound.safe s.role I.declared in
      let none = none-safe s.role s.unwritten v in
      let size = ap (λ (k : Kept). length k.events) here in
      let many = length-mapped (site_event r) s.written.kept.events in
      let done : Served u w s = record {
        asked = record { here = B.here; there = λ x n. B.there x n ∙ A.there x n; sound = B.sound };
        safe = omega (arith, safe, none, size, many);
      } in
      (allowed-join g loads u front back a b, subst (λ z. Served u z s) (sym (acts-append g loads u front back)) done)

  -- ---- deeds

  abbrev Matches : System → (ℕ → KeptSite) → Type 0
  Matches u K = (a : ℕ) → a < g.roles → node_at u a ≡ node_in r (K a)

  -- one node is set
  matches-put : (u v : System) (K : ℕ → KeptSite) (role : ℕ) (k : KeptSite) → Matches u K → node_at v role ≡ node_in r k
      → ((a : ℕ) → (role ≡ a → Never) → node_at v a ≡ node_at u a) → Matches v (put K role k)
  matches-put u v K role k m h t a l = elim (same_or_not role a) [
    | inl e ↦ subst (λ a. node_at v a ≡ node_in r (put K role k a)) e (h ∙ ap (node_in r) (sym (put-here K role k)))
    | inr n ↦ t a n ∙ (m a l ∙ ap (node_in r) (sym (put-there K role k a n)))
  ]

  record Done (v : System) (K : ℕ → KeptSite) : Type 0 where
    sound : IsSound g loads v
    matches : Matches v K

  module _ {D : Type 0} (d : Ghosts D) (runs : SitesAreRuns r) where
    -- what a crash leaves
    crash-done : (u v : System) (K : ℕ → KeptSite) (s : Session D) (left : List ℕ) → IsSession d r (K s.role) s → IsCrash d r loads s left → Matches u K → Served u v s
        → IsAllowed g v (systems.Crashes s.role (length (events_of left)))
        × Done (act g loads v (systems.Crashes s.role (length (events_of left)))) (put K s.role (reopened r (empty_site loads s.role) (events_of left)))
    crash-done u v K s left I C m V =
        let es = events_of left in
        let n = length es in
        let safe = answered-safe d s.origin s.end s.last I.tells s.start s.written s.frames s.replies I.safe I.answered in
        let (more, q) = (safe.left left C.since).from in
        let (rest, p) = C.begins in
        let A = V.asked in
        let x = ap length q in
        let y = length-append s.written.kept.events more in
        let a = ap length p in
        let b = length-append es rest in
        let c = length-mapped (site_event r) (stop_of r s).events in
        let z = ap (λ (k : Kept). length k.events) A.here in
        let low = V.safe in
        let allowed : IsAllowed g v (systems.Crashes s.role n) = (I.declared, omega (arith, low, x, y), omega (arith, a, b, c, z)) in
        let first : take n (node_at v s.role).events ≡ map (site_event r) es = ap (λ (k : Kept). take n k.events) A.here
        ∙ (ap (λ xs. take n (map (site_event r) xs)) p
        ∙ (ap (take n) (map-append (site_event r) es rest)
        ∙ take_at (map (site_event r) es) (map (site_event r) rest) n (length-mapped (site_event r) es))) in
        let back : back_kept g loads s.role n (node_at v s.role) ≡ node_in r (reopened r (empty_site loads s.role) es) =
        λ i. record {
          site = (ap (site_run g (empty_site loads s.role)) first ∙ sym (runs (empty_site loads s.role) es C.opened)) i;
          events = first i;
        } in
        let here = crashed-here g loads v A.sound s.role n I.declared allowed.1 allowed.2 ∙ back in (
          allowed,
          record {
            sound = sound-act g loads v A.sound (systems.Crashes s.role n) allowed;
            matches = matches-put u (act g loads v (systems.Crashes s.role n)) K s.role (reopened r (empty_site loads s.role) es) m here
                (λ a d. crashed-there g loads v A.sound s.role n I.declared allowed.1 allowed.2 a d ∙ A.there a d);
          },
        )

    deed-done : (x : Deed D) (u : System) (K : ℕ → KeptSite) → Done u K → AreDeeds d r loads K (x ∷ []) → AreCarried g loads u (deed_acts r x)
        → AreAllowed g loads u (deed_acts r x) × Done (acts_on g loads u (deed_acts r x)) (after_deed r loads K x)
    deed-done (Serves s) u K G h c =
        let I = h.0 in
        let (a, V) = session-served d (K s.role) s I u G.sound (G.matches s.role I.declared) c in
        (a, record { sound = V.asked.sound; matches = matches-put u (acts_on g loads u (session_acts r s)) K s.role (stop_of r s) G.matches V.asked.here V.asked.there })
    deed-done (Crashes s left) u K G h c =
        let I = h.0.0 in
        let last = systems.Crashes s.role (length (events_of left)) ∷ [] in
        let (c0, c1) = carried-split g loads u (session_acts r s) last c in
        let (a, V) = session-served d (K s.role) s I u G.sound (G.matches s.role I.declared) c0 in
        let (b, E) = crash-done u (acts_on g loads u (session_acts r s)) K s left I h.0.1 G.matches V in (
          allowed-join g loads u (session_acts r s) last a (b, tt),
          subst (λ v. Done v (put K s.role (reopened r (empty_site loads s.role) (events_of left)))) (sym (acts-append g loads u (session_acts r s) last)) E,
        )

    deeds-done : (ds : List (Deed D)) (u : System) (K : ℕ → KeptSite) → Done u K → AreDeeds d r loads K ds → AreCarried g loads u (all_acts r ds)
        → AreAllowed g loads u (all_acts r ds) × Done (acts_on g loads u (all_acts r ds)) (after_deeds r loads K ds)
    deeds-done [] u K G h c = (tt, G)
    deeds-done (x ∷ ds) u K G h c =
        let (c0, c1) = carried-split g loads u (deed_acts r x) (all_acts r ds) c in
        let (a, E) = deed-done x u K G (h.0, tt) c0 in
        let (b, F) = deeds-done ds (acts_on g loads u (deed_acts r x)) (after_deed r loads K x) E h.1 c1 in
        (allowed-join g loads u (deed_acts r x) (all_acts r ds) a b, subst (λ v. Done v (after_deeds r loads K (x ∷ ds))) (sym (acts-append g loads u (deed_acts r x) (all_acts r ds))) F)

  first-done : Done (first_system g loads) (first_nodes r loads)
  first-done = record { sound = sound-first g loads; matches = λ a l. start-kept g loads a l }

pub kept_nodes_are_a_system : {D : Type 0} (d : Ghosts D) → ((g : Grammar) → RefusalsAreNotTaken g) → ((r : Rules) → SitesAreRuns r) → KeptNodesAreASystem d
kept_nodes_are_a_system d refusals runs r loads ds h c =
    let (a, G) = deeds-done r (refusals r.grammar) loads d (runs r) ds (first_system r.grammar loads) (first_nodes r loads) (first-done r (refusals r.grammar) loads) h c in
    (a, G.matches)

pub kept_nodes_are_one_world : {D : Type 0} (d : Ghosts D) → ((g : Grammar) → RefusalsAreNotTaken g) → ((r : Rules) → SitesAreRuns r) → (r : Rules)
    → SystemIsOneWorld r.grammar → KeptNodesAreOneWorld d r
kept_nodes_are_one_world d refusals runs r world loads ds h c =
    let (a, m) = kept_nodes_are_a_system d refusals runs r loads ds h c in
    let (fs, W) = world loads (all_acts r ds) a in (
      fs,
      record {
        may_come = W.may_come;
        events = W.events;
        journals = λ b l. W.journals b ∙ ap (λ (k : Kept). k.events) (m b l);
        sites = λ b l.
            ap (λ (xs : List Site). get (empty_site false b) xs b) W.sites
            ∙ (get-map (λ (k : Kept). k.site) (new_kept false b) _ b ∙ ap (λ (k : Kept). k.site) (m b l));
      },
    )
