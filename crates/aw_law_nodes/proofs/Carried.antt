-- Where a courier over an honest wire answers Quiet, the world is quiet.
use Rattle.std.specs.Prelude.{slice_get, ◌⊎◌, nat_eq}
use Rattle.std.proofs.lemmas.Option.{slice_get_within}
use Rattle.std.proofs.Common.{◌≡◌, ℕ, zero, suc, ◌+◌, ◌<◌, ◌≤◌, Bool, true, false, List, [], ◌∷◌, ◌++◌, map, length, Some, None, refl, sym, ap, ◌∙◌, subst, inl, inr, arith, append_assoc}
use Rattle.std.proofs.lemmas.List.{map-append}
use Rattle.std.proofs.lemmas.Bool.{eq-eqb, cases_lt}
use Rattle.aw_list.specs.Members.{Member}
use Rattle.aw_list.proofs.Members.{never, member_got}
use Rattle.aw_list.proofs.Everyday.{get_within as get-within}
use Rattle.aw_term.specs.Rules.{Grammar, get, upto}
use Rattle.aw_term.specs.Trees.{Never}
use Rattle.aw_term.specs.WellFormed.{Each}
use Rattle.aw_term.proofs.Eaches.{each_left, each_right}
use Rattle.aw_apply.specs.Messages.{Message}
use Rattle.aw_law_sites.specs.Sites.{Site, empty_site}
use Rattle.aw_law_sites.specs.Worlds.{World, empty_world, site_at, first_false, Move, run, IsQuiet}
use Rattle.aw_law_worlds.specs.Invariant.{sender, IsDelivered}
use Rattle.aw_law_worlds.specs.Laws.{MayCome, world_after}
use Rattle.aw_law_worlds.proofs.Lists.{Member-filter}
use Rattle.aw_law_worlds.proofs.Places.{member-get, same_or_not}
use Rattle.aw_law_worlds.proofs.Settling.{run_both}
use Rattle.aw_law_nodes.specs.Couriers.{Session, Courier, new_courier, for_role, turn_room, after_session, AreTurns, round_moves, after_all, flat}
use Rattle.aw_law_nodes.specs.Couriers.{IsRound, IsQuietCall, Visit, choice_frames, session_frames, visit_frames, IsHonestWire, session_of, NoneLater}
use Rattle.aw_law_nodes.specs.Couriers.{ChoicesOk}
use Rattle.aw_law_nodes.specs.Nodes.{Frame, Pull, Asked, sites_after, happenings, ReadAs}
use Rattle.aw_law_nodes.proofs.Mail.{Given}
use Rattle.aw_law_nodes.proofs.Served.{IsReached, reached-run, reached-mail}
use Rattle.aw_law_nodes.proofs.ListParts.{cons-inj, get-short}
use Rattle.aw_law_nodes.proofs.Following.{run-follows}
use Rattle.aw_law_nodes.proofs.Runs.{sites-append, Ran, ran-none, ran-append, choices-go}
use Rattle.aw_law_nodes.proofs.Knowing.{Knows, knows-start, knows-on}
use Rattle.aw_law_nodes.proofs.Turns.{rounds-known, visits-go}
use Rattle.aw_law_nodes.proofs.Still.{IsStill, round-rests}

none-false : (ds : List Bool) (i : ℕ) → ((k : ℕ) → k < length ds → slice_get ds k ≡ Some true) → first_false i ds ≡ None
none-false [] i f = refl
none-false (true ∷ ds) i f = none-false ds (suc i) (λ k l. f (suc k) (omega arith))
none-false (false ∷ ds) i f = (let z = f 0 (omega arith) in absurd cc)

none-of : (r : ℕ) (ws : List Message) (m : Message) → for_role r ws ≡ [] → Member m ws → m.to ≡ r → Never
none-of r ws m e i t = subst (Member m) e (Member-filter (λ (m : Message). nat_eq m.to r) m ws i (eq-eqb m.to r t))

-- what is mapped one behind the other
pub flat-map : {A B : Type 0} (f : A → B) (xss : List (List A)) → flat (map (map f) xss) ≡ map f (flat xss)
flat-map f [] = refl
flat-map f (xs ∷ xss) = ap (λ ys. map f xs ++ ys) (flat-map f xss) ∙ sym (map-append f xs (flat xss))

-- a round comes to each role
of-round : (P : ℕ → Type 0) (vs : List Visit) (i n : ℕ) → map (λ (s : Session). s.role) (map session_of vs) ≡ upto i n → Each (λ (v : Visit). P v.session.role) vs → (r : ℕ) → i ≤ r → r < i + n → P r
of-round P [] i zero e p r a b = absurd (omega arith)
of-round P [] i (suc n) e p r a b = absurd cc
of-round P (v ∷ vs) i zero e p r a b = absurd cc
of-round P (v ∷ vs) i (suc n) e p r a b = elim (same_or_not i r) [
  | inl q ↦ subst P ((cons-inj e).0 ∙ q) p.0
  | inr q ↦ of-round P vs (suc i) n (cons-inj e).1 p.1 r (elim (cases_lt i r) [ inl z ↦ omega arith | inr z ↦ never (q (omega arith)) ]) (omega arith)
]

module _ (g : Grammar) where
  -- the frames and the honest wire of a call, cut before its last round
  frames-append : (xs ys : List Visit) → visit_frames g (xs ++ ys) ≡ visit_frames g xs ++ visit_frames g ys
  frames-append [] ys = refl
  frames-append (v ∷ xs) ys =
      ap (λ as_. choice_frames g v ++ (session_frames v ++ as_)) (frames-append xs ys)
      ∙ (ap (λ as_. choice_frames g v ++ as_) (sym (append_assoc (session_frames v) (visit_frames g xs) (visit_frames g ys)))
      ∙ sym (append_assoc (choice_frames g v) (session_frames v ++ visit_frames g xs) (visit_frames g ys)))

  honest-append : (ss : List Site) (xs ys : List Visit) → IsHonestWire g ss (xs ++ ys) → IsHonestWire g ss xs × IsHonestWire g (sites_after g ss (visit_frames g xs)) ys
  honest-append ss [] ys h = (tt, h)
  honest-append ss (v ∷ xs) ys h =
      let z = honest-append (sites_after g (sites_after g ss (choice_frames g v)) (session_frames v)) xs ys h.1 in (
        (h.0, z.0),
        subst (λ ss. IsHonestWire g ss ys) (sym (sites-append g ss (choice_frames g v) (session_frames v ++ visit_frames g xs)
            ∙ sites-append g (sites_after g ss (choice_frames g v)) (session_frames v) (visit_frames g xs))) z.1,
      )

  -- the last round
  record Ended_quiet (w : World) (as_ : List Asked) : Type 0 where
    ran : Ran g w as_
    quiet : IsQuiet (run g w ran.events)

  module _ (G : Given g) (loads : Bool) (size : Frame → ℕ) where
    -- all that was sent is delivered
    delivered-all : (w : World) → IsReached g G loads w → (c : Courier) → Knows g size w c → ((r : ℕ) → r < g.roles → IsStill w c r) → (k : ℕ) → k < length w.delivered → IsDelivered w k
    delivered-all w R c K still k l =
        let M = reached-mail g G loads w R in
        let marks = M.marks in
        let (m, e) = get-within w.messages k (omega (arith, marks, l)) in
        let b = M.boxed m (member_got w.messages k m e) in
        let (p, d) = member-get (site_at w (sender g m.kind)).outbox m b in
        let a = in-range (sender g m.kind) (cases_lt (sender g m.kind) (length w.sites)) M.sites m b in
        let q = still (sender g m.kind) a in
        let s = slice_get_within (site_at w (sender g m.kind)).outbox p m d in
        elim (K.pulled (sender g m.kind) p m a (le-on p (length (site_at w (sender g m.kind)).outbox) (get 0 c.places (sender g m.kind)) s q.1) d) [
          | inl i ↦ never (none-of m.to c.waiting m (still m.to (K.waits m i).1).0 i refl)
          | inr t ↦ subst (IsDelivered w) (M.once t.0 k m t.1 e) t.2
        ]
      where
        le-on : (p n q : ℕ) → p < n → n ≤ q → p < q
        le-on p n q a b = omega arith

        in-range : (a : ℕ) → (a < length w.sites) ⊎ (length w.sites ≤ a) → length w.sites ≡ g.roles → (m : Message) → Member m (site_at w a).outbox → a < g.roles
        in-range a (inl z) n m i = omega (arith, z, n)
        in-range a (inr z) n m i = never (subst (λ (s : Site). Member m s.outbox) (get-short (empty_site false a) w.sites a z) i)

    -- a world in which all is pulled and nothing waits is quiet
    is-quiet : (w : World) → IsReached g G loads w → (c : Courier) → Knows g size w c → ((r : ℕ) → r < g.roles → IsStill w c r) → IsQuiet w
    is-quiet w R c K still = none-false w.delivered 0 (delivered-all w R c K still)

    -- the turns of a call, cut before its last round
    turns-append : (c : Courier) (xs ys : List Session) → AreTurns size g c (xs ++ ys) → AreTurns size g c xs × AreTurns size g (after_all c xs) ys
    turns-append c [] ys t = (tt, t)
    turns-append c (x ∷ xs) ys t = let z = turns-append (after_session c x) xs ys t.2 in ((t.0, t.1, z.0), z.1)

    module _ (small : (p : ℕ) → size (Pull p) ≤ turn_room) where
      last-quiet : (w : World) → IsReached g G loads w → (c : Courier) → Knows g size w c → (vs : List Visit) → IsRound g (map session_of vs) →
          AreTurns size g c (map session_of vs) → Each (ChoicesOk g) vs → NoneLater vs → IsHonestWire g w.sites vs →
          round_moves (map session_of vs) ≡ 0 → Ended_quiet w (visit_frames g vs)
      last-quiet w R c K [] o t k n h m = record { ran = ran-none g w; quiet = is-quiet w R c K (λ r l. of-round (IsStill w c) [] 0 g.roles o tt r (omega arith) (omega arith)) }
      last-quiet w R c K (v ∷ vs) o t k n h m =
          let A = choices-go g G loads w R v k.0 in
          let U = reached-run g G loads w R A.events A.ok in
          let L = knows-on g size w (run g w A.events) (run-follows g w A.events) c K in
          let S = round-rests g size small (run g w A.events) c L (record { choices = []; session = v.session } ∷ vs) t (refl, n)
          (subst (λ ss. IsHonestWire g ss (record { choices = []; session = v.session } ∷ vs)) (sym A.sites) h) m in
          record {
            ran = ran-append g w (choice_frames g v) A (session_frames v ++ visit_frames g vs)
                (record { events = []; ok = tt; read = subst (λ hs. ReadAs g (run g w A.events) hs []) (sym S.silent) tt; sites = sym S.sites });
            quiet = subst IsQuiet (sym (run_both g w A.events [])) (is-quiet (run g w A.events) U c L
                (λ r l. of-round (IsStill (run g w A.events) c) (record { choices = []; session = v.session } ∷ vs) 0 g.roles o S.still r (omega arith) (omega arith)));
          }

      pub quiet_means_quiet : (es : List Move) → Each (MayCome g) es →
          (rounds : List (List Visit)) (last : List Visit) → IsQuietCall size g (map (map session_of) rounds) (map session_of last) →
          Each (ChoicesOk g) (flat rounds ++ last) → NoneLater last → IsHonestWire g (world_after g loads es).sites (flat rounds ++ last) →
          (fs : List Move) × ReadAs g (world_after g loads es) (happenings (visit_frames g (flat rounds ++ last))) fs × Each (MayCome g) fs
          × ((world_after g loads (es ++ fs)).sites ≡ sites_after g (world_after g loads es).sites (visit_frames g (flat rounds ++ last))) × IsQuiet (world_after g loads (es ++ fs))
      quiet_means_quiet es k rounds last C ok n h =
          let R : IsReached g G loads (world_after g loads es) = record { events = es; ok = k; is = refl } in
          let t = turns-append (new_courier g) (map session_of (flat rounds)) (map session_of last)
          (subst (λ ss. AreTurns size g (new_courier g) (ss ++ map session_of last)) (flat-map session_of rounds) C.turns) in
          let q = honest-append (world_after g loads es).sites (flat rounds) last h in
          let A = visits-go g size G loads (world_after g loads es) R (new_courier g) (knows-start g size (world_after g loads es)) (flat rounds) t.0
          (each_left (ChoicesOk g) (flat rounds) last ok) (rounds-known g rounds C.each) q.0 in
          let V = reached-run g G loads (world_after g loads es) R A.ran.events A.ran.ok in
          let B = last-quiet (run g (world_after g loads es) A.ran.events) V (after_all (new_courier g) (map session_of (flat rounds))) A.knows last
          C.one t.1 (each_right (ChoicesOk g) (flat rounds) last ok) n
          (subst (λ ss. IsHonestWire g ss last) (sym A.ran.sites) q.1) C.still in
          let Z = subst (Ended_quiet (world_after g loads es)) (sym (frames-append (flat rounds) last)) (record {
            ran = ran-append g (world_after g loads es) (visit_frames g (flat rounds)) A.ran (visit_frames g last) B.ran;
            quiet = subst IsQuiet (sym (run_both g (world_after g loads es) A.ran.events B.ran.events)) B.quiet;
          }) in
          let e = run_both g (empty_world g loads) es Z.ran.events in
          (Z.ran.events, Z.ran.read, Z.ran.ok, ap (λ (w : World). w.sites) e ∙ Z.ran.sites, subst IsQuiet (sym e) Z.quiet)
