-- Where a courier ends quiet and no choice is taken since its last round began, nothing new comes any more, and no crash takes anything.
use Rattle.std.specs.Prelude.{slice_get, nat_eq, ◌⊎◌}
use Rattle.std.proofs.Common.{◌≡◌, ℕ, zero, suc, ◌+◌, ◌<◌, ◌≤◌, Bool, false, List, [], ◌∷◌, ◌++◌, map, length, Option, Some, None, refl, sym, ap, ◌∙◌, subst, inl, inr, arith, eq-eqb, le_of_eq}
use Rattle.std.proofs.lemmas.Bool.{cases_lt}
use Rattle.std.proofs.lemmas.List.{append-nil, take_all}
use Rattle.std.proofs.lemmas.Option.{slice_get_within}
use Rattle.aw_list.specs.Members.{Member}
use Rattle.aw_list.proofs.Members.{never, member_map, member_unmap}
use Rattle.aw_list.proofs.Everyday.{some-inj}
use Rattle.aw_term.specs.Rules.{Grammar, get, upto}
use Rattle.aw_term.specs.Trees.{Never}
use Rattle.aw_term.specs.WellFormed.{Each}
use Rattle.aw_term.proofs.Eaches.{each_append}
use Rattle.aw_apply.specs.Messages.{Message, Repeat}
use Rattle.aw_law_sites.specs.Reacting.{receive}
use Rattle.aw_law_sites.specs.SiteEvents.{site_run}
use Rattle.aw_law_sites.specs.Sites.{Site, empty_site}
use Rattle.aw_law_worlds.specs.Laws.{Repeats}
use Rattle.aw_law_worlds.proofs.Counting.{none_past}
use Rattle.aw_law_worlds.proofs.Lists.{Member-filter}
use Rattle.aw_law_worlds.proofs.Places.{member-get, same_or_not}
use Rattle.aw_law_nodes.specs.Couriers.{NoMore, hear, Session, Courier, new_courier, for_role, after_session, AreTurns, after_all, flat, IsRound}
use Rattle.aw_law_nodes.specs.Crashes.{Kept, new_kept, CrashesLeaveAWorld}
use Rattle.aw_law_nodes.specs.Nodes.{Frame, Pull, Sends, at_place, handle}
use Rattle.aw_law_nodes.proofs.GoingBack.{back-all}
use Rattle.aw_law_nodes.proofs.ListParts.{cons-inj, get-short, map-map}
use Rattle.aw_law_nodes.proofs.Mail.{Given}
use Rattle.aw_law_settling.specs.Still.{IsStill, StillHolds}
use Rattle.aw_law_system.specs.Resting.{Deed, Mine, Others, act_of, Exchange, all_exchanges, exchanged, TakesNone, NoneTaken, IsAtRest, QuietIsAtRest}
use Rattle.aw_law_system.specs.Systems as systems
use Rattle.aw_law_system.specs.Systems.{Extent, System, node_at, safe_at, first_system, Act, Asks, Crashes, after_frame, act, acts_on, system_after, IsCarried, IsAllowed, AreAllowed}
use Rattle.aw_law_system.proofs.Acting.{safe_site, acts-append, allowed-append, asked-here, asked-there, asked-safe, safe-either, written-all, crashed-here, crashed-there}
use Rattle.aw_law_system.proofs.Carrying.{knows-first, GoesOn, goes-act, deeds-known}
use Rattle.aw_law_system.proofs.Feeding.{IsFed, fed-first, fed-act, fed-acts, IsSettled, settled-node, safe-box, node-box, prefix-length, world, world-site}
use Rattle.aw_law_system.proofs.Framing.{Makes, nothing, choosing, getting, makes, new-here}
use Rattle.aw_law_system.proofs.Leaving.{IsHeld, held-first, held-act, held-acts, left}
use Rattle.aw_law_system.proofs.Mirroring.{node-role}
use Rattle.aw_law_system.proofs.Turning.{no_more, turns-next, noted-sessions, still-turns}

-- ---- lists

each-at : {A : Type 0} (P : A → Type 0) (xs : List A) (x : A) → Each P xs → Member x xs → P x
each-at P [] x e i = never i
each-at P (y ∷ xs) x e (inl q) = subst P (sym q) e.0
each-at P (y ∷ xs) x e (inr i) = each-at P xs x e.1 i

upto-member : (i n a : ℕ) → i ≤ a → a < i + n → Member a (upto i n)
upto-member i zero a l m = absurd (omega arith)
upto-member i (suc n) a l m = elim (cases_lt i a) [
  | inl k ↦ inr (upto-member (suc i) n a (omega arith) (omega arith))
  | inr k ↦ inl (omega arith)
]

upto-below : (ss : List Session) (i n k : ℕ) → i + n ≤ k → map (λ (s : Session). s.role) ss ≡ upto i n → Each (λ (s : Session). s.role < k) ss
upto-below [] i n k l e = tt
upto-below (s ∷ ss) i zero k l e = absurd cc
upto-below (s ∷ ss) i (suc n) k l e = let p = (cons-inj e).0 in (omega (arith, p, l), upto-below ss (suc i) n k (omega arith) (cons-inj e).1)

rounds-below : (g : Grammar) (rounds : List (List Session)) → Each (IsRound g) rounds → Each (λ (s : Session). s.role < g.roles) (flat rounds)
rounds-below g [] e = tt
rounds-below g (ss ∷ rounds) e = each_append (λ (s : Session). s.role < g.roles) ss (flat rounds) (upto-below ss 0 g.roles g.roles (omega arith) e.0) (rounds-below g rounds e.1)

turns-split : (size : Frame → ℕ) (g : Grammar) (c : Courier) (xs ys : List Session) → AreTurns size g c (xs ++ ys) → AreTurns size g c xs × AreTurns size g (after_all c xs) ys
turns-split size g c [] ys t = (tt, t)
turns-split size g c (x ∷ xs) ys t = let z = turns-split size g (after_session c x) xs ys t.2 in ((t.0, t.1, z.0), z.1)

none-waits : (r : ℕ) (ws : List Message) (m : Message) → for_role r ws ≡ [] → Member m ws → m.to ≡ r → Never
none-waits r ws m e i t = subst (Member m) e (Member-filter (λ (m : Message). nat_eq m.to r) m ws i (eq-eqb m.to r t))

ended-at : (n : ℕ) (o : Option Message) → NoMore ≡ hear (at_place Sends n o) → o ≡ None
ended-at n None e = refl
ended-at n (Some x) e = absurd cc

-- an exchange in which a role had no more messages
said-none : (g : Grammar) (s : System) (c : Courier) (a r : ℕ) (f : Frame) → no_more c a ≡ record { role = r; frame = f; heard = hear (handle g (node_at s r).site f).response }
    → (a ≡ r) × (length (node_at s a).site.outbox ≤ get 0 c.places a)
said-none g s c a r f e =
    let p : a ≡ r = ap (λ (x : Exchange). x.role) e in
    let q : Pull (get 0 c.places a) ≡ f = ap (λ (x : Exchange). x.frame) e in
    let h : NoMore ≡ hear (handle g (node_at s r).site f).response = ap (λ (x : Exchange). x.heard) e in
    let h' : NoMore ≡ hear (handle g (node_at s a).site (Pull (get 0 c.places a))).response = h ∙ (λ i. hear (handle g (node_at s (sym p i)).site (sym q i)).response) in
    (p, none_past (node_at s a).site.outbox (get 0 c.places a) (ended-at (length (node_at s a).site.outbox) (slice_get (node_at s a).site.outbox (get 0 c.places a)) h'))

module _ (g : Grammar) (G : Given g) (law : CrashesLeaveAWorld g) (loads : Bool) (repeats : Repeats g) (size : Frame → ℕ) (c : Courier) (none : (m : Message) → Member m c.waiting → Never) where
  -- no crash takes an event of this role, and all that it sent was pulled
  record IsDone (s : System) (a : ℕ) : Type 0 where
    safe : safe_at s a ≡ length (node_at s a).events
    pulled : length (node_at s a).site.outbox ≤ get 0 c.places a

  -- that is so of each role whose session of the last round is over
  abbrev Rests : System → List ℕ → Type 0
  Rests s rs = (a : ℕ) → a < g.roles → Member a rs ⊎ IsDone s a

  -- before its session too, all that a role sent by safe events was pulled
  visited : (ds : List Deed) (s : System) → IsHeld g G law loads s → IsFed g G law loads s → AreAllowed g loads s (map act_of ds) → (a : ℕ) →
      a < g.roles → Member (no_more c a) (exchanged g loads s ds)
      → length (safe_site g loads s a).outbox ≤ get 0 c.places a
  visited [] s H F h a l i = never i
  visited (Others x ∷ ds) s H F h a l i =
      let t = act g loads s x in
      let later = visited ds t (held-act g G law loads s H x h.0) (fed-act g G law loads s H F x h.0) h.1 a l i in
      let z = prefix-length (safe_site g loads s a).outbox (safe_site g loads t a).outbox (safe-box g G law loads s H F x h.0 a l) in
      omega (arith, z, later)
  visited (Mine r f ∷ ds) s H F h a l (inl e) =
      let now = (said-none g s c a r f e).1 in
      let z = prefix-length (safe_site g loads s a).outbox (node_at s a).site.outbox (node-box g G law loads s H F a l) in
      omega (arith, z, now)
  visited (Mine r f ∷ ds) s H F h a l (inr i) =
      let x = act_of (Mine r f) in
      let t = act g loads s x in
      let later = visited ds t (held-act g G law loads s H x h.0) (fed-act g G law loads s H F x h.0) h.1 a l i in
      let z = prefix-length (safe_site g loads s a).outbox (safe_site g loads t a).outbox (safe-box g G law loads s H F x h.0 a l) in
      omega (arith, z, later)

  module _ (s : System) (O : GoesOn g G law loads repeats size s c) (bound : (a : ℕ) → a < g.roles → length (safe_site g loads s a).outbox ≤ get 0 c.places a) where
    abbrev H : IsHeld g G law loads s
    H = O.held

    abbrev F : IsFed g G law loads s
    F = O.fed

    -- each message of a safe event is a repeat where it comes
    all-settled : (a : ℕ) (m : Message) → a < g.roles → Member m (safe_site g loads s a).outbox → IsSettled g G law loads repeats s m
    all-settled a m l i =
        let (p, e) = member-get (safe_site g loads s a).outbox m i in
        let k = slice_get_within (safe_site g loads s a).outbox p m e in
        let b = bound a l in
        let (n, o, w) = O.knows.pulled a p l (omega (arith, k, b)) in
        elim w [ inl j ↦ never (none n j) | inr j ↦ subst (IsSettled g G law loads repeats s) (some-inj (sym o ∙ e)) j ]

    -- so nothing happens at any node
    frame-makes : (r : ℕ) (f : Frame) (x : Extent) → IsAllowed g s (Asks r f x) → TakesNone g s (Asks r f x) → Makes g (node_at s r).site f → after_frame g (node_at s r) f ≡ node_at s r
    frame-makes r f x h t (nothing e q) = λ i. record { site = q i; events = (ap (λ hs. (node_at s r).events ++ hs) e ∙ append-nil (node_at s r).events) i }
    frame-makes r f x h t (choosing d y e ok at did kept site told) = never (t told)
    frame-makes r f x h t (getting m y e new kept site) =
        let i : Member m s.hands = subst (IsCarried s) e h.1 in
        let (a, l, j) = F.hands m i in
        let to : m.to ≡ r = new-here g (node_at s r).site m y new ∙ node-role g loads G law H.frail s H.mirrors H.sound r in
        let known : receive g (node_at s r).site m ≡ Repeat = subst (λ b. receive g (node_at s b).site m ≡ Repeat) to (settled-node g G law loads repeats s H F m (all-settled a m l j)) in
        absurd cc

    node-same : (r : ℕ) (f : Frame) (x : Extent) (h : IsAllowed g s (Asks r f x)) → TakesNone g s (Asks r f x) → (b : ℕ) → node_at (act g loads s (Asks r f x)) b ≡ node_at s b
    node-same r f x h t b = elim (same_or_not r b) [
      | inl e ↦ subst (λ b. node_at (act g loads s (Asks r f x)) b ≡ node_at s b) e (asked-here g loads s H.sound r f x h.0 ∙ frame-makes r f x h t (makes g (node_at s r).site f))
      | inr n ↦ asked-there g loads s H.sound r f x h.0 b n
    ]

    done-here : (r : ℕ) (f : Frame) (x : Extent) (h : IsAllowed g s (Asks r f x)) → TakesNone g s (Asks r f x) → IsDone s r → safe_at (act g loads s (Asks r f x)) r ≡ length (node_at s r).events
    done-here r f x h t D =
        let same : length (after_frame g (node_at s r) f).events ≡ length (node_at s r).events = ap (λ (k : Kept). length k.events) (frame-makes r f x h t (makes g (node_at s r).site f)) in
        elim (safe-either g loads s H.sound r f x h.0) [ inl e ↦ e ∙ D.safe | inr e ↦ e ∙ same ]

    done-asked : (r : ℕ) (f : Frame) (x : Extent) (h : IsAllowed g s (Asks r f x)) → TakesNone g s (Asks r f x) → (b : ℕ) → IsDone s b → IsDone (act g loads s (Asks r f x)) b
    done-asked r f x h t b D =
        let same = node-same r f x h t b in
        let as_before : safe_at (act g loads s (Asks r f x)) b ≡ length (node_at s b).events = elim (same_or_not r b) [
          | inl e ↦ subst (λ b. IsDone s b → safe_at (act g loads s (Asks r f x)) b ≡ length (node_at s b).events) e (done-here r f x h t) D
          | inr n ↦ asked-safe g loads s H.sound r f x h.0 b n ∙ D.safe
        ] in
        record {
          safe = as_before ∙ ap (λ (k : Kept). length k.events) (sym same);
          pulled = subst (λ (k : Kept). length k.site.outbox ≤ get 0 c.places b) (sym same) D.pulled;
        }

    done-crashed : (r n : ℕ) (h : IsAllowed g s (Crashes r n)) (b : ℕ) → b < g.roles → IsDone s b → IsDone (act g loads s (Crashes r n)) b
    done-crashed r n h b l D =
        let same : node_at (act g loads s (Crashes r n)) b ≡ node_at s b = elim (same_or_not r b) [
          | inl e ↦ subst (λ b. IsDone s b → node_at (act g loads s (Crashes r n)) b ≡ node_at s b) e (λ D.
              crashed-here g loads s H.sound r n h.0 h.1 h.2
              ∙ back-all g loads r n (node_at s r) (let low = h.1 in let q = D.safe in omega (arith, low, q)) (H.sound.own r h.0)) D
          | inr d ↦ crashed-there g loads s H.sound r n h.0 h.1 h.2 b d
        ] in record {
          safe = D.safe ∙ ap (λ (k : Kept). length k.events) (sym same);
          pulled = subst (λ (k : Kept). length k.site.outbox ≤ get 0 c.places b) (sym same) D.pulled;
        }

    done-act : (a : Act) → IsAllowed g s a → TakesNone g s a → (b : ℕ) → b < g.roles → IsDone s b → IsDone (act g loads s a) b
    done-act (Asks r f x) h t b l D = done-asked r f x h t b D
    done-act (Crashes r n) h t b l D = done-crashed r n h b l D

    -- a session of the last round
    done-mine : (r : ℕ) (f : Frame) (h : IsAllowed g s (Asks r f systems.Heard)) → TakesNone g s (Asks r f systems.Heard) →
        length (node_at s r).site.outbox ≤ get 0 c.places r → IsDone (act g loads s (Asks r f systems.Heard)) r
    done-mine r f h t l =
        let same = node-same r f systems.Heard h t r in record {
          safe = written-all g loads s H.sound r f systems.Heard h.0 tt ∙ ap (λ (k : Kept). length k.events) (sym (asked-here g loads s H.sound r f systems.Heard h.0));
          pulled = subst (λ (k : Kept). length k.site.outbox ≤ get 0 c.places r) (sym same) l;
        }

  -- the outbox of safe events, from what rests and what is still to come
  bound-of : (s : System) (O : GoesOn g G law loads repeats size s c) (ds : List Deed) → AreAllowed g loads s (map act_of ds) → (rs : List ℕ) → exchanged g loads s ds ≡ map (no_more c) rs → Rests s rs
      → (a : ℕ) → a < g.roles → length (safe_site g loads s a).outbox ≤ get 0 c.places a
  bound-of s O ds h rs e R a l = elim (R a l) [
    | inl i ↦ visited ds s O.held O.fed h a l (subst (Member (no_more c a)) (sym e) (member_map (no_more c) a rs i))
    | inr D ↦ (let z = prefix-length (safe_site g loads s a).outbox (node_at s a).site.outbox (node-box g G law loads s O.held O.fed a l) in let q = D.pulled in omega (arith, z, q))
  ]

  rest-go : (ds : List Deed) (s : System) (O : GoesOn g G law loads repeats size s c) → AreAllowed g loads s (map act_of ds) → (rs : List ℕ) →
      exchanged g loads s ds ≡ map (no_more c) rs → NoneTaken g loads s (map act_of ds) → Rests s rs
      → GoesOn g G law loads repeats size (acts_on g loads s (map act_of ds)) c × ((a : ℕ) → a < g.roles → IsDone (acts_on g loads s (map act_of ds)) a)
  rest-go [] s O h [] e t R = (O, λ a l. elim (R a l) [ inl i ↦ never i | inr D ↦ D ])
  rest-go [] s O h (r ∷ rs) e t R = absurd cc
  rest-go (Others x ∷ ds) s O h rs e t R =
      let B = bound-of s O (Others x ∷ ds) h rs e R in
      rest-go ds (act g loads s x) (goes-act g G law loads repeats size s c O x h.0) h.1 rs e t.1
      (λ a l. elim (R a l) [ inl i ↦ inl i | inr D ↦ inr (done-act s O B x h.0 t.0 a l D) ])
  rest-go (Mine r f ∷ ds) s O h [] e t R = absurd cc
  rest-go (Mine r f ∷ ds) s O h (q ∷ rs) e t R =
      let B = bound-of s O (Mine r f ∷ ds) h (q ∷ rs) e R in
      let x = act_of (Mine r f) in
      let (same, l) = said-none g s c q r f (sym (cons-inj e).0) in
      rest-go ds (act g loads s x) (goes-act g G law loads repeats size s c O x h.0) h.1 rs (cons-inj e).1 t.1
      (λ a m. elim (R a m) [
        | inl (inl p) ↦ inr (subst (IsDone (act g loads s x)) (sym (p ∙ same)) (done-mine s O B r f h.0 t.0 (subst (λ b. length (node_at s b).site.outbox ≤ get 0 c.places b) same l)))
        | inl (inr i) ↦ inl i
        | inr D ↦ inr (done-act s O B x h.0 t.0 a m D)
      ])

  -- at the end
  at-rest : StillHolds g → (s : System) (O : GoesOn g G law loads repeats size s c) → ((a : ℕ) → a < g.roles → IsDone s a) → IsAtRest g loads s
  at-rest holds s O D =
      let L = left g G law loads s O.held in
      record {
        safe = λ r l. (D r l).safe;
        moves = L.0;
        left = L.1;
        still = still;
        holds = λ cs same d e. holds loads L.0 L.1.may_come still cs ((λ x i. (same x).1 ((L.1.taken x).0 i)), (λ x i. (L.1.taken x).1 ((same x).0 i))) d e;
      }
    where
      bound : (a : ℕ) → a < g.roles → length (safe_site g loads s a).outbox ≤ get 0 c.places a
      bound a l = let z = prefix-length (safe_site g loads s a).outbox (node_at s a).site.outbox (node-box g G law loads s O.held O.fed a l) in let q = (D a l).pulled in omega (arith, z, q)

      all-safe : (a : ℕ) → a < g.roles → safe_site g loads s a ≡ (node_at s a).site
      all-safe a l = ap (site_run g (empty_site loads a)) (take_all (safe_at s a) (node_at s a).events (le_of_eq (sym (D a l).safe))) ∙ sym (O.held.sound.own a l)

      still : IsStill g (world g G law loads s O.held O.fed)
      still a m i = elim (cases_lt a g.roles) [
        | inl l ↦ (
            let out : Member m (safe_site g loads s a).outbox = subst (λ (u : Site). Member m u.outbox) (world-site g G law loads s O.held O.fed a ∙ sym (all-safe a l)) i in
            subst (λ u. receive g u m ≡ Repeat) (sym (world-site g G law loads s O.held O.fed m.to)) (settled-node g G law loads repeats s O.held O.fed m (all-settled s O bound a m l out)))
        | inr l ↦ (let n = O.held.sound.nodes in
            never (subst (λ (k : Kept). Member m k.site.outbox) (get-short (new_kept false a) s.kept a (omega (arith, l, n)))
            (subst (λ (u : Site). Member m u.outbox) (world-site g G law loads s O.held O.fed a) i)))
      ]

-- the law as it is stated
module _ (g : Grammar) (G : Given g) (law : CrashesLeaveAWorld g) (repeats : Repeats g) (holds : StillHolds g) where
  pub quiet_is_at_rest : QuietIsAtRest g
  quiet_is_at_rest size small loads before rounds_on last_on rounds last C run e1 e2 none =
      let first = first_system g loads in
      let z0 = allowed-append g loads first before (map act_of rounds_on ++ map act_of last_on) run in
      let s0 = system_after g loads before in
      let H0 = held-acts g G law loads first (held-first g G law loads) before z0.0 in
      let F0 = fed-acts g G law loads first (held-first g G law loads) (fed-first g G law loads) before z0.0 in
      let z1 = allowed-append g loads s0 (map act_of rounds_on) (map act_of last_on) z0.1 in
      let s1 = acts_on g loads s0 (map act_of rounds_on) in
      let t = turns-split size g (new_courier g) (flat rounds) last C.turns in
      let K0 = knows-first g G law loads repeats size s0 in
      let N1 = turns-next g size (new_courier g) (flat rounds) K0.count (rounds-below g rounds C.each) t.0 in
      let O0 : GoesOn g G law loads repeats size s0 (new_courier g) = record { held = H0; fed = F0; knows = K0 } in
      let c = after_all (new_courier g) (flat rounds) in
      let O1 : GoesOn g G law loads repeats size s1 c =
      subst (GoesOn g G law loads repeats size s1) (noted-sessions g size (new_courier g) (flat rounds))
      (deeds-known g G law loads repeats size rounds_on s0 (new_courier g) O0 z1.0 (all_exchanges (flat rounds)) e1 N1) in
      let (waiting, all) = still-turns g size small c (λ m i. (O1.knows.waits m i).1) last t.1 C.still in
      let at1 : system_after g loads (before ++ map act_of rounds_on) ≡ s1 = acts-append g loads first before (map act_of rounds_on) in
      let at2 : system_after g loads (before ++ (map act_of rounds_on ++ map act_of last_on)) ≡ acts_on g loads s1 (map act_of last_on) =
      acts-append g loads first before (map act_of rounds_on ++ map act_of last_on) ∙ acts-append g loads s0 (map act_of rounds_on) (map act_of last_on) in
      let heard : exchanged g loads s1 last_on ≡ map (no_more c) (upto 0 g.roles) =
      ap (λ s. exchanged g loads s last_on) (sym at1) ∙ (e2 ∙ (all ∙ (sym (map-map (no_more c) (λ (s : Session). s.role) last) ∙ ap (map (no_more c)) C.one))) in
      let empty : (m : Message) → Member m c.waiting → Never = λ m i.
      let (s, j, q) = member_unmap (λ (s : Session). s.role) m.to last
      (subst (Member m.to) (sym C.one) (upto-member 0 g.roles m.to (omega arith) (let l = (O1.knows.waits m i).0 in omega (arith, l)))) in
      none-waits s.role c.waiting m (each-at (λ (s : Session). for_role s.role c.waiting ≡ []) last s waiting j) i q in
      let (O2, D) = rest-go g G law loads repeats size c empty last_on s1 O1 z1.1 (upto 0 g.roles) heard (subst (λ s. NoneTaken g loads s (map act_of last_on)) at1 none)
      (λ a l. inl (upto-member 0 g.roles a (omega arith) (omega (arith, l)))) in
      subst (IsAtRest g loads) (sym at2) (at-rest g G law loads repeats size c empty holds (acts_on g loads s1 (map act_of last_on)) O2 D)
