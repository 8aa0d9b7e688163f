-- What remains of a system is one world: its moves are the events that remain.
use Rattle.std.specs.Prelude.{nat_eq, filter, slice_get, slice_set}
use Rattle.std.proofs.Common.{◌≡◌, ℕ, ◌<◌, Bool, true, false, cond, List, [], ◌∷◌, ◌++◌, map, length, refl, sym, ap, ◌∙◌, subst, inl, inr, arith, eq-eqb}
use Rattle.aw_list.specs.Members.{Member}
use Rattle.aw_list.proofs.Members.{never, member_got}
use Rattle.aw_term.specs.Choices.{Choice}
use Rattle.aw_term.specs.Rules.{Grammar, get, upto}
use Rattle.aw_term.specs.Trees.{Never}
use Rattle.aw_term.specs.WellFormed.{Each}
use Rattle.aw_apply.specs.Messages.{Received, New, Repeat, Conflict, NotMine, BadName}
use Rattle.aw_law_sites.specs.Choosing.{Chosen, No, Did, choose}
use Rattle.aw_law_sites.specs.Homes.{home}
use Rattle.aw_law_sites.specs.Reacting.{receive}
use Rattle.aw_law_sites.specs.SiteEvents.{SiteEvent, Chose, Got, after_choice, after_message, site_step, got, all_events}
use Rattle.aw_law_sites.specs.Sites.{Site, Reaction, empty_site}
use Rattle.aw_law_sites.specs.Worlds.{World, empty_world, site_at, node_of, chosen_at, received_at, deliver_on, Move, Chooses, Delivers, step, run, MayCome, world_after}
use Rattle.aw_law_worlds.proofs.Lists.{Member-filter, Member-filtered}
use Rattle.aw_law_worlds.proofs.Places.{get-set, get-set_other, same_or_not}
use Rattle.aw_law_nodes.specs.Crashes.{Kept, Past, Frail, new_kept, kept_at, start_at, choices_in, remaining, world_of, FrailEvent, frail_run, CrashesLeaveAWorld}
use Rattle.aw_law_nodes.specs.Crashes as crashes
use Rattle.aw_law_nodes.specs.Nodes.{ReadAs, received, chosen}
use Rattle.aw_law_nodes.proofs.Following.{took-sites, delivered-sites}
use Rattle.aw_law_nodes.proofs.ListParts.{map-get, map-map}
use Rattle.aw_law_nodes.proofs.Mail.{Given}
use Rattle.aw_law_nodes.proofs.Served as served
use Rattle.aw_law_nodes.proofs.OwnEvents.{start-kept}
use Rattle.aw_law_system.specs.Systems.{System, node_at, first_system, Act, act, acts_on, system_after, IsRun, IsAllowed, AreAllowed}
use Rattle.aw_law_system.specs.Laws.{IsEvent, AreEvents, IsLeft}
use Rattle.aw_law_system.proofs.Acting.{IsSound, sound-first, sound-act}
use Rattle.aw_law_system.proofs.Coming.{AllCome, AllTrue, come-first, come-act}
use Rattle.aw_law_system.proofs.Mirroring.{Mirrors, mirrors-first, act-mirrors, node-role, same-node}
use Rattle.aw_law_system.proofs.Pasts.{role_of, of_past, names-numbered, not-same}

module _ (g : Grammar) where
  -- the events of one role
  abbrev pub own_of : ℕ → List SiteEvent → List SiteEvent
  own_of r hs = filter (λ (h : SiteEvent). nat_eq (role_of g h) r) hs

  cons-by : (b : Bool) (h : SiteEvent) (hs : List SiteEvent) → cond b (h ∷ []) [] ++ hs ≡ cond b (h ∷ hs) hs
  cons-by true h hs = refl
  cons-by false h hs = refl

  -- moves that read as what happens are at each role just that
  read-own : (w : World) (hs : List SiteEvent) (fs : List Move) → ReadAs g w hs fs → (r : ℕ) → all_events g w r fs ≡ own_of r hs
  read-own w [] [] q r = refl
  read-own w [] (e ∷ fs) q r = never q
  read-own w (Chose c ∷ hs) [] q r = never q
  read-own w (Got m ∷ hs) [] q r = never q
  read-own w (Chose c ∷ hs) (Delivers k ∷ fs) q r = never q
  read-own w (Got m ∷ hs) (Chooses d ∷ fs) q r = never q
  read-own w (Chose c ∷ hs) (Chooses d ∷ fs) q r =
      (λ i. cond (nat_eq (home g (node_of (sym q.0 i))) r) (Chose (sym q.0 i) ∷ []) [] ++ read-own (step g w (Chooses d)).world hs fs q.1 r i)
      ∙ cons-by (nat_eq (home g (node_of c)) r) (Chose c) (own_of r hs)
  read-own w (Got m ∷ hs) (Delivers k ∷ fs) q r =
      (λ i. got (q.0 i) r ++ read-own (step g w (Delivers k)).world hs fs q.1 r i) ∙ cons-by (nat_eq m.to r) (Got m) (own_of r hs)

  own-here : (r : ℕ) (h : SiteEvent) (hs : List SiteEvent) → role_of g h ≡ r → own_of r (h ∷ hs) ≡ h ∷ own_of r hs
  own-here r h hs e = ap (λ b. cond b (h ∷ own_of r hs) (own_of r hs)) (eq-eqb (role_of g h) r e)

  own-there : (r : ℕ) (h : SiteEvent) (hs : List SiteEvent) → (role_of g h ≡ r → Never) → own_of r (h ∷ hs) ≡ own_of r hs
  own-there r h hs f = ap (λ b. cond b (h ∷ own_of r hs) (own_of r hs)) (not-same (role_of g h) r f)

  -- the past by role
  own-past : (r : ℕ) (es : List Past) → ((e : Past) → Member e es → role_of g e.happening ≡ e.role) → own_of r (map (λ (e : Past). e.happening) es) ≡ map (λ (e : Past). e.happening) (of_past r es)
  own-past r [] f = refl
  own-past r (e ∷ es) f = go (nat_eq e.role r) (ap (λ a. nat_eq a r) (f e (inl refl))) refl (own-past r es (λ d i. f d (inr i)))
    where
      go : (b : Bool) → nat_eq (role_of g e.happening) r ≡ nat_eq e.role r → nat_eq e.role r ≡ b → own_of r (map (λ (e : Past). e.happening) es) ≡ map (λ (e : Past). e.happening) (of_past r es)
          → own_of r (e.happening ∷ map (λ (e : Past). e.happening) es) ≡ map (λ (e : Past). e.happening) (of_past r (e ∷ es))
      go true p q i =
          ap (λ b. cond b (e.happening ∷ own_of r (map (λ (e : Past). e.happening) es)) (own_of r (map (λ (e : Past). e.happening) es))) (p ∙ q)
          ∙ (ap (◌∷◌ e.happening) i ∙ ap (λ b. map (λ (e : Past). e.happening) (cond b (e ∷ of_past r es) (of_past r es))) (sym q))
      go false p q i =
          ap (λ b. cond b (e.happening ∷ own_of r (map (λ (e : Past). e.happening) es)) (own_of r (map (λ (e : Past). e.happening) es))) (p ∙ q)
          ∙ (i ∙ ap (λ b. map (λ (e : Past). e.happening) (cond b (e ∷ of_past r es) (of_past r es))) (sym q))

  -- ---- each move is an event, since it is one at its site

  pub took-step : (s : Site) (c : Choice) (z : Chosen) → (chosen s z).site ≡ after_choice s z
  took-step s c (No a) = refl
  took-step s c (Did x) = refl

  pub got-step : (s : Site) (z : Received Reaction) → (received s z).site ≡ after_message s z
  got-step s (New x) = refl
  got-step s Repeat = refl
  got-step s (Conflict a b) = refl
  got-step s NotMine = refl
  got-step s BadName = refl

  module _ (G : Given g) (loads : Bool) where
    -- the events behind one at role a
    rest-come : (w v : World) (a : ℕ) (h : SiteEvent) (hs : List SiteEvent) → a < length w.sites → role_of g h ≡ a → v.sites ≡ slice_set w.sites a (site_step g (site_at w a) h)
        → ((r : ℕ) → r < g.roles → AllCome g (site_at w r) (own_of r (h ∷ hs))) → (r : ℕ) → r < g.roles → AllCome g (site_at v r) (own_of r hs)
    rest-come w v a h hs l at e A r m = elim (same_or_not a r) [
      | inl p ↦ subst (λ r. r < g.roles → AllCome g (site_at v r) (own_of r hs)) p
          (λ m. subst (λ s. AllCome g s (own_of a hs)) (sym (ap (λ ss. get (empty_site false a) ss a) e ∙ get-set (empty_site false a) w.sites a (site_step g (site_at w a) h) l))
          (subst (AllCome g (site_at w a)) (own-here a h hs at) (A a m)).1) m
      | inr f ↦ subst (λ s. AllCome g s (own_of r hs)) (sym (ap (λ ss. get (empty_site false r) ss r) e ∙ get-set_other (empty_site false r) w.sites a r (site_step g (site_at w a) h) f))
          (subst (AllCome g (site_at w r)) (own-there r h hs (λ q. f (sym at ∙ q))) (A r m))
    ]

    come-events : (w : World) → served.IsReached g G loads w → (hs : List SiteEvent) (fs : List Move) → ReadAs g w hs fs → Each (MayCome g) fs
        → ((r : ℕ) → r < g.roles → AllCome g (site_at w r) (own_of r hs)) → AreEvents g w fs
    come-events w R [] [] q k A = tt
    come-events w R [] (e ∷ fs) q k A = never q
    come-events w R (Chose c ∷ hs) [] q k A = never q
    come-events w R (Got m ∷ hs) [] q k A = never q
    come-events w R (Chose c ∷ hs) (Delivers j ∷ fs) q k A = never q
    come-events w R (Got m ∷ hs) (Chooses d ∷ fs) q k A = never q
    come-events w R (Chose c ∷ hs) (Chooses d ∷ fs) q k A =
        let M = served.reached-mail g G loads w R in
        let size = M.sites in
        let e : c ≡ d = q.0 in
        let a = home g (node_of d) in
        let l = G.homes d k.0 in
        let (x, did) = (subst (AllCome g (site_at w a)) (own-here a (Chose d) hs refl) (subst (λ c. AllCome g (site_at w a) (own_of a (Chose c ∷ hs))) e (A a l))).0 in
        let v = (step g w (Chooses d)).world in
        let moved = took-sites w a d (choose g (site_at w a) d) ∙ ap (slice_set w.sites a) (took-step (site_at w a) d (choose g (site_at w a) d)) in (
          subst (λ z. IsEvent (chosen_at w a d z).reply) (sym did) refl,
          come-events v (served.reached-run g G loads w R (Chooses d ∷ []) (k.0, tt)) hs fs q.1 k.1
              (rest-come w v a (Chose d) hs (omega (arith, size, l)) refl moved (subst (λ c. (r : ℕ) → r < g.roles → AllCome g (site_at w r) (own_of r (Chose c ∷ hs))) e A)),
        )
    come-events w R (Got m ∷ hs) (Delivers j ∷ fs) q k A =
        let M = served.reached-mail g G loads w R in
        let size = M.sites in
        let l = M.within m (member_got w.messages j m q.0) in
        let (x, new) = (subst (AllCome g (site_at w m.to)) (own-here m.to (Got m) hs refl) (A m.to l)).0 in
        let v = (step g w (Delivers j)).world in
        let moved = delivered-sites g w j m (slice_get w.messages j) q.0 ∙ ap (slice_set w.sites m.to) (got-step (site_at w m.to) (receive g (site_at w m.to) m)) in (
          subst (λ o. IsEvent (deliver_on g w j o).reply) (sym q.0) (subst (λ z. IsEvent (received_at w j m.to z).reply) (sym new) tt),
          come-events v (served.reached-run g G loads w R (Delivers j ∷ []) (tt, tt)) hs fs q.1 k.1 (rest-come w v m.to (Got m) hs (omega (arith, size, l)) refl moved A),
        )

  -- ---- choices

  choice-in : (c : Choice) (hs : List SiteEvent) → Member c (choices_in hs) → Member (Chose c) hs
  choice-in c [] i = never i
  choice-in c (Chose d ∷ hs) (inl p) = inl (ap Chose p)
  choice-in c (Chose d ∷ hs) (inr i) = inr (choice-in c hs i)
  choice-in c (Got m ∷ hs) i = inr (choice-in c hs i)

  choice-out : (c : Choice) (hs : List SiteEvent) → Member (Chose c) hs → Member c (choices_in hs)
  choice-out c [] i = never i
  choice-out c (Chose d ∷ hs) (inl p) = inl (let q : c ≡ d = cc in q)
  choice-out c (Chose d ∷ hs) (inr i) = inr (choice-out c hs i)
  choice-out c (Got m ∷ hs) (inl p) = absurd cc
  choice-out c (Got m ∷ hs) (inr i) = choice-out c hs i

  module _ (G : Given g) (law : CrashesLeaveAWorld g) (loads : Bool) where
    -- what holds of a system at every moment
    pub record IsHeld (s : System) : Type 0 where
      pub frail : Frail
      pub mirrors : Mirrors g loads frail s
      pub sound : IsSound g loads s
      pub come : AllTrue g loads s

    pub held-first : IsHeld (first_system g loads)
    held-first = record { frail = start_at g loads; mirrors = mirrors-first g loads; sound = sound-first g loads; come = come-first g loads }

    pub held-act : (s : System) → IsHeld s → (a : Act) → IsAllowed g s a → IsHeld (act g loads s a)
    held-act s H a h =
        let (u, M) = act-mirrors g loads G law H.frail s H.mirrors H.sound a h in
        record { frail = u; mirrors = M; sound = sound-act g loads s H.sound a h; come = come-act g loads s H.sound H.come a h }

    pub held-acts : (s : System) → IsHeld s → (as_ : List Act) → AreAllowed g loads s as_ → IsHeld (acts_on g loads s as_)
    held-acts s H [] h = H
    held-acts s H (a ∷ as_) h = held-acts (act g loads s a) (held-act s H a h.0) as_ h.1

    -- so its world
    module _ (s : System) (H : IsHeld s) where
      pub left : (fs : List Move) × IsLeft g loads s fs
      left =
          let w = H.frail in
          let M = H.mirrors in
          let R = M.reached in
          let (fs, read, may, e) = subst (λ u. (fs : List Move) × ReadAs g (empty_world g loads) (remaining u) fs × Each (MayCome g) fs
          × (world_after g loads fs ≡ world_of u)) R.is (law loads R.events R.allowed) in
          let own : (r : ℕ) → own_of r (remaining w) ≡ (node_at s r).events =
          λ r. own-past r w.past (λ e i. (M.tidy.homes e i).0)
          ∙ (ap (map (λ (e : Past). e.happening)) (M.tidy.parts r) ∙ (names-numbered r 0 (kept_at w r).events ∙ ap (λ (k : Kept). k.events) (same-node g loads G law w s M H.sound r))) in
          let same : (world_after g loads fs).taken ≡ choices_in (remaining w) = ap (λ (u : World). u.taken) e in (
            fs,
            record {
              may_come = may;
              events = come-events G loads (empty_world g loads) (served.reached-empty g G loads) (remaining w) fs read may
                  (λ r l. subst (AllCome g (site_at (empty_world g loads) r)) (sym (own r)) (subst (λ t. AllCome g t (node_at s r).events) (sym (nothing-yet r l)) (H.come r l)));
              journals = λ r. read-own (empty_world g loads) (remaining w) fs read r ∙ own r;
              sites = ap (λ (u : World). u.sites) e ∙ ap (map (λ (k : Kept). k.site)) M.kept;
              taken = λ c.
                  let a = home g (node_of c) in (
                    (λ i. subst (Member (Chose c)) (own a)
                        (Member-filter (λ (h : SiteEvent). nat_eq (role_of g h) a) (Chose c) (remaining w) (choice-in c (remaining w) (subst (Member c) same i)) (eq-eqb a a refl))),
                    (λ i. subst (Member c) (sym same)
                        (choice-out c (remaining w) (Member-filtered (λ (h : SiteEvent). nat_eq (role_of g h) a) (Chose c) (remaining w) (subst (Member (Chose c)) (sym (own a)) i)).0)),
                  );
            },
          )
        where
          nothing-yet : (r : ℕ) → r < g.roles → site_at (empty_world g loads) r ≡ empty_site loads r
          nothing-yet r l =
              ap (λ ss. get (empty_site false r) ss r) (sym (map-map (λ (k : Kept). k.site) (new_kept loads) (upto 0 g.roles)))
              ∙ (map-get (λ (k : Kept). k.site) (new_kept false r) (map (new_kept loads) (upto 0 g.roles)) r ∙ ap (λ (k : Kept). k.site) (start-kept g loads r l))

    pub system_is_one_world : (as_ : List Act) → IsRun g loads as_ → (fs : List Move) × IsLeft g loads (system_after g loads as_) fs
    system_is_one_world as_ run = left (system_after g loads as_) (held-acts (first_system g loads) held-first as_ run)

    pub crashes_are_allowed : (as_ : List Act) → IsRun g loads as_ →
        (es : List FrailEvent) × crashes.AreAllowed g loads (start_at g loads) es × ((frail_run g loads (start_at g loads) es).kept ≡ (system_after g loads as_).kept)
    crashes_are_allowed as_ run =
        let H = held-acts (first_system g loads) held-first as_ run in
        let R = H.mirrors.reached in
        (R.events, R.allowed, ap (λ (u : Frail). u.kept) R.is ∙ H.mirrors.kept)

    -- a node keeps its role
    pub roles_stay : (as_ : List Act) → IsRun g loads as_ → (r : ℕ) → (node_at (system_after g loads as_) r).site.role ≡ r
    roles_stay as_ run =
        let H = held-acts (first_system g loads) held-first as_ run in
        node-role g loads G law H.frail (system_after g loads as_) H.mirrors H.sound
