-- A system has the nodes of a world with crashes in which no site that goes back loses an event that sent a delivered message.
use Rattle.std.specs.Prelude.{slice_set, nat_eq, nat_le, ◌&&◌, not, filter, ◌⊎◌}
use Rattle.std.proofs.Common.{◌≡◌, ℕ, zero, suc, ◌<◌, ◌≤◌, Bool, true, false, List, [], ◌∷◌, ◌++◌, length, Some, refl, sym, ap, ◌∙◌, subst, inl, inr, arith, length-append, eqb-true}
use Rattle.std.proofs.lemmas.Bool.{leb-true, cases_lt}
use Rattle.std.proofs.lemmas.List.{append-nil, length-take-le}
use Rattle.aw_list.specs.Members.{Member}
use Rattle.aw_list.proofs.Members.{never, member_left, member_right, member_split, member_map, member_unmap}
use Rattle.aw_term.specs.Choices.{Choice}
use Rattle.aw_term.specs.Rules.{Grammar, get}
use Rattle.aw_base.specs.ChoiceFits.{choice_ok}
use Rattle.aw_apply.specs.Messages.{Message, New}
use Rattle.aw_law_sites.specs.Choosing.{Did, choose}
use Rattle.aw_law_sites.specs.Homes.{home}
use Rattle.aw_law_sites.specs.Reacting.{receive}
use Rattle.aw_law_sites.specs.SiteEvents.{SiteEvent, Chose, Got}
use Rattle.aw_law_sites.specs.Sites.{Site, Reaction}
use Rattle.aw_law_sites.specs.Worlds.{node_of, site_at, Chooses, Delivers}
use Rattle.aw_law_worlds.specs.Invariant.{sender}
use Rattle.aw_law_worlds.proofs.Lists.{Member-filter, Member-filtered}
use Rattle.aw_law_worlds.proofs.Places.{get-set, get-set_other, same_or_not, member-get}
use Rattle.aw_law_nodes.specs.Crashes.{Kept, Posted, Frail, new_kept, kept_at, start_at, kept_after, posting, posts_of, happen, chosen_frail}
use Rattle.aw_law_nodes.specs.Crashes.{reaction_of, with_delivery, delivered_frail, frail_step, is_dropped, back_kept, back_post, go_back, MayGoBack}
use Rattle.aw_law_nodes.specs.Crashes.{FrailEvent, Happens, GoesBack, frail_event, frail_run, world_of, CrashesLeaveAWorld, kept_frame}
use Rattle.aw_law_nodes.specs.Crashes as crashes
use Rattle.aw_law_nodes.specs.Nodes.{Frame, Choose, handle}
use Rattle.aw_law_nodes.proofs.Dropped.{drop-other, drop-early, drop-late}
use Rattle.aw_law_nodes.proofs.Following.{choose-boxes, receive-boxes}
use Rattle.aw_law_nodes.proofs.ListParts.{map-get, set-same}
use Rattle.aw_law_nodes.proofs.Mail.{Mail, Given}
use Rattle.aw_law_nodes.proofs.Crashed.{set-member, set-members}
use Rattle.aw_law_system.specs.Systems.{Extent, Unwritten, Written, Heard, System, node_at, safe_at, first_system, Act, Asks, Crashes, after_frame}
use Rattle.aw_law_system.specs.Systems.{hands_after, message_in, act, IsCarried, IsAllowed, IsWritten}
use Rattle.aw_law_system.proofs.Acting.{IsSound, asked-safe, written-all, asked-more, safe-either}
use Rattle.aw_law_system.proofs.Framing.{Makes, nothing, choosing, getting, makes, hands-over, new-here}
use Rattle.aw_law_system.proofs.Pasts.{IsTidy, role_of, tidy-start, tidy-happen, tidy-back}

-- ---- lists

set-from : {A : Type 0} (xs : List A) (k : ℕ) (v q : A) → Member q (slice_set xs k v) → (q ≡ v) ⊎ Member q xs
set-from [] k v q m = never m
set-from (x ∷ xs) zero v q (inl m) = inl m
set-from (x ∷ xs) zero v q (inr m) = inr (inr m)
set-from (x ∷ xs) (suc k) v q (inl m) = inr (inl m)
set-from (x ∷ xs) (suc k) v q (inr m) = elim (set-from xs k v q m) [ inl i ↦ inl i | inr i ↦ inr (inr i) ]

-- an event that is dropped is a late one of that role, and one that stays there is early
dropped-is : (r n a k : ℕ) → is_dropped r n a k ≡ true → (a ≡ r) × (n ≤ k)
dropped-is r n a k = go (nat_eq a r) (nat_le n k) refl refl
  where
    go : (b c : Bool) → nat_eq a r ≡ b → nat_le n k ≡ c → (b && c) ≡ true → (a ≡ r) × (n ≤ k)
    go true true p q e = (eqb-true a r p, leb-true n k q)
    go true false p q e = absurd cc
    go false c p q e = absurd cc

stays-early : (r n a k : ℕ) → not (is_dropped r n a k) ≡ true → a ≡ r → k < n
stays-early r n a k e p = elim (cases_lt k n) [
  | inl l ↦ l
  | inr l ↦ (let d : is_dropped r n a k ≡ true = subst (λ a. is_dropped r n a k ≡ true) (sym p) (drop-late r n k l) in absurd cc)
]

filter-none : {A : Type 0} (p : A → Bool) (xs : List A) → xs ≡ [] → filter p xs ≡ []
filter-none p xs e = ap (filter p) e

module _ (g : Grammar) (loads : Bool) where
  -- ---- worlds with crashes that events lead to

  pub record IsReached (w : Frail) : Type 0 where
    pub events : List FrailEvent
    pub allowed : crashes.AreAllowed g loads (start_at g loads) events
    pub is : frail_run g loads (start_at g loads) events ≡ w

  frail-more : (w : Frail) (es : List FrailEvent) (e : FrailEvent) → frail_run g loads w (es ++ e ∷ []) ≡ frail_event g loads (frail_run g loads w es) e
  frail-more w [] e = refl
  frail-more w (d ∷ es) e = frail-more (frail_event g loads w d) es e

  allowed-more : (w : Frail) (es : List FrailEvent) (e : FrailEvent) → crashes.AreAllowed g loads w es → crashes.IsAllowed g (frail_run g loads w es) e → crashes.AreAllowed g loads w (es ++ e ∷ [])
  allowed-more w [] e h i = (i, tt)
  allowed-more w (d ∷ es) e h i = (h.0, allowed-more (frail_event g loads w d) es e h.1 i)

  reached-more : (w : Frail) → IsReached w → (e : FrailEvent) → crashes.IsAllowed g w e → IsReached (frail_event g loads w e)
  reached-more w R e h = record {
    events = R.events ++ e ∷ [];
    allowed = allowed-more (start_at g loads) R.events e R.allowed (subst (λ u. crashes.IsAllowed g u e) (sym R.is) h);
    is = frail-more (start_at g loads) R.events e ∙ ap (λ u. frail_event g loads u e) R.is;
  }

  site-seen : (w : Frail) (r : ℕ) → site_at (world_of w) r ≡ (kept_at w r).site
  site-seen w r = map-get (λ (k : Kept). k.site) (new_kept false r) w.kept r

  -- ---- what is known of a message: its event is one of its sender's, and where it was delivered no crash takes it
  pub record IsKnown (w : Frail) (s : System) (p : Posted) : Type 0 where
    pub within : p.event < length (kept_at w p.from).events
    pub from : p.from ≡ sender g p.message.kind
    pub safe : (p.deliveries ≡ []) ⊎ (p.event < safe_at s p.from)

  -- a message was sent by an event that no crash takes
  abbrev pub IsPosted : Frail → System → Message → Type 0
  IsPosted w s m = (p : Posted) × Member p w.posted × (p.message ≡ m) × (p.event < safe_at s p.from)

  -- a world with crashes has the nodes of a system
  pub record Mirrors (w : Frail) (s : System) : Type 0 where
    pub reached : IsReached w
    pub kept : w.kept ≡ s.kept
    pub posts : (p : Posted) → Member p w.posted → IsKnown w s p
    pub hands : (m : Message) → Member m s.hands → IsPosted w s m
    pub tidy : IsTidy g w

  pub mirrors-first : Mirrors (start_at g loads) (first_system g loads)
  mirrors-first = record {
    reached = record { events = []; allowed = tt; is = refl };
    kept = refl;
    posts = λ p i. never i;
    hands = λ m i. never i;
    tidy = tidy-start g loads;
  }

  module _ (G : Given g) (law : CrashesLeaveAWorld g) where
    pub reached-mail : (w : Frail) → IsReached w → Mail g (world_of w)
    reached-mail w R =
        let (fs, read, may, e) = law loads R.events R.allowed in
        subst (λ u. Mail g (world_of u)) R.is (subst (Mail g) e (G.mail loads fs may))

    module _ (w : Frail) (s : System) (M : Mirrors w s) (S : IsSound g loads s) where
      pub same-node : (r : ℕ) → kept_at w r ≡ node_at s r
      same-node r = ap (λ ks. get (new_kept false r) ks r) M.kept

      pub node-role : (r : ℕ) → (node_at s r).site.role ≡ r
      node-role r =
          let m = reached-mail w M.reached in
          ap (λ (k : Kept). k.site.role) (sym (same-node r)) ∙ (ap (λ (t : Site). t.role) (sym (site-seen w r)) ∙ m.roles r)

      size : length w.kept ≡ g.roles
      size = ap length M.kept ∙ S.nodes

      -- what stands in an outbox was sent by an event there
      sent-there : (r : ℕ) (m : Message) → Member m (node_at s r).site.outbox → (p : Posted) × Member p w.posted × (p.message ≡ m) × (p.from ≡ r) × (p.event < length (node_at s r).events)
      sent-there r m i =
          let mail = reached-mail w M.reached in
          let box : Member m (site_at (world_of w) r).outbox = subst (λ (t : Site). Member m t.outbox) (ap (λ (k : Kept). k.site) (sym (same-node r)) ∙ sym (site-seen w r)) i in
          let (j, q) = mail.boxes r m box in
          let (p, k, e) = member_unmap (λ (p : Posted). p.message) m w.posted j in
          let K = M.posts p k in
          let from : p.from ≡ r = K.from ∙ (ap (λ (n : Message). sender g n.kind) (sym e) ∙ q) in
          (p, k, sym e, from, subst (λ (n : Kept). p.event < length n.events) (ap (kept_at w) from ∙ same-node r) K.within)

      module _ (r : ℕ) (f : Frame) (x : Extent) (l : r < g.roles) where
        abbrev t : System
        t = act g loads s (Asks r f x)

        abbrev k : Kept
        k = after_frame g (node_at s r) f

        safe-grows : (a : ℕ) → safe_at s a ≤ safe_at t a
        safe-grows a = elim (same_or_not r a) [
          | inl e ↦ subst (λ a. safe_at s a ≤ safe_at t a) e (elim (safe-either g loads s S r f x l) [
            | inl p ↦ omega (arith, p)
            | inr p ↦ (let q = S.safe r l in let m = asked-more g loads s S r f x l in omega (arith, p, q, m))
          ])
          | inr n ↦ (let p = asked-safe g loads s S r f x l a n in omega (arith, p))
        ]

        known-more : (p : Posted) → (p.deliveries ≡ []) ⊎ (p.event < safe_at s p.from) → (p.deliveries ≡ []) ⊎ (p.event < safe_at t p.from)
        known-more p (inl e) = inl e
        known-more p (inr m) = inr (let z = safe-grows p.from in omega (arith, z, m))

        old-hands : (m : Message) → Member m s.hands → IsPosted w t m
        old-hands m i = let (p, j, e, q) = M.hands m i in (p, j, e, let z = safe-grows p.from in omega (arith, z, q))

        new-hands : (y : Extent) → x ≡ y → (m : Message) → Member m (message_in (handle g (node_at s r).site f).response) → x ≡ Heard → IsPosted w t m
        new-hands y e m i h =
            let (p, j, q, a, b) = sent-there r m (hands-over g (node_at s r).site f m i) in
            let all : safe_at t r ≡ length k.events = written-all g loads s S r f x l (subst IsWritten (sym h) tt) in
            let more = asked-more g loads s S r f x l in
            (p, j, q, subst (λ a. p.event < safe_at t a) (sym a) (omega (arith, all, more, b)))

        hands-asked : (y : Extent) → x ≡ y → (m : Message) → Member m (hands_after y s.hands (handle g (node_at s r).site f).response) → IsPosted w t m
        hands-asked Unwritten e m i = old-hands m i
        hands-asked Written e m i = old-hands m i
        hands-asked Heard e m i = elim (member_split m s.hands (message_in (handle g (node_at s r).site f).response) i) [
          | inl j ↦ old-hands m j
          | inr j ↦ new-hands Heard e m j e
        ]

        -- nothing happens
        nothing-mirrors : kept_frame g (node_at s r).site f ≡ [] → (handle g (node_at s r).site f).site ≡ (node_at s r).site → Mirrors w t
        nothing-mirrors e h =
            let same : k ≡ node_at s r = (λ i. record { site = h i; events = (ap (λ hs. (node_at s r).events ++ hs) e ∙ append-nil (node_at s r).events) i }) in
            record {
              reached = M.reached;
              kept = M.kept ∙ sym (ap (slice_set s.kept r) same ∙ set-same (new_kept false r) s.kept r);
              posts = λ p i. let K = M.posts p i in record { within = K.within; from = K.from; safe = known-more p K.safe };
              hands = λ m i. hands-asked x refl m i;
              tidy = M.tidy;
            }

        -- one event
        module _ (h : SiteEvent) (y : Reaction) (ps : List Posted) (R : IsReached (happen w r h (Some y) ps)) (at : role_of g h ≡ r)
            (kept : kept_frame g (node_at s r).site f ≡ h ∷ []) (site : (handle g (node_at s r).site f).site ≡ y.site) (boxes : y.site.outbox ≡ (node_at s r).site.outbox ++ y.sent)
            (old : (q : Posted) → Member q ps → IsKnown w s q)
            (all : (p : Posted) → Member p w.posted → (q : Posted) × Member q ps × (q.message ≡ p.message) × (q.event ≡ p.event) × (q.from ≡ p.from)) where
          abbrev v : Frail
          v = happen w r h (Some y) ps

          here : kept_at v r ≡ kept_after (kept_at w r) h (Some y)
          here = get-set (new_kept false r) w.kept r (kept_after (kept_at w r) h (Some y)) (omega (arith, size, l))

          one-more : length (kept_at v r).events ≡ suc (length (kept_at w r).events)
          one-more = ap (λ (n : Kept). length n.events) here ∙ (let z = length-append (kept_at w r).events (h ∷ []) in omega (arith, z))

          kept-grows : (a : ℕ) → length (kept_at w a).events ≤ length (kept_at v a).events
          kept-grows a = elim (same_or_not r a) [
            | inl e ↦ subst (λ a. length (kept_at w a).events ≤ length (kept_at v a).events) e (omega (arith, one-more))
            | inr n ↦ (let e = ap (λ (n : Kept). length n.events) (get-set_other (new_kept false a) w.kept r a (kept_after (kept_at w r) h (Some y)) n) in omega (arith, e))
          ]

          -- a message that is just sent
          sent-now : (m : Message) → Member m y.sent → IsKnown v t (posting r (length (kept_at w r).events) m)
          sent-now m i =
              let mail = reached-mail v R in
              let out : Member m y.site.outbox = subst (Member m) (sym boxes) (member_right m (node_at s r).site.outbox y.sent i) in
              let box : Member m (site_at (world_of v) r).outbox = subst (λ (t : Site). Member m t.outbox) (ap (λ (n : Kept). n.site) (sym here) ∙ sym (site-seen v r)) out in
              record { within = omega (arith, one-more); from = sym (mail.boxes r m box).1; safe = inl refl }

          happen-mirrors : Mirrors v t
          happen-mirrors = record {
            reached = R;
            kept = λ i. slice_set (M.kept i) r (record { site = sym site i; events = (get (new_kept false r) (M.kept i) r).events ++ sym kept i });
            posts = λ q i. elim (member_split q ps (posts_of r (length (kept_at w r).events) (Some y)) i) [
              | inl j ↦ (let K = old q j in let z = kept-grows q.from in let a = K.within in record { within = omega (arith, z, a); from = K.from; safe = known-more q K.safe })
              | inr j ↦ (let (m, o, e) = member_unmap (posting r (length (kept_at w r).events)) q y.sent j in subst (IsKnown v t) (sym e) (sent-now m o))
            ];
            hands = λ m i.
                let (p, j, e, a) = hands-asked x refl m i in
                let (q, o, b, c, d) = all p j in
                (q, member_left q ps (posts_of r (length (kept_at w r).events) (Some y)) o, b ∙ e, subst (λ a. q.event < safe_at t a) (sym d) (omega (arith, c, a)));
            tidy = tidy-happen g w r h y ps M.tidy size l at;
          }

        -- a choice that is taken
        choosing-mirrors : (c : Choice) (y : Reaction) → f ≡ Choose c → choice_ok g c ≡ true → home g (node_of c) ≡ (node_at s r).site.role → choose g (node_at s r).site c ≡ Did y
            → kept_frame g (node_at s r).site f ≡ Chose c ∷ [] → (handle g (node_at s r).site f).site ≡ y.site → (u : Frail) × Mirrors u t
        choosing-mirrors c y e ok at did kept site =
            let here : home g (node_of c) ≡ r = at ∙ node-role r in
            let is : frail_step g w (Chooses c) ≡ happen w r (Chose c) (Some y) w.posted =
            subst (λ a. chosen_frail w a c (choose g (kept_at w a).site c) ≡ happen w r (Chose c) (Some y) w.posted) (sym here)
            (ap (λ (n : Kept). chosen_frail w r c (choose g n.site c)) (same-node r) ∙ ap (chosen_frail w r c) did) in
            let R = subst IsReached is (reached-more w M.reached (Happens (Chooses c)) ok) in (
              happen w r (Chose c) (Some y) w.posted,
              happen-mirrors (Chose c) y w.posted R here kept site (choose-boxes g (node_at s r).site c y did) M.posts (λ p i. (p, i, refl, refl, refl)),
            )

        -- a message that is new
        getting-mirrors : (m : Message) (y : Reaction) → Member m s.hands → receive g (node_at s r).site m ≡ New y
            → kept_frame g (node_at s r).site f ≡ Got m ∷ [] → (handle g (node_at s r).site f).site ≡ y.site → (u : Frail) × Mirrors u t
        getting-mirrors m y i new kept site =
            let (p, o, q, b) = M.hands m i in
            let K = M.posts p o in
            let (j, e) = member-get w.posted p o in
            let to : m.to ≡ r = new-here g (node_at s r).site m y new ∙ node-role r in
            let n = length (kept_at w r).events in
            let ps = slice_set w.posted j (with_delivery n p) in
            let is : frail_step g w (Delivers j) ≡ happen w r (Got m) (Some y) ps =
            ap (delivered_frail g w j) e
            ∙ (ap (λ (n : Message). happen w n.to (Got n) (reaction_of (receive g (kept_at w n.to).site n)) (slice_set w.posted j (with_delivery (length (kept_at w n.to).events) p))) q
            ∙ (ap (λ a. happen w a (Got m) (reaction_of (receive g (kept_at w a).site m)) (slice_set w.posted j (with_delivery (length (kept_at w a).events) p))) to
            ∙ ap (λ z. happen w r (Got m) (reaction_of z) ps) (ap (λ (n : Kept). receive g n.site m) (same-node r) ∙ new))) in
            let R = subst IsReached is (reached-more w M.reached (Happens (Delivers j)) tt) in (
              happen w r (Got m) (Some y) ps,
              happen-mirrors (Got m) y ps R to kept site (receive-boxes g (node_at s r).site m y new)
                  (λ u z. elim (set-from w.posted j (with_delivery n p) u z) [
                    | inl d ↦ subst (IsKnown w s) (sym d) (record { within = K.within; from = K.from; safe = inr b })
                    | inr d ↦ M.posts u d
                  ])
                  (λ u z. elim (set-members w.posted j p (with_delivery n p) u e z) [
                    | inl d ↦ (u, d, refl, refl, refl)
                    | inr d ↦ (
                      with_delivery n p,
                      set-member w.posted j p (with_delivery n p) e,
                      ap (λ (u : Posted). u.message) (sym d),
                      ap (λ (u : Posted). u.event) (sym d),
                      ap (λ (u : Posted). u.from) (sym d),
                    )
                  ]),
            )

        made-mirrors : IsCarried s f → Makes g (node_at s r).site f → (u : Frail) × Mirrors u t
        made-mirrors c (nothing e h) = (w, nothing-mirrors e h)
        made-mirrors c (choosing d y e ok at did kept site told) = choosing-mirrors d y e ok at did kept site
        made-mirrors c (getting m y e new kept site) = getting-mirrors m y (subst (IsCarried s) e c) new kept site

      -- a crash
      module _ (r n : ℕ) (l : r < g.roles) (low : safe_at s r ≤ n) (high : n ≤ length (node_at s r).events) where
        abbrev z : System
        z = act g loads s (Crashes r n)

        abbrev b : Frail
        b = go_back g loads r n w

        may-go : MayGoBack r n w
        may-go = (
          omega (arith, size, l),
          λ p i d.
              let (a, m) = dropped-is r n p.from p.event d in
              elim (M.posts p i).safe [
                | inl e ↦ e
                | inr q ↦ (let q' : p.event < safe_at s r = subst (λ a. p.event < safe_at s a) a q in absurd (omega (arith, q', m, low)))
              ],
        )

        back-here : kept_at b r ≡ back_kept g loads r n (kept_at w r)
        back-here = get-set (new_kept false r) w.kept r (back_kept g loads r n (kept_at w r)) (omega (arith, size, l))

        back-length : length (kept_at b r).events ≡ n
        back-length = ap (λ (k : Kept). length k.events) back-here ∙ length-take-le n (kept_at w r).events (subst (λ (k : Kept). n ≤ length k.events) (sym (same-node r)) high)

        stays-within : (p : Posted) → not (is_dropped r n p.from p.event) ≡ true → p.event < length (kept_at w p.from).events → p.event < length (kept_at b p.from).events
        stays-within p d i = elim (same_or_not r p.from) [
          | inl e ↦ subst (λ a. p.event < length (kept_at b a).events) e (let q = stays-early r n p.from p.event d (sym e) in omega (arith, q, back-length))
          | inr f ↦ subst (λ (k : Kept). p.event < length k.events) (sym (get-set_other (new_kept false p.from) w.kept r p.from (back_kept g loads r n (kept_at w r)) f)) i
        ]

        -- a safe event is not dropped
        safe-stays : (p : Posted) → p.event < safe_at s p.from → not (is_dropped r n p.from p.event) ≡ true
        safe-stays p i = elim (same_or_not p.from r) [
          | inl e ↦ (let i' : p.event < safe_at s r = subst (λ a. p.event < safe_at s a) e i in ap not (drop-early r n p.from p.event (omega (arith, i', low))))
          | inr f ↦ ap not (drop-other r n p.from p.event f)
        ]

        crashed-mirrors : Mirrors b z
        crashed-mirrors = record {
          reached = reached-more w M.reached (GoesBack r n) may-go;
          kept = λ i. slice_set (M.kept i) r (back_kept g loads r n (get (new_kept false r) (M.kept i) r));
          posts = λ q i.
              let (p, j, e) = member_unmap (back_post r n) q (filter (λ (p : Posted). not (is_dropped r n p.from p.event)) w.posted) i in
              let (o, d) = Member-filtered (λ (p : Posted). not (is_dropped r n p.from p.event)) p w.posted j in
              let K = M.posts p o in
              subst (IsKnown b z) (sym e) (record {
                within = stays-within p d K.within;
                from = K.from;
                safe = elim K.safe [ inl c ↦ inl (filter-none (λ k. not (is_dropped r n p.message.to k)) p.deliveries c) | inr c ↦ inr c ];
              });
          hands = λ m i.
              let (p, j, e, q) = M.hands m i in
              (back_post r n p, member_map (back_post r n) p _ (Member-filter (λ (p : Posted). not (is_dropped r n p.from p.event)) p w.posted j (safe-stays p q)), e, q);
          tidy = tidy-back g loads w r n M.tidy size l;
        }

      -- any act
      pub act-mirrors : (a : Act) → IsAllowed g s a → (u : Frail) × Mirrors u (act g loads s a)
      act-mirrors (Asks r f x) h = made-mirrors r f x h.0 h.1 (makes g (node_at s r).site f)
      act-mirrors (Crashes r n) h = (go_back g loads r n w, crashed-mirrors r n h.0 h.1 h.2)
