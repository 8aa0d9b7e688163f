-- Nodes that are served honest frames have the sites of a world.
use Rattle.std.specs.Prelude.{slice_get, slice_set, ◌⊎◌, not, nat_eq}
use Rattle.std.proofs.lemmas.List.{append-nil}
use Rattle.std.proofs.Common.{◌≡◌, ℕ, zero, suc, ◌<◌, Bool, true, false, cond, List, [], ◌∷◌, ◌++◌, map, length, Option, Some, None, refl, sym, ap, ◌∙◌, subst, inl, inr, arith}
use Rattle.std.proofs.lemmas.Bool.{eqb-true, eq-eqb}
use Rattle.aw_list.specs.Members.{Member}
use Rattle.aw_list.proofs.Members.{never, member_right, member_got}
use Rattle.aw_list.proofs.Everyday.{length-slice_set as length-set}
use Rattle.aw_term.specs.Choices.{Choice, Answer}
use Rattle.aw_term.specs.Names.{Ref}
use Rattle.aw_term.specs.Rules.{Grammar, get, upto}
use Rattle.aw_term.specs.Trees.{Never}
use Rattle.aw_term.specs.WellFormed.{Each}
use Rattle.aw_term.proofs.Eaches.{each_append}
use Rattle.aw_base.specs.ChoiceFits.{choice_ok}
use Rattle.aw_apply.specs.Messages.{Message, Received, New, Repeat, Conflict, NotMine, BadName}
use Rattle.aw_law_sites.specs.Choosing.{Chosen, No, Did, choose}
use Rattle.aw_law_sites.specs.Homes.{home}
use Rattle.aw_law_sites.specs.Reacting.{receive}
use Rattle.aw_law_sites.specs.SiteEvents.{SiteEvent, Chose, Got}
use Rattle.aw_law_sites.specs.Sites.{Site, Reaction, empty_site}
use Rattle.aw_law_sites.specs.Worlds.{node_of, World, empty_world, site_at, with_site, chosen_at, received_at, deliver_on, Move, Chooses, Delivers, step, run}
use Rattle.aw_law_worlds.specs.Invariant.{sender, IsSent}
use Rattle.aw_law_worlds.specs.Laws.{MayCome, world_after}
use Rattle.aw_law_worlds.proofs.Places.{get-set, get-set_other, member-get, same_or_not}
use Rattle.aw_law_worlds.proofs.Settling.{run_both}
use Rattle.aw_law_nodes.specs.Nodes.{Frame, Push, Choose, Pull, Listed, Answers, NotValid, NotForMe, received, chosen, handle, Asked, site_of, ask}
use Rattle.aw_law_nodes.specs.Nodes.{sites_after, IsHonestFrame, AreHonest, site_after, replies, all_replies, asked_of, replies_of, happening_of}
use Rattle.aw_law_nodes.specs.Nodes.{happenings, ReadAs, SaysSame, world_replies, reply_of, event_replies, AllSaySame, sent_by}
use Rattle.aw_law_nodes.proofs.Mail.{Mail, Given}
use Rattle.aw_law_nodes.proofs.ListParts.{set-same, filter-append, filter-all, filter-none}
use Rattle.aw_law_nodes.proofs.Following.{took-sites, delivered-sites, choose-boxes, receive-boxes}

pub read-append : (g : Grammar) (w : World) (hs is : List SiteEvent) (es fs : List Move) → ReadAs g w hs es → ReadAs g (run g w es) is fs → ReadAs g w (hs ++ is) (es ++ fs)
read-append g w [] is [] fs p q = q
read-append g w [] is (e ∷ es) fs p q = never p
read-append g w (Chose c ∷ hs) is [] fs p q = never p
read-append g w (Got m ∷ hs) is [] fs p q = never p
read-append g w (Chose c ∷ hs) is (Chooses d ∷ es) fs p q = (p.0, read-append g (step g w (Chooses d)).world hs is es fs p.1 q)
read-append g w (Chose c ∷ hs) is (Delivers k ∷ es) fs p q = never p
read-append g w (Got m ∷ hs) is (Chooses d ∷ es) fs p q = never p
read-append g w (Got m ∷ hs) is (Delivers k ∷ es) fs p q = (p.0, read-append g (step g w (Delivers k)).world hs is es fs p.1 q)

-- a choice that is answered is a choice of this role
answered : (a b : Bool) (s : Site) (z : Chosen) (x : Answer Ref) →
    (cond (not a) (record { site = s; response = NotValid }) (cond (not b) (record { site = s; response = NotForMe }) (chosen s z))).response ≡
    Answers x → (a ≡ true) × (b ≡ true)
answered true true s z x e = (refl, refl)
answered true false s z x e = absurd cc
answered false b s z x e = absurd cc

pub answered-site : (a b : Bool) (s : Site) (z : Chosen) → a ≡ true → b ≡ true →
    (cond (not a) (record { site = s; response = NotValid }) (cond (not b) (record { site = s; response = NotForMe }) (chosen s z))).site ≡ (chosen s z).site
answered-site true true s z p q = refl
answered-site true false s z p q = absurd cc
answered-site false b s z p q = absurd cc

module _ (g : Grammar) (G : Given g) (loads : Bool) where
  -- a world that some events lead to
  pub record IsReached (w : World) : Type 0 where
    pub events : List Move
    pub ok : Each (MayCome g) events
    pub is : world_after g loads events ≡ w

  unfoldable pub reached-run : (w : World) → IsReached w → (es : List Move) → Each (MayCome g) es → IsReached (run g w es)
  reached-run w R es k = record {
    events = R.events ++ es;
    ok = each_append (MayCome g) R.events es R.ok k;
    is = run_both g (empty_world g loads) R.events es ∙ ap (λ w. run g w es) R.is;
  }

  pub reached-mail : (w : World) → IsReached w → Mail g w
  reached-mail w R = subst (Mail g) R.is (G.mail loads R.events R.ok)

  -- what an honest frame does to a world
  pub record Went (w : World) (r : ℕ) (f : Frame) : Type 0 where
    pub events : List Move
    pub ok : Each (MayCome g) events
    pub read : ReadAs g w (happening_of f) events
    pub sites : (run g w events).sites ≡ ask g w.sites (record { role = r; frame = f })

  abbrev pub pushed : (w : World) (r k : ℕ) (m : Message) → IsSent w m k → m.to ≡ r → Went w r (Push m)
  pushed w r k m e t = record {
    events = Delivers k ∷ [];
    ok = (tt, tt);
    read = (e, tt);
    sites = subst (λ r. (run g w (Delivers k ∷ [])).sites ≡ ask g w.sites (record { role = r; frame = Push m })) t (delivered-sites g w k m (slice_get w.messages k) e);
  }

  chose-ok : (w : World) (r : ℕ) (c : Choice) (x : Answer Ref) → (handle g (site_at w r) (Choose c)).response ≡ Answers x → MayCome g (Chooses c)
  chose-ok w r c x e = G.good c (answered (choice_ok g c) (nat_eq (home g (node_of c)) (site_at w r).role) (site_at w r) (choose g (site_at w r) c) x e).0

  chose-sites : (w : World) → IsReached w → (r : ℕ) (c : Choice) (x : Answer Ref) → (handle g (site_at w r) (Choose c)).response ≡ Answers x →
      (step g w (Chooses c)).world.sites ≡ ask g w.sites (record { role = r; frame = Choose c })
  chose-sites w R r c x e =
      let s = site_at w r in
      let M = reached-mail w R in
      let (a, b) = answered (choice_ok g c) (nat_eq (home g (node_of c)) s.role) s (choose g s c) x e in
      let h : home g (node_of c) ≡ r = eqb-true (home g (node_of c)) s.role b ∙ M.roles r in
      subst (λ q. (chosen_at w q c (choose g (site_at w q) c)).world.sites ≡ slice_set w.sites r (chosen s (choose g s c)).site) (sym h) (took-sites w r c (choose g s c))
      ∙ ap (λ (t : Site). slice_set w.sites r t) (sym (answered-site (choice_ok g c) (nat_eq (home g (node_of c)) s.role) s (choose g s c) a b))

  pub chose : (w : World) → IsReached w → (r : ℕ) (c : Choice) (x : Answer Ref) → (handle g (site_at w r) (Choose c)).response ≡ Answers x → Went w r (Choose c)
  chose w R r c x e = record { events = Chooses c ∷ []; ok = (chose-ok w r c x e, tt); read = (refl, tt); sites = chose-sites w R r c x e }

  pub asked : (w : World) (r : ℕ) (f : Frame) → happening_of f ≡ [] → (handle g (site_at w r) f).site ≡ site_at w r → Went w r f
  asked w r f h e = record {
    events = [];
    ok = tt;
    read = subst (λ hs. ReadAs g w hs []) (sym h) tt;
    sites = sym (ap (λ (t : Site). slice_set w.sites r t) e ∙ set-same (empty_site false r) w.sites r);
  }

  pub went : (w : World) → IsReached w → (r : ℕ) (f : Frame) → IsHonestFrame g w.sites r f → Went w r f
  went w R r (Push m) (t, (b, n, i)) =
      let M = reached-mail w R in
      let (k, e) = member-get w.messages m (M.boxes b m i).0 in
      pushed w r k m e t
  went w R r (Choose c) (x, e) = chose w R r c x e
  went w R r (Pull k) h = asked w r (Pull k) refl refl
  went w R r (Listed k) h = asked w r (Listed k) refl refl

  pub served : (w : World) → IsReached w → (as_ : List Asked) → AreHonest g w.sites as_ →
      (es : List Move) × ReadAs g w (happenings as_) es × Each (MayCome g) es × ((run g w es).sites ≡ sites_after g w.sites as_)
  served w R [] h = ([], tt, tt, refl)
  served w R (a ∷ as_) h =
      let W = went w R a.role a.frame h.0 in
      let v = run g w W.events in
      let (fs, q, k, e) = served (run g w W.events) (reached-run w R W.events W.ok) as_ (subst (λ ss. AreHonest g ss as_) (sym W.sites) h.1) in (
        W.events ++ fs,
        read-append g w (happening_of a.frame) (happenings as_) W.events fs W.read q,
        each_append (MayCome g) W.events fs W.ok k,
        ap (λ (w : World). w.sites) (run_both g w W.events fs) ∙ (e ∙ ap (λ ss. sites_after g ss as_) W.sites),
      )

  pub reached-empty : IsReached (empty_world g loads)
  reached-empty = record { events = []; ok = tt; is = refl }

  -- what the world replies, a node replies
  push-same : (w : World) (k to : ℕ) (z : Received Reaction) → (z ≡ Repeat) ⊎ ((y : Reaction) × (z ≡ New y)) → SaysSame (received_at w k to z).reply (received (site_at w to) z).response
  push-same w k to (New x) e = tt
  push-same w k to Repeat e = tt
  push-same w k to (Conflict a b) e = elim e [ inl p ↦ absurd cc | inr p ↦ (let q = p.1 in absurd cc) ]
  push-same w k to NotMine e = elim e [ inl p ↦ absurd cc | inr p ↦ (let q = p.1 in absurd cc) ]
  push-same w k to BadName e = elim e [ inl p ↦ absurd cc | inr p ↦ (let q = p.1 in absurd cc) ]

  delivered-same : (w : World) → IsReached w → (k : ℕ) (m : Message) → IsSent w m k → SaysSame (step g w (Delivers k)).reply (handle g (site_at w m.to) (Push m)).response
  delivered-same w R k m e = subst (λ o. SaysSame (deliver_on g w k o).reply (received (site_at w m.to) (receive g (site_at w m.to) m)).response)
      (sym e) (push-same w k m.to (receive g (site_at w m.to) m) ((reached-mail w R).known k m e))

  choice-same : (w : World) (r : ℕ) (c : Choice) (z : Chosen) (s : Site) → SaysSame (chosen_at w r c z).reply (chosen s z).response
  choice-same w r c (No a) s = refl
  choice-same w r c (Did x) s = refl

  answered-same : (w : World) (r : ℕ) (c : Choice) (a b : Bool) (s : Site) (z : Chosen) → a ≡ true → b ≡ true → SaysSame (chosen_at w r c z).reply
      (cond (not a) (record { site = s; response = NotValid }) (cond (not b) (record { site = s; response = NotForMe }) (chosen s z))).response
  answered-same w r c true true s z p q = choice-same w r c z s
  answered-same w r c true false s z p q = absurd cc
  answered-same w r c false b s z p q = absurd cc

  chose-same : (w : World) → IsReached w → (r : ℕ) (c : Choice) (x : Answer Ref) → (handle g (site_at w r) (Choose c)).response ≡ Answers x →
      SaysSame (step g w (Chooses c)).reply (handle g (site_at w r) (Choose c)).response
  chose-same w R r c x e =
      let M = reached-mail w R in
      let (a, b) = answered (choice_ok g c) (nat_eq (home g (node_of c)) (site_at w r).role) (site_at w r) (choose g (site_at w r) c) x e in
      let h : home g (node_of c) ≡ r = eqb-true (home g (node_of c)) (site_at w r).role b ∙ M.roles r in
      subst (λ q. SaysSame (chosen_at w q c (choose g (site_at w q) c)).reply (handle g (site_at w r) (Choose c)).response) (sym h)
      (answered-same w r c (choice_ok g c) (nat_eq (home g (node_of c)) (site_at w r).role) (site_at w r) (choose g (site_at w r) c) a b)

  -- the frames behind this one
  abbrev Rest : List Asked → Type 0
  Rest as_ = (w : World) → IsReached w → AreHonest g w.sites as_ → (es : List Move) → ReadAs g w (happenings as_) es → AllSaySame (world_replies g w es) (event_replies g w.sites as_)

  rest-same : (w : World) (as_ : List Asked) → Rest as_ → (es : List Move) → Each (MayCome g) es → IsReached w → (ss : List Site) →
      (run g w es).sites ≡ ss → AreHonest g ss as_ → (fs : List Move) → ReadAs g (run g w es) (happenings as_) fs →
      AllSaySame (world_replies g (run g w es) fs) (event_replies g ss as_)
  rest-same w as_ f es k R ss e h fs q = subst (λ ss. AllSaySame (world_replies g (run g w es) fs) (event_replies g ss as_)) e
      (f (run g w es) (reached-run w R es k) (subst (λ ss. AreHonest g ss as_) (sym e) h) fs q)

  frame-same : (w : World) → IsReached w → (r : ℕ) (f : Frame) (as_ : List Asked) → Rest as_ → IsHonestFrame g w.sites r f →
      AreHonest g (ask g w.sites (record { role = r; frame = f })) as_ → (es : List Move) → ReadAs g w (happening_of f ++ happenings as_) es
      → AllSaySame (world_replies g w es) (reply_of f (handle g (site_at w r) f).response ++ event_replies g (ask g w.sites (record { role = r; frame = f })) as_)
  frame-same w R r (Push m) as_ F h hs [] q = never q
  frame-same w R r (Push m) as_ F h hs (Chooses d ∷ es) q = never q
  frame-same w R r (Push m) as_ F h hs (Delivers k ∷ es) q =
      let W = pushed w r k m q.0 h.0 in (
        subst (λ r. SaysSame (step g w (Delivers k)).reply (handle g (site_at w r) (Push m)).response) h.0 (delivered-same w R k m q.0),
        rest-same w as_ F (Delivers k ∷ []) (tt, tt) R (ask g w.sites (record { role = r; frame = Push m })) W.sites hs es q.1,
      )
  frame-same w R r (Choose c) as_ F h hs [] q = never q
  frame-same w R r (Choose c) as_ F h hs (Delivers k ∷ es) q = never q
  frame-same w R r (Choose c) as_ F h hs (Chooses d ∷ es) q =
      subst (λ d. ReadAs g (step g w (Chooses d)).world (happenings as_) es → AllSaySame (world_replies g w (Chooses d ∷ es))
      (reply_of (Choose c) (handle g (site_at w r) (Choose c)).response ++ event_replies g (ask g w.sites (record { role = r; frame = Choose c })) as_)) q.0
      (λ u. (
        chose-same w R r c h.0 h.1,
        rest-same w as_ F (Chooses c ∷ []) (chose-ok w r c h.0 h.1, tt) R (ask g w.sites (record { role = r; frame = Choose c })) (chose-sites w R r c h.0 h.1) hs es u,
      )) q.1
  frame-same w R r (Pull k) as_ F h hs es q = rest-same w as_ F [] tt R (ask g w.sites (record { role = r; frame = Pull k })) (sym (set-same (empty_site false r) w.sites r)) hs es q
  frame-same w R r (Listed k) as_ F h hs es q = rest-same w as_ F [] tt R (ask g w.sites (record { role = r; frame = Listed k })) (sym (set-same (empty_site false r) w.sites r)) hs es q

  pub replies-same : (w : World) → IsReached w → (as_ : List Asked) → AreHonest g w.sites as_ → (es : List Move) → ReadAs g w (happenings as_) es →
      AllSaySame (world_replies g w es) (event_replies g w.sites as_)
  replies-same w R [] h [] q = tt
  replies-same w R [] h (e ∷ es) q = never q
  replies-same w R (a ∷ as_) h es q = frame-same w R a.role a.frame as_ (λ v V h es q. replies-same v V as_ h es q) h.0 h.1 es q

-- the laws as they are stated
pub served_nodes : (g : Grammar) → Given g → (loads : Bool) (as_ : List Asked) → AreHonest g (empty_world g loads).sites as_ →
    (es : List Move) × ReadAs g (empty_world g loads) (happenings as_) es × Each (MayCome g) es × ((world_after g loads es).sites ≡ sites_after g (empty_world g loads).sites as_)
served_nodes g G loads as_ h = served g G loads (empty_world g loads) (reached-empty g G loads) as_ h

pub served_replies : (g : Grammar) → Given g → (loads : Bool) (as_ : List Asked) → AreHonest g (empty_world g loads).sites as_ →
    (es : List Move) → ReadAs g (empty_world g loads) (happenings as_) es → AllSaySame (world_replies g (empty_world g loads) es) (event_replies g (empty_world g loads).sites as_)
served_replies g G loads as_ h es q = replies-same g G loads (empty_world g loads) (reached-empty g G loads) as_ h es q

own_site : (g : Grammar) (ss : List Site) (a : Asked) (r : ℕ) → r < length ss → (b : Bool) → nat_eq a.role r ≡ b → site_of (ask g ss a) r ≡ cond b (handle g (site_of ss r) a.frame).site (site_of ss r)
own_site g ss a r l true e =
    let p = eqb-true a.role r e in
    subst (λ q. get (empty_site false r) (slice_set ss q (handle g (site_of ss q) a.frame).site) r ≡ (handle g (site_of ss r) a.frame).site) (sym p) (get-set (empty_site false r) ss r _ l)
own_site g ss a r l false e = get-set_other (empty_site false r) ss a.role r _ (λ p. let z = eq-eqb a.role r p in absurd cc)

pub own_sessions : (g : Grammar) (ss : List Site) (as_ : List Asked) (r : ℕ) → r < length ss →
    (site_of (sites_after g ss as_) r ≡ site_after g (site_of ss r) (asked_of r as_)) × (replies_of r as_ (all_replies g ss as_) ≡ replies g (site_of ss r) (asked_of r as_))
own_sessions g ss [] r l = (refl, refl)
own_sessions g ss (a ∷ as_) r l = go (let n = length-set ss a.role (handle g (site_of ss a.role) a.frame).site in own_sessions g (ask g ss a) as_ r (omega (arith, n, l))) (nat_eq a.role r) refl
  where
    Rest : Type 0
    Rest = (site_of (sites_after g (ask g ss a) as_) r ≡ site_after g (site_of (ask g ss a) r) (asked_of r as_))
        × (replies_of r as_ (all_replies g (ask g ss a) as_) ≡ replies g (site_of (ask g ss a) r) (asked_of r as_))

    go : Rest → (b : Bool) → nat_eq a.role r ≡ b →
        (site_of (sites_after g (ask g ss a) as_) r ≡ site_after g (site_of ss r) (cond b (a.frame ∷ asked_of r as_) (asked_of r as_)))
        × (cond b ((handle g (site_of ss a.role) a.frame).response ∷ replies_of r as_ (all_replies g (ask g ss a) as_))
        (replies_of r as_ (all_replies g (ask g ss a) as_)) ≡ replies g (site_of ss r) (cond b (a.frame ∷ asked_of r as_) (asked_of r as_)))
    go rest true e =
        let p = eqb-true a.role r e in
        let q = own_site g ss a r l true e in (
          rest.0 ∙ ap (λ s. site_after g s (asked_of r as_)) q,
          λ i. (handle g (site_of ss (p i)) a.frame).response ∷ (rest.1 ∙ ap (λ s. replies g s (asked_of r as_)) q) i,
        )
    go rest false e =
        let q = own_site g ss a r l false e in
        (rest.0 ∙ ap (λ s. site_after g s (asked_of r as_)) q, rest.1 ∙ ap (λ s. replies g s (asked_of r as_)) q)

module _ (g : Grammar) (G : Given g) (loads : Bool) where
  abbrev Boxed : World → Type 0
  Boxed w = (r : ℕ) → (site_at w r).outbox ≡ sent_by g r w.messages

  -- a site changes, and what it sent is from its role
  with-boxed : (w : World) (r : ℕ) (x : Reaction) → r < length w.sites → x.site.outbox ≡ (site_at w r).outbox ++ x.sent →
      ((m : Message) → Member m x.sent → sender g m.kind ≡ r) → Boxed w → Boxed (with_site w r x)
  with-boxed w r x l q f h a =
      let z = filter-append (λ (m : Message). nat_eq (sender g m.kind) a) w.messages x.sent in
      elim (same_or_not r a) [
        | inr n ↦
            ap (λ (s : Site). s.outbox) (get-set_other (empty_site false a) w.sites r a x.site n)
            ∙ (h a ∙ (sym (append-nil (sent_by g a w.messages))
            ∙ (ap (λ ms. sent_by g a w.messages ++ ms)
            (sym (filter-none (λ (m : Message). nat_eq (sender g m.kind) a) x.sent
            (λ m i. not-eq (sender g m.kind) a (λ e. n (sym (f m i) ∙ e))))) ∙ sym z)))
        | inl e ↦ subst (λ a. (site_at (with_site w r x) a).outbox ≡ sent_by g a (w.messages ++ x.sent)) e
            (ap (λ (s : Site). s.outbox) (get-set (empty_site false r) w.sites r x.site l)
            ∙ (q ∙ (ap (λ ms. ms ++ x.sent) (h r)
            ∙ (ap (λ ms. sent_by g r w.messages ++ ms) (sym (filter-all (λ (m : Message). nat_eq (sender g m.kind) r) x.sent (λ m i. eq-eqb (sender g m.kind) r (f m i))))
            ∙ sym (filter-append (λ (m : Message). nat_eq (sender g m.kind) r) w.messages x.sent)))))
      ]
    where
      not-eq : (m n : ℕ) → (m ≡ n → Never) → nat_eq m n ≡ false
      not-eq m n f = go (nat_eq m n) refl
        where
          go : (b : Bool) → nat_eq m n ≡ b → nat_eq m n ≡ false
          go true e = never (f (eqb-true m n e))
          go false e = e

  -- what is in an outbox has that sender
  from-here : (w : World) → IsReached g G loads w → (r : ℕ) (m : Message) → Member m (site_at w r).outbox → sender g m.kind ≡ r
  from-here w R r m i = let M = reached-mail g G loads w R in (M.boxes r m i).1

  sent-here : (w v : World) (r : ℕ) (x : Reaction) → IsReached g G loads v → (site_at v r).outbox ≡ (site_at w r).outbox ++ x.sent → (m : Message) → Member m x.sent → sender g m.kind ≡ r
  sent-here w v r x R q m i = from-here v R r m (subst (Member m) (sym q) (member_right m (site_at w r).outbox x.sent i))

  took-boxed : (w : World) (r : ℕ) (c : Choice) (z : Chosen) → r < length w.sites → choose g (site_at w r) c ≡ z →
      IsReached g G loads (chosen_at w r c z).world → Boxed w → Boxed (chosen_at w r c z).world
  took-boxed w r c (No a) l e R h = h
  took-boxed w r c (Did x) l e R h =
      let q = choose-boxes g (site_at w r) c x e in
      with-boxed w r x l q (sent-here w (chosen_at w r c (Did x)).world r x R (ap (λ (s : Site). s.outbox) (get-set (empty_site false r) w.sites r x.site l) ∙ q)) h

  got-boxed : (w : World) (k : ℕ) (m : Message) (z : Received Reaction) → m.to < length w.sites → receive g (site_at w m.to) m ≡ z →
      IsReached g G loads (received_at w k m.to z).world → Boxed w → Boxed (received_at w k m.to z).world
  got-boxed w k m (New x) l e R h =
      let q = receive-boxes g (site_at w m.to) m x e in
      with-boxed w m.to x l q (sent-here w (received_at w k m.to (New x)).world m.to x R (ap (λ (s : Site). s.outbox) (get-set (empty_site false m.to) w.sites m.to x.site l) ∙ q)) h
  got-boxed w k m Repeat l e R h = h
  got-boxed w k m (Conflict a b) l e R h = h
  got-boxed w k m NotMine l e R h = h
  got-boxed w k m BadName l e R h = h

  deliver-boxed : (w : World) (k : ℕ) (o : Option Message) → slice_get w.messages k ≡ o → IsReached g G loads w →
      IsReached g G loads (deliver_on g w k o).world → Boxed w → Boxed (deliver_on g w k o).world
  deliver-boxed w k None e R V h = h
  deliver-boxed w k (Some m) e R V h =
      let M = reached-mail g G loads w R in
      let n = M.sites in
      let t = M.within m (member_got w.messages k m e) in
      got-boxed w k m (receive g (site_at w m.to) m) (omega (arith, n, t)) refl V h

  step-boxed : (w : World) (e : Move) → MayCome g e → IsReached g G loads w → IsReached g G loads (step g w e).world → Boxed w → Boxed (step g w e).world
  step-boxed w (Chooses c) k R V h =
      let M = reached-mail g G loads w R in
      let n = M.sites in
      let t = G.homes c k in
      took-boxed w (home g (node_of c)) c (choose g (site_at w (home g (node_of c))) c) (omega (arith, n, t)) refl V h
  step-boxed w (Delivers k) ok R V h = deliver-boxed w k (slice_get w.messages k) refl R V h

  run-boxed : (w : World) (es : List Move) → Each (MayCome g) es → IsReached g G loads w → Boxed w → Boxed (run g w es)
  run-boxed w [] k R h = h
  run-boxed w (e ∷ es) k R h =
      let V = reached-run g G loads w R (e ∷ []) (k.0, tt) in
      run-boxed (step g w e).world es k.1 V (step-boxed w e k.0 R V h)

  empty-box : (i n j r : ℕ) → (get (empty_site false r) (map (empty_site loads) (upto i n)) j).outbox ≡ []
  empty-box i zero j r = refl
  empty-box i (suc n) zero r = refl
  empty-box i (suc n) (suc j) r = empty-box (suc i) n j r

  pub messages_are_outboxes : (es : List Move) → Each (MayCome g) es → (r : ℕ) → (site_at (world_after g loads es) r).outbox ≡ sent_by g r (world_after g loads es).messages
  messages_are_outboxes es k = run-boxed (empty_world g loads) es k (reached-empty g G loads) (λ r. empty-box 0 g.roles r r)
