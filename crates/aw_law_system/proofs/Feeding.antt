-- What a node got was in somebody's hands, and what is in hands stands in an outbox that no crash takes; what is a repeat stays one.
use Rattle.std.specs.Prelude.{slice_get, take, drop}
use Rattle.std.proofs.Common.{◌≡◌, ℕ, ◌<◌, ◌≤◌, Bool, true, false, List, [], ◌∷◌, length, Some, refl, sym, ap, ◌∙◌, subst, inl, inr, arith, length-append}
use Rattle.std.proofs.lemmas.List.{take-append-drop}
use Rattle.aw_list.specs.Members.{Member}
use Rattle.aw_list.proofs.Members.{never, member_left, member_right, member_split}
use Rattle.aw_list.proofs.Everyday.{get-left}
use Rattle.aw_term.specs.Choices.{Choice}
use Rattle.aw_term.specs.Rules.{Grammar, get}
use Rattle.aw_term.specs.WellFormed.{Each}
use Rattle.aw_base.specs.ChoiceFits.{choice_ok}
use Rattle.aw_apply.specs.Messages.{Message, Received, New, Repeat, Conflict, NotMine, BadName}
use Rattle.aw_law_sites.specs.Choosing.{Chosen, No, Did, choose}
use Rattle.aw_law_sites.specs.Homes.{home}
use Rattle.aw_law_sites.specs.Reacting.{receive}
use Rattle.aw_law_sites.specs.SiteEvents.{SiteEvent, Chose, Got, after_choice, after_message, site_step, site_run}
use Rattle.aw_law_sites.specs.Sites.{Site, Reaction, empty_site}
use Rattle.aw_law_sites.specs.Worlds.{World, site_at, node_of, Move, Chooses, Delivers, step, run, MayCome, world_after}
use Rattle.aw_law_worlds.specs.Invariant.{IsSent, IsDelivered}
use Rattle.aw_law_worlds.specs.Laws.{Repeats}
use Rattle.aw_law_worlds.proofs.Places.{get-set, member-get, same_or_not}
use Rattle.aw_law_nodes.specs.Couriers.{IsPrefix}
use Rattle.aw_law_nodes.specs.Crashes.{Kept, new_kept, kept_frame, CrashesLeaveAWorld}
use Rattle.aw_law_nodes.specs.Nodes.{Frame, Push, received, handle}
use Rattle.aw_law_nodes.proofs.Following.{Follows, run-follows, step-follows, took-sites, delivered-sites, choose-boxes, receive-boxes}
use Rattle.aw_law_nodes.proofs.KeptNodes.{events-append}
use Rattle.aw_law_nodes.proofs.ListParts.{map-get}
use Rattle.aw_law_nodes.proofs.Mail.{Given}
use Rattle.aw_law_nodes.proofs.OwnEvents.{start-kept}
use Rattle.aw_law_nodes.proofs.Runs.{delivered-now}
use Rattle.aw_law_nodes.proofs.Served as served
use Rattle.aw_law_system.specs.Systems.{Extent, Unwritten, Written, Heard, System, node_at, safe_at, first_system, Act, Asks, Crashes, after_frame}
use Rattle.aw_law_system.specs.Systems.{message_in, act, acts_on, IsCarried, IsAllowed, AreAllowed, IsWritten}
use Rattle.aw_law_system.proofs.Acting.{safe_events, safe_site, prefix-self, prefix-on, prefix-take, sound-asked, act-extends, asked-here, asked-there, written-events, crashed-here, crashed-there}
use Rattle.aw_law_system.proofs.Framing.{Makes, nothing, choosing, getting, makes, hands-over, new-here}
use Rattle.aw_law_system.proofs.Leaving.{IsHeld, held-act, left, took-step, got-step}
use Rattle.aw_law_system.proofs.Mirroring.{node-role}
use Rattle.aw_law_system.proofs.Staying.{prefix-member}

-- ---- outboxes grow

chosen-box : (g : Grammar) (s : Site) (c : Choice) (z : Chosen) → choose g s c ≡ z → IsPrefix s.outbox (after_choice s z).outbox
chosen-box g s c (No a) e = prefix-self s.outbox
chosen-box g s c (Did x) e = (x.sent, choose-boxes g s c x e)

got-box : (g : Grammar) (s : Site) (n : Message) (z : Received Reaction) → receive g s n ≡ z → IsPrefix s.outbox (after_message s z).outbox
got-box g s n (New x) e = (x.sent, receive-boxes g s n x e)
got-box g s n Repeat e = prefix-self s.outbox
got-box g s n (Conflict a b) e = prefix-self s.outbox
got-box g s n NotMine e = prefix-self s.outbox
got-box g s n BadName e = prefix-self s.outbox

step-box : (g : Grammar) (s : Site) (e : SiteEvent) → IsPrefix s.outbox (site_step g s e).outbox
step-box g s (Chose c) = chosen-box g s c (choose g s c) refl
step-box g s (Got n) = got-box g s n (receive g s n) refl

pub run-box : (g : Grammar) (s : Site) (hs : List SiteEvent) → IsPrefix s.outbox (site_run g s hs).outbox
run-box g s [] = prefix-self s.outbox
run-box g s (h ∷ hs) = prefix-on s.outbox (site_step g s h).outbox (site_run g s (h ∷ hs)).outbox (step-box g s h) (run-box g (site_step g s h) hs)

pub more-box : (g : Grammar) (s : Site) (hs is : List SiteEvent) → IsPrefix hs is → IsPrefix (site_run g s hs).outbox (site_run g s is).outbox
more-box g s hs is (zs, e) = subst (λ ks. IsPrefix (site_run g s hs).outbox (site_run g s ks).outbox) (sym e)
    (subst (λ (t : Site). IsPrefix (site_run g s hs).outbox t.outbox) (sym (events-append g s hs zs)) (run-box g (site_run g s hs) zs))

pub prefix-get : {A : Type 0} (xs ys : List A) (p : ℕ) (x : A) → IsPrefix xs ys → slice_get xs p ≡ Some x → slice_get ys p ≡ Some x
prefix-get xs ys p x (zs, q) e = subst (λ ws. slice_get ws p ≡ Some x) (sym q) (get-left xs zs p x e)

pub prefix-length : {A : Type 0} (xs ys : List A) → IsPrefix xs ys → length xs ≤ length ys
prefix-length xs ys (zs, e) = let p = ap length e in let q = length-append xs zs in omega (arith, p, q)

take-member : {A : Type 0} (n : ℕ) (xs : List A) (x : A) → Member x (take n xs) → Member x xs
take-member n xs x i = prefix-member x (take n xs) xs (prefix-take n xs) i

module _ (g : Grammar) (G : Given g) (law : CrashesLeaveAWorld g) (loads : Bool) where
  -- an event of a role, of which a message is in somebody's hands
  abbrev pub Fits : System → ℕ → SiteEvent → Type 0
  Fits s b (Got n) = (n.to ≡ b) × Member n s.hands
  Fits s b (Chose c) = (choice_ok g c ≡ true) × (home g (node_of c) ≡ b)

  pub record IsFed (s : System) : Type 0 where
    pub events : (b : ℕ) → b < g.roles → (h : SiteEvent) → Member h (node_at s b).events → Fits s b h
    pub hands : (m : Message) → Member m s.hands → (a : ℕ) × (a < g.roles) × Member m (safe_site g loads s a).outbox

  pub fed-first : IsFed (first_system g loads)
  fed-first = record { events = λ b l h i. none b l h i; hands = λ m i. never i }
    where
      none : (b : ℕ) (l : b < g.roles) (h : SiteEvent) → Member h (node_at (first_system g loads) b).events → Fits (first_system g loads) b h
      none b l h i = never (subst (λ (k : Kept). Member h k.events) (start-kept g loads b l) i)

  fits-more : (s t : System) → ((m : Message) → Member m s.hands → Member m t.hands) → (b : ℕ) (h : SiteEvent) → Fits s b h → Fits t b h
  fits-more s t f b (Got n) (e, i) = (e, f n i)
  fits-more s t f b (Chose c) p = p

  hands-more : (s : System) (a : Act) (m : Message) → Member m s.hands → Member m (act g loads s a).hands
  hands-more s (Asks r f Unwritten) m i = i
  hands-more s (Asks r f Written) m i = i
  hands-more s (Asks r f Heard) m i = member_left m s.hands (message_in (handle g (node_at s r).site f).response) i
  hands-more s (Crashes r n) m i = i

  module _ (s : System) (H : IsHeld g G law loads s) (F : IsFed s) where
    -- what a frame adds
    frame-fits : (r : ℕ) (f : Frame) → IsCarried s f → Makes g (node_at s r).site f → (h : SiteEvent) → Member h (kept_frame g (node_at s r).site f) → Fits s r h
    frame-fits r f c (nothing e q) h i = never (subst (Member h) e i)
    frame-fits r f c (choosing d x e ok at did kept site told) h i = elim (subst (Member h) kept i) [
      | inl p ↦ subst (Fits s r) (sym p) (ok, at ∙ node-role g loads G law H.frail s H.mirrors H.sound r)
      | inr z ↦ never z
    ]
    frame-fits r f c (getting m x e new kept site) h i = elim (subst (Member h) kept i) [
      | inl p ↦ subst (Fits s r) (sym p) (new-here g (node_at s r).site m x new ∙ node-role g loads G law H.frail s H.mirrors H.sound r, subst (IsCarried s) e c)
      | inr z ↦ never z
    ]

    -- the events after an act
    pub events-fit : (a : Act) → IsAllowed g s a → (b : ℕ) → b < g.roles → (h : SiteEvent) → Member h (node_at (act g loads s a) b).events → Fits s b h
    events-fit (Asks r f x) (l, c) b m h i = elim (same_or_not r b) [
      | inl e ↦ subst (λ b. Member h (node_at (act g loads s (Asks r f x)) b).events → Fits s b h) e
          (λ i. elim (member_split h (node_at s r).events (kept_frame g (node_at s r).site f) (subst (λ (k : Kept). Member h k.events) (asked-here g loads s H.sound r f x l) i)) [
            | inl j ↦ F.events r l h j
            | inr j ↦ frame-fits r f c (makes g (node_at s r).site f) h j
          ]) i
      | inr n ↦ F.events b m h (subst (λ (k : Kept). Member h k.events) (asked-there g loads s H.sound r f x l b n) i)
    ]
    events-fit (Crashes r n) (l, low, high) b m h i = elim (same_or_not r b) [
      | inl e ↦ subst (λ b. Member h (node_at (act g loads s (Crashes r n)) b).events → Fits s b h) e
          (λ i. F.events r l h (take-member n (node_at s r).events h (subst (λ (k : Kept). Member h k.events) (crashed-here g loads s H.sound r n l low high) i))) i
      | inr d ↦ F.events b m h (subst (λ (k : Kept). Member h k.events) (crashed-there g loads s H.sound r n l low high b d) i)
    ]

    -- the outbox of the safe events
    pub safe-box : (a : Act) → IsAllowed g s a → (b : ℕ) → b < g.roles → IsPrefix (safe_site g loads s b).outbox (safe_site g loads (act g loads s a) b).outbox
    safe-box a h b m = more-box g (empty_site loads b) (safe_events s b) (safe_events (act g loads s a) b) (act-extends g loads s H.sound a h b m)

    pub node-box : (b : ℕ) → b < g.roles → IsPrefix (safe_site g loads s b).outbox (node_at s b).site.outbox
    node-box b m = subst (λ (t : Site). IsPrefix (safe_site g loads s b).outbox t.outbox) (sym (H.sound.own b m))
        (more-box g (empty_site loads b) (safe_events s b) (node_at s b).events (prefix-take (safe_at s b) (node_at s b).events))

    -- a written reply makes the node's site the safe one
    pub written-site : (r : ℕ) (f : Frame) (x : Extent) (l : r < g.roles) → IsWritten x → safe_site g loads (act g loads s (Asks r f x)) r ≡ (node_at (act g loads s (Asks r f x)) r).site
    written-site r f x l w =
        let t = act g loads s (Asks r f x) in
        let all : safe_events t r ≡ (node_at t r).events = written-events g loads s H.sound r f x l w ∙ ap (λ (k : Kept). k.events) (sym (asked-here g loads s H.sound r f x l)) in
        ap (site_run g (empty_site loads r)) all ∙ sym ((sound-asked g loads s H.sound r f x l).own r l)

    -- a message that is heard stands in the outbox
    heard-stands : (r : ℕ) (f : Frame) (l : r < g.roles) (m : Message) → Member m (node_at s r).site.outbox → Member m (safe_site g loads (act g loads s (Asks r f Heard)) r).outbox
    heard-stands r f l m i =
        let t = act g loads s (Asks r f Heard) in
        let grows : IsPrefix (node_at s r).site.outbox (safe_site g loads t r).outbox =
        subst (λ (u : Site). IsPrefix u.outbox (safe_site g loads t r).outbox) (sym (H.sound.own r l))
        (subst (λ hs. IsPrefix (site_run g (empty_site loads r) (node_at s r).events).outbox (site_run g (empty_site loads r) hs).outbox) (sym (written-events g loads s H.sound r f Heard l tt))
        (more-box g (empty_site loads r) (node_at s r).events (after_frame g (node_at s r) f).events (kept_frame g (node_at s r).site f, refl))) in
        prefix-member m (node_at s r).site.outbox (safe_site g loads t r).outbox grows i

    old-hand : (a : Act) → IsAllowed g s a → (m : Message) → Member m s.hands → (b : ℕ) × (b < g.roles) × Member m (safe_site g loads (act g loads s a) b).outbox
    old-hand a h m i = let (b, l, j) = F.hands m i in (b, l, prefix-member m (safe_site g loads s b).outbox (safe_site g loads (act g loads s a) b).outbox (safe-box a h b l) j)

    hand-after : (a : Act) → IsAllowed g s a → (m : Message) → Member m (act g loads s a).hands → (b : ℕ) × (b < g.roles) × Member m (safe_site g loads (act g loads s a) b).outbox
    hand-after (Asks r f Unwritten) h m i = old-hand (Asks r f Unwritten) h m i
    hand-after (Asks r f Written) h m i = old-hand (Asks r f Written) h m i
    hand-after (Asks r f Heard) h m i = elim (member_split m s.hands (message_in (handle g (node_at s r).site f).response) i) [
      | inl j ↦ old-hand (Asks r f Heard) h m j
      | inr j ↦ (r, h.0, heard-stands r f h.0 m (hands-over g (node_at s r).site f m j))
    ]
    hand-after (Crashes r n) h m i = old-hand (Crashes r n) h m i

    pub fed-act : (a : Act) → IsAllowed g s a → IsFed (act g loads s a)
    fed-act a h = record {
      events = λ b l e i. fits-more s (act g loads s a) (hands-more s a) b e (events-fit a h b l e i);
      hands = hand-after a h;
    }

    -- ---- its world

    abbrev pub world : World
    world = world_after g loads (left g G law loads s H).0

    pub world-reached : served.IsReached g G loads world
    world-reached = record { events = (left g G law loads s H).0; ok = (left g G law loads s H).1.may_come; is = refl }

    pub world-site : (r : ℕ) → site_at world r ≡ (node_at s r).site
    world-site r = ap (λ ss. get (empty_site false r) ss r) (left g G law loads s H).1.sites ∙ map-get (λ (k : Kept). k.site) (new_kept false r) s.kept r

    -- what is in hands was sent there
    pub hand-sent : (m : Message) → Member m s.hands → (k : ℕ) × IsSent world m k
    hand-sent m i =
        let (a, l, j) = F.hands m i in
        let mail = served.reached-mail g G loads world world-reached in
        let out = prefix-member m (safe_site g loads s a).outbox (node_at s a).site.outbox (node-box a l) j in
        member-get world.messages m (mail.boxes a m (subst (λ (t : Site). Member m t.outbox) (sym (world-site a)) out)).0

  pub fed-acts : (s : System) → IsHeld g G law loads s → IsFed s → (as_ : List Act) → AreAllowed g loads s as_ → IsFed (acts_on g loads s as_)
  fed-acts s H F [] h = F
  fed-acts s H F (a ∷ as_) h = fed-acts (act g loads s a) (held-act g G law loads s H a h.0) (fed-act s H F a h.0) as_ h.1

  -- ---- what is a repeat stays one

  -- an event of a role, of which a message was sent
  abbrev Can : World → ℕ → SiteEvent → Type 0
  Can w b (Got m) = (m.to ≡ b) × ((k : ℕ) × IsSent w m k)
  Can w b (Chose c) = (choice_ok g c ≡ true) × (home g (node_of c) ≡ b)

  can-later : (w v : World) → Follows w v → (b : ℕ) (h : SiteEvent) → Can w b h → Can v b h
  can-later w v F b (Got m) (e, (k, s)) = (e, (k, F.sent k m s))
  can-later w v F b (Chose c) p = p

  fits-can : (s : System) (H : IsHeld g G law loads s) (F : IsFed s) (b : ℕ) (h : SiteEvent) → Fits s b h → Can (world s H F) b h
  fits-can s H F b (Got m) (e, i) = (e, hand-sent s H F m i)
  fits-can s H F b (Chose c) p = p

  -- events of one role, on top of a world in which their messages were sent
  replay : (w : World) → served.IsReached g G loads w → (b : ℕ) → b < g.roles → (hs : List SiteEvent)
      → ((h : SiteEvent) → Member h hs → Can w b h)
      → (es : List Move) × Each (MayCome g) es × (site_at (run g w es) b ≡ site_run g (site_at w b) hs)
  replay w R b l [] f = ([], tt, refl)
  replay w R b l (Chose c ∷ hs) f =
      let (ok, at) = f (Chose c) (inl refl) in
      let M = served.reached-mail g G loads w R in
      let size = M.sites in
      let v = (step g w (Chooses c)).world in
      let moved : site_at v b ≡ site_step g (site_at w b) (Chose c) =
      subst (λ b. b < g.roles → site_at v b ≡ site_step g (site_at w b) (Chose c)) at
      (λ l. ap (λ ss. get (empty_site false (home g (node_of c))) ss (home g (node_of c))) (took-sites w (home g (node_of c)) c (choose g (site_at w (home g (node_of c))) c))
      ∙ (get-set (empty_site false (home g (node_of c))) w.sites (home g (node_of c)) _ (omega (arith, size, l))
      ∙ took-step g (site_at w (home g (node_of c))) c (choose g (site_at w (home g (node_of c))) c))) l in
      let F = step-follows g w (Chooses c) in
      let (es, may, e) = replay v (served.reached-run g G loads w R (Chooses c ∷ []) (ok, tt)) b l hs (λ h i. can-later w v F b h (f h (inr i))) in
      (Chooses c ∷ es, (ok, may), e ∙ ap (λ t. site_run g t hs) moved)
  replay w R b l (Got m ∷ hs) f =
      let (at, (k, sent)) = f (Got m) (inl refl) in
      let M = served.reached-mail g G loads w R in
      let size = M.sites in
      let v = (step g w (Delivers k)).world in
      let moved : site_at v b ≡ site_step g (site_at w b) (Got m) =
      subst (λ b. b < g.roles → site_at v b ≡ site_step g (site_at w b) (Got m)) at
      (λ l. ap (λ ss. get (empty_site false m.to) ss m.to) (delivered-sites g w k m (slice_get w.messages k) sent)
      ∙ (get-set (empty_site false m.to) w.sites m.to _ (omega (arith, size, l)) ∙ got-step g (site_at w m.to) (receive g (site_at w m.to) m))) l in
      let F = step-follows g w (Delivers k) in
      let (es, may, e) = replay v (served.reached-run g G loads w R (Delivers k ∷ []) (tt, tt)) b l hs (λ h i. can-later w v F b h (f h (inr i))) in
      (Delivers k ∷ es, (tt, may), e ∙ ap (λ t. site_run g t hs) moved)

  module _ (repeats : Repeats g) where
    -- in a world, a message that is a repeat is one after more events of its addressee
    world-repeat : (w : World) → served.IsReached g G loads w → (k : ℕ) (m : Message) → IsSent w m k → m.to < g.roles → receive g (site_at w m.to) m ≡ Repeat
        → (hs : List SiteEvent) → ((h : SiteEvent) → Member h hs → Can w m.to h) → receive g (site_run g (site_at w m.to) hs) m ≡ Repeat
    world-repeat w R k m sent l known hs f =
        let v = (step g w (Delivers k)).world in
        let V = served.reached-run g G loads w R (Delivers k ∷ []) (tt, tt) in
        let M = served.reached-mail g G loads w R in
        let size = M.sites in
        let same : site_at v m.to ≡ site_at w m.to =
        ap (λ ss. get (empty_site false m.to) ss m.to) (delivered-sites g w k m (slice_get w.messages k) sent)
        ∙ (get-set (empty_site false m.to) w.sites m.to _ (omega (arith, size, l)) ∙ ap (λ (z : Received Reaction). (received (site_at w m.to) z).site) known) in
        let F = step-follows g w (Delivers k) in
        let (es, may, e) = replay v V m.to l hs (λ h i. can-later w v F m.to h (f h i)) in
        let U = served.reached-run g G loads v V es may in
        let D = run-follows g v es in
        let u = run g v es in
        let again : receive g (site_at u m.to) m ≡ Repeat =
        subst (λ x. IsSent x m k → IsDelivered x k → receive g (site_at x m.to) m ≡ Repeat) U.is (λ s d. (repeats loads U.events U.ok k m s).0 d)
        (D.sent k m (F.sent k m sent)) (D.delivered k (delivered-now g G loads w R k m sent)) in
        subst (λ t. receive g t m ≡ Repeat) (e ∙ ap (λ t. site_run g t hs) same) again

    -- in a system, a message in hands that is a repeat for the safe events of its addressee
    pub record IsSettled (s : System) (m : Message) : Type 0 where
      pub role : m.to < g.roles
      pub hand : Member m s.hands
      pub known : receive g (safe_site g loads s m.to) m ≡ Repeat

    module _ (s : System) (H : IsHeld g G law loads s) (F : IsFed s) where
      -- so it is for more of its events
      settled-run : (m : Message) → IsSettled s m → (hs : List SiteEvent) → ((h : SiteEvent) → Member h hs → Fits s m.to h) → receive g (site_run g (safe_site g loads s m.to) hs) m ≡ Repeat
      settled-run m K hs f =
          let b = m.to in
          let a = Crashes b (safe_at s b) in
          let h : IsAllowed g s a = (K.role, omega arith, H.sound.safe b K.role) in
          let t = act g loads s a in
          let T = held-act g G law loads s H a h in
          let E = fed-act s H F a h in
          let here : site_at (world t T E) b ≡ safe_site g loads s b = world-site t T E b ∙ ap (λ (k : Kept). k.site) (crashed-here g loads s H.sound b (safe_at s b) h.0 h.1 h.2) in
          let (k, sent) = hand-sent t T E m K.hand in
          subst (λ u. receive g (site_run g u hs) m ≡ Repeat) here
          (world-repeat (world t T E) (world-reached t T E) k m sent K.role (subst (λ u. receive g u m ≡ Repeat) (sym here) K.known) hs
          (λ e i. fits-can t T E b e (fits-more s t (λ n j. j) b e (f e i))))

      -- at the node
      pub settled-node : (m : Message) → IsSettled s m → receive g (node_at s m.to).site m ≡ Repeat
      settled-node m K =
          let evs = (node_at s m.to).events in
          let n = safe_at s m.to in
          subst (λ u. receive g u m ≡ Repeat)
          (sym (events-append g (empty_site loads m.to) (take n evs) (drop n evs)) ∙ (ap (site_run g (empty_site loads m.to)) (take-append-drop n evs) ∙ sym (H.sound.own m.to K.role)))
          (settled-run m K (drop n evs) (λ h i. F.events m.to K.role h (subst (Member h) (take-append-drop n evs) (member_right h (take n evs) (drop n evs) i))))

      -- after an act
      pub settled-act : (a : Act) → IsAllowed g s a → (m : Message) → IsSettled s m → IsSettled (act g loads s a) m
      settled-act a h m K =
          let t = act g loads s a in
          let (more, e) = act-extends g loads s H.sound a h m.to K.role in record {
            role = K.role;
            hand = hands-more s a m K.hand;
            known = subst (λ u. receive g u m ≡ Repeat) (sym (ap (site_run g (empty_site loads m.to)) e ∙ events-append g (empty_site loads m.to) (safe_events s m.to) more))
                (settled-run m K more (λ i j. events-fit s H F a h m.to K.role i
                (take-member (safe_at t m.to) (node_at t m.to).events i (subst (Member i) (sym e) (member_right i (safe_events s m.to) more j)))));
          }

      -- a push that was answered
      pub pushed-settles : (r : ℕ) (m : Message) (x : Extent) → r < g.roles → Member m s.hands → m.to ≡ r → IsWritten x → IsSettled (act g loads s (Asks r (Push m) x)) m
      pushed-settles r m x l i to w =
          let t = act g loads s (Asks r (Push m) x) in
          let W = world s H F in
          let R = world-reached s H F in
          let (k, sent) = hand-sent s H F m i in
          let M = served.reached-mail g G loads W R in
          let size = M.sites in
          let v = (step g W (Delivers k)).world in
          let V = served.reached-run g G loads W R (Delivers k ∷ []) (tt, tt) in
          let l' : m.to < g.roles = subst (λ a. a < g.roles) (sym to) l in
          let again : receive g (site_at v m.to) m ≡ Repeat =
          subst (λ x. IsSent x m k → IsDelivered x k → receive g (site_at x m.to) m ≡ Repeat) V.is (λ s d. (repeats loads V.events V.ok k m s).0 d)
          ((step-follows g W (Delivers k)).sent k m sent) (delivered-now g G loads W R k m sent) in
          let there : site_at v m.to ≡ (received (node_at s m.to).site (receive g (node_at s m.to).site m)).site =
          ap (λ ss. get (empty_site false m.to) ss m.to) (delivered-sites g W k m (slice_get W.messages k) sent)
          ∙ (get-set (empty_site false m.to) W.sites m.to _ (omega (arith, size, l')) ∙ ap (λ u. (received u (receive g u m)).site) (world-site s H F m.to)) in
          let here : safe_site g loads t r ≡ (received (node_at s r).site (receive g (node_at s r).site m)).site =
          written-site s H F r (Push m) x l w ∙ ap (λ (k : Kept). k.site) (asked-here g loads s H.sound r (Push m) x l) in record {
            role = l';
            hand = hands-more s (Asks r (Push m) x) m i;
            known = subst (λ a. receive g (safe_site g loads t a) m ≡ Repeat) (sym to) (subst (λ u. receive g u m ≡ Repeat) (sym here)
                (subst (λ a. receive g (received (node_at s a).site (receive g (node_at s a).site m)).site m ≡ Repeat) to (subst (λ u. receive g u m ≡ Repeat) there again)));
          }
