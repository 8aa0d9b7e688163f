-- What a courier pushes at the sites of a world has bytes, and so have the replies that it gets.
use Rattle.std.specs.Prelude.{slice_get, ◌⊎◌, ◌&&◌, nat_eq, nat_le, nat_lt}
use Rattle.std.proofs.Common.{◌≡◌, ℕ, suc, ◌-◌, Bool, true, false, List, [], ◌∷◌, map, length, Option, Some, None, refl, sym, ap, ◌∙◌, subst, inl, inr}
use Rattle.std.proofs.lemmas.Bool.{eqb-true}
use Rattle.aw_list.specs.Members.{Member}
use Rattle.aw_list.proofs.Members.{never, member_got}
use Rattle.aw_term.specs.Choices.{Choice}
use Rattle.aw_term.specs.Rules.{Grammar, get}
use Rattle.aw_term.specs.WellFormed.{Each}
use Rattle.aw_term.proofs.Eaches.{each_append}
use Rattle.aw_codec.specs.Ranges.{ChoiceSized}
use Rattle.aw_apply.specs.Messages.{Message, Received, New, Repeat}
use Rattle.aw_law_sites.specs.Reacting.{receive}
use Rattle.aw_law_sites.specs.SiteEvents.{SiteEvent, Chose, Got}
use Rattle.aw_law_sites.specs.Sites.{Site, Reaction}
use Rattle.aw_law_sites.specs.Worlds.{World, site_at, Move, Chooses, Delivers, step, run}
use Rattle.aw_law_worlds.specs.Laws.{MayCome, world_after}
use Rattle.aw_law_worlds.proofs.Lists.{Member-filtered}
use Rattle.aw_law_worlds.proofs.Places.{member-get}
use Rattle.aw_law_nodes.specs.Couriers.{Heard, Gave, NoMore, Pushed, hear, Session, Courier, new_courier, for_role, turn_room, turn_messages, asks}
use Rattle.aw_law_nodes.specs.Couriers.{after_reply, behind, pulls, pushes, requests, after_session, AreTurns, Visit, choice_frame, asked_at}
use Rattle.aw_law_nodes.specs.Couriers.{choice_frames, session_frames, IsHonestWire, session_of, ChoicesOk, HasRole}
use Rattle.aw_law_nodes.specs.Encodable.{IsEncodable, MessagesAreEncodable, BytesAreHonest, HasBytes, PushHasBytes, PushesHaveBytes, IsHonestInBytes}
use Rattle.aw_law_nodes.specs.Nodes.{Frame, Push, Pull, Sends, received, at_place, sites_after, all_replies, happenings, ReadAs}
use Rattle.aw_law_nodes.specs.Sizes.{MoveSized, ChoicesSized}
use Rattle.aw_law_nodes.proofs.Ending.{IsGot, frames-got}
use Rattle.aw_law_nodes.proofs.Following.{run-follows}
use Rattle.aw_law_nodes.proofs.Knowing.{Knows, knows-start, knows-on}
use Rattle.aw_law_nodes.proofs.Mail.{Given}
use Rattle.aw_law_nodes.proofs.Runs.{choices-go, pull-sites}
use Rattle.aw_law_nodes.proofs.Served.{IsReached, reached-run, reached-mail, pushed}
use Rattle.aw_law_nodes.proofs.Turns.{read-whole, session-go}

-- what happened has its sizes
abbrev IsSizedEvent : SiteEvent → Type 0
IsSizedEvent (Chose c) = ChoiceSized c
IsSizedEvent (Got m) = Unit {0}

read-sized : (g : Grammar) (w : World) (hs : List SiteEvent) → Each IsSizedEvent hs → (es : List Move) → ReadAs g w hs es → Each MoveSized es
read-sized g w [] k [] r = tt
read-sized g w [] k (e ∷ es) r = never r
read-sized g w (Chose c ∷ hs) k [] r = never r
read-sized g w (Got m ∷ hs) k [] r = never r
read-sized g w (Chose c ∷ hs) k (Chooses d ∷ es) r = (subst ChoiceSized r.0 k.0, read-sized g (step g w (Chooses d)).world hs k.1 es r.1)
read-sized g w (Chose c ∷ hs) k (Delivers n ∷ es) r = never r
read-sized g w (Got m ∷ hs) k (Chooses d ∷ es) r = never r
read-sized g w (Got m ∷ hs) k (Delivers n ∷ es) r = (tt, read-sized g (step g w (Delivers n)).world hs k.1 es r.1)

choices-sized : (g : Grammar) (cs : List Choice) → Each ChoiceSized cs → Each IsSizedEvent (happenings (map (choice_frame g) cs))
choices-sized g [] k = tt
choices-sized g (c ∷ cs) k = (k.0, choices-sized g cs k.1)

got-sized : (g : Grammar) (hs : List SiteEvent) → Each (IsGot g) hs → Each IsSizedEvent hs
got-sized g [] k = tt
got-sized g (Got m ∷ hs) k = (tt, got-sized g hs k.1)
got-sized g (Chose c ∷ hs) k = never k.0

-- ---- the requests

asks-bytes : (g : Grammar) (b : Bool) (f : Frame) (fs : List Frame) → PushHasBytes g f → Each (PushHasBytes g) fs → Each (PushHasBytes g) (asks b f fs)
asks-bytes g true f fs a k = (a, k)
asks-bytes g false f fs a k = tt

after-bytes : (g : Grammar) (x : Heard) (fs : List Frame) → Each (PushHasBytes g) fs → Each (PushHasBytes g) (after_reply x fs)
after-bytes g (Gave m) fs k = k
after-bytes g NoMore fs k = tt
after-bytes g (Pushed n) fs k = tt

pulls-asked : (g : Grammar) (size : Frame → ℕ) (xs : List Heard) (room left p : ℕ) → Each (PushHasBytes g) (pulls size room left p xs)
pulls-asked g size [] room left p = asks-bytes g (nat_lt 0 left && nat_le (size (Pull p)) room) (Pull p) [] tt tt
pulls-asked g size (x ∷ xs) room left p =
    let fs = pulls size (room - size (Pull p)) (left - 1) (suc p) xs in
    asks-bytes g (nat_lt 0 left && nat_le (size (Pull p)) room) (Pull p) (after_reply x fs) tt (after-bytes g x fs (pulls-asked g size xs (room - size (Pull p)) (left - 1) (suc p)))

pushes-asked : (g : Grammar) (size : Frame → ℕ) (ms : List Message) (room p : ℕ) (xs : List Heard) → ((m : Message) → Member m ms → IsEncodable g m) → Each (PushHasBytes g) (pushes size room ms p xs)
pushes-asked g size [] room p xs f = pulls-asked g size xs room turn_messages p
pushes-asked g size (m ∷ ms) room p xs f =
    asks-bytes g (nat_le (size (Push m)) room) (Push m) (pushes size (room - size (Push m)) ms p (behind xs)) (f m (inl refl))
    (pushes-asked g size ms (room - size (Push m)) p (behind xs) (λ n i. f n (inr i)))

-- ---- the replies

push-bytes : (g : Grammar) (s : Site) (z : Received Reaction) → (z ≡ Repeat) ⊎ ((y : Reaction) × (z ≡ New y)) → HasBytes g (received s z).response
push-bytes g s z (inl e) = subst (λ z. HasBytes g (received s z).response) (sym e) tt
push-bytes g s z (inr (y, e)) = subst (λ z. HasBytes g (received s z).response) (sym e) tt

place-bytes : (g : Grammar) (n : ℕ) (o : Option Message) → ((m : Message) → o ≡ Some m → HasBytes g (Sends m)) → HasBytes g (at_place Sends n o)
place-bytes g n None f = tt
place-bytes g n (Some m) f = f m refl

module _ (g : Grammar) (G : Given g) (loads : Bool) (law : (es : List Move) → Each (MayCome g) es → Each MoveSized es → (m : Message) →
    Member m (world_after g loads es).messages → HasBytes g (Sends m)) where
  -- a world that such events lead to
  record IsSized (w : World) : Type 0 where
    reached : IsReached g G loads w
    sizes : Each MoveSized reached.events

  sized-run : (w : World) → IsSized w → (es : List Move) → Each (MayCome g) es → Each MoveSized es → IsSized (run g w es)
  unfolding reached-run
  sized-run w R es k s = record { reached = reached-run g G loads w R.reached es k; sizes = each_append MoveSized R.reached.events es R.sizes s }

  sent-bytes : (w : World) → IsSized w → (m : Message) → Member m w.messages → HasBytes g (Sends m)
  sent-bytes w R = subst (λ (w : World). (m : Message) → Member m w.messages → HasBytes g (Sends m)) R.reached.is (law R.reached.events R.reached.ok R.sizes)

  module _ (size : Frame → ℕ) where
    -- one pull, and the rest of the turn
    pull-bytes : (w : World) → IsSized w → (r p : ℕ) (rest : List Frame) → Each (HasBytes g) (all_replies g w.sites (map (asked_at r) rest)) →
        Each (HasBytes g) (all_replies g w.sites (map (asked_at r) (Pull p ∷ rest)))
    pull-bytes w R r p rest k =
        let M = reached-mail g G loads w R.reached in (
          place-bytes g (length (site_at w r).outbox) (slice_get (site_at w r).outbox p) (λ m e. sent-bytes w R m (M.boxes r m (member_got (site_at w r).outbox p m e)).0),
          subst (λ ss. Each (HasBytes g) (all_replies g ss (map (asked_at r) rest))) (sym (pull-sites g w r p)) k,
        )

    pulls-bytes : (xs : List Heard) (room left p : ℕ) (w : World) → IsSized w → (r : ℕ) → Each (HasBytes g) (all_replies g w.sites (map (asked_at r) (pulls size room left p xs)))
    pulls-bytes [] room left p w R r = go (nat_lt 0 left && nat_le (size (Pull p)) room)
      where
        go : (b : Bool) → Each (HasBytes g) (all_replies g w.sites (map (asked_at r) (asks b (Pull p) [])))
        go true = pull-bytes w R r p [] tt
        go false = tt
    pulls-bytes (x ∷ xs) room left p w R r = go (nat_lt 0 left && nat_le (size (Pull p)) room) x (pulls-bytes xs (room - size (Pull p)) (left - 1) (suc p) w R r)
      where
        go : (b : Bool) (x : Heard) → Each (HasBytes g) (all_replies g w.sites (map (asked_at r) (pulls size (room - size (Pull p)) (left - 1) (suc p) xs)))
            → Each (HasBytes g) (all_replies g w.sites (map (asked_at r) (asks b (Pull p) (after_reply x (pulls size (room - size (Pull p)) (left - 1) (suc p) xs)))))
        go false x k = tt
        go true (Gave m) k = pull-bytes w R r p (pulls size (room - size (Pull p)) (left - 1) (suc p) xs) k
        go true NoMore k = pull-bytes w R r p [] tt
        go true (Pushed n) k = pull-bytes w R r p [] tt

    push-first : (w : World) → IsSized w → (r : ℕ) (m : Message) → Member m w.messages → m.to ≡ r → HasBytes g (received (site_at w r) (receive g (site_at w r) m)).response
    push-first w R r m i t =
        let M = reached-mail g G loads w R.reached in
        let (k, e) = member-get w.messages m i in
        subst (λ r. HasBytes g (received (site_at w r) (receive g (site_at w r) m)).response) t (push-bytes g (site_at w m.to) (receive g (site_at w m.to) m) (M.known k m e))

    -- one push, and the rest of the turn
    push-later : (w : World) → IsSized w → (r : ℕ) (m : Message) → Member m w.messages → m.to ≡ r → (rest : List Frame)
        → ((v : World) → IsSized v → ((n : Message) → Member n w.messages → Member n v.messages) → Each (HasBytes g) (all_replies g v.sites (map (asked_at r) rest)))
        → Each (HasBytes g) (all_replies g w.sites (map (asked_at r) (Push m ∷ rest)))
    push-later w R r m i t rest f =
        let (k, e) = member-get w.messages m i in
        let W = pushed g G loads w r k m e t in
        let F = run-follows g w W.events in (
          push-first w R r m i t,
          subst (λ ss. Each (HasBytes g) (all_replies g ss (map (asked_at r) rest))) W.sites
              (f (run g w W.events) (sized-run w R W.events W.ok (tt, tt)) (λ n j. let (q, d) = member-get w.messages n j in member_got (run g w W.events).messages q n (F.sent q n d))),
        )

    pushes-bytes : (ms : List Message) (room p : ℕ) (xs : List Heard) (w : World) → IsSized w → (r : ℕ) → ((m : Message) → Member m ms → Member m w.messages × (m.to ≡ r))
        → Each (HasBytes g) (all_replies g w.sites (map (asked_at r) (pushes size room ms p xs)))
    pushes-bytes [] room p xs w R r f = pulls-bytes xs room turn_messages p w R r
    pushes-bytes (m ∷ ms) room p xs w R r f =
        go (nat_le (size (Push m)) room)
        (push-later w R r m (f m (inl refl)).0 (f m (inl refl)).1 (pushes size (room - size (Push m)) ms p (behind xs))
        (λ v V h. pushes-bytes ms (room - size (Push m)) p (behind xs) v V r (λ n i. let z = f n (inr i) in (h n z.0, z.1))))
      where
        go : (b : Bool) → Each (HasBytes g) (all_replies g w.sites (map (asked_at r) (Push m ∷ pushes size (room - size (Push m)) ms p (behind xs))))
            → Each (HasBytes g) (all_replies g w.sites (map (asked_at r) (asks b (Push m) (pushes size (room - size (Push m)) ms p (behind xs)))))
        go true k = k
        go false k = tt

    session-bytes : (w : World) → IsSized w → (c : Courier) → Knows g size w c → (s : Session) → s.asked ≡ requests size c s.role s.heard →
        Each (HasBytes g) (all_replies g w.sites (map (asked_at s.role) s.asked))
    session-bytes w R c K s q =
        subst (λ fs. Each (HasBytes g) (all_replies g w.sites (map (asked_at s.role) fs))) (sym q)
        (pushes-bytes (for_role s.role c.waiting) turn_room (get 0 c.places s.role) s.heard w R s.role
        (λ m i. let z = Member-filtered (λ (m : Message). nat_eq m.to s.role) m c.waiting i in ((K.waits m z.0).0, eqb-true m.to s.role z.1)))

    asked-bytes : (w : World) → IsSized w → (c : Courier) → Knows g size w c → (s : Session) → s.asked ≡ requests size c s.role s.heard → Each (PushHasBytes g) s.asked
    asked-bytes w R c K s q =
        subst (λ fs. Each (PushHasBytes g) fs) (sym q)
        (pushes-asked g size (for_role s.role c.waiting) turn_room (get 0 c.places s.role) s.heard
        (λ m i. sent-bytes w R m (K.waits m (Member-filtered (λ (m : Message). nat_eq m.to s.role) m c.waiting i).0).0))

    honest-go : (w : World) → IsSized w → (c : Courier) → Knows g size w c → (vs : List Visit) → AreTurns size g c (map session_of vs) →
        Each (HasRole g) vs → Each (ChoicesOk g) vs → Each ChoicesSized vs
        → IsHonestInBytes g w.sites vs → IsHonestWire g w.sites vs × Each (PushesHaveBytes g) vs
    honest-go w R c K [] t l k s h = (tt, tt)
    honest-go w R c K (v ∷ vs) t l k s h =
        let A = choices-go g G loads w R.reached v k.0 in
        let As = read-sized g w (happenings (choice_frames g v)) (choices-sized g v.choices s.0) A.events A.read in
        let U = sized-run w R A.events A.ok As in
        let L = knows-on g size w (run g w A.events) (run-follows g w A.events) c K in
        let bytes = subst (λ ss. Each (HasBytes g) (all_replies g ss (session_frames v))) A.sites (session-bytes (run g w A.events) U c L v.session t.0) in
        let asked = asked-bytes (run g w A.events) U c L v.session t.0 in
        let heard = h asked bytes in
        let B = session-go g size G loads (run g w A.events) U.reached c L v.session l.0 t.0 t.1
        (subst (λ ss. v.session.heard ≡ map hear (all_replies g ss (session_frames v))) (sym A.sites)
        (read-whole g size (sites_after g w.sites (choice_frames g v)) v.session.role v.session.asked v.session.heard t.1 heard.0)) in
        let Bs = read-sized g (run g w A.events) (happenings (session_frames v)) (got-sized g (happenings (session_frames v))
        (frames-got g size v.session.role v.session.asked v.session.heard t.1)) B.ran.events B.ran.read in
        let X = sized-run (run g w A.events) U B.ran.events B.ran.ok Bs in
        let same : sites_after g (sites_after g w.sites (choice_frames g v)) (session_frames v) ≡ (run g (run g w A.events) B.ran.events).sites =
        ap (λ ss. sites_after g ss (session_frames v)) (sym A.sites) ∙ sym B.ran.sites in
        let others = honest-go (run g (run g w A.events) B.ran.events) X (after_session c v.session) B.knows vs t.2 l.1 k.1 s.1 (subst (λ ss. IsHonestInBytes g ss vs) same heard.1) in
        ((heard.0, subst (λ ss. IsHonestWire g ss vs) (sym same) others.0), (asked, others.1))

-- what was heard of replies that have bytes is what they are
pub bytes_are_honest : (g : Grammar) → Given g → MessagesAreEncodable g → BytesAreHonest g
bytes_are_honest g G law sized size loads es k s vs t l c cs h =
    honest-go g G loads (law sized loads) size (world_after g loads es) (record { reached = record { events = es; ok = k; is = refl }; sizes = s })
    (new_courier g) (knows-start g size (world_after g loads es)) vs t l c cs h
