-- A turn of a courier that nodes answer over an honest wire, and all turns of a call.
use Rattle.std.specs.Prelude.{slice_get, ◌&&◌, nat_le, nat_lt}
use Rattle.std.proofs.lemmas.List.{append-nil}
use Rattle.std.proofs.Common.{◌≡◌, ℕ, zero, suc, ◌+◌, ◌-◌, ◌<◌, ◌≤◌, Bool, true, false, List, [], ◌∷◌, ◌++◌, map, length, Option, Some, None, refl, sym, ap, ◌∙◌, subst, arith}
use Rattle.aw_list.proofs.Members.{never}
use Rattle.aw_term.specs.Rules.{Grammar, get, upto}
use Rattle.aw_term.specs.WellFormed.{Each}
use Rattle.aw_term.proofs.Eaches.{each_append}
use Rattle.aw_apply.specs.Messages.{Message}
use Rattle.aw_law_sites.specs.Sites.{Site}
use Rattle.aw_law_sites.specs.Worlds.{World, site_at, run}
use Rattle.aw_law_worlds.proofs.Lists.{length-mapped}
use Rattle.aw_law_worlds.proofs.Places.{get-set, member-get}
use Rattle.aw_law_worlds.proofs.Settling.{run_both}
use Rattle.aw_law_nodes.specs.Couriers.{Heard, Pushed, Gave, NoMore, hear, Session, Courier, for_role, turn_room, turn_messages, asks, after_reply}
use Rattle.aw_law_nodes.specs.Couriers.{behind, pulls, pushes, requests, note, noted, after_session, AreReplies, AreTurns, after_all, flat, IsRound}
use Rattle.aw_law_nodes.specs.Couriers.{Visit, asked_at, choice_frames, session_frames, visit_frames, IsPrefix, IsHonestWire, session_of, ChoicesOk}
use Rattle.aw_law_nodes.specs.Couriers.{HasRole}
use Rattle.aw_law_nodes.specs.Nodes.{Frame, Push, Pull, Sends, at_place, Asked, ask, sites_after, all_replies}
use Rattle.aw_law_nodes.proofs.Mail.{Given}
use Rattle.aw_law_nodes.proofs.Served.{IsReached, reached-run, pushed}
use Rattle.aw_law_nodes.proofs.ListParts.{cons-inj}
use Rattle.aw_law_nodes.proofs.Following.{run-follows}
use Rattle.aw_law_nodes.proofs.Runs.{Ran, ran-none, ran-append, pull-sites, pull-ran, ran-on, choices-go, delivered-now}
use Rattle.aw_law_nodes.proofs.Knowing.{first-waits, rest-waits, Knows, knows-on, knows-push, knows-pull}

-- one reply to each frame
length-replies : (g : Grammar) (ss : List Site) (xs : List Asked) → length (all_replies g ss xs) ≡ length xs
length-replies g ss [] = refl
length-replies g ss (x ∷ xs) = ap suc (length-replies g (ask g ss x) xs)

-- a prefix of the same length is the whole
whole-prefix : {A : Type 0} (xs ys zs : List A) → ys ≡ xs ++ zs → length xs ≡ length ys → xs ≡ ys
whole-prefix xs ys [] e l = sym (e ∙ append-nil xs)
whole-prefix xs ys (z ∷ zs) e l = absurd (let p = ap length e in let q = longer xs z zs in omega (arith, p, q, l))
  where
    longer : {A : Type 0} (xs : List A) (z : A) (zs : List A) → length xs < length (xs ++ z ∷ zs)
    longer [] z zs = omega arith
    longer (x ∷ xs) z zs = let i = longer xs z zs in omega (arith, i)

-- a message that is heard is the one at the place
sends-at : (n : ℕ) (o : Option Message) (m : Message) → Gave m ≡ hear (at_place Sends n o) → o ≡ Some m
sends-at n None m e = absurd cc
sends-at n (Some x) m e = ap Some (sent-inj (sym e))
  where
    sent-inj : {x y : Message} → Gave x ≡ Gave y → x ≡ y
    sent-inj e = cc

module _ (g : Grammar) where
  -- the role of a visit is one of the grammar
  pub round-known : (vs : List Visit) (i n : ℕ) → i + n ≤ g.roles → map (λ (s : Session). s.role) (map session_of vs) ≡ upto i n → Each (HasRole g) vs
  round-known [] i n l e = tt
  round-known (v ∷ vs) i zero l e = absurd cc
  round-known (v ∷ vs) i (suc n) l e = let p = (cons-inj e).0 in (omega (arith, p, l), round-known vs (suc i) n (omega arith) (cons-inj e).1)

  pub rounds-known : (rounds : List (List Visit)) → Each (IsRound g) (map (map session_of) rounds) → Each (HasRole g) (flat rounds)
  rounds-known [] e = tt
  rounds-known (vs ∷ rounds) e = each_append (HasRole g) vs (flat rounds) (round-known vs 0 g.roles (omega arith) e.0) (rounds-known rounds e.1)

  module _ (size : Frame → ℕ) where
    -- a turn that was answered
    pub record Turned (w : World) (r : ℕ) (c : Courier) (fs : List Frame) (xs : List Heard) : Type 0 where
      pub ran : Ran g w (map (asked_at r) fs)
      pub knows : Knows g size (run g w ran.events) (noted r fs xs c)

    turned-none : (w : World) (r : ℕ) (c : Courier) → Knows g size w c → (xs : List Heard) → Turned w r c [] xs
    turned-none w r c K xs = record { ran = ran-none g w; knows = K }

    pub no-frames : (fs : List Frame) (xs : List Heard) → fs ≡ [] → AreReplies size g fs xs → xs ≡ []
    no-frames [] [] e a = refl
    no-frames [] (x ∷ xs) e a = never a
    no-frames (f ∷ fs) xs e a = absurd cc

    length-fit : (fs : List Frame) (xs : List Heard) → AreReplies size g fs xs → length xs ≡ length fs
    length-fit [] [] a = refl
    length-fit [] (x ∷ xs) a = never a
    length-fit (f ∷ fs) [] a = never a
    length-fit (f ∷ fs) (x ∷ xs) a = ap suc (length-fit fs xs a.1)

    -- a whole session over an honest wire reads the replies themselves
    pub read-whole : (ss : List Site) (r : ℕ) (fs : List Frame) (xs : List Heard) → AreReplies size g fs xs →
        IsPrefix xs (map hear (all_replies g ss (map (asked_at r) fs))) → xs ≡ map hear (all_replies g ss (map (asked_at r) fs))
    read-whole ss r fs xs a (zs, e) =
        let p = length-fit fs xs a in
        let q = length-replies g ss (map (asked_at r) fs) in
        let s = length-mapped (asked_at r) fs in
        whole-prefix xs (map hear (all_replies g ss (map (asked_at r) fs))) zs e (p ∙ (sym s ∙ (sym q ∙ sym (length-mapped hear (all_replies g ss (map (asked_at r) fs))))))

    pull-end : (w : World) (c : Courier) → Knows g size w c → (r p : ℕ) (b : Bool) → AreReplies size g (asks b (Pull p) []) [] → Turned w r c (asks b (Pull p) []) []
    pull-end w c K r p false a = turned-none w r c K []
    pull-end w c K r p true a = never a

    -- all sessions of a call, and the choices between them
    pub record Went_on (w : World) (c : Courier) (vs : List Visit) : Type 0 where
      pub ran : Ran g w (visit_frames g vs)
      pub knows : Knows g size (run g w ran.events) (after_all c (map session_of vs))

    module _ (G : Given g) (loads : Bool) where
      -- one pull, and the rest of the turn
      pull-on : (w : World) → IsReached g G loads w → (c : Courier) → Knows g size w c → (r p : ℕ) → r < g.roles → p ≡ get 0 c.places r → (b : Bool) (x : Heard) (xs : List Heard) (rest : List Frame)
          → ((d : Courier) → Knows g size w d → suc p ≡ get 0 d.places r → AreReplies size g rest xs → xs ≡ map hear (all_replies g w.sites (map (asked_at r) rest)) → Turned w r d rest xs)
          → AreReplies size g (asks b (Pull p) (after_reply x rest)) (x ∷ xs) →
          x ∷ xs ≡ map hear (all_replies g w.sites (map (asked_at r) (asks b (Pull p) (after_reply x rest)))) →
          Turned w r c (asks b (Pull p) (after_reply x rest)) (x ∷ xs)
      pull-on w R c K r p l e false x xs rest f a h = never a
      pull-on w R c K r p l e true (Gave m) xs rest f a h =
          let n = K.count in
          let d = sends-at (length (site_at w r).outbox) (slice_get (site_at w r).outbox p) m (cons-inj h).0 in
          let t = f (note r (Pull p) (Gave m) c) (knows-pull g size G loads w R c K r p m l e d a.0.0 a.0.1) (sym (get-set 0 c.places r (suc p) (omega (arith, n, l)))) a.1
          ((cons-inj h).1 ∙ ap (λ ss. map hear (all_replies g ss (map (asked_at r) rest))) (pull-sites g w r p)) in
          record { ran = pull-ran g w r p (map (asked_at r) rest) t.ran; knows = t.knows }
      pull-on w R c K r p l e true NoMore xs rest f a h = record { ran = pull-ran g w r p [] (ran-none g w); knows = K }
      pull-on w R c K r p l e true (Pushed k) xs rest f a h = never a.0

      pulls-go : (xs : List Heard) (room left p : ℕ) (w : World) → IsReached g G loads w → (c : Courier) → Knows g size w c → (r : ℕ) → r < g.roles → p ≡ get 0 c.places r
          → AreReplies size g (pulls size room left p xs) xs → xs ≡ map hear (all_replies g w.sites (map (asked_at r) (pulls size room left p xs))) → Turned w r c (pulls size room left p xs) xs
      pulls-go [] room left p w R c K r l e a h = pull-end w c K r p (nat_lt 0 left && nat_le (size (Pull p)) room) a
      pulls-go (x ∷ xs) room left p w R c K r l e a h =
          pull-on w R c K r p l e (nat_lt 0 left && nat_le (size (Pull p)) room) x xs (pulls size (room - size (Pull p)) (left - 1) (suc p) xs)
          (λ d D q. pulls-go xs (room - size (Pull p)) (left - 1) (suc p) w R d D r l q) a h

      -- one push, and the rest of the turn
      push-on : (w : World) → IsReached g G loads w → (c : Courier) → Knows g size w c → (r : ℕ) (m : Message) (ms : List Message) →
          for_role r c.waiting ≡ m ∷ ms → (b : Bool) (xs : List Heard) (rest : List Frame)
          → ((v : World) → IsReached g G loads v → (d : Courier) → Knows g size v d → for_role r d.waiting ≡ ms → d.places ≡ c.places →
          AreReplies size g rest (behind xs) → behind xs ≡ map hear (all_replies g v.sites (map (asked_at r) rest)) → Turned v r d rest (behind xs))
          → AreReplies size g (asks b (Push m) rest) xs → xs ≡ map hear (all_replies g w.sites (map (asked_at r) (asks b (Push m) rest))) → Turned w r c (asks b (Push m) rest) xs
      push-on w R c K r m ms e false xs rest f a h = turned-none w r c K xs
      push-on w R c K r m ms e true [] rest f a h = never a
      push-on w R c K r m ms e true (x ∷ xs) rest f a h =
          let (i, t) = first-waits r c.waiting ms m e in
          let (k, s) = member-get w.messages m (K.waits m i).0 in
          let W = pushed g G loads w r k m s t in
          let V = reached-run g G loads w R W.events W.ok in
          let F = run-follows g w W.events in
          let z = f (run g w W.events) V (note r (Push m) x c) (knows-push g size (run g w W.events) c (knows-on g size w (run g w W.events) F c K) r
          m ms x e (k, F.sent k m s, delivered-now g G loads w R k m s)) (rest-waits r c.waiting ms m e) refl a.1
          ((cons-inj h).1 ∙ ap (λ ss. map hear (all_replies g ss (map (asked_at r) rest))) (sym W.sites)) in
          record {
            ran = ran-on g G loads w r (Push m) W (map (asked_at r) rest) z.ran;
            knows = subst (λ u. Knows g size u (noted r rest xs (note r (Push m) x c))) (sym (run_both g w W.events z.ran.events)) z.knows;
          }

      pushes-go : (ms : List Message) (room p : ℕ) (xs : List Heard) (w : World) → IsReached g G loads w → (c : Courier) → Knows g size w c →
          (r : ℕ) → r < g.roles → for_role r c.waiting ≡ ms → p ≡ get 0 c.places r
          → AreReplies size g (pushes size room ms p xs) xs → xs ≡ map hear (all_replies g w.sites (map (asked_at r) (pushes size room ms p xs))) → Turned w r c (pushes size room ms p xs) xs
      pushes-go [] room p xs w R c K r l q e a h = pulls-go xs room turn_messages p w R c K r l e a h
      pushes-go (m ∷ ms) room p xs w R c K r l q e a h =
          push-on w R c K r m ms q (nat_le (size (Push m)) room) xs (pushes size (room - size (Push m)) ms p (behind xs))
          (λ v V d D z u. pushes-go ms (room - size (Push m)) p (behind xs) v V d D r l z (e ∙ ap (λ ps. get 0 ps r) (sym u))) a h

      pub session-go : (w : World) → IsReached g G loads w → (c : Courier) → Knows g size w c → (s : Session) → s.role < g.roles →
          s.asked ≡ requests size c s.role s.heard → AreReplies size g s.asked s.heard →
          s.heard ≡ map hear (all_replies g w.sites (map (asked_at s.role) s.asked))
          → Turned w s.role c s.asked s.heard
      session-go w R c K s l q a h =
          subst (λ fs. AreReplies size g fs s.heard → s.heard ≡ map hear (all_replies g w.sites (map (asked_at s.role) fs)) → Turned w s.role c fs s.heard) (sym q)
          (λ a h. pushes-go (for_role s.role c.waiting) turn_room (get 0 c.places s.role) s.heard w R c K s.role l refl refl a h) a h

      -- the visits of a call
      pub visits-go : (w : World) → IsReached g G loads w → (c : Courier) → Knows g size w c → (vs : List Visit) →
          AreTurns size g c (map session_of vs) → Each (ChoicesOk g) vs → Each (HasRole g) vs → IsHonestWire g w.sites vs → Went_on w c vs
      visits-go w R c K [] t k l h = record { ran = ran-none g w; knows = K }
      visits-go w R c K (v ∷ vs) t k l h =
          let A = choices-go g G loads w R v k.0 in
          let U = reached-run g G loads w R A.events A.ok in
          let B = session-go (run g w A.events) U c (knows-on g size w (run g w A.events) (run-follows g w A.events) c K) v.session l.0 t.0 t.1
          (subst (λ ss. v.session.heard ≡ map hear (all_replies g ss (session_frames v))) (sym A.sites)
          (read-whole (sites_after g w.sites (choice_frames g v)) v.session.role v.session.asked v.session.heard t.1 h.0)) in
          let X = reached-run g G loads (run g w A.events) U B.ran.events B.ran.ok in
          let C = visits-go (run g (run g w A.events) B.ran.events) X (after_session c v.session) B.knows vs t.2 k.1 l.1
          (subst (λ ss. IsHonestWire g ss vs) (ap (λ ss. sites_after g ss (session_frames v)) (sym A.sites) ∙ sym B.ran.sites) h.1) in
          let D = ran-append g (run g w A.events) (session_frames v) B.ran (visit_frames g vs) C.ran in
          record {
            ran = ran-append g w (choice_frames g v) A (session_frames v ++ visit_frames g vs) D;
            knows = subst (λ z. Knows g size z (after_all (after_session c v.session) (map session_of vs)))
                (sym (run_both g w A.events (B.ran.events ++ C.ran.events) ∙ run_both g (run g w A.events) B.ran.events C.ran.events)) C.knows;
          }
