-- A turn and a round in which nothing moves leave the courier and the sites as they are.
use Rattle.std.specs.Prelude.{slice_get, ◌&&◌, nat_eq, nat_le, nat_lt}
use Rattle.std.proofs.Common.{◌≡◌, ℕ, suc, ◌-◌, ◌≤◌, Bool, true, false, List, [], ◌∷◌, ◌++◌, map, length, Option, Some, None, refl, ap, ◌∙◌, subst, inl, arith}
use Rattle.std.proofs.lemmas.Bool.{le-leb}
use Rattle.aw_list.specs.Members.{Member}
use Rattle.aw_list.proofs.Members.{never}
use Rattle.aw_term.specs.Rules.{Grammar, get}
use Rattle.aw_term.specs.Trees.{Never}
use Rattle.aw_term.specs.WellFormed.{Each}
use Rattle.aw_apply.specs.Messages.{Message}
use Rattle.aw_law_sites.specs.Worlds.{World, site_at}
use Rattle.aw_law_worlds.proofs.Lists.{Member-filtered}
use Rattle.aw_law_worlds.proofs.Counting.{none_past}
use Rattle.aw_law_nodes.specs.Couriers.{Heard, Pushed, Gave, NoMore, hear, Session, Courier, for_role, turn_room, turn_messages, asks, after_reply}
use Rattle.aw_law_nodes.specs.Couriers.{behind, pulls, pushes, requests, noted, after_session, AreReplies, AreTurns, moves, round_moves, Visit}
use Rattle.aw_law_nodes.specs.Couriers.{choice_frame, asked_at, choice_frames, session_frames, visit_frames, IsHonestWire, session_of, NoChoice}
use Rattle.aw_law_nodes.specs.Nodes.{Frame, Push, Pull, Sends, at_place, sites_after, all_replies, happenings}
use Rattle.aw_law_nodes.proofs.ListParts.{cons-inj}
use Rattle.aw_law_nodes.proofs.Runs.{sites-append, happenings-append, pull-sites}
use Rattle.aw_law_nodes.proofs.Knowing.{Knows}
use Rattle.aw_law_nodes.proofs.Turns.{no-frames, read-whole}

-- a turn without a move: nothing waits for its role, and its outbox is pulled
abbrev pub IsStill : World → Courier → ℕ → Type 0
IsStill w c r = (for_role r c.waiting ≡ []) × (length (site_at w r).outbox ≤ get 0 c.places r)

-- the turn asks only for one more message, and none comes
abbrev Nothing_done : World → ℕ → ℕ → List Message → List Frame → List Heard → Type 0
Nothing_done w r p ms fs xs = (ms ≡ []) × (length (site_at w r).outbox ≤ p) × (fs ≡ Pull p ∷ []) × (xs ≡ NoMore ∷ [])

ended-at : (n : ℕ) (o : Option Message) → NoMore ≡ hear (at_place Sends n o) → o ≡ None
ended-at n None e = refl
ended-at n (Some x) e = absurd cc

module _ (g : Grammar) where
  -- a still session leaves the courier and the sites as they are
  record Rests (w : World) (c : Courier) (s : Session) : Type 0 where
    still : IsStill w c s.role
    same : after_session c s ≡ c
    silent : happenings (map (asked_at s.role) s.asked) ≡ []
    sites : sites_after g w.sites (map (asked_at s.role) s.asked) ≡ w.sites

  -- a still round
  pub record AllRest (w : World) (c : Courier) (vs : List Visit) : Type 0 where
    pub still : Each (λ (v : Visit). IsStill w c v.session.role) vs
    pub silent : happenings (visit_frames g vs) ≡ []
    pub sites : sites_after g w.sites (visit_frames g vs) ≡ w.sites

  module _ (size : Frame → ℕ) where
    still-pull : (w : World) (r p : ℕ) (b : Bool) (x : Heard) (xs : List Heard) (rest : List Frame) → b ≡ true → AreReplies size g (asks b (Pull p) (after_reply x rest)) (x ∷ xs)
        → x ∷ xs ≡ map hear (all_replies g w.sites (map (asked_at r) (asks b (Pull p) (after_reply x rest)))) →
        moves (asks b (Pull p) (after_reply x rest)) (x ∷ xs) ≡ 0 → Nothing_done w r p [] (asks b (Pull p) (after_reply x rest)) (x ∷ xs)
    still-pull w r p false x xs rest e a h m = absurd cc
    still-pull w r p true (Gave o) xs rest e a h m = absurd (omega (arith, m))
    still-pull w r p true NoMore xs rest e a h m = (
      refl,
      none_past (site_at w r).outbox p (ended-at (length (site_at w r).outbox) (slice_get (site_at w r).outbox p) (cons-inj h).0),
      refl,
      ap (λ xs. NoMore ∷ xs) (no-frames g size [] xs refl a.1),
    )
    still-pull w r p true (Pushed k) xs rest e a h m = never a.0

    no-end : (p : ℕ) (b : Bool) → b ≡ true → AreReplies size g (asks b (Pull p) []) [] → Never
    no-end p true e a = a
    no-end p false e a = absurd cc

    pushes-move : (o : Message) (b : Bool) (xs : List Heard) (rest : List Frame) → b ≡ true → AreReplies size g (asks b (Push o) rest) xs → moves (asks b (Push o) rest) xs ≡ 0 → Never
    pushes-move o false xs rest e a m = absurd cc
    pushes-move o true [] rest e a m = a
    pushes-move o true (x ∷ xs) rest e a m = absurd (omega (arith, m))

    module _ (small : (p : ℕ) → size (Pull p) ≤ turn_room) where
      has-room : (p : ℕ) → (nat_lt 0 turn_messages && nat_le (size (Pull p)) turn_room) ≡ true
      has-room p = le-leb (size (Pull p)) turn_room (small p)

      still-pulls : (w : World) (r p : ℕ) (xs : List Heard) → AreReplies size g (pulls size turn_room turn_messages p xs) xs
          → xs ≡ map hear (all_replies g w.sites (map (asked_at r) (pulls size turn_room turn_messages p xs))) →
          moves (pulls size turn_room turn_messages p xs) xs ≡ 0 → Nothing_done w r p [] (pulls size turn_room turn_messages p xs) xs
      still-pulls w r p [] a h m = never (no-end p (nat_lt 0 turn_messages && nat_le (size (Pull p)) turn_room) (has-room p) a)
      still-pulls w r p (x ∷ xs) a h m = still-pull w r p (nat_lt 0 turn_messages && nat_le (size (Pull p)) turn_room) x xs
          (pulls size (turn_room - size (Pull p)) (turn_messages - 1) (suc p) xs) (has-room p) a h m

      still-pushes : (w : World) (r p : ℕ) (ms : List Message) → ((m : Message) → Member m ms → size (Push m) ≤ turn_room) → (xs : List Heard) → AreReplies size g (pushes size turn_room ms p xs) xs
          → xs ≡ map hear (all_replies g w.sites (map (asked_at r) (pushes size turn_room ms p xs))) → moves (pushes size turn_room ms p xs) xs ≡ 0 →
          Nothing_done w r p ms (pushes size turn_room ms p xs) xs
      still-pushes w r p [] f xs a h m = still-pulls w r p xs a h m
      still-pushes w r p (o ∷ ms) f xs a h m =
          never (pushes-move o (nat_le (size (Push o)) turn_room) xs (pushes size (turn_room - size (Push o)) ms p (behind xs))
          (le-leb (size (Push o)) turn_room (f o (inl refl))) a m)

      session-rests : (w : World) (c : Courier) → Knows g size w c → (s : Session) → s.asked ≡ requests size c s.role s.heard →
          AreReplies size g s.asked s.heard → s.heard ≡ map hear (all_replies g w.sites (map (asked_at s.role) s.asked)) →
          moves s.asked s.heard ≡ 0 → Rests w c s
      session-rests w c K s q a h m =
          let z = still-pushes w s.role (get 0 c.places s.role) (for_role s.role c.waiting) (λ o i. (K.waits o (of-role s.role c.waiting o i)).2) s.heard
          (subst (λ fs. AreReplies size g fs s.heard) q a) (subst (λ fs. s.heard ≡ map hear (all_replies g w.sites (map (asked_at s.role) fs))) q h) (subst (λ fs. moves fs s.heard ≡ 0) q m) in
          let fs : s.asked ≡ Pull (get 0 c.places s.role) ∷ [] = q ∙ z.2 in
          record {
            still = (z.0, z.1);
            same = (λ i. noted s.role (fs i) (z.3 i) c);
            silent = ap (λ fs. happenings (map (asked_at s.role) fs)) fs;
            sites = ap (λ fs. sites_after g w.sites (map (asked_at s.role) fs)) fs ∙ pull-sites g w s.role (get 0 c.places s.role);
          }
        where
          of-role : (r : ℕ) (ws : List Message) (o : Message) → Member o (for_role r ws) → Member o ws
          of-role r ws o i = (Member-filtered (λ (m : Message). nat_eq m.to r) o ws i).0

      pub round-rests : (w : World) (c : Courier) → Knows g size w c → (vs : List Visit) → AreTurns size g c (map session_of vs) → Each NoChoice vs →
          IsHonestWire g w.sites vs → round_moves (map session_of vs) ≡ 0 → AllRest w c vs
      round-rests w c K [] t n h m = record { still = tt; silent = refl; sites = refl }
      round-rests w c K (v ∷ vs) t n h m =
          let no : choice_frames g v ≡ [] = ap (map (choice_frame g)) n.0 in
          let here = ap (λ as_. sites_after g w.sites as_) no in
          let S = session-rests w c K v.session t.0 t.1
          (subst (λ ss. v.session.heard ≡ map hear (all_replies g ss (session_frames v))) here
          (read-whole g size (sites_after g w.sites (choice_frames g v)) v.session.role v.session.asked v.session.heard t.1 h.0)) (omega (arith, m)) in
          let T = round-rests w c K vs (subst (λ c. AreTurns size g c (map session_of vs)) S.same t.2) n.1
          (subst (λ ss. IsHonestWire g ss vs) (ap (λ ss. sites_after g ss (session_frames v)) here ∙ S.sites) h.1) (omega (arith, m)) in
          record {
            still = (S.still, T.still);
            silent = ap (λ as_. happenings (as_ ++ (session_frames v ++ visit_frames g vs))) no ∙ (happenings-append (session_frames v) (visit_frames g vs) ∙ (λ i. S.silent i ++ T.silent i));
            sites = ap (λ as_. sites_after g w.sites (as_ ++ (session_frames v ++ visit_frames g vs))) no
                ∙ (sites-append g w.sites (session_frames v) (visit_frames g vs) ∙ (ap (λ ss. sites_after g ss (visit_frames g vs)) S.sites ∙ T.sites));
          }
