-- The turns of a courier, exchange by exchange, whatever happens between them; and turns in which nothing moves.
use Rattle.std.specs.Prelude.{◌&&◌, nat_eq, nat_le, nat_lt}
use Rattle.std.proofs.Common.{◌≡◌, ℕ, suc, ◌-◌, ◌<◌, ◌≤◌, Bool, true, false, List, [], ◌∷◌, ◌++◌, map, length, refl, sym, ap, ◌∙◌, subst, inl, arith}
use Rattle.std.proofs.lemmas.Bool.{le-leb}
use Rattle.aw_list.specs.Members.{Member}
use Rattle.aw_list.proofs.Members.{never}
use Rattle.aw_list.proofs.Everyday.{length-slice_set as length-set}
use Rattle.aw_term.specs.Rules.{Grammar, get}
use Rattle.aw_term.specs.Trees.{Never}
use Rattle.aw_term.specs.WellFormed.{Each}
use Rattle.aw_apply.specs.Messages.{Message}
use Rattle.aw_law_worlds.proofs.Lists.{Member-filtered}
use Rattle.aw_law_worlds.proofs.Places.{get-set}
use Rattle.aw_law_nodes.specs.Couriers.{Heard, Pushed, Gave, NoMore, Session, Courier, for_role, turn_room, turn_messages, asks, after_reply, behind}
use Rattle.aw_law_nodes.specs.Couriers.{pulls, pushes, requests, note, noted, after_session, IsReplyTo, AreReplies, AreTurns, moves, round_moves}
use Rattle.aw_law_nodes.specs.Couriers.{after_all}
use Rattle.aw_law_nodes.specs.Nodes.{Frame, Push, Choose, Pull, Listed}
use Rattle.aw_law_nodes.proofs.Knowing.{rest-waits}
use Rattle.aw_law_system.specs.Resting.{Exchange, exchanges, all_exchanges}

-- a pull that was answered by the number of messages
abbrev pub no_more : Courier → ℕ → Exchange
no_more c r = record { role = r; frame = Pull (get 0 c.places r); heard = NoMore }

-- a courier after exchanges
abbrev pub noted_all : Courier → List Exchange → Courier
noted_all c [] = c
noted_all c (e ∷ es) = noted_all (note e.role e.frame e.heard c) es

pub noted-append : (c : Courier) (es fs : List Exchange) → noted_all c (es ++ fs) ≡ noted_all (noted_all c es) fs
noted-append c [] fs = refl
noted-append c (e ∷ es) fs = noted-append (note e.role e.frame e.heard c) es fs

module _ (g : Grammar) (size : Frame → ℕ) where
  -- what a courier may ask next of a role: to push the first message that waits for it, or for its first message that was not pulled
  abbrev pub IsNext : Courier → ℕ → Frame → Type 0
  IsNext c r (Push m) = (ms : List Message) × (for_role r c.waiting ≡ m ∷ ms)
  IsNext c r (Pull p) = p ≡ get 0 c.places r
  IsNext c r (Choose d) = Never
  IsNext c r (Listed k) = Never

  -- each exchange is one, in its turn
  abbrev pub AllNext : Courier → List Exchange → Type 0
  AllNext c [] = Unit {0}
  AllNext c (e ∷ es) = (e.role < g.roles) × IsNext c e.role e.frame × IsReplyTo size g e.frame e.heard × AllNext (note e.role e.frame e.heard c) es

  note-count : (r : ℕ) (f : Frame) (x : Heard) (c : Courier) → length (note r f x c).places ≡ length c.places
  note-count r (Push m) x c = refl
  note-count r (Pull p) (Gave m) c = length-set c.places r (suc p)
  note-count r (Pull p) NoMore c = refl
  note-count r (Pull p) (Pushed k) c = refl
  note-count r (Choose d) x c = refl
  note-count r (Listed k) x c = refl

  -- one pull, and the rest of the turn
  pull-next : (r : ℕ) (l : r < g.roles) (c : Courier) (p : ℕ) → p ≡ get 0 c.places r → r < length c.places → (b : Bool) (x : Heard) (xs : List Heard) (rest : List Frame) (es : List Exchange)
      → ((d : Courier) → suc p ≡ get 0 d.places r → r < length d.places → AreReplies size g rest xs → AllNext (noted r rest xs d) es → AllNext d (exchanges r rest xs ++ es))
      → AreReplies size g (asks b (Pull p) (after_reply x rest)) (x ∷ xs) → AllNext (noted r (asks b (Pull p) (after_reply x rest)) (x ∷ xs) c) es
      → AllNext c (exchanges r (asks b (Pull p) (after_reply x rest)) (x ∷ xs) ++ es)
  pull-next r l c p e n false x xs rest es f a k = never a
  pull-next r l c p e n true (Gave m) xs rest es f a k =
      (l, e, a.0, f (note r (Pull p) (Gave m) c) (sym (get-set 0 c.places r (suc p) n)) (let z = length-set c.places r (suc p) in omega (arith, n, z)) a.1 k)
  pull-next r l c p e n true NoMore [] rest es f a k = (l, e, a.0, k)
  pull-next r l c p e n true NoMore (x ∷ xs) rest es f a k = never a.1
  pull-next r l c p e n true (Pushed k) xs rest es f a q = never a.0

  pulls-next : (r : ℕ) (l : r < g.roles) (xs : List Heard) (room left p : ℕ) (c : Courier) → p ≡ get 0 c.places r → r < length c.places → (es : List Exchange)
      → AreReplies size g (pulls size room left p xs) xs → AllNext (noted r (pulls size room left p xs) xs c) es → AllNext c (exchanges r (pulls size room left p xs) xs ++ es)
  pulls-next r l [] room left p c e n es a k = none (nat_lt 0 left && nat_le (size (Pull p)) room) a k
    where
      none : (b : Bool) → AreReplies size g (asks b (Pull p) []) [] → AllNext (noted r (asks b (Pull p) []) [] c) es → AllNext c (exchanges r (asks b (Pull p) []) [] ++ es)
      none false a k = k
      none true a k = never a
  pulls-next r l (x ∷ xs) room left p c e n es a k =
      pull-next r l c p e n (nat_lt 0 left && nat_le (size (Pull p)) room) x xs (pulls size (room - size (Pull p)) (left - 1) (suc p) xs) es
      (λ d q m b h. pulls-next r l xs (room - size (Pull p)) (left - 1) (suc p) d q m es b h) a k

  -- one push, and the rest of the turn
  push-next : (r : ℕ) (l : r < g.roles) (c : Courier) (m : Message) (ms : List Message) → for_role r c.waiting ≡ m ∷ ms → (b : Bool) (xs : List Heard) (rest : List Frame) (es : List Exchange)
      → ((d : Courier) → for_role r d.waiting ≡ ms → d.places ≡ c.places → AreReplies size g rest (behind xs) → AllNext (noted r rest (behind xs) d)
      es → AllNext d (exchanges r rest (behind xs) ++ es))
      → AreReplies size g (asks b (Push m) rest) xs → AllNext (noted r (asks b (Push m) rest) xs c) es → AllNext c (exchanges r (asks b (Push m) rest) xs ++ es)
  push-next r l c m ms e false xs rest es f a k = k
  push-next r l c m ms e true [] rest es f a k = never a
  push-next r l c m ms e true (x ∷ xs) rest es f a k = (l, (ms, e), a.0, f (note r (Push m) x c) (rest-waits r c.waiting ms m e) refl a.1 k)

  pushes-next : (r : ℕ) (l : r < g.roles) (ms : List Message) (room p : ℕ) (xs : List Heard) (c : Courier) → for_role r c.waiting ≡ ms →
      p ≡ get 0 c.places r → r < length c.places → (es : List Exchange)
      → AreReplies size g (pushes size room ms p xs) xs → AllNext (noted r (pushes size room ms p xs) xs c) es → AllNext c (exchanges r (pushes size room ms p xs) xs ++ es)
  pushes-next r l [] room p xs c w e n es a k = pulls-next r l xs room turn_messages p c e n es a k
  pushes-next r l (m ∷ ms) room p xs c w e n es a k =
      push-next r l c m ms w (nat_le (size (Push m)) room) xs (pushes size (room - size (Push m)) ms p (behind xs)) es
      (λ d q u b h. pushes-next r l ms (room - size (Push m)) p (behind xs) d q (e ∙ ap (λ ps. get 0 ps r) (sym u)) (subst (λ ps. r < length ps) (sym u) n) es b h) a k

  noted-count : (r : ℕ) (fs : List Frame) (xs : List Heard) (c : Courier) → length (noted r fs xs c).places ≡ length c.places
  noted-count r [] xs c = refl
  noted-count r (f ∷ fs) [] c = refl
  noted-count r (f ∷ fs) (x ∷ xs) c = noted-count r fs xs (note r f x c) ∙ note-count r f x c

  -- turns of a call, exchange by exchange
  pub turns-next : (c : Courier) (ss : List Session) → length c.places ≡ g.roles → Each (λ (s : Session). s.role < g.roles) ss → AreTurns size g c ss → AllNext c (all_exchanges ss)
  turns-next c [] n l t = tt
  turns-next c (s ∷ ss) n l t =
      let m = noted-count s.role s.asked s.heard c in
      let here : s.role < g.roles = l.0 in
      let rest = turns-next (after_session c s) ss (m ∙ n) l.1 t.2 in
      subst (λ fs. AreReplies size g fs s.heard → AllNext (noted s.role fs s.heard c) (all_exchanges ss) → AllNext c (exchanges s.role fs s.heard ++ all_exchanges ss)) (sym t.0)
      (pushes-next s.role here (for_role s.role c.waiting) turn_room (get 0 c.places s.role) s.heard c refl refl (omega (arith, n, here)) (all_exchanges ss)) t.1 rest

  -- the courier after them
  noted-exchanges : (r : ℕ) (fs : List Frame) (xs : List Heard) (c : Courier) → noted_all c (exchanges r fs xs) ≡ noted r fs xs c
  noted-exchanges r [] xs c = refl
  noted-exchanges r (f ∷ fs) [] c = refl
  noted-exchanges r (f ∷ fs) (x ∷ xs) c = noted-exchanges r fs xs (note r f x c)

  pub noted-sessions : (c : Courier) (ss : List Session) → noted_all c (all_exchanges ss) ≡ after_all c ss
  noted-sessions c [] = refl
  noted-sessions c (s ∷ ss) =
      noted-append c (exchanges s.role s.asked s.heard) (all_exchanges ss)
      ∙ (ap (λ d. noted_all d (all_exchanges ss)) (noted-exchanges s.role s.asked s.heard c) ∙ noted-sessions (after_session c s) ss)

  -- ---- nothing moves

  still-pull : (r p : ℕ) (b : Bool) (x : Heard) (xs : List Heard) (rest : List Frame) → b ≡ true → AreReplies size g (asks b (Pull p) (after_reply x rest)) (x ∷ xs)
      → moves (asks b (Pull p) (after_reply x rest)) (x ∷ xs) ≡ 0 → (asks b (Pull p) (after_reply x rest) ≡ Pull p ∷ []) × (x ∷ xs ≡ NoMore ∷ [])
  still-pull r p false x xs rest e a m = absurd cc
  still-pull r p true (Gave o) xs rest e a m = absurd (omega (arith, m))
  still-pull r p true NoMore [] rest e a m = (refl, refl)
  still-pull r p true NoMore (x ∷ xs) rest e a m = never a.1
  still-pull r p true (Pushed k) xs rest e a m = never a.0

  no-end : (p : ℕ) (b : Bool) → b ≡ true → AreReplies size g (asks b (Pull p) []) [] → Never
  no-end p true e a = a
  no-end p false e a = absurd cc

  pushes-move : (o : Message) (b : Bool) (xs : List Heard) (rest : List Frame) → b ≡ true → AreReplies size g (asks b (Push o) rest) xs → moves (asks b (Push o) rest) xs ≡ 0 → Never
  pushes-move o false xs rest e a m = absurd cc
  pushes-move o true [] rest e a m = a
  pushes-move o true (x ∷ xs) rest e a m = absurd (omega (arith, m))

  module _ (small : (p : ℕ) → size (Pull p) ≤ turn_room) where
    still-pulls : (r p : ℕ) (xs : List Heard) → AreReplies size g (pulls size turn_room turn_messages p xs) xs → moves (pulls size turn_room turn_messages p xs) xs ≡ 0
        → (pulls size turn_room turn_messages p xs ≡ Pull p ∷ []) × (xs ≡ NoMore ∷ [])
    still-pulls r p [] a m = never (no-end p (nat_lt 0 turn_messages && nat_le (size (Pull p)) turn_room) (le-leb (size (Pull p)) turn_room (small p)) a)
    still-pulls r p (x ∷ xs) a m = still-pull r p (nat_lt 0 turn_messages && nat_le (size (Pull p)) turn_room) x xs
        (pulls size (turn_room - size (Pull p)) (turn_messages - 1) (suc p) xs) (le-leb (size (Pull p)) turn_room (small p)) a m

    still-pushes : (r p : ℕ) (ms : List Message) → ((m : Message) → Member m ms → size (Push m) ≤ turn_room) → (xs : List Heard) →
        AreReplies size g (pushes size turn_room ms p xs) xs → moves (pushes size turn_room ms p xs) xs ≡ 0
        → (ms ≡ []) × (pushes size turn_room ms p xs ≡ Pull p ∷ []) × (xs ≡ NoMore ∷ [])
    still-pushes r p [] f xs a m = let z = still-pulls r p xs a m in (refl, z.0, z.1)
    still-pushes r p (o ∷ ms) f xs a m =
        never (pushes-move o (nat_le (size (Push o)) turn_room) xs (pushes size (turn_room - size (Push o)) ms p (behind xs))
        (le-leb (size (Push o)) turn_room (f o (inl refl))) a m)

    -- a session in which nothing moves
    still-session : (c : Courier) → ((m : Message) → Member m c.waiting → size (Push m) ≤ turn_room) → (s : Session) → s.asked ≡ requests size c
        s.role s.heard → AreReplies size g s.asked s.heard → moves s.asked s.heard ≡ 0
        → (for_role s.role c.waiting ≡ []) × (s.asked ≡ Pull (get 0 c.places s.role) ∷ []) × (s.heard ≡ NoMore ∷ [])
    still-session c f s q a m =
        let z = still-pushes s.role (get 0 c.places s.role) (for_role s.role c.waiting) (λ o i. f o (Member-filtered (λ (m : Message). nat_eq m.to s.role) o c.waiting i).0) s.heard
        (subst (λ fs. AreReplies size g fs s.heard) q a) (subst (λ fs. moves fs s.heard ≡ 0) q m) in
        (z.0, q ∙ z.1, z.2)

    -- and sessions: nothing waits for their roles, and each asks for one message that is not there
    pub still-turns : (c : Courier) → ((m : Message) → Member m c.waiting → size (Push m) ≤ turn_room) → (ss : List Session) → AreTurns size g c ss → round_moves ss ≡ 0
        → Each (λ (s : Session). for_role s.role c.waiting ≡ []) ss × (all_exchanges ss ≡ map (λ (s : Session). no_more c s.role) ss)
    still-turns c f [] t m = (tt, refl)
    still-turns c f (s ∷ ss) t m =
        let z = still-session c f s t.0 t.1 (omega (arith, m)) in
        let same : after_session c s ≡ c = (λ i. noted s.role (z.1 i) (z.2 i) c) in
        let y = still-turns c f ss (subst (λ d. AreTurns size g d ss) same t.2) (omega (arith, m)) in
        ((z.0, y.0), λ i. exchanges s.role (z.1 i) (z.2 i) ++ y.1 i)
