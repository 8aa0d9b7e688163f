-- What a courier moved: each message that it pulled is a move, and its push is another one.
use Rattle.std.specs.Prelude.{slice_set, ◌&&◌, nat_eq, nat_le, nat_lt}
use Rattle.std.proofs.Common.{◌≡◌, ℕ, zero, suc, ◌+◌, ◌-◌, ◌*◌, ◌<◌, ◌≤◌, Bool, true, false, cond, List, [], ◌∷◌, ◌++◌, length, refl, sym, ap, ◌∙◌, subst, arith, length-append}
use Rattle.aw_list.proofs.Members.{never}
use Rattle.aw_list.proofs.Everyday.{length-slice_set as length-set}
use Rattle.aw_term.specs.Rules.{Grammar, get}
use Rattle.aw_term.specs.WellFormed.{Each}
use Rattle.aw_apply.specs.Messages.{Message}
use Rattle.aw_law_worlds.proofs.Places.{get-set}
use Rattle.aw_law_nodes.specs.Couriers.{Heard, Pushed, Gave, NoMore, Session, Courier, for_role, without, turn_room, turn_messages, asks, after_reply}
use Rattle.aw_law_nodes.specs.Couriers.{behind, pulls, pushes, requests, note, noted, after_session, AreReplies, AreTurns, after_all, moves}
use Rattle.aw_law_nodes.specs.Couriers.{round_moves, flat}
use Rattle.aw_law_nodes.specs.Nodes.{Frame, Push, Pull}
use Rattle.aw_law_nodes.proofs.Knowing.{rest-waits}

-- these numbers together
abbrev pub total : List ℕ → ℕ
total [] = 0
total (n ∷ ns) = n + total ns

total-set : (ns : List ℕ) (i v : ℕ) → i < length ns → total (slice_set ns i v) + get 0 ns i ≡ total ns + v
total-set [] i v l = absurd (omega arith)
total-set (n ∷ ns) zero v l = omega arith
total-set (n ∷ ns) (suc i) v l = let t = total-set ns i v (omega arith) in omega (arith, t)

-- one message fewer waits
one-fewer : (r : ℕ) (ws ms : List Message) (m : Message) → for_role r ws ≡ m ∷ ms → suc (length (without r ws)) ≡ length ws
one-fewer r [] ms m e = absurd cc
one-fewer r (w ∷ ws) ms m e = go (nat_eq w.to r) e (one-fewer r ws ms m)
  where
    go : (b : Bool) → cond b (w ∷ for_role r ws) (for_role r ws) ≡ m ∷ ms → (for_role r ws ≡ m ∷ ms → suc (length (without r ws)) ≡ length ws) →
        suc (length (cond b ws (w ∷ without r ws))) ≡ suc (length ws)
    go true e f = refl
    go false e f = ap suc (f e)

-- From one courier to another so many moves were made: twice what was pulled, but for what waits.
pub record Balance (n : ℕ) (c d : Courier) : Type 0 where
  pub places : length d.places ≡ length c.places
  pub moved : n + length d.waiting + 2 * total c.places ≡ length c.waiting + 2 * total d.places

balance-none : (c : Courier) → Balance 0 c c
balance-none c = record { places = refl; moved = omega arith }

module _ (g : Grammar) (size : Frame → ℕ) where
  pull-none : (r p : ℕ) (c : Courier) (b : Bool) → AreReplies size g (asks b (Pull p) []) [] → Balance (moves (asks b (Pull p) []) []) c (noted r (asks b (Pull p) []) [] c)
  pull-none r p c false a = balance-none c
  pull-none r p c true a = never a

  pull-one : (r p : ℕ) (c : Courier) → r < length c.places → p ≡ get 0 c.places r → (b : Bool) (x : Heard) (xs : List Heard) (rest : List Frame)
      → ((d : Courier) → r < length d.places → suc p ≡ get 0 d.places r → AreReplies size g rest xs → Balance (moves rest xs) d (noted r rest xs d))
      → AreReplies size g (asks b (Pull p) (after_reply x rest)) (x ∷ xs) → Balance (moves (asks b (Pull p) (after_reply x rest)) (x ∷ xs)) c
      (noted r (asks b (Pull p) (after_reply x rest)) (x ∷ xs) c)
  pull-one r p c l e false x xs rest f a = never a
  pull-one r p c l e true (Gave m) xs rest f a =
      let n = length-set c.places r (suc p) in
      let t = total-set c.places r (suc p) l in
      let w = length-append c.waiting (m ∷ []) in
      let z = f (note r (Pull p) (Gave m) c) (omega (arith, n, l)) (sym (get-set 0 c.places r (suc p) l)) a.1 in
      let q = z.moved in
      record { places = z.places ∙ n; moved = omega (arith, q, t, e, w) }
  pull-one r p c l e true NoMore xs rest f a = balance-none c
  pull-one r p c l e true (Pushed k) xs rest f a = never a.0

  pulls-balance : (xs : List Heard) (room left r p : ℕ) (c : Courier) → r < length c.places → p ≡ get 0 c.places r → AreReplies size g (pulls size room left p xs) xs
      → Balance (moves (pulls size room left p xs) xs) c (noted r (pulls size room left p xs) xs c)
  pulls-balance [] room left r p c l e a = pull-none r p c (nat_lt 0 left && nat_le (size (Pull p)) room) a
  pulls-balance (x ∷ xs) room left r p c l e a =
      pull-one r p c l e (nat_lt 0 left && nat_le (size (Pull p)) room) x xs (pulls size (room - size (Pull p)) (left - 1) (suc p) xs)
      (λ d k q. pulls-balance xs (room - size (Pull p)) (left - 1) r (suc p) d k q) a

  push-one : (r : ℕ) (m : Message) (ms : List Message) (c : Courier) → for_role r c.waiting ≡ m ∷ ms → (b : Bool) (xs : List Heard) (rest : List Frame)
      → ((d : Courier) → for_role r d.waiting ≡ ms → d.places ≡ c.places → AreReplies size g rest (behind xs) → Balance (moves rest (behind xs)) d (noted r rest (behind xs) d))
      → AreReplies size g (asks b (Push m) rest) xs → Balance (moves (asks b (Push m) rest) xs) c (noted r (asks b (Push m) rest) xs c)
  push-one r m ms c e false xs rest f a = balance-none c
  push-one r m ms c e true [] rest f a = never a
  push-one r m ms c e true (x ∷ xs) rest f a =
      let w = one-fewer r c.waiting ms m e in
      let z = f (note r (Push m) x c) (rest-waits r c.waiting ms m e) refl a.1 in
      let q = z.moved in
      record { places = z.places; moved = omega (arith, q, w) }

  pushes-balance : (ms : List Message) (room r p : ℕ) (xs : List Heard) (c : Courier) → for_role r c.waiting ≡ ms → r < length c.places →
      p ≡ get 0 c.places r → AreReplies size g (pushes size room ms p xs) xs
      → Balance (moves (pushes size room ms p xs) xs) c (noted r (pushes size room ms p xs) xs c)
  pushes-balance [] room r p xs c q l e a = pulls-balance xs room turn_messages r p c l e a
  pushes-balance (m ∷ ms) room r p xs c q l e a =
      push-one r m ms c q (nat_le (size (Push m)) room) xs (pushes size (room - size (Push m)) ms p (behind xs))
      (λ d z u b. pushes-balance ms (room - size (Push m)) r p (behind xs) d z (subst (λ (ps : List ℕ). r < length ps) (sym u) l) (e ∙ ap (λ (ps : List ℕ). get 0 ps r) (sym u)) b) a

  session-balance : (c : Courier) (s : Session) → s.role < length c.places → s.asked ≡ requests size c s.role s.heard → AreReplies size g s.asked
      s.heard → Balance (moves s.asked s.heard) c (after_session c s)
  session-balance c s l q a =
      subst (λ fs. AreReplies size g fs s.heard → Balance (moves fs s.heard) c (noted s.role fs s.heard c)) (sym q)
      (λ a. pushes-balance (for_role s.role c.waiting) turn_room s.role (get 0 c.places s.role) s.heard c refl l refl a) a

  -- whole turns
  pub turns-balance : (c : Courier) (ss : List Session) → Each (λ (s : Session). s.role < length c.places) ss → AreTurns size g c ss → Balance (round_moves ss) c (after_all c ss)
  turns-balance c [] k t = balance-none c
  turns-balance c (s ∷ ss) k t =
      let a = session-balance c s k.0 t.0 t.1 in
      let b = turns-balance (after_session c s) ss (subst (λ (n : ℕ). Each (λ (s : Session). s.role < n) ss) (sym a.places) k.1) t.2 in
      let u = a.moved in
      let v = b.moved in
      record { places = b.places ∙ a.places; moved = omega (arith, u, v) }

-- the moves of rounds
moves-append : (ss ts : List Session) → round_moves (ss ++ ts) ≡ round_moves ss + round_moves ts
moves-append [] ts = omega arith
moves-append (s ∷ ss) ts = let i = moves-append ss ts in omega (arith, i)

-- rounds that each had a move have as many moves at least
pub moving-count : (rounds : List (List Session)) → Each (λ (ss : List Session). 0 < round_moves ss) rounds → length rounds ≤ round_moves (flat rounds)
moving-count [] m = omega arith
moving-count (ss ∷ rounds) m =
    let i = moving-count rounds m.1 in
    let j = moves-append ss (flat rounds) in
    let k = m.0 in
    omega (arith, i, j, k)
