-- Rounds, one turn after the other.
use Rattle.std.proofs.Common.{◌≡◌, ℕ, suc, ◌+◌, ◌<◌, Bool, true, false, ◌||◌, List, [], ◌∷◌, ◌++◌, map, length, Option, None, Some, option_to_list}
use Rattle.std.proofs.Common.{refl, sym, ap, subst, ◌∙◌, arith, append_assoc, append-nil, length-append}
use Rattle.std.specs.Prelude.{nat_lt}
use Rattle.std.proofs.lemmas.Bool.{ltb-true, ltb-false}
use Rattle.aw_out.specs.Wires as W
use Rattle.aw_out.specs.Wires.{Content, Both, Dials}
use Rattle.aw_out.specs.declared.edge.Dialed.TheVariants.{Opened}
use Rattle.aw_term.specs.Rules.{Grammar, upto}
use Rattle.aw_term.specs.WellFormed.{Each}
use Rattle.aw_term.proofs.Eaches.{each_append, each_push}
use Rattle.aw_term.proofs.Joined.{upto_end as upto-more}
use Rattle.aw_session.specs.Sessions.{Follow}
use Rattle.aw_session.specs.Talking.{Counts, Talks}
use Rattle.aw_session.proofs.Servings.{follow-none, follow-then}
use Rattle.aw_law_nodes.specs.Couriers.{Session, Courier, new_courier, requests, after_session, after_all, flat, AreTurns, IsRound, moves, round_moves}
use Rattle.aw_session.proofs.TalkLemmas.{counts-then as counts-later}
use Rattle.aw_courier.specs.Asking.{is_net}
use Rattle.aw_courier.specs.Carrying.{sessions_of, AreMade, IsRoundMade, fault_at, IsRoundBroken, IsQuiet, IsSpent, AreBefore, IsBrokenOff}
use Rattle.aw_courier.specs.Frames.{size}
use Rattle.aw_courier.specs.Mails.{Mailed, Shows}
use Rattle.aw_courier.specs.Turns.{Turn, session_of, told_as, IsHeard, IsUnderway, ending, IsCut, BreaksOff, CutFits, IsTurn, IsStopped}
use Rattle.aw_courier.specs.declared.broken.Broken.{Broken}
use Rattle.aw_courier.specs.declared.broken.Broken.TheVariants as broken
use Rattle.aw_courier.specs.declared.carrying.CarryFault.{CarryFault}
use Rattle.aw_courier.proofs.Lists.{lt-sum}
use Rattle.aw_courier.proofs.WireLemmas.{follow-dialed}

-- ---- a turn from its begin

-- a turn that came to its end
pub turn-made : {W' : Type 0} (g : Grammar) (content : W' → Option Content) (is_open : W' → Bool) (faults failed_openings : W' → ℕ) (c : Courier) (r : ℕ) (u u1 v : W') (m : Mailed) (moved : Bool) →
    Both (Dials r Opened) (content u) (content u1) → faults u1 ≡ faults u → failed_openings u1 ≡ failed_openings u →
    IsUnderway g (Talks content is_open faults failed_openings) c r u1 v m ending moved → IsTurn g content faults failed_openings c r u v m moved
turn-made {W'} g content is_open faults failed_openings c r u u1 v m moved d f o h =
    let session : Session = record { role = r; asked = h.asked; heard = h.heard } in
    let turn : Turn = record { session = session; replies = h.replies; left = W.unread (content v) } in
    record {
      turn = turn;
      role = refl;
      asked = sym (ap (λ xs. requests size c r xs) (sym (append-nil h.heard)) ∙ h.order [] ∙ append-nil h.asked);
      fit = h.fit;
      heard = (h.are, h.places);
      moved_is = h.moved_is;
      shows = subst (λ k. Shows g m k) h.now_is h.shows;
      told = follow-dialed (told_as turn) r (content u) (content u1) (content v) refl refl d h.talked.told;
      counts = h.talked.counts ∙ f;
      openings = h.talked.openings ∙ o;
    }

-- a turn that broke off did so whatever its session left
cut-left : (g : Grammar) (c : Courier) (r : ℕ) (told : Option Content) (fault : Broken) (x : W.Session) (left : List ℕ) → IsCut g c r told fault x → IsCut g c r told fault (record x { left = left })
cut-left g c r told fault x left k = record {
  asked = k.asked;
  heard = k.heard;
  replies = k.replies;
  more = k.more;
  few = k.few;
  role = k.role;
  dialed = k.dialed;
  failed = k.failed;
  are = k.are;
  fit = k.fit;
  begun = k.begun;
  read = k.read;
  part = k.part;
  why = k.why;
}

-- a turn that broke off
pub turn-stopped : {W' : Type 0} (g : Grammar) (content : W' → Option Content) (is_open : W' → Bool) (faults failed_openings : W' → ℕ) (c : Courier) (r : ℕ) (u u1 v : W') (fault : Broken) →
    Both (Dials r Opened) (content u) (content u1) → faults u1 ≡ faults u →
    BreaksOff g c r (Talks content is_open faults failed_openings u1 v) (content v) fault → IsStopped g content faults c r u v fault
turn-stopped {W'} g content is_open faults failed_openings c r u u1 v fault d f (x, t, k) = record {
  cut = Some (record x { left = W.unread (content v) });
  fits = cut-left g c r (content v) fault x (W.unread (content v)) k;
  told = follow-dialed x r (content u) (content u1) (content v) k.role k.dialed d t.told;
  counts = subst (λ n. Counts (is_net fault) n (faults v)) f (subst (λ b. Counts b (faults u1) (faults v)) k.failed t.counts);
}

-- ---- lists of turns

sessions-append : (xs ys : List Turn) → sessions_of (xs ++ ys) ≡ sessions_of xs ++ sessions_of ys
sessions-append [] ys = refl
sessions-append (x ∷ xs) ys = ap (λ (ss : List Session). session_of x ∷ ss) (sessions-append xs ys)

told-append : (xs ys : List Turn) → map told_as (xs ++ ys) ≡ map told_as xs ++ map told_as ys
told-append [] ys = refl
told-append (x ∷ xs) ys = ap (λ (ss : List W.Session). told_as x ∷ ss) (told-append xs ys)

roles-append : (xs ys : List Session) → map (λ (s : Session). s.role) (xs ++ ys) ≡ map (λ (s : Session). s.role) xs ++ map (λ (s : Session). s.role) ys
roles-append [] ys = refl
roles-append (x ∷ xs) ys = ap (λ (ss : List ℕ). x.role ∷ ss) (roles-append xs ys)

after-append : (c : Courier) (xs ys : List Session) → after_all c (xs ++ ys) ≡ after_all (after_all c xs) ys
after-append c [] ys = refl
after-append c (x ∷ xs) ys = after-append (after_session c x) xs ys

turns-append : (g : Grammar) (c : Courier) (xs ys : List Session) → AreTurns size g c xs → AreTurns size g (after_all c xs) ys → AreTurns size g c (xs ++ ys)
turns-append g c [] ys h k = k
turns-append g c (x ∷ xs) ys h k = (h.0, h.1, turns-append g (after_session c x) xs ys h.2 k)

moves-append : (xs ys : List Session) → round_moves (xs ++ ys) ≡ round_moves xs + round_moves ys
moves-append [] ys = omega arith
moves-append (x ∷ xs) ys = omega (arith, moves-append xs ys)

flat-append : {A : Type 0} (xss yss : List (List A)) → flat (xss ++ yss) ≡ flat xss ++ flat yss
flat-append [] yss = refl
flat-append (xs ∷ xss) yss = ap (λ zs. xs ++ zs) (flat-append xss yss) ∙ sym (append_assoc xs (flat xss) (flat yss))

flat-one : {A : Type 0} (xss : List (List A)) (xs : List A) → flat (xss ++ xs ∷ []) ≡ flat xss ++ xs
flat-one xss xs = flat-append xss (xs ∷ []) ∙ ap (λ zs. flat xss ++ zs) (append-nil xs)

flat-sessions : (xss : List (List Turn)) → flat (map sessions_of xss) ≡ sessions_of (flat xss)
flat-sessions [] = refl
flat-sessions (xs ∷ xss) = ap (λ zs. sessions_of xs ++ zs) (flat-sessions xss) ∙ sym (sessions-append xs (flat xss))

rounds-append : (xss yss : List (List Turn)) → map sessions_of (xss ++ yss) ≡ map sessions_of xss ++ map sessions_of yss
rounds-append [] yss = refl
rounds-append (xs ∷ xss) yss = ap (λ zs. sessions_of xs ∷ zs) (rounds-append xss yss)

upto-next : (n m : ℕ) → m ≡ n + 1 → upto 0 m ≡ upto 0 n ++ n ∷ []
upto-next n m e = ap (λ k. upto 0 k) (let s : m ≡ suc n = omega (arith, e) in s) ∙ upto-more 0 n ∙ ap (λ k. upto 0 n ++ k ∷ []) (omega arith)

-- ---- a round

-- one turn more
pub round-more : {W' : Type 0} (g : Grammar) (content : W' → Option Content) (faults failed_openings : W' → ℕ) (c : Courier) (n n' : ℕ) (u v w : W') (m m' : Mailed) (moved some : Bool) →
    (h : IsRoundMade g content faults failed_openings c n u v m moved) → IsTurn g content faults failed_openings (after_all c (sessions_of h.turns)) n v w m' some → n' ≡ n + 1 →
    IsRoundMade g content faults failed_openings c n' u w m' (moved || some)
round-more {W'} g content faults failed_openings c n n' u v w m m' moved some h t e =
    let ss = sessions_of h.turns in
    let more : sessions_of (h.turns ++ t.turn ∷ []) ≡ ss ++ t.turn.session ∷ [] = sessions-append h.turns (t.turn ∷ []) in
    record {
      turns = h.turns ++ t.turn ∷ [];
      made = record {
        ordered = subst (λ ks. AreTurns size g c ks) (sym more) (turns-append g c ss (t.turn.session ∷ []) h.made.ordered
            (t.asked ∙ ap (λ r. requests size (after_all c ss) r t.turn.session.heard) (sym t.role), t.fit, tt));
        heard = each_push (IsHeard g) h.turns t.turn h.made.heard t.heard;
        told = subst (λ ks. Both (Follow ks) (content u) (content w)) (sym (told-append h.turns (t.turn ∷ [])))
            (follow-then (map told_as h.turns) (told_as t.turn ∷ []) (content u) (content v) (content w) h.made.told t.told);
        counts = t.counts ∙ h.made.counts;
        openings = t.openings ∙ h.made.openings;
      };
      roles = ap (λ ks. map (λ (s : Session). s.role) ks) more ∙ roles-append ss (t.turn.session ∷ []) ∙ ap (λ ks. ks ++ t.turn.session.role ∷ [])
          h.roles ∙ ap (λ r. upto 0 n ++ r ∷ []) t.role ∙ sym (upto-next n n' e);
      shows = subst (λ k. Shows g m' k) (sym (ap (λ ks. after_all c ks) more ∙ after-append c ss (t.turn.session ∷ []))) t.shows;
      moved_is = ap (λ b. b || some) h.moved_is ∙ ap (λ b. nat_lt 0 (round_moves ss) || b) t.moved_is ∙ lt-sum (round_moves ss) (moves t.turn.session.asked t.turn.session.heard)
          ∙ ap (λ k. nat_lt 0 k) (let q = moves-append ss (t.turn.session ∷ []) in let z : round_moves (t.turn.session ∷ []) ≡ moves t.turn.session.asked t.turn.session.heard + 0 = refl in
          let s : round_moves ss + moves t.turn.session.asked t.turn.session.heard ≡ round_moves (ss ++ t.turn.session ∷ []) = omega (arith, q, z) in s)
          ∙ ap (λ ks. nat_lt 0 (round_moves ks)) (sym more);
    }

-- a turn broke off
pub round-broken : {W' : Type 0} (g : Grammar) (content : W' → Option Content) (faults failed_openings : W' → ℕ) (c : Courier) (n : ℕ) (u v w : W')
    (m : Mailed) (moved : Bool) (why : Broken) (fault : CarryFault) →
    (h : IsRoundMade g content faults failed_openings c n u v m moved) → IsStopped g content faults (after_all c (sessions_of h.turns)) n v w why → fault ≡ fault_at n why →
    IsRoundBroken g content faults c u w fault
round-broken {W'} g content faults failed_openings c n u v w m moved why fault h k e = record {
  turns = h.turns;
  role = n;
  why = why;
  cut = k.cut;
  is = e;
  begun = h.roles;
  made = h.made.ordered;
  heard = h.made.heard;
  fits = k.fits;
  told = follow-then (map told_as h.turns) (option_to_list k.cut) (content u) (content v) (content w) h.made.told k.told;
  counts = counts-later (is_net why) (faults u) (faults v) (faults w) h.made.counts k.counts;
}

-- ---- all rounds

-- rounds with a move, so far
pub record IsCarrying {W' : Type 0} (g : Grammar) (content : W' → Option Content) (faults failed_openings : W' → ℕ) (n : ℕ) (u v : W') (m : Mailed) : Type 0 where
  pub spent : IsSpent g content faults failed_openings n u v
  pub shows : Shows g m (after_all (new_courier g) (sessions_of (flat spent.before)))

pub carrying-none : {W' : Type 0} (g : Grammar) (content : W' → Option Content) (faults failed_openings : W' → ℕ) (u : W') (m : Mailed) →
    Shows g m (new_courier g) → IsCarrying g content faults failed_openings 0 u u m
carrying-none {W'} g content faults failed_openings u m s = record {
  spent = record {
    before = [];
    call = record { each = tt; turns = tt; moving = tt };
    made = record { ordered = tt; heard = tt; told = follow-none (content u); counts = refl; openings = refl };
    all = refl;
  };
  shows = s;
}

-- turns and then others
made-then : {W' : Type 0} (g : Grammar) (content : W' → Option Content) (faults failed_openings : W' → ℕ) (c : Courier) (u v w : W') (xs ys : List Turn) →
    AreMade g content faults failed_openings c u v xs → AreMade g content faults failed_openings (after_all c (sessions_of xs)) v w ys → AreMade g content faults failed_openings c u w (xs ++ ys)
made-then {W'} g content faults failed_openings c u v w xs ys h k = record {
  ordered = subst (λ ks. AreTurns size g c ks) (sym (sessions-append xs ys)) (turns-append g c (sessions_of xs) (sessions_of ys) h.ordered k.ordered);
  heard = each_append (IsHeard g) xs ys h.heard k.heard;
  told = subst (λ ks. Both (Follow ks) (content u) (content w)) (sym (told-append xs ys)) (follow-then (map told_as xs) (map told_as ys) (content u) (content v) (content w) h.told k.told);
  counts = k.counts ∙ h.counts;
  openings = k.openings ∙ h.openings;
}

-- a round with a move
pub carrying-more : {W' : Type 0} (g : Grammar) (content : W' → Option Content) (faults failed_openings : W' → ℕ) (n n' : ℕ) (u v w : W') (m m' : Mailed) →
    (h : IsCarrying g content faults failed_openings n u v m) → IsRoundMade g content faults failed_openings
    (after_all (new_courier g) (sessions_of (flat h.spent.before))) g.roles v w m' true → n' ≡ n + 1 →
    IsCarrying g content faults failed_openings n' u w m'
carrying-more {W'} g content faults failed_openings n n' u v w m m' h k e =
    let xss = h.spent.before in
    let same : flat (xss ++ k.turns ∷ []) ≡ flat xss ++ k.turns = flat-one xss k.turns in
    let made = made-then g content faults failed_openings (new_courier g) u v w (flat xss) k.turns h.spent.made k.made in
    record {
      spent = record {
        before = xss ++ k.turns ∷ [];
        call = record {
          each = subst (λ ks. Each (IsRound g) ks) (sym (rounds-append xss (k.turns ∷ []))) (each_push (IsRound g) (map sessions_of xss) (sessions_of k.turns) h.spent.call.each k.roles);
          turns = subst (λ ks. AreTurns size g (new_courier g) ks) (sym (flat-sessions (xss ++ k.turns ∷ []) ∙ ap sessions_of same)) made.ordered;
          moving = subst (λ ks. Each (λ (ss : List Session). 0 < round_moves ss) ks) (sym (rounds-append xss (k.turns ∷ [])))
              (each_push (λ (ss : List Session). 0 < round_moves ss) (map sessions_of xss) (sessions_of k.turns) h.spent.call.moving (ltb-true 0 (round_moves (sessions_of k.turns)) (sym k.moved_is)));
        };
        made = subst (λ ts. AreMade g content faults failed_openings (new_courier g) u w ts) (sym same) made;
        all = length-append xss (k.turns ∷ []) ∙ ap (λ i. i + 1) h.spent.all ∙ sym e;
      };
      shows = subst (λ d. Shows g m' d) (sym (ap (λ ts. after_all (new_courier g) (sessions_of ts)) same ∙ ap (λ ks. after_all (new_courier g) ks)
          (sessions-append (flat xss) k.turns) ∙ after-append (new_courier g) (sessions_of (flat xss)) (sessions_of k.turns))) k.shows;
    }

-- a round without
pub carrying-quiet : {W' : Type 0} (g : Grammar) (content : W' → Option Content) (faults failed_openings : W' → ℕ) (n rounds : ℕ) (u v w : W') (m m' : Mailed) →
    (h : IsCarrying g content faults failed_openings n u v m) → IsRoundMade g content faults failed_openings
    (after_all (new_courier g) (sessions_of (flat h.spent.before))) g.roles v w m' false → n < rounds →
    IsQuiet g content faults failed_openings rounds u w
carrying-quiet {W'} g content faults failed_openings n rounds u v w m m' h k lt =
    let xss = h.spent.before in
    let made = made-then g content faults failed_openings (new_courier g) u v w (flat xss) k.turns h.spent.made k.made in
    let none = ltb-false 0 (round_moves (sessions_of k.turns)) (sym k.moved_is) in
    record {
      before = xss;
      last = k.turns;
      call = record {
        each = h.spent.call.each;
        one = k.roles;
        turns = subst (λ ks. AreTurns size g (new_courier g) ks) (sessions-append (flat xss) k.turns ∙ ap (λ ks. ks ++ sessions_of k.turns) (sym (flat-sessions xss))) made.ordered;
        moving = h.spent.call.moving;
        still = omega (arith, none);
      };
      made = made;
      few = omega (arith, h.spent.all, lt);
    }

-- a round that broke off
pub carrying-broken : {W' : Type 0} (g : Grammar) (content : W' → Option Content) (faults failed_openings : W' → ℕ) (n rounds : ℕ) (u v w : W') (m : Mailed) (fault : CarryFault) →
    (h : IsCarrying g content faults failed_openings n u v m) → IsRoundBroken g content faults (after_all (new_courier g) (sessions_of (flat h.spent.before))) v w fault → n < rounds →
    IsBrokenOff g content faults rounds u w fault
carrying-broken {W'} g content faults failed_openings n rounds u v w m fault h k lt =
    let xss = h.spent.before in
    record {
      before = xss;
      turns = k.turns;
      role = k.role;
      why = k.why;
      cut = k.cut;
      is = k.is;
      few = few k.why (omega (arith, h.spent.all, lt));
      call = h.spent.call;
      begun = k.begun;
      made = subst (λ ks. AreTurns size g (new_courier g) ks) (sym (sessions-append (flat xss) k.turns))
          (turns-append g (new_courier g) (sessions_of (flat xss)) (sessions_of k.turns) h.spent.made.ordered k.made);
      heard = each_append (IsHeard g) (flat xss) k.turns h.spent.made.heard k.heard;
      fits = subst (λ d. CutFits g d k.role (content w) k.why k.cut)
          (sym (ap (λ ks. after_all (new_courier g) ks) (sessions-append (flat xss) k.turns) ∙ after-append (new_courier g) (sessions_of (flat xss))
          (sessions_of k.turns))) k.fits;
      told = subst (λ ks. Both (Follow (ks ++ option_to_list k.cut)) (content u) (content w)) (sym (told-append (flat xss) k.turns))
          (subst (λ ks. Both (Follow ks) (content u) (content w)) (sym (append_assoc (map told_as (flat xss)) (map told_as k.turns) (option_to_list k.cut)))
          (follow-then (map told_as (flat xss)) (map told_as k.turns ++ option_to_list k.cut) (content u) (content v) (content w) h.spent.made.told k.told));
      counts = counts-later (is_net k.why) (faults u) (faults v) (faults w) h.spent.made.counts k.counts;
    }
  where
    few : (why : Broken) → length h.spent.before < rounds → AreBefore why (length h.spent.before) rounds
    few broken.Net l = l
    few broken.Reply l = l
    few broken.NoMemory l = omega (arith, l)

-- memory ran out before the first round
pub carrying-never : {W' : Type 0} (g : Grammar) (content : W' → Option Content) (faults : W' → ℕ) (rounds : ℕ) (u : W') (fault : CarryFault) →
    fault ≡ fault_at 0 broken.NoMemory → IsBrokenOff g content faults rounds u u fault
carrying-never {W'} g content faults rounds u fault e = record {
  before = [];
  turns = [];
  role = 0;
  why = broken.NoMemory;
  cut = None;
  is = e;
  few = omega arith;
  call = record { each = tt; turns = tt; moving = tt };
  begun = refl;
  made = tt;
  heard = tt;
  fits = tt;
  told = follow-none (content u);
  counts = refl;
}

-- the same round
pub round-at : {W' : Type 0} (g : Grammar) (content : W' → Option Content) (faults failed_openings : W' → ℕ) (c : Courier) (n n' : ℕ) (u v : W') (m : Mailed) (b b' : Bool) → n ≡ n' → b ≡ b' →
    IsRoundMade g content faults failed_openings c n u v m b → IsRoundMade g content faults failed_openings c n' u v m b'
round-at {W'} g content faults failed_openings c n n' u v m b b' e f h =
    subst (λ k. IsRoundMade g content faults failed_openings c k u v m b') e (subst (λ k. IsRoundMade g content faults failed_openings c n u v m k) f h)
