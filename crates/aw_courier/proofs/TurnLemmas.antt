-- A turn, one request after the other.
use Rattle.std.proofs.Common.{◌≡◌, ℕ, suc, ◌+◌, ◌-◌, ◌<◌, ◌≤◌, Bool, true, false, cond, ◌||◌, ◌⊎◌, List, [], ◌∷◌, ◌++◌, length, Option, refl, sym, ap}
use Rattle.std.proofs.Common.{subst, ◌∙◌, arith, inl, inr, append_assoc, append-nil}
use Rattle.std.specs.Prelude.{nat_eq, nat_lt, nat_le, slice_index, slice_index_or, slice_set, Ok, ◌&&◌}
use Rattle.std.proofs.lemmas.Bool.{le-leb, lt-leb, lt-ltb, eqb-true, eq-eqb}
use Rattle.aw_list.proofs.Everyday.{length-slice_set as length-set}
use Rattle.aw_spelling.proofs.NameCuts.{and_false as and-false}
use Rattle.aw_out.specs.Wires.{Content}
use Rattle.aw_term.specs.Rules.{Grammar, get}
use Rattle.aw_term.specs.Trees.{Never}
use Rattle.aw_term.proofs.Eaches.{each_push}
use Rattle.aw_apply.specs.Messages.{Message}
use Rattle.aw_law_worlds.proofs.Places.{get-set, same_or_not}
use Rattle.aw_session.specs.Frames.{joined}
use Rattle.aw_session.proofs.Servings.{session_with}
use Rattle.aw_law_nodes.specs.Nodes.{Frame, Push, Pull}
use Rattle.aw_law_nodes.specs.Couriers.{Heard, Gave, NoMore, Courier, for_role, turn_room, turn_messages, asks, after_reply, behind, pulls, pushes, requests, note, without, IsReplyTo, move, moves}
use Rattle.aw_law_nodes.proofs.ListParts.{filter-append}
use Rattle.aw_law_nodes.proofs.Knowing.{rest-waits}
use Rattle.aw_session.proofs.Stretches.{joined-one}
use Rattle.aw_courier.specs.Asking.{is_net, WhyBroken, IsBrokenOff}
use Rattle.aw_courier.specs.Frames.{size, spelled_frame, spelled_frames, PlaceFits}
use Rattle.aw_courier.specs.Mails.{Mailed, Shows, pushed_frames, place_at, queue_at, with_queue}
use Rattle.aw_courier.specs.Replies.{reply, request_of}
use Rattle.aw_courier.specs.Turns.{IsUnderway, WhyStopped, BreaksOff, pushing, pulling}
use Rattle.aw_courier.specs.declared.broken.Broken.{Broken}
use Rattle.aw_courier.specs.declared.broken.Broken.TheVariants as broken
use Rattle.aw_courier.proofs.Lists.{get-is, index-set, index-set_other, spelled-append, spelled-one, heard-one, replies-one, noted-one, moves-one, lt-sum, others-wait}

-- one stretch of a session and then another
abbrev pub TalksThen : {W' : Type 0} → (W' → W' → List ℕ → List ℕ → Bool → Type 0) → Type 0
TalksThen {W'} talks = (a b c : W') (r w r' w' : List ℕ) (f : Bool) → talks a b r w false → talks b c r' w' f → talks a c (r ++ r') (w ++ w') f

-- nothing was asked yet
pub at-first : {W' : Type 0} (g : Grammar) (talks : W' → W' → List ℕ → List ℕ → Bool → Type 0) (c : Courier) (r : ℕ) (u : W') (m : Mailed) → talks u u [] [] false → Shows g m c →
    IsUnderway g talks c r u u m (pushing r turn_room) false
at-first {W'} g talks c r u m t s = record {
  asked = [];
  heard = [];
  replies = [];
  now = c;
  talked = t;
  are = tt;
  places = tt;
  fit = tt;
  order = λ ys. refl;
  now_is = refl;
  moved_is = refl;
  shows = s;
}

-- one more request got its reply
pub one-more : {W' : Type 0} (g : Grammar) (talks : W' → W' → List ℕ → List ℕ → Bool → Type 0) → TalksThen talks → (c : Courier) (r : ℕ) (u v w : W')
    (m m' : Mailed) (rest rest' : Courier → List Heard → List Frame) (moved moved' : Bool)
    (h : IsUnderway g talks c r u v m rest moved) (f : Frame) (x : Heard) (b : List ℕ) → talks v w b (spelled_frame f) false →
    reply g (request_of f) b ≡ Ok (x, []) → PlaceFits f → IsReplyTo size g f x →
    Shows g m' (note r f x h.now) → ((ys : List Heard) → rest h.now (x ∷ ys) ≡ f ∷ rest' (note r f x h.now) ys) → moved' ≡ (moved || nat_lt 0 (move f x)) → IsUnderway g talks c r u w m' rest' moved'
one-more {W'} g talks then c r u v w m m' rest rest' moved moved' h f x b t e place fit s next more = record {
  asked = h.asked ++ f ∷ [];
  heard = h.heard ++ x ∷ [];
  replies = h.replies ++ b ∷ [];
  now = note r f x h.now;
  talked = rw (joined-one h.replies b, spelled-one h.asked f) (then u v w (joined h.replies) (spelled_frames h.asked) b (spelled_frame f) false h.talked t);
  are = heard-one g h.asked h.heard h.replies f x b h.are e;
  places = each_push PlaceFits h.asked f h.places place;
  fit = replies-one g h.asked h.heard f x h.fit fit;
  order = λ ys. ap (λ xs. requests size c r xs) (append_assoc h.heard (x ∷ []) ys) ∙ h.order (x ∷ ys) ∙ ap (λ fs. h.asked ++ fs) (next ys)
      ∙ sym (append_assoc h.asked (f ∷ []) (rest' (note r f x h.now) ys));
  now_is = ap (λ d. note r f x d) h.now_is ∙ sym (noted-one g r h.asked h.heard f x c h.fit);
  moved_is = more ∙ ap (λ t. t || nat_lt 0 (move f x)) h.moved_is ∙ lt-sum (moves h.asked h.heard) (move f x) ∙ ap (λ n. nat_lt 0 n) (sym (moves-one g h.asked h.heard f x h.fit));
  shows = s;
}

-- the same turn, with the requests to come said in another way
pub said-again : {W' : Type 0} (g : Grammar) (talks : W' → W' → List ℕ → List ℕ → Bool → Type 0) (c : Courier) (r : ℕ) (u v : W') (m m' : Mailed)
    (rest rest' : Courier → List Heard → List Frame) (moved : Bool)
    (h : IsUnderway g talks c r u v m rest moved) → m' ≡ m → ((ys : List Heard) → rest h.now ys ≡ rest' h.now ys) → IsUnderway g talks c r u v m' rest' moved
said-again {W'} g talks c r u v m m' rest rest' moved h e same = record {
  asked = h.asked;
  heard = h.heard;
  replies = h.replies;
  now = h.now;
  talked = h.talked;
  are = h.are;
  places = h.places;
  fit = h.fit;
  order = λ ys. h.order ys ∙ ap (λ fs. h.asked ++ fs) (same ys);
  now_is = h.now_is;
  moved_is = h.moved_is;
  shows = subst (λ k. Shows g k h.now) (sym e) h.shows;
}

-- why the next request got no reply
why-stopped : (g : Grammar) (all asked : List Frame) (f : Frame) (later : List Frame) (written read : List ℕ) (left : Option Content) (fault : Broken) → all ≡ asked ++ f ∷ later →
    WhyBroken g (request_of f) (spelled_frame f) written read left fault → WhyStopped g all asked (spelled_frames asked ++ written) read left fault
why-stopped g all asked f later written read left broken.Net e h = (f, later, e, h)
why-stopped g all asked f later written read left broken.Reply e h = (f, later, e, ap (λ t. spelled_frames asked ++ t) h.0 ∙ sym (spelled-one asked f), h.1)
why-stopped g all asked f later written read left broken.NoMemory e h = tt

-- the next request got no reply
pub stops : {W' : Type 0} (g : Grammar) (talks : W' → W' → List ℕ → List ℕ → Bool → Type 0) → TalksThen talks → (c : Courier) (r : ℕ) (u v w : W')
    (m : Mailed) (rest : Courier → List Heard → List Frame) (moved : Bool)
    (h : IsUnderway g talks c r u v m rest moved) → r < g.roles → (f : Frame) (later : List Frame) (left : Option Content) (fault : Broken) → rest h.now [] ≡ f ∷ later →
    IsBrokenOff g (request_of f) (spelled_frame f) (talks v w) left fault → BreaksOff g c r (talks u w) left fault
stops {W'} g talks then c r u v w m rest moved h few f later left fault next k =
    let all : requests size c r h.heard ≡ h.asked ++ f ∷ later = ap (λ xs. requests size c r xs) (sym (append-nil h.heard)) ∙ h.order [] ∙ ap (λ fs. h.asked ++ fs) next in
    let text : spelled_frames (requests size c r h.heard) ≡ (spelled_frames h.asked ++ k.written) ++ (k.part.0 ++ spelled_frames later) =
    ap spelled_frames all ∙ spelled-append h.asked (f ∷ later) ∙ ap (λ t. spelled_frames h.asked ++ (t ++ spelled_frames later)) k.part.1
    ∙ ap (λ t. spelled_frames h.asked ++ t) (append_assoc k.written k.part.0 (spelled_frames later)) ∙ sym (append_assoc (spelled_frames h.asked) k.written (k.part.0 ++ spelled_frames later)) in (
      session_with r true (joined h.replies ++ k.read) (spelled_frames h.asked ++ k.written) (is_net fault) [],
      then u v w (joined h.replies) (spelled_frames h.asked) k.read k.written (is_net fault) h.talked k.talked,
      record {
        asked = h.asked;
        heard = h.heard;
        replies = h.replies;
        more = k.read;
        few = few;
        role = refl;
        dialed = refl;
        failed = refl;
        are = h.are;
        fit = h.fit;
        begun = (f ∷ later, all);
        read = refl;
        part = (k.part.0 ++ spelled_frames later, text);
        why = why-stopped g (requests size c r h.heard) h.asked f later k.written k.read left fault all k.why;
      },
    )

-- ---- pushes

-- the first message that waits is pushed next, where it has room
pub next-push : (r room : ℕ) (now : Courier) (m : Message) (ms : List Message) (x : Heard) (ys : List Heard) → for_role r now.waiting ≡ m ∷ ms → size (Push m) ≤ room →
    pushing r room now (x ∷ ys) ≡ Push m ∷ pushing r (room - size (Push m)) (note r (Push m) x now) ys
next-push r room now m ms x ys e fits =
    ap (λ ws. pushes size room ws (get 0 now.places r) (x ∷ ys)) e
    ∙ ap (λ b. asks b (Push m) (pushes size (room - size (Push m)) ms (get 0 now.places r) ys)) (le-leb (size (Push m)) room fits)
    ∙ ap (λ ws. Push m ∷ pushes size (room - size (Push m)) ws (get 0 now.places r) ys) (sym (rest-waits r now.waiting ms m e))

pub first-push : (r room : ℕ) (now : Courier) (m : Message) (ms : List Message) → for_role r now.waiting ≡ m ∷ ms → size (Push m) ≤ room →
    pushing r room now [] ≡ Push m ∷ pushes size (room - size (Push m)) ms (get 0 now.places r) []
first-push r room now m ms e fits =
    ap (λ ws. pushes size room ws (get 0 now.places r) []) e
    ∙ ap (λ b. asks b (Push m) (pushes size (room - size (Push m)) ms (get 0 now.places r) [])) (le-leb (size (Push m)) room fits)

-- nothing is asked any more
no-pull : (room p left : ℕ) (ys : List Heard) → (nat_lt 0 left && nat_le (size (Pull p)) room) ≡ false → pulls size room left p ys ≡ []
no-pull room p left [] e = ap (λ b. asks b (Pull p) []) e
no-pull room p left (y ∷ ys) e = ap (λ b. asks b (Pull p) (after_reply y (pulls size (room - size (Pull p)) (left - 1) (suc p) ys))) e

pub no-room : (r room left : ℕ) (now : Courier) (ys : List Heard) → room < 13 → pulling r room left now ys ≡ []
no-room r room left now ys lt =
    no-pull room (get 0 now.places r) left ys (ap (λ b. nat_lt 0 left && b) (lt-leb 13 room lt) ∙ and-false (nat_lt 0 left))

pub none-left : (r room : ℕ) (now : Courier) (ys : List Heard) → pulling r room 0 now ys ≡ []
none-left r room now ys = no-pull room (get 0 now.places r) 0 ys refl

-- the first message that waits has no room
pub too-long : (r room : ℕ) (now : Courier) (m : Message) (ms : List Message) (ys : List Heard) → for_role r now.waiting ≡ m ∷ ms →
    room < size (Push m) → pushing r room now ys ≡ pulling r 0 turn_messages now ys
too-long r room now m ms ys e lt =
    ap (λ ws. pushes size room ws (get 0 now.places r) ys) e
    ∙ ap (λ b. asks b (Push m) (pushes size (room - size (Push m)) ms (get 0 now.places r) (behind ys))) (lt-leb (size (Push m)) room lt)
    ∙ sym (no-room r 0 turn_messages now ys (omega arith))

-- none waits
pub all-pushed : (r room : ℕ) (now : Courier) (ys : List Heard) → for_role r now.waiting ≡ [] → pushing r room now ys ≡ pulling r room turn_messages now ys
all-pushed r room now ys e = ap (λ ws. pushes size room ws (get 0 now.places r) ys) e

-- the courier once the first message that waits was pushed
pub shows-push : (g : Grammar) (m : Mailed) (now : Courier) (r : ℕ) (rest : List (List ℕ)) (a : Message) (ms : List Message) (x : Heard) →
    r < g.roles → Shows g m now → for_role r now.waiting ≡ a ∷ ms → pushed_frames ms ≡ rest →
    Shows g (with_queue m r rest) (note r (Push a) x now)
shows-push g m now r rest a ms x few s e p = record {
  many = length-set m.queues r rest ∙ s.many;
  places = s.places;
  all = s.all;
  queues = λ b lt. elim (same_or_not r b) [
    | inl i ↦ (let here : slice_index_or (slice_set m.queues r rest) b [] ≡ rest = subst (λ k. slice_index_or (slice_set m.queues r rest) k [] ≡ rest)
        i (index-set [] m.queues r rest (omega (arith, few, s.many))) in
        here ∙ sym p ∙ ap pushed_frames (sym (subst (λ k. for_role k (without r now.waiting) ≡ ms) i (rest-waits r now.waiting ms a e))))
    | inr n ↦ index-set_other [] m.queues r b rest n ∙ s.queues b lt ∙ ap pushed_frames (sym (others-wait r b now.waiting n))
  ];
}

-- ---- pulls

-- a message came
pub next-pull : (g : Grammar) (r room left : ℕ) (now : Courier) (a : Message) (ys : List Heard) → r < length now.places → 0 < left → 13 ≤ room →
    pulling r room left now (Gave a ∷ ys) ≡ Pull (get 0 now.places r) ∷ pulling r (room - 13) (left - 1) (note r (Pull (get 0 now.places r)) (Gave a) now) ys
next-pull g r room left now a ys few some fits =
    let p = get 0 now.places r in
    ap (λ b. asks (b && nat_le 13 room) (Pull p) (pulls size (room - 13) (left - 1) (suc p) ys)) (lt-ltb 0 left some)
    ∙ ap (λ b. asks b (Pull p) (pulls size (room - 13) (left - 1) (suc p) ys)) (le-leb 13 room fits)
    ∙ ap (λ q. Pull p ∷ pulls size (room - 13) (left - 1) q ys) (sym (get-set 0 now.places r (suc p) few))

-- there are no more
pub last-pull : (r room left : ℕ) (now : Courier) (ys : List Heard) → 0 < left → 13 ≤ room →
    pulling r room left now (NoMore ∷ ys) ≡ Pull (get 0 now.places r) ∷ []
last-pull r room left now ys some fits =
    let p = get 0 now.places r in
    ap (λ b. asks (b && nat_le 13 room) (Pull p) []) (lt-ltb 0 left some) ∙ ap (λ b. asks b (Pull p) []) (le-leb 13 room fits)

pub first-pull : (r room left : ℕ) (now : Courier) → 0 < left → 13 ≤ room → pulling r room left now [] ≡ Pull (get 0 now.places r) ∷ []
first-pull r room left now some fits =
    let p = get 0 now.places r in
    ap (λ b. asks (b && nat_le 13 room) (Pull p) []) (lt-ltb 0 left some) ∙ ap (λ b. asks b (Pull p) []) (le-leb 13 room fits)

-- the courier once a message was pulled
pub shows-pull : (g : Grammar) (m m' : Mailed) (now : Courier) (r to : ℕ) (frame : List ℕ) (a : Message) → to < g.roles → Shows g m now → a.to ≡ to → frame ≡ spelled_frame (Push a) →
    m'.queues ≡ slice_set m.queues to (queue_at m to ++ frame ∷ []) → m'.places ≡ slice_set m.places r (place_at m r + 1) → Shows g m' (note r (Pull (get 0 now.places r)) (Gave a) now)
shows-pull g m m' now r to frame a few s t f qs ps = record {
  many = ap length qs ∙ length-set m.queues to (queue_at m to ++ frame ∷ []) ∙ s.many;
  places = ps ∙ ap (λ xs. slice_set xs r (slice_index xs r + 1)) s.places ∙ ap (λ k. slice_set now.places r k) (more (slice_index now.places r) (get 0 now.places r) (get-is 0 now.places r));
  all = length-set now.places r (suc (get 0 now.places r)) ∙ s.all;
  queues = λ b lt. ap (λ xs. slice_index_or xs b []) qs ∙ go b lt (same_or_not to b) ∙ ap pushed_frames (sym (filter-append (λ (k : Message). nat_eq k.to b) now.waiting (a ∷ [])));
}
  where
    put : List (List ℕ)
    put = queue_at m to ++ frame ∷ []

    more : (a b : ℕ) → b ≡ a → a + 1 ≡ suc b
    more a b e = omega (arith, e)

    map-append : (xs ys : List Message) → pushed_frames (xs ++ ys) ≡ pushed_frames xs ++ pushed_frames ys
    map-append [] ys = refl
    map-append (x ∷ xs) ys = ap (λ fs. spelled_frame (Push x) ∷ fs) (map-append xs ys)

    here : (b : ℕ) → to ≡ b → for_role b (a ∷ []) ≡ a ∷ []
    here b i = ap (λ t. cond t (a ∷ []) []) (eq-eqb a.to b (t ∙ i))

    not-b : (b : ℕ) → (to ≡ b → Never) → nat_eq a.to b ≡ false
    not-b b n = at (nat_eq a.to b) refl
      where
        at : (q : Bool) → nat_eq a.to b ≡ q → q ≡ false
        at true d = absurd (elim (n (sym t ∙ eqb-true a.to b d)) [ ])
        at false d = refl

    there : (b : ℕ) → (to ≡ b → Never) → for_role b (a ∷ []) ≡ []
    there b n = ap (λ t. cond t (a ∷ []) []) (not-b b n)

    go : (b : ℕ) → b < g.roles → (to ≡ b) ⊎ (to ≡ b → Never) → slice_index_or (slice_set m.queues to put) b [] ≡ pushed_frames (for_role b now.waiting ++ for_role b (a ∷ []))
    go b lt (inl i) =
        subst (λ k. slice_index_or (slice_set m.queues to put) k [] ≡ put) i (index-set [] m.queues to put (omega (arith, few, s.many)))
        ∙ ap (λ q. q ++ frame ∷ []) (s.queues to few ∙ ap (λ k. pushed_frames (for_role k now.waiting)) i)
        ∙ ap (λ k. pushed_frames (for_role b now.waiting) ++ k ∷ []) f
        ∙ sym (map-append (for_role b now.waiting) (a ∷ []))
        ∙ ap (λ ws. pushed_frames (for_role b now.waiting ++ ws)) (sym (here b i))
    go b lt (inr n) =
        index-set_other [] m.queues to b put n ∙ s.queues b lt ∙ ap pushed_frames (sym (append-nil (for_role b now.waiting)))
        ∙ ap (λ ws. pushed_frames (for_role b now.waiting ++ ws)) (sym (there b n))
