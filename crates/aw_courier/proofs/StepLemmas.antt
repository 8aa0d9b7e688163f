-- One step of a turn, by what the courier keeps.
use Rattle.std.proofs.Common.{◌≡◌, ℕ, ◌+◌, ◌-◌, ◌<◌, ◌≤◌, ◌^◌, Bool, true, false, ◌||◌, List, [], ◌∷◌, ◌++◌, length, Option, Some, None, refl, sym, ap, subst, ◌∙◌, arith, append-nil}
use Rattle.std.specs.Prelude.{nat_le, ◌==◌, slice_index, slice_set, Ok}
use Rattle.std.proofs.lemmas.Bool.{eqb-true, leb-true}
use Rattle.std.proofs.lemmas.List.{set-get_or}
use Rattle.aw_list.proofs.Everyday.{and_true as both-true}
use Rattle.aw_out.specs.Wires.{Content}
use Rattle.aw_term.specs.Rules.{Grammar, get}
use Rattle.aw_apply.specs.Messages.{Message}
use Rattle.aw_law_nodes.specs.Nodes.{Push, Pull}
use Rattle.aw_law_nodes.specs.Couriers.{Pushed, Gave, NoMore, Courier, for_role, turn_messages, note, pushes}
use Rattle.aw_courier.specs.Asking.{IsAsked, IsBrokenOff}
use Rattle.aw_courier.specs.Frames.{size, spelled_frame}
use Rattle.aw_courier.specs.Mails.{Mailed, Shows, pushed_frames, place_at, queue_at, with_queue}
use Rattle.aw_courier.specs.Pulls.{IsPulled}
use Rattle.aw_courier.specs.Replies.{heard_in, known, reply, IsSized}
use Rattle.aw_courier.specs.Turns.{IsUnderway, BreaksOff, pushing, pulling, ending}
use Rattle.aw_courier.specs.declared.broken.Broken.{Broken}
use Rattle.aw_courier.specs.declared.broken.Broken.TheVariants as broken
use Rattle.aw_courier.specs.declared.replies.Request.TheVariants as request
use Rattle.aw_courier.specs.declared.turns.Letter.{Letter}
use Rattle.aw_courier.proofs.Lists.{frames-first, frames-none, get-is}
use Rattle.aw_courier.proofs.ReplyLemmas.{whole-of}
use Rattle.aw_courier.proofs.TurnLemmas.{TalksThen, one-more, said-again, stops, next-push, first-push, too-long, all-pushed, no-room, none-left}
use Rattle.aw_courier.proofs.TurnLemmas.{shows-push, next-pull, last-pull, first-pull, shows-pull}

or-true : (b : Bool) → true ≡ (b || true)
or-true true = refl
or-true false = refl

or-false : (b : Bool) → b ≡ (b || false)
or-false true = refl
or-false false = refl

-- ---- the reply to a push

record IsPushed (g : Grammar) (bytes : List ℕ) : Type 0 where
  pub kind : ℕ
  pub least : 1 ≤ kind
  pub most : kind ≤ 5
  pub heard : reply g request.Push bytes ≡ Ok (Pushed kind, [])

not-equal : (k n : ℕ) → k < n → (k == n) ≡ false
not-equal k n lt = go (k == n) refl
  where
    go : (b : Bool) → (k == n) ≡ b → b ≡ false
    go true t = absurd (let e = eqb-true k n t in omega (arith, e, lt))
    go false t = refl

push-heard : (g : Grammar) (bytes : List ℕ) → IsSized request.Push bytes → IsPushed g bytes
push-heard g bytes sized =
    let w = whole-of request.Push bytes sized in
    let t = both-true (nat_le 1 w.kind) (nat_le w.kind 5) w.may in
    let least : 1 ≤ w.kind = leb-true 1 w.kind t.0 in
    let most : w.kind ≤ 5 = leb-true w.kind 5 t.1 in
    let seven : (w.kind == 7) ≡ false = not-equal w.kind 7 (omega (arith, most)) in
    let ten : (w.kind == 10) ≡ false = not-equal w.kind 10 (omega (arith, most)) in
    record {
      kind = w.kind;
      least = least;
      most = most;
      heard = w.reply_is g ∙ ap (λ o. known w.count o []) (heard-is w.kind w.payload seven ten);
    }
  where
    heard-is : (k : ℕ) (payload : List ℕ) → (k == 7) ≡ false → (k == 10) ≡ false → heard_in g k payload ≡ Some (Pushed k)
    heard-is k payload a b = rw (a, b) refl

-- ---- pushes

-- the first message that waits
record IsFirst (now : Courier) (r : ℕ) (frame : List ℕ) (rest : List (List ℕ)) : Type 0 where
  pub message : Message
  pub others : List Message
  pub waits : for_role r now.waiting ≡ message ∷ others
  pub spelled : spelled_frame (Push message) ≡ frame
  pub behind : pushed_frames others ≡ rest

first-of : (g : Grammar) (m : Mailed) (now : Courier) (r : ℕ) (frame : List ℕ) (rest : List (List ℕ)) → Shows g m now → r < g.roles → queue_at m r ≡ frame ∷ rest → IsFirst now r frame rest
first-of g m now r frame rest s few e =
    let p = frames-first (for_role r now.waiting) frame rest (sym (s.queues r few) ∙ e) in
    record { message = p.0; others = p.1; waits = p.2; spelled = p.3; behind = p.4 }

-- one message was pushed
pub pushed-one : {W' : Type 0} (g : Grammar) (talks : W' → W' → List ℕ → List ℕ → Bool → Type 0) → TalksThen talks → (c : Courier) (r room : ℕ)
    (u v w : W') (m m' : Mailed) (moved : Bool) (frame : List ℕ) (rest : List (List ℕ)) (bytes : List ℕ) →
    IsUnderway g talks c r u v m (pushing r room) moved → r < g.roles → queue_at m r ≡ frame ∷ rest → length frame ≤ room → m' ≡ with_queue m r rest → IsAsked request.Push frame (talks v w) bytes →
    IsUnderway g talks c r u w m' (pushing r (room - length frame)) true
pushed-one {W'} g talks then c r room u v w m m' moved frame rest bytes h few e fits new k =
    let first = first-of g m h.now r frame rest h.shows few e in
    let a = first.message in
    let heard = push-heard g bytes k.sized in
    let long : size (Push a) ≡ length frame = ap length first.spelled in
    one-more g talks then c r u v w m m' (pushing r room) (pushing r (room - length frame)) moved true h (Push a) (Pushed heard.kind) bytes
    (subst (λ t. talks v w bytes t false) (sym first.spelled) k.talked) heard.heard tt (heard.least, heard.most)
    (subst (λ (q : Mailed). Shows g q (note r (Push a) (Pushed heard.kind) h.now)) (sym new) (shows-push g m h.now r rest a first.others (Pushed heard.kind) few h.shows first.waits first.behind))
    (λ ys. next-push r room h.now a first.others (Pushed heard.kind) ys first.waits (subst (λ n. n ≤ room) (sym long) fits)
    ∙ ap (λ n. Push a ∷ pushing r (room - n) (note r (Push a) (Pushed heard.kind) h.now) ys) long)
    (or-true moved)

-- the push of the first message got no reply
pub push-stops : {W' : Type 0} (g : Grammar) (talks : W' → W' → List ℕ → List ℕ → Bool → Type 0) → TalksThen talks → (c : Courier) (r room : ℕ)
    (u v w : W') (m : Mailed) (moved : Bool) (frame : List ℕ) (rest : List (List ℕ)) (left : Option Content) (fault : Broken) →
    IsUnderway g talks c r u v m (pushing r room) moved → r < g.roles → queue_at m r ≡ frame ∷ rest → length frame ≤ room → IsBrokenOff g request.Push
    frame (talks v w) left fault → BreaksOff g c r (talks u w) left fault
push-stops {W'} g talks then c r room u v w m moved frame rest left fault h few e fits k =
    let first = first-of g m h.now r frame rest h.shows few e in
    let long : size (Push first.message) ≡ length frame = ap length first.spelled in
    stops g talks then c r u v w m (pushing r room) moved h few (Push first.message) (pushes size (room - size (Push first.message)) first.others (get 0 h.now.places r) []) left fault
    (first-push r room h.now first.message first.others first.waits (subst (λ n. n ≤ room) (sym long) fits))
    (subst (λ t. IsBrokenOff g request.Push t (talks v w) left fault) (sym first.spelled) k)

-- nothing was taken out
pub kept-all : (m m' : Mailed) (r : ℕ) → m' ≡ with_queue m r (queue_at m' r) → queue_at m' r ≡ queue_at m r → m' ≡ m
kept-all m m' r e same = e ∙ ap (λ q. with_queue m r q) same ∙ ap (λ qs. let k : Mailed = record { queues = qs; places = m.places } in k) (set-get_or m.queues r [])

-- the first message that waits has no room
pub push-full : {W' : Type 0} (g : Grammar) (talks : W' → W' → List ℕ → List ℕ → Bool → Type 0) (c : Courier) (r room : ℕ) (u v : W') (m m' : Mailed)
    (moved : Bool) (frame : List ℕ) (rest : List (List ℕ)) →
    IsUnderway g talks c r u v m (pushing r room) moved → r < g.roles → m' ≡ m → queue_at m r ≡ frame ∷ rest → room < length frame → IsUnderway g talks c r u v m' (pulling r 0 turn_messages) moved
push-full {W'} g talks c r room u v m m' moved frame rest h few same e lt =
    let first = first-of g m h.now r frame rest h.shows few e in
    said-again g talks c r u v m m' (pushing r room) (pulling r 0 turn_messages) moved h same
    (λ ys. too-long r room h.now first.message first.others ys first.waits (subst (λ n. room < n) (sym (ap length first.spelled)) lt))

-- none waits
pub push-done : {W' : Type 0} (g : Grammar) (talks : W' → W' → List ℕ → List ℕ → Bool → Type 0) (c : Courier) (r room : ℕ) (u v : W') (m m' : Mailed) (moved : Bool) →
    IsUnderway g talks c r u v m (pushing r room) moved → r < g.roles → m' ≡ m → queue_at m r ≡ [] → IsUnderway g talks c r u v m' (pulling r room turn_messages) moved
push-done {W'} g talks c r room u v m m' moved h few same e =
    said-again g talks c r u v m m' (pushing r room) (pulling r room turn_messages) moved h same
    (λ ys. all-pushed r room h.now ys (frames-none (for_role r h.now.waiting) (sym (h.shows.queues r few) ∙ e)))

-- ---- pulls

place-is : (g : Grammar) (m : Mailed) (now : Courier) (r : ℕ) → Shows g m now → place_at m r ≡ get 0 now.places r
place-is g m now r s = ap (λ xs. slice_index xs r) s.places ∙ sym (get-is 0 now.places r)

-- a message came, and waits
pub pulled-one : {W' : Type 0} (g : Grammar) (talks : W' → W' → List ℕ → List ℕ → Bool → Type 0) → TalksThen talks → (c : Courier) (r room left : ℕ)
    (u v w : W') (m m' : Mailed) (moved : Bool) (letter : Letter) →
    IsUnderway g talks c r u v m (pulling r room left) moved → r < g.roles → 0 < left → 13 ≤ room → place_at m r < 2 ^ 64 → IsPulled g (place_at m r) (talks v w) (Some letter) →
    m'.queues ≡ slice_set m.queues letter.to (queue_at m letter.to ++ letter.frame ∷ []) → m'.places ≡ slice_set m.places r (place_at m r + 1) →
    IsUnderway g talks c r u w m' (pulling r (room - 13) (left - 1)) true
pulled-one {W'} g talks then c r room left u v w m m' moved letter h few some fits place (bytes, a, t, e, k) qs ps =
    let p = get 0 h.now.places r in
    let long : length letter.frame ≡ size (Push a) = ap length k.frame in
    one-more g talks then c r u v w m m' (pulling r room left) (pulling r (room - 13) (left - 1)) moved true h (Pull p) (Gave a) bytes
    (subst (λ n. talks v w bytes (spelled_frame (Pull n)) false) (place-is g m h.now r h.shows) t) e
    (subst (λ n. n < 2 ^ 64) (place-is g m h.now r h.shows) place)
    (omega (arith, k.to, k.role), omega (arith, k.short, long))
    (shows-pull g m m' h.now r letter.to letter.frame a k.role h.shows k.to k.frame qs ps)
    (λ ys. next-pull g r room left h.now a ys (omega (arith, few, h.shows.all)) some fits)
    (or-true moved)

-- there are no more
pub pulled-none : {W' : Type 0} (g : Grammar) (talks : W' → W' → List ℕ → List ℕ → Bool → Type 0) → TalksThen talks → (c : Courier) (r room left : ℕ) (u v w : W') (m : Mailed) (moved : Bool) →
    IsUnderway g talks c r u v m (pulling r room left) moved → 0 < left → 13 ≤ room → place_at m r < 2 ^ 64 → IsPulled g (place_at m r) (talks v w) None →
    IsUnderway g talks c r u w m ending moved
pulled-none {W'} g talks then c r room left u v w m moved h some fits place (bytes, t, e) =
    let p = get 0 h.now.places r in
    one-more g talks then c r u v w m m (pulling r room left) ending moved moved h (Pull p) NoMore bytes
    (subst (λ k. talks v w bytes (spelled_frame (Pull k)) false) (place-is g m h.now r h.shows) t) e
    (subst (λ n. n < 2 ^ 64) (place-is g m h.now r h.shows) place) tt h.shows
    (λ ys. last-pull r room left h.now ys some fits)
    (or-false moved)

-- a pull got no reply
pub pull-stops : {W' : Type 0} (g : Grammar) (talks : W' → W' → List ℕ → List ℕ → Bool → Type 0) → TalksThen talks → (c : Courier) (r room left : ℕ)
    (u v w : W') (m : Mailed) (moved : Bool) (rest : Option Content) (fault : Broken) →
    IsUnderway g talks c r u v m (pulling r room left) moved → r < g.roles → 0 < left → 13 ≤ room → IsBrokenOff g request.Pull
    (spelled_frame (Pull (place_at m r))) (talks v w) rest fault → BreaksOff g c r (talks u w) rest fault
pull-stops {W'} g talks then c r room left u v w m moved rest fault h few some fits k =
    stops g talks then c r u v w m (pulling r room left) moved h few (Pull (get 0 h.now.places r)) [] rest fault (first-pull r room left h.now some fits)
    (subst (λ n. IsBrokenOff g request.Pull (spelled_frame (Pull n)) (talks v w) rest fault) (place-is g m h.now r h.shows) k)

-- a message came, and there was no memory for it
pub pull-forgets : {W' : Type 0} (g : Grammar) (talks : W' → W' → List ℕ → List ℕ → Bool → Type 0) → TalksThen talks → (c : Courier) (r room left : ℕ)
    (u v w : W') (m : Mailed) (moved : Bool) (rest : Option Content) (letter : Letter) →
    IsUnderway g talks c r u v m (pulling r room left) moved → r < g.roles → 0 < left → 13 ≤ room → IsPulled g (place_at m r) (talks v w)
    (Some letter) → BreaksOff g c r (talks u w) rest broken.NoMemory
pull-forgets {W'} g talks then c r room left u v w m moved rest letter h few some fits (bytes, a, t, e, k) =
    pull-stops g talks then c r room left u v w m moved rest broken.NoMemory h few some fits
    (record { written = spelled_frame (Pull (place_at m r)); read = bytes; talked = t; part = ([], sym (append-nil (spelled_frame (Pull (place_at m r))))); why = tt })

-- no more may be pulled
pub pull-over : {W' : Type 0} (g : Grammar) (talks : W' → W' → List ℕ → List ℕ → Bool → Type 0) (c : Courier) (r room left : ℕ) (u v : W') (m : Mailed) (moved : Bool) →
    IsUnderway g talks c r u v m (pulling r room left) moved → room < 13 → IsUnderway g talks c r u v m ending moved
pull-over {W'} g talks c r room left u v m moved h lt = said-again g talks c r u v m m (pulling r room left) ending moved h refl (λ ys. no-room r room left h.now ys lt)

pub pull-spent : {W' : Type 0} (g : Grammar) (talks : W' → W' → List ℕ → List ℕ → Bool → Type 0) (c : Courier) (r room left : ℕ) (u v : W') (m : Mailed) (moved : Bool) →
    IsUnderway g talks c r u v m (pulling r room left) moved → left ≡ 0 → IsUnderway g talks c r u v m ending moved
pull-spent {W'} g talks c r room left u v m moved h z = said-again g talks c r u v m m (pulling r room left) ending moved h refl
    (λ ys. ap (λ n. pulling r room n h.now ys) z ∙ none-left r room h.now ys)
