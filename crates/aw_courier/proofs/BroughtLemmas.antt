-- What a pull brought, by all bytes of the reply.
use Rattle.std.proofs.Common.{◌≡◌, ◌≢◌, ℕ, ◌<◌, ◌≤◌, Bool, true, false, cond, List, [], ◌∷◌, ◌++◌, length, drop, Some, None, Result, Ok, Err, refl, sym, ap, subst, ◌∙◌, arith, append-nil}
use Rattle.std.specs.Prelude.{slice_index, ◌==◌, ◌||◌}
use Rattle.std.specs.Int.{w32, to_be_bytes}
use Rattle.std.proofs.lemmas.Bool.{lt-ltb, le-ltb, eqb-true}
use Rattle.aw_term.specs.Rules.{Grammar}
use Rattle.aw_codec.specs.Bytes.{AreBytes}
use Rattle.aw_codec.specs.Reading.{Fault}
use Rattle.aw_codec.proofs.Laws.{AreBytes-rest, number32}
use Rattle.aw_msg.specs.Frames.{whole, all_of}
use Rattle.aw_msg.specs.Messages as M
use Rattle.aw_msg.specs.Messages.{message}
use Rattle.aw_msg.specs.MessageView.{message_of}
use Rattle.aw_msg.specs.Spelling as S
use Rattle.aw_msg.specs.declared.message.MsgKind.TheVariants as kinds
use Rattle.aw_msg.specs.declared.message.Message.{Message}
use Rattle.aw_msg.proofs.MessageLaws.{message_law}
use Rattle.aw_law_nodes.specs.Couriers.{Gave, NoMore, behind}
use Rattle.aw_law_nodes.specs.Nodes.{Push as PushFrame}
use Rattle.aw_courier.specs.Frames.{spelled_frame}
use Rattle.aw_courier.specs.Replies.{gave, heard_in, known, reply, IsNone, IsSized, Brings, IsAddressed}
use Rattle.aw_courier.specs.declared.replies.Brought.{Brought}
use Rattle.aw_courier.specs.declared.replies.Brought.TheVariants as brought
use Rattle.aw_courier.specs.declared.replies.Request.TheVariants.{Pull}
use Rattle.aw_courier.proofs.ReplyLemmas.{whole-of}

-- a message is spelled without the sorts of called nodes
pub same-spelling : (g : Grammar) (k : Message) → S.spelled_message (message_of g k) ≡ M.spelled_message k
same-spelling g k = go k.kind
  where
    go : (kind : _) → S.spelled_message (message_of g (record { to = k.to; kind = kind })) ≡ M.spelled_message (record { to = k.to; kind = kind })
    go (kinds.Call n inherited load) = refl
    go (kinds.Ask r from) = refl
    go (kinds.Tell e load) = refl

-- the kind of a reply to a pull
kind-is : (kind : ℕ) → (kind == 7 || kind == 10) ≡ true → kind ≢ 10 → kind ≡ 7
kind-is kind e n = go (kind == 7) refl e
  where
    go : (b : Bool) → (kind == 7) ≡ b → (b || kind == 10) ≡ true → kind ≡ 7
    go true t e = eqb-true kind 7 t
    go false t e = absurd (n (eqb-true kind 10 e))

-- there are no more messages
pub brings-nothing : (g : Grammar) (bytes : List ℕ) → IsSized Pull bytes → slice_index bytes 0 ≡ 10 → reply g Pull bytes ≡ Ok (NoMore, [])
brings-nothing g bytes sized ten =
    let w = whole-of Pull bytes sized in
    let k : w.kind ≡ 10 = sym (ap (λ (xs : List ℕ). slice_index xs 0) w.bytes_are) ∙ ten in
    w.reply_is g ∙ ap (λ j. known w.count (heard_in g j w.payload) []) k

-- what else is none is no reply
pub brings-unknown : (g : Grammar) (bytes : List ℕ) → IsSized Pull bytes → slice_index bytes 0 ≢ 10 → gave g (whole message (drop 5 bytes)) ≡ None → IsNone (reply g Pull bytes)
brings-unknown g bytes sized n none =
    let w = whole-of Pull bytes sized in
    let same : slice_index bytes 0 ≡ w.kind = ap (λ (xs : List ℕ). slice_index xs 0) w.bytes_are in
    let seven : w.kind ≡ 7 = kind-is w.kind w.may (λ t. n (same ∙ t)) in
    let payload-is : w.payload ≡ drop 5 bytes = w.payload_is ∙ sym (ap (λ (xs : List ℕ). drop 5 xs) w.bytes_are) in
    (w.count, w.reply_is g ∙ ap (λ j. known w.count (heard_in g j w.payload) []) seven ∙ ap (λ o. known w.count o []) (ap (λ p. gave g (whole message p)) payload-is ∙ none))

-- a message for a role came
pub brings-message : (g : Grammar) (bytes : List ℕ) (k : Message) → IsSized Pull bytes → AreBytes bytes → slice_index bytes 0 ≢ 10 → message (drop 5 bytes) ≡ Ok (k, []) → k.to < g.roles →
    (reply g Pull bytes ≡ Ok (Gave (message_of g k), [])) × (spelled_frame (PushFrame (message_of g k)) ≡ 1 ∷ behind bytes)
brings-message g bytes k sized fits n read few =
    let w = whole-of Pull bytes sized in
    let same : slice_index bytes 0 ≡ w.kind = ap (λ (xs : List ℕ). slice_index xs 0) w.bytes_are in
    let seven : w.kind ≡ 7 = kind-is w.kind w.may (λ t. n (same ∙ t)) in
    let payload-is : w.payload ≡ drop 5 bytes = w.payload_is ∙ sym (ap (λ (xs : List ℕ). drop 5 xs) w.bytes_are) in
    let read' : message w.payload ≡ Ok (k, []) = ap message payload-is ∙ read in
    let gives : gave g (whole message w.payload) ≡ Some (Gave (message_of g k)) = ap (λ r. gave g (all_of r)) read' ∙ ap (λ b. cond b (Some (Gave (message_of g k))) None) (lt-ltb k.to g.roles few) in
    let rest-fits : AreBytes w.rest = AreBytes-rest w.kind w.rest (subst AreBytes w.bytes_are fits) in
    let head-of = number32.taken w.rest w.count w.payload rest-fits w.number_is in
    let text = message_law.taken w.payload k [] head-of.0.rest_bytes read' in
    let spelled : S.spelled_message (message_of g k) ≡ w.payload = same-spelling g k ∙ sym (text.0.parts ∙ append-nil (M.spelled_message k)) in (
      w.reply_is g ∙ ap (λ j. known w.count (heard_in g j w.payload) []) seven ∙ ap (λ o. known w.count o []) gives,
      ap (λ p. 1 ∷ (to_be_bytes w32 (length p) ++ p)) spelled ∙ ap (λ c. 1 ∷ (to_be_bytes w32 c ++ w.payload)) w.counted
          ∙ ap (λ r. 1 ∷ r) (sym head-of.0.parts) ∙ ap (λ xs. 1 ∷ behind xs) (sym w.bytes_are),
    )

pub gave-far : (g : Grammar) (payload : List ℕ) (k : Message) (rest : List ℕ) → message payload ≡ Ok (k, rest) → (rest ≡ [] → g.roles ≤ k.to) → gave g (whole message payload) ≡ None
gave-far g payload k [] e far = ap (λ r. gave g (all_of r)) e ∙ ap (λ b. cond b (Some (Gave (message_of g k))) None) (le-ltb k.to g.roles (far refl))
gave-far g payload k (x ∷ xs) e far = ap (λ r. gave g (all_of r)) e ∙ go (length (x ∷ xs) == 0) refl
  where
    go : (b : Bool) → (length (x ∷ xs) == 0) ≡ b → gave g (cond b (Some k) None) ≡ None
    go true t = absurd (let z = eqb-true (length (x ∷ xs)) 0 t in omega (arith, z))
    go false t = refl

pub gave-unread : (g : Grammar) (payload : List ℕ) (fault : Fault) → message payload ≡ Err fault → gave g (whole message payload) ≡ None
gave-unread g payload fault e = ap (λ r. gave g (all_of r)) e

-- what the payload's message is for
pub brings-addressed : (g : Grammar) (bytes : List ℕ) (roles : ℕ) (k : Message) (rest : List ℕ) (b : Brought) → IsSized Pull bytes → AreBytes bytes →
    slice_index bytes 0 ≢ 10 → message (drop 5 bytes) ≡ Ok (k, rest) → g.roles ≡ roles →
    IsAddressed k.to rest roles b → Brings g bytes b
brings-addressed g bytes roles k rest (brought.Message found) sized fits n read e h =
    let few : k.to < g.roles = omega (arith, e, h.2) in
    let p = brings-message g bytes k sized fits n (read ∙ ap (λ r. let x : Result (Message × List ℕ) Fault = Ok (k, r) in x) h.1) few in
    (message_of g k, p.0, sym h.0, omega (arith, few, h.0), p.1)
brings-addressed g bytes roles k rest brought.Nothing sized fits n read e h = absurd h
brings-addressed g bytes roles k rest brought.Unknown sized fits n read e h =
    brings-unknown g bytes sized n (gave-far g (drop 5 bytes) k rest read (λ z. let far = h z in omega (arith, e, far)))
