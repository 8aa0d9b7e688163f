-- One pull.
use Rattle.std.proofs.Common.{◌≡◌, ℕ, suc, ◌≤◌, Bool, false, List, [], ◌∷◌, length, Option, Some, None, refl, sym, ap, subst, ◌∙◌, arith, append-nil}
use Rattle.aw_out.specs.Wires.{Content}
use Rattle.aw_term.specs.Rules.{Grammar}
use Rattle.aw_law_nodes.specs.Nodes.{Pull}
use Rattle.aw_law_nodes.specs.Couriers.{behind}
use Rattle.aw_courier.specs.Asking.{Wrong, IsAsked, IsBrokenOff}
use Rattle.aw_courier.specs.Frames.{spelled_frame}
use Rattle.aw_courier.specs.Pulls.{IsPulled}
use Rattle.aw_courier.specs.Replies.{Brings}
use Rattle.aw_courier.specs.declared.broken.Broken.TheVariants as broken
use Rattle.aw_courier.specs.declared.replies.Brought.TheVariants as brought
use Rattle.aw_courier.specs.declared.replies.Request.TheVariants as request
use Rattle.aw_courier.proofs.ReplyLemmas.{size-within}

length-behind : (xs : List ℕ) → length (1 ∷ behind xs) ≤ suc (length xs)
length-behind [] = omega arith
length-behind (x ∷ xs) = omega arith

-- a message came
pub pulled-letter : (g : Grammar) (place : ℕ) (talks : List ℕ → List ℕ → Bool → Type 0) (text bytes : List ℕ) (to : ℕ) (frame : List ℕ) →
    text ≡ spelled_frame (Pull place) → IsAsked request.Pull text talks bytes →
    Brings g bytes (brought.Message to) → frame ≡ 1 ∷ behind bytes → IsPulled g place talks (Some (record { to = to; frame = frame }))
pulled-letter g place talks text bytes to frame e k h f =
    let few = size-within request.Pull bytes (length bytes) k.sized in
    let long = length-behind bytes in
    (bytes, h.0, subst (λ t. talks bytes t false) e k.talked, h.1, record { to = h.2; role = h.3; frame = f ∙ sym h.4; short = omega (arith, few.1, long, ap length f) })

-- there are no more
pub pulled-nothing : (g : Grammar) (place : ℕ) (talks : List ℕ → List ℕ → Bool → Type 0) (text bytes : List ℕ) → text ≡ spelled_frame (Pull place) →
    IsAsked request.Pull text talks bytes → Brings g bytes brought.Nothing → IsPulled g place talks None
pulled-nothing g place talks text bytes e k h = (bytes, subst (λ t. talks bytes t false) e k.talked, h)

-- what came is no reply
pub pulled-unknown : (g : Grammar) (place : ℕ) (talks : List ℕ → List ℕ → Bool → Type 0) (left : Option Content) (text bytes : List ℕ) →
    text ≡ spelled_frame (Pull place) → IsAsked request.Pull text talks bytes → Brings g bytes brought.Unknown →
    IsBrokenOff g request.Pull (spelled_frame (Pull place)) talks left broken.Reply
pulled-unknown g place talks left text bytes e k h =
    record {
      written = spelled_frame (Pull place);
      read = bytes;
      talked = subst (λ t. talks bytes t false) e k.talked;
      part =
          ([], sym (append-nil (spelled_frame (Pull place))));
      why = (refl, Wrong h);
    }

-- what came could not be looked at
pub pulled-unseen : (g : Grammar) (place : ℕ) (talks : List ℕ → List ℕ → Bool → Type 0) (left : Option Content) (text bytes : List ℕ) →
    text ≡ spelled_frame (Pull place) → IsAsked request.Pull text talks bytes →
    IsBrokenOff g request.Pull (spelled_frame (Pull place)) talks left broken.NoMemory
pulled-unseen g place talks left text bytes e k =
    record { written = spelled_frame (Pull place); read = bytes; talked = subst (λ t. talks bytes t false) e k.talked; part = ([], sym (append-nil (spelled_frame (Pull place)))); why = tt }
