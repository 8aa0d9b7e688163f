-- One request, bit by bit.
use Rattle.std.proofs.Common.{◌≡◌, ℕ, Bool, true, false, List, [], ◌++◌, take, drop, Option, Result, Ok, Err, refl, sym, ap, subst, ◌∙◌, append-nil}
use Rattle.std.specs.Prelude.{IfOk, IfErr}
use Rattle.std.proofs.lemmas.List.{take-append-drop}
use Rattle.aw_out.specs.Wires.{Content}
use Rattle.aw_term.specs.Rules.{Grammar}
use Rattle.aw_codec.specs.Reading.{Short}
use Rattle.aw_session.specs.Talking.{Talks, TalksInPart}
use Rattle.aw_courier.specs.Asking.{Wrong, Ended, is_net, WhyBroken, IsBrokenOff, IsUnread, IsAsked, ReadsNoMore}
use Rattle.aw_courier.specs.Replies.{reply, IsNone}
use Rattle.aw_courier.specs.declared.broken.Broken.{Broken}
use Rattle.aw_courier.specs.declared.broken.Broken.TheVariants as broken
use Rattle.aw_courier.specs.declared.replies.Request.{Request}
use Rattle.aw_courier.proofs.ReplyLemmas.{reply-nothing}
use Rattle.aw_courier.proofs.TurnLemmas.{TalksThen}

-- some more bytes of a reply
pub more-read : {W' : Type 0} (talks : W' → W' → List ℕ → List ℕ → Bool → Type 0) → TalksThen talks → (u v w : W') (bytes piece : List ℕ) →
    talks u v bytes [] false → talks v w piece [] false → talks u w (bytes ++ piece) [] false
more-read {W'} talks then u v w bytes piece a b = then u v w bytes [] piece [] false a b

-- no more bytes of a reply came
pub not-read : {W' : Type 0} (g : Grammar) (request : Request) (talks : W' → W' → List ℕ → List ℕ → Bool → Type 0) → TalksThen talks →
    (u v w : W') (bytes : List ℕ) (left : Option Content) (fault : Broken) → talks u v bytes [] false →
    reply g request bytes ≡ Err Short → ReadsNoMore (talks v w) left fault → IsUnread g request (talks u w) left fault
not-read {W'} g request talks then u v w bytes left broken.Net a short h = record {
  read = bytes ++ [];
  talked = then u v w bytes [] [] [] true a h;
  why = ap (λ b. reply g request b) (append-nil bytes) ∙ short;
}
not-read {W'} g request talks then u v w bytes left broken.Reply a short h = record {
  read = bytes ++ [];
  talked = then u v w bytes [] [] [] false a h.0;
  why = (refl, Ended (ap (λ b. reply g request b) (append-nil bytes) ∙ short) h.1);
}
not-read {W'} g request talks then u v w bytes left broken.NoMemory a short h = record {
  read = bytes ++ h.0;
  talked = then u v w bytes [] h.0 [] false a h.1;
  why = tt;
}

-- no reply begins so
pub wrong-read : {W' : Type 0} (g : Grammar) (request : Request) (talks : W' → W' → List ℕ → List ℕ → Bool → Type 0) (u v : W') (bytes : List ℕ) (left : Option Content) → talks u v bytes [] false →
    IsNone (reply g request bytes) → IsUnread g request (talks u v) left broken.Reply
wrong-read {W'} g request talks u v bytes left a none = record { read = bytes; talked = a; why = (refl, Wrong none) }

-- the request was not written whole
pub not-written : {W' : Type 0} (g : Grammar) (request : Request) (content : W' → Option Content) (is_open : W' → Bool) (faults failed_openings : W' →
    ℕ) (u v : W') (frame : List ℕ) (left : Option Content) →
    TalksInPart content is_open faults failed_openings u v frame → IsBrokenOff g request frame (Talks content is_open faults failed_openings u v) left broken.Net
not-written {W'} g request content is_open faults failed_openings u v frame left h = record {
  written = take h.count frame;
  read = [];
  talked = h.talks;
  part = (drop h.count frame, sym (take-append-drop h.count frame));
  why = reply-nothing g request;
}

-- the request was written, and its reply was not read whole
why-broken : (g : Grammar) (request : Request) (frame written read : List ℕ) (left : Option Content) (fault : Broken) → written ≡ frame →
    WhyBroken g request [] [] read left fault → WhyBroken g request frame written read left fault
why-broken g request frame written read left broken.Net e h = h
why-broken g request frame written read left broken.Reply e h = (e, h.1)
why-broken g request frame written read left broken.NoMemory e h = tt

pub not-answered : {W' : Type 0} (g : Grammar) (request : Request) (talks : W' → W' → List ℕ → List ℕ → Bool → Type 0) → TalksThen talks →
    (u v w : W') (frame : List ℕ) (left : Option Content) (fault : Broken) → talks u v [] frame false →
    IsUnread g request (talks v w) left fault → IsBrokenOff g request frame (talks u w) left fault
not-answered {W'} g request talks then u v w frame left fault a h = record {
  written = frame ++ [];
  read = h.read;
  talked = then u v w [] frame h.read [] (is_net fault) a h.talked;
  part = ([], sym (append-nil (frame ++ []) ∙ append-nil frame));
  why = why-broken g request frame (frame ++ []) h.read left fault (append-nil frame) h.why;
}

-- the request was written, and all bytes of its reply were read
pub answered : {W' : Type 0} (request : Request) (talks : W' → W' → List ℕ → List ℕ → Bool → Type 0) → TalksThen talks → (u v w : W') (frame bytes : List ℕ) → talks u v [] frame false →
    IsAsked request [] (talks v w) bytes → IsAsked request frame (talks u w) bytes
answered {W'} request talks then u v w frame bytes a h = record {
  talked = subst (λ t. talks u w bytes t false) (append-nil frame) (then u v w [] frame bytes [] false a h.talked);
  sized = h.sized;
}

-- what holds of what was answered, said in another way
pub ok-map : {A E : Type 0} (r : Result A E) (P Q : A → Type 0) → ((x : A) → P x → Q x) → IfOk r P → IfOk r Q
ok-map (Ok x) P Q f h = f x h
ok-map (Err e) P Q f h = tt

pub err-map : {A E : Type 0} (r : Result A E) (P Q : E → Type 0) → ((e : E) → P e → Q e) → IfErr r P → IfErr r Q
err-map (Ok x) P Q f h = tt
err-map (Err e) P Q f h = f e h
