-- One request and its reply.
use Rattle.std.specs.Prelude.{◌≡◌, ℕ, ◌<◌, ◌≤◌, length, List, [], ◌++◌, Bool, true, false, Option, Err}
use Rattle.aw_out.specs.Wires.{Content, unread}
use Rattle.aw_term.specs.Rules.{Grammar}
use Rattle.aw_codec.specs.Reading.{Short}
use Rattle.aw_law_nodes.specs.Couriers.{IsPrefix}
use Rattle.aw_courier.specs.Replies.{reply, IsNone, IsSized}
use Rattle.aw_courier.specs.declared.broken.Broken.{Broken}
use Rattle.aw_courier.specs.declared.broken.Broken.TheVariants.{Net, Reply, NoMemory}
use Rattle.aw_courier.specs.declared.replies.Request.{Request}

-- where it is told, nothing is left to read
abbrev pub NothingLeft : Option Content → Type 0
NothingLeft told = unread told ≡ []

-- the bytes in a reply's place are no reply, however they go on, or they ended within one
pub data IsNoReply (g : Grammar) (request : Request) (read : List ℕ) (left : Option Content) : Type 0 where
  Wrong : IsNone (reply g request read) → IsNoReply g request read left
  Ended : reply g request read ≡ Err Short → NothingLeft left → IsNoReply g request read left

-- a call on the wire failed
abbrev pub is_net : Broken → Bool
is_net Net = true
is_net Reply = false
is_net NoMemory = false

-- why a request got no reply: a call on the wire failed before the reply was whole, of which the kind and the length could be right (a payload is judged
-- once it is whole); it was written whole, and what was read is none; or memory ran out
abbrev pub WhyBroken : Grammar → Request → List ℕ → List ℕ → List ℕ → Option Content → Broken → Type 0
WhyBroken g request frame written read left Net = reply g request read ≡ Err Short
WhyBroken g request frame written read left Reply = (written ≡ frame) × IsNoReply g request read left
WhyBroken g request frame written read left NoMemory = Unit {0}

-- a request that got no reply: what was written of it, and what was read in the reply's place
pub record IsBrokenOff (g : Grammar) (request : Request) (frame : List ℕ) (talks : List ℕ → List ℕ → Bool → Type 0) (left : Option Content) (fault : Broken) : Type 0 where
  pub written : List ℕ
  pub read : List ℕ
  pub talked : talks read written (is_net fault)
  pub part : IsPrefix written frame
  pub why : WhyBroken g request frame written read left fault

-- a reply that was not read whole: the bytes that were read in its place
pub record IsUnread (g : Grammar) (request : Request) (talks : List ℕ → List ℕ → Bool → Type 0) (left : Option Content) (fault : Broken) : Type 0 where
  pub read : List ℕ
  pub talked : talks read [] (is_net fault)
  pub why : WhyBroken g request [] [] read left fault

-- all bytes of a reply were read, as far as its length tells
pub record IsAsked (request : Request) (frame : List ℕ) (talks : List ℕ → List ℕ → Bool → Type 0) (bytes : List ℕ) : Type 0 where
  pub talked : talks bytes frame false
  pub sized : IsSized request bytes

-- some more bytes were read
pub record ReadsMore (talks : List ℕ → List ℕ → Bool → Type 0) (most : ℕ) (old new : List ℕ) : Type 0 where
  pub piece : List ℕ
  pub talked : talks piece [] false
  pub some_ : 0 < length piece
  pub few : length piece ≤ most
  pub more : new ≡ old ++ piece

-- no more bytes were read: the read failed, the wire has ended, or there was no memory for them
abbrev pub ReadsNoMore : (List ℕ → List ℕ → Bool → Type 0) → Option Content → Broken → Type 0
ReadsNoMore talks left Net = talks [] [] true
ReadsNoMore talks left Reply = talks [] [] false × NothingLeft left
ReadsNoMore talks left NoMemory = (piece : List ℕ) × talks piece [] false
