-- What the head of a journal opens: a node serves the role of a specification, and keeps its text as it is written of it.
use Rattle.std.specs.Prelude.{◌≡◌, ◌≢◌, ◌<◌, ◌≤◌, ℕ, true, List, length, Result, Ok, Err}
use Rattle.aw_spec.specs.Reading.{Spec}
use Rattle.aw_spec_writer.specs.SpecLines.{written}
use Rattle.aw_front.specs.declared.front.Opened.{Opened}
use Rattle.aw_front.specs.Fronts.{IsReady, Nothing}
use Rattle.aw_front.specs.Opening.{Opens}
use Rattle.aw_front.specs.Output.{OfAccepted}
use Rattle.aw_front.specs.Replies.{Replies}
use Rattle.aw_book_read.specs.declared.heads.HeadFault.{HeadFault}
use Rattle.aw_book_read.specs.declared.heads.HeadFault.TheVariants.{Refused, OtherText, NoRole, NoMemory}

-- The text opens this specification, which is good, typed and accepted; it is what would be written of it; and this is one of its roles.
pub record IsHeadOf (role : ℕ) (text : List ℕ) (s : Spec) : Type 0 where
  pub opens : Opens text s
  pub same : text ≡ written s
  pub declared : role < length s.declared.roles

-- What stands ready is made of the specification that the head opens; or its text opens none; or it is another than would be written; or no such role is declared.
abbrev pub OpensHead : ℕ → List ℕ → Result Opened HeadFault → Type 0
OpensHead role text (Ok opened) = (s : Spec) × IsHeadOf role text s × IsReady s true opened
OpensHead role text (Err (Refused said)) = Replies (OfAccepted (λ s. Nothing) text) said
OpensHead role text (Err OtherText) = (s : Spec) × Opens text s × (text ≢ written s)
OpensHead role text (Err NoRole) = (s : Spec) × Opens text s × (text ≡ written s) × (length s.declared.roles ≤ role)
OpensHead role text (Err NoMemory) = Unit {0}
