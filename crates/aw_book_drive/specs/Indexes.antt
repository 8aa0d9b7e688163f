-- Messages by what they are about.
use Rattle.std.specs.Prelude.{◌≡◌, ℕ, ◌<◌, List, [], ◌∷◌, ◌++◌, length, if◌then◌else◌, Option, None, Some, slice_get}
use Rattle.std.specs.HashMap.{HashMap, get}
use Rattle.aw_list.specs.Members.{Member}
use Rattle.aw_apply.specs.Messages.{Kind, Calls, Asks, Tells, Message}
use Rattle.aw_msg.specs.declared.message.Message as program
use Rattle.aw_term.specs.Names.{Ref, Result, ref_eq}
use Rattle.aw_book_drive.specs.declared.index.Index.{Index}

-- the reference that is asked for or told, and of a called node its first result
abbrev pub about_kind : Kind → Ref
about_kind (Calls c load) = record { node = c.node; slot = Result 0 }
about_kind (Asks r from) = r
about_kind (Tells e load) = e.left

-- what a message is about
abbrev pub about : Message → Ref
about m = about_kind m.kind

-- the numbers that are noted, or none
abbrev pub noted : Option (List ℕ) → List ℕ
noted None = []
noted (Some numbers) = numbers

-- the numbers that are noted for a reference
abbrev pub numbers_of : {S : Type 0} → HashMap Ref (List ℕ) S → Ref → List ℕ
numbers_of m r = noted (get ref_eq m r)

-- one more number is noted for a reference
abbrev pub Notes : {S : Type 0} → HashMap Ref (List ℕ) S → HashMap Ref (List ℕ) S → Ref → ℕ → Type 0
Notes m n r k = (x : Ref) → numbers_of n x ≡ (if ref_eq r x then numbers_of m x ++ k ∷ [] else numbers_of m x)

-- the number of each of the first n of these messages is noted for what it is about
abbrev pub AreNoted : {S : Type 0} → HashMap Ref (List ℕ) S → ℕ → List Message → Type 0
AreNoted m n messages = (k : ℕ) (x : Message) → k < n → slice_get messages k ≡ Some x → Member k (numbers_of m (about x))

-- all of these messages are noted, and no others
pub record Covers (x : Index) (messages : List Message) : Type 0 where
  pub count : x.count ≡ length messages
  pub noted : AreNoted x.numbers (length messages) messages

-- the message stands at this number
abbrev pub IsAt : List program.Message → program.Message → ℕ → Type 0
IsAt messages m k = slice_get messages k ≡ Some m
