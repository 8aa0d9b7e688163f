-- How messages of the program are spelled in bytes, and how they are read.
use Rattle.std.specs.Prelude.{ℕ, zero, suc, Bool, true, false, ◌||◌, ◌==◌, List, [], ◌∷◌, length, Ok, Err}
use Rattle.std.specs.Int.{w16, w64}
use Rattle.aw_term.specs.Limits.{most_of_load}
use Rattle.aw_codec.specs.Reading.{Short, Bad, Reader, ◌>>=◌, byte, number, such_that, both, seen, counted}
use Rattle.aw_codec.specs.Names.{is_from_1_to, node, reference, references}
use Rattle.aw_codec.specs.Texts.{text}
use Rattle.aw_store.specs.declared.equation.Body.{Body}
use Rattle.aw_store.specs.declared.equation.Body.TheVariants.{Same, Con, Num, Text}
use Rattle.aw_store.specs.declared.equation.Equation.{Equation}
use Rattle.aw_msg.specs.declared.message.MsgKind.{MsgKind}
use Rattle.aw_msg.specs.declared.message.MsgKind.TheVariants.{Call, Ask, Tell}
use Rattle.aw_msg.specs.declared.message.Message.{Message}
use Rattle.aw_msg.specs.Spelling as spelling
use Rattle.aw_msg.specs.MessageRanges as ranges
use Rattle.aw_msg.specs.MessageView.{plain_message}

-- ---- the spelling, and what has one

-- the bytes of a message; the sort of a called node has none
abbrev pub spelled_message : Message → List ℕ
spelled_message m = spelling.spelled_message (plain_message m)

-- the numbers of a message have the sizes of the program's types
abbrev pub MessageSized : Message → Type 0
MessageSized m = ranges.MessageSized (plain_message m)

-- what a message says is in range: its names, its bodies and its load
abbrev pub MessageInRange : Message → Type 0
MessageInRange m = ranges.MessageInRange (plain_message m)

-- ---- reading

-- 0 and a reference, 1 and a constructor, 2 and a number, or 3 and a text
unfoldable pub body : Reader Body
body [] = Err Short
body (zero ∷ rest) = seen Same reference rest
body (suc zero ∷ rest) = seen (λ x. Con x.0 x.1) (both (number w16) references) rest
body (suc (suc zero) ∷ rest) = seen Num (number w64) rest
body (suc (suc (suc zero)) ∷ rest) = seen Text text rest
body (suc (suc (suc (suc b))) ∷ rest) = Err (Bad (suc (length rest)))

-- the left side, and then the body
unfoldable pub equation : Reader Equation
equation = seen (λ x. record { left = x.0; body = x.1 }) (both reference body)

-- equations behind their number, at least one
unfoldable pub equations : Reader (List Equation)
equations = counted (such_that (is_from_1_to most_of_load) byte) equation

-- the load, where the message has one
unfoldable pub load : Bool → Reader (List Equation)
load false bytes = Ok ([], bytes)
load true bytes = equations bytes

-- a message with a load is no question
unfoldable pub ask : Bool → Reader MsgKind
ask false rest = seen (λ x. Ask x.0 x.1) (both reference (number w16)) rest
ask true rest = Err (Bad (suc (length rest)))

-- what behind the role is read of a message with a load, or of one without
unfoldable pub kind : Bool → Reader MsgKind
kind loaded [] = Err Short
kind loaded (zero ∷ rest) = seen (λ x. Call x.0 x.1.0 x.1.1) (both node (both references (load loaded))) rest
kind loaded (suc zero ∷ rest) = ask loaded rest
kind loaded (suc (suc zero) ∷ rest) = seen (λ x. Tell x.0 x.1) (both equation (load loaded)) rest
kind loaded (suc (suc (suc b)) ∷ rest) = Err (Bad (suc (length rest)))

-- the byte of a version: 1 or 2
abbrev pub is_version : ℕ → Bool
is_version v = v == 1 || v == 2

-- version 2 has a load, version 1 has none
unfoldable pub message : Reader Message
message bytes = such_that is_version byte bytes >>= λ version. seen (λ m. record { to = m.0; kind = m.1 }) (both (number w16) (kind (version.0 == 2))) version.1
