-- What is said of an output: the status, and what is written with it.
use Rattle.std.specs.Prelude.{◌≡◌, ℕ, List, [], ◌++◌, codes}
use Rattle.aw_grammar.specs.GrammarOf.{words_of}
use Rattle.aw_accept.specs.declared.refused.Refused.{Refused}
use Rattle.aw_accept.specs.declared.refused.Refused.TheVariants as refused
use Rattle.aw_term.specs.Artifacts.{Words}
use Rattle.aw_typed.specs.TypeFaults.{NoShape, NoCarry, InRule}
use Rattle.aw_typed.specs.declared.data.TypeFault.{TypeFault}
use Rattle.aw_typed.specs.declared.data.TypeFault.TheVariants as types
use Rattle.aw_check_text.specs.Told.{circle_text}
use Rattle.aw_front.specs.declared.reply.Reply.{Reply}
use Rattle.aw_front.specs.declared.reply.Status.{Status}
use Rattle.aw_front.specs.declared.reply.Status.TheVariants.{Done, Usage, BadSpec, Circular, BadSchedule as BadSched, TooLarge, TooLong, BadTypes as BadTyped, BadReply}
use Rattle.aw_front.specs.Output.{Output, Writes, PastInputLimit, BadSpecification, BadTypes, IsCircular, UnknownRole, BadSchedule, PastOutputLimit, NoReplyOf}
use Rattle.aw_front.specs.Refusals.{types_text}

-- a status, and what is written with it
abbrev pub reply : Status → List ℕ → Reply
reply status text = record { status = status; text = text }

-- the reply of a command that has this output
abbrev pub reply_with : Output → Reply
reply_with (Writes text) = reply Done text
reply_with PastInputLimit = reply TooLong []
reply_with (BadSpecification why) = reply BadSpec (codes "bad specification " ++ (why ++ codes "\n"))
reply_with (BadTypes why) = reply BadTyped (codes "bad types " ++ (why ++ codes "\n"))
reply_with (IsCircular why) = reply Circular (codes "circular " ++ (why ++ codes "\n"))
reply_with UnknownRole = reply Usage (codes "usage\n")
reply_with (BadSchedule why) = reply BadSched (codes "bad schedule " ++ (why ++ codes "\n"))
reply_with PastOutputLimit = reply TooLarge []
reply_with (NoReplyOf role) = reply BadReply (codes "bad reply " ++ (role ++ codes "\n"))

-- the reply is that of an output with P
abbrev pub Replies : (Output → Type 0) → Reply → Type 0
Replies P said = (output : Output) × P output × (said ≡ reply_with output)

-- the reply to a grammar that was not accepted; out of memory has none
abbrev pub RefusesGrammar : Refused → Reply → Type 0
RefusesGrammar (refused.Circular grammar rule occ) said = said ≡ reply_with (IsCircular (circle_text (words_of grammar) (record { rule = rule; occ = occ })))
RefusesGrammar refused.NoMemory said = ⊥

-- the reply to types with a fault; out of memory has none
abbrev pub RefusesTypes : Words → TypeFault → Reply → Type 0
RefusesTypes w (types.NoShape con) said = said ≡ reply_with (BadTypes (types_text w (NoShape con)))
RefusesTypes w (types.NoCarry sort) said = said ≡ reply_with (BadTypes (types_text w (NoCarry sort)))
RefusesTypes w (types.Rule rule place) said = said ≡ reply_with (BadTypes (types_text w (InRule rule place)))
RefusesTypes w types.NoMemory said = ⊥
