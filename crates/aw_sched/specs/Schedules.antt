-- The events of a schedule, or its first faulty line and the first kind of fault there. The arguments of its choices are of these types.
use Rattle.std.specs.Prelude.{ℕ, suc, Bool, true, List, [], ◌∷◌, Option, None, Some, Result, Ok, Err, if◌then◌else◌}
use Rattle.aw_lex.specs.Lines.{lines_of, passed_over}
use Rattle.aw_lex.specs.Tokens.{tokens_of}
use Rattle.aw_lex.specs.declared.token.Token.{Token}
use Rattle.aw_term_reader.specs.Lexemes.{lexemes}
use Rattle.aw_term.specs.Rules.{Grammar}
use Rattle.aw_grammar.specs.Declarations.{Declarations, grammar_in}
use Rattle.aw_typed.specs.Types.{Types}
use Rattle.aw_typed.specs.TypeFaults.{arg_ok}
use Rattle.aw_sched.specs.Lines.{Line, line_of}
use Rattle.aw_sched.specs.Events.{Event, Chooses, Delivers, Settles, Lists, event_of, line_kind}
use Rattle.aw_sched.specs.declared.fault.SchedKind.{SchedKind}
use Rattle.aw_sched.specs.declared.fault.SchedKind.TheVariants.{Token as BadToken, Form, Misfit as BadType}

-- what a line gives: nothing, where it is passed over; an event; or a fault
pub data LineRead : Type 0 where
  Nothing : LineRead
  Gives : (event : Event) → LineRead
  Faulty : (kind : SchedKind) → LineRead

-- the arguments of a choice fit the types of its rule's parameters
abbrev pub event_fits : Types → Grammar → Event → Bool
event_fits t g (Chooses x) = arg_ok t g x
event_fits t g (Delivers message) = true
event_fits t g Settles = true
event_fits t g (Lists role) = true

-- an event whose arguments do not fit is at fault
abbrev pub by_type : Types → Grammar → Event → LineRead
by_type t g e = if event_fits t g e then Gives e else Faulty BadType

-- a line is at fault by its kind, and then by the types of what it asks for
abbrev pub by_kind : Types → Declarations → Line → Option SchedKind → LineRead
by_kind t d line None = by_type t (grammar_in d) (event_of d line)
by_kind t d line (Some kind) = Faulty kind

-- what a line gives, where its lexemes spell one
abbrev pub by_form : Types → Declarations → Option Line → LineRead
by_form t d None = Faulty Form
by_form t d (Some line) = by_kind t d line (line_kind d line)

-- what a line gives, where its bytes are tokens
abbrev pub by_tokens : Types → Declarations → List ℕ → Result (List Token) ℕ → LineRead
by_tokens t d bytes (Ok tokens) = by_form t d (line_of (lexemes bytes tokens))
by_tokens t d bytes (Err at) = Faulty BadToken

-- what the bytes of a line give
abbrev pub read_line : Types → Declarations → List ℕ → LineRead
read_line t d bytes = if passed_over bytes then Nothing else by_tokens t d bytes (tokens_of bytes)

-- the events of all lines, or the number of the first faulty line and the first kind of fault there
pub data Read : Type 0 where
  Events : (events : List Event) → Read
  FaultAt : (line : ℕ) → (kind : SchedKind) → Read

-- an event before those of the lines behind it, where none of these is at fault
abbrev pub with_event : Event → Read → Read
with_event e (Events es) = Events (e ∷ es)
with_event e (FaultAt line kind) = FaultAt line kind

-- what comes of a line with this number, where the lines behind it give `later`
abbrev pub in_front : ℕ → LineRead → Read → Read
in_front n Nothing later = later
in_front n (Gives e) later = with_event e later
in_front n (Faulty kind) later = FaultAt n kind

-- the lines from number n on
abbrev pub read_lines : Types → Declarations → ℕ → List (List ℕ) → Read
read_lines t d n [] = Events []
read_lines t d n (line ∷ lines) = in_front n (read_line t d line) (read_lines t d (suc n) lines)

-- a whole schedule, its lines counted from 1
abbrev pub schedule_of : Types → Declarations → List ℕ → Read
schedule_of t d text = read_lines t d 1 (lines_of text)
