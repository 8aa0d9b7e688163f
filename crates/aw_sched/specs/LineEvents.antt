-- What a line gives, part by part.
use Rattle.std.specs.Prelude.{◌≡◌, ℕ, Bool, true, false, ◌||◌, not, List, [], ◌∷◌, map, Option, None, Some, Result, Ok, Err, is_some, slice_get}
use Rattle.aw_name_index.specs.Places.{number_of, stands, first_told}
use Rattle.aw_term.specs.Names.{Node}
use Rattle.aw_term.specs.Rules.{Grammar, sort_of}
use Rattle.aw_term.specs.Views.{ground_of}
use Rattle.aw_term.specs.declared.ground.Ground.{Ground}
use Rattle.aw_grammar.specs.Written.{Written}
use Rattle.aw_grammar.specs.Kinds.{all_have_arities}
use Rattle.aw_grammar.specs.Declarations.{Declarations, con_names, rule_names}
use Rattle.aw_base.specs.ChoiceFits.{args_ok}
use Rattle.aw_sched.specs.Events as P
use Rattle.aw_sched.specs.Events.{args_are_past, args_unknown, ground_named}
use Rattle.aw_sched.specs.Answers.{event_seen}
use Rattle.aw_sched.specs.Schedules.{LineRead, Nothing, Gives, Faulty as BadLine, Read, with_event}
use Rattle.aw_sched.specs.declared.fault.SchedFault.{SchedFault}
use Rattle.aw_sched.specs.declared.fault.SchedFault.TheVariants as fault
use Rattle.aw_sched.specs.declared.event.Event.{Event}
use Rattle.aw_sched.specs.declared.lookup.NodeSaid.{NodeSaid}
use Rattle.aw_sched.specs.declared.lookup.NodeSaid.TheVariants.{Valid, Long, Faulty}
use Rattle.aw_sched.specs.declared.fault.SchedKind.{SchedKind}
use Rattle.aw_sched.specs.declared.fault.SchedKind.TheVariants.{Limit, Unknown, Arity}
use Rattle.aw_sched.specs.declared.fault.LineFault.{LineFault}
use Rattle.aw_sched.specs.declared.fault.LineFault.TheVariants.{Bad, NoMemory}

-- the event, or the kind of fault; out of memory says nothing
abbrev pub GivesEvent : Option SchedKind → P.Event → Result Event LineFault → Type 0
GivesEvent kind event (Ok e) = (kind ≡ None) × (event ≡ event_seen e)
GivesEvent kind event (Err (Bad k)) = kind ≡ Some k
GivesEvent kind event (Err NoMemory) = Unit {0}

-- whether a node name is too long, and else the valid node that it names
abbrev pub SaysNode : Grammar → Bool → Option Node → NodeSaid → Type 0
SaysNode g long named (Valid n) = (long ≡ false) × ((named ≡ Some n) × (is_some (sort_of g n) ≡ true))
SaysNode g long named Long = long ≡ true
SaysNode g long named Faulty = (long ≡ false) × (named ≡ None)

-- what is wrong with a chosen rule and its arguments
abbrev pub args_kind : Declarations → List ℕ → List Written → Option SchedKind
args_kind d rule args =
    first_told
    ((args_are_past args, Limit)
    ∷ (not (stands rule (rule_names d)) || args_unknown d args, Unknown)
    ∷ (not (all_have_arities d.cons args), Arity)
    ∷ [])

-- a declared rule, and arguments within their limits
pub record AreFound (d : Declarations) (g : Grammar) (rule : List ℕ) (args : List Written) (place : ℕ) (grounds : List Ground) : Type 0 where
  pub kind : args_kind d rule args ≡ None
  pub number : number_of rule (rule_names d) ≡ place
  pub found : map (ground_named (con_names d)) args ≡ map ground_of grounds
  pub declared : is_some (slice_get g.rules place) ≡ true
  pub fit : args_ok g (map ground_of grounds) ≡ true

-- the place of a rule and its arguments as they are found, or the first kind of fault in them
abbrev pub GivesArgs : Declarations → Grammar → List ℕ → List Written → Result (ℕ × List Ground) LineFault → Type 0
GivesArgs d g rule args (Ok x) = AreFound d g rule args x.0 x.1
GivesArgs d g rule args (Err (Bad k)) = args_kind d rule args ≡ Some k
GivesArgs d g rule args (Err NoMemory) = Unit {0}

-- what reading a line answers: nothing, an event, or the kind of fault; out of memory says nothing
abbrev pub ReadsLine : LineRead → Result (Option Event) LineFault → Type 0
ReadsLine read (Ok None) = read ≡ Nothing
ReadsLine read (Ok (Some e)) = read ≡ Gives (event_seen e)
ReadsLine read (Err (Bad kind)) = read ≡ BadLine kind
ReadsLine read (Err NoMemory) = Unit {0}

-- events in front of what is read behind them
abbrev pub with_events : List P.Event → Read → Read
with_events [] read = read
with_events (e ∷ es) read = with_event e (with_events es read)

-- the fault of the line with this number
abbrev pub fault_at : ℕ → LineFault → SchedFault
fault_at line (Bad kind) = fault.Bad line kind
fault_at line NoMemory = fault.NoMemory

-- what was found in the line with this number
abbrev pub found_at : ℕ → Result (Option Event) LineFault → Result (Option Event) SchedFault
found_at line (Ok found) = Ok found
found_at line (Err fault) = Err (fault_at line fault)
