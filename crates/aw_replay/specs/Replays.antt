-- A replay under way, and a schedule that is replayed while it is read.
use Rattle.std.specs.Prelude.{◌≡◌, ◌<◌, ℕ, Bool, true, false, List, [], ◌∷◌, ◌++◌, filter, length, map}
use Rattle.std.specs.declared.result.Result.{Result}
use Rattle.std.specs.declared.result.Result.TheVariants.{Ok, Err}
use Rattle.aw_term.specs.Rules.{Grammar}
use Rattle.aw_term.specs.WellFormed.{Each}
use Rattle.aw_accept.specs.declared.accepted.Accepted.{Accepted}
use Rattle.aw_choice.specs.Events.{Event}
use Rattle.aw_grammar.specs.GrammarOf.{grammar_of, words_of}
use Rattle.aw_law_worlds.specs.Headline.{HeadlineHolds}
use Rattle.aw_out.specs.declared.error.PrintFault.{PrintFault}
use Rattle.aw_out.specs.declared.error.PrintFault.TheVariants as fault
use Rattle.aw_out.specs.Report.{Bounded}
use Rattle.aw_law_sites.specs.Outputs.{MayStand, after_events, all_lines, moment, output_of}
use Rattle.aw_law_sites.specs.Worlds.{empty_world}
use Rattle.aw_sched.specs.Answers.{MayCome, event_seen}
use Rattle.aw_sched.specs.Readers.{AreRead, left}
use Rattle.aw_sched.specs.Schedules.{Events, FaultAt, Read}
use Rattle.aw_sched.specs.declared.event.Event as E
use Rattle.aw_sched.specs.declared.event.Event.TheVariants as event
use Rattle.aw_sched.specs.declared.reader.ScheduleReader.{ScheduleReader}
use Rattle.aw_world.specs.declared.workspace.Workspace.{Ghosts}
use Rattle.aw_world.specs.Shown.{Shows}
use Rattle.aw_world.specs.WorldView.{plain_of}
use Rattle.aw_world.specs.declared.world.World.{World}
use Rattle.aw_replay.specs.Faults.{after_end}
use Rattle.aw_replay.specs.Telling.{SettlingEnds}
use Rattle.aw_replay.specs.declared.stepwise.Replay.{Replay}
use Rattle.aw_replay.specs.declared.scheduled.Kept.{Kept}
use Rattle.aw_replay.specs.declared.scheduled.Kept.TheVariants.{All, Choices}
use Rattle.aw_replay.specs.declared.scheduled.ReplayFault.{ReplayFault}
use Rattle.aw_replay.specs.declared.scheduled.ReplayFault.TheVariants.{Bad, TooLarge, NoMemory}

-- the most bytes of an output
abbrev pub most : ℕ
most = 67108864

-- the lines of events from the world in which no site holds anything
abbrev pub lines_from_empty : Accepted → Bool → List Event → List ℕ
lines_from_empty a carried es = all_lines (words_of a.grammar) (grammar_of a.grammar) (empty_world (grammar_of a.grammar) carried) es

-- the whole output of events
abbrev pub whole_output : Accepted → Bool → List Event → List ℕ
whole_output a carried es = output_of (words_of a.grammar) (grammar_of a.grammar) carried es

module _ {W : Type 0} (f : Ghosts W) where
  -- a replay that is under way: its world, and what it has told
  abbrev pub Underway : Type 0
  Underway = World W f × Replay

  -- names are written by the grammar of the world
  abbrev pub IsNamed : Underway → Type 0
  IsNamed r = r.1.names.grammar.now ≡ r.0.accepted.now.grammar

  -- These events were replayed, of this grammar, with loads or without: the world is that behind them, and their lines were told.
  pub record HasTold (r : Underway) (a : Accepted) (carried : Bool) (es : List Event) : Type 0 where
    pub accepted : r.0.accepted.now ≡ a
    pub loads : r.0.loads ≡ carried
    pub shows : Shows f r.0 (after_events (grammar_of a.grammar) (empty_world (grammar_of a.grammar) carried) es)
    pub told : r.1.report ≡ record { text = lines_from_empty a carried es; limit = most }

  -- some first choices and deliveries of these events were made
  abbrev pub HasMadeFirst : World W f → Accepted → Bool → List Event → Type 0
  HasMadeFirst w a carried es = (n : ℕ) × Shows f w (moment (grammar_of a.grammar) carried es n)

  -- whatever events were replayed before, this one was replayed behind them
  abbrev pub TellsMore : Underway → Underway → Event → Type 0
  TellsMore old new e = (a : Accepted) (carried : Bool) (es : List Event) → HasTold old a carried es → HasTold new a carried (es ++ e ∷ [])

  -- whatever events were replayed before, some first choices and deliveries of these and this one were made
  abbrev pub MakesSome : Underway → Underway → Event → Type 0
  MakesSome old new e = (a : Accepted) (carried : Bool) (es : List Event) → HasTold old a carried es → HasMadeFirst new.0 a carried (es ++ e ∷ [])

  -- whatever events were replayed before, their lines and those of this one are too long together
  abbrev pub IsPastLimit : Underway → Event → Type 0
  IsPastLimit old e = (a : Accepted) (carried : Bool) (es : List Event) → HasTold old a carried es → most < length (lines_from_empty a carried (es ++ e ∷ []))

  -- whatever events were replayed, their whole output is told; or it is too long
  abbrev pub Ends : Underway → Result Bounded PrintFault → Type 0
  Ends r (Ok report) = (a : Accepted) (carried : Bool) (es : List Event) → HasTold r a carried es → report ≡ record { text = whole_output a carried es; limit = most }
  Ends r (Err fault.TooLarge) = (a : Accepted) (carried : Bool) (es : List Event) → HasTold r a carried es → most < length (whole_output a carried es)
  Ends r (Err fault.NoMemory) = Unit {0}

  -- whatever events were replayed, their whole output is told; or why it is not
  abbrev pub EndsWhole : Underway → Result Bounded ReplayFault → Type 0
  EndsWhole r result = (ended : Result Bounded PrintFault) × Ends r ended × (result ≡ after_end ended)

  -- Whatever events were replayed, if they may stand: however late, repeated or reordered their deliveries are, what is told is the
  -- same, and behind each settling no message is undelivered.
  abbrev pub HasHeadline : Underway → Type 0
  HasHeadline r = (a : Accepted) (carried : Bool) (es : List Event) → HasTold r a carried es → Each (MayStand (grammar_of a.grammar)) es →
      ∥ HeadlineHolds (words_of a.grammar) (grammar_of a.grammar) carried es ∥₁ × SettlingEnds (grammar_of a.grammar) carried es

-- ---- while a schedule is read
-- whether an event is replayed: all are, or choices alone
abbrev pub is_kept : Kept → E.Event → Bool
is_kept All e = true
is_kept Choices (event.Choose c) = true
is_kept Choices (event.Deliver message) = false
is_kept Choices event.Settle = false
is_kept Choices (event.List role) = false

-- those of the events that are replayed, in their order, as the definitions speak of them
abbrev pub kept_of : Kept → List E.Event → List Event
kept_of kept es = map event_seen (filter (is_kept kept) es)

-- what may be read by the one grammar, and is replayed, may come in the other
abbrev pub MayReplay : Kept → Grammar → Grammar → Type 0
MayReplay kept read replayed = (e : E.Event) → MayCome read e → is_kept kept e ≡ true → MayCome replayed e

module _ {W : Type 0} (f : Ghosts W) (kept : Kept) where
  -- whatever events were read before, and replayed where they are kept, so was this one behind them
  abbrev pub TellsKept : Underway f → Underway f → E.Event → Type 0
  TellsKept old new e = (a : Accepted) (carried : Bool) (before : List Event) (es : List E.Event) →
      HasTold f old a carried (before ++ kept_of kept es) → HasTold f new a carried (before ++ kept_of kept (es ++ e ∷ []))

  -- whatever events were read before, some first choices and deliveries of those that are kept and of this one were made
  abbrev pub MakesSomeKept : Underway f → Underway f → E.Event → Type 0
  MakesSomeKept old new e = (a : Accepted) (carried : Bool) (before : List Event) (es : List E.Event) →
      HasTold f old a carried (before ++ kept_of kept es) → HasMadeFirst f new.0 a carried (before ++ kept_of kept (es ++ e ∷ []))

  -- whatever events were read before, the lines of those that are kept and of this one are too long together
  abbrev pub IsKeptPastLimit : Underway f → E.Event → Type 0
  IsKeptPastLimit old e = (a : Accepted) (carried : Bool) (before : List Event) (es : List E.Event) →
      HasTold f old a carried (before ++ kept_of kept es) → most < length (lines_from_empty a carried (before ++ kept_of kept (es ++ e ∷ [])))

  -- All that was left of the schedule was read, and what is kept of it replayed; or the events up to one whose lines are too long with
  -- those before; or there is a fault.
  abbrev pub TellsLeft : ScheduleReader → Underway f → ScheduleReader → Underway f → Result Unit ReplayFault → Type 0
  TellsLeft reader old later new (Ok done) = (es : List E.Event) × AreRead reader es (Events []) ×
      ((a : Accepted) (carried : Bool) (before : List Event) → HasTold f old a carried before → HasTold f new a carried (before ++ kept_of kept es))
  TellsLeft reader old later new (Err TooLarge) = (es : List E.Event) × AreRead reader es (left later) ×
      ((a : Accepted) (carried : Bool) (before : List Event) → HasTold f old a carried before → most < length (lines_from_empty a carried (before ++ kept_of kept es)))
  TellsLeft reader old later new (Err (Bad line kind)) = left reader ≡ FaultAt line kind
  TellsLeft reader old later new (Err NoMemory) = Unit {0}

  -- some events were read, and some first choices and deliveries of those that are kept were made
  abbrev pub MakesSomeLeft : ScheduleReader → Underway f → Underway f → Type 0
  MakesSomeLeft reader old new = (es : List E.Event) × (later : Read) × AreRead reader es later ×
      ((a : Accepted) (carried : Bool) (before : List Event) → HasTold f old a carried before → HasMadeFirst f new.0 a carried (before ++ kept_of kept es))

-- Why a schedule is not replayed, if telling stopped with a fault and this was left then: output that is too long is told where what is left has
-- no fault, and else the first fault in it; any other fault is told as it is.
abbrev pub StopsWith : ScheduleReader → ReplayFault → ReplayFault → Type 0
StopsWith reader TooLarge TooLarge = (es : List E.Event) × AreRead reader es (Events [])
StopsWith reader TooLarge (Bad line kind) = left reader ≡ FaultAt line kind
StopsWith reader TooLarge NoMemory = Unit {0}
StopsWith reader (Bad line kind) told = told ≡ Bad line kind
StopsWith reader NoMemory told = told ≡ NoMemory

-- What is told of all events that were left of a schedule, as a text of them; or that it is too long; or the first faulty line, counted
-- from 1, and the first kind of fault there, whatever stands before it. Want of memory says nothing.
abbrev pub Tells : (List E.Event → List ℕ) → ScheduleReader → Result Bounded ReplayFault → Type 0
Tells text reader (Ok report) = (es : List E.Event) × AreRead reader es (Events []) × (report ≡ record { text = text es; limit = most })
Tells text reader (Err TooLarge) = (es : List E.Event) × AreRead reader es (Events []) × (most < length (text es))
Tells text reader (Err (Bad line kind)) = left reader ≡ FaultAt line kind
Tells text reader (Err NoMemory) = Unit {0}

-- the output of those that are kept is told
abbrev pub TellsOutput : Accepted → Bool → Kept → ScheduleReader → Result Bounded ReplayFault → Type 0
TellsOutput a carried kept reader result = Tells (λ es. whole_output a carried (kept_of kept es)) reader result

module _ {W : Type 0} (f : Ghosts W) (kept : Kept) where
  -- The output of those that are kept is told, and where it is told the world is that behind just these events.
  abbrev pub Replays : ScheduleReader → World W f → World W f → Result Bounded ReplayFault → Type 0
  Replays reader old new (Ok report) = (es : List E.Event) × AreRead reader es (Events []) ×
      (report ≡ record { text = whole_output old.accepted.now old.loads (kept_of kept es); limit = most }) ×
      Shows f new (after_events (plain_of old) (empty_world (plain_of old) old.loads) (kept_of kept es))
  Replays reader old new (Err fault) = TellsOutput old.accepted.now old.loads kept reader (Err fault)

  -- some events were read, and some first choices and deliveries of those that are kept were made
  abbrev pub ReplaysSome : ScheduleReader → World W f → World W f → Type 0
  ReplaysSome reader old new = (es : List E.Event) × (later : Read) × AreRead reader es later × HasMadeFirst f new old.accepted.now old.loads (kept_of kept es)
