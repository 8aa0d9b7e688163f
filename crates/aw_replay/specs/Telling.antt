-- What telling events does: to a world, and to a text.
use Rattle.std.specs.Prelude.{◌≡◌, ◌≤◌, ℕ, Bool, List, [], ◌∷◌, ◌++◌, map, drop, take, codes, Some, ◌⊎◌}
use Rattle.std.specs.Fmt.{decimal}
use Rattle.std.specs.declared.result.Result.{Result}
use Rattle.std.specs.declared.result.Result.TheVariants.{Ok, Err}
use Rattle.aw_term.specs.Artifacts.{Item, Words}
use Rattle.aw_term.specs.Choices.{undivided}
use Rattle.aw_term.specs.Configs.{Config}
use Rattle.aw_term.specs.Runs.{artifacts, item_lines}
use Rattle.aw_term.specs.Rules.{Grammar, get}
use Rattle.aw_grammar.specs.declared.grammar.Grammar as made
use Rattle.aw_grammar.specs.GrammarOf.{grammar_of, words_of}
use Rattle.aw_choice.specs.ChoiceView.{choice_of}
use Rattle.aw_choice.specs.Events.{Event, Settles}
use Rattle.aw_msg.specs.declared.message.Message.{Message}
use Rattle.aw_msg.specs.MessageView.{message_of}
use Rattle.aw_out.specs.declared.error.PrintFault.{PrintFault}
use Rattle.aw_out.specs.Report.{Bounded, Prints}
use Rattle.aw_law_sites.specs.Bounds.{bound_of, settled}
use Rattle.aw_law_sites.specs.Outputs.{after_event, after_events, event_lines, all_lines, moves_of, all_moves, ending}
use Rattle.aw_law_sites.specs.Transcripts.{sent_lines, move_lines, settle_lines}
use Rattle.aw_law_sites.specs.Worlds as V
pub use Rattle.aw_replay.specs.Settling.{SettlingEnds}
use Rattle.aw_world.specs.declared.workspace.Workspace.{Ghosts}
use Rattle.aw_world.specs.declared.world.World.{World}
use Rattle.aw_world.specs.Shown.{Shows}
use Rattle.aw_world.specs.WorldView.{plain_of, named_by}

-- the lines of the messages of the program from a number on
abbrev pub sent_after : made.Grammar → ℕ → List Message → List ℕ
sent_after d n ms = sent_lines (words_of d) n (drop n (map (message_of (grammar_of d)) ms))

-- `undelivered 3`
abbrev pub undelivered_line : ℕ → List ℕ
undelivered_line n = codes "undelivered " ++ (decimal n ++ codes "\n")

-- `artifacts 2`
abbrev pub artifacts_line : ℕ → List ℕ
artifacts_line n = codes "artifacts " ++ (decimal n ++ codes "\n")

-- `list lab`, and a line for each of these items
abbrev pub listed : Words → ℕ → List Item → List ℕ
listed w role items = codes "list " ++ (get [] w.roles role ++ (codes "\n" ++ item_lines w items))

module _ {W : Type 0} (f : Ghosts W) where
  -- ---- one choice or delivery: whatever plain world is seen before, the one behind it is seen after
  abbrev pub Steps : World W f → World W f → V.Move → Type 0
  Steps old new e = (v : V.World) → Shows f old v → Shows f new (V.step (plain_of old) v e).world

  -- its lines were added to a text
  abbrev pub AddsStep : World W f → V.Move → List ℕ → List ℕ → Type 0
  AddsStep old e before after = (v : V.World) → Shows f old v → after ≡ before ++ move_lines (named_by old) v e (V.step (plain_of old) v e)

  -- it was made, or nothing was
  abbrev pub StepsOrNot : World W f → World W f → V.Move → Type 0
  StepsOrNot old new e = (v : V.World) → Shows f old v → Shows f new v ⊎ Shows f new (V.step (plain_of old) v e).world

  -- its lines are printed
  abbrev pub PrintsStep : World W f → V.Move → Bounded → Bounded → Result Unit PrintFault → Type 0
  PrintsStep w e old new result = (v : V.World) → Shows f w v → Prints (move_lines (named_by w) v e (V.step (plain_of w) v e)) old new result

  -- ---- settling
  abbrev pub IsSettled : World W f → World W f → Type 0
  IsSettled old new = (v : V.World) → Shows f old v → Shows f new (settled (plain_of old) v)

  -- some of its deliveries were made
  abbrev pub SettlesSome : World W f → World W f → Type 0
  SettlesSome old new = (v : V.World) → Shows f old v → (n : ℕ) × (n ≤ bound_of (plain_of old) v.taken) × Shows f new (V.settle n (plain_of old) v)

  -- ---- one event
  abbrev pub Does : World W f → World W f → Event → Type 0
  Does old new e = (v : V.World) → Shows f old v → Shows f new (after_event (plain_of old) v e)

  -- the text is its lines
  abbrev pub Tells : World W f → Event → List ℕ → Type 0
  Tells old e text = (v : V.World) → Shows f old v → text ≡ event_lines (named_by old) (plain_of old) v e

  -- its lines are printed
  abbrev pub PrintsEvent : World W f → Event → Bounded → Bounded → Result Unit PrintFault → Type 0
  PrintsEvent w e old new result = (v : V.World) → Shows f w v → Prints (event_lines (named_by w) (plain_of w) v e) old new result

  -- some first choices and deliveries of it were made
  abbrev pub DoesSome : World W f → World W f → Event → Type 0
  DoesSome old new e = (v : V.World) → Shows f old v → (n : ℕ) × Shows f new (V.run (plain_of old) v (take n (moves_of (plain_of old) v e)))

  -- ---- a list of events
  abbrev pub DoesAll : World W f → World W f → List Event → Type 0
  DoesAll old new es = (v : V.World) → Shows f old v → Shows f new (after_events (plain_of old) v es)

  -- their lines are printed
  abbrev pub PrintsAll : World W f → List Event → Bounded → Bounded → Result Unit PrintFault → Type 0
  PrintsAll w es old new result = (v : V.World) → Shows f w v → Prints (all_lines (named_by w) (plain_of w) v es) old new result

  -- some first choices and deliveries of theirs were made, in order; settling counts delivery by delivery
  abbrev pub DoesFirst : World W f → World W f → List Event → Type 0
  DoesFirst old new es = (v : V.World) → Shows f old v → (n : ℕ) × Shows f new (V.run (plain_of old) v (take n (all_moves (plain_of old) v es)))

  -- ---- behind all events
  abbrev pub PrintsEnding : World W f → Bounded → Bounded → Result Unit PrintFault → Type 0
  PrintsEnding w old new result = (v : V.World) → Shows f w v → Prints (ending (named_by w) (plain_of w) v) old new result

  -- the report with the ending behind what it had, or why it was not printed
  abbrev pub EndsReport : World W f → Bounded → Result Bounded PrintFault → Type 0
  EndsReport w old (Ok new) = PrintsEnding w old new (Ok tt)
  EndsReport w old (Err fault) = (new : Bounded) × PrintsEnding w old new (Err fault)

  -- the artifacts of the choices taken are printed
  abbrev pub PrintsQuiet : World W f → Bounded → Bounded → Result Unit PrintFault → Type 0
  PrintsQuiet w old new result = (c : Config) → undivided (plain_of w) [] (map choice_of w.taken.items) ≡ Some c → Prints (artifacts (named_by w) c) old new result

  -- ---- the world to begin with: no role holds anything, and no message was sent
  abbrev pub IsNew : World W f → Type 0
  IsNew w = Shows f w (V.empty_world (plain_of w) w.loads)
