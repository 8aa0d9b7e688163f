-- The replies to a schedule that was read to its end, or to its first fault.
use Rattle.std.proofs.Common.{◌≡◌, ℕ, ◌+◌, ◌≤◌, ◌<◌, Bool, cond, List, [], length, map, Ok, Err, sym, ap, ◌∙◌, subst}
use Rattle.std.proofs.lemmas.Bool.{lt-ltb, le-ltb}
use Rattle.std.specs.declared.result.Result.{Result}
use Rattle.aw_lex.specs.Lines.{lines_of}
use Rattle.aw_term.specs.WellFormed.{Each}
use Rattle.aw_grammar.specs.declared.grammar.Grammar.{Grammar}
use Rattle.aw_grammar.specs.GrammarOf.{declarations_of, grammar_of}
use Rattle.aw_accept.specs.declared.accepted.Accepted.{Accepted}
use Rattle.aw_typed.specs.Types.{Types}
use Rattle.aw_typed.specs.Typing.{types_of, IsMadeFor}
use Rattle.aw_typed.specs.declared.data.Typed.{Typed}
use Rattle.aw_sched.specs.Answers.{HasTypes, MayCome, event_seen}
use Rattle.aw_sched.specs.KindNames.{kind_name as schedule_kind}
use Rattle.aw_sched.specs.Readers.{AreRead, left}
use Rattle.aw_sched.specs.Schedules.{Events, FaultAt, read_lines, schedule_of}
use Rattle.aw_sched.specs.declared.event.Event.{Event}
use Rattle.aw_sched.specs.declared.fault.SchedKind.{SchedKind}
use Rattle.aw_sched.specs.declared.reader.ScheduleReader.{ScheduleReader}
use Rattle.aw_sched.proofs.ReadEvents.{with_none}
use Rattle.aw_choice.specs.Events as E
use Rattle.aw_out.specs.Report.{Bounded}
use Rattle.aw_replay.specs.Replays.{MayReplay, TellsOutput, most, whole_output}
use Rattle.aw_replay.specs.declared.scheduled.Kept.TheVariants.{All}
use Rattle.aw_replay.specs.declared.scheduled.ReplayFault.{ReplayFault}
use Rattle.aw_replay.specs.declared.scheduled.ReplayFault.TheVariants as fault
use Rattle.aw_replay.proofs.WhileRead.{all_kept}
use Rattle.aw_front.specs.Output.{BadSchedule, PastOutputLimit, Writes}
use Rattle.aw_run.specs.Output.{within_limit}
use Rattle.aw_run.specs.Promises.{Promises}
use Rattle.aw_front.specs.Refusals.{at_line}
use Rattle.aw_front.specs.Replies.{reply, reply_with}
use Rattle.aw_run.specs.Scheduled.{KeepsPromises, RepliesTo, TellsLeft, told_of}
use Rattle.aw_front.specs.declared.reply.Reply.{Reply}
use Rattle.aw_front.specs.declared.reply.Status.TheVariants.{Done, TooLarge}
use Rattle.aw_run.specs.declared.words.Telling.{Telling}
use Rattle.aw_run.specs.declared.words.Telling.TheVariants.{Replayed}
use Rattle.aw_run.proofs.Outputs.{schedule-good, schedule-bad}
use Rattle.aw_run.proofs.Promising.{promises_hold, good-schedule, bad-schedule}

within_written : (text : List ℕ) → length text ≤ most → within_limit text ≡ Writes text
within_written text within = ap (λ b. cond b PastOutputLimit (Writes text)) (le-ltb most (length text) within)

past_limit : (text : List ℕ) → most < length text → within_limit text ≡ PastOutputLimit
past_limit text past = ap (λ b. cond b PastOutputLimit (Writes text)) (lt-ltb most (length text) past)

-- a reader of one grammar that has a whole schedule left has its lines left, read by the same grammar
pub read_all : (r : ScheduleReader) (types : Types) (g h : Grammar) (text : List ℕ) → left r ≡ schedule_of types (declarations_of g) text → g ≡ h →
    left r ≡ read_lines types (declarations_of h) 1 (lines_of text)
read_all r types g h text e same = e ∙ ap (λ (d : Grammar). read_lines types (declarations_of d) 1 (lines_of text)) same

-- an accepted grammar and its types, and a reader that has a whole schedule behind so many lines before it
module _ (telling : Telling) (a : Accepted) (t : Typed) (before : ℕ) (loads : Bool) (schedule : List (List ℕ)) (r : ScheduleReader)
    (all : left r ≡ read_lines (types_of t.types) (declarations_of a.grammar) 1 schedule) where
  whole : (es : List Event) → AreRead r es (Events []) → read_lines (types_of t.types) (declarations_of a.grammar) 1 schedule ≡ Events (map event_seen es)
  whole es read = sym all ∙ read.read ∙ with_none (map event_seen es)

  -- the output of its events
  pub replied : (es : List Event) → AreRead r es (Events []) → (text : List ℕ) → text ≡ told_of telling a loads es → length text ≤ most →
      (said : Reply) → said ≡ reply Done text → RepliesTo telling a t before loads schedule said
  replied es read text is within said e s same typed =
      e ∙ sym (ap reply_with (schedule-good telling s a.grammar before loads schedule (map event_seen es) t.types same typed (whole es read) ∙ ap within_limit (sym is) ∙ within_written text within))

  -- which is too long
  pub past : (es : List Event) → AreRead r es (Events []) → most < length (told_of telling a loads es) → (said : Reply) → said ≡ reply TooLarge [] → RepliesTo telling a t before loads schedule said
  past es read large said e s same typed =
      e ∙ sym (ap reply_with (schedule-good telling s a.grammar before loads schedule (map event_seen es) t.types same typed (whole es read) ∙ past_limit (told_of telling a loads es) large))

  -- what is promised of its events
  pub promised : IsMadeFor (grammar_of a.grammar) t → r.grammar.now ≡ a.grammar → r.typed.now ≡ t → (es : List Event) → AreRead r es (Events []) → KeepsPromises a t loads schedule
  promised made grammar typed es read s declared is =
      let come = subst (λ (g : Grammar). Each (MayCome (grammar_of g)) es) grammar read.come in
      let fit = subst (λ (g : Grammar). Each (HasTypes (types_of t.types) (grammar_of g)) es) grammar
      (subst (λ (y : Typed). Each (HasTypes (types_of y.types) (grammar_of r.grammar.now)) es) typed read.typed) in
      good-schedule Promises s a.grammar loads schedule (map event_seen es) t.types declared is (whole es read) (promises_hold a (types_of t.types) loads es made.sizes made.none come fit)

  -- a faulty line
  pub refused : (line : ℕ) (kind : SchedKind) → left r ≡ FaultAt line kind → (said : Reply) →
      said ≡ reply_with (BadSchedule (at_line (before + line) (schedule_kind kind))) → RepliesTo telling a t before loads schedule said
  refused line kind faulty said e s same typed = e ∙ sym (schedule-bad telling s (declarations_of a.grammar) before loads line kind schedule t.types same typed (sym all ∙ faulty))

  pub refused_promised : (line : ℕ) (kind : SchedKind) → left r ≡ FaultAt line kind → KeepsPromises a t loads schedule
  refused_promised line kind faulty s declared is = bad-schedule Promises s (declarations_of a.grammar) loads line kind schedule t.types declared is (sym all ∙ faulty)

-- every event may be replayed by the grammar that it was read by
pub all_may_replay : (a : Accepted) (r : ScheduleReader) → r.grammar.now ≡ a.grammar → MayReplay All (grammar_of r.grammar.now) (grammar_of a.grammar)
all_may_replay a r same e may kept = subst (λ (g : Grammar). MayCome (grammar_of g) e) same may

pub tells_replayed : (a : Accepted) (loads : Bool) (r : ScheduleReader) (result : Result Bounded ReplayFault) → TellsOutput a loads All r result → TellsLeft Replayed a loads r result
tells_replayed a loads r (Ok report) h = (h.0, h.1, h.2 ∙ ap (λ (es : List E.Event). record { text = whole_output a loads es; limit = most }) (all_kept h.0))
tells_replayed a loads r (Err fault.TooLarge) h = (h.0, h.1, subst (λ (es : List E.Event). most < length (whole_output a loads es)) (all_kept h.0) h.2)
tells_replayed a loads r (Err (fault.Bad line kind)) h = h
tells_replayed a loads r (Err fault.NoMemory) h = tt
