-- Events that are replayed while they are read.
use Rattle.std.proofs.Common.{◌≡◌, ◌<◌, Bool, true, false, List, [], ◌∷◌, ◌++◌, length, map, Ok, Err, refl, sym, ap, subst, ◌∙◌, append_assoc, append-nil}
use Rattle.std.specs.Prelude.{IfSome, None, OnErr, OnOk, Option, Some, filter}
use Rattle.std.specs.declared.result.Result.{Result}
use Rattle.std.proofs.lemmas.List.{map-append}
use Rattle.std.proofs.lemmas.List.Elements.{filter-append}
use Rattle.aw_accept.specs.declared.accepted.Accepted.{Accepted}
use Rattle.aw_choice.specs.Events as P
use Rattle.aw_grammar.specs.GrammarOf.{grammar_of}
use Rattle.aw_out.specs.Report.{Bounded}
use Rattle.aw_out.specs.declared.error.PrintFault.{PrintFault}
use Rattle.aw_out.specs.declared.error.PrintFault.TheVariants as print
use Rattle.aw_sched.specs.Answers.{HasTypes, MayCome, event_seen}
use Rattle.aw_sched.specs.LineEvents.{with_events}
use Rattle.aw_sched.specs.Readers.{AreRead, Passes, ReadsNext, left}
use Rattle.aw_sched.specs.Schedules.{Events, Read}
use Rattle.aw_sched.specs.declared.event.Event.{Event}
use Rattle.aw_sched.specs.declared.fault.SchedFault.{SchedFault}
use Rattle.aw_sched.specs.declared.fault.SchedFault.TheVariants as read
use Rattle.aw_sched.specs.declared.reader.ScheduleReader.{ScheduleReader}
use Rattle.aw_sched.proofs.ReadEvents.{end_read, fault_read, more_read, next_read, none_read, with_fault}
use Rattle.aw_typed.specs.Typing.{types_of}
use Rattle.aw_world.specs.declared.workspace.Workspace.{Ghosts}
use Rattle.aw_world.specs.declared.world.World.{World}
use Rattle.aw_replay.specs.Faults.{after_end, of_printing, of_schedule}
use Rattle.aw_replay.specs.Replays.{Ends, HasMadeFirst, HasTold, IsKeptPastLimit, IsPastLimit, MakesSome, MakesSomeKept, MakesSomeLeft, Replays, ReplaysSome, StopsWith}
use Rattle.aw_replay.specs.Replays.{TellsKept, TellsLeft, TellsMore, TellsOutput, Underway, is_kept, kept_of, lines_from_empty, most, whole_output}
use Rattle.aw_replay.specs.declared.scheduled.Kept.{Kept}
use Rattle.aw_replay.specs.declared.scheduled.Kept.TheVariants.{All}
use Rattle.aw_replay.specs.declared.scheduled.ReplayFault.{ReplayFault}
use Rattle.aw_replay.specs.declared.scheduled.ReplayFault.TheVariants.{Bad, TooLarge, NoMemory}
use Rattle.aw_replay.proofs.Tellings.{longer, made_all}

-- what is kept of some events and of those behind them
pub kept_more : (kept : Kept) (es fs : List Event) → kept_of kept (es ++ fs) ≡ kept_of kept es ++ kept_of kept fs
kept_more kept es fs = ap (map event_seen) (filter-append (is_kept kept) es fs) ∙ map-append event_seen (filter (is_kept kept) es) (filter (is_kept kept) fs)

filtered_one : (p : Event → Bool) (e : Event) → p e ≡ true → filter p (e ∷ []) ≡ e ∷ []
filtered_one p e stays = rw stays refl

filtered_none : (p : Event → Bool) (e : Event) → p e ≡ false → filter p (e ∷ []) ≡ []
filtered_none p e goes = rw goes refl

-- an event that is kept
pub kept_last : (kept : Kept) (before : List P.Event) (es : List Event) (e : Event) → is_kept kept e ≡ true → (before ++ kept_of kept es) ++ event_seen e ∷ [] ≡ before ++ kept_of kept (es ++ e ∷ [])
kept_last kept before es e stays =
    append_assoc before (kept_of kept es) (event_seen e ∷ [])
    ∙ ap (λ t. before ++ t) (ap (λ t. kept_of kept es ++ map event_seen t) (sym (filtered_one (is_kept kept) e stays)) ∙ sym (kept_more kept es (e ∷ [])))

-- an event that is not
pub kept_none : (kept : Kept) (before : List P.Event) (es : List Event) (e : Event) → is_kept kept e ≡ false → before ++ kept_of kept es ≡ before ++ kept_of kept (es ++ e ∷ [])
kept_none kept before es e goes =
    ap (λ t. before ++ t) (sym (append-nil (kept_of kept es)) ∙ ap (λ t. kept_of kept es ++ map event_seen t) (sym (filtered_none (is_kept kept) e goes)) ∙ sym (kept_more kept es (e ∷ [])))

-- all events are kept
pub all_kept : (es : List Event) → kept_of All es ≡ map event_seen es
all_kept [] = refl
all_kept (e ∷ es) = ap (λ t. event_seen e ∷ t) (all_kept es)

-- what is told of the events that are kept, whatever the world is behind them
told_of : {W : Type 0} (f : Ghosts W) (kept : Kept) (reader : ScheduleReader) (old new : World W f) (result : Result Bounded ReplayFault) → Replays f kept reader old new result →
    TellsOutput old.accepted.now old.loads kept reader result
told_of f kept reader old new (Ok report) h = (h.0, h.1, h.2)
told_of f kept reader old new (Err fault) h = h

-- the same, in a world of this grammar, with loads or without
pub told_in : {W : Type 0} (f : Ghosts W) (kept : Kept) (reader : ScheduleReader) (old new : World W f) (result : Result Bounded ReplayFault) (a : Accepted) (carried : Bool) →
    old.accepted.now ≡ a → old.loads ≡ carried → Replays f kept reader old new result → TellsOutput a carried kept reader result
told_in f kept reader old new result a carried same loads h =
    subst (λ (x : Accepted). TellsOutput x carried kept reader result) same (subst (λ z. TellsOutput old.accepted.now z kept reader result) loads (told_of f kept reader old new result h))

-- ---- one event
module _ {W : Type 0} (f : Ghosts W) (kept : Kept) where
  pub kept_told : (old new : Underway f) (e : Event) (result : Result Unit PrintFault) → is_kept kept e ≡ true →
      OnOk result (TellsMore f old new (event_seen e)) → OnOk result (TellsKept f kept old new e)
  kept_told old new e (Ok done) stays tells = λ a carried before es h. subst (HasTold f new a carried) (kept_last kept before es e stays) (tells a carried (before ++ kept_of kept es) h)
  kept_told old new e (Err fault) stays tells = tt

  pub passed_told : (r : Underway f) (e : Event) → is_kept kept e ≡ false → TellsKept f kept r r e
  passed_told r e goes a carried before es h = subst (HasTold f r a carried) (kept_none kept before es e goes) h

  pub kept_some : (old new : Underway f) (e : Event) (result : Result Unit PrintFault) → is_kept kept e ≡ true →
      OnErr result (MakesSome f old new (event_seen e)) → OnErr result (MakesSomeKept f kept old new e)
  kept_some old new e (Ok done) stays some = tt
  kept_some old new e (Err fault) stays some = λ a carried before es h. subst (HasMadeFirst f new.0 a carried) (kept_last kept before es e stays) (some a carried (before ++ kept_of kept es) h)

  pub kept_past : (old : Underway f) (e : Event) → is_kept kept e ≡ true → IsPastLimit f old (event_seen e) → IsKeptPastLimit f kept old e
  kept_past old e stays past a carried before es h = subst (λ xs. most < length (lines_from_empty a carried xs)) (kept_last kept before es e stays) (past a carried (before ++ kept_of kept es) h)

  -- ---- all that is left
  -- so many events were read, and replayed where they are kept
  abbrev pub AreTold : ScheduleReader → Underway f → ScheduleReader → Underway f → Type 0
  AreTold reader old now new =
      (es : List Event) × AreRead reader es (left now) × ((a : Accepted) (carried : Bool) (before : List P.Event) → HasTold f old a carried before →
      HasTold f new a carried (before ++ kept_of kept es))

  pub none_told : (reader : ScheduleReader) (old : Underway f) → AreTold reader old reader old
  none_told reader old = ([], none_read reader, λ a carried before h. subst (HasTold f old a carried) (sym (append-nil before)) h)

  -- and so some first choices and deliveries of them were made: all
  pub some_told : (reader now : ScheduleReader) (old mid : Underway f) → AreTold reader old now mid → MakesSomeLeft f kept reader old mid
  some_told reader now old mid told = (told.0, left now, told.1, λ a carried before h. made_all f mid a carried (before ++ kept_of kept told.0) (told.2 a carried before h))

  module _ (reader now later : ScheduleReader) (old mid : Underway f) (told : AreTold reader old now mid)
      (grammar : now.grammar.now ≡ reader.grammar.now) (typed : now.typed.now ≡ reader.typed.now) where
    module _ (found : Option Event) (e : Event) (is : found ≡ Some e) (next : ReadsNext (left now) (Ok found) (left later)) (come : IfSome found (MayCome (grammar_of now.grammar.now)))
        (fits : IfSome found (HasTypes (types_of now.typed.now.types) (grammar_of now.grammar.now))) where
      read_too : AreRead reader (told.0 ++ e ∷ []) (left later)
      read_too = next_read reader now told.0 (left later) grammar typed told.1 later refl found e is next come fits

      pub one_told : (new : Underway f) → TellsKept f kept mid new e → AreTold reader old later new
      one_told new tells = (told.0 ++ e ∷ [], read_too, λ a carried before h. tells a carried before told.0 (told.2 a carried before h))

      -- of the event that was read last some first choices and deliveries were made
      pub one_some : (new : Underway f) → MakesSomeKept f kept mid new e → MakesSomeLeft f kept reader old new
      one_some new some = (told.0 ++ e ∷ [], left later, read_too, λ a carried before h. some a carried before told.0 (told.2 a carried before h))

      pub print_fault : (new : Underway f) (fault : PrintFault) → (fault ≡ print.TooLarge → IsKeptPastLimit f kept mid e) → TellsLeft f kept reader old later new (Err (of_printing fault))
      print_fault new print.TooLarge past = (told.0 ++ e ∷ [], read_too, λ a carried before h. past refl a carried before told.0 (told.2 a carried before h))
      print_fault new print.NoMemory past = tt

    pub all_told : (found : Option Event) (after : Read) → found ≡ None → ReadsNext (left now) (Ok found) after → TellsLeft f kept reader old later mid (Ok tt)
    all_told found after is next = (told.0, end_read reader now told.0 found after is told.1 next, told.2)

    pub read_fault : (new : Underway f) (fault : SchedFault) (after : Read) → ReadsNext (left now) (Err fault) after → TellsLeft f kept reader old later new (Err (of_schedule fault))
    read_fault new (read.Bad line kind) after next = fault_read reader now told.0 (read.Bad line kind) after told.1 next
    read_fault new read.NoMemory after next = tt

  -- ---- the whole
  module _ (reader later : ScheduleReader) (old new : Underway f) (begun : HasTold f old old.0.accepted.now old.0.loads []) where
    pub whole_told : TellsLeft f kept reader old later new (Ok tt) → (result : Result Bounded PrintFault) → Ends f new result → Replays f kept reader old.0 new.0 (after_end result)
    whole_told told (Ok report) ends =
        let h = told.2 old.0.accepted.now old.0.loads [] begun in
        (told.0, told.1, ends old.0.accepted.now old.0.loads (kept_of kept told.0) h, h.shows)
    whole_told told (Err print.TooLarge) ends = (told.0, told.1, ends old.0.accepted.now old.0.loads (kept_of kept told.0) (told.2 old.0.accepted.now old.0.loads [] begun))
    whole_told told (Err print.NoMemory) ends = tt

    pub all_made : TellsLeft f kept reader old later new (Ok tt) → ReplaysSome f kept reader old.0 new.0
    all_made told = (told.0, Events [], told.1, made_all f new old.0.accepted.now old.0.loads (kept_of kept told.0) (told.2 old.0.accepted.now old.0.loads [] begun))

    pub some_made : MakesSomeLeft f kept reader old new → ReplaysSome f kept reader old.0 new.0
    some_made some = (some.0, some.1, some.2, some.3 old.0.accepted.now old.0.loads [] begun)

    whole_past : later.grammar.now ≡ reader.grammar.now → later.typed.now ≡ reader.typed.now → TellsLeft f kept reader old later new (Err TooLarge) → Passes later (Ok tt) →
        TellsOutput old.0.accepted.now old.0.loads kept reader (Err TooLarge)
    whole_past grammar typed told passed = (
      told.0 ++ passed.0,
      more_read reader later told.0 (Events []) grammar typed told.1 passed.0 passed.1,
      subst (λ xs. most < length (whole_output old.0.accepted.now old.0.loads xs)) (sym (kept_more kept told.0 passed.0))
          (longer old.0.accepted.now old.0.loads (kept_of kept told.0) (kept_of kept passed.0) (told.2 old.0.accepted.now old.0.loads [] begun)),
    )

    pub stopped : later.grammar.now ≡ reader.grammar.now → later.typed.now ≡ reader.typed.now → (fault result : ReplayFault) →
        TellsLeft f kept reader old later new (Err fault) → StopsWith later fault result →
        TellsOutput old.0.accepted.now old.0.loads kept reader (Err result)
    stopped grammar typed TooLarge TooLarge told passed = whole_past grammar typed told passed
    stopped grammar typed TooLarge (Bad line kind) told passed = told.1.read ∙ ap (with_events (map event_seen told.0)) passed ∙ with_fault (map event_seen told.0) line kind
    stopped grammar typed TooLarge NoMemory told passed = tt
    stopped grammar typed (Bad line kind) result told same = subst (λ z. TellsOutput old.0.accepted.now old.0.loads kept reader (Err z)) (sym same) told
    stopped grammar typed NoMemory result told same = subst (λ z. TellsOutput old.0.accepted.now old.0.loads kept reader (Err z)) (sym same) tt
