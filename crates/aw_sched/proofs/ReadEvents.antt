-- Events that are read one after the other.
use Rattle.std.proofs.Common.{◌≡◌, ℕ, refl, ap, sym, subst, ◌∙◌, List, [], ◌∷◌, ◌++◌, map}
use Rattle.std.specs.Prelude.{Err, IfSome, None, Ok, Option, Result, Some}
use Rattle.aw_term.specs.WellFormed.{Each}
use Rattle.aw_term.proofs.Eaches.{each_append as each_more}
use Rattle.aw_grammar.specs.declared.grammar.Grammar.{Grammar}
use Rattle.aw_grammar.specs.GrammarOf.{grammar_of}
use Rattle.aw_typed.specs.Typing.{types_of}
use Rattle.aw_typed.specs.declared.data.Typed.{Typed}
use Rattle.aw_sched.specs.Events as P
use Rattle.aw_sched.specs.Schedules.{LineRead, Read, Events, FaultAt, in_front, with_event}
use Rattle.aw_sched.specs.Answers.{Answers, HasTypes, MayCome, event_seen}
use Rattle.aw_sched.specs.LineEvents.{ReadsLine, found_at, with_events}
use Rattle.aw_sched.specs.Readers.{AreRead, Passes, ReadsNext, ReadsOn, left}
use Rattle.aw_sched.specs.declared.fault.LineFault.{LineFault}
use Rattle.aw_sched.specs.declared.fault.LineFault.TheVariants.{Bad, NoMemory}
use Rattle.aw_sched.specs.declared.fault.SchedFault.{SchedFault}
use Rattle.aw_sched.specs.declared.fault.SchedFault.TheVariants.{Bad as Told, NoMemory as Unread}
use Rattle.aw_sched.specs.declared.event.Event.{Event}
use Rattle.aw_sched.specs.declared.fault.SchedKind.{SchedKind}
use Rattle.aw_sched.specs.declared.reader.ScheduleReader.{ScheduleReader}

pub with_last : (before : List Event) (e : Event) (later : Read) → with_events (map event_seen (before ++ e ∷ [])) later ≡ with_events (map event_seen before) (with_event (event_seen e) later)
with_last [] e later = refl
with_last (f ∷ fs) e later = ap (with_event (event_seen f)) (with_last fs e later)

pub with_fault : (before : List P.Event) (line : ℕ) (kind : SchedKind) → with_events before (FaultAt line kind) ≡ FaultAt line kind
with_fault [] line kind = refl
with_fault (e ∷ es) line kind = ap (with_event e) (with_fault es line kind)

pub with_none : (before : List P.Event) → with_events before (Events []) ≡ Events before
with_none [] = refl
with_none (e ∷ es) = ap (with_event e) (with_none es)

pub with_more : (before more : List Event) (later : Read) → with_events (map event_seen (before ++ more)) later ≡ with_events (map event_seen before) (with_events (map event_seen more) later)
with_more [] more later = refl
with_more (e ∷ es) more later = ap (with_event (event_seen e)) (with_more es more later)

-- what a line gives is what is read next
pub reads_on : (n : ℕ) (read : LineRead) (later : Read) (found : Result (Option Event) LineFault) → ReadsLine read found → ReadsOn (in_front n read later) (found_at n found) later
reads_on n read later (Ok None) h = ap (λ r. in_front n r later) h
reads_on n read later (Ok (Some e)) h = ap (λ r. in_front n r later) h
reads_on n read later (Err (Bad kind)) h = ap (λ r. in_front n r later) h
reads_on n read later (Err NoMemory) h = tt

-- where a line is not passed over, what it gives is next
pub next_is : (before middle after : Read) (found : Result (Option Event) SchedFault) → middle ≡ before → (found ≡ Ok None → ⊥) → ReadsOn middle found after → ReadsNext before found after
next_is before middle after (Ok None) same told h = absurd (told refl)
next_is before middle after (Ok (Some e)) same told h = sym same ∙ h
next_is before middle after (Err (Told line kind)) same told h = sym same ∙ h
next_is before middle after (Err Unread) same told h = tt

-- to begin with no event was read
pub none_read : (r : ScheduleReader) → AreRead r [] (left r)
none_read r = record { read = refl; come = tt; typed = tt }

module _ (r now : ScheduleReader) (es : List Event) (later : Read) (grammar : now.grammar.now ≡ r.grammar.now) (typed : now.typed.now ≡ r.typed.now) (before : AreRead r es (left now)) where
  -- the events that are read behind these
  pub more_read : (more : List Event) → AreRead now more later → AreRead r (es ++ more) later
  more_read more behind = record {
    read = before.read ∙ ap (with_events (map event_seen es)) behind.read ∙ sym (with_more es more later);
    come = each_more (MayCome (grammar_of r.grammar.now)) es more before.come (subst (λ (g : Grammar). Each (MayCome (grammar_of g)) more) grammar behind.come);
    typed = each_more (HasTypes (types_of r.typed.now.types) (grammar_of r.grammar.now)) es more before.typed
        (subst (λ (g : Grammar). Each (HasTypes (types_of r.typed.now.types) (grammar_of g)) more) grammar
        (subst (λ (t : Typed). Each (HasTypes (types_of t.types) (grammar_of now.grammar.now)) more) typed behind.typed));
  }

  -- one event more
  pub one_read : (e : Event) → left now ≡ with_event (event_seen e) later → MayCome (grammar_of now.grammar.now) e →
      HasTypes (types_of now.typed.now.types) (grammar_of now.grammar.now) e → AreRead r (es ++ e ∷ []) later
  one_read e is come fits = more_read (e ∷ []) (record { read = is; come = (come, tt); typed = (fits, tt) })

  -- the next event
  pub next_read : (now' : ScheduleReader) → later ≡ left now' → (found : Option Event) (e : Event) → found ≡ Some e → ReadsNext (left now) (Ok found)
      (left now') → IfSome found (MayCome (grammar_of now.grammar.now)) →
      IfSome found (HasTypes (types_of now.typed.now.types) (grammar_of now.grammar.now)) → AreRead r (es ++ e ∷ []) later
  next_read now' same found e is next come fits =
      one_read e (subst (λ o. ReadsNext (left now) (Ok o) (left now')) is next ∙ ap (with_event (event_seen e)) (sym same)) (subst (λ o. IfSome o (MayCome (grammar_of now.grammar.now))) is come)
      (subst (λ o. IfSome o (HasTypes (types_of now.typed.now.types) (grammar_of now.grammar.now))) is fits)

-- the end behind some events
pub end_read : (r now : ScheduleReader) (es : List Event) (found : Option Event) (after : Read) → found ≡ None → AreRead r es (left now) →
    ReadsNext (left now) (Ok found) after → AreRead r es (Events [])
end_read r now es found after is before next = record {
  read = before.read ∙ ap (with_events (map event_seen es)) (subst (λ o. ReadsNext (left now) (Ok o) after) is next);
  come = before.come;
  typed = before.typed;
}

-- a fault behind some events
pub fault_read : (r now : ScheduleReader) (es : List Event) (fault : SchedFault) (after : Read) → AreRead r es (left now) → ReadsNext (left now)
    (Err fault) after → ReadsNext (left r) (Err fault) after
fault_read r now es (Told line kind) after before next = before.read ∙ ap (with_events (map event_seen es)) next ∙ with_fault (map event_seen es) line kind
fault_read r now es Unread after before next = tt

pub fault_passes : (r now : ScheduleReader) (es : List Event) (fault : SchedFault) (after : Read) → AreRead r es (left now) → ReadsNext (left now) (Err fault) after → Passes r (Err fault)
fault_passes r now es (Told line kind) after before next = fault_read r now es (Told line kind) after before next
fault_passes r now es Unread after before next = tt

pub fault_answers : (r now : ScheduleReader) (es : List Event) (fault : SchedFault) (after : Read) → AreRead r es (left now) → ReadsNext (left now) (Err fault) after → Answers (left r) (Err fault)
fault_answers r now es (Told line kind) after before next = fault_read r now es (Told line kind) after before next
fault_answers r now es Unread after before next = tt
