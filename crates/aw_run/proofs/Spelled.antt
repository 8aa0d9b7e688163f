-- What the input of a replay spells that is done.
use Rattle.std.proofs.Common.{◌≡◌, ◌≤◌, ℕ, Bool, true, false, cond, nat_lt, List, length, drop, MatchBool, Option, None, Some, refl, sym, subst, [], ◌∷◌}
use Rattle.std.specs.Prelude.{codes}
use Rattle.std.proofs.lemmas.Bool.{ltb-false}
use Rattle.aw_lex.specs.Lines.{lines_of}
use Rattle.aw_term.specs.Artifacts.{Words}
use Rattle.aw_term.specs.Rules.{Grammar}
use Rattle.aw_grammar.specs.Declarations.{grammar_in, words_in}
use Rattle.aw_accept.specs.Circular.{LeastFault}
use Rattle.aw_accept.specs.declared.refused.Fault.{Fault}
use Rattle.aw_typed.specs.Types.{Types}
use Rattle.aw_typed.specs.TypeFaults.{Fault as TypeFault, type_fault}
use Rattle.aw_typed.specs.Typing.{types_of}
use Rattle.aw_spec.specs.Reading.{Spec, Reading, Good, Faulty, specification}
use Rattle.aw_sched.specs.Events.{Event}
use Rattle.aw_sched.specs.Schedules.{Read, Events, FaultAt, read_lines}
use Rattle.aw_law_sites.specs.Outputs.{output_of}
use Rattle.aw_out.specs.declared.report.TheConstants.{OUTPUT_LIMIT}
use Rattle.aw_front.specs.declared.limit.TheConstants.{INPUT_LIMIT}
use Rattle.aw_front.specs.declared.reply.Reply.{Reply}
use Rattle.aw_front.specs.declared.reply.Status.TheVariants.{Done}
use Rattle.aw_run.specs.declared.words.Command.TheVariants.{Reads}
use Rattle.aw_run.specs.declared.words.Job.TheVariants.{Tells}
use Rattle.aw_run.specs.declared.words.Telling.TheVariants.{Replayed}
use Rattle.aw_front.specs.Output.{Writes, PastInputLimit, PastOutputLimit, ByFault, ByTypes, BySpecification, ByInput, IfAccepted}
use Rattle.aw_run.specs.Words.{command_of}
use Rattle.aw_run.specs.Output.{IsOutputOf, Makes, TellsSchedule, by_schedule}
use Rattle.aw_run.specs.OfInputs.{ForInput}
use Rattle.aw_run.specs.Promises.{OfEvents, OfRead, OfReading, OfSchedule, Promises, RepliesKeeping, ReplaysWith, WritesWith}
use Rattle.aw_run.proofs.Endings.{Says-kept}
use Rattle.aw_run.proofs.Promising.{Fact}

-- a text that is written within the limit is this one
within_cases : (b : Bool) (all text : List ℕ) → nat_lt OUTPUT_LIMIT (length all) ≡ b → Writes text ≡ cond b PastOutputLimit (Writes all) → (text ≡ all) × (length all ≤ OUTPUT_LIMIT)
within_cases true all text is written = absurd (cc written)
within_cases false all text is written = (cc written, ltb-false OUTPUT_LIMIT (length all) is)

-- a text that has Q and is written for an input, with what the input spells
module _ (F : Fact) (Q : List ℕ → Type 0) (input text : List ℕ) (has : Q text) (within : length input ≤ INPUT_LIMIT) where
  module _ (s : Spec) (taken : ℕ) (loads : Bool) (good : specification (lines_of input) ≡ Good s taken loads) where
    abbrev schedule : List (List ℕ)
    schedule = drop taken (lines_of input)

    spelled_events : type_fault (types_of s.types) (grammar_in s.declared) ≡ None → LeastFault (grammar_in s.declared) None → (read : Read) →
        read_lines (types_of s.types) s.declared 1 schedule ≡ read →
        Writes text ≡ by_schedule Replayed s taken loads read → OfRead F s loads read → ReplaysWith F input Q
    spelled_events typed sound (Events es) is written holds =
        let all = output_of (words_in s.declared) (grammar_in s.declared) loads es in
        let same = within_cases (nat_lt OUTPUT_LIMIT (length all)) all text refl written in (
          s,
          loads,
          es,
          text,
          record { within = within; spells = (taken, good, is); typed = typed; sound = sound; output = same.0; limit = subst (λ (t : List ℕ). length t ≤ OUTPUT_LIMIT) (sym same.0) same.1 },
          has,
          holds,
        )
    spelled_events typed sound (FaultAt line kind) is written holds = absurd (cc written)

    spelled_fault : type_fault (types_of s.types) (grammar_in s.declared) ≡ None → (found : Option Fault) → LeastFault (grammar_in s.declared) found →
        ByFault (words_in s.declared) found (TellsSchedule Replayed s taken loads schedule) (Writes text) → OfSchedule F s loads schedule → ReplaysWith F input Q
    spelled_fault typed None least told holds = spelled_events typed least (read_lines (types_of s.types) s.declared 1 schedule) refl told holds
    spelled_fault typed (Some fault) least told holds = absurd (cc told)

    spelled_types : (found : Option TypeFault) → type_fault (types_of s.types) (grammar_in s.declared) ≡ found → ByTypes (words_in s.declared) found
        (IfAccepted s (TellsSchedule Replayed s taken loads schedule)) (Writes text) →
        OfSchedule F s loads schedule → ReplaysWith F input Q
    spelled_types None is told holds = spelled_fault is told.0 told.1 told.2 holds
    spelled_types (Some fault) is told holds = absurd (cc told)

  spelled_reading : (reading : Reading) → specification (lines_of input) ≡ reading →
      BySpecification (λ s taken loads. Makes (Tells Replayed) s taken loads (drop taken (lines_of input))) reading (Writes text) →
      OfReading F (lines_of input) reading → ReplaysWith F input Q
  spelled_reading (Good s taken loads) is told holds = spelled_types s taken loads is (type_fault (types_of s.types) (grammar_in s.declared)) refl told holds
  spelled_reading (Faulty line kind) is told holds = absurd (cc told)

spelled_input : (F : Fact) (Q : List ℕ → Type 0) (input text : List ℕ) → Q text → (b : Bool) → nat_lt INPUT_LIMIT (length input) ≡ b →
    MatchBool b (Writes text ≡ PastInputLimit) (BySpecification (λ s taken loads. Makes (Tells Replayed) s taken loads (drop taken (lines_of input))) (specification (lines_of input)) (Writes text)) →
    OfEvents F input → ReplaysWith F input Q
spelled_input F Q input text has true is told holds = absurd (cc told)
spelled_input F Q input text has false is told holds = spelled_reading F Q input text has (ltb-false INPUT_LIMIT (length input) is) (specification (lines_of input)) refl told holds

spelled : (F : Fact) (Q : List ℕ → Type 0) (input : List ℕ) → WritesWith F (Tells Replayed) input Q → ReplaysWith F input Q
unfolding ByInput IsOutputOf
spelled F Q input writes = spelled_input F Q input writes.0.0 writes.0.2 (nat_lt INPUT_LIMIT (length input)) refl writes.0.1 writes.1

of_input : (left : Option (List ℕ)) (P R : List ℕ → Type 0) → ((input : List ℕ) → P input → R input) → ForInput left P → ForInput left R
of_input None P R f x = (x.0, f x.0 x.1)
of_input (Some input) P R f x = f input x

-- a replay that is done and keeps the promises has written the output of the events that its input spells, and each promise holds of these
pub Says-replayed : (F : Fact) → ((t : Types) (w : Words) (g : Grammar) (loads : Bool) (es : List Event) → Promises t w g loads es →
    F t w g loads es) → (left : Option (List ℕ)) (said : Reply) (Q : List ℕ → Type 0) →
    ForInput left (λ input. RepliesKeeping (Tells Replayed) input said) → said.status ≡ Done → Q said.text → ForInput left (λ input. ReplaysWith F input Q)
Says-replayed F one left said Q kept done text_has =
    of_input left (λ input. WritesWith F (Tells Replayed) input Q) (λ input. ReplaysWith F input Q) (spelled F Q) (Says-kept F one left Replayed said Q kept done text_has)

-- the word `replay` spells the command
pub asks-replay : (words : List (List ℕ)) → words ≡ codes "replay" ∷ [] → command_of words ≡ Some (Reads (Tells Replayed))
asks-replay words is = subst (λ (ws : List (List ℕ)). command_of ws ≡ Some (Reads (Tells Replayed))) (sym is) refl
