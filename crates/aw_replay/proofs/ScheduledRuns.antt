-- What the sites of one role told of the choices of a schedule is what the undivided run tells of them.
use Rattle.std.proofs.Common.{◌≡◌, ◌<◌, ℕ, true, false, List, [], ◌∷◌, length, map, Ok, Err, refl, sym, ap, subst, ◌∙◌}
use Rattle.std.specs.Prelude.{filter}
use Rattle.std.specs.declared.result.Result.{Result}
use Rattle.aw_term.specs.Artifacts.{Words}
use Rattle.aw_term.specs.Rules as P
use Rattle.aw_term.specs.WellFormed.{Each}
use Rattle.aw_accept.specs.declared.accepted.Accepted.{Accepted}
use Rattle.aw_choice.specs.ChoiceView.{choice_of}
use Rattle.aw_grammar.specs.declared.grammar.Grammar.{Grammar}
use Rattle.aw_grammar.specs.GrammarOf.{grammar_of, words_of}
use Rattle.aw_law_sites.specs.Laws.{IsAccepted}
use Rattle.aw_out.specs.Report.{Bounded}
use Rattle.aw_replay.specs.Replays.{MayReplay, TellsOutput, is_kept, kept_of, most, whole_output}
use Rattle.aw_replay.specs.declared.scheduled.Kept.TheVariants.{Choices}
use Rattle.aw_replay.specs.declared.scheduled.ReplayFault.{ReplayFault}
use Rattle.aw_replay.specs.declared.scheduled.ReplayFault.TheVariants.{Bad, TooLarge, NoMemory}
use Rattle.aw_sched.specs.Answers.{MayCome, event_seen}
use Rattle.aw_sched.specs.Readers.{AreRead}
use Rattle.aw_sched.specs.Schedules.{Events}
use Rattle.aw_sched.specs.declared.event.Event.{Event}
use Rattle.aw_sched.specs.declared.event.Event.TheVariants.{Choose, Deliver, Settle, List as Lists}
use Rattle.aw_sched.specs.declared.reader.ScheduleReader.{ScheduleReader}
use Rattle.aw_replay.specs.UnitedLaws.{TakesSameChoices}
use Rattle.aw_replay.specs.United.{united, united_words}
use Rattle.aw_replay.specs.ChoicesIn.{undivided_text}
use Rattle.aw_replay.specs.Choosing.{choices_among}
use Rattle.aw_replay.specs.Laws.{UnitedTellsUndivided}
use Rattle.aw_replay.specs.Scheduled.{RunsUndivided}
use Rattle.aw_replay.proofs.Told.{told}

-- a choice that may be asked of a grammar may be so where all sorts are at one role
may_one : (g : P.Grammar) → TakesSameChoices g → (e : Event) → MayCome g e → is_kept Choices e ≡ true → MayCome (united g) e
may_one g same (Choose c) may kept = same (choice_of c) ∙ may
may_one g same (Deliver message) may kept = tt
may_one g same Settle may kept = tt
may_one g same (Lists role) may kept = absurd (cc kept)

pub may_replay : (a one : Accepted) (read : Grammar) → read ≡ a.grammar → grammar_of one.grammar ≡ united (grammar_of a.grammar) →
    TakesSameChoices (grammar_of a.grammar) → MayReplay Choices (grammar_of read) (grammar_of one.grammar)
may_replay a one read is grammar same e may kept =
    subst (λ h. MayCome h e) (sym grammar) (may_one (grammar_of a.grammar) same e (subst (λ (d : Grammar). MayCome (grammar_of d) e) is may) kept)

kept_same : (es : List Event) → filter (is_kept Choices) es ≡ choices_among es
kept_same [] = refl
kept_same (Choose c ∷ es) = ap (λ t. Choose c ∷ t) (kept_same es)
kept_same (Deliver message ∷ es) = kept_same es
kept_same (Settle ∷ es) = kept_same es
kept_same (Lists role ∷ es) = kept_same es

-- an accepted grammar and the same with one role, and a reader of schedules of that grammar
module _ (a one : Accepted) (words : words_of one.grammar ≡ united_words (words_of a.grammar)) (grammar : grammar_of one.grammar ≡ united (grammar_of a.grammar))
    (law : (w : Words) (g : P.Grammar) → IsAccepted w g → UnitedTellsUndivided w g) (reader : ScheduleReader) (is : reader.grammar.now ≡ a.grammar) where
  module _ (es : List Event) (read : AreRead reader es (Events [])) where
    text_same : whole_output one false (kept_of Choices es) ≡ undivided_text a.grammar (map event_seen es)
    text_same = told a one words grammar es (filter (is_kept Choices) es) (kept_same es) (subst (λ (d : Grammar). Each (MayCome (grammar_of d)) es) is read.come) law

  pub runs : (result : Result Bounded ReplayFault) → TellsOutput one false Choices reader result → RunsUndivided a reader result
  runs (Ok report) h = (h.0, h.1, h.2 ∙ ap (λ (t : List ℕ). record { text = t; limit = most }) (text_same h.0 h.1))
  runs (Err TooLarge) h = (h.0, h.1, subst (λ (t : List ℕ). most < length t) (text_same h.0 h.1) h.2)
  runs (Err (Bad line kind)) h = h
  runs (Err NoMemory) h = tt
