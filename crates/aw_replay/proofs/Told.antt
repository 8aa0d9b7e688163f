-- What the sites of one role told of the choices among events is what the undivided run tells of them.
use Rattle.std.proofs.Common.{◌≡◌, ℕ, false, List, map, subst, sym, ap, ◌∙◌}
use Rattle.std.proofs.Math.Logic.{∥∥₁_elim}
use Rattle.std.proofs.Props.{props}
use Rattle.aw_term.specs.Rules as P
use Rattle.aw_term.specs.Artifacts.{Words}
use Rattle.aw_term.specs.Runs.{plain_text}
use Rattle.aw_term.specs.WellFormed.{Each}
use Rattle.aw_grammar.specs.GrammarOf.{grammar_of, words_of}
use Rattle.aw_accept.specs.declared.accepted.Accepted.{Accepted}
use Rattle.aw_law_sites.specs.Laws.{IsAccepted}
use Rattle.aw_law_sites.specs.Outputs.{output_of}
use Rattle.aw_sched.specs.declared.event.Event.{Event}
use Rattle.aw_sched.specs.Answers.{event_seen, MayCome}
use Rattle.aw_replay.specs.UnitedLaws.{TakesSameChoices}
use Rattle.aw_replay.specs.United.{united, united_words}
use Rattle.aw_replay.specs.ChoicesIn.{choices_in}
use Rattle.aw_replay.specs.Choosing.{choices_among}
use Rattle.aw_replay.specs.Laws.{UnitedTellsUndivided}
use Rattle.aw_replay.proofs.Chosen.{chosen_seen, chosen_ok, chosen_may_come}

texts : IsSet (List ℕ)
texts = hlevel props

-- an accepted grammar, the same with one role, and the choices among events that may come
module _ (a one : Accepted) (words : words_of one.grammar ≡ united_words (words_of a.grammar)) (grammar : grammar_of one.grammar ≡ united (grammar_of a.grammar))
    (events chosen : List Event) (among : chosen ≡ choices_among events) (may : Each (MayCome (grammar_of a.grammar)) events) where
  pub may_come : TakesSameChoices (grammar_of a.grammar) → Each (MayCome (grammar_of one.grammar)) chosen
  may_come same =
      subst (λ h. Each (MayCome h) chosen) (sym grammar)
      (subst (Each (MayCome (united (grammar_of a.grammar)))) (sym among) (chosen_may_come (grammar_of a.grammar) same events may))

  pub told : ((w : Words) (g : P.Grammar) → IsAccepted w g → UnitedTellsUndivided w g) →
      output_of (words_of one.grammar) (grammar_of one.grammar) false (map event_seen chosen) ≡ plain_text (words_of a.grammar) (grammar_of a.grammar) (choices_in (map event_seen events))
  told law =
      let w = words_of a.grammar in
      let g = grammar_of a.grammar in
      ap (λ v. output_of v (grammar_of one.grammar) false (map event_seen chosen)) words
      ∙ ap (λ h. output_of (united_words w) h false (map event_seen chosen)) grammar
      ∙ ap (λ es. output_of (united_words w) (united g) false (map event_seen es)) among
      ∙ ap (output_of (united_words w) (united g) false) (chosen_seen events)
      ∙ ∥∥₁_elim a.grammar.well_formed (texts _ _) (λ formed. ∥∥₁_elim a.sound (texts _ _) (λ sound. law w g (formed, sound) (choices_in (map event_seen events)) (chosen_ok g events may)))
