-- What is promised of an accepted grammar and the events that were read for it, and of an input that spells them.
use Rattle.std.proofs.Common.{◌≡◌, ℕ, Bool, List, map, drop, None, sym, ap, ◌∙◌, subst, IfOk}
use Rattle.std.proofs.Math.Logic.{∥∥₁_map}
use Rattle.std.specs.declared.result.Result.{Result}
use Rattle.std.proofs.lemmas.Result.{IfOk-weaker}
use Rattle.aw_lex.specs.Lines.{lines_of}
use Rattle.aw_term.specs.Rules as P
use Rattle.aw_term.specs.Artifacts.{Words}
use Rattle.aw_term.specs.WellFormed.{Each}
use Rattle.aw_grammar.specs.declared.grammar.Grammar.{Grammar}
use Rattle.aw_grammar.specs.GrammarOf.{grammar_of, words_of, declarations_of}
use Rattle.aw_grammar.specs.Declarations.{Declarations, grammar_in, words_in}
use Rattle.aw_grammar.proofs.Entries.{declared_words, declared_grammar}
use Rattle.aw_accept.specs.declared.accepted.Accepted.{Accepted}
use Rattle.aw_accept.specs.declared.refused.Refused.{Refused}
use Rattle.aw_accept.specs.declared.refused.Refused.TheVariants as refused
use Rattle.aw_typed.specs.Types as T
use Rattle.aw_typed.specs.Types.{AreFor}
use Rattle.aw_typed.specs.TypeFaults.{type_fault}
use Rattle.aw_typed.specs.Typing.{types_of}
use Rattle.aw_typed.specs.declared.data.Types.{Types}
use Rattle.aw_typed.specs.declared.data.TypeFault.{TypeFault}
use Rattle.aw_typed.specs.declared.data.TypeFault.TheVariants as types
use Rattle.aw_spec.specs.Reading.{Spec, Reading, Good, Faulty, specification}
use Rattle.aw_sched.specs.Events as E
use Rattle.aw_sched.specs.declared.event.Event.{Event}
use Rattle.aw_sched.specs.declared.fault.SchedKind.{SchedKind}
use Rattle.aw_sched.specs.Answers.{event_seen, MayCome, HasTypes}
use Rattle.aw_sched.specs.Schedules.{Read, Events, FaultAt, read_lines}
use Rattle.aw_replay.proofs.Events.{all_may_stand}
use Rattle.aw_replay.proofs.Replays.{replay_headline, settling_ends}
use Rattle.aw_run.specs.declared.words.Job.{Job}
use Rattle.aw_run.specs.declared.words.Job.TheVariants.{Check, Tells}
use Rattle.aw_front.specs.declared.reply.Reply.{Reply}
use Rattle.aw_front.specs.declared.reply.Status.TheVariants.{Done}
use Rattle.aw_run.specs.Promises.{Promises, OfRead, OfSchedule, OfReading, OfEvents, IfTells}
use Rattle.aw_front.specs.Replies.{RefusesGrammar, RefusesTypes}
use Rattle.aw_run.proofs.TypedChoices.{read_fit, plain_typed, replay_typed}

-- what a fact about events is about
abbrev pub Fact : Type 1
Fact = T.Types → Words → P.Grammar → Bool → List E.Event → Type 0

-- the promises hold of what was read for an accepted grammar whose types have no fault
pub promises_hold : (a : Accepted) (t : T.Types) (loads : Bool) (es : List Event) → AreFor (grammar_of a.grammar) t → type_fault t (grammar_of a.grammar) ≡ None →
    Each (MayCome (grammar_of a.grammar)) es → Each (HasTypes t (grammar_of a.grammar)) es → Promises t (words_of a.grammar) (grammar_of a.grammar) loads (map event_seen es)
promises_hold a t loads es are none may fit =
    let w = words_of a.grammar in
    let g = grammar_of a.grammar in
    let events = map event_seen es in
    let stand = all_may_stand g es may in
    let headline = replay_headline a loads events stand in
    let fitting = read_fit t g es may fit in
    record {
      acyclic = ∥∥₁_map headline (λ h. h.acyclic);
      enabled = ∥∥₁_map headline (λ h. h.enabled);
      started = ∥∥₁_map headline (λ h. h.started);
      any_order = ∥∥₁_map headline (λ h. h.any_order);
      merged = ∥∥₁_map headline (λ h. h.merged);
      answers = ∥∥₁_map headline (λ h. h.answers);
      arrived = ∥∥₁_map headline (λ h. h.arrived);
      stays = ∥∥₁_map headline (λ h. h.stays);
      no_circle = ∥∥₁_map headline (λ h. h.no_circle);
      bounded = ∥∥₁_map headline (λ h. h.bounded);
      settles = settling_ends a loads events stand;
      typed_plain = ∥∥₁_map a.grammar.well_formed (λ formed. plain_typed t w g events formed are none fitting);
      typed_replay = ∥∥₁_map a.grammar.well_formed (λ formed. replay_typed t w g loads events formed are none fitting);
    }

module _ (F : Fact) where
  -- of a schedule that was read for the grammar of a specification
  pub good-schedule : (s : Spec) (g : Grammar) (loads : Bool) (schedule : List (List ℕ)) (events : List E.Event) (t : Types) → s.declared ≡ declarations_of g → s.types ≡ t →
      read_lines (types_of t) (declarations_of g) 1 schedule ≡ Events events → F (types_of t) (words_of g) (grammar_of g) loads events → OfSchedule F s loads schedule
  good-schedule s g loads schedule events t same typed good holds =
      let read : read_lines (types_of s.types) s.declared 1 schedule ≡ Events events =
      ap (λ (u : Types). read_lines (types_of u) s.declared 1 schedule) typed
      ∙ ap (λ (d : Declarations). read_lines (types_of t) d 1 schedule) same ∙ good in
      let in_grammar : F (types_of t) (words_of g) (grammar_in s.declared) loads events =
      subst (λ (h : P.Grammar). F (types_of t) (words_of g) h loads events) (declared_grammar g ∙ ap grammar_in (sym same)) holds in
      let in_words : F (types_of t) (words_in s.declared) (grammar_in s.declared) loads events =
      subst (λ (w : Words). F (types_of t) w (grammar_in s.declared) loads events) (declared_words g ∙ ap words_in (sym same)) in_grammar in
      subst (OfRead F s loads) (sym read) (subst (λ (u : Types). F (types_of u) (words_in s.declared) (grammar_in s.declared) loads events) (sym typed) in_words)

  pub bad-schedule : (s : Spec) (d : Declarations) (loads : Bool) (line : ℕ) (kind : SchedKind) (schedule : List (List ℕ)) (t : Types) →
      s.declared ≡ d → s.types ≡ t → read_lines (types_of t) d 1 schedule ≡ FaultAt line kind → OfSchedule F s loads schedule
  bad-schedule s d loads line kind schedule t same typed faulty =
      let read : read_lines (types_of s.types) s.declared 1 schedule ≡ FaultAt line kind =
      ap (λ (u : Types). read_lines (types_of u) s.declared 1 schedule) typed
      ∙ ap (λ (e : Declarations). read_lines (types_of t) e 1 schedule) same ∙ faulty in
      subst (OfRead F s loads) (sym read) tt

  -- of an input whose lines are this specification
  pub good-input : (job : Job) (input : List ℕ) (s : Spec) (taken : ℕ) (loads : Bool) (schedule : List (List ℕ)) →
      specification (lines_of input) ≡ Good s taken loads → schedule ≡ drop taken (lines_of input) →
      IfTells job (OfSchedule F s loads schedule) → IfTells job (OfEvents F input)
  good-input Check input s taken loads schedule good behind holds = tt
  good-input (Tells telling) input s taken loads schedule good behind holds = subst (OfReading F (lines_of input)) (sym good) (subst (OfSchedule F s loads) behind holds)

-- a refusal is not done
not-accepted-done : (r : Refused) (said : Reply) → RefusesGrammar r said → said.status ≡ Done → ⊥
not-accepted-done (refused.Circular grammar rule occ) said is done = cc (is, done)
not-accepted-done refused.NoMemory said is done = absurd is

pub refused-grammar : {E : Type 0} (result : Result Reply E) (r : Refused) (Q : Type 0) → IfOk result (λ said. RefusesGrammar r said) → IfOk result (λ said. said.status ≡ Done → Q)
refused-grammar result r Q = IfOk-weaker result _ _ (λ said is done. absurd (not-accepted-done r said is done))

not-typed-done : (w : Words) (fault : TypeFault) (said : Reply) → RefusesTypes w fault said → said.status ≡ Done → ⊥
not-typed-done w (types.NoShape con) said is done = cc (is, done)
not-typed-done w (types.NoCarry sort) said is done = cc (is, done)
not-typed-done w (types.Rule rule place) said is done = cc (is, done)
not-typed-done w types.NoMemory said is done = absurd is

pub refused-types : {E : Type 0} (result : Result Reply E) (w : Words) (fault : TypeFault) (Q : Type 0) → IfOk result (λ said. RefusesTypes w fault said) → IfOk result (λ said. said.status ≡ Done → Q)
refused-types result w fault Q = IfOk-weaker result _ _ (λ said is done. absurd (not-typed-done w fault said is done))

-- ---- one promise out of all
module _ (F : Fact) (one : (t : T.Types) (w : Words) (g : P.Grammar) (loads : Bool) (es : List E.Event) → Promises t w g loads es → F t w g loads es) where
  of-read : (s : Spec) (loads : Bool) (read : Read) → OfRead Promises s loads read → OfRead F s loads read
  of-read s loads (Events es) holds = one (types_of s.types) (words_in s.declared) (grammar_in s.declared) loads es holds
  of-read s loads (FaultAt line kind) holds = tt

  of-reading : (lines : List (List ℕ)) (reading : Reading) → OfReading Promises lines reading → OfReading F lines reading
  of-reading lines (Good s taken loads) holds = of-read s loads (read_lines (types_of s.types) s.declared 1 (drop taken lines)) holds
  of-reading lines (Faulty line kind) holds = tt

  pub one-promise : (input : List ℕ) → OfEvents Promises input → OfEvents F input
  one-promise input = of-reading (lines_of input) (specification (lines_of input))
