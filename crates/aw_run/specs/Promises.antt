-- What is promised of the events that an input spells behind a good specification, apart from what is written of them.
use Rattle.std.specs.Prelude.{◌≡◌, ℕ, suc, ◌+◌, ◌≤◌, Bool, true, List, [], ◌∷◌, ◌++◌, length, take, drop, Some, None, ◌⊎◌}
use Rattle.aw_list.specs.Members.{Member}
use Rattle.aw_out.specs.declared.report.TheConstants.{OUTPUT_LIMIT}
use Rattle.aw_lex.specs.Lines.{lines_of}
use Rattle.aw_term.specs.Trees.{Never}
use Rattle.aw_term.specs.Names.{Node, Ref, root}
use Rattle.aw_term.specs.Rules.{Ground, Rule, Grammar}
use Rattle.aw_term.specs.Configs.{Config}
use Rattle.aw_term.specs.Choices.{Choice, Start, Develop, Developed, Refused, Starts, Takes, undivided, answer}
use Rattle.aw_term.specs.Artifacts.{Words}
use Rattle.aw_term.specs.Runs.{after_all, artifacts}
use Rattle.aw_grammar.specs.Declarations.{grammar_in, words_in}
use Rattle.aw_iograph.specs.Dependence.{IO, HasNoCircle}
use Rattle.aw_accept.specs.Acyclic.{IsAcyclic}
use Rattle.aw_typed.specs.Types.{Types}
use Rattle.aw_typed.specs.Typing.{types_of}
use Rattle.aw_typed.specs.TypeFaults.{type_fault}
use Rattle.aw_typed.specs.WellTyped.{IsWellTyped}
use Rattle.aw_spec.specs.Reading.{Spec, Reading, Good, Faulty, specification}
use Rattle.aw_sched.specs.Events.{Event, Chooses as Chose}
use Rattle.aw_sched.specs.Schedules.{Read, Events, FaultAt, read_lines}
use Rattle.aw_law_sites.specs.Laws.{SameChoices}
use Rattle.aw_law_sites.specs.Homes.{home}
use Rattle.aw_law_sites.specs.Choosing.{outcome, answer_to, choose}
use Rattle.aw_law_sites.specs.Bounds.{bound_of}
use Rattle.aw_law_sites.specs.Worlds.{Chooses, site_at, node_of, empty_world, IsQuiet}
use Rattle.aw_law_sites.specs.Outputs.{after_events, all_lines, all_moves, moment, output_of}
use Rattle.aw_law_worlds.specs.Arriving.{AnswersByArrivals}
use Rattle.aw_law_worlds.specs.Holding.{EquationsStay, NodesStay, HoldsConfig, MeetsNoCircle}
use Rattle.aw_replay.specs.Settling.{SettlingEnds}
use Rattle.aw_replay.specs.ChoicesIn.{choices_in}
use Rattle.aw_front.specs.declared.limit.TheConstants.{INPUT_LIMIT}
use Rattle.aw_run.specs.Output.{IsOutputOf}
use Rattle.aw_run.specs.OfInputs.{WritesSome}
use Rattle.aw_front.specs.Replies.{Replies}
use Rattle.aw_front.specs.declared.reply.Reply.{Reply}
use Rattle.aw_front.specs.declared.reply.Status.TheVariants.{Done}
use Rattle.aw_run.specs.declared.words.Job.{Job}
use Rattle.aw_run.specs.declared.words.Job.TheVariants.{Check, Tells}

-- Of a specification with these types, words and grammar, with loads or without, and of the events behind it:

-- At each moment the choices taken have an undivided configuration, and it is acyclic.
abbrev pub StaysAcyclic : Types → Words → Grammar → (loads : Bool) → List Event → Type 0
StaysAcyclic t w g loads es = ∥ ((n : ℕ) → (c : Config) × (undivided g [] (moment g loads es n).taken ≡ Some c) × IsAcyclic (IO g) c) ∥₁

-- A rule that is enabled at a site is so at the next moment, with the same bound references, or its node is developed.
abbrev pub RulesStayEnabled : Types → Words → Grammar → (loads : Bool) → List Event → Type 0
RulesStayEnabled t w g loads es =
    ∥ ((n a : ℕ) (node : Node) (r : ℕ) (args : List Ground) (rule : Rule) (bound : List Ref) →
    outcome g (site_at (moment g loads es n) a) (Develop node r args) ≡ Takes rule bound →
    (outcome g (site_at (moment g loads es (suc n)) a) (Develop node r args) ≡ Takes rule bound)
    ⊎ (outcome g (site_at (moment g loads es (suc n)) a) (Develop node r args) ≡ Refused Developed)) ∥₁

-- A start that is enabled is so at the next moment, if it was not chosen.
abbrev pub StartsStayEnabled : Types → Words → Grammar → (loads : Bool) → List Event → Type 0
StartsStayEnabled t w g loads es =
    ∥ ((n s k : ℕ) → outcome g (site_at (moment g loads es n) (home g (root s k))) (Start s k) ≡ Starts →
    (Member (Chooses (Start s k)) (take (suc n) (all_moves g (empty_world g loads) es)) → Never) →
    outcome g (site_at (moment g loads es (suc n)) (home g (root s k))) (Start s k) ≡ Starts) ∥₁

-- Once every message was delivered, the artifacts behind the lines of all events are those of the same choices, undivided, in any order that is allowed.
abbrev pub WritesAnyOrder : Types → Words → Grammar → (loads : Bool) → List Event → Type 0
WritesAnyOrder t w g loads es =
    ∥ (IsQuiet (after_events g (empty_world g loads) es) →
    (ds : List Choice) → SameChoices (after_events g (empty_world g loads) es).taken ds → (d : Config) → undivided g [] ds ≡ Some d →
    output_of w g loads es ≡ all_lines w g (empty_world g loads) es ++ artifacts w d) ∥₁

-- Wherever every message was delivered the sites hold just the undivided configuration of the same choices, in any order that is allowed.
abbrev pub SitesMerge : Types → Words → Grammar → (loads : Bool) → List Event → Type 0
SitesMerge t w g loads es =
    ∥ ((n : ℕ) → IsQuiet (moment g loads es n) →
    (ds : List Choice) → SameChoices (moment g loads es n).taken ds → (d : Config) → undivided g [] ds ≡ Some d → HoldsConfig g (moment g loads es n) d) ∥₁

-- And each site answers each choice as that configuration does.
abbrev pub SitesAnswerAsOne : Types → Words → Grammar → (loads : Bool) → List Event → Type 0
SitesAnswerAsOne t w g loads es =
    ∥ ((n : ℕ) → IsQuiet (moment g loads es n) → (d : Config) → undivided g [] (moment g loads es n).taken ≡ Some d → (x : Choice) →
    answer_to (choose g (site_at (moment g loads es n) (home g (node_of x))) x) ≡ answer g d x) ∥₁

-- A choice is answered by its role's own choices and the messages delivered to it, and taken exactly where it is enabled by these.
abbrev pub ArrivalsAnswer : Types → Words → Grammar → (loads : Bool) → List Event → Type 0
ArrivalsAnswer t w g loads es = ∥ ((before behind : List Event) (c : Choice) → es ≡ before ++ Chose c ∷ behind → AnswersByArrivals w g loads before c) ∥₁

-- What a site knows stays from each moment on: its equations, each guard that is decided, with the same bound references, and its nodes.
abbrev pub KnowledgeStays : Types → Words → Grammar → (loads : Bool) → List Event → Type 0
KnowledgeStays t w g loads es =
    ∥ ((n k a : ℕ) → EquationsStay (site_at (moment g loads es n) a).equations (site_at (moment g loads es (n + k)) a).equations
    × NodesStay (site_at (moment g loads es n) a).held (site_at (moment g loads es (n + k)) a).held) ∥₁

-- At no moment does anything wait for itself.
abbrev pub NothingCircles : Types → Words → Grammar → (loads : Bool) → List Event → Type 0
NothingCircles t w g loads es = ∥ ((n : ℕ) → MeetsNoCircle g (moment g loads es n)) ∥₁

-- At each moment there are at most as many messages as the choices taken allow.
abbrev pub MessagesStayFew : Types → Words → Grammar → (loads : Bool) → List Event → Type 0
MessagesStayFew t w g loads es = ∥ ((n : ℕ) → length (moment g loads es n).messages ≤ bound_of g (moment g loads es n).taken) ∥₁

-- Behind each settling no message is undelivered.
abbrev pub Settled : Types → Words → Grammar → (loads : Bool) → List Event → Type 0
Settled t w g loads es = SettlingEnds g loads es

-- Where there are types, the undivided configuration that the first n choices leave is well typed, for each n.
abbrev pub PlainIsTyped : Types → Words → Grammar → (loads : Bool) → List Event → Type 0
PlainIsTyped t w g loads es = ∥ (t.typed ≡ true → (n : ℕ) → IsWellTyped t g (after_all g [] (take n (choices_in es)))) ∥₁

-- Where there are types, the undivided configuration of the choices taken is well typed at each moment.
abbrev pub ReplayIsTyped : Types → Words → Grammar → (loads : Bool) → List Event → Type 0
ReplayIsTyped t w g loads es = ∥ (t.typed ≡ true → (n : ℕ) (c : Config) → undivided g [] (moment g loads es n).taken ≡ Some c → IsWellTyped t g c) ∥₁

-- all of this
pub record Promises (t : Types) (w : Words) (g : Grammar) (loads : Bool) (es : List Event) : Type 0 where
  pub acyclic : StaysAcyclic t w g loads es
  pub enabled : RulesStayEnabled t w g loads es
  pub started : StartsStayEnabled t w g loads es
  pub any_order : WritesAnyOrder t w g loads es
  pub merged : SitesMerge t w g loads es
  pub answers : SitesAnswerAsOne t w g loads es
  pub arrived : ArrivalsAnswer t w g loads es
  pub stays : KnowledgeStays t w g loads es
  pub no_circle : NothingCircles t w g loads es
  pub bounded : MessagesStayFew t w g loads es
  pub settles : Settled t w g loads es
  pub typed_plain : PlainIsTyped t w g loads es
  pub typed_replay : ReplayIsTyped t w g loads es

-- P of the events of a schedule behind this specification, where no line of it is at fault
abbrev pub OfRead : (Types → Words → Grammar → Bool → List Event → Type 0) → Spec → (loads : Bool) → Read → Type 0
OfRead P s loads (Events es) = P (types_of s.types) (words_in s.declared) (grammar_in s.declared) loads es
OfRead P s loads (FaultAt line kind) = Unit {0}

-- P of the events that these lines spell behind this specification, where none of them is at fault
abbrev pub OfSchedule : (Types → Words → Grammar → Bool → List Event → Type 0) → Spec → (loads : Bool) → List (List ℕ) → Type 0
OfSchedule P s loads schedule = OfRead P s loads (read_lines (types_of s.types) s.declared 1 schedule)

-- P of the schedule that these lines hold behind their specification, where that is good
abbrev pub OfReading : (Types → Words → Grammar → Bool → List Event → Type 0) → List (List ℕ) → Reading → Type 0
OfReading P lines (Good s taken loads) = OfSchedule P s loads (drop taken lines)
OfReading P lines (Faulty line kind) = Unit {0}

-- P of the specification and the events that an input spells, where it spells them
abbrev pub OfEvents : (Types → Words → Grammar → Bool → List Event → Type 0) → List ℕ → Type 0
OfEvents P input = OfReading P (lines_of input) (specification (lines_of input))

-- a job that tells a schedule has P
abbrev pub IfTells : Job → Type 0 → Type 0
IfTells Check P = Unit {0}
IfTells (Tells telling) P = P

-- this is a reply of the job to the input, and where it is done and tells a schedule the promises hold
abbrev pub RepliesKeeping : Job → List ℕ → Reply → Type 0
RepliesKeeping job input said = Replies (IsOutputOf job input) said × (said.status ≡ Done → IfTells job (OfEvents Promises input))

-- the job makes a text of the input, that text has P, and of the events that the input spells F holds
abbrev pub WritesWith : (Types → Words → Grammar → Bool → List Event → Type 0) → Job → List ℕ → (List ℕ → Type 0) → Type 0
WritesWith F job input P = WritesSome job input P × OfEvents F input

-- A replay of the input writes this text: the input is within its limit and spells a specification, whose types have no fault and whose
-- grammar has no circle, and behind it these events; and the text is their whole output, within its limit.
pub record IsReplayOf (input : List ℕ) (s : Spec) (loads : Bool) (es : List Event) (text : List ℕ) : Type 0 where
  pub within : length input ≤ INPUT_LIMIT
  pub spells : (taken : ℕ) × (specification (lines_of input) ≡ Good s taken loads) × (read_lines (types_of s.types) s.declared 1 (drop taken (lines_of input)) ≡ Events es)
  pub typed : type_fault (types_of s.types) (grammar_in s.declared) ≡ None
  pub sound : HasNoCircle (grammar_in s.declared) (IO (grammar_in s.declared))
  pub output : text ≡ output_of (words_in s.declared) (grammar_in s.declared) loads es
  pub limit : length text ≤ OUTPUT_LIMIT

-- the text that a replay of the input writes has P, and of the events that the input spells F holds
abbrev pub ReplaysWith : (Types → Words → Grammar → Bool → List Event → Type 0) → List ℕ → (List ℕ → Type 0) → Type 0
ReplaysWith F input P =
    (s : Spec) × (loads : Bool) × (es : List Event) × (text : List ℕ) × IsReplayOf input s loads es text × P text × F (types_of s.types) (words_in s.declared) (grammar_in s.declared) loads es
