-- What comes of the front of an input.
use Rattle.std.proofs.Common.{◌≡◌, ℕ, ◌≤◌, ◌<◌, Bool, IsTrue, List, length, Option, None, Some, refl, sym, ap, ◌∙◌, subst}
use Rattle.std.specs.Prelude.{Result, Ok, Err, IfOk, IfErr}
use Rattle.aw_lex.specs.Lines.{lines_of}
use Rattle.aw_term.specs.Rules as R
use Rattle.aw_term.specs.Artifacts.{Words}
use Rattle.aw_grammar.specs.declared.grammar.Grammar.{Grammar}
use Rattle.aw_grammar.specs.GrammarOf.{grammar_of, words_of, declarations_of}
use Rattle.aw_grammar.specs.Declarations.{Declarations, grammar_in, words_in}
use Rattle.aw_grammar.proofs.Entries.{declared_grammar}
use Rattle.aw_accept.specs.declared.accepted.Accepted.{Accepted}
use Rattle.aw_accept.specs.declared.refused.Fault.{Fault}
use Rattle.aw_accept.specs.declared.refused.Refused as refused
use Rattle.aw_accept.specs.Circular.{LeastFault}
use Rattle.aw_accept.specs.Refusals.{Tells}
use Rattle.aw_iograph.specs.Dependence.{IO, HasNoCircle}
use Rattle.aw_typed.specs.TypeFaults.{Fault as TypeFault, type_fault}
use Rattle.aw_typed.specs.Typing.{types_of, IsMadeFor, TellsTypes}
use Rattle.aw_typed.specs.declared.data.Typed.{Typed}
use Rattle.aw_typed.specs.declared.data.Types.{Types}
use Rattle.aw_typed.specs.declared.data.TypeFault as told
use Rattle.aw_spec.specs.KindNames.{kind_name}
use Rattle.aw_spec.specs.Reading.{Spec, Good, Faulty, specification}
use Rattle.aw_spec.specs.declared.fault.SpecKind.{SpecKind}
use Rattle.aw_spec_writer.specs.SpecLines.{written}
use Rattle.aw_front.specs.declared.limit.TheConstants.{INPUT_LIMIT}
use Rattle.aw_front.specs.declared.reply.Reply.{Reply}
use Rattle.aw_front.specs.declared.front.Front.{Front}
use Rattle.aw_front.specs.declared.front.Front.TheVariants.{Ready, Refused}
use Rattle.aw_front.specs.declared.front.Opened.{Opened}
use Rattle.aw_front.specs.Refusals.{at_line}
use Rattle.aw_front.specs.Output.{Output, PastInputLimit, BadSpecification, ByFault, ByTypes, IfAccepted, IfTyped, OfAccepted}
use Rattle.aw_front.specs.Replies.{Replies, RefusesGrammar, RefusesTypes, reply_with}
use Rattle.aw_front.specs.Opening.{Opens}
use Rattle.aw_front.specs.Fronts.{IsFrontOf, IsJudged, IsReady, Nothing, ReadyOr}
use Rattle.aw_front.proofs.Inputs.{by-input-map, by-input-past, by-input-read}
use Rattle.aw_front.proofs.Verdicts.{bad-line, refuses-grammar, refuses-types, reply-same, types-hold}

-- ---- what is made for one command is made for another
typed-map : (w : Words) (P Q : Output → Type 0) → ((output : Output) → P output → Q output) → (found : Option TypeFault) (output : Output) → ByTypes w found P output → ByTypes w found Q output
typed-map w P Q f None output holds = f output holds
typed-map w P Q f (Some fault) output holds = holds

fault-map : (w : Words) (P Q : Output → Type 0) → ((output : Output) → P output → Q output) → (found : Option Fault) (output : Output) → ByFault w found P output → ByFault w found Q output
fault-map w P Q f None output holds = f output holds
fault-map w P Q f (Some fault) output holds = holds

accepted-map : (s : Spec) (P Q : Output → Type 0) → ((output : Output) → P output → Q output) → (output : Output) → IfAccepted s P output → IfAccepted s Q output
accepted-map s P Q f output holds = (holds.0, holds.1, fault-map (words_in s.declared) P Q f holds.0 output holds.2)

all-map : (s : Spec) (P Q : Output → Type 0) → ((output : Output) → P output → Q output) → (output : Output) → IfTyped s (IfAccepted s P) output → IfTyped s (IfAccepted s Q) output
all-map s P Q f output = typed-map (words_in s.declared) (IfAccepted s P) (IfAccepted s Q) (accepted-map s P Q f) (type_fault (types_of s.types) (grammar_in s.declared)) output

of-map : (P Q : Spec → Output → Type 0) → ((s : Spec) (output : Output) → P s output → Q s output) → (input : List ℕ) (output : Output) → OfAccepted P input output → OfAccepted Q input output
unfolding OfAccepted
of-map P Q f input output =
    by-input-map (λ s taken loads. IfTyped s (IfAccepted s (P s))) (λ s taken loads. IfTyped s (IfAccepted s (Q s))) (λ s taken loads. all-map s (P s) (Q s) (f s)) input output

-- what is refused is refused whatever the command
pub refused-of : (P : Spec → Output → Type 0) (input : List ℕ) (said : Reply) → Replies (OfAccepted (λ s. Nothing) input) said → Replies (OfAccepted P input) said
refused-of P input said (output, holds, is) = (output, of-map (λ s. Nothing) P (λ s o never. absurd never) input output holds, is)

-- ---- what comes of a specification that an input opens
pub opens-output : (P : Spec → Output → Type 0) (input : List ℕ) (s : Spec) (output : Output) → Opens input s → P s output → OfAccepted P input output
unfolding OfAccepted
opens-output P input s output o holds =
    by-input-read (λ s taken loads. IfTyped s (IfAccepted s (P s))) input (Good s o.taken o.loads) output o.within o.good
    (subst (λ found. ByTypes (words_in s.declared) found (IfAccepted s (P s)) output) (sym o.typed) (None, o.sound, holds))

pub of-past : (P : Spec → Output → Type 0) (input : List ℕ) → INPUT_LIMIT < length input → OfAccepted P input PastInputLimit
unfolding OfAccepted
of-past P input past = by-input-past (λ s taken loads. IfTyped s (IfAccepted s (P s))) input past

of-faulty : (P : Spec → Output → Type 0) (input : List ℕ) (line : ℕ) (kind : SpecKind) → length input ≤ INPUT_LIMIT →
    specification (lines_of input) ≡ Faulty line kind → OfAccepted P input (BadSpecification (at_line line (kind_name kind)))
unfolding OfAccepted
of-faulty P input line kind within faulty = by-input-read (λ s taken loads. IfTyped s (IfAccepted s (P s))) input (Faulty line kind)
    (BadSpecification (at_line line (kind_name kind))) within faulty refl

of-good : (P : Spec → Output → Type 0) (input : List ℕ) (s : Spec) (taken : ℕ) (loads : Bool) (output : Output) → length input ≤ INPUT_LIMIT →
    specification (lines_of input) ≡ Good s taken loads → IfTyped s (IfAccepted s (P s)) output → OfAccepted P input output
unfolding OfAccepted
of-good P input s taken loads output within good holds = by-input-read (λ s taken loads. IfTyped s (IfAccepted s (P s))) input (Good s taken loads) output within good holds

-- ---- the front itself
-- what stands ready behind acceptance
ready-accepted : (s : Spec) (writes : Bool) (o : Opened) (g : Grammar) (t : Types) → s.declared ≡ declarations_of g → s.types ≡ t →
    o.accepted.grammar ≡ g → o.typed.types ≡ t → IsMadeFor (grammar_of g) o.typed →
    HasNoCircle (grammar_of g) (IO (grammar_of g)) → (IsTrue writes → o.text ≡ written s) → IsReady s writes o
ready-accepted s writes o g t same typed accepted types made sound text = record {
  declared = same ∙ ap declarations_of (sym accepted);
  types = typed ∙ sym types;
  made = subst (λ (h : Grammar). IsMadeFor (grammar_of h) o.typed) (sym accepted) made;
  sound = subst (λ (d : Declarations). LeastFault (grammar_in d) None) (sym same) (subst (λ (h : R.Grammar). LeastFault h None) (declared_grammar g) sound);
  text = text;
}

-- the refusals of a grammar, of types and of a line, of one reply
pub front-circular : (said : Reply) (why : refused.Refused) (s : Spec) (g : Grammar) → s.declared ≡ declarations_of g → Tells g why → RefusesGrammar why said → Replies (IfAccepted s Nothing) said
front-circular said why s g same tells is = refuses-grammar {E = Unit {0}} (Ok said) why s g Nothing same tells is

-- what acceptance said, and the text
pub front-judged : (judged : Result Accepted Reply) (front : Front) (s : Spec) (writes : Bool) (g : Grammar) (t : Types) (typed : Typed)
    (text : List ℕ) → s.declared ≡ declarations_of g → s.types ≡ t → typed.types ≡ t → IsMadeFor (grammar_of g) typed →
    (IsTrue writes → text ≡ written s) → IsJudged g judged → IfOk judged (λ a. front ≡ Ready (record { accepted = a; typed = typed; text = text })) →
    IfErr judged (λ said. front ≡ Refused said) → ReadyOr (IfAccepted s Nothing) s writes front
front-judged (Ok a) front s writes g t typed text same known types made written_so said is none =
    subst (ReadyOr (IfAccepted s Nothing) s writes) (sym is) (ready-accepted s writes (record { accepted = a; typed = typed; text = text }) g t same known said.0 types made said.1 written_so)
front-judged (Err reply) front s writes g t typed text same known types made written_so said none is =
    subst (ReadyOr (IfAccepted s Nothing) s writes) (sym is) (said s same)

pub front-untyped : (said : Reply) (fault : told.TypeFault) (s : Spec) (g : Grammar) → s.declared ≡ declarations_of g → TellsTypes (types_of s.types)
    (grammar_of g) fault → RefusesTypes (words_of g) fault said → Replies (IfTyped s (IfAccepted s Nothing)) said
front-untyped said fault s g same tells is = refuses-types {E = Unit {0}} (Ok said) fault s g (IfAccepted s Nothing) same tells is

pub front-faulty : (said : Reply) (input : List ℕ) (line line' : ℕ) (kind kind' : SpecKind) → length input ≤ INPUT_LIMIT →
    specification (lines_of input) ≡ Faulty line kind → line' ≡ line → kind' ≡ kind →
    said ≡ reply_with (BadSpecification (at_line line' (kind_name kind'))) → Replies (OfAccepted (λ s. Nothing) input) said
front-faulty said input line line' kind kind' within faulty same_line same_kind is =
    reply-same {E = Unit {0}} (Ok said) (OfAccepted (λ s. Nothing) input) (BadSpecification (at_line line (kind_name kind))) (of-faulty (λ s. Nothing) input line kind within faulty)
    (bad-line {E = Unit {0}} (Ok said) line line' kind kind' same_line same_kind is)

-- the specification of an input, whose types have no fault and which is refused
pub front-refused : (said : Reply) (input : List ℕ) (s : Spec) (taken : ℕ) (loads : Bool) → length input ≤ INPUT_LIMIT →
    specification (lines_of input) ≡ Good s taken loads → Replies (IfTyped s (IfAccepted s Nothing)) said → Replies (OfAccepted (λ s. Nothing) input) said
front-refused said input s taken loads within good (output, holds, is) = (output, of-good (λ s. Nothing) input s taken loads output within good holds, is)

-- the specification that stands ready is opened by its input
pub ready-opens : (input : List ℕ) (s : Spec) (taken : ℕ) (loads writes : Bool) (o : Opened) → length input ≤ INPUT_LIMIT →
    specification (lines_of input) ≡ Good s taken loads → IsReady s writes o → Opens input s
ready-opens input s taken loads writes o within good ready =
    let found : type_fault (types_of s.types) (grammar_in s.declared) ≡ None =
    ap (λ (t : Types). type_fault (types_of t) (grammar_in s.declared)) ready.types
    ∙ ap (λ (d : Declarations). type_fault (types_of o.typed.types) (grammar_in d)) ready.declared
    ∙ ap (type_fault (types_of o.typed.types)) (sym (declared_grammar o.accepted.grammar)) ∙ ready.made.none in
    record { within = within; taken = taken; loads = loads; good = good; typed = found; sound = ready.sound }

-- types without a fault in front of what acceptance said
pub front-typed : (front : Front) (s : Spec) (writes : Bool) (g : Grammar) → s.declared ≡ declarations_of g → type_fault (types_of s.types)
    (grammar_of g) ≡ None → ReadyOr (IfAccepted s Nothing) s writes front → ReadyOr (IfTyped s (IfAccepted s Nothing)) s writes front
front-typed (Ready o) s writes g same none ready = ready
front-typed (Refused said) s writes g same none replies = types-hold {E = Unit {0}} (Ok said) s g (IfAccepted s Nothing) same none replies

-- the front of an input whose specification is good
pub front-good : (front : Front) (input : List ℕ) (s : Spec) (taken : ℕ) (loads writes : Bool) → length input ≤ INPUT_LIMIT →
    specification (lines_of input) ≡ Good s taken loads → ReadyOr (IfTyped s (IfAccepted s Nothing)) s writes front → IsFrontOf input writes front
front-good (Ready o) input s taken loads writes within good ready = (s, ready-opens input s taken loads writes o within good ready, ready)
front-good (Refused said) input s taken loads writes within good replies = front-refused said input s taken loads within good replies
