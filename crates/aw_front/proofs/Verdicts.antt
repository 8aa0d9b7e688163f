-- Replies by what acceptance found.
use Rattle.std.proofs.Common.{◌≡◌, ℕ, None, Some, sym, ap, ◌∙◌, subst, IfOk}
use Rattle.std.specs.declared.result.Result.{Result}
use Rattle.std.proofs.lemmas.Result.{IfOk-weaker}
use Rattle.aw_term.specs.Rules as R
use Rattle.aw_term.specs.Artifacts.{Words}
use Rattle.aw_grammar.specs.declared.grammar.Grammar.{Grammar}
use Rattle.aw_grammar.specs.GrammarOf.{grammar_of, words_of, declarations_of}
use Rattle.aw_grammar.specs.Declarations.{Declarations, grammar_in, words_in}
use Rattle.aw_grammar.proofs.Entries.{declared_words, declared_grammar}
use Rattle.aw_iograph.specs.Dependence.{IO, HasNoCircle}
use Rattle.aw_accept.specs.declared.refused.Fault.{Fault}
use Rattle.aw_accept.specs.declared.refused.Refused.{Refused}
use Rattle.aw_accept.specs.declared.refused.Refused.TheVariants.{Circular, NoMemory}
use Rattle.aw_accept.specs.Circular.{LeastFault}
use Rattle.aw_accept.specs.Refusals.{Tells}
use Rattle.aw_check_text.specs.Told.{circle_text}
use Rattle.aw_spec.specs.KindNames.{kind_name}
use Rattle.aw_spec.specs.Reading.{Spec}
use Rattle.aw_spec.specs.declared.fault.SpecKind.{SpecKind}
use Rattle.aw_typed.specs.TypeFaults as F
use Rattle.aw_typed.specs.TypeFaults.{type_fault}
use Rattle.aw_typed.specs.Typing.{types_of, TellsTypes}
use Rattle.aw_typed.specs.declared.data.TypeFault.{TypeFault}
use Rattle.aw_typed.specs.declared.data.TypeFault.TheVariants as types
use Rattle.aw_front.specs.Refusals.{at_line, types_text}
use Rattle.aw_front.specs.declared.reply.Reply.{Reply}
use Rattle.aw_front.specs.Output.{Output, BadSpecification, BadTypes, IsCircular, ByTypes, IfTyped, IfAccepted}
use Rattle.aw_front.specs.Replies.{Replies, RefusesGrammar, RefusesTypes, reply_with}

-- the grammar is accepted
pub accepted-then : (s : Spec) (g : Grammar) (P : Output → Type 0) (output : Output) → s.declared ≡ declarations_of g → HasNoCircle (grammar_of g)
    (IO (grammar_of g)) → P output → IfAccepted s P output
accepted-then s g P output same sound holds =
    (None, subst (λ (d : Declarations). LeastFault (grammar_in d) None) (sym same) (subst (λ (h : R.Grammar). LeastFault h None) (declared_grammar g) sound), holds)

-- it has a circle
pub circular-then : (s : Spec) (g : Grammar) (P : Output → Type 0) (fault : Fault) → s.declared ≡ declarations_of g → LeastFault (grammar_of g)
    (Some fault) → IfAccepted s P (IsCircular (circle_text (words_of g) fault))
circular-then s g P fault same least = (
  Some fault,
  subst (λ (d : Declarations). LeastFault (grammar_in d) (Some fault)) (sym same) (subst (λ (h : R.Grammar). LeastFault h (Some fault)) (declared_grammar g) least),
  ap (λ (w : Words). IsCircular (circle_text w fault)) (declared_words g ∙ ap words_in (sym same)),
)

refuses : (refused : Refused) (s : Spec) (g : Grammar) (P : Output → Type 0) (said : Reply) → s.declared ≡ declarations_of g → Tells g refused →
    RefusesGrammar refused said → Replies (IfAccepted s P) said
refuses (Circular grammar rule occ) s g P said same tells is =
    let fault : Fault = record { rule = rule; occ = occ } in
    (IsCircular (circle_text (words_of g) fault), circular-then s g P fault same tells.1, is ∙ ap (λ (h : Grammar). reply_with (IsCircular (circle_text (words_of h) fault))) tells.0)
refuses NoMemory s g P said same tells is = absurd is

-- the refusal of a grammar is a reply
pub refuses-grammar : {E : Type 0} (result : Result Reply E) (refused : Refused) (s : Spec) (g : Grammar) (P : Output → Type 0) →
    s.declared ≡ declarations_of g → Tells g refused → IfOk result (λ said. RefusesGrammar refused said) → IfOk result (λ said. Replies (IfAccepted s P) said)
refuses-grammar result refused s g P same tells = IfOk-weaker result _ _ (λ said is. refuses refused s g P said same tells is)

-- what holds of each output
pub reply-map : {E : Type 0} (result : Result Reply E) (P Q : Output → Type 0) → ((output : Output) → P output → Q output) → IfOk result (λ said. Replies P said) → IfOk result (λ said. Replies Q said)
reply-map result P Q f = IfOk-weaker result _ _ (λ said is. (is.0, f is.0 is.1, is.2))

-- the reply to an accepted grammar is one
pub accepts-grammar : {E : Type 0} (result : Result Reply E) (s : Spec) (g : Grammar) (P : Output → Type 0) → s.declared ≡ declarations_of g →
    HasNoCircle (grammar_of g) (IO (grammar_of g)) → IfOk result (λ said. Replies P said) → IfOk result (λ said. Replies (IfAccepted s P) said)
accepts-grammar result s g P same sound = reply-map result P (IfAccepted s P) (λ output. accepted-then s g P output same sound)

-- the types have no fault
pub types-hold : {E : Type 0} (result : Result Reply E) (s : Spec) (g : Grammar) (P : Output → Type 0) → s.declared ≡ declarations_of g →
    type_fault (types_of s.types) (grammar_of g) ≡ None → IfOk result (λ said. Replies P said) → IfOk result (λ said. Replies (IfTyped s P) said)
types-hold result s g P same none =
    let found : type_fault (types_of s.types) (grammar_in s.declared) ≡ None = ap (λ (d : Declarations). type_fault (types_of s.types) (grammar_in d))
    same ∙ ap (type_fault (types_of s.types)) (sym (declared_grammar g)) ∙ none in
    reply-map result P (IfTyped s P) (λ output holds. subst (λ o. ByTypes (words_in s.declared) o P output) (sym found) holds)

-- they have one
fault-told : (s : Spec) (g : Grammar) (P : Output → Type 0) (fault : F.Fault) (said : Reply) → s.declared ≡ declarations_of g →
    type_fault (types_of s.types) (grammar_of g) ≡ Some fault → said ≡ reply_with (BadTypes (types_text (words_of g) fault)) → Replies (IfTyped s P) said
fault-told s g P fault said same some is =
    let found : type_fault (types_of s.types) (grammar_in s.declared) ≡ Some fault =
    ap (λ (d : Declarations). type_fault (types_of s.types) (grammar_in d)) same ∙ ap (type_fault (types_of s.types)) (sym (declared_grammar g)) ∙ some in
    let told : BadTypes (types_text (words_of g) fault) ≡ BadTypes (types_text (words_in s.declared) fault) =
    ap (λ (w : Words). BadTypes (types_text w fault)) (declared_words g ∙ ap words_in (sym same)) in
    (BadTypes (types_text (words_of g) fault), subst (λ o. ByTypes (words_in s.declared) o P (BadTypes (types_text (words_of g) fault))) (sym found) told, is)

refuses-one : (fault : TypeFault) (s : Spec) (g : Grammar) (P : Output → Type 0) (said : Reply) → s.declared ≡ declarations_of g →
    TellsTypes (types_of s.types) (grammar_of g) fault → RefusesTypes (words_of g) fault said → Replies (IfTyped s P) said
refuses-one (types.NoShape con) s g P said same tells is = fault-told s g P (F.NoShape con) said same tells is
refuses-one (types.NoCarry sort) s g P said same tells is = fault-told s g P (F.NoCarry sort) said same tells is
refuses-one (types.Rule rule place) s g P said same tells is = fault-told s g P (F.InRule rule place) said same tells is
refuses-one types.NoMemory s g P said same tells is = absurd is

pub refuses-types : {E : Type 0} (result : Result Reply E) (fault : TypeFault) (s : Spec) (g : Grammar) (P : Output → Type 0) →
    s.declared ≡ declarations_of g → TellsTypes (types_of s.types) (grammar_of g) fault → IfOk result (λ said. RefusesTypes (words_of g) fault said) →
    IfOk result (λ said. Replies (IfTyped s P) said)
refuses-types result fault s g P same tells = IfOk-weaker result _ _ (λ said is. refuses-one fault s g P said same tells is)

-- a reply to an equal output
pub reply-same : {E : Type 0} (result : Result Reply E) (P : Output → Type 0) (output : Output) → P output → IfOk result (λ said. said ≡ reply_with output) → IfOk result (λ said. Replies P said)
reply-same result P output holds = IfOk-weaker result _ _ (λ said is. (output, holds, is))

-- the refusal of a line by another name
pub bad-line : {E : Type 0} (result : Result Reply E) (line line' : ℕ) (kind kind' : SpecKind) → line' ≡ line → kind' ≡ kind →
    IfOk result (λ said. said ≡ reply_with (BadSpecification (at_line line' (kind_name kind')))) → IfOk result (λ said. said ≡ reply_with (BadSpecification (at_line line (kind_name kind))))
bad-line result line line' kind kind' same_line same_kind =
    IfOk-weaker result _ _
    (λ said w. w ∙ (ap (λ n. reply_with (BadSpecification (at_line n (kind_name kind')))) same_line ∙ ap (λ (k : SpecKind). reply_with (BadSpecification (at_line line (kind_name k)))) same_kind))
