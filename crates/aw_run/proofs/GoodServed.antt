-- Where a node of a role makes a text of an input, all that it may make of it is a text.
use Rattle.std.proofs.Common.{◌≡◌, ◌⊎◌, ℕ, List, [], length, inl, inr, Bool, true, false, nat_lt, MatchBool, Option, None, Some, refl, sym, ap, ◌∙◌, subst}
use Rattle.aw_lex.specs.Lines.{lines_of}
use Rattle.aw_term.specs.Artifacts.{Words}
use Rattle.aw_term.specs.Rules.{get}
use Rattle.aw_grammar.specs.Declarations.{grammar_in, words_in}
use Rattle.aw_accept.specs.declared.refused.Fault.{Fault}
use Rattle.aw_check_text.proofs.OneTold.{one-found}
use Rattle.aw_typed.specs.TypeFaults.{Fault as TypeFault, type_fault}
use Rattle.aw_typed.specs.Typing.{types_of}
use Rattle.aw_spec.specs.Reading.{Spec, Reading, Good, Faulty, specification}
use Rattle.aw_front.specs.declared.limit.TheConstants.{INPUT_LIMIT}
use Rattle.aw_front.specs.declared.reply.Reply.{Reply}
use Rattle.aw_front.specs.declared.reply.Status.TheVariants.{Done, Usage, BadSpec, Circular, BadSchedule as BadSched, TooLarge, TooLong, BadTypes as BadTyped, BadReply}
use Rattle.aw_run.specs.Devices.{Devices, Wired}
use Rattle.aw_front.specs.Output.{Output, Writes, PastInputLimit, BadSpecification, BadTypes, IsCircular, UnknownRole, BadSchedule, PastOutputLimit}
use Rattle.aw_front.specs.Output.{NoReplyOf, ByFault, ByTypes, IfAccepted, IfTyped, BySpecification, ByInput, OfAccepted}
use Rattle.aw_front.specs.Replies.{Replies, reply, reply_with}
use Rattle.aw_run.specs.Serving.{session_lines, role_in, ByNumber, ServesRole, ServesNamed, IsServingOutputOf}
use Rattle.aw_run.specs.Keeping.{KeepsRole, KeepsNamed, IsKeepingOutputOf}
use Rattle.aw_run.specs.Carrying.{CarriesOver, IsCarryingOutputOf, carried_line}

abbrev pub IsText : Output → Type 0
IsText output = (text : List ℕ) × (output ≡ Writes text)

-- if one output with P is a text, each has Q
abbrev pub Leads : (Q P : Output → Type 0) → Type 0
Leads Q P = (a b : Output) → P a → P b → IsText a → Q b

-- if one output with P is a text, so is each
abbrev pub Alike : (Output → Type 0) → Type 0
Alike P = Leads IsText P

same-text : (a b : Output) → a ≡ b → IsText a → IsText b
same-text a b is written = (written.0, sym is ∙ written.1)

-- a text has Q
abbrev pub OfText : (Q : Output → Type 0) → Type 0
OfText Q = (b : Output) → IsText b → Q b

by-one : (Q : Output → Type 0) → OfText Q → (w : Words) (P : Output → Type 0) → Leads Q P → (found : Option Fault) → Leads Q (ByFault w found P)
by-one Q f w P alike None a b x y = alike a b x y
by-one Q f w P alike (Some fault) a b x y = λ written. f b (same-text a b (x ∙ sym y) written)

by-fault : (Q : Output → Type 0) → OfText Q → (w : Words) (P : Output → Type 0) → Leads Q P → (found other : Option Fault) → found ≡ other →
    (a b : Output) → ByFault w found P a → ByFault w other P b → IsText a → Q b
by-fault Q f w P alike found other is a b x y = by-one Q f w P alike found a b x (subst (λ (o : Option Fault). ByFault w o P b) (sym is) y)

alike-accepted : (Q : Output → Type 0) → OfText Q → (s : Spec) (P : Output → Type 0) → Leads Q P → Leads Q (IfAccepted s P)
alike-accepted Q f s P alike a b x y = by-fault Q f (words_in s.declared) P alike x.0 y.0 (one-found (grammar_in s.declared) x.0 y.0 x.1 y.1) a b x.2 y.2

by-types : (Q : Output → Type 0) → OfText Q → (w : Words) (P : Output → Type 0) → Leads Q P → (found : Option TypeFault) → Leads Q (ByTypes w found P)
by-types Q f w P alike None a b x y = alike a b x y
by-types Q f w P alike (Some fault) a b x y = λ written. f b (same-text a b (x ∙ sym y) written)

alike-number : (P : ℕ → Output → Type 0) → ((role : ℕ) → Alike (P role)) → (found : Option ℕ) → Alike (ByNumber P found)
alike-number P alike None a b x y = same-text a b (x ∙ sym y)
alike-number P alike (Some role) a b x y = alike role a b x y

alike-match : (Q : Output → Type 0) → OfText Q → (test : Bool) (output : Output) (P : Output → Type 0) → Leads Q P → Leads Q (λ a. MatchBool test (a ≡ output) (P a))
alike-match Q f true output P alike a b x y = λ written. f b (same-text a b (x ∙ sym y) written)
alike-match Q f false output P alike a b x y = alike a b x y

alike-read : (Q : Output → Type 0) → OfText Q → (makes : Spec → ℕ → Bool → Output → Type 0) →
    ((s : Spec) (taken : ℕ) (loads : Bool) → Leads Q (makes s taken loads)) → (reading : Reading) → Leads Q (BySpecification makes reading)
alike-read Q f makes alike (Good s taken loads) = alike s taken loads
alike-read Q f makes alike (Faulty line kind) = λ a b x y written. f b (same-text a b (x ∙ sym y) written)

alike-input : (Q : Output → Type 0) → OfText Q → (makes : Spec → ℕ → Bool → Output → Type 0) →
    ((s : Spec) (taken : ℕ) (loads : Bool) → Leads Q (makes s taken loads)) → (input : List ℕ) → Leads Q (ByInput makes input)
unfolding ByInput
alike-input Q f makes alike input =
    alike-match Q f (nat_lt INPUT_LIMIT (length input)) PastInputLimit (BySpecification makes (specification (lines_of input))) (alike-read Q f makes alike (specification (lines_of input)))

alike-of : (Q : Output → Type 0) → OfText Q → (makes : Spec → Output → Type 0) → ((s : Spec) → Leads Q (makes s)) → (input : List ℕ) → Leads Q (OfAccepted makes input)
unfolding OfAccepted
alike-of Q f makes alike input =
    alike-input Q f (λ s taken loads. IfTyped s (IfAccepted s (makes s)))
    (λ s taken loads. by-types Q f (words_in s.declared) (IfAccepted s (makes s)) (alike-accepted Q f s (makes s) (alike s)) (type_fault (types_of s.types) (grammar_in s.declared))) input

alike-served : (name : List ℕ) (sessions : ℕ) (x : Wired) (input : List ℕ) → Alike (IsServingOutputOf name sessions x input)
unfolding IsServingOutputOf
alike-served name sessions x input =
    alike-of IsText (λ b written. written) (ServesNamed name sessions x) (λ s. alike-number (λ role. ServesRole s role sessions x)
    (λ role a b k l written. (session_lines 1 l.logs, l.writes)) (role_in s name)) input

alike-kept : (name : List ℕ) (sessions : ℕ) (x : Devices) (input : List ℕ) → Alike (IsKeepingOutputOf name sessions x input)
unfolding IsKeepingOutputOf
alike-kept name sessions x input =
    alike-of IsText (λ b written. written) (KeepsNamed name sessions x) (λ s. alike-number (λ role. KeepsRole s role sessions x)
    (λ role a b k l written. (session_lines 1 l.logs, l.writes)) (role_in s name)) input

-- a text, or the name of a role whose reply was none
abbrev pub IsHeardOrNot : Output → Type 0
IsHeardOrNot output = IsText output ⊎ ((role : List ℕ) × (output ≡ NoReplyOf role))

carried-or-not : (rounds : ℕ) (x : Wired) (s : Spec) (output : Output) → CarriesOver rounds x s output → IsHeardOrNot output
carried-or-not rounds x s output (inl was) = inl (carried_line was.carried, was.writes)
carried-or-not rounds x s output (inr had) = inr (get [] (words_in s.declared).roles had.role, had.names)

alike-carried : (rounds : ℕ) (x : Wired) (input : List ℕ) → Leads IsHeardOrNot (IsCarryingOutputOf rounds x input)
unfolding IsCarryingOutputOf
alike-carried rounds x input = alike-of IsHeardOrNot (λ b written. inl written) (CarriesOver rounds x) (λ s a b p q written. carried-or-not rounds x s b q) input

-- an output that is replied to by a done text is that text
done-text : (output : Output) (text : List ℕ) → reply Done text ≡ reply_with output → IsText output
done-text (Writes text') text is = (text', refl)
done-text PastInputLimit text is = let e : Done ≡ TooLong = ap (λ (r : Reply). r.status) is in absurd (cc (e))
done-text (BadSpecification why) text is = let e : Done ≡ BadSpec = ap (λ (r : Reply). r.status) is in absurd (cc (e))
done-text (BadTypes why) text is = let e : Done ≡ BadTyped = ap (λ (r : Reply). r.status) is in absurd (cc (e))
done-text (IsCircular why) text is = let e : Done ≡ Circular = ap (λ (r : Reply). r.status) is in absurd (cc (e))
done-text UnknownRole text is = let e : Done ≡ Usage = ap (λ (r : Reply). r.status) is in absurd (cc (e))
done-text (BadSchedule why) text is = let e : Done ≡ BadSched = ap (λ (r : Reply). r.status) is in absurd (cc (e))
done-text PastOutputLimit text is = let e : Done ≡ TooLarge = ap (λ (r : Reply). r.status) is in absurd (cc (e))
done-text (NoReplyOf role) text is = let e : Done ≡ BadReply = ap (λ (r : Reply). r.status) is in absurd (cc (e))

-- of a command that may make a text of the input, each reply tells that it is done
replied-done : (P : Output → Type 0) → Alike P → (said : Reply) (text : List ℕ) → Replies P said → Replies P (reply Done text) → said.status ≡ Done
replied-done P alike said text says good =
    let is : IsText says.0 = alike good.0 says.0 good.1 says.1 (done-text good.0 text good.2) in
    ap (λ (r : Reply). r.status) (says.2 ∙ ap reply_with is.1)

pub served-done : (name : List ℕ) (sessions : ℕ) (x : Wired) (input : List ℕ) (said : Reply) (text : List ℕ) →
    Replies (IsServingOutputOf name sessions x input) said → Replies (IsServingOutputOf name sessions x input) (reply Done text) → said.status ≡ Done
served-done name sessions x input said text = replied-done (IsServingOutputOf name sessions x input) (alike-served name sessions x input) said text

pub kept-done : (name : List ℕ) (sessions : ℕ) (x : Devices) (input : List ℕ) (said : Reply) (text : List ℕ) →
    Replies (IsKeepingOutputOf name sessions x input) said → Replies (IsKeepingOutputOf name sessions x input) (reply Done text) → said.status ≡ Done
kept-done name sessions x input said text = replied-done (IsKeepingOutputOf name sessions x input) (alike-kept name sessions x input) said text

-- of a courier that may make a text of the input, each reply tells that it is done, or that a reply was none
carried-status : (said : Reply) (output : Output) → said ≡ reply_with output → IsHeardOrNot output → (said.status ≡ Done) ⊎ (said.status ≡ BadReply)
carried-status said output is (inl (text, written)) = inl (ap (λ (r : Reply). r.status) (is ∙ ap reply_with written))
carried-status said output is (inr (role, named)) = inr (ap (λ (r : Reply). r.status) (is ∙ ap reply_with named))

pub carried-done : (rounds : ℕ) (x : Wired) (input : List ℕ) (said : Reply) (text : List ℕ) →
    Replies (IsCarryingOutputOf rounds x input) said → Replies (IsCarryingOutputOf rounds x input) (reply Done text) → (said.status ≡ Done) ⊎ (said.status ≡ BadReply)
carried-done rounds x input said text says good =
    carried-status said says.0 says.2 (alike-carried rounds x input good.0 says.0 good.1 says.1 (done-text good.0 text good.2))
