-- An input has one output for each job.
use Rattle.std.proofs.Common.{◌≡◌, ℕ, List, length, drop, Bool, true, false, nat_lt, MatchBool, Option, None, Some, sym, ap, ◌∙◌, subst}
use Rattle.aw_lex.specs.Lines.{lines_of}
use Rattle.aw_term.specs.Artifacts.{Words}
use Rattle.aw_grammar.specs.Declarations.{grammar_in, words_in}
use Rattle.aw_accept.specs.declared.refused.Fault.{Fault}
use Rattle.aw_check_text.proofs.OneTold.{one-found}
use Rattle.aw_typed.specs.TypeFaults.{Fault as TypeFault, type_fault}
use Rattle.aw_typed.specs.Typing.{types_of}
use Rattle.aw_spec.specs.Reading.{Spec, Reading, Good, Faulty, specification}
use Rattle.aw_front.specs.declared.limit.TheConstants.{INPUT_LIMIT}
use Rattle.aw_run.specs.declared.words.Job.{Job}
use Rattle.aw_run.specs.declared.words.Job.TheVariants.{Check, Tells}
use Rattle.aw_front.specs.Output.{Output, Writes, PastInputLimit, ByFault, ByTypes, IfAccepted, BySpecification, ByInput}
use Rattle.aw_run.specs.Output.{TellsSpecification, TellsSchedule, MakesTyped, IsOutputOf}
use Rattle.aw_run.specs.Laws.{HasOneOutput}
use Rattle.aw_run.proofs.OneChecked.{one-checked}
use Rattle.aw_run.proofs.Outputs.{makes_of}

-- P holds of one output at most
abbrev pub One : (Output → Type 0) → Type 0
One P = (a b : Output) → P a → P b → a ≡ b

by-same : (w : Words) (P : Output → Type 0) → One P → (found : Option Fault) → One (ByFault w found P)
by-same w P one None a b x y = one a b x y
by-same w P one (Some fault) a b x y = x ∙ sym y

by-fault : (w : Words) (P : Output → Type 0) → One P → (found other : Option Fault) → found ≡ other → (a b : Output) → ByFault w found P a → ByFault w other P b → a ≡ b
by-fault w P one found other is a b x y = by-same w P one found a b x (subst (λ (f : Option Fault). ByFault w f P b) (sym is) y)

one-accepted : (s : Spec) (P : Output → Type 0) → One P → One (IfAccepted s P)
one-accepted s P one a b x y = by-fault (words_in s.declared) P one x.0 y.0 (one-found (grammar_in s.declared) x.0 y.0 x.1 y.1) a b x.2 y.2

one-match : (test : Bool) (output : Output) (P : Output → Type 0) → One P → One (λ a. MatchBool test (a ≡ output) (P a))
one-match true output P one a b x y = x ∙ sym y
one-match false output P one a b x y = one a b x y

one-specification : (s : Spec) → One (TellsSpecification s)
one-specification s a b x y = x.2 ∙ ap Writes (one-checked s.depends s.offers s.free (words_in s.declared) (grammar_in s.declared) x.0 y.0 x.1 y.1) ∙ sym y.2

by-types : (w : Words) (P : Output → Type 0) → One P → (found : Option TypeFault) → One (ByTypes w found P)
by-types w P one None a b x y = one a b x y
by-types w P one (Some fault) a b x y = x ∙ sym y

one-made : (job : Job) (s : Spec) (before : ℕ) (loads : Bool) (schedule : List (List ℕ)) → One (MakesTyped job s before loads schedule)
one-made Check s before loads schedule = one-accepted s (TellsSpecification s) (one-specification s)
one-made (Tells telling) s before loads schedule = one-accepted s (TellsSchedule telling s before loads schedule) (λ a b x y. x ∙ sym y)

one-read : (makes : Spec → ℕ → Bool → Output → Type 0) → ((s : Spec) (taken : ℕ) (loads : Bool) → One (makes s taken loads)) → (reading : Reading) → One (BySpecification makes reading)
one-read makes one (Good s taken loads) = one s taken loads
one-read makes one (Faulty line kind) = λ a b x y. x ∙ sym y

one-input : (makes : Spec → ℕ → Bool → Output → Type 0) → ((s : Spec) (taken : ℕ) (loads : Bool) → One (makes s taken loads)) → (input : List ℕ) → One (ByInput makes input)
unfolding ByInput
one-input makes one input = one-match (nat_lt INPUT_LIMIT (length input)) PastInputLimit (BySpecification makes (specification (lines_of input))) (one-read makes one (specification (lines_of input)))

pub one-output : HasOneOutput
unfolding IsOutputOf
one-output job input =
    one-input (makes_of job input)
    (λ s taken loads. by-types (words_in s.declared) (MakesTyped job s taken loads (drop taken (lines_of input)))
    (one-made job s taken loads (drop taken (lines_of input))) (type_fault (types_of s.types) (grammar_in s.declared)))
    input
