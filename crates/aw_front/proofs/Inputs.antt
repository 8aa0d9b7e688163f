-- What an input leads to, by what its specification spells.
use Rattle.std.proofs.Common.{◌≡◌, ℕ, ◌≤◌, ◌<◌, Bool, true, false, nat_lt, List, length, MatchBool, refl, sym, subst}
use Rattle.std.proofs.lemmas.Bool.{lt-ltb, le-ltb}
use Rattle.aw_lex.specs.Lines.{lines_of}
use Rattle.aw_spec.specs.Reading.{Spec, Reading, Good, Faulty, specification}
use Rattle.aw_front.specs.declared.limit.TheConstants.{INPUT_LIMIT}
use Rattle.aw_front.specs.Output.{Output, PastInputLimit, BySpecification, ByInput}

-- what a command makes of an input within its limit, of which the specification is read
pub by-input-read : (makes : Spec → ℕ → Bool → Output → Type 0) (input : List ℕ) (reading : Reading) (output : Output) → length input ≤ INPUT_LIMIT →
    specification (lines_of input) ≡ reading → BySpecification makes reading output → ByInput makes input output
unfolding ByInput
by-input-read makes input reading output within is holds =
    subst (λ b. MatchBool b (output ≡ PastInputLimit) (BySpecification makes (specification (lines_of input)) output)) (sym (le-ltb INPUT_LIMIT (length input) within))
    (subst (λ (r : Reading). BySpecification makes r output) (sym is) holds)

-- and of one past its limit
pub by-input-past : (makes : Spec → ℕ → Bool → Output → Type 0) (input : List ℕ) → INPUT_LIMIT < length input → ByInput makes input PastInputLimit
unfolding ByInput
by-input-past makes input lt =
    subst (λ b. MatchBool b (PastInputLimit ≡ PastInputLimit) (BySpecification makes (specification (lines_of input)) PastInputLimit)) (sym (lt-ltb INPUT_LIMIT (length input) lt)) refl

-- what is made for one command is made for another, where that is so of each good specification
match-map : (test : Bool) (A B C : Type 0) → (B → C) → MatchBool test A B → MatchBool test A C
match-map true A B C f x = x
match-map false A B C f x = f x

read-map : (P Q : Spec → ℕ → Bool → Output → Type 0) → ((s : Spec) (taken : ℕ) (loads : Bool) (output : Output) → P s taken loads output →
    Q s taken loads output) → (reading : Reading) (output : Output) → BySpecification P reading output → BySpecification Q reading output
read-map P Q f (Good s taken loads) output holds = f s taken loads output holds
read-map P Q f (Faulty line kind) output holds = holds

pub by-input-map : (P Q : Spec → ℕ → Bool → Output → Type 0) → ((s : Spec) (taken : ℕ) (loads : Bool) (output : Output) → P s taken loads output →
    Q s taken loads output) → (input : List ℕ) (output : Output) → ByInput P input output → ByInput Q input output
unfolding ByInput
by-input-map P Q f input output =
    match-map (nat_lt INPUT_LIMIT (length input)) (output ≡ PastInputLimit) (BySpecification P (specification (lines_of input)) output)
    (BySpecification Q (specification (lines_of input)) output) (read-map P Q f (specification (lines_of input)) output)
