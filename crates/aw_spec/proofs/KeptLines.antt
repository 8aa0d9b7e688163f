-- What each line keeps that is said holds of the specification that was read.
use Rattle.std.proofs.Common.{◌≡◌, ℕ, suc, ◌≤◌, refl, subst, Bool, true, false, cond, List, [], ◌∷◌, Option, None, Some, Result, Ok, Err, nat_lt}
use Rattle.std.proofs.lemmas.Bool.{ltb-false}
use Rattle.aw_lex.specs.declared.token.Token.{Token}
use Rattle.aw_lex.specs.Lines.{passed_over}
use Rattle.aw_lex.specs.Tokens.{tokens_of}
use Rattle.aw_term_reader.specs.Lexemes.{lexemes}
use Rattle.aw_lex.proofs.Slices.{tokens_are_slices}
use Rattle.aw_term_reader.proofs.SoundTerms.{tokens_are_sound}
use Rattle.aw_spec.proofs.SoundLines.{line_declared}
use Rattle.aw_spec.specs.Declares.{IsDeclared}
use Rattle.aw_spec.specs.declared.fault.SpecKind.TheVariants.{Order}
use Rattle.aw_spec.specs.Lines.{Line}
use Rattle.aw_spec.specs.ReadLine.{line_of}
use Rattle.aw_spec.specs.Reading.{Spec, Draft, Step, On, Wrong, Stop, says, stage_of, LineRead, Next, Fault, End, at_stage, if_line, if_tokens, read_line, Reading, Good, after_line, read_lines}

-- a line that may come, declares names and is said keeps it
abbrev pub Keeps : (Draft → Type 0) → Type 0
Keeps P = (d : Draft) (after : Spec) (line : Line) → IsDeclared line → says d.spec line ≡ On after → d.stage ≤ stage_of line → P d → P (record { spec = after; stage = stage_of line })

at_stage_keeps : (P : Draft → Type 0) → Keeps P → (d next : Draft) (line : Line) (x : Step) → IsDeclared line → says d.spec line ≡ x →
    d.stage ≤ stage_of line → P d → at_stage (stage_of line) x ≡ Next next → P next
at_stage_keeps P keeps d next line (On after) named h le here e =
    let same : ◌≡◌ {A = Draft} (record { spec = after; stage = stage_of line }) next = cc in
    subst P same (keeps d after line named h le here)
at_stage_keeps P keeps d next line (Wrong kind) named h le here e = cc
at_stage_keeps P keeps d next line (Stop loads) named h le here e = cc

ordered_keeps : (P : Draft → Type 0) → Keeps P → (d next : Draft) (line : Line) (t : Bool) → IsDeclared line → nat_lt (stage_of line) d.stage ≡ t →
    P d → cond t (Fault Order) (at_stage (stage_of line) (says d.spec line)) ≡ Next next → P next
ordered_keeps P keeps d next line true named h here e = cc
ordered_keeps P keeps d next line false named h here e = at_stage_keeps P keeps d next line (says d.spec line) named refl (ltb-false (stage_of line) d.stage h) here e

formed_keeps : (P : Draft → Type 0) → Keeps P → (d next : Draft) (o : Option Line) → ((line : Line) → o ≡ Some line → IsDeclared line) → P d → if_line d o ≡ Next next → P next
formed_keeps P keeps d next None named here e = cc
formed_keeps P keeps d next (Some line) named here e = ordered_keeps P keeps d next line (nat_lt (stage_of line) d.stage) (named line refl) refl here e

lexed_keeps : (P : Draft → Type 0) → Keeps P → (d next : Draft) (bytes : List ℕ) (tokens : Result (List Token) ℕ) → tokens_of bytes ≡ tokens → P d → if_tokens d bytes tokens ≡ Next next → P next
lexed_keeps P keeps d next bytes (Err at) found here e = cc
lexed_keeps P keeps d next bytes (Ok tokens) found here e =
    let ls = lexemes bytes tokens in
    formed_keeps P keeps d next (line_of ls) (λ line h. line_declared ls line (tokens_are_sound bytes 0 tokens (tokens_are_slices bytes tokens found)) h) here e

line_keeps : (P : Draft → Type 0) → Keeps P → (d next : Draft) (bytes : List ℕ) (t : Bool) → P d → cond t (Next d) (if_tokens d bytes (tokens_of bytes)) ≡ Next next → P next
line_keeps P keeps d next bytes true here e = let same : d ≡ next = cc in subst P same here
line_keeps P keeps d next bytes false here e = lexed_keeps P keeps d next bytes (tokens_of bytes) refl here e

from_line : (P : Draft → Type 0) (Q : Spec → Type 0) → ((d : Draft) → P d → Q d.spec) → (d : Draft) (n m : ℕ) (s : Spec) (loads : Bool) (x : LineRead)
    (more : Draft → Reading) → P d → ((next : Draft) → x ≡ Next next → more next ≡ Good s m loads → Q s) →
    after_line d n x more ≡ Good s m loads → Q s
from_line P Q last d n m s loads (Next next) more here later e = later next refl e
from_line P Q last d n m s loads (Fault kind) more here later e = cc
from_line P Q last d n m s loads (End asked) more here later e = let same : d.spec ≡ s = cc in subst Q same (last d here)

pub reading_keeps : (P : Draft → Type 0) (Q : Spec → Type 0) → Keeps P → ((d : Draft) → P d → Q d.spec) → (d : Draft) (n m : ℕ) (s : Spec)
    (loads : Bool) (lines : List (List ℕ)) → P d → read_lines d n lines ≡ Good s m loads → Q s
reading_keeps P Q keeps last d n m s loads [] here e = let same : d.spec ≡ s = cc in subst Q same (last d here)
reading_keeps P Q keeps last d n m s loads (line ∷ lines) here e =
    from_line P Q last d (suc n) m s loads (read_line d line) (λ next. read_lines next (suc n) lines) here
    (λ next h k. reading_keeps P Q keeps last next (suc n) m s loads lines (line_keeps P keeps d next line (passed_over line) here h) k) e
