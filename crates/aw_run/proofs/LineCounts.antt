-- How many lines a text has, and that what is told of a line is told of one of them.
use Rattle.std.proofs.Common.{◌≡◌, ℕ, suc, ◌+◌, ◌≤◌, ◌<◌, List, [], ◌∷◌, length, arith, cond, true, false, Bool, ◌==◌, ap, ◌∙◌, ◌-◌, drop, length-drop}
use Rattle.std.specs.List.{slice_split}
use Rattle.std.proofs.lemmas.List.Splits.{length-slice_split}
use Rattle.std.proofs.lemmas.List.Sums.{count_by-le-length}
use Rattle.aw_lex.specs.Lines.{lines_of, without_empty_last}
use Rattle.aw_grammar.specs.Declarations.{Declarations}
use Rattle.aw_typed.specs.Types.{Types}
use Rattle.aw_spec.specs.Reading as S
use Rattle.aw_spec.specs.Reading.{Spec, Draft, LineRead, Next, Fault, End, Reading, Good, after_line}
use Rattle.aw_sched.specs.Schedules as T
use Rattle.aw_sched.specs.Schedules.{Nothing, Gives, Read, Events, FaultAt, with_event, in_front}
use Rattle.aw_sched.specs.declared.fault.SchedKind.{SchedKind}

last-line : (line : List ℕ) (empty : Bool) → length (cond empty [] (line ∷ [])) ≤ 1
last-line line true = omega arith
last-line line false = omega arith

without-fewer : (lines : List (List ℕ)) → length (without_empty_last lines) ≤ length lines
without-fewer [] = omega arith
without-fewer (line ∷ []) = last-line line (length line == 0)
without-fewer (line ∷ next ∷ more) = omega (arith, without-fewer (next ∷ more))

-- a text has at most one line more than bytes
pub few-lines : (text : List ℕ) → length (lines_of text) ≤ length text + 1
few-lines text = omega (arith, without-fewer (slice_split (λ b. b == 10) text), length-slice_split (λ b. b == 10) text, count_by-le-length (λ b. b == 10) text)

spec-step : (d : Draft) (read n : ℕ) (lines : List (List ℕ)) (s : Spec) (loads : Bool) (r : LineRead) (more : Draft → Reading) →
    ((next : Draft) → more next ≡ Good s n loads → n ≤ suc read + length lines) → after_line d (suc read) r more ≡ Good s n loads →
    n ≤ read + suc (length lines)
spec-step d read n lines s loads (Next next) more rest e = omega (arith, rest next e)
spec-step d read n lines s loads (Fault kind) more rest e = absurd (cc (e))
spec-step d read n lines s loads (End asked) more rest e = let h : suc read ≡ n = cc (e) in omega (arith, h)

spec-within : (d : Draft) (read n : ℕ) (lines : List (List ℕ)) (s : Spec) (loads : Bool) → S.read_lines d read lines ≡ Good s n loads → n ≤ read + length lines
spec-within d read n [] s loads e = let h : read ≡ n = cc (e) in omega (arith, h)
spec-within d read n (line ∷ lines) s loads e = spec-step d read n lines s loads _ (λ next. S.read_lines next (suc read) lines) (λ next. spec-within next (suc read) n lines s loads) e

-- a specification takes at most all lines
pub specification-within : (lines : List (List ℕ)) (s : Spec) (n : ℕ) (loads : Bool) → S.specification lines ≡ Good s n loads → n ≤ length lines
specification-within lines s n loads e = omega (arith, spec-within _ 0 n lines s loads e)

event-step : (line : ℕ) (kind : SchedKind) (event : _) (later : Read) → with_event event later ≡ FaultAt line kind → later ≡ FaultAt line kind
event-step line kind event (Events events) e = absurd (cc (e))
event-step line kind event (FaultAt l k) e = e

sched-step : (n line : ℕ) (kind : SchedKind) (lines : List (List ℕ)) (r : T.LineRead) (later : Read) →
    (later ≡ FaultAt line kind → line < suc n + length lines) → in_front n r later ≡ FaultAt line kind → line < n + suc (length lines)
sched-step n line kind lines Nothing later rest e = omega (arith, rest e)
sched-step n line kind lines (Gives event) later rest e = omega (arith, rest (event-step line kind event later e))
sched-step n line kind lines (T.Faulty k) later rest e = let h : n ≡ line = cc (e) in omega (arith, h)

-- a fault of a schedule is told of one of its lines
pub schedule-within : (t : Types) (d : Declarations) (n line : ℕ) (kind : SchedKind) (lines : List (List ℕ)) → T.read_lines t d n lines ≡ FaultAt line kind → line < n + length lines
schedule-within t d n line kind [] e = absurd (cc (e))
schedule-within t d n line kind (l ∷ lines) e = sched-step n line kind lines _ (T.read_lines t d (suc n) lines) (schedule-within t d (suc n) line kind lines) e

-- what a specification takes and what stands behind it are all lines
pub lines-behind : (input schedule : List ℕ) (s : Spec) (n : ℕ) (loads : Bool) → S.specification (lines_of input) ≡ Good s n loads →
    lines_of schedule ≡ drop n (lines_of input) → n + length (lines_of schedule) ≤ length input + 1
lines-behind input schedule s n loads good behind =
    let rest : length (lines_of schedule) ≡ length (lines_of input) - n = ap length behind ∙ length-drop n (lines_of input) in
    omega (arith, rest, specification-within (lines_of input) s n loads good, few-lines input)
