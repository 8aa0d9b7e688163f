-- Printing through a text that is gathered and added to a report from time to time.
use Rattle.std.specs.Prelude.{◌≡◌, ℕ, ◌+◌, ◌<◌, List, ◌++◌, length, [], Ok, Err}
use Rattle.std.specs.declared.result.Result.{Result}
use Rattle.aw_term.specs.Trees.{Never}
use Rattle.aw_out.specs.declared.error.PrintFault.{PrintFault}
use Rattle.aw_out.specs.declared.error.PrintFault.TheVariants.{TooLarge}
use Rattle.aw_out.specs.Report.{Bounded, printed, PrintsFront}
use Rattle.aw_print.specs.Drafts.{Draft, Whole, Front, so_far, then}

-- the second goes on where the first stops; behind an end nothing comes
abbrev pub Begins : Draft → Draft → Type 0
Begins (Whole a) (Whole b) = b ≡ a
Begins (Whole a) (Front b) = Never
Begins (Front a) d = (rest : List ℕ) × (so_far d ≡ a ++ rest)

-- each of the first drafts is the front of one of the second, or is whole and is one of them
abbrev pub LeadTo : (ℕ → Draft) → (ℕ → Draft) → Type 0
LeadTo f g = (n : ℕ) → (m : ℕ) × Begins (f n) (g m)

-- the text gathered and the report
pub record Printing : Type 0 where
  pub gathered : List ℕ
  pub report : Bounded

-- Of the drafts `all` this much was printed, and the drafts `left` are left to be printed.
pub record Underway (all : ℕ → Draft) (old new : Printing) (left : ℕ → Draft) : Type 0 where
  pub taken : List ℕ
  pub out : List ℕ
  pub report : new.report ≡ printed old.report taken
  pub gathered : taken ++ new.gathered ≡ old.gathered ++ out
  pub rest : LeadTo (λ n. then (Whole out) (left n)) all

-- Printing stopped: too large only where a draft is longer than the limit; the report has got the front of a draft.
pub record Stopped (all : ℕ → Draft) (old : Printing) (new : Bounded) (fault : PrintFault) : Type 0 where
  pub too_large : fault ≡ TooLarge → (m : ℕ) × (old.report.limit < length old.report.text + length (old.gathered ++ so_far (all m)))
  pub front : (m : ℕ) × PrintsFront (old.gathered ++ so_far (all m)) old.report new

-- this much is printed, or printing stopped
abbrev pub PutsTo : (ℕ → Draft) → Printing → Printing → (ℕ → Draft) → Result Unit PrintFault → Type 0
PutsTo all old new left (Ok done) = Underway all old new left
PutsTo all old new left (Err fault) = Stopped all old new.report fault

-- this text gathered, and this report
abbrev pub printing : List ℕ → Bounded → Printing
printing gathered report = record { gathered = gathered; report = report }

-- all bytes made so far
abbrev pub made : Printing → List ℕ
made p = p.report.text ++ p.gathered

-- all was printed, or printing stopped
abbrev pub Puts : (ℕ → Draft) → Printing → Printing → Result Unit PrintFault → Type 0
Puts all old new result = PutsTo all old new (λ n. Whole []) result

-- All drafts end alike and this was printed; or printing stopped: too large only where a draft passes the limit, and
-- the report has got the front of one.
abbrev pub Ended : (ℕ → Draft) → Bounded → Bounded → Result Unit PrintFault → Type 0
Ended all old new (Ok done) = (m : ℕ) × (t : List ℕ) × (all m ≡ Whole t) × (new ≡ printed old t)
Ended all old new (Err fault) = Stopped all (printing [] old) new fault

-- a report has got something at its end, or nothing
abbrev pub HasGrown : Bounded → Bounded → Type 0
HasGrown old new = (t : List ℕ) × (new ≡ printed old t)
