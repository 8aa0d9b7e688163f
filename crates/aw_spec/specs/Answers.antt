-- What reading a specification answers, and what its parts do.
use Rattle.std.specs.Prelude.{◌≡◌, ℕ, Result, Ok, Err}
use Rattle.aw_spec.specs.declared.draft.LineFault.{LineFault}
use Rattle.aw_spec.specs.declared.draft.LineFault.TheVariants as faults
use Rattle.aw_spec.specs.declared.fault.SpecFault.{SpecFault}
use Rattle.aw_spec.specs.declared.fault.SpecFault.TheVariants.{Bad, NoMemory}
use Rattle.aw_spec.specs.declared.spec_text.SpecText.{SpecText}
use Rattle.aw_spec.specs.Reading.{Reading, Good, Faulty}
use Rattle.aw_spec.specs.Views.{spec_seen}
use Rattle.aw_spec.specs.declared.draft.Draft.{Draft}
use Rattle.aw_spec.specs.declared.read.Ended.{Ended}
use Rattle.aw_spec.specs.LineAnswers.{spec_so_far}

-- The answer is what the lines spell, unless memory ran out.
abbrev pub Spells : Result SpecText SpecFault → Reading → Type 0
Spells (Ok s) reading = reading ≡ Good (spec_seen s) s.lines s.loads
Spells (Err (Bad line kind)) reading = reading ≡ Faulty line kind
Spells (Err NoMemory) reading = Unit {0}

-- The answer tells where what the lines spell ends, and the draft is what they say, unless memory ran out.
abbrev pub Ends : Draft → Result Ended SpecFault → Reading → Type 0
Ends d (Ok e) reading = reading ≡ Good (spec_so_far d) e.lines e.loads
Ends d (Err (Bad line kind)) reading = reading ≡ Faulty line kind
Ends d (Err NoMemory) reading = Unit {0}

-- a fault of this line
abbrev pub at_line : ℕ → LineFault → SpecFault
at_line line (faults.Bad kind) = Bad line kind
at_line line faults.NoMemory = NoMemory
