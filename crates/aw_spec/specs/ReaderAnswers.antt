-- What reading the bytes of one line answers.
use Rattle.std.specs.Prelude.{◌≡◌, ◌<◌, ◌≤◌, length, Result, Ok, Err}
use Rattle.aw_spec.specs.declared.draft.LineFault.{LineFault}
use Rattle.aw_spec.specs.declared.draft.LineFault.TheVariants.{Bad, NoMemory}
use Rattle.aw_spec.specs.declared.line.SpecLine.{SpecLine}
use Rattle.aw_spec.specs.declared.reader.Reader.{Reader}
use Rattle.aw_spec.specs.declared.draft.AfterLine.{AfterLine}
use Rattle.aw_spec.specs.declared.draft.AfterLine.TheVariants as after
use Rattle.aw_spec.specs.Reading as R
use Rattle.aw_spec.specs.LineAnswers.{spec_so_far}
use Rattle.aw_spec.specs.Stages.{sorts_stage, rules_stage}
use Rattle.aw_spec.specs.Views.{line_seen}

-- The bytes of a line spell this, unless memory ran out: behind a draft they come to what it says there.
abbrev pub IsSpelledBy : R.Draft → Result SpecLine LineFault → R.LineRead → Type 0
IsSpelledBy d (Ok line) read = read ≡ R.in_order d (line_seen line)
IsSpelledBy d (Err (Bad kind)) read = read ≡ R.Fault kind
IsSpelledBy d (Err NoMemory) read = Unit {0}

-- what a reader of the program has read
abbrev pub draft_of : Reader → R.Draft
draft_of r = record { spec = spec_so_far r.draft; stage = r.stage }

-- What the stage of the last line tells of the lines so far: sorts and rules are declared at their stage or later, and types are few.
pub record IsAtStage (r : Reader) : Type 0 where
  pub no_sorts : r.stage < sorts_stage → length r.draft.grammar.sorts ≡ 0
  pub few_types : length r.draft.types.names ≤ 256
  pub no_rules : r.stage < rules_stage → length r.draft.grammar.rules ≡ 0

-- So it is where reading goes on.
abbrev pub IsStill : Reader → Result AfterLine LineFault → Type 0
IsStill r (Ok after.Next) = IsAtStage r
IsStill r (Ok (after.End loads)) = Unit {0}
IsStill r (Err fault) = Unit {0}

-- The answer is what comes of the line behind a draft, and the reader then, unless memory ran out.
abbrev pub Reads : R.Draft → Reader → Result AfterLine LineFault → R.LineRead → Type 0
Reads d reader (Ok after.Next) read = read ≡ R.Next (draft_of reader)
Reads d reader (Ok (after.End loads)) read = (read ≡ R.End loads) × (spec_so_far reader.draft ≡ d.spec)
Reads d reader (Err (Bad kind)) read = read ≡ R.Fault kind
Reads d reader (Err NoMemory) read = Unit {0}
