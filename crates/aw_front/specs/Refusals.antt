-- Why an input is refused: what stands in the line behind `bad specification`, `bad types` and `bad schedule`.
use Rattle.std.specs.Prelude.{ℕ, List, [], ◌++◌, codes}
use Rattle.std.specs.Fmt.{decimal}
use Rattle.aw_term.specs.Rules.{get}
use Rattle.aw_term.specs.Artifacts.{Words}
use Rattle.aw_check_text.specs.Told.{circle_text}
use Rattle.aw_typed.specs.TypeFaults.{Fault, NoShape, NoCarry, InRule}

-- `line 3 form`
abbrev pub at_line : ℕ → List ℕ → List ℕ
at_line line kind = codes "line " ++ (decimal line ++ (codes " " ++ kind))

-- `con none`, `sort visit` or `rule analyse at 0.out1`: a constructor without a shape, a sort without a carry, or a term that does not fit
abbrev pub types_text : Words → Fault → List ℕ
types_text w (NoShape con) = codes "con " ++ get [] w.cons con
types_text w (NoCarry sort) = codes "sort " ++ get [] w.sorts sort
types_text w (InRule rule place) = codes "rule " ++ circle_text w (record { rule = rule; occ = place })
