-- What is written is read again.
use Rattle.std.specs.Prelude.{◌≡◌, ℕ, suc, Bool, false, List, ◌∷◌, ◌++◌, length, drop, None}
use Rattle.aw_lex.specs.Lines.{lines_of}
use Rattle.aw_grammar.specs.Declarations.{grammar_in}
use Rattle.aw_face.specs.Faces.{face_fault}
use Rattle.aw_spec.specs.TypesFit.{TypesFit}
use Rattle.aw_spec.specs.Reading.{Spec, Good, specification}
use Rattle.aw_spec.specs.Lines.{ScheduleLine}
use Rattle.aw_spec_writer.specs.LineTexts.{line_text}
use Rattle.aw_spec_writer.specs.SpecLines.{spec_lines, written}
use Rattle.aw_spec_writer.specs.Writable.{FacesFit, IsWritable}

-- the text is read as this specification, where its faces and its types fit it; no line ends it
abbrev pub IsReadAgain : Spec → List ℕ → Type 0
IsReadAgain s text = FacesFit s → TypesFit s → specification (lines_of text) ≡ Good s (length (spec_lines s)) false

-- the text of a specification that can be written is read as that specification, on as many lines as it has; no line ends it, so that it asks for no loads
abbrev pub WrittenIsRead : Type 0
WrittenIsRead = (s : Spec) → IsWritable s → specification (lines_of (written s)) ≡ Good s (length (spec_lines s)) false

-- Where the line `schedule` or `schedule 2` and any text stand behind the text of a specification that can be written, it is read as that specification, on one line more
-- than it has, and the lines of that text are left.
abbrev pub InFrontIsRead : Type 0
InFrontIsRead = (s : Spec) → IsWritable s → (loads : Bool) (rest : List ℕ) → let text = written s ++ (line_text (ScheduleLine loads) ++ 10 ∷ rest) in
    (specification (lines_of text) ≡ Good s (suc (length (spec_lines s))) loads) × (drop (suc (length (spec_lines s))) (lines_of text) ≡ lines_of rest)

-- the types of a specification that was read fit it, and so do its faces, where its rules keep to them
abbrev pub ReadFits : Type 0
ReadFits = (lines : List (List ℕ)) (s : Spec) (n : ℕ) (loads : Bool) → specification lines ≡ Good s n loads → face_fault (grammar_in s.declared) s.offers s.uses ≡ None → FacesFit s × TypesFit s
