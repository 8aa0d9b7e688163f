-- Terms as they are written, before names are looked up.
use Rattle.std.specs.Prelude.{ℕ, List, [], ◌∷◌, map, Option, None, Some}
use Rattle.aw_term.specs.Trees.{Head}
use Rattle.aw_term.specs.Views.{head_of}
use Rattle.aw_grammar.specs.declared.raw.RawTerm.{RawTerm, Row_of-RawTerm, end_of-RawTerm, more_of-RawTerm}
use Rattle.aw_grammar.specs.declared.raw.RawTerm as raw
use Rattle.aw_grammar.specs.declared.raw.RawChild.{RawChild}
use Rattle.aw_grammar.specs.declared.raw.RawRule.{RawRule}

-- a bare word, a constructor with parentheses, or a number or a text
mutual
  pub data Written : Type 0 where
    Word : (name : List ℕ) → Written
    Apply : (name : List ℕ) → (parts : Writtens) → Written
    Literal : (h : Head) → Written

  pub data Writtens : Type 0 where
    Empty : Writtens
    Then : (t : Written) → (ts : Writtens) → Writtens

-- written terms side by side
abbrev pub side_by_side : List Written → Writtens
side_by_side [] = Empty
side_by_side (t ∷ ts) = Then t (side_by_side ts)

-- a raw term of the program as it is written, and a row of raw terms as the parts of one
abbrev mutual
  pub written_of : RawTerm → Written
  written_of (raw.Word name) = Word name
  written_of (raw.Apply' name n parts) = Apply name (written_row parts)
  written_of (raw.Lit l) = Literal (head_of l)

  pub written_row : {m : _} → Row_of-RawTerm m → Writtens
  written_row end_of-RawTerm = Empty
  written_row (more_of-RawTerm t rest) = Then (written_of t) (written_row rest)

-- the name that a term is, where it is a bare one
abbrev pub bare_name : Written → Option (List ℕ)
bare_name (Word name) = Some name
bare_name (Apply name parts) = None
bare_name (Literal h) = None

-- a written subtask
pub record WrittenChild : Type 0 where
  pub sort : List ℕ
  pub args : List Written
  pub results : List (List ℕ)

-- a written rule
pub record WrittenRule : Type 0 where
  pub name : List ℕ
  pub params : List (List ℕ)
  pub sort : List ℕ
  pub patterns : List Written
  pub results : List Written
  pub children : List WrittenChild

-- a raw subtask of the program as it is written
abbrev pub child_of_raw : RawChild → WrittenChild
child_of_raw c = record { sort = c.sort; args = map written_of c.args; results = c.results }

-- a raw rule of the program as it is written
abbrev pub rule_of_raw : RawRule → WrittenRule
rule_of_raw r = record { name = r.name; params = r.params; sort = r.sort; patterns = map written_of r.patterns; results = map written_of r.results; children = map child_of_raw r.children }
