-- Relations to which only pairs are added that follow.
use Rattle.std.specs.Prelude.{◌≡◌, ℕ, ◌≤◌, length}
use Rattle.aw_grammar.specs.declared.grammar.Grammar.{Grammar}
use Rattle.aw_grammar.specs.GrammarOf.{grammar_of}
use Rattle.aw_iograph.specs.declared.io.Io.{Io}
use Rattle.aw_iograph.specs.Growth.{unset}
use Rattle.aw_iograph.specs.Dependence.{Follows}
use Rattle.aw_iograph.specs.Pairs.{Has}

-- the new relations hold the old ones, and else only what follows from them by the rules
pub record IsWidened (g : Grammar) (old new : Io) : Type 0 where
  pub size : length new.marks.items ≡ length old.marks.items
  pub held : (s i j : ℕ) → Has old s i j → Has new s i j
  pub follows : (s i j : ℕ) → Has new s i j → Follows (grammar_of g) (Has old) s i j
  pub left : unset new.marks.items ≤ unset old.marks.items
