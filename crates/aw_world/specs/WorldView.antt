-- The grammar of a world of the program, and its words.
use Rattle.aw_term.specs.Artifacts.{Words}
use Rattle.aw_term.specs.Rules.{Grammar}
use Rattle.aw_grammar.specs.GrammarOf.{grammar_of, words_of}
use Rattle.aw_world.specs.declared.workspace.Workspace.{Ghosts}
use Rattle.aw_world.specs.declared.world.World.{World}

-- the grammar of a world
abbrev pub plain_of : {W : Type 0} {f : Ghosts W} → World W f → Grammar
plain_of w = grammar_of w.accepted.now.grammar

-- the names that the grammar of a world declares
abbrev pub named_by : {W : Type 0} {f : Ghosts W} → World W f → Words
named_by w = words_of w.accepted.now.grammar
