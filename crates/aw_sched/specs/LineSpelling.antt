-- How each line of a schedule is spelled in lexemes.
use Rattle.std.specs.Prelude.{List, [], ◌∷◌, ◌++◌, codes}
use Rattle.aw_grammar.specs.Written.{Written, side_by_side}
use Rattle.aw_term_reader.specs.Lexemes.{Lexeme, Name, Number, Node, Mark}
use Rattle.aw_term_reader.specs.Terms.{spellings}
use Rattle.aw_sched.specs.Lines.{Line, StartLine, ChooseLine, DeliverLine, SettleLine, ListLine}

-- the arguments of a choice: nothing, or `{..}` with a comma between each two
abbrev pub args_spelling : List Written → List Lexeme
args_spelling [] = []
args_spelling (t ∷ ts) = Mark 123 ∷ (spellings (side_by_side (t ∷ ts)) ++ Mark 125 ∷ [])

-- the lexemes of a line, of which the first names its kind
abbrev pub line_spelling : Line → List Lexeme
line_spelling (StartLine sort case) = Name (codes "start") ∷ Name sort ∷ Number case ∷ []
line_spelling (ChooseLine node rule args) = Name (codes "choose") ∷ Node node ∷ Name rule ∷ args_spelling args
line_spelling (DeliverLine message) = Name (codes "deliver") ∷ Number message ∷ []
line_spelling SettleLine = Name (codes "settle") ∷ []
line_spelling (ListLine role) = Name (codes "list") ∷ Name role ∷ []
