-- Printing a value on a stack: what is left to be printed.
use Rattle.std.specs.Prelude.{Bool, ℕ, ◌+◌, ◌*◌, List, [], ◌∷◌, ◌++◌, map, codes}
use Rattle.aw_term.specs.Trees.{Leaf, Made, Nil, More}
use Rattle.aw_term.specs.Rules.{Value}
use Rattle.aw_term.specs.Configs.{State, Pending, Done, lift}
use Rattle.aw_term.specs.Artifacts.{Words, head_text, ref_text, value_text}
use Rattle.aw_grammar.specs.declared.grammar.Grammar.{Grammar}
use Rattle.aw_grammar.specs.GrammarOf.{words_of}
use Rattle.std.specs.declared.result.Result.{Result}
use Rattle.aw_out.specs.declared.error.PrintFault.{PrintFault}
use Rattle.aw_out.specs.Report.{Bounded, Prints}
use Rattle.aw_plain_rows.specs.declared.tree.Tree as tree
use Rattle.aw_plain.specs.declared.print.Piece.{Piece}
use Rattle.aw_plain.specs.declared.print.Piece.TheVariants.{First, Next, Bytes}
use Rattle.aw_plain_rows.specs.TreeView.{value_of, value_under}
use Rattle.aw_plain_rows.specs.Places.{places}

-- the text of a value up to its first part
abbrev pub opening : Words → Value → List ℕ
opening w (Leaf r) = codes "?" ++ ref_text w r
opening w (Made h Nil) = head_text w h
opening w (Made h (More t ts)) = head_text w h ++ codes "("

-- the text of a value of the program
abbrev pub text_of : Words → tree.Tree → List ℕ
text_of w t = value_text w (value_of t)

-- the texts of parts below a constructor that is marked whole or not
abbrev pub texts_under : Words → Bool → List tree.Tree → List (List ℕ)
texts_under w m ts = map (value_text w) (map (value_under m) ts)

-- each text with a separator before it
abbrev pub following : List (List ℕ) → List ℕ
following [] = []
following (t ∷ ts) = codes ", " ++ (t ++ following ts)

-- what is printed of a piece
abbrev pub piece_text : Words → Piece → List ℕ
piece_text w (First t) = text_of w t
piece_text w (Next t) = codes ", " ++ text_of w t
piece_text w (Bytes b) = b.now

-- what is printed of a piece before its parts
abbrev pub piece_opening : Words → Piece → List ℕ
piece_opening w (First t) = opening w (value_of t)
piece_opening w (Next t) = codes ", " ++ opening w (value_of t)
piece_opening w (Bytes b) = b.now

-- all pieces, the last one first
abbrev pub pending : Words → List Piece → List ℕ
pending w [] = []
pending w (p ∷ ps) = pending w ps ++ piece_text w p

-- a piece, and all pieces behind it
abbrev pub from_piece : Words → Piece → List Piece → List ℕ
from_piece w p ps = piece_text w p ++ pending w ps

-- a text, a piece behind it, and all pieces behind that one
abbrev pub with_piece : Grammar → List ℕ → Piece → List Piece → List ℕ
with_piece g text p ps = text ++ from_piece (words_of g) p ps

-- how much is to be done for one piece: more than for all pieces that come in its place
abbrev pub piece_work : Piece → ℕ
piece_work (First t) = 2 * places t
piece_work (Next t) = 2 * places t
piece_work (Bytes b) = 1

-- how much is to be done for all these pieces
abbrev pub pieces_work : List Piece → ℕ
pieces_work [] = 0
pieces_work (p ∷ ps) = piece_work p + pieces_work ps

-- what is printed of the one text into the one report is what is printed of the other text into the other report
abbrev pub Continues : List ℕ → Bounded → List ℕ → Bounded → Type 0
Continues text old rest new = (last : Bounded) (result : Result Unit PrintFault) → Prints rest new last result → Prints text old last result

-- the arguments of a state as values
abbrev pub arguments : State → List Value
arguments Pending = []
arguments (Done r args) = map lift args
