-- How choices are spelled in bytes, and how they are read.
use Rattle.std.specs.Prelude.{ℕ, zero, suc, List, [], ◌∷◌, ◌++◌, length, Err}
use Rattle.std.specs.Int.{w16, w64, to_be_bytes}
use Rattle.aw_term.specs.Choices.{Choice, Start, Develop}
use Rattle.aw_codec.specs.Reading.{Short, Bad, Reader, number, both, seen}
use Rattle.aw_codec.specs.Names.{spelled_node, node}
use Rattle.aw_codec.specs.Grounds.{spelled_grounds, arguments}

-- 0, the sort in two bytes and the case in eight; or 1, the node, the rule in two bytes and the arguments
abbrev pub spelled_choice : Choice → List ℕ
spelled_choice (Start sort case) = 0 ∷ (to_be_bytes w16 sort ++ to_be_bytes w64 case)
spelled_choice (Develop n rule args) = 1 ∷ (spelled_node n ++ (to_be_bytes w16 rule ++ spelled_grounds args))

-- 0 and a start, or 1 and a rule with its arguments on a node
unfoldable pub choice : Reader Choice
choice [] = Err Short
choice (zero ∷ rest) = seen (λ c. Start c.0 c.1) (both (number w16) (number w64)) rest
choice (suc zero ∷ rest) = seen (λ c. Develop c.0 c.1.0 c.1.1) (both node (both (number w16) arguments)) rest
choice (suc (suc b) ∷ rest) = Err (Bad (suc (length rest)))
