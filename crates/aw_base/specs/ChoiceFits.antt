-- Which choices and references may be asked of a grammar.
use Rattle.std.specs.Prelude.{ℕ, Bool, true, false, ◌&&◌, List, [], ◌∷◌, length, Option, None, Some, slice_get, nat_le, is_some}
use Rattle.aw_term.specs.Names.{Ref, Slot, Result, Part}
use Rattle.aw_term.specs.Rules.{Ground, Grammar, sort_of}
use Rattle.aw_term.specs.Choices.{Choice, Start, Develop, gives_of}
use Rattle.aw_term.specs.WellFormed.{heads_fit, symbols_of, nesting}
use Rattle.aw_term.specs.Limits.{most_node_parts, most_levels, most_arguments, most_symbols}
use Rattle.aw_base.specs.NodeNames.{is_start}

-- result j, from 1, of a node of this sort; part k, from 1
abbrev pub slot_ok : Grammar → Option ℕ → Slot → Bool
slot_ok g None slot = false
slot_ok g (Some s) (Result j) = nat_le 1 j && nat_le j (gives_of (slice_get g.sorts s))
slot_ok g (Some s) (Part k) = nat_le 1 k && nat_le k most_node_parts

-- a valid reference
abbrev pub ref_ok : Grammar → Ref → Bool
ref_ok g r = slot_ok g (sort_of g r.node) r.slot

-- one argument: its constructors are declared with so many parts, its texts are contents, and it is not too deep
abbrev pub ground_ok : Grammar → Ground → Bool
ground_ok g t = heads_fit g.arities t && nat_le (nesting t) most_levels

-- each of these is such an argument
abbrev pub grounds_ok : Grammar → List Ground → Bool
grounds_ok g [] = true
grounds_ok g (t ∷ ts) = ground_ok g t && grounds_ok g ts

-- few arguments with few symbols
abbrev pub args_ok : Grammar → List Ground → Bool
args_ok g args = nat_le (length args) most_arguments && (nat_le (symbols_of args) most_symbols && grounds_ok g args)

-- a start of a start sort, or a declared rule on a valid node with arguments within their limits
abbrev pub choice_ok : Grammar → Choice → Bool
choice_ok g (Start s k) = is_start (slice_get g.sorts s)
choice_ok g (Develop n r args) = is_some (sort_of g n) && (is_some (slice_get g.rules r) && args_ok g args)
