-- What is kept of names that were written.
use Rattle.std.specs.Prelude.{◌≡◌, ℕ, ◌++◌, List, All, IsTrue, codes}
use Rattle.aw_term.specs.Artifacts.{Words, node_text}
use Rattle.aw_term.specs.Names.{Node}
use Rattle.aw_base.specs.NameFronts.{AreFronts}
use Rattle.aw_base.specs.declared.name_writer.Written.{Written}
use Rattle.aw_base.specs.declared.name_writer.ItemFront.{ItemFront}

-- the text and the ends that are kept are those of fronts of the node, as these declarations name it
abbrev pub IsWritten : Words → Written → Type 0
IsWritten w x = AreFronts w x.node x.text x.ends.items

-- each of these names is so kept
abbrev pub AreWritten : Words → List Written → Type 0
AreWritten w xs = All (IsWritten w) xs

-- what stands before the rule in the line of an item
abbrev pub item_front : Words → Node → List ℕ
item_front w n = codes "item " ++ (node_text w n ++ codes " ")

-- what is kept of it is that of the node, where it is said to be known
abbrev pub IsItemFront : Words → ItemFront → Type 0
IsItemFront w x = IsTrue x.is_known → x.text ≡ item_front w x.node
