-- The text of a call.
use Rattle.std.specs.Prelude.{ℕ, List, ◌++◌, map, codes}
use Rattle.aw_term.specs.Names.{Node, Ref}
use Rattle.aw_term.specs.Artifacts.{Words, listed, node_text, ref_text}

-- `call visit#1/admit.1 (visit#1:p2)`
abbrev pub call_text : Words → Node → List Ref → List ℕ
call_text w n rs = codes "call " ++ (node_text w n ++ (codes " (" ++ (listed (map (ref_text w) rs) ++ codes ")")))
