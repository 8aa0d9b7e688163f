-- The text of a body, as it stands on the right of an equation.
use Rattle.std.specs.Prelude.{ℕ, List, map}
use Rattle.aw_term.specs.Artifacts.{Words, ref_text, head_text, with_parts}
use Rattle.aw_store.specs.Equations.{Body, Same, Is}

-- a reference, or a head with the references of its parts
abbrev pub body_text : Words → Body → List ℕ
body_text w (Same r) = ref_text w r
body_text w (Is h parts) = with_parts (head_text w h) (map (ref_text w) parts)
