-- How messages are spelled in bytes: version 1 where there is no load, version 2 where there is one.
use Rattle.std.specs.Prelude.{ℕ, Bool, true, false, List, [], ◌∷◌, ◌++◌, length, if◌then◌else◌}
use Rattle.std.specs.List.{flat_map}
use Rattle.std.specs.Int.{w16, w64, to_be_bytes}
use Rattle.aw_term.specs.Trees.{Con, Num, Text}
use Rattle.aw_store.specs.Equations.{Body, Same, Is, Equation}
use Rattle.aw_apply.specs.Messages.{Kind, Calls, Asks, Tells, Message}
use Rattle.aw_codec.specs.Names.{spelled_node, spelled_ref, spelled_refs}
use Rattle.aw_codec.specs.Texts.{spelled_text}

-- 0 and a reference; 1, a constructor in two bytes and its references; 2 and a number in eight bytes; or 3 and a text
abbrev pub spelled_body : Body → List ℕ
spelled_body (Same r) = 0 ∷ spelled_ref r
spelled_body (Is (Con c) parts) = 1 ∷ (to_be_bytes w16 c ++ spelled_refs parts)
spelled_body (Is (Num n) parts) = 2 ∷ to_be_bytes w64 n
spelled_body (Is (Text t) parts) = 3 ∷ spelled_text t

-- the left side and the body
abbrev pub spelled_equation : Equation → List ℕ
spelled_equation e = spelled_ref e.left ++ spelled_body e.body

-- how many there are, and each of them
abbrev pub spelled_equations : List Equation → List ℕ
spelled_equations es = length es ∷ flat_map spelled_equation es

-- a load without equations has no bytes
abbrev pub spelled_load : List Equation → List ℕ
spelled_load [] = []
spelled_load (e ∷ es) = spelled_equations (e ∷ es)

-- 0, a node, its inherited references and the load; 1, a reference and the role that asks; or 2, an equation and the load
abbrev pub spelled_kind : Kind → List ℕ
spelled_kind (Calls c load) = 0 ∷ (spelled_node c.node ++ (spelled_refs c.inherited ++ spelled_load load))
spelled_kind (Asks r from) = 1 ∷ (spelled_ref r ++ to_be_bytes w16 from)
spelled_kind (Tells e load) = 2 ∷ (spelled_equation e ++ spelled_load load)

-- whether there are any
abbrev pub has_some : List Equation → Bool
has_some [] = false
has_some (e ∷ es) = true

-- whether a message of this kind has a load
abbrev pub is_loaded : Kind → Bool
is_loaded (Calls c load) = has_some load
is_loaded (Asks r from) = false
is_loaded (Tells e load) = has_some load

-- the version of a message that has a load, or has none
abbrev pub version_of : Bool → ℕ
version_of loaded = if loaded then 2 else 1

-- the version, the role that the message is for, and the kind. The sort of a called node has no bytes.
abbrev pub spelled_message : Message → List ℕ
spelled_message m = version_of (is_loaded m.kind) ∷ (to_be_bytes w16 m.to ++ spelled_kind m.kind)
