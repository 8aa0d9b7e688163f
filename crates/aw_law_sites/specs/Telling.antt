-- Calls and tells, as a site sends them.
use Rattle.std.specs.Prelude.{ℕ, zero, suc, Bool, ◌&&◌, ◌||◌, List, [], ◌∷◌, ◌++◌, map, Option, Some, None, nat_eq, if◌then◌else◌}
use Rattle.aw_term.specs.Names.{Ref, ref_eq}
use Rattle.aw_term.specs.Rules.{Grammar}
use Rattle.aw_term.specs.Held.{Held}
use Rattle.aw_term.specs.Limits.{most_roles}
use Rattle.aw_store.specs.Equations.{Body, Equation, mentions}
use Rattle.aw_apply.specs.Made.{Call}
use Rattle.aw_apply.specs.Messages.{Message, Calls, Tells}
use Rattle.aw_law_sites.specs.Joint.{called_held}
use Rattle.aw_law_sites.specs.Homes.{home}
use Rattle.aw_law_sites.specs.Sites.{Site}
use Rattle.aw_law_sites.specs.Loads.{load_of}

-- this role watches the reference, too
abbrev pub watches_too : (Ref → ℕ → Bool) → Ref → ℕ → Ref → ℕ → Bool
watches_too watches r role x b = (ref_eq r x && nat_eq role b) || watches x b

-- those of n roles from role i on that watch
abbrev pub watchers_from : ℕ → ℕ → (ℕ → Bool) → List ℕ
watchers_from zero i watches = []
watchers_from (suc n) i watches = if watches i then i ∷ watchers_from n (suc i) watches else watchers_from n (suc i) watches

-- an equation for a role, with its load
abbrev pub tell : Grammar → Site → Equation → ℕ → Message
tell g s e role = record { to = role; kind = Tells e (load_of g s (e.left ∷ []) (mentions e.body)) }

-- for each of these equations one to each watcher of its left side, in the order of roles
abbrev pub tells : Grammar → Site → List Equation → List Message
tells g s [] = []
tells g s (e ∷ es) = map (tell g s e) (watchers_from most_roles 0 (s.watches e.left)) ++ tells g s es

-- a child for its home, with its load
abbrev pub call_out : Grammar → Site → Call → Message
call_out g s c = record { to = home g c.node; kind = Calls c (load_of g s [] c.inherited) }

-- one for each child of another role
abbrev pub calls_out : Grammar → Site → List Call → List Message
calls_out g s [] = []
calls_out g s (c ∷ cs) = if nat_eq (home g c.node) s.role then calls_out g s cs else call_out g s c ∷ calls_out g s cs

-- the children of this role, as pending nodes
abbrev pub calls_in : Grammar → ℕ → List Call → List Held
calls_in g role [] = []
calls_in g role (c ∷ cs) = if nat_eq (home g c.node) role then called_held c ∷ calls_in g role cs else calls_in g role cs

-- the answer to a question, where the equation is here
abbrev pub tell_back : Grammar → Site → Option Body → Ref → ℕ → List Message
tell_back g s None r from = []
tell_back g s (Some b) r from = tell g s (record { left = r; body = b }) from ∷ []
