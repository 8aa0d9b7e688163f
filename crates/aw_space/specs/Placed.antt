-- What comes of a call that comes alone.
use Rattle.std.specs.Prelude.{if◌then◌else◌, Option, Some, None}
use Rattle.aw_term.specs.Held.{Held}
use Rattle.aw_apply.specs.Made.{Call}
use Rattle.aw_law_sites.specs.Receiving.{refs_eq}
use Rattle.aw_space.specs.declared.adding.Placed.{Placed}
use Rattle.aw_space.specs.declared.adding.Placed.TheVariants.{New, Same, Conflict}

-- a call of a held node has the references that it is held with, or others
abbrev pub met_again : Held → Call → Placed
met_again h c = if refs_eq h.inherited c.inherited then Same else Conflict h.inherited c.inherited

-- where the node is held, what comes of the call
abbrev pub met : Option Held → Call → Option Placed
met None c = None
met (Some h) c = Some (met_again h c)

-- what comes of a call: a node that is not held is new
abbrev pub placed : Option Held → Call → Placed
placed None c = New
placed (Some h) c = met_again h c
