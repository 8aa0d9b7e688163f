-- The program's children and clashes as plain ones.
use Rattle.aw_term.specs.Rules.{Grammar}
use Rattle.aw_apply.specs.Made.{Call}
use Rattle.aw_apply.specs.Messages as P
use Rattle.aw_apply.specs.declared.making.MadeChild.{MadeChild}
use Rattle.aw_msg.specs.MessageView.{content_of}
use Rattle.aw_space.specs.Spaces.{call_of}
use Rattle.aw_site.specs.declared.clashes.Clash.{Clash}

-- a child that was made, as a call
abbrev pub child_call : Grammar → MadeChild → Call
child_call g c = call_of g c.node c.inherited

-- what was kept and what came that contradicts it, as plain ones
abbrev pub clash_of : Clash → P.Clash
clash_of c = record { kept = content_of c.kept; came = content_of c.came }
