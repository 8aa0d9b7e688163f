-- Why the node of a role was served no further.
use Rattle.std.specs.Prelude.{◌≡◌, ◌⊎◌, ℕ, List, true, Some}
use Rattle.aw_law_sites.specs.Sites.{empty_site}
use Rattle.aw_node.specs.Serving.{Stops}
use Rattle.aw_node.specs.declared.serving.ServeFault.{ServeFault}
use Rattle.aw_node.specs.declared.serving.ServeFault.TheVariants as fault
use Rattle.aw_spec.specs.Reading.{Spec}
use Rattle.aw_front.specs.declared.reply.Status.{Status}
use Rattle.aw_front.specs.declared.reply.Status.TheVariants.{NetFault, NoMemory}
use Rattle.aw_run.specs.Carrying.{StopsUnwired}
use Rattle.aw_run.specs.Devices.{Wired}
use Rattle.aw_run.specs.Opening.{OpensRole}
use Rattle.aw_front.specs.Output.{Output}
use Rattle.aw_run.specs.Serving.{rules_in, role_in, ServesRole}

-- Sessions of the role were served from the site that holds nothing and sends loads, and this fault ended it.
abbrev pub IsServedUntil : Spec → (role : ℕ) → Wired → ServeFault → Type 0
IsServedUntil s role x why = Stops x.wire.content x.wire.failed_openings (rules_in s) role (empty_site true role) x.before x.after why

-- Why a role was served no further, by the status that tells it. Memory may also have run out for the lines, once all sessions were served.
abbrev pub StopsNode : Spec → (role sessions : ℕ) → Wired → Status → Type 0
StopsNode s role sessions x NetFault = IsServedUntil s role x fault.NetFault
StopsNode s role sessions x NoMemory = IsServedUntil s role x fault.NoMemory ⊎ ((output : Output) × ServesRole s role sessions x output)
StopsNode s role sessions x _ = ⊥

-- the role of that name came to a stop, or memory ran out before the wire was touched
abbrev pub StopsNodeNamed : (name : List ℕ) → (sessions : ℕ) → Wired → Spec → Status → Type 0
StopsNodeNamed name sessions x s status = StopsUnwired x status ⊎ ((role : ℕ) × (role_in s name ≡ Some role) × StopsNode s role sessions x status)

-- why the node of a role came to a stop, and how it left the wire
abbrev pub StopsServing : (name : List ℕ) → (sessions : ℕ) → Wired → List ℕ → Status → Type 0
StopsServing name sessions x input status = StopsUnwired x status ⊎ ((s : Spec) × (role : ℕ) × OpensRole name input s role × StopsNode s role sessions x status)
