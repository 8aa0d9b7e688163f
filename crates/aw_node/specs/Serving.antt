-- What a node serves, by the sites that it is.
use Rattle.std.specs.Prelude.{ℕ, List, Option}
use Rattle.aw_out.specs.Wires.{Content}
use Rattle.aw_law_sites.specs.Sites.{Site}
use Rattle.aw_session.specs.Broken.{Stays}
use Rattle.aw_session.specs.Sessions.{IsServing, IsUnopened, IsCutOff}
use Rattle.aw_session.specs.declared.log.SessionLog.{SessionLog}
use Rattle.aw_node.specs.TypedNodes.{Rules, answers}
use Rattle.aw_node.specs.declared.serving.ServeFault.{ServeFault}
use Rattle.aw_node.specs.declared.serving.ServeFault.TheVariants.{NetFault, NoMemory}

-- From this site the sessions of the log were served.
abbrev pub Serves : {W : Type 0} → (W → Option Content) → (W → ℕ) → (W → ℕ) → Rules → ℕ → Site → W → W → List SessionLog → Type 0
Serves {W} content faults failed_openings r role s u v log = (t : Site) × IsServing (answers r) content faults failed_openings role s t u v log

-- From this site sessions were served, and then none could be opened, or memory ran out.
abbrev pub Stops : {W : Type 0} → (W → Option Content) → (W → ℕ) → Rules → ℕ → Site → W → W → ServeFault → Type 0
Stops {W} content failed_openings r role s u v NetFault = (t : Site) × IsUnopened (answers r) content failed_openings role s t u v
Stops {W} content failed_openings r role s u v NoMemory = (t : Site) × IsCutOff {F = Unit {0}} (answers r) Stays content role s t u v tt
