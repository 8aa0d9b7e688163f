-- Waiting at a workspace, which knows some of the equations of the taken choices.
use Rattle.std.specs.Prelude.{◌≡◌, ℕ, List, [], Some}
use Rattle.aw_list.specs.Members.{Member}
use Rattle.aw_term.specs.Trees.{Never}
use Rattle.aw_term.specs.Names.{Node, result}
use Rattle.aw_term.specs.Rules.{Ground, Rule, Grammar}
use Rattle.aw_term.specs.Matching.{Waits}
use Rattle.aw_term.specs.Configs.{Pending, Config}
use Rattle.aw_term.specs.Choices.{Choice, Develop, undivided}
use Rattle.aw_store.specs.Equations.{Map}
use Rattle.aw_apply.specs.Guard.{guard_all}
use Rattle.aw_law_sites.specs.Joint.{Held, Joint, empty_joint, joint_run}
use Rattle.aw_law_sites.specs.Laws.{IsSubmap}
use Rattle.aw_wait.specs.Waiting.{WaitsFor}

-- none of the choices develops the node
abbrev pub IsUntaken : List Choice → Node → Type 0
IsUntaken cs m = (r : ℕ) (args : List Ground) → Member (Develop m r args) cs → Never

-- Some choices were taken, and k holds some of their equations. A rule of an open node that waits over k for a result of a node
-- on which none of them was taken: then the one node waits for the other in the undivided configuration of these choices.
abbrev pub WaitsThereToo : Grammar → Type 0
WaitsThereToo g = (cs : List Choice) (w : Joint) (c : Config) → joint_run g empty_joint cs ≡ Some w → undivided g [] cs ≡ Some c → (k : Map) → IsSubmap k w.equations
    → (h : Held) → Member h w.held → h.state ≡ Pending → (r : Rule) → Member r g.rules → r.sort ≡ h.sort → (m : Node) (l : ℕ) → IsUntaken cs m
    → guard_all k 1 r.patterns h.inherited ≡ Waits (result m l) → WaitsFor g c h.node m
