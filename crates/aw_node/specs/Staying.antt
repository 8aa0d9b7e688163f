-- What no frame takes away from a node, whoever sends it.
use Rattle.std.specs.Prelude.{◌≡◌, ◌⊎◌, ℕ, List}
use Rattle.aw_list.specs.Members.{Member}
use Rattle.aw_term.specs.Choices.{Choice}
use Rattle.aw_term.specs.Configs.{Done}
use Rattle.aw_term.specs.Held.{Held}
use Rattle.aw_term.specs.Rules.{Ground}
use Rattle.aw_term.specs.Trees.{Never}
use Rattle.aw_law_sites.specs.Sites.{Site}
use Rattle.aw_law_sites.specs.Worlds.{node_of}
use Rattle.aw_law_worlds.specs.Laws.{EquationsStay}
use Rattle.aw_msg.specs.Frames.{Frame, Push, Choose}
use Rattle.aw_msg.specs.declared.message.Message.{Message}
use Rattle.aw_node.specs.TypedNodes.{Rules, handle, site_after}

-- it is among these, as it is or developed, with the references that it inherited
abbrev pub IsStillHeld : Held → List Held → Type 0
IsStillHeld h ks = Member h ks ⊎ ((rule : ℕ) × (args : List Ground) × Member (record h { state = Done rule args }) ks)

-- Whatever frames come, honest or forged: equations stay, and a guard that is decided stays so; what is held stays, with the references that it inherited;
-- no message changes what is held, and no choice changes another node than its own.
pub record NodeStays (r : Rules) : Type 0 where
  pub equations : (s : Site) (fs : List Frame) → EquationsStay s.equations (site_after r s fs).equations
  pub nodes : (s : Site) (fs : List Frame) (h : Held) → Member h s.held → IsStillHeld h (site_after r s fs).held
  pub message : (s : Site) (m : Message) (h : Held) → Member h s.held → Member h (handle r s (Push m)).site.held
  pub choice : (s : Site) (c : Choice) (h : Held) → Member h s.held → (h.node ≡ node_of c → Never) → Member h (handle r s (Choose c)).site.held
