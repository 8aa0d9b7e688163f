-- What a space keeps whatever comes.
use Rattle.std.specs.Prelude.{◌≡◌, ℕ, List, ◌⊎◌}
use Rattle.aw_list.specs.Members.{Member}
use Rattle.aw_term.specs.Names.{Node}
use Rattle.aw_term.specs.Rules.{Ground}
use Rattle.aw_term.specs.Configs.{Done}
use Rattle.aw_term.specs.Held.{Held}
use Rattle.aw_store.specs.Equations.{Map}
use Rattle.aw_law_sites.specs.Laws.{IsSubmap, YesStays, DiffersStays}

-- equations stay; a guard that is met stays so with the same bound references, and one that differs stays so at the same place
pub record KeepsFacts (k l : Map) : Type 0 where
  pub equations : IsSubmap k l
  pub yes : YesStays k l
  pub differs : DiffersStays k l

-- each node is held as it was
abbrev pub KeepsNodes : List Held → List Held → Type 0
KeepsNodes hs ks = (h : Held) → Member h hs → Member h ks

-- each node is held as it was, but for this one, which keeps its references where it is developed
abbrev pub KeepsNodesBut : Node → List Held → List Held → Type 0
KeepsNodesBut n hs ks = (h : Held) → Member h hs → Member h ks ⊎ ((h.node ≡ n) × (r : ℕ) × (args : List Ground) × Member (record h { state = Done r args }) ks)
