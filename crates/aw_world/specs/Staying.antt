-- What every step of a world keeps, and what is known of the choices taken.
use Rattle.std.specs.Prelude.{◌≡◌, ℕ, List, [], Some, ◌⊎◌}
use Rattle.aw_list.specs.Members.{Member}
use Rattle.aw_term.specs.Rules.{Ground, Grammar}
use Rattle.aw_term.specs.Configs.{Config, Done}
use Rattle.aw_term.specs.Choices.{Choice, undivided}
use Rattle.aw_term.specs.Held.{Held}
use Rattle.aw_iograph.specs.Dependence.{IO}
use Rattle.aw_accept.specs.Acyclic.{IsAcyclic}
use Rattle.aw_law_sites.specs.Worlds.{World, site_at}
use Rattle.aw_law_worlds.specs.Holding.{EquationsStay}

-- Each site keeps its equations, and each guard that is met or differs stays so, with the same bound references or at the same place; and it keeps
-- its nodes with the references that they inherited, perhaps developed.
pub record KeepsSites (v w : World) : Type 0 where
  pub equations : (a : ℕ) → EquationsStay (site_at v a).equations (site_at w a).equations
  pub nodes : (a : ℕ) (h : Held) → Member h (site_at v a).held →
      Member h (site_at w a).held ⊎ ((r : ℕ) × (args : List Ground) × Member (record h { state = Done r args }) (site_at w a).held)

-- the choices have an undivided configuration, and it is acyclic
abbrev pub IsConfigured : Grammar → List Choice → Type 0
IsConfigured g cs = (c : Config) × (undivided g [] cs ≡ Some c) × IsAcyclic (IO g) c
