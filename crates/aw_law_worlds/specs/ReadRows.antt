-- Rows as they are read from the equations of one site.
use Rattle.std.specs.Prelude.{◌≡◌, ℕ, List, map}
use Rattle.aw_term.specs.Names.{result}
use Rattle.aw_term.specs.Rules.{Grammar, upto}
use Rattle.aw_term.specs.Configs.{Row, Config}
use Rattle.aw_term.specs.Artifacts.{Words, artifact_text}
use Rattle.aw_term.specs.Held.{Held}
use Rattle.aw_accept.specs.Acyclic.{Pairs, gives}
use Rattle.aw_store.specs.Equations.{Map}
use Rattle.aw_law_sites.specs.Laws.{AllUnfold}
use Rattle.aw_law_sites.specs.Homes.{home}
use Rattle.aw_law_sites.specs.Worlds.{World, site_at, gather}

-- the row of a held node: its inherited references and its results, unfolded over these equations
pub record IsRead (g : Grammar) (k : Map) (h : Held) (q : Row) : Type 0 where
  pub node : h.node ≡ q.node
  pub sort : h.sort ≡ q.sort
  pub state : h.state ≡ q.state
  pub inherited : AllUnfold k h.inherited q.inherited
  pub results : AllUnfold k (map (result h.node) (upto 1 (gives g h.sort))) q.results

-- the rows of the nodes of all sites in order, each read at its own site
abbrev pub AreRead : Grammar → World → Config → Type 0
AreRead g v rows = Pairs (λ h q. IsRead g (site_at v (home g h.node)).equations h q) (gather v.sites) rows

-- the text that is printed from what each site holds alone
abbrev pub IsPrinted : Words → Grammar → World → List ℕ → Type 0
IsPrinted w g v text = (rows : Config) × AreRead g v rows × (text ≡ artifact_text w rows)
