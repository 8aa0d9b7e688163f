-- Lateness leaves no trace: what two worlds have in common in which the same choices were taken, once both are still.
use Rattle.std.specs.Prelude.{◌≡◌, ℕ, Bool, List}
use Rattle.aw_term.specs.Artifacts.{Words}
use Rattle.aw_term.specs.Choices.{Choice}
use Rattle.aw_term.specs.Names.{Ref}
use Rattle.aw_term.specs.Rules.{Grammar}
use Rattle.aw_term.specs.WellFormed.{Each}
use Rattle.aw_store.specs.Equations.{find}
use Rattle.aw_law_sites.specs.Choosing.{answer_to, choose}
use Rattle.aw_law_sites.specs.Homes.{home}
use Rattle.aw_law_sites.specs.Laws.{SameChoices}
use Rattle.aw_law_sites.specs.Worklists.{site_worklist}
use Rattle.aw_law_sites.specs.Worlds.{World, node_of, site_at, gather, Move, MayCome, world_after}
use Rattle.aw_law_worlds.specs.Laws.{own_items}
use Rattle.aw_law_worlds.specs.ReadRows.{IsPrinted}
use Rattle.aw_law_settling.specs.Still.{IsStill}

-- P holds of any two still worlds with the same choices, whichever messages came late, again or in another order, and whether messages carry loads in one
-- of the worlds, in both or in none
abbrev pub BetweenStill : Grammar → (Bool → Bool → World → World → Type 0) → Type 0
BetweenStill g P = (loads other : Bool) (es fs : List Move) → Each (MayCome g) es → Each (MayCome g) fs →
    IsStill g (world_after g loads es) → IsStill g (world_after g other fs) →
    SameChoices (world_after g loads es).taken (world_after g other fs).taken → P loads other (world_after g loads es) (world_after g other fs)

-- Each office holds the same tasks, in the same order, took the same choices, and knows the same of each reference; each choice is answered the same;
-- each office has the same worklist; and of all offices together the worklists are the same, and the text that is printed.
pub record SameOffices (words : Words) (g : Grammar) (w v : World) : Type 0 where
  pub tasks : (a : ℕ) → (site_at w a).held ≡ (site_at v a).held
  pub choices : (a : ℕ) → SameChoices (site_at w a).choices (site_at v a).choices
  pub equations : (a : ℕ) (r : Ref) → find (site_at w a).equations r ≡ find (site_at v a).equations r
  pub answers : (x : Choice) →
      answer_to (choose g (site_at w (home g (node_of x))) x) ≡ answer_to (choose g (site_at v (home g (node_of x))) x)
  pub worklist : (a : ℕ) → site_worklist g (site_at w a).equations (site_at w a).held ≡ site_worklist g (site_at v a).equations (site_at v a).held
  pub worklists : own_items g w (gather w.sites) ≡ own_items g v (gather v.sites)
  pub printed : (text : List ℕ) → IsPrinted words g w text → IsPrinted words g v text

abbrev pub LatenessLeavesNoTrace : Words → Grammar → Type 0
LatenessLeavesNoTrace words g = BetweenStill g (λ loads other w v. SameOffices words g w v)
