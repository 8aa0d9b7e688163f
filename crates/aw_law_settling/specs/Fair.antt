-- Fair delivery: each message comes some time after it was sent.
use Rattle.std.specs.Prelude.{◌≡◌, ℕ, zero, suc, ◌≤◌, false, List, [], ◌∷◌, ◌++◌, Some, slice_get}
use Rattle.aw_term.specs.Choices.{Choice, undivided, answer}
use Rattle.aw_term.specs.Configs.{Config}
use Rattle.aw_term.specs.Rules.{Grammar}
use Rattle.aw_law_sites.specs.Choosing.{answer_to, choose}
use Rattle.aw_law_sites.specs.Homes.{home}
use Rattle.aw_law_sites.specs.Worlds.{World, node_of, site_at, Move, Delivers, run, IsQuiet}
use Rattle.aw_law_worlds.specs.Laws.{InEachWorld}

-- an endless schedule of deliveries is a function: the number that is delivered at each moment. These are its first n deliveries.
abbrev pub deliveries : (ℕ → ℕ) → ℕ → List Move
deliveries f zero = []
deliveries f (suc n) = deliveries f n ++ Delivers (f n) ∷ []

-- the world after them
abbrev pub front : Grammar → World → (ℕ → ℕ) → ℕ → World
front g w f n = run g w (deliveries f n)

-- whenever a message was sent and never delivered, its number comes then or later
abbrev pub IsFair : Grammar → World → (ℕ → ℕ) → Type 0
IsFair g w f = (i k : ℕ) → slice_get (front g w f i).delivered k ≡ Some false → (j : ℕ) × (i ≤ j) × (f j ≡ k)

-- After some moment all is quiet and nothing changes any more, and each choice has the answer of the undivided configuration.
pub record Settles (g : Grammar) (w : World) (f : ℕ → ℕ) : Type 0 where
  pub moment : ℕ
  pub quiet : IsQuiet (front g w f moment)
  pub stays : (m : ℕ) → moment ≤ m → front g w f m ≡ front g w f moment
  pub config : Config
  pub taken : undivided g [] w.taken ≡ Some config
  pub answers : (m : ℕ) → moment ≤ m → (x : Choice) → answer_to (choose g (site_at (front g w f m) (home g (node_of x))) x) ≡ answer g config x

-- fair delivery settles, whatever else comes late, again and again, or is no number at all
abbrev pub FairDeliverySettles : Grammar → Type 0
FairDeliverySettles g = InEachWorld g (λ loads w. (f : ℕ → ℕ) → IsFair g w f → Settles g w f)
