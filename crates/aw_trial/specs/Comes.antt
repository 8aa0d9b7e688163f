-- What a part of a trial does to a world of the program and to a tally.
use Rattle.std.specs.Prelude.{◌≡◌, ℕ, suc, ◌≤◌, List}
use Rattle.aw_choice.specs.Events.{Event}
use Rattle.aw_law_sites.specs.Worlds as V
use Rattle.aw_world.specs.declared.workspace.Workspace.{Ghosts}
use Rattle.aw_world.specs.declared.world.World.{World}
use Rattle.aw_world.specs.Shown.{Shows}
use Rattle.aw_trial.specs.Turns.{State}
use Rattle.aw_trial.specs.declared.tally.Tally.{Tally}

-- the world can be seen as that of the plain state, and the tally is its tally
pub record Comes {W : Type 0} (f : Ghosts W) (w : World W f) (t : Tally) (s : State) : Type 0 where
  pub world : Shows f w s.world
  pub tally : t ≡ s.tally

-- whatever plain world is seen before, the state behind this is seen after
abbrev pub Does : {W : Type 0} (f : Ghosts W) → World W f → Tally → World W f → Tally → (State → State) → Type 0
Does f old t new u go = (v : V.World) (es : List Event) → Shows f old v → Comes f new u (go (record { world = v; tally = t; events = es }))

-- no count is more than n
pub record AreUpTo (n : ℕ) (t : Tally) : Type 0 where
  pub starts : t.starts ≤ n
  pub choices : t.choices ≤ n
  pub taken : t.taken ≤ n
  pub repeats : t.repeats ≤ n

-- no count grows by more than one
abbrev pub AddsOne : Tally → Tally → Type 0
AddsOne t u = (n : ℕ) → AreUpTo n t → AreUpTo (suc n) u
