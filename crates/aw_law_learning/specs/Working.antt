-- What an office works on: cases that were started there, subtasks of its own tasks, and what it was called for.
use Rattle.std.specs.Prelude.{◌≡◌, ℕ, false, List, ◌⊎◌}
use Rattle.aw_list.specs.Members.{Member}
use Rattle.aw_term.specs.Held.{Held}
use Rattle.aw_term.specs.Rules.{Grammar}
use Rattle.aw_store.specs.Equations.{Equation}
use Rattle.aw_apply.specs.Messages.{Message}
use Rattle.aw_law_sites.specs.Homes.{home, parent, has_steps}
use Rattle.aw_law_sites.specs.Worlds.{site_at}
use Rattle.aw_law_worlds.specs.Invariant.{call_message}
use Rattle.aw_law_worlds.specs.Laws.{InEachWorld}

-- a task begins a case, is a subtask of a task of this role, or its call is among these messages
abbrev pub IsItsWork : Grammar → List Message → ℕ → Held → Type 0
IsItsWork g sent role h =
    (has_steps h.node.steps ≡ false) ⊎ ((home g (parent h.node) ≡ role) ⊎ ((load : List Equation) × Member (call_message g h load) sent))

-- so is each task that an office holds
abbrev pub OfficesWorkByCall : Grammar → Type 0
OfficesWorkByCall g = InEachWorld g (λ loads w. (a : ℕ) (h : Held) → Member h (site_at w a).held → IsItsWork g w.messages a h)
