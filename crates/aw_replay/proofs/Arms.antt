-- One event as the choices and deliveries that it is.
use Rattle.std.proofs.Common.{◌≡◌, ℕ, zero, suc, ◌≤◌, arith, [], ◌∷◌, take, sym, refl, subst, inl, inr}
use Rattle.std.specs.Prelude.{Option, Some, None}
use Rattle.aw_term.specs.Rules.{Grammar}
use Rattle.aw_law_sites.specs.Bounds.{bound_of}
use Rattle.aw_law_sites.specs.Outputs.{settle_moves}
use Rattle.aw_law_sites.specs.Worlds.{World, Move, Delivers, run, settle, deliver, undelivered}
use Rattle.aw_world.specs.declared.workspace.Workspace.{Ghosts}
use Rattle.aw_world.specs.declared.world.World as made
use Rattle.aw_world.specs.Shown.{Shows}
use Rattle.aw_world.specs.WorldView.{plain_of}
use Rattle.aw_choice.specs.Events as E
use Rattle.aw_replay.specs.Telling.{StepsOrNot, SettlesSome, DoesSome}

-- made or not: none of it, or all
pub some_step : {W : Type 0} (f : Ghosts W) (old new : made.World W f) (e : Move) → StepsOrNot f old new e → (v : World) → Shows f old v → (n : ℕ)
    × Shows f new (run (plain_of old) v (take n (e ∷ [])))
some_step f old new e h v s = elim (h v s) [ inl S ↦ (0, S) | inr S ↦ (1, S) ]

front_on : (g : Grammar) (n b : ℕ) (v : World) → ((u : World) → run g u (take n (settle_moves b g u)) ≡ settle n g u) → (o : Option ℕ)
    → run g v (take (suc n) (elim o [ None ↦ [] | Some k ↦ Delivers k ∷ settle_moves b g (deliver g v k).world ])) ≡ elim o [ None ↦ v | Some k ↦ settle n g (deliver g v k).world ]
front_on g n b v h None = refl
front_on g n b v h (Some k) = h (deliver g v k).world

-- the first deliveries of settling settle so far
pub settle_front : (g : Grammar) (n b : ℕ) (v : World) → n ≤ b → run g v (take n (settle_moves b g v)) ≡ settle n g v
settle_front g zero b v l = refl
settle_front g (suc n) zero v l = absurd (omega (arith, l))
settle_front g (suc n) (suc b) v l = front_on g n b v (λ u. settle_front g n b u (omega (arith, l))) (undelivered v)

pub some_settled : {W : Type 0} (f : Ghosts W) (old new : made.World W f) → SettlesSome f old new → DoesSome f old new E.Settles
some_settled f old new h v s =
    let (n, l, S) = h v s in
    (n, subst (Shows f new) (sym (settle_front (plain_of old) n (bound_of (plain_of old) v.taken) v l)) S)
