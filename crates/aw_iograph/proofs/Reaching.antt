-- Walks that are joined, and numbers that rise over them.
use Rattle.std.proofs.Common.{ℕ, ◌<◌, arith}
use Rattle.aw_iograph.specs.Graphs.{Plus, step, more}

pub join : {V : Type 0} {E : V → V → Type 0} {a b c : V} → Plus E a b → Plus E b c → Plus E a c
join (step e) w = more e w
join (more e v) w = more e (join v w)

-- a number that rises with each step rises over a walk
pub rises : {V : Type 0} (E : V → V → Type 0) (rank : V → ℕ) → ((a b : V) → E a b → rank a < rank b) → {a b : V} → Plus E a b → rank a < rank b
rises E rank up (step e) = up _ _ e
rises E rank up (more e w) = let x = up _ _ e in let y = rises E rank up w in omega (arith, x, y)
