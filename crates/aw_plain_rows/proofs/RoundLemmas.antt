-- Rounds of replacing.
use Rattle.std.proofs.Common.{◌≡◌, ℕ, suc, ◌+◌, ◌-◌, ◌<◌, ap, sym, arith}
use Rattle.aw_term.specs.Configs.{rounds}

-- one round of those that are left
pub one_round : {A : Type 0} (f : A → A) (n i : ℕ) (x : A) → i < n → rounds (n - (i + 1)) f (f x) ≡ rounds (n - i) f x
one_round f n i x l =
    let e : n - i ≡ suc (n - (i + 1)) = omega (arith, l) in
    sym (ap (λ k. rounds k f x) e)
