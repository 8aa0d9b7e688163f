-- When two steps, and two lists of steps, are one.
use Rattle.std.specs.Prelude.{◌≡◌, ◌==◌, ◌&&◌, Bool, List}
use Rattle.std.specs.Bool.{Decides}
use Rattle.std.proofs.Common.{ap}
use Rattle.std.specs.Cmp.Lexicographic.{pointwise, pointwise_decides}
use Rattle.std.proofs.lemmas.Bool.Decides.{Decides-eqb, Decides-and, Decides-like}
use Rattle.aw_name.specs.declared.node.Step.{Step}

-- two steps have the same rule and the same child
abbrev pub step_eq : Step → Step → Bool
step_eq a b = (a.rule == b.rule) && (a.child == b.child)

-- that test tells whether two steps are one
pub step_Decides : (a b : Step) → Decides (step_eq a b) (a ≡ b)
step_Decides a b =
    Decides-like _ (λ p. λ i. record { rule = p.0 i; child = p.1 i }) (λ e. (ap (λ (s : Step). s.rule) e, ap (λ (s : Step). s.child) e))
    (Decides-and _ _ (Decides-eqb a.rule b.rule) (Decides-eqb a.child b.child))

-- and, step by step, whether two lists of steps are one
pub steps_Decide : (xs ys : List Step) → Decides (pointwise step_eq xs ys) (xs ≡ ys)
steps_Decide xs ys = pointwise_decides step_Decides xs ys
