-- All steps but the last.
use Rattle.std.proofs.Common.{◌≡◌, ◌-◌, List, [], ◌∷◌, take, length, refl, ap, ◌∙◌, arith}
use Rattle.aw_law_sites.specs.Homes.{front}
use Rattle.aw_name.specs.declared.node.Step.{Step}

front-more : (s : Step) (ss : List Step) → front (s ∷ ss) ≡ take (length ss) (s ∷ ss)
front-more s [] = refl
front-more s (t ∷ ss) = ap (◌∷◌ s) (front-more t ss)

-- they are the first ones, one fewer than there are
pub front-take : (ss : List Step) → front ss ≡ take (length ss - 1) ss
front-take [] = refl
front-take (s ∷ ss) =
    let one : length ss ≡ length (s ∷ ss) - 1 = omega (arith) in
    front-more s ss ∙ ap (λ n. take n (s ∷ ss)) one
