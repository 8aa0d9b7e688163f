-- Whether one of some choices develops a node.
use Rattle.std.specs.Prelude.{◌||◌}
use Rattle.std.proofs.Common.{◌≡◌, ℕ, Bool, true, false, List, [], ◌∷◌, refl, ap, subst, inl, inr}
use Rattle.aw_list.specs.Members.{Member}
use Rattle.aw_list.proofs.Members.{never}
use Rattle.aw_term.specs.Names.{Node}
use Rattle.aw_term.specs.Rules.{Ground}
use Rattle.aw_term.specs.Choices.{Choice, Start, Develop}
use Rattle.aw_name.specs.SameNodes.{node_is, node_self}
use Rattle.aw_world_waits.specs.SiteWaits.{IsUntaken}
use Rattle.aw_world_waits.specs.Waiters.{develops, is_developed}

by_choice : (m : Node) (c : Choice) → develops m c ≡ true → (r : ℕ) × (args : List Ground) × (Develop m r args ≡ c)
by_choice m (Start s k) e = absurd cc
by_choice m (Develop n r args) e = (r, args, ap (λ n. Develop n r args) (node_is m n e))

-- the choice that does
pub developed_by : (cs : List Choice) (m : Node) → is_developed cs m ≡ true → (r : ℕ) × (args : List Ground) × Member (Develop m r args) cs
developed_by [] m e = absurd cc
developed_by (c ∷ cs) m e = go (develops m c) refl e (developed_by cs m)
  where
    go : (b : Bool) → develops m c ≡ b → (b || is_developed cs m) ≡ true → (is_developed cs m ≡ true → (r : ℕ) × (args : List Ground) × Member (Develop m r args) cs)
        → (r : ℕ) × (args : List Ground) × Member (Develop m r args) (c ∷ cs)
    go true f i rest = let (r, args, p) = by_choice m c f in (r, args, inl p)
    go false f i rest = let (r, args, p) = rest i in (r, args, inr p)

neither : (a b : Bool) → (a || b) ≡ false → (a ≡ false) × (b ≡ false)
neither true b e = absurd cc
neither false b e = (refl, e)

-- or none of them does
pub untaken : (cs : List Choice) (m : Node) → is_developed cs m ≡ false → IsUntaken cs m
untaken [] m e r args i = never i
untaken (c ∷ cs) m e r args (inl p) =
    let here : develops m c ≡ true = subst (λ c. develops m c ≡ true) p (node_self m) in
    let not_here = (neither (develops m c) (is_developed cs m) e).0 in
    absurd cc
untaken (c ∷ cs) m e r args (inr i) = untaken cs m (neither (develops m c) (is_developed cs m) e).1 r args i
