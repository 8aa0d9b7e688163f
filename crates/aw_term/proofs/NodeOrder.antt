-- The order of nodes: it is the one that the program compares by, and of any two nodes one comes first, or they are one.
use Rattle.std.proofs.Common.{◌≡◌, List, [], ◌∷◌, true, false, ap, ◌∙◌, refl, subst}
use Rattle.std.specs.Prelude.{◌⊎◌}
use Rattle.std.specs.Cmp.{IsTotalOrder, IsStrictWeakOrder}
use Rattle.std.specs.Cmp.Lexicographic.{slice_cmp}
use Rattle.std.specs.Ordering.{nat_cmp, is_lt, is_eq}
use Rattle.std.proofs.lemmas.Cmp.{nat_cmp_total, on_total, then_total, lists_total}
use Rattle.std.proofs.lemmas.List.MinMax.{ranks_by}
use Rattle.aw_name.specs.Order.{step_cmp, node_cmp}
use Rattle.aw_name.proofs.Leads.{then_then as grouped}
use Rattle.aw_term.specs.Trees.{Never}
use Rattle.aw_term.specs.Names.{Step, Node, steps_eq, node_eq, steps_lt, node_lt}
use Rattle.aw_term.proofs.NumbersFirst.{less, equal, tied_then}
use Rattle.aw_term.proofs.StrictOrders.{not_self, through, either}

steps_before : (a b : List Step) → is_lt (slice_cmp step_cmp a b) ≡ steps_lt a b
steps_before [] [] = refl
steps_before [] (y ∷ ys) = refl
steps_before (x ∷ xs) [] = refl
steps_before (x ∷ xs) (y ∷ ys) =
    ap is_lt (grouped (nat_cmp x.rule y.rule) (nat_cmp x.child y.child) (slice_cmp step_cmp xs ys))
    ∙ less x.rule y.rule _ _ (less x.child y.child _ _ (steps_before xs ys))

pub node_before : (a b : Node) → is_lt (node_cmp a b) ≡ node_lt a b
node_before a b = less a.start b.start _ _ (less a.case b.case _ _ (steps_before a.steps b.steps))

steps_alike : (a b : List Step) → is_eq (slice_cmp step_cmp a b) ≡ steps_eq a b
steps_alike [] [] = refl
steps_alike [] (y ∷ ys) = refl
steps_alike (x ∷ xs) [] = refl
steps_alike (x ∷ xs) (y ∷ ys) =
    ap is_eq (grouped (nat_cmp x.rule y.rule) (nat_cmp x.child y.child) (slice_cmp step_cmp xs ys))
    ∙ equal x.rule y.rule _ _ (equal x.child y.child _ _ (steps_alike xs ys))

pub node_alike : (a b : Node) → is_eq (node_cmp a b) ≡ node_eq a b
node_alike a b = equal a.start b.start _ _ (equal a.case b.case _ _ (steps_alike a.steps b.steps))

step_total : IsTotalOrder step_cmp
step_total = then_total (on_total (λ (s : Step). s.rule) nat_cmp_total) (on_total (λ (s : Step). s.child) nat_cmp_total)

pub node_total : IsTotalOrder node_cmp
node_total =
    then_total (on_total (λ (n : Node). n.start) nat_cmp_total)
    (then_total (on_total (λ (n : Node). n.case) nat_cmp_total) (on_total (λ (n : Node). n.steps) (lists_total step_total)))

pub node_order : IsStrictWeakOrder node_lt
node_order = subst IsStrictWeakOrder (λ i a b. node_before a b i) (ranks_by node_total (λ n. n))

steps_tied : (a b : List Step) → steps_lt a b ≡ false → steps_lt b a ≡ false → a ≡ b
steps_tied [] [] f g = refl
steps_tied [] (y ∷ ys) f g = absurd cc
steps_tied (x ∷ xs) [] f g = absurd cc
steps_tied (x ∷ xs) (y ∷ ys) f g =
    let (r, h, k) = tied_then x.rule y.rule _ _ f g in
    let (c, m, n) = tied_then x.child y.child _ _ h k in
    let s = steps_tied xs ys m n in
    λ i. record { rule = r i; child = c i } ∷ s i

-- where neither comes before the other, they are one
pub node_tied : (a b : Node) → node_lt a b ≡ false → node_lt b a ≡ false → a ≡ b
node_tied a b f g =
    let (s, h, k) = tied_then a.start b.start _ _ f g in
    let (c, m, n) = tied_then a.case b.case _ _ h k in
    let t = steps_tied a.steps b.steps m n in
    λ i. record { start = s i; case = c i; steps = t i }

pub node-no : (n : Node) → node_lt n n ≡ true → Never
node-no n e = not_self node_lt node_order n e

pub node-trans : (a b c : Node) → node_lt a b ≡ true → node_lt b c ≡ true → node_lt a c ≡ true
node-trans a b c e f = through node_lt node_order a b c e f

pub node-tri : (a b : Node) → (node_lt a b ≡ true) ⊎ ((a ≡ b) ⊎ (node_lt b a ≡ true))
node-tri a b = either node_lt node_order node_tied a b
