-- The pairs of the items of each node.
use Rattle.std.specs.Prelude.{◌⊎◌, nat_eq}
use Rattle.std.specs.List.{cons_option}
use Rattle.std.proofs.Common.{◌≡◌, ℕ, suc, Bool, true, false, cond, List, [], ◌∷◌, ◌++◌, Option, Some, None, refl, sym, ap, ◌∙◌, inl, inr, append_assoc}
use Rattle.aw_list.specs.Members.{Member}
use Rattle.aw_list.proofs.Members.{never, member_split}
use Rattle.aw_term.specs.Artifacts.{Item}
use Rattle.aw_term.specs.Choices.{Choice}
use Rattle.aw_term.specs.Configs.{State, Pending, Done}
use Rattle.aw_term.specs.Held.{Held}
use Rattle.aw_term.specs.Names.{Node}
use Rattle.aw_term.specs.Rules.{Rule, Grammar}
use Rattle.aw_store.specs.Equations.{Map}
use Rattle.aw_law_sites.specs.Homes.{home}
use Rattle.aw_law_sites.specs.Worklists.{site_item, site_items, open_items, site_worklist}
use Rattle.aw_law_sites.specs.Worlds.{World, site_at}
use Rattle.aw_law_worlds.specs.Laws.{own_items}
use Rattle.aw_world_waits.specs.declared.pair.Pair.{Pair}
use Rattle.aw_world_waits.specs.Waiters.{waits_on, waited_in}
use Rattle.aw_world_waits.specs.Blocks.{pair_on, pairs_of, pairs_with}

-- ---- items

item_cases : (b : Bool) (k : Map) (h : Held) (i : ℕ) (rule : Rule) (items : List Item) (x : Item) →
    Member x (cond b (site_item k h i rule ∷ items) items) → ((b ≡ true) × (x ≡ site_item k h i rule)) ⊎ Member x items
item_cases true k h i rule items x (inl p) = inl (refl, p)
item_cases true k h i rule items x (inr m) = inr m
item_cases false k h i rule items x m = inr m

-- an item of a node is that of a rule of its sort
pub of_rule : (k : Map) (h : Held) (i : ℕ) (rules : List Rule) (x : Item) → Member x (site_items k h i rules) → (rule : Rule) × (n : ℕ)
    × Member rule rules × (nat_eq rule.sort h.sort ≡ true) × (x ≡ site_item k h n rule)
of_rule k h i [] x m = never m
of_rule k h i (rule ∷ rules) x m = elim (item_cases (nat_eq rule.sort h.sort) k h i rule (site_items k h (suc i) rules) x m) [
  | inl p ↦ (rule, i, inl refl, p.0, p.1)
  | inr o ↦ (let (r, n, mr, s, e) = of_rule k h (suc i) rules x o in (r, n, inr mr, s, e))
]

-- and the node is open
pub of_open : (g : Grammar) (s : State) (k : Map) (h : Held) (x : Item) → Member x (open_items g s k h) → (s ≡ Pending) × (rule : Rule) × (n : ℕ)
    × Member rule g.rules × (nat_eq rule.sort h.sort ≡ true) × (x ≡ site_item k h n rule)
of_open g Pending k h x m = let (r, n, mr, s, e) = of_rule k h 0 g.rules x m in (refl, r, n, mr, s, e)
of_open g (Done r args) k h x m = never m

pub own_node : (g : Grammar) (s : State) (k : Map) (h : Held) (x : Item) → Member x (open_items g s k h) → x.node ≡ h.node
own_node g s k h x m = let (o, r, n, mr, t, e) = of_open g s k h x m in ap (λ (x : Item). x.node) e

-- each item of a worklist is one of a held node
pub of_worklist : (g : Grammar) (k : Map) (hs : List Held) (x : Item) → Member x (site_worklist g k hs) → (h : Held) × Member h hs × (x.node ≡ h.node)
of_worklist g k [] x m = never m
of_worklist g k (h ∷ hs) x m = elim (member_split x (open_items g h.state k h) (site_worklist g k hs) m) [
  | inl o ↦ (h, inl refl, own_node g h.state k h x o)
  | inr o ↦ (let (q, i, e) = of_worklist g k hs x o in (q, inr i, e))
]

-- the same of the items of all sites
pub of_own_items : (g : Grammar) (w : World) (hs : List Held) (x : Item) → Member x (own_items g w hs) → (h : Held) × Member h hs
    × Member x (open_items g h.state (site_at w (home g h.node)).equations h)
of_own_items g w [] x m = never m
of_own_items g w (h ∷ hs) x m = elim (member_split x (open_items g h.state (site_at w (home g h.node)).equations h) (own_items g w hs) m) [
  | inl o ↦ (h, inl refl, o)
  | inr o ↦ (let (q, i, j) = of_own_items g w hs x o in (q, inr i, j))
]

-- ---- pairs

pub pairs_append : (cs : List Choice) (xs ys : List Item) → pairs_of cs (xs ++ ys) ≡ pairs_of cs xs ++ pairs_of cs ys
pairs_append cs [] ys = refl
pairs_append cs (x ∷ xs) ys = ap (λ z. pair_on cs x.node (waits_on x.refusal) ++ z) (pairs_append cs xs ys)
    ∙ sym (append_assoc (pair_on cs x.node (waits_on x.refusal)) (pairs_of cs xs) (pairs_of cs ys))

-- of items of one node the pairs are those of the node with each for which one waits
pub pairs_one : (cs : List Choice) (n : Node) (xs : List Item) → ((x : Item) → Member x xs → x.node ≡ n) → pairs_of cs xs ≡ pairs_with cs n (waited_in xs)
pairs_one cs n [] f = refl
pairs_one cs n (x ∷ xs) f = (λ t. pair_on cs (f x (inl refl) t) (waits_on x.refusal) ++ pairs_one cs n xs (λ y m. f y (inr m)) t) ∙ go (waits_on x.refusal)
  where
    go : (o : Option Node) → pair_on cs n o ++ pairs_with cs n (waited_in xs) ≡ pairs_with cs n (cons_option o (waited_in xs))
    go None = refl
    go (Some m) = refl

-- a pair is that of an item
pub of_item : (cs : List Choice) (xs : List Item) (p : Pair) → Member p (pairs_of cs xs) → (x : Item) × Member x xs × Member p (pair_on cs x.node (waits_on x.refusal))
of_item cs [] p m = never m
of_item cs (x ∷ xs) p m = elim (member_split p (pair_on cs x.node (waits_on x.refusal)) (pairs_of cs xs) m) [
  | inl o ↦ (x, inl refl, o)
  | inr o ↦ (let (y, i, j) = of_item cs xs p o in (y, inr i, j))
]
