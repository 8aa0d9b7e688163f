-- The children of a taken rule that are of this role, as the nodes that are held of them.
use Rattle.std.proofs.Common.{◌≡◌, ℕ, suc, Bool, true, false, cond, List, [], ◌∷◌, ◌++◌, map, filter, Option, Some, None, refl, ap, sym, ◌∙◌, is_some}
use Rattle.std.specs.Prelude.{option_map}
use Rattle.std.proofs.lemmas.Bool.{and_parts, and_from}
use Rattle.aw_list.proofs.Members.{never}
use Rattle.aw_term.specs.Trees.{Never}
use Rattle.aw_term.specs.Names.{Node, node_eq, node_lt}
use Rattle.aw_term.specs.Rules.{Grammar, sort_of}
use Rattle.aw_term.specs.WellFormed.{Each, Later}
use Rattle.aw_term.specs.Held as P
use Rattle.aw_term.proofs.Eaches.{each_map}
use Rattle.aw_name.specs.SameNodes.{node_is}
use Rattle.aw_apply.specs.Made.{Call}
use Rattle.aw_apply.specs.MadeView.{as_child}
use Rattle.aw_apply.specs.declared.making.MadeChild.{MadeChild}
use Rattle.aw_node_list.specs.declared.held.Held.{Held}
use Rattle.aw_node_list.specs.HeldView.{sort_or, all_of}
use Rattle.aw_node_list.specs.InOrder.{place_in, insert_in, Lacks, LackEach}
use Rattle.aw_law_sites.specs.Joint.{called_held}
use Rattle.aw_law_sites.specs.Telling.{calls_in}
use Rattle.aw_space.specs.Children.{open_child, own_children, are_named}
use Rattle.aw_space.specs.Sound.{is_own, all_own, is_rooted, all_rooted}
use Rattle.aw_space.specs.Spaces.{is_home}
use Rattle.aw_space.specs.Valid.{held_fits, all_fit}

-- ---- what holds of each of them

each_cases : (P : Held → Type 0) (b : Bool) (c : Call) (ds : List MadeChild) → (b ≡ true → P (open_child (as_child c))) → Each P (map open_child ds) →
    Each P (map open_child (cond b (as_child c ∷ ds) ds))
each_cases P true c ds here rest = (here refl, rest)
each_cases P false c ds here rest = rest

pub own_each : (g : Grammar) (role : ℕ) (P : Held → Type 0) (cs : List Call) → Each (λ (c : Call). is_home g role c.node ≡ true → P (open_child (as_child c))) cs →
    Each P (own_children g role (map as_child cs))
own_each g role P [] all = tt
own_each g role P (c ∷ cs) all =
    each_cases P (is_home g role c.node) c (filter (λ (d : MadeChild). is_home g role d.node) (map as_child cs)) all.0 (own_each g role P cs all.1)

later_cases : (R : Held → Held → Type 0) (b : Bool) (c : Call) (ds : List MadeChild) → Each (R (open_child (as_child c))) (map open_child ds) → Later R (map open_child ds) →
    Later R (map open_child (cond b (as_child c ∷ ds) ds))
later_cases R true c ds here rest = (here, rest)
later_cases R false c ds here rest = rest

-- they differ where the calls do
pub own_differ : (g : Grammar) (role : ℕ) (cs : List Call) → Later (λ (c d : Call). c.node ≡ d.node → Never) cs →
    Later (λ (h k : Held). h.node ≡ k.node → Never) (own_children g role (map as_child cs))
own_differ g role [] differ = tt
own_differ g role (c ∷ cs) differ =
    later_cases (λ (h k : Held). h.node ≡ k.node → Never) (is_home g role c.node) c (filter (λ (d : MadeChild). is_home g role d.node) (map as_child cs))
    (own_each g role (λ (k : Held). c.node ≡ k.node → Never) cs (each_map _ _ cs (λ (d : Call) other here. other) differ.0)) (own_differ g role cs differ.1)

-- ---- from each to all

pub all_own_each : (g : Grammar) (role : ℕ) (hs : List Held) → Each (λ h. is_own g role h ≡ true) hs → all_own g role hs ≡ true
all_own_each g role [] each = refl
all_own_each g role (h ∷ hs) each = and_from _ _ each.0 (all_own_each g role hs each.1)

pub all_rooted_each : (g : Grammar) (role : ℕ) (xs hs : List Held) → Each (λ (h : Held). is_rooted g role xs h.node ≡ true) hs → all_rooted g role xs hs ≡ true
all_rooted_each g role xs [] each = refl
all_rooted_each g role xs (h ∷ hs) each = and_from _ _ each.0 (all_rooted_each g role xs hs each.1)

pub all_fit_each : (g : Grammar) (hs : List Held) → Each (λ h. held_fits g h ≡ true) hs → all_fit g hs ≡ true
all_fit_each g [] each = refl
all_fit_each g (h ∷ hs) each = and_from _ _ each.0 (all_fit_each g hs each.1)

-- each child has a valid name
pub named_each : (g : Grammar) (cs : List Call) → Each (λ (c : Call). sort_of g c.node ≡ Some c.sort) cs → are_named g (map as_child cs) ≡ true
named_each g [] each = refl
named_each g (c ∷ cs) each = and_from _ _ (ap is_some each.0) (named_each g cs each.1)

-- ---- through their view

view_cases : (g : Grammar) (b : Bool) (c : Call) (ds : List MadeChild) (cs : List P.Held) → sort_or (sort_of g c.node) ≡ c.sort → all_of g (map open_child ds) ≡ cs →
    all_of g (map open_child (cond b (as_child c ∷ ds) ds)) ≡ cond b (called_held c ∷ cs) cs
view_cases g true c ds cs e rest = λ i. record { node = c.node; sort = e i; inherited = c.inherited; state = (called_held c).state } ∷ rest i
view_cases g false c ds cs e rest = rest

pub own_view : (g : Grammar) (role : ℕ) (cs : List Call) → Each (λ (c : Call). sort_of g c.node ≡ Some c.sort) cs → all_of g (own_children g role (map as_child cs)) ≡ calls_in g role cs
own_view g role [] sorts = refl
own_view g role (c ∷ cs) sorts =
    view_cases g (is_home g role c.node) c (filter (λ (d : MadeChild). is_home g role d.node) (map as_child cs)) (calls_in g role cs) (ap sort_or sorts.0) (own_view g role cs sorts.1)

-- ---- none of them is held

lacks_cases : (b : Bool) (o : Option ℕ) → cond b (Some 0) (option_map suc o) ≡ None → (b ≡ false) × (o ≡ None)
lacks_cases true o e = absurd cc
lacks_cases false None e = (refl, refl)
lacks_cases false (Some i) e = absurd cc

lacks_later : (n : Node) (h : Held) (hs : List Held) → node_eq n h.node ≡ false → Lacks n hs → Lacks n (h ∷ hs)
lacks_later n h hs e lacks = ap (λ b. cond b (Some 0) (option_map suc (place_in n hs))) e ∙ ap (option_map suc) lacks

insert_cases : (n : Node) (b : Bool) (h k : Held) (ks zs : List Held) → node_eq n h.node ≡ false → node_eq n k.node ≡ false → Lacks n (k ∷ ks) → Lacks n zs → Lacks n (cond b (h ∷ k ∷ ks) (k ∷ zs))
insert_cases n true h k ks zs e f all later = lacks_later n h (k ∷ ks) e all
insert_cases n false h k ks zs e f all later = lacks_later n k zs f later

lacks_inserted : (n : Node) (h : Held) (hs : List Held) → node_eq n h.node ≡ false → Lacks n hs → Lacks n (insert_in h hs)
lacks_inserted n h [] e lacks = lacks_later n h [] e refl
lacks_inserted n h (k ∷ ks) e lacks =
    let (f, rest) = lacks_cases (node_eq n k.node) (place_in n ks) lacks in
    insert_cases n (node_lt h.node k.node) h k ks (insert_in h ks) e f lacks (lacks_inserted n h ks e rest)

differs : (n m : Node) (b : Bool) → node_eq n m ≡ b → (b ≡ true → Never) → b ≡ false
differs n m true e f = never (f refl)
differs n m false e f = refl

pub lack_each : (hs ks : List Held) → Each (λ (h : Held). Lacks h.node ks) hs → Later (λ (h k : Held). h.node ≡ k.node → Never) hs → LackEach hs ks
lack_each [] ks lacks differ = tt
lack_each (h ∷ hs) ks lacks differ = (
  lacks.0,
  lack_each hs (insert_in h ks) (both hs lacks.1 differ.0) differ.1,
)
  where
    both : (xs : List Held) → Each (λ (x : Held). Lacks x.node ks) xs → Each (λ (x : Held). h.node ≡ x.node → Never) xs → Each (λ (x : Held). Lacks x.node (insert_in h ks)) xs
    both [] a b = tt
    both (x ∷ xs) a b = (lacks_inserted x.node h ks (differs x.node h.node (node_eq x.node h.node) refl (λ t. b.0 (sym (node_is x.node h.node t)))) a.0, both xs a.1 b.1)

-- the first child has a valid name
pub named_first : (g : Grammar) (c : MadeChild) (cs : List MadeChild) → are_named g (c ∷ cs) ≡ true → is_some (sort_of g c.node) ≡ true
named_first g c cs all = (and_parts (is_some (sort_of g c.node)) (are_named g cs) all).0

-- and so have those behind it
pub named_rest : (g : Grammar) (c : MadeChild) (cs : List MadeChild) → are_named g (c ∷ cs) ≡ true → are_named g cs ≡ true
named_rest g c cs all = (and_parts (is_some (sort_of g c.node)) (are_named g cs) all).1

-- of a child and others, first that child and then those of the others
pub own_cons : (g : Grammar) (role : ℕ) (c : MadeChild) (cs : List MadeChild) → own_children g role (c ∷ cs) ≡ own_children g role (c ∷ []) ++ own_children g role cs
own_cons g role c cs = by (is_home g role c.node)
  where
    others : List MadeChild
    others = filter (λ (d : MadeChild). is_home g role d.node) cs

    by : (b : Bool) → map open_child (cond b (c ∷ others) others) ≡ map open_child (cond b (c ∷ []) []) ++ map open_child others
    by true = refl
    by false = refl
