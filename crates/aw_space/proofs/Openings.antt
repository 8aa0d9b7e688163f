-- What is kept of nodes that are to be held.
use Rattle.std.proofs.Common.{◌≡◌, ℕ, suc, ◌+◌, ◌≤◌, Bool, true, false, cond, List, [], ◌∷◌, length, map, Option, Some, None, is_some, refl, ap, sym, ◌∙◌, arith, All}
use Rattle.std.specs.Prelude.{count_by, nat_eq, slice_get}
use Rattle.std.proofs.lemmas.Bool.{eqb-true}
use Rattle.std.proofs.lemmas.List.Sums.{sum_by-cons}
use Rattle.aw_term.specs.Names.{Ref}
use Rattle.aw_term.specs.Rules.{Rule, Grammar, sort_of}
use Rattle.aw_term.specs.WellFormed.{takes_of}
use Rattle.aw_store.specs.NamedRefs.{Grows, all_named}
use Rattle.aw_store.proofs.SlotLemmas.{AreNamed-all}
use Rattle.aw_node_list.specs.declared.held.Held.{Held}
use Rattle.aw_node_list.specs.HeldView.{sort_or, state_of, held_of, all_of}
use Rattle.aw_law_sites.specs.ValidNames.{takes_as}
use Rattle.aw_standing.specs.declared.kept.Kept.{Kept}
use Rattle.aw_standing.specs.declared.record.Record.{Record}
use Rattle.aw_standing.specs.KeptStates.{HasRoom}
use Rattle.aw_standing.specs.Records.{IsOf, open_node, open_rules, mark_rule, rules_of as numbers_of}
use Rattle.aw_standing.proofs.Growing.{fit_grows, of_grows}
use Rattle.aw_term.specs.Held as P
use Rattle.aw_space.specs.Costs.{rules_of, rules_at}
use Rattle.aw_space.specs.Openings.{IsReady, held_in, tests_of, all_tests}
use Rattle.aw_space.specs.Sound.{all_inherited}
use Rattle.aw_space.proofs.Names.{all_named-append}
use Rattle.aw_space.specs.declared.opening.Opening.{Opening}

-- what the grammar says of a node with as many references as its sort takes
pub takes_sort : (g : Grammar) (o : Option ℕ) (rs : List Ref) → takes_as g o rs ≡ true → is_some o ≡ true
takes_sort g None rs e = absurd cc
takes_sort g (Some s) rs e = refl

pub takes_many : (g : Grammar) (o : Option ℕ) (rs : List Ref) → takes_as g o rs ≡ true → length rs ≡ takes_of (slice_get g.sorts (sort_or o))
takes_many g None rs e = absurd cc
takes_many g (Some s) rs e = eqb-true _ _ e

-- a record of an open node is of the node itself
pub of_held : (g : Grammar) (names : List Ref) (h : Held) (x : Record) → h.done ≡ None → IsOf g names (open_node h.node h.inherited) x → IsOf g names h x
of_held g names h x none f = record { sort = f.sort; slots = f.slots; deep = f.deep; rules = f.rules ∙ ap (λ d. open_rules g x.sort (state_of d)) (sym none) }

-- it stays ready where names come
pub ready_grows : (g : Grammar) (names more : List Ref) → Grows names more → (o : Opening) → IsReady g names o → IsReady g more o
ready_grows g names more grows o r = record { done = r.done; of_node = of_grows names more grows g o.held o.entry r.of_node; fit = fit_grows names more grows g o.entry r.fit; fresh = r.fresh }

-- its references are named
pub ready_named : (g : Grammar) (names : List Ref) (o : Opening) → IsReady g names o → all_named names o.held.inherited ≡ true
ready_named g names o r = AreNamed-all names o.entry.slots.items o.held.inherited r.of_node.slots

-- as many rules are tested as are of its sort
many_numbers : (s i : ℕ) (rs : List Rule) → length (numbers_of s i rs) ≡ count_by (λ (r : Rule). nat_eq r.sort s) rs
many_numbers s i [] = refl
many_numbers s i (r ∷ rs) = by (nat_eq r.sort s) (many_numbers s (suc i) rs) ∙ sym (sum_by-cons (λ (r : Rule). cond (nat_eq r.sort s) 1 0) r rs)
  where
    by : (b : Bool) → length (numbers_of s (suc i) rs) ≡ count_by (λ (r : Rule). nat_eq r.sort s) rs →
        length (cond b (i ∷ numbers_of s (suc i) rs) (numbers_of s (suc i) rs)) ≡ cond b 1 0 + count_by (λ (r : Rule). nat_eq r.sort s) rs
    by true e = omega (arith, e)
    by false e = omega (arith, e)

many_marks : {A B : Type 0} (f : A → B) (xs : List A) (ys : List B) → map f xs ≡ ys → length xs ≡ length ys
many_marks f [] ys e = ap length e
many_marks f (x ∷ xs) [] e = absurd cc
many_marks f (x ∷ xs) (y ∷ ys) e = let rest : map f xs ≡ ys = cc in ap suc (many_marks f xs ys rest)

pub tests_are : (g : Grammar) (names : List Ref) (o : Opening) → IsReady g names o → tests_of o ≡ rules_of g (sort_or (sort_of g o.held.node))
tests_are g names o r =
    o.entry.marks.ok.0
    ∙ many_marks mark_rule o.entry.marks.items (numbers_of o.entry.sort 0 g.rules) (r.of_node.rules ∙ ap (λ d. open_rules g o.entry.sort (state_of d)) r.done)
    ∙ many_numbers o.entry.sort 0 g.rules
    ∙ ap (rules_of g) (sym r.of_node.sort)

pub all_tests_are : (g : Grammar) (names : List Ref) (os : List Opening) → All (IsReady g names) os → all_tests os ≡ rules_at g (all_of g (map held_in os))
all_tests_are g names [] r = refl
all_tests_are g names (o ∷ os) r =
    sum_by-cons tests_of o os
    ∙ omega (arith, tests_are g names o (r 0 o (omega arith)), all_tests_are g names os (λ k d l. r (suc k) d (omega (arith, l))))
    ∙ sym (sum_by-cons (λ (h : P.Held). rules_of g h.sort) (held_of g o.held) (all_of g (map held_in os)))

-- there is room for less
pub less_room : (kept : Kept) (n m w v : ℕ) → HasRoom kept n w → m ≤ n → v ≤ w → HasRoom kept m v
less_room kept n m w v r a b = record { entries = omega (arith, r.entries, a); spare = omega (arith, r.spare, b) }

-- the references of all of them are named
pub all_ready_named : (g : Grammar) (names : List Ref) (os : List Opening) → All (IsReady g names) os → all_named names (all_inherited (map held_in os)) ≡ true
all_ready_named g names [] r = refl
all_ready_named g names (o ∷ os) r = all_named-append names o.held.inherited (all_inherited (map held_in os)) (ready_named g names o (r 0 o (omega arith)))
    (all_ready_named g names os (λ k d l. r (suc k) d (omega (arith, l))))
