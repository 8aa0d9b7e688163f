-- What is known of the node at a place, and of a rule that is weighed there.
use Rattle.std.proofs.Common.{◌≡◌, ℕ, zero, suc, ◌≤◌, true, false, List, [], ◌∷◌, length, map, Option, Some, None, Bor, slice_get, is_some, refl, ap, sym, ◌∙◌, subst}
use Rattle.std.specs.Prelude.{option_map}
use Rattle.std.specs.Option.{option_copied}
use Rattle.std.proofs.lemmas.Bool.{and_parts, eqb-true}
use Rattle.std.proofs.lemmas.Option.{slice_get-map, same_Some}
use Rattle.aw_term.specs.Trees.{join}
use Rattle.aw_term.specs.Names.{Node, Ref}
use Rattle.aw_term.specs.Rules as P
use Rattle.aw_term.specs.Rules.{Ground, sort_of, sort_at}
use Rattle.aw_term.specs.Views.{pattern_of}
use Rattle.aw_term.specs.WellFormed.{takes_of, all_leaves}
use Rattle.aw_term.specs.Held as H
use Rattle.aw_term.proofs.LastSteps.{sort_by_last}
use Rattle.aw_term.proofs.Joined.{leaves_join}
use Rattle.aw_choice.specs.declared.choice.Choice.{Choice}
use Rattle.aw_choice.specs.declared.choice.Choice.TheVariants as choice
use Rattle.aw_grammar.specs.declared.grammar.Grammar.{Grammar}
use Rattle.aw_grammar.specs.declared.rule.Rule.{Rule}
use Rattle.aw_grammar.specs.GrammarOf.{grammar_of}
use Rattle.aw_grammar.specs.GrammarView.{rule_of}
use Rattle.aw_grammar.proofs.RuleSizes.{patterns_taken, leaves_few}
use Rattle.aw_store.specs.Equations.{Map}
use Rattle.aw_apply.specs.Telling.{weighed_of}
use Rattle.aw_apply.specs.declared.telling.Weighed.{Weighed}
use Rattle.aw_apply.specs.declared.telling.Weighed.TheVariants as weighed
use Rattle.aw_choice.specs.declared.choice.Answer.TheVariants as answer
use Rattle.aw_node_list.specs.declared.held.Held.{Held}
use Rattle.aw_node_list.specs.HeldView.{sort_or, held_of, all_of, state_of}
use Rattle.aw_node_list.specs.InOrder.{place_in}
use Rattle.aw_node_list.proofs.HeldViews.{held_here}
use Rattle.aw_law_sites.specs.Joint.{by_rule, by_held}
use Rattle.aw_law_sites.specs.ValidNames.{takes_as}
use Rattle.aw_space.specs.Sound.{is_own, all_own}
use Rattle.aw_space.specs.Spaces.{is_home}
use Rattle.aw_space.specs.Weighing.{Weighs}

own_here : (g : P.Grammar) (role : ℕ) (hs : List Held) (i : ℕ) (h : Held) → all_own g role hs ≡ true → slice_get hs i ≡ Some h → is_own g role h ≡ true
own_here g role [] i h all e = absurd cc
own_here g role (x ∷ xs) zero h all e = let s : x ≡ h = cc in subst (λ (y : Held). is_own g role y ≡ true) s (and_parts (is_own g role x) _ all).0
own_here g role (x ∷ xs) (suc i) h all e = own_here g role xs i h (and_parts (is_own g role x) _ all).1 e

-- a held node has a valid name, and a reference for each value that its sort inherits
pub takes_here : (g : P.Grammar) (role : ℕ) (hs : List Held) (i : ℕ) (h : Held) → all_own g role hs ≡ true → slice_get hs i ≡ Some h → takes_as g (sort_of g h.node) h.inherited ≡ true
takes_here g role hs i h all e = (and_parts (is_home g role h.node) _ (own_here g role hs i h all e)).1

-- the place that was found
pub node_here : (g : P.Grammar) (n : Node) (hs : List Held) (i : ℕ) (h : Held) → place_in n hs ≡ Some i → slice_get hs i ≡ Some h → h.node ≡ n
node_here g n hs i h e f = let w = held_here g n hs i e in ap (λ (x : Held). x.node) (same_Some _ _ (sym f ∙ w.1)) ∙ w.2

-- the rule behind a look-up's reference
pub found_rule : (rules : List Rule) (number : ℕ) (found : Option (Bor Rule)) (rule : Bor Rule) → option_copied found ≡ slice_get rules number → found ≡ Some rule →
    slice_get rules number ≡ Some rule.now
found_rule rules number found rule e f = sym e ∙ ap option_copied f

-- at most 64 variables enter in the patterns of a rule
pub patterns_room : (g : Grammar) (number : ℕ) (rule : Rule) → slice_get g.rules number ≡ Some rule → length (all_leaves (join (map pattern_of rule.patterns))) ≤ 64
patterns_room g number rule here = subst (λ xs. length xs ≤ 64) (sym (leaves_join (map pattern_of rule.patterns))) (leaves_few g number rule here)

many_cases : (g : P.Grammar) (n : Node) (rs : List Ref) (o : Option ℕ) → sort_of g n ≡ o → takes_as g o rs ≡ true →
    (sort_or (sort_of g n) ≡ sort_at g n) × (length rs ≡ takes_of (slice_get g.sorts (sort_at g n)))
many_cases g n rs None e t = absurd cc
many_cases g n rs (Some s) e t =
    let last = sort_by_last g n s e in
    (ap sort_or e ∙ sym last, eqb-true (length rs) (takes_of (slice_get g.sorts s)) t ∙ ap (λ x. takes_of (slice_get g.sorts x)) (sym last))

-- the sort of a node with as many references as it takes, by its last step
pub sort_here : (g : P.Grammar) (n : Node) (rs : List Ref) → takes_as g (sort_of g n) rs ≡ true → sort_or (sort_of g n) ≡ sort_at g n
sort_here g n rs t = (many_cases g n rs (sort_of g n) refl t).0

-- a rule of its sort has as many patterns
pub same_many : (g : Grammar) (number : ℕ) (rule : Rule) (n : Node) (rs : List Ref) → slice_get g.rules number ≡ Some rule →
    takes_as (grammar_of g) (sort_of (grammar_of g) n) rs ≡ true → rule.sort ≡ sort_at (grammar_of g) n → length rule.patterns ≡ length rs
same_many g number rule n rs here t e =
    patterns_taken g number rule here ∙ ap (λ s. takes_of (slice_get (grammar_of g).sorts s)) e ∙ sym (many_cases (grammar_of g) n rs (sort_of (grammar_of g) n) refl t).1

-- the plain rule is that of the program
same_rule : (g : Grammar) (number : ℕ) (rule : Rule) (r : P.Rule) → slice_get g.rules number ≡ Some rule → slice_get (grammar_of g).rules number ≡ Some r → rule_of g.sorts rule ≡ r
same_rule g number rule r here e = same_Some _ _ (sym (slice_get-map (rule_of g.sorts) g.rules number ∙ ap (option_map (rule_of g.sorts)) here) ∙ e)

-- a rule at an open node
pub weighs_open : (g : Grammar) (number : ℕ) (rule : Rule) (k : Map) (args : List Ground) (held : Held) (w : Weighed) → slice_get g.rules number ≡ Some rule → held.done ≡ None →
    weighed_of (rule_of g.sorts rule) w ≡ by_rule (Some (rule_of g.sorts rule)) k held.node args (held_of (grammar_of g) held) →
    Weighs (grammar_of g) number w (by_held (Some (held_of (grammar_of g) held)) (grammar_of g) k held.node number args)
weighs_open g number rule k args held w here idle e r there =
    let at = λ (done : Option Choice). by_held
    (Some (record { node = held.node; sort = sort_or (sort_of (grammar_of g) held.node); inherited = held.inherited; state = state_of done })) (grammar_of g) k held.node number args in
    let h : H.Held = record { node = held.node; sort = sort_or (sort_of (grammar_of g) held.node); inherited = held.inherited; state = state_of None } in
    let same = same_rule g number rule r here there in
    let met : weighed_of (rule_of g.sorts rule) w ≡ by_rule (Some (rule_of g.sorts rule)) k held.node args h = e in
    let found : by_rule (Some (rule_of g.sorts rule)) k held.node args h ≡ at None =
    ap (λ o. by_rule o k held.node args h) (sym (slice_get-map (rule_of g.sorts) g.rules number ∙ ap (option_map (rule_of g.sorts)) here)) in
    ap (λ x. weighed_of x w) (sym same) ∙ met ∙ found ∙ ap at (sym idle)

-- a node that is done takes none
pub weighs_done : (g : P.Grammar) (number : ℕ) (k : Map) (args : List Ground) (held : Held) (done : Option Choice) → held.done ≡ done → is_some done ≡ true →
    Weighs g number (weighed.Refused answer.Developed) (by_held (Some (held_of g held)) g k held.node number args)
weighs_done g number k args held None is e r there = absurd cc
weighs_done g number k args held (Some (choice.Start s l)) is e r there =
    ap (λ d. by_held (Some (record { node = held.node; sort = sort_or (sort_of g held.node); inherited = held.inherited; state = state_of d })) g k held.node number args) (sym is)
weighs_done g number k args held (Some (choice.Develop n rule given)) is e r there =
    ap (λ d. by_held (Some (record { node = held.node; sort = sort_or (sort_of g held.node); inherited = held.inherited; state = state_of d })) g k held.node number args) (sym is)

pub none_noted : (o : Option Choice) → is_some o ≡ false → o ≡ None
none_noted None e = refl
none_noted (Some c) e = absurd cc

-- a rule weighed at the place of a node is weighed at the node
pub weighs_here : (g : P.Grammar) (hs : List Held) (n : Node) (i : ℕ) (h : Held) (k : Map) (number : ℕ) (args : List Ground) (w : Weighed) → place_in n hs ≡ Some i → slice_get hs i ≡ Some h →
    Weighs g number w (by_held (Some (held_of g h)) g k h.node number args) → Weighs g number w (by_held (H.held_of n (all_of g hs)) g k n number args)
weighs_here g hs n i h k number args w e f weighs r here =
    let at = held_here g n hs i e in
    let same = same_Some _ _ (sym f ∙ at.1) in
    weighs r here
    ∙ ap (λ m. by_held (Some (held_of g h)) g k m number args) (node_here g n hs i h e f)
    ∙ ap (λ (x : Held). by_held (Some (held_of g x)) g k n number args) same
    ∙ ap (λ o. by_held o g k n number args) (sym at.3)
