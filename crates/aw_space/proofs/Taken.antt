-- A space after a taken rule and after a start, through its view.
use Rattle.std.proofs.Common.{◌≡◌, ℕ, true, List, [], ◌∷◌, ◌++◌, map, Some, slice_get, ap, ◌∙◌}
use Rattle.std.proofs.lemmas.List.{map-append}
use Rattle.aw_term.specs.Names.{root}
use Rattle.aw_term.specs.Rules.{Ground, Grammar, sort_of}
use Rattle.aw_term.specs.Configs.{Done}
use Rattle.aw_term.specs.Choices as P
use Rattle.aw_term.specs.Views.{ground_of}
use Rattle.aw_term.specs.WellFormed.{Each}
use Rattle.aw_term.specs.Held.{insert_held, insert_all}
use Rattle.aw_base.specs.NodeNames.{is_start}
use Rattle.aw_choice.specs.declared.choice.Choice.{Choice}
use Rattle.aw_choice.specs.declared.choice.Choice.TheVariants.{Start, Develop}
use Rattle.aw_choice.specs.ChoiceView.{choice_of}
use Rattle.aw_store.specs.Equations.{Map}
use Rattle.aw_apply.specs.Made.{Call, Making}
use Rattle.aw_apply.specs.MadeView.{as_child}
use Rattle.aw_node_list.specs.HeldView.{sort_or, held_of, all_of}
use Rattle.aw_node_list.specs.InOrder.{insert_in, insert_all_in, done_at}
use Rattle.aw_node_list.specs.declared.held.Held.{Held}
use Rattle.aw_node_list.proofs.InOrderLemmas.{Up}
use Rattle.aw_node_list.proofs.HeldViews.{view_inserted, view_all_inserted, view_marked}
use Rattle.aw_law_sites.specs.Joint.{root_held}
use Rattle.aw_law_worlds.proofs.Sorts.{sort_of_root}
use Rattle.aw_law_sites.specs.Telling.{calls_in}
use Rattle.aw_space.specs.Spaces.{develop_space}
use Rattle.aw_space.specs.SpaceView.{space_of}
use Rattle.aw_space.specs.Children.{own_children}
use Rattle.aw_space.specs.Openings.{opened}
use Rattle.aw_space.proofs.OwnChildren.{own_view}

-- the choices with one more
pub choices_pushed : (cs : List Choice) (c : Choice) (p : P.Choice) → choice_of c ≡ p → map choice_of (cs ++ c ∷ []) ≡ map choice_of cs ++ p ∷ []
choices_pushed cs c p e = map-append choice_of cs (c ∷ []) ∙ ap (λ x. map choice_of cs ++ x ∷ []) e

-- the space after a rule was taken on the node at a place
pub developed : (g : Grammar) (role : ℕ) (hs : List Held) (cs : List Choice) (k : Map) (c : Choice) (r : ℕ) (args : List Ground) (at : ℕ) (h : Held) (m : Making) →
    Up hs → slice_get hs at ≡ Some h → choice_of c ≡ P.Develop h.node r args → Each (λ (d : Call). sort_of g d.node ≡ Some d.sort) m.calls →
    space_of g (insert_all_in (own_children g role (map as_child m.calls)) (done_at c at hs)) (cs ++ c ∷ []) (k ++ m.equations) ≡ develop_space g role (space_of g hs cs k) h.node r args m
developed g role hs cs k (Start s i) r args at h m up here e sorts = absurd cc
developed g role hs cs k (Develop n r' args') r args at h m up here e sorts =
    let state : Done r' (map ground_of args') ≡ Done r args = cc in
    let held = view_all_inserted g (own_children g role (map as_child m.calls)) (done_at (Develop n r' args') at hs)
    ∙ ap (λ xs. insert_all xs (all_of g (done_at (Develop n r' args') at hs))) (own_view g role m.calls sorts)
    ∙ ap (insert_all (calls_in g role m.calls)) (view_marked g (Develop n r' args') (Done r args) hs at h up here state) in
    let choices = choices_pushed cs (Develop n r' args') (P.Develop h.node r args) e in
    λ i. record { held = held i; choices = choices i; equations = k ++ m.equations }

-- the space after a start
pub begun : (g : Grammar) (hs : List Held) (cs : List Choice) (k : Map) (c : Choice) (s l : ℕ) → is_start (slice_get g.sorts s) ≡ true → choice_of c ≡ P.Start s l →
    space_of g (insert_in (opened s l) hs) (cs ++ c ∷ []) k ≡ record (space_of g hs cs k) { held = insert_held (root_held s l) (all_of g hs); choices = map choice_of cs ++ P.Start s l ∷ [] }
begun g hs cs k c s l start e =
    let sort : sort_or (sort_of g (root s l)) ≡ s = ap sort_or (sort_of_root g s l start) in
    let view : held_of g (opened s l) ≡ root_held s l = λ i. record { node = root s l; sort = sort i; inherited = []; state = (root_held s l).state } in
    let held = view_inserted g (opened s l) hs ∙ ap (λ h. insert_held h (all_of g hs)) view in
    let choices = choices_pushed cs c (P.Start s l) e in
    λ i. record { held = held i; choices = choices i; equations = k }
