-- What carrying a choice out asks, and what it keeps.
use Rattle.std.proofs.Common.{◌≡◌, ℕ, zero, suc, ◌+◌, Bool, true, false, cond, List, [], ◌∷◌, ◌++◌, map, length, Option, Some, None, slice_get, is_some, refl, ap, sym, ◌∙◌, subst, eq-eqb}
use Rattle.std.specs.Prelude.{not, ◌&&◌, ◌||◌, option_map}
use Rattle.std.proofs.Math.Logic.{∥∥₁_elim}
use Rattle.std.proofs.Math.Bool.{Bool-set}
use Rattle.std.proofs.lemmas.Bool.{and_parts, and_from}
use Rattle.aw_list.specs.Members.{Member}
use Rattle.aw_term.specs.Trees.{Head}
use Rattle.aw_term.specs.Names.{Node, Ref, node_eq, node_lt, below}
use Rattle.aw_term.specs.Rules as P
use Rattle.aw_term.specs.Rules.{Ground, sort_of}
use Rattle.aw_term.specs.Choices as Q
use Rattle.aw_term.specs.Views.{ground_of}
use Rattle.aw_term.specs.WellFormed.{Each}
use Rattle.aw_term.proofs.Eaches.{each_map}
use Rattle.aw_name.specs.SameNodes.{node_self}
use Rattle.aw_spelling.proofs.NameCuts.{and_false}
use Rattle.aw_term.proofs.ByNodeLemmas.{other_before, other_after}
use Rattle.aw_choice.specs.ChoiceView.{choice_of}
use Rattle.aw_choice.specs.declared.choice.Choice.{Choice}
use Rattle.aw_choice.specs.declared.choice.Choice.TheVariants as choice
use Rattle.aw_grammar.specs.declared.grammar.Grammar.{Grammar}
use Rattle.aw_grammar.specs.GrammarOf.{grammar_of, words_of}
use Rattle.aw_base.specs.ChoiceFits.{choice_ok, args_ok, ref_ok}
use Rattle.aw_iograph.specs.Occurrences.{pattern_entries}
use Rattle.aw_store.specs.Adding.{AreNew}
use Rattle.aw_store.specs.Equations.{Is, Equation, Map, find}
use Rattle.aw_apply.specs.Made.{Call, Making, made}
use Rattle.aw_apply.specs.MadeView.{as_child}
use Rattle.aw_apply.proofs.MadeCalls.{IsBelow, made-below, made-differ, made-sorts}
use Rattle.aw_apply.proofs.Numbering.{Lies, made-apart, made-new}
use Rattle.aw_node_list.specs.declared.held.Held.{Held}
use Rattle.aw_node_list.specs.HeldView.{sort_or}
use Rattle.aw_node_list.specs.InOrder.{place_in, insert_all_in, done_at, Lacks, LackEach}
use Rattle.aw_node_list.proofs.InOrderLemmas.{Up, up_of}
use Rattle.aw_node_list.proofs.HeldViews.{held_here, each_here}
use Rattle.aw_law_sites.specs.Homes.{has_steps, parent}
use Rattle.aw_law_sites.specs.ValidNames.{refs_ok, takes_as, equations_ok}
use Rattle.aw_law_sites.proofs.Lists.{each_of}
use Rattle.aw_law_worlds.proofs.Delivering.{parent-below, has-end as has_end}
use Rattle.aw_law_worlds.proofs.GuardBinds.{all_bound, all_many}
use Rattle.aw_law_worlds.proofs.Learning.{find-member}
use Rattle.aw_law_worlds.proofs.Sorts.{some_sort}
use Rattle.aw_space.specs.Children.{own_children, are_named}
use Rattle.aw_space.specs.Sound.{is_own, all_own, is_done, is_rooted, all_rooted, AreHome, IsSound}
use Rattle.aw_space.specs.Spaces.{is_home, develop_space, space_on, space_after}
use Rattle.aw_space.specs.SpaceView.{space_of}
use Rattle.aw_space.specs.Taken.{Belong}
use Rattle.aw_space.specs.Valid.{is_of_sort, done_fits, held_fits, all_fit, IsValid}
use Rattle.aw_space.proofs.Freshness.{free_pending}
use Rattle.aw_space.proofs.KeptSound.{own_all_inserted, own_done, done_here, done_kept, done_all_inserted, all_done_kept, all_done_append, all_done_new}
use Rattle.aw_space.proofs.KeptSound.{all_rooted_more, rooted_all_inserted, rooted_done, rooted_below}
use Rattle.aw_space.proofs.KeptValid.{fit_all_inserted, fit_done, refs_here, valid_append}
use Rattle.aw_space.proofs.MadeNames.{each_ref, each_valid, kid_valid, made_valid}
use Rattle.aw_space.proofs.OwnChildren.{named_each, own_each, own_differ, lack_each, all_own_each, all_rooted_each, all_fit_each}
use Rattle.aw_space.proofs.Taken.{developed}
use Rattle.aw_space.proofs.TakenOn.{Took}

-- an open node is not done, since no other is of its name
idle_after : (n : Node) (hs : List Held) → Each (λ (h : Held). node_lt n h.node ≡ true) hs → is_done n hs ≡ false
idle_after n [] high = refl
idle_after n (h ∷ hs) high = ap (λ b. (b && is_some h.done) || is_done n hs) (other_after n h.node high.0) ∙ idle_after n hs high.1

pub idle_here : (hs : List Held) (i : ℕ) (h : Held) → Up hs → slice_get hs i ≡ Some h → h.done ≡ None → is_done h.node hs ≡ false
idle_here [] i h up e idle = absurd cc
idle_here (x ∷ xs) zero h up e idle =
    let same : x ≡ h = cc in
    subst (λ (y : Held). is_done y.node (x ∷ xs) ≡ false) same
    (ap (λ d. (node_eq x.node x.node && is_some d) || is_done x.node xs) (ap (λ (y : Held). y.done) same ∙ idle)
    ∙ ap (λ b. b || is_done x.node xs) (and_false (node_eq x.node x.node)) ∙ idle_after x.node xs up.0)
idle_here (x ∷ xs) (suc i) h up e idle =
    ap (λ b. (b && is_some x.done) || is_done h.node xs) (other_before h.node x.node (each_here (λ (y : Held). node_lt x.node y.node ≡ true) xs i h up.0 e)) ∙ idle_here xs i h up.1 e idle

-- a held child of a node of this role is of a done one
rooted_here : (g : P.Grammar) (role : ℕ) (xs hs : List Held) (i : ℕ) (h : Held) → all_rooted g role xs hs ≡ true → slice_get hs i ≡ Some h → is_rooted g role xs h.node ≡ true
rooted_here g role xs [] i h all e = absurd cc
rooted_here g role xs (k ∷ ks) zero h all e = let same : k ≡ h = cc in subst (λ (y : Held). is_rooted g role xs y.node ≡ true) same (and_parts (is_rooted g role xs k.node) _ all).0
rooted_here g role xs (k ∷ ks) (suc i) h all e = rooted_here g role xs ks i h (and_parts (is_rooted g role xs k.node) _ all).1 e

rooted_none : (a b : Bool) (c : Bool) → a ≡ true → b ≡ true → c ≡ false → (not (a && b) || c) ≡ true → ⊥
rooted_none a b c p q r e =
    let z : (not (true && true) || false) ≡ true = sym (λ i. not (p i && q i) || r i) ∙ e in absurd cc

lacks_on : (g : P.Grammar) (role : ℕ) (hs : List Held) (n : Node) (r k : ℕ) (o : Option ℕ) → place_in (below n r k) hs ≡ o → all_rooted g role hs hs ≡ true →
    is_home g role n ≡ true → is_done n hs ≡ false → o ≡ None
lacks_on g role hs n r k None e all home idle = refl
lacks_on g role hs n r k (Some i) e all home idle =
    let w = held_here g (below n r k) hs i e in
    let rooted = subst (λ m. is_rooted g role hs m ≡ true) w.2 (rooted_here g role hs hs i w.0 all w.1) in
    let p = parent-below n r k in
    absurd (rooted_none (has_steps (below n r k).steps) (is_home g role (parent (below n r k))) (is_done (parent (below n r k)) hs)
    (has_end n.steps (record { rule = r; child = k })) (ap (is_home g role) p ∙ home) (ap (λ m. is_done m hs) p ∙ idle) rooted)

-- no child of an open node of this role is held
pub lacks_child : (g : P.Grammar) (role : ℕ) (hs : List Held) (n : Node) (r k : ℕ) → all_rooted g role hs hs ≡ true → is_home g role n ≡ true → is_done n hs ≡ false → Lacks (below n r k) hs
lacks_child g role hs n r k all home idle = lacks_on g role hs n r k (place_in (below n r k) hs) refl all home idle

lacks_done : (n : Node) (c : Choice) (i : ℕ) (hs : List Held) → place_in n (done_at c i hs) ≡ place_in n hs
lacks_done n c i [] = refl
lacks_done n c zero (h ∷ hs) = refl
lacks_done n c (suc i) (h ∷ hs) = ap (λ o. cond (node_eq n h.node) (Some 0) (option_map suc o)) (lacks_done n c i hs)

-- a rule that is taken on a node of this role
module _ (gr : Grammar) (role : ℕ) (hs : List Held) (k : Map) (names : List Ref) (sound : IsSound (grammar_of gr) role hs k names) (valid : IsValid (grammar_of gr) hs k)
    (n : Node) (r : ℕ) (args : List Ground) (ok : choice_ok (grammar_of gr) (Q.Develop n r args) ≡ true) (home : is_home (grammar_of gr) role n ≡ true) (t : Took (grammar_of gr) hs k n r args) where
  abbrev g : P.Grammar
  g = grammar_of gr

  abbrev rule : P.Rule
  rule = t.rule.rule

  abbrev mk : Making
  mk = made n r rule args t.rule.bound

  up : Up hs
  up = up_of hs sound.ordered

  fit : args_ok g args ≡ true
  fit = (and_parts (is_some (slice_get g.rules r)) (args_ok g args) (and_parts (is_some (sort_of g n)) _ ok).1).1

  sorted : sort_of g n ≡ Some rule.sort
  sorted =
      let (s, e) = some_sort g n (and_parts (is_some (sort_of g n)) _ ok).0 in
      e ∙ ap Some (sym (t.rule.of_sort ∙ ap (λ m. sort_or (sort_of g m)) t.node ∙ ap sort_or e))

  many : length t.rule.bound ≡ length (pattern_entries 1 rule.patterns)
  many = all_many k 1 1 rule.patterns t.held.inherited t.rule.bound t.rule.met

  part_ok : (s : Ref) (h : Head) (rs : List Ref) (u : Ref) → find k s ≡ Some (Is h rs) → Member u rs → ref_ok g u ≡ true
  part_ok s h rs u e m =
      let one = each_valid g k valid.equations (record { left = s; body = Is h rs }) (find-member k s (Is h rs) e) in
      each_ref g rs (and_parts _ (refs_ok g rs) (and_parts (ref_ok g s) _ one).1).1 u m

  old : (u : Ref) → Member u t.rule.bound → ref_ok g u ≡ true
  old = all_bound k (λ u. ref_ok g u ≡ true) part_ok 1 rule.patterns t.held.inherited t.rule.bound (each_ref g t.held.inherited (refs_here g hs t.at t.held valid.nodes t.there)) t.rule.met

  -- the equations are valid
  pub new_valid : equations_ok g mk.equations ≡ true
  new_valid = ∥∥₁_elim gr.well_formed (Bool-set _ _) (λ w. made_valid (words_of gr) g w n r rule t.rule.is_rule sorted args t.rule.given fit t.rule.bound many old)

  -- each child has its sort
  pub kid_sorts : Each (λ (c : Call). sort_of g c.node ≡ Some c.sort) mk.calls
  kid_sorts = made-sorts n r rule args t.rule.bound g sorted t.rule.is_rule

  pub kids_named : are_named g (map as_child mk.calls) ≡ true
  kids_named = named_each g mk.calls kid_sorts

  kid_takes : (c : Call) → Member c mk.calls → takes_as g (sort_of g c.node) c.inherited ≡ true
  kid_takes c m = ∥∥₁_elim gr.well_formed (Bool-set _ _) (λ w. (kid_valid (words_of gr) g w n r rule t.rule.is_rule sorted args t.rule.given fit t.rule.bound many old c m).1)

  kid_refs : (c : Call) → Member c mk.calls → refs_ok g c.inherited ≡ true
  kid_refs c m = ∥∥₁_elim gr.well_formed (Bool-set _ _) (λ w. (kid_valid (words_of gr) g w n r rule t.rule.is_rule sorted args t.rule.given fit t.rule.bound many old c m).2)

  idle : is_done n hs ≡ false
  idle = subst (λ m. is_done m hs ≡ false) t.node (idle_here hs t.at t.held up t.there t.idle)

  -- the equations are new
  pub new_equations : AreNew k mk.equations
  new_equations = made-new k n r rule args t.rule.bound (free_pending g role hs k n sound.done home idle)

  abbrev own : List Held
  own = own_children g role (map as_child mk.calls)

  -- no child is held
  pub own_lacks : (c : Choice) → LackEach own (done_at c t.at hs)
  own_lacks c =
      lack_each own (done_at c t.at hs)
      (own_each g role (λ (h : Held). Lacks h.node (done_at c t.at hs)) mk.calls (each_map _ _ mk.calls
      (λ (d : Call) (b : IsBelow n r 1 (1 + length rule.children) d) here. lacks_done d.node c t.at hs ∙ ap (λ m. place_in m hs) b.3 ∙ lacks_child g role hs n r b.0 sound.rooted home idle)
      (made-below n r rule args t.rule.bound)))
      (own_differ g role mk.calls (made-differ n r rule args t.rule.bound))

  -- the space afterwards
  module _ (c : Choice) (is : choice_of c ≡ Q.Develop n r args) where
    abbrev after : List Held
    after = insert_all_in own (done_at c t.at hs)

    more : (m : Node) → is_done m hs ≡ true → is_done m after ≡ true
    more m e = done_all_inserted m own (done_at c t.at hs) (done_kept m c t.at hs e)

    done_now : is_done n after ≡ true
    done_now = done_all_inserted n own (done_at c t.at hs) (subst (λ m. is_done m (done_at c t.at hs) ≡ true) t.node (done_here c t.at hs t.held t.there))

    pub own_is : all_own g role own ≡ true
    own_is = all_own_each g role own (own_each g role (λ h. is_own g role h ≡ true) mk.calls (each_of _ mk.calls (λ c m here. and_from _ _ here (kid_takes c m))))

    own_rooted : all_rooted g role after own ≡ true
    own_rooted = all_rooted_each g role after own (own_each g role (λ (h : Held). is_rooted g role after h.node ≡ true) mk.calls (each_map _ _ mk.calls
        (λ (d : Call) (b : IsBelow n r 1 (1 + length rule.children) d) here. rooted_below g role after d.node (ap (λ m. is_done m after) (ap parent b.3 ∙ parent-below n r b.0) ∙ done_now))
        (made-below n r rule args t.rule.bound)))

    own_fit : all_fit g own ≡ true
    own_fit = all_fit_each g own (own_each g role (λ h. held_fits g h ≡ true) mk.calls (each_of _ mk.calls (λ c m here. and_from _ _ (kid_refs c m) refl)))

    lefts : Each (λ (e : Equation). e.left.node ≡ n) mk.equations
    lefts = let (z, a) = made-apart n r rule args t.rule.bound in each_map _ _ mk.equations (λ (e : Equation) (l : Lies n 1 z 1 (1 + length rule.results) e). l.0) a.lie

    home_after : AreHome g role after (k ++ mk.equations)
    home_after = record {
      own = own_all_inserted g role own (done_at c t.at hs) own_is (own_done g role c t.at hs sound.own);
      done = all_done_append g role after k mk.equations (all_done_kept g role hs after k more sound.done) (all_done_new g role after n mk.equations done_now lefts);
      rooted = rooted_all_inserted g role after own (done_at c t.at hs) own_rooted (rooted_done g role after c t.at hs (all_rooted_more g role hs after hs more sound.rooted));
    }

    fits_done : (c : Choice) → choice_of c ≡ Q.Develop n r args → done_fits g t.held.node (Some c) ≡ true
    fits_done (choice.Start s l) e = absurd cc
    fits_done (choice.Develop m number given) e =
        let same : m ≡ n = cc in
        let numbered : number ≡ r = cc in
        let fits : map ground_of given ≡ args = cc in
        let rules = ap (slice_get g.rules) numbered ∙ t.rule.is_rule in
        and_from _ _ (ap (node_eq m) (t.node ∙ sym same) ∙ node_self m)
        (and_from _ _ (ap (λ o. is_of_sort o (sort_of g t.held.node)) rules ∙ ap (λ x. is_of_sort (Some rule) (sort_of g x)) t.node ∙ ap (is_of_sort (Some rule)) sorted
        ∙ eq-eqb rule.sort rule.sort refl)
        (ap (args_ok g) fits ∙ fit))

    valid_after : IsValid g after (k ++ mk.equations)
    valid_after = record {
      nodes = fit_all_inserted g own (done_at c t.at hs) own_fit (fit_done g c t.at hs t.held t.there (fits_done c is) valid.nodes);
      equations = valid_append g k mk.equations valid.equations new_valid;
    }

    pub belong_after : Belong g role after (k ++ mk.equations)
    belong_after = record { home = home_after; valid = valid_after }

    pub space_after_rule : (cs : List Choice) → space_of g after (cs ++ c ∷ []) (k ++ mk.equations) ≡ space_after g role (space_of g hs cs k) (Q.Develop n r args)
    space_after_rule cs =
        let s = space_of g hs cs k in
        developed g role hs cs k c r args t.at t.held mk up t.there (is ∙ ap (λ m. Q.Develop m r args) (sym t.node)) kid_sorts
        ∙ ap (λ m. develop_space g role s m r args mk) t.node
        ∙ ap (space_on g role s (Q.Develop n r args)) (sym t.rule.takes)
