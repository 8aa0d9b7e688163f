-- A choice that was foreseen to be taken, carried out.
use Rattle.std.proofs.Common.{◌≡◌, ℕ, ◌+◌, ◌<◌, ◌≤◌, true, List, [], ◌∷◌, ◌++◌, length, map, Some, None, slice_get, refl, ap, sym, ◌∙◌, subst, arith}
use Rattle.std.specs.Prelude.{Result, Ok, Err, OnOk}
use Rattle.std.proofs.lemmas.Option.{same_Some}
use Rattle.aw_term.specs.Names.{Node, Ref, root}
use Rattle.aw_term.specs.Rules as P
use Rattle.aw_term.specs.Rules.{sort_of}
use Rattle.aw_term.specs.Choices as Q
use Rattle.aw_term.specs.Views.{ground_of}
use Rattle.aw_term.specs.declared.ground.Ground.{Ground}
use Rattle.aw_choice.specs.ChoiceView.{choice_of}
use Rattle.aw_choice.specs.declared.choice.Choice.{Choice}
use Rattle.aw_choice.specs.declared.choice.Choice.TheVariants as choice
use Rattle.aw_grammar.specs.declared.grammar.Grammar.{Grammar}
use Rattle.aw_grammar.specs.GrammarOf.{grammar_of}
use Rattle.aw_base.specs.ChoiceFits.{choice_ok}
use Rattle.aw_base.specs.NodeNames.{is_start}
use Rattle.aw_store.specs.Adding.{AreNew}
use Rattle.aw_store.specs.EquationView.{equation_of}
use Rattle.aw_store.specs.Equations.{Map}
use Rattle.aw_store.specs.declared.facts.Facts.{Ghosts}
use Rattle.aw_store.specs.StoreView.{all_few}
use Rattle.aw_apply.specs.Made.{Making, made}
use Rattle.aw_apply.specs.MadeView.{as_child}
use Rattle.aw_apply.specs.declared.making.Made.{Made}
use Rattle.aw_node_list.specs.declared.held.Held.{Held}
use Rattle.aw_node_list.specs.HeldView.{sort_or, all_of}
use Rattle.aw_node_list.specs.InOrder.{LackEach, place_in, insert_in, insert_all_in, done_at}
use Rattle.aw_law_sites.specs.Joint.{outcome_in}
use Rattle.aw_law_worlds.proofs.Sorts.{sort_of_root}
use Rattle.aw_law_sites.specs.Telling.{calls_in}
use Rattle.aw_law_sites.specs.Worklists.{site_worklist}
use Rattle.aw_law_sites.specs.Worlds.{node_of}
use Rattle.aw_space.specs.Children.{own_children, are_named}
use Rattle.aw_space.specs.Costs.{rules_of, rules_at, added, choice_cost, waiting_on_lefts}
use Rattle.aw_space.specs.Outcomes.{IsMade}
use Rattle.aw_space.specs.InSpace.{IsChosen, MayHold, MayOpen, MayTake, node_tests, own_in, tests_in}
use Rattle.aw_space.specs.Openings.{opened}
use Rattle.aw_space.specs.Seen.{choice_cost_at, space_seen}
use Rattle.aw_space.specs.Sound.{all_own, IsSound}
use Rattle.aw_space.specs.Spaces.{is_home, making, outcome, space_after, worklist}
use Rattle.aw_space.specs.SpaceView.{space_of}
use Rattle.aw_space.specs.Taken.{Belong}
use Rattle.aw_space.specs.Valid.{IsValid}
use Rattle.aw_space.specs.declared.space.Space.{Space}
use Rattle.aw_space.proofs.Arriving.{sound_home}
use Rattle.aw_space.proofs.Begun.{takes_none, home_begun, valid_begun, space_begun}
use Rattle.aw_space.proofs.Carried.{new_valid, kid_sorts, kids_named, new_equations, own_lacks, own_is, belong_after, space_after_rule}
use Rattle.aw_space.proofs.FewParts.{all_few_valid}
use Rattle.aw_space.proofs.OwnChildren.{own_view}
use Rattle.aw_space.proofs.TakenOn.{Took, took, started}

module _ {F : Type 0} (f : Ghosts F) (sp : Space F f) (c : Choice) (m : Made) (w : IsChosen f sp (choice_of c) m) where
  abbrev gr : Grammar
  gr = sp.accepted.now.grammar

  abbrev g : P.Grammar
  g = grammar_of gr

  abbrev role : ℕ
  role = sp.role

  abbrev hs : List Held
  hs = sp.held.items

  abbrev cs : List Choice
  cs = sp.choices.items

  abbrev k : Map
  k = f.map sp.facts

  abbrev names : List Ref
  names = f.names sp.facts

  abbrev sound : IsSound g role hs k names
  sound = sp.sound

  abbrev valid : IsValid g hs k
  valid = sp.valid

  -- ---- a start
  module _ (s l : ℕ) (is : c ≡ choice.Start s l) where
    start : is_start (slice_get g.sorts s) ≡ true
    start = subst (λ x. choice_ok g x ≡ true) (ap choice_of is) w.ok

    start_home : is_home g role (root s l) ≡ true
    start_home = subst (λ x. is_home g role (node_of x) ≡ true) (ap choice_of is) w.here

    begins : (place_in (root s l) hs ≡ None) × (outcome_in (all_of g hs) k g (Q.Start s l) ≡ Q.Starts)
    begins = started g hs k s l (subst (λ x. Q.answer_of (outcome_in (all_of g hs) k g x) ≡ Q.Taken) (ap choice_of is) w.taken)

    pub start_may : MayHold f sp (opened s l)
    start_may = record {
      openable = record { takes = takes_none gr role s l start; done = refl };
      lacks = begins.0;
      belong = record { home = home_begun gr role s l start hs k start_home (sound_home g role hs k names sound); valid = valid_begun gr role s l start hs k valid };
    }

    pub start_space : {E : Type 0} (new : Space F f) (o : Result (Unit {0}) E) → new.accepted.now.grammar ≡ gr → OnOk o (new.held.items ≡ insert_in (opened s l) hs) →
        OnOk o (new.choices.items ≡ cs ++ c ∷ []) → f.map new.facts ≡ k → OnOk o (space_seen f new ≡ space_after g role (space_seen f sp) (choice_of c))
    start_space new (Ok x) same held chosen told =
        (λ i. space_of (grammar_of (same i)) (held i) (chosen i) (told i)) ∙ space_begun gr role s l start hs cs k c (ap choice_of is) begins.1
        ∙ ap (space_after g role (space_seen f sp)) (sym (ap choice_of is))
    start_space new (Err x) same held chosen told = tt

    -- its own guard, which is none, and those of its node
    pub start_cost : node_tests f sp (root s l) + 1 ≤ choice_cost_at f g sp (choice_of c)
    start_cost =
        let S = space_seen f sp in
        let R = rules_of g (sort_or (sort_of g (root s l))) in
        let many : R ≡ rules_of g s = ap (λ o. rules_of g (sort_or o)) (sort_of_root g s l start) in
        subst (λ x. R + 1 ≤ choice_cost g role S x) (sym (ap choice_of is))
        (subst (λ x. R + 1 ≤ 1 + (rules_at g (added g role (Q.Start s l) x) + waiting_on_lefts (making (Q.Start s l) x).equations (worklist g S))) (sym begins.1) (omega (arith, many)))

  -- ---- a rule
  module _ (n : Node) (r : ℕ) (given : List Ground) (is : c ≡ choice.Develop n r given) where
    abbrev args : List P.Ground
    args = map ground_of given

    seen : choice_of c ≡ Q.Develop n r args
    seen = ap choice_of is

    rule_ok : choice_ok g (Q.Develop n r args) ≡ true
    rule_ok = subst (λ x. choice_ok g x ≡ true) seen w.ok

    rule_home : is_home g role n ≡ true
    rule_home = subst (λ x. is_home g role (node_of x) ≡ true) seen w.here

    t : Took g hs k n r args
    t = took g hs k n r args (subst (λ x. Q.answer_of (outcome_in (all_of g hs) k g x) ≡ Q.Taken) seen w.taken)

    makes : IsMade m (Q.Develop n r args) (outcome_in (all_of g hs) k g (Q.Develop n r args))
    makes = subst (λ x. IsMade m x (outcome_in (all_of g hs) k g x)) seen w.made

    abbrev mk : Making
    mk = made n r t.rule.rule args t.rule.bound

    equations_are : map equation_of m.equations ≡ mk.equations
    equations_are = makes.equations ∙ ap (λ x. (making (Q.Develop n r args) x).equations) t.rule.takes

    children_are : m.children ≡ map as_child mk.calls
    children_are = makes.children ∙ ap (λ x. map as_child (making (Q.Develop n r args) x).calls) t.rule.takes

    rule_named : are_named g m.children ≡ true
    rule_named = ap (are_named g) children_are ∙ kids_named gr role hs k names sound valid n r args rule_ok rule_home t

    rule_new : AreNew k (map equation_of m.equations)
    rule_new = subst (AreNew k) (sym equations_are) (new_equations gr role hs k names sound valid n r args rule_ok rule_home t)

    rule_few : all_few (map equation_of m.equations) ≡ true
    rule_few = ap all_few equations_are ∙ all_few_valid gr mk.equations (new_valid gr role hs k names sound valid n r args rule_ok rule_home t)

    -- the children that are held here are this role's
    rule_own : all_own g role (own_children g role m.children) ≡ true
    rule_own = ap (λ cs. all_own g role (own_children g role cs)) children_are ∙ own_is gr role hs k names sound valid n r args rule_ok rule_home t c seen

    pub rule_open : MayOpen f sp m.children
    rule_open = record { named = rule_named; own = rule_own }

    -- its own guard, those of its children, and those that wait for one of its equations
    pub rule_cost : tests_in f sp m.equations (own_in f sp m.children) + 1 ≤ choice_cost_at f g sp (choice_of c)
    rule_cost =
        let S = space_seen f sp in
        let W = site_worklist g k (all_of g hs) in
        let A = rules_at g (all_of g (own_children g role m.children)) in
        let B = waiting_on_lefts (map equation_of m.equations) W in
        let kids : A ≡ rules_at g (calls_in g role mk.calls) =
        ap (λ xs. rules_at g (all_of g (own_children g role xs))) children_are ∙ ap (rules_at g) (own_view g role mk.calls (kid_sorts gr role hs k names sound valid n r args rule_ok rule_home t)) in
        let lefts : B ≡ waiting_on_lefts mk.equations W = ap (λ es. waiting_on_lefts es W) equations_are in
        subst (λ x. (A + B) + 1 ≤ choice_cost g role S x) (sym seen)
        (subst (λ x. (A + B) + 1 ≤ 1 + (rules_at g (added g role (Q.Develop n r args) x) + waiting_on_lefts (making (Q.Develop n r args) x).equations (worklist g S)))
        (sym t.rule.takes) (omega (arith, kids, lefts)))

    -- the node is held
    pub rule_there : place_in n hs ≡ None → ⊥
    rule_there e = let no : None ≡ Some t.at = sym e ∙ t.place in cc

    module _ (at : ℕ) (place : place_in n hs ≡ Some at) (within : at < length hs) where
      same_place : at ≡ t.at
      same_place = same_Some _ _ (sym place ∙ t.place)

      rule_lacks : LackEach (own_children g role m.children) (done_at c at hs)
      rule_lacks =
          subst (λ x. LackEach (own_children g role x) (done_at c at hs)) (sym children_are)
          (subst (λ i. LackEach (own_children g role (map as_child mk.calls)) (done_at c i hs)) (sym same_place) (own_lacks gr role hs k names sound valid n r args rule_ok rule_home t c))

      abbrev put : List Held
      put = insert_all_in (own_children g role m.children) (done_at c at hs)

      abbrev after : List Held
      after = insert_all_in (own_children g role (map as_child mk.calls)) (done_at c t.at hs)

      put_after : put ≡ after
      put_after = λ i. insert_all_in (own_children g role (children_are i)) (done_at c (same_place i) hs)

      -- it may be taken
      pub rule_may : MayTake f sp at c m.equations (own_in f sp m.children)
      rule_may = record {
        at = within;
        new = rule_new;
        few = rule_few;
        lacks = rule_lacks;
        belong = subst (λ es. Belong g role put (k ++ es)) (sym equations_are)
            (subst (λ xs. Belong g role xs (k ++ mk.equations)) (sym put_after) (belong_after gr role hs k names sound valid n r args rule_ok rule_home t c seen));
      }

      pub rule_space : {E : Type 0} (new : Space F f) (o : Result (Unit {0}) E) → new.accepted.now.grammar ≡ gr → OnOk o (new.held.items ≡ put) → OnOk o (new.choices.items ≡ cs ++ c ∷ []) →
          OnOk o (f.map new.facts ≡ k ++ map equation_of m.equations) → OnOk o (space_seen f new ≡ space_after g role (space_seen f sp) (choice_of c))
      rule_space new (Ok x) same held chosen told =
          let hs_is = held ∙ put_after in
          let k_is = told ∙ ap (λ es. k ++ es) equations_are in
          (λ i. space_of (grammar_of (same i)) (hs_is i) (chosen i) (k_is i)) ∙ space_after_rule gr role hs k names sound valid n r args rule_ok rule_home t c seen cs
          ∙ ap (space_after g role (space_seen f sp)) (sym seen)
      rule_space new (Err x) same held chosen told = tt

-- the same choice by another name of the grammar
pub chosen_by : {F : Type 0} (f : Ghosts F) (s : Space F f) (c : Q.Choice) (m : Made) (asked : Grammar) → asked ≡ s.accepted.now.grammar → choice_ok (grammar_of asked) c ≡ true →
    is_home (grammar_of asked) s.role (node_of c) ≡ true → Q.answer_of (outcome (grammar_of asked) (space_seen f s) c) ≡ Q.Taken →
    IsMade m c (outcome (grammar_of asked) (space_seen f s) c) → IsChosen f s c m
chosen_by f s c m asked same ok here taken made = record {
  ok = subst (λ x. choice_ok (grammar_of x) c ≡ true) same ok;
  here = subst (λ x. is_home (grammar_of x) s.role (node_of c) ≡ true) same here;
  taken = subst (λ x. Q.answer_of (outcome (grammar_of x) (space_seen f s) c) ≡ Q.Taken) same taken;
  made = subst (λ x. IsMade m c (outcome (grammar_of x) (space_seen f s) c)) same made;
}
