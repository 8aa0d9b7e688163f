use Rattle.std.proofs.Common.{◌≡◌, ◌+◌, ◌≤◌, ◌∙◌, None, List, ap, sym, subst, map, true, arith}
use Rattle.std.specs.Option.{option_copied}
use Rattle.aw_grammar.specs.GrammarOf.{grammar_of}
use Rattle.aw_node_list.specs.HeldView.{all_of}
use Rattle.aw_store.specs.EquationView.{equation_of}
use Rattle.aw_store.specs.declared.equation.Equation.{Equation}
use Rattle.aw_store.specs.NamedRefs.{all_named}
use Rattle.aw_store.specs.StoreView.{all_few}
use Rattle.aw_store.proofs.NameLemmas.{all_named-grown}
use Rattle.aw_law_sites.specs.Receiving.{add_all, first_clash}
use Rattle.aw_standing.specs.KeptStates.{IsKept}
use Rattle.aw_space.specs.Missing.{missing_node, with_node, inherited_by, LacksIf}
use Rattle.aw_space.specs.Placings.{MayBeCalledIf, MayBeLearnt, called_by}
use Rattle.aw_space.specs.TakenIn.{IsReadyIf, rules_if, call_taken_cost}
use Rattle.aw_space.specs.Waking.{lefts_of, turns_cost}
use Rattle.aw_space.proofs.Called.{missing_lacks}
use Rattle.aw_space.proofs.Costing.{missing_openable, ready_if_named, tests_if_are}
use Rattle.aw_space.proofs.FewParts.{all_few_valid}
use Rattle.aw_space.proofs.Stills.{still_along}
use Rattle.aw_space.proofs.TakenIn.{taken_sound, taken_valid}
use Rattle.aw_space.proofs.space.Space.take_all_in.Goals as goal

pub make_room-requires-clause-few : goal.make_room-requires-clause-few
make_room-requires-clause-few g c = all_few_valid c.args.self.now.accepted.now.grammar (map equation_of c.args.es) c.requires.ok.ok

pub make_room-requires-clause-call : goal.make_room-requires-clause-call
make_room-requires-clause-call g c =
    let old = c.args.self.now in
    missing_openable (grammar_of old.accepted.now.grammar) old.role (option_copied c.args.call) old.held.items c.requires.call

pub put_if-requires-clause-lacks : goal.put_if-requires-clause-lacks
put_if-requires-clause-lacks g c =
    let p = option_copied c.args.call in
    let hs = c.args.self.now.held.items in
    let mid = c.make_room.new.self in
    subst (λ x. LacksIf x mid.held.items) (sym c.in_ok-opening.ensures.new) (subst (LacksIf (missing_node p hs)) (sym c.make_room.ensures.still.nodes) (missing_lacks p hs))

pub put_if-requires-clause-ready : goal.put_if-requires-clause-ready
put_if-requires-clause-ready g c =
    let mid = c.make_room.new.self in
    subst (λ x. IsReadyIf (grammar_of x) (g.F.Facts.names mid.facts) mid.held mid.kept c.in_ok-opening.opening) (sym c.grammar-grammar.ensures.value) c.in_ok-opening.ensures.ready

pub put_if-requires-clause-stands : goal.put_if-requires-clause-stands
put_if-requires-clause-stands g c =
    let mid = c.make_room.new.self in
    subst (λ x. IsKept (grammar_of x) mid.held (g.F.Facts.map mid.facts) (g.F.Facts.names mid.facts) mid.kept) (sym c.grammar-grammar.ensures.value) mid.stands

pub learn_in_turn-requires-clause-few : goal.learn_in_turn-requires-clause-few
learn_in_turn-requires-clause-few g c =
    subst (λ (es : List Equation). all_few (map equation_of es) ≡ true) (sym c.into_vec.ensures) (all_few_valid c.args.self.now.accepted.now.grammar (map equation_of c.args.es) c.requires.ok.ok)

pub learn_in_turn-requires-clause-free : goal.learn_in_turn-requires-clause-free
learn_in_turn-requires-clause-free g c =
    subst (λ (es : List Equation). first_clash (g.F.Facts.map c.make_room.new.self.facts) (map equation_of es) ≡ None) (sym c.into_vec.ensures)
    (subst (λ k. first_clash k (map equation_of c.args.es) ≡ None) (sym c.make_room.ensures.still.equations) c.requires.free)

pub learn_in_turn-requires-clause-named : goal.learn_in_turn-requires-clause-named
learn_in_turn-requires-clause-named g c =
    subst (λ (es : List Equation). all_named (g.F.Facts.names c.make_room.new.self.facts) (lefts_of (map equation_of es)) ≡ true) (sym c.into_vec.ensures) c.in_ok-opening.ensures.named

pub learn_in_turn-requires-clause-fits : goal.learn_in_turn-requires-clause-fits
learn_in_turn-requires-clause-fits g c = (c.put_if.new.held.numbers, c.put_if.ensures.stands.fits)

pub invariant_of-self : goal.invariant_of-self
invariant_of-self g c =
    let old = c.args.self.now in
    let mid = c.make_room.new.self in
    let s = c.make_room.ensures.still in
    let gr = grammar_of mid.accepted.now.grammar in
    let p = option_copied c.args.call in
    let es = map equation_of c.args.es in
    let hs = mid.held.items in
    let ks = c.put_if.new.held.items in
    let names = g.F.Facts.names mid.facts in
    let more = g.F.Facts.names c.learn_in_turn.new.facts in
    let grows = c.learn_in_turn.ensures.names in
    let new = c.in_ok-opening.ensures.new ∙ ap (missing_node p) (sym s.nodes) in
    let held = c.put_if.ensures.items ∙ ap (λ x. with_node x hs) new in
    let told = c.learn_in_turn.ensures.map ∙ ap (λ (xs : List Equation). add_all (g.F.Facts.map mid.facts) (map equation_of xs)) c.into_vec.ensures in
    let call = still_along g.F.Facts old mid s (λ gr role hs k. MayBeCalledIf gr role (called_by gr p)) c.requires.call in
    let may = still_along g.F.Facts old mid s (λ gr role hs k. MayBeLearnt gr role es) c.requires.ok in
    let there = ready_if_named gr names mid.held mid.kept c.in_ok-opening.opening c.in_ok-opening.ensures.ready in
    let named = all_named-grown names more (inherited_by (missing_node p hs)) grows (subst (λ x. all_named names (inherited_by x) ≡ true) new there) in
    record {
      sound = taken_sound gr mid.role hs ks _ _ p es held told call may names more named c.put_if.ensures.ordered grows mid.sound;
      valid = taken_valid gr mid.role hs ks _ _ p es held told call may mid.valid;
      stands = subst (λ x. IsKept (grammar_of x) c.put_if.new.held (g.F.Facts.map c.learn_in_turn.new.facts) more c.learn_in_turn.new.kept) c.grammar-grammar.ensures.value
          (c.learn_in_turn.ensures.kept c.put_if.new.held c.put_if.ensures.stands);
    }

pub returns-clause-held : goal.returns-clause-held
returns-clause-held g c = c.put_if.ensures.items ∙ (λ i. with_node (c.in_ok-opening.ensures.new i) (c.make_room.ensures.still.nodes i))

pub returns-clause-map : goal.returns-clause-map
returns-clause-map g c = c.learn_in_turn.ensures.map ∙ (λ i. add_all (c.make_room.ensures.still.equations i) (map equation_of (c.into_vec.ensures i)))

pub returns-clause-steps : goal.returns-clause-steps
returns-clause-steps g c =
    let old = c.args.self.now in
    let mid = c.make_room.new.self in
    let s = c.make_room.ensures.still in
    let gr = grammar_of mid.accepted.now.grammar in
    let p = option_copied c.args.call in
    let es = map equation_of c.args.es in
    let k = g.F.Facts.map mid.facts in
    let hs = mid.held.items in
    let gr' = grammar_of c.grammar-grammar.result.now in
    let r = c.grammar-grammar.ensures.value in
    let new = c.in_ok-opening.ensures.new ∙ ap (missing_node p) (sym s.nodes) in
    let items = c.put_if.ensures.items ∙ ap (λ x. with_node x hs) new in
    let turns : turns_cost gr' (all_of gr' c.put_if.new.held.items) k (map equation_of c.into_vec.result.items) ≡ turns_cost gr (all_of gr (with_node (missing_node p hs) hs)) k es =
    λ i. turns_cost (grammar_of (r i)) (all_of (grammar_of (r i)) (items i)) k (map equation_of (c.into_vec.ensures i)) in
    subst (λ n. c.learn_in_turn.new.steps ≤ c.args.steps.now + n) (λ i. call_taken_cost (grammar_of (s.grammar i)) p (s.nodes i) (s.equations i) es) (omega (
      arith,
      c.put_if.ensures.steps,
      tests_if_are gr _ mid.held mid.kept c.in_ok-opening.opening c.in_ok-opening.ensures.ready,
      ap (rules_if gr) new,
      c.learn_in_turn.ensures.steps c.put_if.new.held c.put_if.ensures.stands,
      turns,
    ))
