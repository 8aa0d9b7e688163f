-- What is drawn in a trial, and each part of a turn within the next.
use Rattle.std.proofs.Common.{◌≡◌, ℕ, zero, suc, ◌+◌, ◌<◌, ◌≤◌, true, false, cond, List, [], ◌∷◌, length, Some, None, refl, ap, sym, ◌∙◌, subst, arith}
use Rattle.std.specs.Prelude.{slice_get, Option, is_some, nat_eq, nat_le}
use Rattle.aw_term.specs.Names.{Node}
use Rattle.aw_term.specs.Rules.{Ground, Rule, Grammar, get, sort_of}
use Rattle.aw_term.specs.Choices as P
use Rattle.aw_term.proofs.Gets.{get_some as got_site}
use Rattle.aw_accept.specs.declared.accepted.Accepted.{Accepted}
use Rattle.aw_grammar.specs.GrammarOf.{grammar_of}
use Rattle.aw_choice.specs.Events.{Event}
use Rattle.aw_standing.specs.Records.{rules_of, is_of_sort}
use Rattle.aw_standing.proofs.MarkLemmas.{rule_listed}
use Rattle.aw_law_sites.specs.Worlds as V
use Rattle.aw_world.specs.declared.workspace.Workspace.{Ghosts}
use Rattle.aw_world.specs.declared.world.World.{World}
use Rattle.aw_world.specs.WorldView.{plain_of}
use Rattle.aw_trial.specs.declared.tally.Tally.{Tally}
use Rattle.aw_trial.specs.Draws.{next_below, drew}
use Rattle.aw_trial.specs.Comes.{Comes, Does, AreUpTo, AddsOne}
use Rattle.aw_trial.specs.Turns.{State, start_case, make_choice, argument_for, drew_argument, params_of, develop, among_rules, at_node, among_nodes}
use Rattle.aw_trial.specs.Turns.{rules_for, choose_some, deliver_some, turn, turn_on, turns}

-- nothing is done
pub nothing : {W : Type 0} (f : Ghosts W) (w : World W f) (t : Tally) → Does f w t w t (λ s. s)
nothing f w t v es S = record { world = S; tally = refl }

-- ---- what is drawn
pub rule_drawn : (g : Grammar) (n : Node) (rules : List ℕ) (t : Tally) (v : V.World) (es : List Event) (place rule : ℕ) → place < length rules →
    slice_get rules place ≡ Some rule → place ≡ next_below (length rules) t
    → develop g n rule (record { world = v; tally = drew t; events = es }) ≡ among_rules g n rules (record { world = v; tally = t; events = es })
rule_drawn g n [] t v es place rule within got is = absurd (omega (arith, within))
rule_drawn g n (r ∷ rs) t v es place rule within got is =
    ap (λ m. develop g n m (record { world = v; tally = drew t; events = es })) (sym (got_site r (r ∷ rs) place rule got) ∙ ap (get r (r ∷ rs)) is)

pub node_drawn : (g : Grammar) (nodes : List Node) (t : Tally) (v : V.World) (es : List Event) (place : ℕ) (node : Node) → place < length nodes →
    slice_get nodes place ≡ Some node → place ≡ next_below (length nodes) t
    → at_node g node (record { world = v; tally = drew t; events = es }) ≡ among_nodes g nodes (record { world = v; tally = t; events = es })
node_drawn g [] t v es place node within got is = absurd (omega (arith, within))
node_drawn g (n ∷ ns) t v es place node within got is =
    ap (λ m. at_node g m (record { world = v; tally = drew t; events = es })) (sym (got_site n (n ∷ ns) place node got) ∙ ap (get n (n ∷ ns)) is)

some_of : (s : ℕ) (o : Option Rule) → is_of_sort s o ≡ true → is_some o ≡ true
some_of s None e = absurd cc
some_of s (Some r) e = refl

-- a rule among those of a sort is declared
pub rules_declared : (s : ℕ) (all : List Rule) (rules : List ℕ) → rules ≡ rules_of s 0 all → (i r : ℕ) → slice_get rules i ≡ Some r → is_some (slice_get all r) ≡ true
rules_declared s all rules same i r got =
    some_of s (slice_get all r) (rule_listed s all 0 all (λ m. ap (slice_get all) (omega arith)) i r (ap (λ rs. slice_get rs i) (sym same) ∙ got))

-- ---- one part of a turn within another
-- a rule with its argument
pub developed : {W : Type 0} (f : Ghosts W) (w x : World W f) (t t' u : Tally) (n : Node) (r p : ℕ) (args : List Ground) → p ≡ params_of (slice_get (plain_of w).rules r) → args ≡ argument_for p t
    → t' ≡ drew_argument p t → Does f w t' x u (make_choice (plain_of w) (P.Develop n r args)) → Does f w t x u (develop (plain_of w) n r)
developed f w x t t' u n r p args ep ea et does v es S =
    let q = params_of (slice_get (plain_of w).rules r) in
    subst (λ z. Comes f x u (make_choice (plain_of w) (P.Develop n r (argument_for q t)) (record { world = v; tally = z; events = es }))) (et ∙ ap (λ k. drew_argument k t) ep)
    (subst (λ a. Comes f x u (make_choice (plain_of w) (P.Develop n r a) (record { world = v; tally = t'; events = es }))) (ea ∙ ap (λ k. argument_for k t) ep) (does v es S))

few_drawn : (p n : ℕ) (t : Tally) → AreUpTo n t → AreUpTo n (drew_argument p t)
few_drawn zero n t few = few
few_drawn (suc p) n t few = record { starts = few.starts; choices = few.choices; taken = few.taken; repeats = few.repeats }

pub argument_grows : (p : ℕ) (t t' u : Tally) → t' ≡ drew_argument p t → AddsOne t' u → AddsOne t u
argument_grows p t t' u e grows n few = grows n (subst (AreUpTo n) (sym e) (few_drawn p n t few))

-- something for which a number is drawn before
pub drawn_before : {W : Type 0} (f : Ghosts W) (w x : World W f) (t t' u : Tally) (go after : State → State) → t' ≡ drew t
    → ((v : V.World) (es : List Event) → go (record { world = v; tally = drew t; events = es }) ≡ after (record { world = v; tally = t; events = es }))
    → Does f w t' x u go → Does f w t x u after
drawn_before f w x t t' u go after e same does v es S =
    subst (Comes f x u) (same v es) (subst (λ z. Comes f x u (go (record { world = v; tally = z; events = es }))) e (does v es S))

-- the same thing, said otherwise
pub same_thing : {W : Type 0} (f : Ghosts W) (w x : World W f) (t u : Tally) (go other : State → State) → ((s : State) → go s ≡ other s) → Does f w t x u go → Does f w t x u other
same_thing f w x t u go other same does v es S = subst (Comes f x u) (same (record { world = v; tally = t; events = es })) (does v es S)

-- a name that is not valid has no rules
pub no_sort : (g : Grammar) (n : Node) (s : State) → sort_of g n ≡ None → s ≡ at_node g n s
no_sort g n s e = ap (λ o. among_rules g n (rules_for g o) s) (sym e)

pub of_sort : (g : Grammar) (n : Node) (k : ℕ) (rules : List ℕ) → sort_of g n ≡ Some k → rules ≡ rules_of k 0 g.rules → (s : State) → among_rules g n rules s ≡ at_node g n s
of_sort g n k rules e er s = ap (λ rs. among_rules g n rs s) er ∙ ap (λ o. among_rules g n (rules_for g o) s) (sym e)

-- by what is drawn
pub turn_starts : (g : Grammar) (d : ℕ) → nat_eq d 0 ≡ true → (s : State) → start_case g s ≡ turn_on g d s
turn_starts g d e s = ap (λ b. cond b (start_case g s) (cond (nat_le d 3) (choose_some g s) (deliver_some g s))) (sym e)

pub turn_chooses : (g : Grammar) (d : ℕ) → nat_eq d 0 ≡ false → nat_le d 3 ≡ true → (s : State) → choose_some g s ≡ turn_on g d s
turn_chooses g d e h s =
    ap (λ b. cond b (choose_some g s) (deliver_some g s)) (sym h)
    ∙ ap (λ b. cond b (start_case g s) (cond (nat_le d 3) (choose_some g s) (deliver_some g s))) (sym e)

pub turn_delivers : (g : Grammar) (d : ℕ) → nat_eq d 0 ≡ false → nat_le d 3 ≡ false → (s : State) → deliver_some g s ≡ turn_on g d s
turn_delivers g d e h s =
    ap (λ b. cond b (choose_some g s) (deliver_some g s)) (sym h)
    ∙ ap (λ b. cond b (start_case g s) (cond (nat_le d 3) (choose_some g s) (deliver_some g s))) (sym e)

-- one turn more
pub turned : {W : Type 0} (f : Ghosts W) (w x y : World W f) (t u z : Tally) (n : ℕ) → x.accepted.now ≡ w.accepted.now → Does f w t x u (turns n (plain_of w)) → Does f x u y z (turn (plain_of x))
    → Does f w t y z (turns (suc n) (plain_of w))
turned f w x y t u z n ea before does v es S =
    let s = turns n (plain_of w) (record { world = v; tally = t; events = es }) in
    let came = before v es S in
    subst (λ (a : Accepted). Comes f y z (turn (grammar_of a.grammar) s)) ea
    (subst (λ q. Comes f y z (turn (plain_of x) (record { world = s.world; tally = q; events = s.events }))) came.tally (does s.world s.events came.world))

pub turned_on : {W : Type 0} (f : Ghosts W) (w x y : World W f) (t u z : Tally) (n m : ℕ) → m ≡ n + 1 → x.accepted.now ≡ w.accepted.now →
    Does f w t x u (turns n (plain_of w)) → Does f x u y z (turn (plain_of x))
    → Does f w t y z (turns m (plain_of w))
turned_on f w x y t u z n m e ea before does =
    let more : suc n ≡ m = omega (arith, e) in
    subst (λ k. Does f w t y z (turns k (plain_of w))) more (turned f w x y t u z n ea before does)

pub few_more : (m n : ℕ) (t : Tally) → m ≤ n → AreUpTo m t → AreUpTo n t
few_more m n t l few = record {
  starts = omega (arith, l, few.starts);
  choices = omega (arith, l, few.choices);
  taken = omega (arith, l, few.taken);
  repeats = omega (arith, l, few.repeats);
}
