-- What a choice is that is taken over references.
use Rattle.std.proofs.Common.{◌≡◌, ℕ, Bool, true, false, cond, List, length, Option, Some, None, slice_get, nat_eq, refl, ap, sym, ◌∙◌, subst}
use Rattle.std.proofs.lemmas.Bool.{eqb-true}
use Rattle.aw_term.specs.Names.{Node, Ref, root}
use Rattle.aw_term.specs.Matching.{Matched, Yes, Waits, Differs, Circle}
use Rattle.aw_term.specs.Rules.{Ground, Rule, Grammar}
use Rattle.aw_term.specs.Choices.{Start, Develop, Answer, Known, NotHere, NotItsRule, Arguments, TooDeep, Taken, Outcome, Refused, Starts, Takes, answer_of, after_guard, deep}
use Rattle.aw_term.specs.Held as P
use Rattle.aw_choice.specs.declared.choice.Choice.{Choice}
use Rattle.aw_choice.specs.declared.choice.Choice.TheVariants as choice
use Rattle.aw_store.specs.Equations.{Map}
use Rattle.aw_apply.specs.Guard.{guard_all}
use Rattle.aw_node_list.specs.declared.held.Held.{Held}
use Rattle.aw_node_list.specs.HeldView.{state_of, held_of, all_of}
use Rattle.aw_node_list.specs.InOrder.{place_in}
use Rattle.aw_node_list.proofs.HeldViews.{held_here, held_nowhere}
use Rattle.aw_law_sites.specs.Joint.{by_rule, by_state, by_held, by_root, outcome_in}

-- what the rule is, and what its guard binds
pub record TookRule (g : Grammar) (k : Map) (n : Node) (r : ℕ) (args : List Ground) (h : P.Held) (x : Outcome Ref Ref) : Type 0 where
  pub rule : Rule
  pub bound : List Ref
  pub is_rule : slice_get g.rules r ≡ Some rule
  pub of_sort : rule.sort ≡ h.sort
  pub given : length args ≡ rule.params
  pub met : guard_all k 1 rule.patterns h.inherited ≡ Yes bound
  pub takes : x ≡ Takes rule bound

if_not : (b : Bool) (a : Answer Ref) (o : Outcome Ref Ref) → answer_of (cond b o (Refused a)) ≡ Taken → (a ≡ Taken → ⊥) → (b ≡ true) × (answer_of o ≡ Taken)
if_not true a o e other = (refl, e)
if_not false a o e other = absurd (other e)

if_deep : (b : Bool) (x y : Outcome Ref Ref) → answer_of x ≡ TooDeep → answer_of (cond b x y) ≡ Taken → cond b x y ≡ y
if_deep true x y deep e = let apart : TooDeep ≡ Taken = sym deep ∙ e in absurd cc
if_deep false x y deep e = refl

guard_met : (n : Node) (rule : Rule) (m : Matched Ref Ref) → answer_of (after_guard n rule m) ≡ Taken → (bound : List Ref) × (m ≡ Yes bound) × (after_guard n rule m ≡ Takes rule bound)
guard_met n rule (Yes xs) e = (xs, refl, if_deep (deep n rule) (Refused TooDeep) (Takes rule xs) refl e)
guard_met n rule (Waits r) e = absurd cc
guard_met n rule (Differs p) e = absurd cc
guard_met n rule (Circle r) e = absurd cc

rule_met : (g : Grammar) (k : Map) (n : Node) (r : ℕ) (args : List Ground) (h : P.Held) (o : Option Rule) → slice_get g.rules r ≡ o → answer_of (by_rule o k n args h) ≡ Taken →
    TookRule g k n r args h (by_rule o k n args h)
rule_met g k n r args h None is e = absurd cc
rule_met g k n r args h (Some rule) is e =
    let m = guard_all k 1 rule.patterns h.inherited in
    let (sort, inner) = if_not (nat_eq rule.sort h.sort) NotItsRule _ e (λ p. cc) in
    let (many, met) = if_not (nat_eq (length args) rule.params) Arguments _ inner (λ p. cc) in
    let (bound, binds, takes) = guard_met n rule m met in
    record {
      rule = rule;
      bound = bound;
      is_rule = is;
      of_sort = eqb-true rule.sort h.sort sort;
      given = eqb-true (length args) rule.params many;
      met = binds;
      takes = ap (λ b. cond b (cond (nat_eq (length args) rule.params) (after_guard n rule m) (Refused Arguments)) (Refused NotItsRule)) sort
          ∙ ap (λ b. cond b (after_guard n rule m) (Refused Arguments)) many ∙ takes;
    }

-- where the node stands, which is open, and what is taken on it
pub record Took (g : Grammar) (hs : List Held) (k : Map) (n : Node) (r : ℕ) (args : List Ground) : Type 0 where
  pub at : ℕ
  pub held : Held
  pub place : place_in n hs ≡ Some at
  pub there : slice_get hs at ≡ Some held
  pub node : held.node ≡ n
  pub idle : held.done ≡ None
  pub rule : TookRule g k n r args (held_of g held) (outcome_in (all_of g hs) k g (Develop n r args))

state_met : (g : Grammar) (k : Map) (n : Node) (r : ℕ) (args : List Ground) (h : P.Held) (done : Option Choice) → answer_of (by_state (state_of done) g k n r args h) ≡ Taken →
    (done ≡ None) × TookRule g k n r args h (by_state (state_of done) g k n r args h)
state_met g k n r args h None e = (refl, rule_met g k n r args h (slice_get g.rules r) refl e)
state_met g k n r args h (Some (choice.Start sort case)) e = absurd cc
state_met g k n r args h (Some (choice.Develop node rule args')) e = absurd cc

place_met : (g : Grammar) (hs : List Held) (k : Map) (n : Node) (r : ℕ) (args : List Ground) (o : Option ℕ) → place_in n hs ≡ o →
    answer_of (outcome_in (all_of g hs) k g (Develop n r args)) ≡ Taken → Took g hs k n r args
place_met g hs k n r args None e taken =
    let no : NotHere ≡ Taken = sym (ap (λ o. answer_of (by_held o g k n r args)) (held_nowhere g n hs e)) ∙ taken in absurd cc
place_met g hs k n r args (Some at) e taken =
    let (h, there, node, found) = held_here g n hs at e in
    let same : outcome_in (all_of g hs) k g (Develop n r args) ≡ by_state (state_of h.done) g k n r args (held_of g h) = ap (λ o. by_held o g k n r args) found in
    let (idle, rule) = state_met g k n r args (held_of g h) h.done (sym (ap answer_of same) ∙ taken) in
    record { at = at; held = h; place = e; there = there; node = node; idle = idle; rule = subst (TookRule g k n r args (held_of g h)) (sym same) rule }

pub took : (g : Grammar) (hs : List Held) (k : Map) (n : Node) (r : ℕ) (args : List Ground) → answer_of (outcome_in (all_of g hs) k g (Develop n r args)) ≡ Taken → Took g hs k n r args
took g hs k n r args e = place_met g hs k n r args (place_in n hs) refl e

start_met : (g : Grammar) (hs : List Held) (k : Map) (s l : ℕ) (o : Option ℕ) → place_in (root s l) hs ≡ o → answer_of (outcome_in (all_of g hs) k g (Start s l)) ≡ Taken →
    (place_in (root s l) hs ≡ None) × (outcome_in (all_of g hs) k g (Start s l) ≡ Starts)
start_met g hs k s l None e taken = (e, ap by_root (held_nowhere g (root s l) hs e))
start_met g hs k s l (Some at) e taken =
    let w = held_here g (root s l) hs at e in
    let no : Known ≡ Taken = sym (ap (λ o. answer_of (by_root o)) w.3) ∙ taken in absurd cc

-- a start that is taken is of a case that is not held
pub started : (g : Grammar) (hs : List Held) (k : Map) (s l : ℕ) → answer_of (outcome_in (all_of g hs) k g (Start s l)) ≡ Taken →
    (place_in (root s l) hs ≡ None) × (outcome_in (all_of g hs) k g (Start s l) ≡ Starts)
started g hs k s l e = start_met g hs k s l (place_in (root s l) hs) refl e
