-- A choice is answered by a circle only where a guard meets one.
use Rattle.std.specs.Prelude.{nat_eq, slice_get}
use Rattle.std.proofs.Common.{Bool, List, None, Option, Some, ap, cond, false, length, refl, true, ℕ, ◌≡◌}
use Rattle.aw_list.specs.Members.{Member}
use Rattle.aw_list.proofs.Members.{never}
use Rattle.aw_term.specs.Choices.{Answer, Arguments, Choice, CircleAt, Develop, NotItsRule, Outcome, Refused, Start, Starts, Takes, TooDeep, after_guard, deep}
use Rattle.aw_term.specs.Configs.{Done, Pending, State}
use Rattle.aw_term.specs.Matching.{Circle, Differs, Matched, Waits, Yes}
use Rattle.aw_term.specs.Names.{Node, Ref, root}
use Rattle.aw_term.specs.Rules.{Grammar, Ground, Rule, Term}
use Rattle.aw_term.specs.Trees.{Never}
use Rattle.aw_term.specs.Held.{Held, held_of}
use Rattle.aw_store.specs.Equations.{Map}
use Rattle.aw_apply.specs.Guard.{guard_all}
use Rattle.aw_law_sites.specs.Joint.{by_held, by_root, by_rule, by_state, joint_outcome}
use Rattle.aw_law_sites.proofs.AnyOrders.{held_of-found}
use Rattle.aw_law_sites.specs.Choosing.{answer_to, choose, choose_on, outcome}
use Rattle.aw_law_sites.specs.Sites.{Site}

cond-circle : (b : Bool) (a : Answer Ref) (o : Outcome Ref Ref) (r : Ref) → cond b o (Refused a) ≡ Refused (CircleAt r) → (a ≡ CircleAt r → Never) → o ≡ Refused (CircleAt r)
cond-circle true a o r e f = e
cond-circle false a o r e f = never (f (refused-inj e))
  where
    refused-inj : {a b : Answer Ref} → ◌≡◌ {A = Outcome Ref Ref} (Refused a) (Refused b) → a ≡ b
    refused-inj e = cc

deep-circle : (b : Bool) (o : Outcome Ref Ref) (r : Ref) → cond b (Refused TooDeep) o ≡ Refused (CircleAt r) → o ≡ Refused (CircleAt r)
deep-circle true o r e = absurd cc
deep-circle false o r e = e

guard-circle : (n : Node) (rule : Rule) (m : Matched Ref Ref) (r : Ref) → after_guard n rule m ≡ Refused (CircleAt r) → m ≡ Circle r
guard-circle n rule (Yes xs) r e = let z = deep-circle (deep n rule) (Takes rule xs) r e in absurd cc
guard-circle n rule (Waits u) r e = absurd cc
guard-circle n rule (Differs p) r e = absurd cc
guard-circle n rule (Circle u) r e = let p : u ≡ r = cc in ap Circle p

module _ (k : Map) (hs : List Held) (unmet : (h : Held) → Member h hs → (n : ℕ) (ps : List Term) (r : Ref) → guard_all k n ps h.inherited ≡ Circle r → Never) where
  rule-circle : (o : Option Rule) (n : Node) (args : List Ground) (h : Held) (r : Ref) → Member h hs → by_rule o k n args h ≡ Refused (CircleAt r) → Never
  rule-circle None n args h r i e = absurd cc
  rule-circle (Some rule) n args h r i e =
      let a = cond-circle (nat_eq rule.sort h.sort) NotItsRule _ r e (λ z. absurd cc) in
      let b = cond-circle (nat_eq (length args) rule.params) Arguments _ r a (λ z. absurd cc) in
      unmet h i 1 rule.patterns r (guard-circle n rule (guard_all k 1 rule.patterns h.inherited) r b)

  state-circle : (s : State) (g : Grammar) (n : Node) (ri : ℕ) (args : List Ground) (h : Held) (r : Ref) → Member h hs → by_state s g k n ri args h ≡ Refused (CircleAt r) → Never
  state-circle (Done a b) g n ri args h r i e = absurd cc
  state-circle Pending g n ri args h r i e = rule-circle (slice_get g.rules ri) n args h r i e

  held-circle : (o : Option Held) (g : Grammar) (n : Node) (ri : ℕ) (args : List Ground) (r : Ref) → held_of n hs ≡ o → by_held o g k n ri args ≡ Refused (CircleAt r) → Never
  held-circle None g n ri args r f e = absurd cc
  held-circle (Some h) g n ri args r f e = state-circle h.state g n ri args h r (held_of-found n hs h f).0 e

  root-circle : (o : Option Held) (r : Ref) → by_root o ≡ Refused (CircleAt r) → Never
  root-circle None r e = absurd cc
  root-circle (Some h) r e = absurd cc

  outcome-circle : (g : Grammar) (c : Choice) (r : Ref) → joint_outcome (record { held = hs; equations = k }) g c ≡ Refused (CircleAt r) → Never
  outcome-circle g (Start s l) r e = root-circle (held_of (root s l) hs) r e
  outcome-circle g (Develop n ri args) r e = held-circle (held_of n hs) g n ri args r refl e

chosen-circle : (g : Grammar) (s : Site) (c : Choice) (o : Outcome Ref Ref) (r : Ref) → answer_to (choose_on g s c o) ≡ CircleAt r → o ≡ Refused (CircleAt r)
chosen-circle g s c (Refused a) r e = ap Refused e
chosen-circle g s (Start st k) Starts r e = absurd cc
chosen-circle g s (Develop n ri args) Starts r e = absurd cc
chosen-circle g s (Start st k) (Takes rule xs) r e = absurd cc
chosen-circle g s (Develop n ri args) (Takes rule xs) r e = absurd cc

-- where no guard at a held node meets a circle, no choice is answered so
pub choice_circle : (g : Grammar) (s : Site) → ((h : Held) → Member h s.held → (n : ℕ) (ps : List Term) (r : Ref) → guard_all s.equations n ps h.inherited ≡ Circle r → Never)
    → (c : Choice) (r : Ref) → answer_to (choose g s c) ≡ CircleAt r → Never
choice_circle g s unmet c r e = outcome-circle s.equations s.held unmet g c r (chosen-circle g s c (outcome g s c) r e)
