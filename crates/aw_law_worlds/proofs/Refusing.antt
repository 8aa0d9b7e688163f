-- No refusal of a choice says that it was taken.
use Rattle.std.proofs.Common.{◌≡◌, ℕ, Bool, true, false, List, Option, Some, None, cond, ◌∙◌}
use Rattle.std.specs.Prelude.{length, nat_eq}
use Rattle.aw_term.specs.Trees.{Never}
use Rattle.aw_term.specs.Names.{Node, Ref}
use Rattle.aw_term.specs.Rules.{Ground, Rule, Grammar}
use Rattle.aw_term.specs.Matching.{Matched, Yes, Waits, Differs, Circle}
use Rattle.aw_term.specs.Configs.{State, Pending, Done}
use Rattle.aw_term.specs.Choices.{Choice, Start, Develop, Answer, Taken, Arguments, NotItsRule, TooDeep, Outcome, Refused, Starts, Takes, after_guard, deep}
use Rattle.aw_term.specs.Held.{Held, held_of}
use Rattle.aw_store.specs.Equations.{Map}
use Rattle.aw_apply.specs.Guard.{guard_all}
use Rattle.aw_law_sites.specs.Joint.{by_root, by_held, by_state, by_rule}
use Rattle.aw_law_sites.specs.Sites.{Site}
use Rattle.aw_law_sites.specs.Choosing.{Chosen, No, Did, choose, choose_on}
use Rattle.aw_law_worlds.specs.Laws.{RefusalsAreNotTaken}

abbrev IsRefusal : Outcome Ref Ref → Type 0
IsRefusal (Refused a) = a ≡ Taken → Never
IsRefusal Starts = Unit {0}
IsRefusal (Takes rule bound) = Unit {0}

either : (b : Bool) (x y : Outcome Ref Ref) → IsRefusal x → IsRefusal y → IsRefusal (cond b x y)
either true x y h k = h
either false x y h k = k

by_guard : (n : Node) (rule : Rule) (m : Matched Ref Ref) → IsRefusal (after_guard n rule m)
by_guard n rule (Yes xs) = either (deep n rule) (Refused TooDeep) (Takes rule xs) (λ e. absurd cc) tt
by_guard n rule (Waits r) = λ e. absurd cc
by_guard n rule (Differs p) = λ e. absurd cc
by_guard n rule (Circle r) = λ e. absurd cc

of_rule : (o : Option Rule) (k : Map) (n : Node) (args : List Ground) (h : Held) → IsRefusal (by_rule o k n args h)
of_rule None k n args h = λ e. absurd cc
of_rule (Some rule) k n args h =
    either (nat_eq rule.sort h.sort) _ (Refused NotItsRule)
    (either (nat_eq (length args) rule.params) _ (Refused Arguments) (by_guard n rule (guard_all k 1 rule.patterns h.inherited)) (λ e. absurd cc)) (λ e. absurd cc)

of_state : (s : State) (g : Grammar) (k : Map) (n : Node) (r : ℕ) (args : List Ground) (h : Held) → IsRefusal (by_state s g k n r args h)
of_state (Done a b) g k n r args h = λ e. absurd cc
of_state Pending g k n r args h = of_rule _ k n args h

of_held : (o : Option Held) (g : Grammar) (k : Map) (n : Node) (r : ℕ) (args : List Ground) → IsRefusal (by_held o g k n r args)
of_held None g k n r args = λ e. absurd cc
of_held (Some h) g k n r args = of_state h.state g k n r args h

IsHonest : Chosen → Type 0
IsHonest (No a) = a ≡ Taken → Never
IsHonest (Did x) = Unit {0}

start_honest : (g : Grammar) (s : Site) (a k : ℕ) (o : Option Held) → IsHonest (choose_on g s (Start a k) (by_root o))
unfolding IsHonest
start_honest g s a k None = tt
start_honest g s a k (Some h) = λ e. absurd cc

develop_honest : (g : Grammar) (s : Site) (n : Node) (r : ℕ) (args : List Ground) (o : Outcome Ref Ref) → IsRefusal o → IsHonest (choose_on g s (Develop n r args) o)
unfolding IsHonest
develop_honest g s n r args (Refused a) h = h
develop_honest g s n r args Starts h = λ e. absurd cc
develop_honest g s n r args (Takes rule bound) h = tt

honest : (g : Grammar) (s : Site) (c : Choice) → IsHonest (choose g s c)
honest g s (Start a k) = start_honest g s a k _
honest g s (Develop n r args) = develop_honest g s n r args _ (of_held (held_of n s.held) g s.equations n r args)

not_taken : (x : Chosen) (a : Answer Ref) → IsHonest x → x ≡ No a → a ≡ Taken → Never
unfolding IsHonest
not_taken (No b) a h e p = let q : b ≡ a = cc in h (q ∙ p)
not_taken (Did y) a h e p = absurd cc

pub refusals_law : (g : Grammar) → RefusalsAreNotTaken g
refusals_law g s c a e p = not_taken (choose g s c) a (honest g s c) e p
