-- What a choice leads to over references is what it leads to over trees.
use Rattle.std.proofs.Common.{◌≡◌, ℕ, List, length, Option, Some, None, refl, sym, ap, subst}
use Rattle.std.specs.Prelude.{slice_get, nat_eq}
use Rattle.aw_list.proofs.Members.{never}
use Rattle.aw_term.specs.Trees.{Never}
use Rattle.aw_term.specs.Names.{Node, Ref}
use Rattle.aw_term.specs.Rules.{Ground, Value, Rule, Grammar}
use Rattle.aw_term.specs.Configs.{State, Pending, Done, Row}
use Rattle.aw_term.specs.Matching.{Matched, Yes, Waits, Differs, Circle, match_all}
use Rattle.aw_term.specs.Choices.{TooDeep, WaitsFor, Mismatch, Outcome, Refused, Starts, Takes, after_guard, deep, at_rule, at_state, at_row, not_held}
use Rattle.aw_store.specs.Equations.{Map}
use Rattle.aw_apply.specs.Guard.{guard_all}
use Rattle.aw_law_sites.specs.Joint.{Held, by_rule, by_state, by_held, by_root}
use Rattle.aw_law_sites.specs.Laws.{AllUnfold, Agree}
use Rattle.aw_law_sites.proofs.Guarding.{Like, guard_all-match}
use Rattle.aw_law_sites.proofs.SideBySide.{cond_pair, LikeOption}

-- the same answer
abbrev pub OutLike : Map → Outcome Ref Ref → Outcome Value Ref → Type 0
OutLike k (Refused a) (Refused b) = a ≡ b
OutLike k Starts Starts = Unit {0}
OutLike k (Takes r xs) (Takes r' ts) = (r ≡ r') × AllUnfold k xs ts
OutLike k _ _ = Never

pub guard_like : (k : Map) (n : Node) (ru : Rule) (m : Matched Ref Ref) (m' : Matched Value Ref) → Like k m m' → OutLike k (after_guard n ru m) (after_guard n ru m')
guard_like k n ru (Yes rs) (Yes ts) l = cond_pair (OutLike k) (deep n ru) (deep n ru) (Refused TooDeep) (Takes ru rs) (Refused TooDeep) (Takes ru ts) refl refl (refl, l)
guard_like k n ru (Waits r) (Waits s) l = λ i. WaitsFor (l i)
guard_like k n ru (Differs p) (Differs q) l = λ i. Mismatch (l i)
guard_like k n ru (Yes rs) (Waits s) l = never l
guard_like k n ru (Yes rs) (Differs s) l = never l
guard_like k n ru (Yes rs) (Circle s) l = never l
guard_like k n ru (Waits r) (Yes s) l = never l
guard_like k n ru (Waits r) (Differs s) l = never l
guard_like k n ru (Waits r) (Circle s) l = never l
guard_like k n ru (Differs r) (Yes s) l = never l
guard_like k n ru (Differs r) (Waits s) l = never l
guard_like k n ru (Differs r) (Circle s) l = never l
guard_like k n ru (Circle r) m' l = never l

rule_like : (k : Map) (o : Option Rule) (n : Node) (args : List Ground) (h : Held) (q : Row) → Agree k h q → OutLike k (by_rule o k n args h) (at_rule o n args q)
rule_like k None n args h q a = refl
rule_like k (Some ru) n args h q a =
    cond_pair (OutLike k) (nat_eq ru.sort h.sort) (nat_eq ru.sort q.sort) _ _ _ _ (ap (nat_eq ru.sort) a.sort)
    (cond_pair (OutLike k) (nat_eq (length args) ru.params) (nat_eq (length args) ru.params) _ _ _ _ refl
    (guard_like k n ru (guard_all k 1 ru.patterns h.inherited) (match_all 1 ru.patterns q.inherited) (guard_all-match k 1 ru.patterns h.inherited q.inherited a.inherited)) refl) refl

state_like : (g : Grammar) (k : Map) (s : State) (n : Node) (ri : ℕ) (args : List Ground) (h : Held) (q : Row) → Agree k h q → OutLike k (by_state s g k n ri args h) (at_state s g n ri args q)
state_like g k (Done a b) n ri args h q p = refl
state_like g k Pending n ri args h q p = rule_like k (slice_get g.rules ri) n args h q p

pub node_same : (k : Map) (h : Held) (q : Row) → Agree k h q → h.node ≡ q.node
node_same k h q a = a.node

pub held_like : (g : Grammar) (k : Map) (o : Option Held) (o' : Option Row) (n : Node) (ri : ℕ) (args : List Ground) → LikeOption (λ h q. Agree k h q)
    (node_same k) o o' → OutLike k (by_held o g k n ri args) (at_row o' g n ri args)
held_like g k None None n ri args l = refl
held_like g k (Some h) (Some q) n ri args l = subst (λ s. OutLike k (by_state s g k n ri args h) (at_state q.state g n ri args q)) (sym l.state) (state_like g k q.state n ri args h q l)
held_like g k None (Some q) n ri args l = never l
held_like g k (Some h) None n ri args l = never l

pub start_like : (k : Map) (o : Option Held) (o' : Option Row) → LikeOption (λ h q. Agree k h q) (node_same k) o o' → OutLike k (by_root o) (not_held o')
start_like k None None l = tt
start_like k (Some h) (Some q) l = refl
start_like k None (Some q) l = never l
start_like k (Some h) None l = never l
