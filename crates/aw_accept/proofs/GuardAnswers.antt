-- A guard that waits: it waits for a hole of an inherited value. None gives a circle.
use Rattle.std.proofs.Common.{◌≡◌, ℕ, suc, ◌≤◌, Bool, true, false, cond, List, [], ◌∷◌, length, Option, Some, None, slice_get, refl, sym, subst, inl, inr}
use Rattle.std.specs.Prelude.{◌⊎◌, ◌&&◌, nat_eq}
use Rattle.aw_list.specs.Members.{Member}
use Rattle.aw_list.proofs.Members.{never, member_got}
use Rattle.aw_term.specs.Trees.{Never, Leaf, Made, Trees, Nil, More, In, Ins, count, head_eq}
use Rattle.aw_term.specs.Names.{Node, Ref, root}
use Rattle.aw_term.specs.Rules.{Term, Ground, Value, Rule, Grammar}
use Rattle.aw_term.specs.Matching.{Matched, Yes, Waits, Differs, Circle, and_then, under, match, match_parts, match_all}
use Rattle.aw_term.specs.Configs.{State, Pending, Done, Row, Config, row_of}
use Rattle.aw_term.specs.Choices.{Choice, Start, Develop, Answer, NotHere, Developed, NotItsRule, Arguments, WaitsFor, CircleAt, TooDeep, Taken}
use Rattle.aw_term.specs.Choices.{Outcome, Refused, Takes, deep, after_guard, at_rule, at_state, at_row, not_held, answer_of, answer}
use Rattle.aw_accept.specs.Missing.{WaitsForMissing, TellsNoCircle}
use Rattle.aw_accept.proofs.UndividedRuns.{row_of-found}

pub waits-inj : {A R : Type 0} {h k : R} → ◌≡◌ {A = Matched A R} (Waits h) (Waits k) → h ≡ k
waits-inj e = cc

pub cond-waits : {A R : Type 0} (b : Bool) (m : Matched A R) (p : List ℕ) (h : R) → cond b m (Differs p) ≡ Waits h → m ≡ Waits h
cond-waits true m p h e = e
cond-waits false m p h e = absurd cc

pub under-waits : {A R : Type 0} (k : ℕ) (m : Matched A R) (h : R) → under k m ≡ Waits h → m ≡ Waits h
under-waits k (Yes b) h e = absurd cc
under-waits k (Waits r) h e = e
under-waits k (Differs p) h e = absurd cc
under-waits k (Circle r) h e = absurd cc

pub and_then-waits : {A R : Type 0} (m n : Matched A R) (h : R) → and_then m n ≡ Waits h → (m ≡ Waits h) ⊎ (n ≡ Waits h)
and_then-waits (Yes xs) (Yes ys) h e = absurd cc
and_then-waits (Yes xs) (Waits r) h e = inr e
and_then-waits (Yes xs) (Differs p) h e = absurd cc
and_then-waits (Yes xs) (Circle r) h e = absurd cc
and_then-waits (Waits r) n h e = inl e
and_then-waits (Differs p) n h e = absurd cc
and_then-waits (Circle r) n h e = absurd cc

-- the hole stands in the tree
mutual
  pub match-waits : (p : Term) (t : Value) (h : Ref) → match p t ≡ Waits h → In h t
  match-waits (Leaf v) t h e = absurd cc
  match-waits (Made k ps) (Leaf r) h e = sym (waits-inj e)
  match-waits (Made k ps) (Made l ts) h e =
      match_parts-waits ps ts 1 h (cond-waits (head_eq k l && nat_eq (count ps) (count ts)) (match_parts 1 ps ts) [] h e)

  pub match_parts-waits : (ps : Trees ℕ) (ts : Trees Ref) (n : ℕ) (h : Ref) → match_parts n ps ts ≡ Waits h → Ins h ts
  match_parts-waits Nil ts n h e = absurd cc
  match_parts-waits (More p ps) Nil n h e = absurd cc
  match_parts-waits (More p ps) (More t ts) n h e =
      elim (and_then-waits (under n (match p t)) (match_parts (suc n) ps ts) h e) [
        | inl a ↦ inl (match-waits p t h (under-waits n (match p t) h a))
        | inr a ↦ inr (match_parts-waits ps ts (suc n) h a)
      ]

-- the place, counted from 0, at which a guard waits
pub match_all-waits : (ps : List Term) (ts : List Value) (n : ℕ) (h : Ref) → match_all n ps ts ≡ Waits h → (i : ℕ) × (p : Term) × (t : Value)
    × (slice_get ps i ≡ Some p) × (slice_get ts i ≡ Some t) × (match p t ≡ Waits h)
match_all-waits [] ts n h e = absurd cc
match_all-waits (p ∷ ps) [] n h e = absurd cc
match_all-waits (p ∷ ps) (t ∷ ts) n h e =
    elim (and_then-waits (under n (match p t)) (match_all (suc n) ps ts) h e) [
      | inl a ↦ (0, p, t, refl, refl, under-waits n (match p t) h a)
      | inr a ↦ (let (i, p', t', f, k, x) = match_all-waits ps ts (suc n) h a in (suc i, p', t', f, k, x))
    ]

cond-circle : {A R : Type 0} (b : Bool) (m : Matched A R) (p : List ℕ) (h : R) → cond b m (Differs p) ≡ Circle h → m ≡ Circle h
cond-circle true m p h e = e
cond-circle false m p h e = absurd cc

under-circle : {A R : Type 0} (k : ℕ) (m : Matched A R) (h : R) → under k m ≡ Circle h → m ≡ Circle h
under-circle k (Yes b) h e = absurd cc
under-circle k (Waits r) h e = absurd cc
under-circle k (Differs p) h e = absurd cc
under-circle k (Circle r) h e = e

and_then-circle : {A R : Type 0} (m n : Matched A R) (h : R) → and_then m n ≡ Circle h → (m ≡ Circle h) ⊎ (n ≡ Circle h)
and_then-circle (Yes xs) (Yes ys) h e = absurd cc
and_then-circle (Yes xs) (Waits r) h e = absurd cc
and_then-circle (Yes xs) (Differs p) h e = absurd cc
and_then-circle (Yes xs) (Circle r) h e = inr e
and_then-circle (Waits r) n h e = absurd cc
and_then-circle (Differs p) n h e = absurd cc
and_then-circle (Circle r) n h e = inl e

-- no match with a tree gives a circle
mutual
  match-circle : (p : Term) (t : Value) (h : Ref) → match p t ≡ Circle h → Never
  match-circle (Leaf v) t h e = absurd cc
  match-circle (Made k ps) (Leaf r) h e = absurd cc
  match-circle (Made k ps) (Made l ts) h e =
      match_parts-circle ps ts 1 h (cond-circle (head_eq k l && nat_eq (count ps) (count ts)) (match_parts 1 ps ts) [] h e)

  match_parts-circle : (ps : Trees ℕ) (ts : Trees Ref) (n : ℕ) (h : Ref) → match_parts n ps ts ≡ Circle h → Never
  match_parts-circle Nil ts n h e = absurd cc
  match_parts-circle (More p ps) Nil n h e = absurd cc
  match_parts-circle (More p ps) (More t ts) n h e =
      elim (and_then-circle (under n (match p t)) (match_parts (suc n) ps ts) h e) [
        | inl a ↦ match-circle p t h (under-circle n (match p t) h a)
        | inr a ↦ match_parts-circle ps ts (suc n) h a
      ]

pub match_all-circle : (ps : List Term) (ts : List Value) (n : ℕ) (h : Ref) → match_all n ps ts ≡ Circle h → Never
match_all-circle [] ts n h e = absurd cc
match_all-circle (p ∷ ps) [] n h e = absurd cc
match_all-circle (p ∷ ps) (t ∷ ts) n h e =
    elim (and_then-circle (under n (match p t)) (match_all (suc n) ps ts) h e) [
      | inl a ↦ match-circle p t h (under-circle n (match p t) h a)
      | inr a ↦ match_all-circle ps ts (suc n) h a
    ]

-- an answer that names a hole
abbrev names_hole : Answer Ref → Bool
names_hole (WaitsFor h) = true
names_hole (CircleAt h) = true
names_hole _ = false

-- no other answer is it
other : (b a : Answer Ref) → names_hole b ≡ false → names_hole a ≡ true → b ≡ a → Never
other b a fails holds e = let z : names_hole a ≡ false = subst (λ x. names_hole x ≡ false) e fails in absurd cc

passed_test : (b : Bool) (x : Outcome Value Ref) (d a : Answer Ref) → names_hole d ≡ false → names_hole a ≡ true → answer_of (cond b x (Refused d)) ≡ a → answer_of x ≡ a
passed_test true x d a fails holds e = e
passed_test false x d a fails holds e = never (other d a fails holds e)

-- the guard of a rule gives the answer
abbrev Gives : Node → Row → Answer Ref → Type 0
Gives n q a = (rule : Rule) × (answer_of (after_guard n rule (match_all 1 rule.patterns q.inherited)) ≡ a)

rule_gives : (o : Option Rule) (n : Node) (args : List Ground) (q : Row) (a : Answer Ref) → names_hole a ≡ true → answer_of (at_rule o n args q) ≡ a → Gives n q a
rule_gives None n args q a holds e = never (other NotItsRule a refl holds e)
rule_gives (Some rule) n args q a holds e =
    let guard = after_guard n rule (match_all 1 rule.patterns q.inherited) in
    let many = cond (nat_eq (length args) rule.params) guard (Refused Arguments) in
    (rule, passed_test (nat_eq (length args) rule.params) guard Arguments a refl holds (passed_test (nat_eq rule.sort q.sort) many NotItsRule a refl holds e))

state_gives : (s : State) (g : Grammar) (n : Node) (ri : ℕ) (args : List Ground) (q : Row) (a : Answer Ref) → names_hole a ≡ true → answer_of (at_state s g n ri args q) ≡ a → Gives n q a
state_gives (Done r xs) g n ri args q a holds e = never (other Developed a refl holds e)
state_gives Pending g n ri args q a holds e = rule_gives (slice_get g.rules ri) n args q a holds e

row_gives : (o : Option Row) (g : Grammar) (n : Node) (ri : ℕ) (args : List Ground) (a : Answer Ref) → names_hole a ≡ true →
    answer_of (at_row o g n ri args) ≡ a → (q : Row) × (o ≡ Some q) × Gives n q a
row_gives None g n ri args a holds e = never (other NotHere a refl holds e)
row_gives (Some q) g n ri args a holds e = (q, refl, state_gives q.state g n ri args q a holds e)

held_gives : (o : Option Row) (a : Answer Ref) → names_hole a ≡ true → answer_of (not_held o) ≡ a → Never
held_gives None a holds e = other _ a refl holds e
held_gives (Some q) a holds e = other _ a refl holds e

-- a choice so answered has a held row, and a guard
choice_gives : (g : Grammar) (c : Config) (x : Choice) (a : Answer Ref) → names_hole a ≡ true → answer g c x ≡ a → (n : Node) × (q : Row) × Member q c × Gives n q a
choice_gives g c (Start s k) a holds e = never (held_gives (row_of (root s k) c) a holds e)
choice_gives g c (Develop n ri args) a holds e =
    let (q, found, gives) = row_gives (row_of n c) g n ri args a holds e in
    (n, q, (row_of-found n c q found).0, gives)

deep_names : (b : Bool) (rule : Rule) (xs : List Value) (a : Answer Ref) → names_hole a ≡ true → answer_of (cond b (Refused TooDeep) (Takes rule xs)) ≡ a → Never
deep_names true rule xs a holds e = other TooDeep a refl holds e
deep_names false rule xs a holds e = other Taken a refl holds e

guard_waits : (n : Node) (rule : Rule) (m : Matched Value Ref) (h : Ref) → answer_of (after_guard n rule m) ≡ WaitsFor h → m ≡ Waits h
guard_waits n rule (Yes xs) h e = never (deep_names (deep n rule) rule xs (WaitsFor h) refl e)
guard_waits n rule (Waits r) h e = cc
guard_waits n rule (Differs p) h e = absurd cc
guard_waits n rule (Circle r) h e = absurd cc

guard_circle : (n : Node) (rule : Rule) (m : Matched Value Ref) (h : Ref) → answer_of (after_guard n rule m) ≡ CircleAt h → m ≡ Circle h
guard_circle n rule (Yes xs) h e = never (deep_names (deep n rule) rule xs (CircleAt h) refl e)
guard_circle n rule (Waits r) h e = absurd cc
guard_circle n rule (Differs p) h e = absurd cc
guard_circle n rule (Circle r) h e = cc

pub waits_for_missing : (g : Grammar) → WaitsForMissing g
waits_for_missing g c x h tree whole e =
    let (n, q, held, (rule, gives)) = choice_gives g c x (WaitsFor h) refl e in
    let (i, p, t, f, k, m) = match_all-waits rule.patterns q.inherited 1 h (guard_waits n rule (match_all 1 rule.patterns q.inherited) h gives) in
    let (r, j, there, open_, is, low, high) = whole q held h (inl (t, member_got q.inherited i t k, match-waits p t h m)) in
    (r, j, there, open_, is, low, subst (λ l. j ≤ l) (tree.many r there) high)

pub tells_no_circle : (g : Grammar) → TellsNoCircle g
tells_no_circle g c x h e =
    let (n, q, held, (rule, gives)) = choice_gives g c x (CircleAt h) refl e in
    match_all-circle rule.patterns q.inherited 1 h (guard_circle n rule (match_all 1 rule.patterns q.inherited) h gives)
