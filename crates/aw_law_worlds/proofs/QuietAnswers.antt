-- In a quiet world choices are answered as in the undivided configuration; a world of one role is always quiet.
use Rattle.std.specs.Prelude.{is_some, nat_eq, option_and_then, option_map, slice_get}
use Rattle.std.proofs.Common.{Bool, List, None, Option, Some, [], ap, arith, cond, false, inl, length, refl, subst, sym, true, ℕ, ◌∙◌, ◌∷◌, ◌≡◌}
use Rattle.aw_iograph.proofs.Relations.{io_closed}
use Rattle.std.specs.Option.{unwrap_or}
use Rattle.aw_list.specs.Members.{Member}
use Rattle.aw_list.proofs.Members.{never}
use Rattle.aw_term.specs.Artifacts.{Words}
use Rattle.aw_term.specs.Choices.{Answer, Arguments, Choice, Develop, NotItsRule, Outcome, Refused, Start, Starts, Takes, TooDeep, after_guard, answer, answer_of, deep, undivided}
use Rattle.aw_term.specs.Configs.{Config, Done, Pending, Row, State, row_of}
use Rattle.aw_term.specs.Matching.{Circle, Differs, Matched, Waits, Yes}
use Rattle.aw_term.specs.Names.{Node, Ref, root}
use Rattle.aw_term.specs.Rules.{Grammar, Ground, Rule, Sort, sort_of}
use Rattle.aw_term.specs.Trees.{Never}
use Rattle.aw_term.specs.Held.{Held, held_of}
use Rattle.aw_iograph.specs.Dependence.{HasNoCircle, IO}
use Rattle.aw_accept.specs.Acyclic.{IsGivenGrammar, Pairs}
use Rattle.aw_accept.proofs.Fitting.{given_of}
use Rattle.aw_accept.proofs.UndividedRuns.{empty_good, row_of-found, row_of-none, undivided-good}
use Rattle.aw_store.specs.Equations.{Map}
use Rattle.aw_apply.specs.Guard.{guard_all}
use Rattle.aw_apply.specs.Messages.{Asks, Calls, Kind, Message, Tells}
use Rattle.aw_law_sites.specs.Joint.{Joint, by_held, by_root, by_rule, by_state}
use Rattle.aw_law_sites.specs.Laws.{Agree, IsAccepted}
use Rattle.aw_law_sites.proofs.Agreement.{same_answer}
use Rattle.aw_law_sites.proofs.AnyOrders.{held_of-found}
use Rattle.aw_law_sites.proofs.Entering.{VariablesEnter, variables_enter}
use Rattle.aw_law_sites.proofs.OutcomesAlike.{held_like, node_same, start_like}
use Rattle.aw_law_sites.proofs.SameConfigs.{held_for, row_for}
use Rattle.aw_law_sites.proofs.SideBySide.{LikeOption}
use Rattle.aw_law_sites.specs.Choosing.{answer_to, choose, choose_on, outcome}
use Rattle.aw_law_sites.specs.Homes.{home}
use Rattle.aw_law_sites.specs.Sites.{Site}
use Rattle.aw_law_sites.specs.Worlds.{IsQuiet, World, first_false, node_of, site_at}
use Rattle.aw_law_worlds.proofs.Delivering.{held_of-none}
use Rattle.aw_law_worlds.proofs.Parts.{Sound}
use Rattle.aw_law_worlds.proofs.Quieting.{agrees, at_home}
use Rattle.aw_law_worlds.proofs.Runs.{IsWorld}
use Rattle.aw_law_worlds.proofs.Sorts.{home_within}

-- a choice of a rule is refused or taken
cond-refused : (b : Bool) (a : Answer Ref) (o : Outcome Ref Ref) → (o ≡ Starts → Never) → cond b o (Refused a) ≡ Starts → Never
cond-refused true a o f e = f e
cond-refused false a o f e = absurd cc

deep-refused : (b : Bool) (o : Outcome Ref Ref) → (o ≡ Starts → Never) → cond b (Refused TooDeep) o ≡ Starts → Never
deep-refused true o f e = absurd cc
deep-refused false o f e = f e

guard-no-start : (n : Node) (rule : Rule) (m : Matched Ref Ref) → after_guard n rule m ≡ Starts → Never
guard-no-start n rule (Yes xs) e = deep-refused (deep n rule) (Takes rule xs) (λ z. absurd cc) e
guard-no-start n rule (Waits u) e = absurd cc
guard-no-start n rule (Differs p) e = absurd cc
guard-no-start n rule (Circle u) e = absurd cc

rule-no-start : (o : Option Rule) (k : Map) (n : Node) (args : List Ground) (h : Held) → by_rule o k n args h ≡ Starts → Never
rule-no-start None k n args h e = absurd cc
rule-no-start (Some rule) k n args h e =
    cond-refused (nat_eq rule.sort h.sort) NotItsRule _ (cond-refused (nat_eq (length args) rule.params) Arguments _ (guard-no-start n rule (guard_all k 1 rule.patterns h.inherited))) e

state-no-start : (s : State) (g : Grammar) (k : Map) (n : Node) (ri : ℕ) (args : List Ground) (h : Held) → by_state s g k n ri args h ≡ Starts → Never
state-no-start (Done a b) g k n ri args h e = absurd cc
state-no-start Pending g k n ri args h e = rule-no-start (slice_get g.rules ri) k n args h e

held-no-start : (o : Option Held) (g : Grammar) (k : Map) (n : Node) (ri : ℕ) (args : List Ground) → by_held o g k n ri args ≡ Starts → Never
held-no-start None g k n ri args e = absurd cc
held-no-start (Some h) g k n ri args e = state-no-start h.state g k n ri args h e

root-no-rule : (o : Option Held) (rule : Rule) (xs : List Ref) → by_root o ≡ Takes rule xs → Never
root-no-rule None rule xs e = absurd cc
root-no-rule (Some h) rule xs e = absurd cc

-- the answer at a site is that of the outcome
answer-on : (g : Grammar) (s : Site) (c : Choice) (o : Outcome Ref Ref) → outcome g s c ≡ o → answer_to (choose_on g s c o) ≡ answer_of o
answer-on g s c (Refused a) e = refl
answer-on g s (Start st k) Starts e = refl
answer-on g s (Develop n ri args) Starts e = never (held-no-start (held_of n s.held) g s.equations n ri args e)
answer-on g s (Start st k) (Takes rule xs) e = never (root-no-rule (held_of (root st k) s.held) rule xs e)
answer-on g s (Develop n ri args) (Takes rule xs) e = refl

module _ (words : Words) (g : Grammar) (accepted : IsAccepted words g) (loads : Bool) (w : World) (x : Joint) (W : IsWorld words g accepted loads w x) where
  abbrev fit : IsGivenGrammar g
  fit = given_of words g accepted.0

  abbrev enter : VariablesEnter g
  enter = variables_enter words g accepted.0

  abbrev ok : HasNoCircle g (IO g)
  ok = accepted.1

  module _ (quiet : IsQuiet w) (c : Config) (e : undivided g [] w.taken ≡ Some c) (A : Pairs (λ h q. Agree x.equations h q) x.held c) (n : Node) where
    abbrev a : ℕ
    a = home g n

    abbrev like : Option Held → Option Row → Type 0
    like o p = LikeOption (λ h q. Agree (site_at w a).equations h q) (node_same (site_at w a).equations) o p

    -- a node is held at its home exactly where the configuration has its row, and they agree
    looked_up : (o : Option Held) (p : Option Row) → held_of n (site_at w a).held ≡ o → row_of n c ≡ p → like o p
    looked_up None None f r = tt
    looked_up (Some h) (Some q) f r =
        let (i, nd) = held_of-found n (site_at w a).held h f in
        let (j, nq) = row_of-found n c q r in
        let m = (W.inv.held a h i).0 in
        let (q', mq, ag) = row_for g fit enter ok x.equations x.held c A h m in
        let p = (undivided-good g fit (IO g) (io_closed g) ok [] w.taken c (empty_good g fit (IO g) (io_closed g) ok) e).0.apart q' q mq j (sym ag.node ∙ (nd ∙ sym nq)) in
        subst (λ b. Agree (site_at w b).equations h q) (ap (home g) nd) (agrees words g accepted loads w x W quiet h q m (subst (λ q. Agree x.equations h q) p ag))
    looked_up None (Some q) f r =
        let (j, nq) = row_of-found n c q r in
        let (h, m, ag) = held_for g fit enter ok x.equations x.held c A q j in
        let nd = ag.node ∙ nq in
        held_of-none n (site_at w a).held f h (subst (λ b. Member h (site_at w b).held) (ap (home g) nd) (at_home words g accepted loads w x W quiet h m)) nd
    looked_up (Some h) None f r =
        let (i, nd) = held_of-found n (site_at w a).held h f in
        let (q, mq, ag) = row_for g fit enter ok x.equations x.held c A h (W.inv.held a h i).0 in
        row_of-none n c r q mq (sym ag.node ∙ nd)

  -- in a quiet world a choice has the answer of the undivided configuration
  pub quiet_answer : IsQuiet w → (c : Config) → undivided g [] w.taken ≡ Some c → Pairs (λ h q. Agree x.equations h q) x.held c → (y : Choice)
      → answer_to (choose g (site_at w (home g (node_of y))) y) ≡ answer g c y
  quiet_answer quiet c e A (Start s k) =
      answer-on g (site_at w (home g (root s k))) (Start s k) _ refl
      ∙ same_answer (site_at w (home g (root s k))).equations _ _ (start_like (site_at w (home g (root s k))).equations _ _ (looked_up quiet c e A (root s k) _ _ refl refl))
  quiet_answer quiet c e A (Develop n ri args) =
      answer-on g (site_at w (home g n)) (Develop n ri args) _ refl
      ∙ same_answer (site_at w (home g n)).equations _ _ (held_like g (site_at w (home g n)).equations _ _ n ri args (looked_up quiet c e A n _ _ refl refl))

-- ---- one role

home_zero : (words : Words) (g : Grammar) (accepted : IsAccepted words g) → g.roles ≡ 1 → (n : Node) → home g n ≡ 0
home_zero words g accepted one_role n = go (sort_of g n) refl
  where
    go : (o : Option ℕ) → sort_of g n ≡ o → home g n ≡ 0
    go None f = ap (λ o. unwrap_or (option_and_then (λ s. option_map (λ (t : Sort). t.role) (slice_get g.sorts s)) o) 0) f
    go (Some s) f = let l = home_within words g accepted.0 n (ap is_some f) in omega (arith, l, one_role)

no_members : {B : Type 0} (xs : List B) → ((y : B) → Member y xs → Never) → xs ≡ []
no_members [] f = refl
no_members (y ∷ xs) f = never (f y (inl refl))

module _ (words : Words) (g : Grammar) (accepted : IsAccepted words g) (loads : Bool) (w : World) (x : Joint) (W : IsWorld words g accepted loads w x) (one_role : g.roles ≡ 1) where
  none_sent : (m : Message) (k : Kind) → Sound g (site_at w) x m.to k → Never
  none_sent m (Calls c l) (t, (p, r, i, e, n), z, cs) = n (home_zero words g accepted one_role p ∙ (sym (home_zero words g accepted one_role c.node) ∙ sym t))
  none_sent m (Asks r b) (t, n, i) = let l = W.inv.range b r i in let z : 0 ≡ b = omega (arith, l, one_role) in n (t ∙ (home_zero words g accepted one_role r.node ∙ z))
  none_sent m (Tells e l) (v, cs) =
      let i = (W.inv.watched (home g e.left.node) e.left m.to v).1 in
      let b = W.inv.range m.to e.left i in
      let z : 0 ≡ m.to = omega (arith, b, one_role) in
      cs.0.1 (home_zero words g accepted one_role e.left.node ∙ z)

  -- one role sends no messages, so its world is always quiet
  pub no_messages : w.messages ≡ []
  no_messages = no_members w.messages (λ m i. none_sent m m.kind (W.inv.sound m i))

  pub always_quiet : IsQuiet w
  always_quiet = empty-quiet w.delivered 0 (W.marks ∙ ap length no_messages)
    where
      empty-quiet : (ds : List Bool) (i : ℕ) → length ds ≡ 0 → first_false i ds ≡ None
      empty-quiet [] i e = refl
      empty-quiet (d ∷ ds) i e = absurd (omega (arith, e))
