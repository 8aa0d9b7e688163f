-- What is enabled stays enabled.
use Rattle.std.specs.Prelude.{option_and_then, slice_get, ◌⊎◌}
use Rattle.std.proofs.Common.{Bool, List, None, Option, Some, [], ap, inl, inr, map, refl, subst, sym, ℕ, ◌++◌, ◌+◌, ◌∙◌, ◌∷◌, ◌≡◌}
use Rattle.std.proofs.lemmas.Option.{same_Some}
use Rattle.aw_list.specs.Members.{Member}
use Rattle.aw_list.proofs.Members.{member_unmap}
use Rattle.aw_term.specs.WellFormed.{Each}
use Rattle.aw_term.specs.Artifacts.{Words}
use Rattle.aw_term.specs.Choices.{Choice, Develop, Developed, Outcome, Refused, Start, Starts, Takes}
use Rattle.aw_term.specs.Configs.{Done}
use Rattle.aw_term.specs.Names.{Node, Ref, root}
use Rattle.aw_term.specs.Rules.{Grammar, Ground, Rule}
use Rattle.aw_term.specs.Trees.{Never}
use Rattle.aw_term.specs.Held.{Held, held_of, mark}
use Rattle.aw_iograph.specs.Dependence.{HasNoCircle, IO}
use Rattle.aw_accept.specs.Acyclic.{IsGivenGrammar}
use Rattle.aw_accept.proofs.Fitting.{given_of}
use Rattle.aw_accept.proofs.UndividedRuns.{root-below}
use Rattle.aw_apply.specs.Made.{made}
use Rattle.aw_apply.specs.Messages.{Message, BadName, Conflict, New, NotMine, Received, Repeat}
use Rattle.aw_law_sites.specs.Joint.{Joint, by_held, by_root, called_held, empty_joint, joint_outcome, joint_run, joint_taken, root_held}
use Rattle.aw_law_sites.specs.Laws.{IsAccepted}
use Rattle.aw_law_sites.proofs.AnyOrders.{Member-insert_all, Member-insert_held, held_of-found, marked, state-takes, yes-kept}
use Rattle.aw_law_sites.proofs.Entering.{VariablesEnter, variables_enter}
use Rattle.aw_law_sites.proofs.SameConfigs.{fit_of}
use Rattle.aw_law_sites.specs.Choosing.{Chosen, Did, No, choose, outcome}
use Rattle.aw_law_sites.specs.Homes.{home}
use Rattle.aw_law_sites.specs.Reacting.{receive}
use Rattle.aw_law_sites.specs.Sites.{Site, Reaction}
use Rattle.aw_law_sites.specs.Worlds.{Chooses, Delivers, Move, World, chosen_at, deliver_on, node_of, received_at, site_at, step, run}
use Rattle.aw_law_worlds.specs.Laws.{NodesStay, MayCome}
use Rattle.aw_law_worlds.proofs.Changes.{Grows, grows_on}
use Rattle.aw_law_worlds.proofs.Growing.{Keeps}
use Rattle.aw_law_worlds.proofs.Runs.{IsWorld, homes, step-both}
use Rattle.aw_law_worlds.proofs.SentLemmas.{call_case}
use Rattle.aw_law_worlds.proofs.HeldLookups.{held_of-there, not-there, same_state}
use Rattle.aw_law_worlds.proofs.Starting.{no_root}

-- ---- a rule

module _ (g : Grammar) (s t : Site) (kept : Keeps s t) (nodes : NodesStay s.held t.held) (apart : (h h' : Held) → Member h t.held → Member h' t.held → h.node ≡ h'.node → h ≡ h')
    (n : Node) (ri : ℕ) (args : List Ground) (rule : Rule) (bound : List Ref) where
  rule_on : (o : Option Held) → held_of n s.held ≡ o → by_held o g s.equations n ri args ≡ Takes rule bound
      → (outcome g t (Develop n ri args) ≡ Takes rule bound) ⊎ (outcome g t (Develop n ri args) ≡ Refused Developed)
  rule_on None f e = absurd cc
  rule_on (Some h) f e =
      let (pending, ruled, met) = state-takes g h.state s.equations n ri args h rule bound e in
      let (i, nd) = held_of-found n s.held h f in
      elim (nodes h i) [
        | inl j ↦
            (let p = held_of-there t.held h n nd (λ q m w. apart q h m j w) j in
            let y = yes-kept s.equations t.equations kept rule.patterns h.inherited bound met in
            inl (ap (λ o. by_held o g t.equations n ri args) p ∙ (same_state g h.state t.equations s.equations n ri args h rule ruled (y ∙ sym met) ∙ e)))
        | inr z ↦
            (let p = held_of-there t.held (record h { state = Done z.1 z.2 }) n nd (λ q m w. apart q (record h { state = Done z.1 z.2 }) m z.3 w) z.3 in
            inr (ap (λ o. by_held o g t.equations n ri args) p))
      ]

  -- a rule that is enabled stays so, or its node is developed
  pub rule_stays : outcome g s (Develop n ri args) ≡ Takes rule bound → (outcome g t (Develop n ri args) ≡ Takes rule bound) ⊎ (outcome g t (Develop n ri args) ≡ Refused Developed)
  rule_stays e = rule_on (held_of n s.held) refl e

-- ---- a start

by_root-none : (o : Option Held) → by_root o ≡ Starts → o ≡ None
by_root-none None e = refl
by_root-none (Some h) e = absurd cc

root-inj : (s k u l : ℕ) → root s k ≡ root u l → (s ≡ u) × (k ≡ l)
root-inj s k u l e = (ap (λ (n : Node). n.start) e, ap (λ (n : Node). n.case) e)

-- no other choice brings the node of a start
module _ (g : Grammar) (x y : Joint) (s k : ℕ) (gone : (h : Held) → Member h x.held → h.node ≡ root s k → Never) where
  not_taken : (c : Choice) (o : Outcome Ref Ref) → (c ≡ Start s k → Never) → joint_taken x c o ≡ Some y → (h : Held) → Member h y.held → h.node ≡ root s k → Never
  not_taken c (Refused a) n t h m e = absurd cc
  not_taken (Start u l) Starts n t h m e =
      let p = same_Some _ _ t in
      elim (Member-insert_held h (root_held u l) x.held (subst (λ (y : Joint). Member h y.held) (sym p) m)) [
        | inl q ↦ (let (a, b) = root-inj u l s k (sym (ap (λ (h : Held). h.node) q) ∙ e) in n (λ i. Start (a i) (b i)))
        | inr o ↦ gone h o e
      ]
  not_taken (Start u l) (Takes rule xs) n t h m e = absurd cc
  not_taken (Develop d ri args) Starts n t h m e = absurd cc
  not_taken (Develop d ri args) (Takes rule xs) n t h m e =
      let p = same_Some _ _ t in
      elim (Member-insert_all h (map called_held (made d ri rule args xs).calls) (map (mark d (Done ri args)) x.held) (subst (λ (y : Joint). Member h y.held) (sym p) m)) [
        | inl o ↦
            (let (c, i, q) = member_unmap called_held h (made d ri rule args xs).calls o in
            let (j, u, f, w, v) = call_case d ri _ rule.children 1 _ c i in
            root-below s k d ri (1 + j) (sym e ∙ (ap (λ (h : Held). h.node) q ∙ w)))
        | inr o ↦
            (let (u, i, q) = member_unmap (mark d (Done ri args)) h x.held o in
            gone u i (sym (marked d (Done ri args) u).0 ∙ (sym (ap (λ (h : Held). h.node) q) ∙ e)))
      ]

joint_run-last : (g : Grammar) (v x y : Joint) (cs : List Choice) (c : Choice) → joint_run g v cs ≡ Some x → joint_run g v (cs ++ c ∷ []) ≡ Some y → joint_taken x c (joint_outcome x g c) ≡ Some y
joint_run-last g v x y [] c e f = go (joint_taken x c (joint_outcome x g c)) (subst (λ v. option_and_then (λ z. Some z) (joint_taken v c (joint_outcome v g c)) ≡ Some y) (same_Some _ _ e) f)
  where
    go : (o : Option Joint) → option_and_then (λ z. Some z) o ≡ Some y → o ≡ Some y
    go None z = absurd cc
    go (Some u) z = z
joint_run-last g v x y (d ∷ cs) c e f = go (joint_taken v d (joint_outcome v g d)) e f (λ u a b. joint_run-last g u x y cs c a b)
  where
    go : (o : Option Joint) → option_and_then (λ z. joint_run g z cs) o ≡ Some x → option_and_then (λ z. joint_run g z (cs ++ c ∷ [])) o ≡ Some y
        → ((u : Joint) → joint_run g u cs ≡ Some x → joint_run g u (cs ++ c ∷ []) ≡ Some y → joint_taken x c (joint_outcome x g c) ≡ Some y) → joint_taken x c (joint_outcome x g c) ≡ Some y
    go None a b h = absurd cc
    go (Some u) a b h = h u a b

-- what an event does to the choices taken
TakenAfter : World → World → Move → Type 0
TakenAfter w v e = (v.taken ≡ w.taken) ⊎ ((c : Choice) × (e ≡ Chooses c) × (v.taken ≡ w.taken ++ c ∷ []))

chosen-taken : (w : World) (a : ℕ) (c : Choice) (o : Chosen) → TakenAfter w (chosen_at w a c o).world (Chooses c)
unfolding TakenAfter
chosen-taken w a c (No r) = inl refl
chosen-taken w a c (Did r) = inr (c, refl, refl)

received-taken : (w : World) (k a : ℕ) (o : Received Reaction) (e : Move) → TakenAfter w (received_at w k a o).world e
unfolding TakenAfter
received-taken w k a (New r) e = inl refl
received-taken w k a BadName e = inl refl
received-taken w k a NotMine e = inl refl
received-taken w k a (Conflict c d) e = inl refl
received-taken w k a Repeat e = inl refl

delivered-taken : (g : Grammar) (w : World) (k : ℕ) (o : Option Message) (e : Move) → TakenAfter w (deliver_on g w k o).world e
unfolding TakenAfter
delivered-taken g w k None e = inl refl
delivered-taken g w k (Some m) e = received-taken w k m.to (receive g (site_at w m.to) m) e

step-taken : (g : Grammar) (w : World) (e : Move) → TakenAfter w (step g w e).world e
unfolding TakenAfter
step-taken g w (Chooses c) = chosen-taken w (home g (node_of c)) c (choose g (site_at w (home g (node_of c))) c)
step-taken g w (Delivers k) = delivered-taken g w k (slice_get w.messages k) (Delivers k)

module _ (words : Words) (g : Grammar) (accepted : IsAccepted words g) (loads : Bool) where
  abbrev fit : IsGivenGrammar g
  fit = given_of words g accepted.0

  abbrev enter : VariablesEnter g
  enter = variables_enter words g accepted.0

  abbrev ok : HasNoCircle g (IO g)
  ok = accepted.1

  -- nodes differ at each site
  pub one_each : (w : World) (x : Joint) → IsWorld words g accepted loads w x → (a : ℕ) (h h' : Held) → Member h (site_at w a).held → Member h' (site_at w a).held → h.node ≡ h'.node → h ≡ h'
  one_each w x W a h h' m m' e = (fit_of g fit enter ok x W.fit_).apart h h' (W.inv.held a h m).0 (W.inv.held a h' m').0 e

  -- a start that is enabled stays so, unless it is made
  pub start_stays : (w : World) (x : Joint) → IsWorld words g accepted loads w x → (e : Move) (y : Joint) → IsWorld words g accepted loads (step g w e).world y → (s k : ℕ)
      → outcome g (site_at w (home g (root s k))) (Start s k) ≡ Starts → (e ≡ Chooses (Start s k) → Never) → outcome g (site_at (step g w e).world (home g (root s k))) (Start s k) ≡ Starts
  unfolding TakenAfter
  start_stays w x W e y V s k f n =
      let none = by_root-none (held_of (root s k) (site_at w (home g (root s k))).held) f in
      let gone = no_root g fit enter ok (homes words g accepted loads) loads (site_at w) w.messages _ x W.inv W.fit_ W.keyed (home g (root s k)) s k refl none in
      let still : (h : Held) → Member h y.held → h.node ≡ root s k → Never = elim (step-taken g w e) [
        | inl p ↦ (let q = same_Some _ _ (sym W.whole ∙ (ap (joint_run g empty_joint) (sym p) ∙ V.whole)) in subst (λ (y : Joint). (h : Held) → Member h y.held → h.node ≡ root s k → Never) q gone)
        | inr z ↦ not_taken g x y s k gone z.0 (joint_outcome x g z.0) (λ p. n (z.1 ∙ ap Chooses p))
            (joint_run-last g empty_joint x y w.taken z.0 W.whole (ap (joint_run g empty_joint) (sym z.2) ∙ V.whole))
      ] in
      ap by_root (not-there (site_at (step g w e).world (home g (root s k))).held (root s k) (λ q m p. still q (V.inv.held (home g (root s k)) q m).0 p))

  -- all later events
  pub run-both : (es : List Move) (w : World) (x : Joint) → IsWorld words g accepted loads w x → Each (MayCome g) es → (y : Joint)
      × IsWorld words g accepted loads (run g w es) y × Grows (site_at w) (site_at (run g w es))
  run-both [] w x W a = (x, W, record { equations = λ a r b f. f; held = λ a h m. inl m })
  run-both (e ∷ es) w x W a =
      let (y, V, G) = step-both words g accepted loads w x W e a.0 in
      let (z, U, H) = run-both es (step g w e).world y V a.1 in
      (z, U, grows_on (site_at w) (site_at (step g w e).world) (site_at (run g (step g w e).world es)) G H)

  pub start_stays_on : (es : List Move) (w : World) (x : Joint) → IsWorld words g accepted loads w x → Each (MayCome g) es → (s k : ℕ)
      → outcome g (site_at w (home g (root s k))) (Start s k) ≡ Starts → (Member (Chooses (Start s k)) es → Never) → outcome g (site_at (run g w es) (home g (root s k))) (Start s k) ≡ Starts
  start_stays_on [] w x W a s k f n = f
  start_stays_on (e ∷ es) w x W a s k f n =
      let (y, V, G) = step-both words g accepted loads w x W e a.0 in
      start_stays_on es (step g w e).world y V a.1 s k (start_stays w x W e y V s k f (λ p. n (inl (sym p)))) (λ m. n (inr m))
