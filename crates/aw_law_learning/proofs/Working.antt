-- Each task that a site holds began a case, is a subtask of a task of its own, or was called.
use Rattle.std.specs.Prelude.{nat_eq, not, slice_get, ◌⊎◌}
use Rattle.std.proofs.Common.{◌≡◌, ℕ, zero, suc, ◌+◌, Bool, true, false, cond, List, [], ◌∷◌, ◌++◌, map, length, Option, Some, None, refl, sym, ap, ◌∙◌, subst, inl, inr}
use Rattle.std.proofs.lemmas.Bool.{and_parts, cases_lt, eqb-true}
use Rattle.aw_list.specs.Members.{Member}
use Rattle.aw_list.proofs.Members.{never, member_got, member_left, member_unmap}
use Rattle.aw_term.specs.Choices.{Choice, Start, Develop, Outcome, Refused, Starts, Takes}
use Rattle.aw_term.specs.Configs.{Done}
use Rattle.aw_term.specs.Held.{Held, held_of, mark}
use Rattle.aw_term.specs.Names.{Node, Ref}
use Rattle.aw_term.specs.Rules.{Ground, Rule, Grammar, get, upto}
use Rattle.aw_term.specs.Trees.{Never}
use Rattle.aw_store.specs.Equations.{Equation}
use Rattle.aw_apply.specs.Made.{Call, made}
use Rattle.aw_apply.specs.Messages.{Kind, Calls, Asks, Tells, Message, Received, BadName, NotMine, Conflict, Repeat, New}
use Rattle.aw_law_sites.specs.Choosing.{Chosen, No, Did, choose, choose_on, develop_site, outcome, start_site}
use Rattle.aw_law_sites.specs.Homes.{home, parent, has_steps}
use Rattle.aw_law_sites.specs.Joint.{called_held, root_held}
use Rattle.aw_law_sites.specs.Reacting.{add_held, react, receive}
use Rattle.aw_law_sites.specs.Receiving.{about_ok, clash, is_mine, is_repeat, none_mine}
use Rattle.aw_law_sites.specs.Sites.{Site, Reaction, empty_site, silently}
use Rattle.aw_law_sites.specs.Telling.{calls_in}
use Rattle.aw_law_sites.specs.ValidNames.{message_ok}
use Rattle.aw_law_sites.specs.Worlds.{World, empty_world, site_at, node_of, with_site, Move, Chooses, Delivers, chosen_at, received_at, deliver_on, step, run}
use Rattle.aw_law_sites.proofs.AnyOrders.{Member-insert_all, Member-insert_held, marked}
use Rattle.aw_law_worlds.specs.Invariant.{call_message, calls_at}
use Rattle.aw_law_worlds.proofs.Delivering.{parent-below}
use Rattle.aw_law_worlds.proofs.Places.{get-set, get-set_other, same_or_not}
use Rattle.aw_law_worlds.proofs.SentLemmas.{call_case, in_case}
use Rattle.aw_law_worlds.proofs.Growing.{new-of, cond-new}
use Rattle.aw_law_nodes.proofs.ListParts.{set-short}
use Rattle.aw_law_learning.specs.Working.{IsItsWork, OfficesWorkByCall}

mine-of : (b : Bool) (rest : Received Reaction) (y : Reaction) → cond (not b) NotMine rest ≡ New y → (b ≡ true) × (rest ≡ New y)
mine-of true rest y e = (refl, e)
mine-of false rest y e = absurd cc

module _ (g : Grammar) where
  -- a node that stays as it was called
  same-work : (ms : List Message) (a : ℕ) (h k : Held) → k.node ≡ h.node → k.sort ≡ h.sort → k.inherited ≡ h.inherited → IsItsWork g ms a h → IsItsWork g ms a k
  same-work ms a h k n s r (inl e) = inl (ap (λ n. has_steps n.steps) n ∙ e)
  same-work ms a h k n s r (inr (inl e)) = inr (inl (ap (λ n. home g (parent n)) n ∙ e))
  same-work ms a h k n s r (inr (inr c)) =
      inr (inr (c.0, subst (λ m. Member m ms) (λ i. calls_at (home g (sym n i)) (record { node = sym n i; sort = sym s i; inherited = sym r i }) c.0) c.1))

  more-work : (ms new : List Message) (a : ℕ) (h : Held) → IsItsWork g ms a h → IsItsWork g (ms ++ new) a h
  more-work ms new a h (inl e) = inl e
  more-work ms new a h (inr (inl e)) = inr (inl e)
  more-work ms new a h (inr (inr c)) = inr (inr (c.0, member_left (call_message g h c.0) ms new c.1))

  abbrev AllWork : List Message → ℕ → List Held → Type 0
  AllWork ms a hs = (h : Held) → Member h hs → IsItsWork g ms a h

  -- a choice
  develop-works : (ms : List Message) (s : Site) (c : Choice) (n : Node) (ri : ℕ) (args : List Ground) (rule : Rule) (bound : List Ref) → AllWork ms (home g n) s.held
      → AllWork ms (home g n) (develop_site g s c n ri args (made n ri rule args bound)).site.held
  develop-works ms s c n ri args rule bound A h i =
      let mk = made n ri rule args bound in
      elim (Member-insert_all h (calls_in g s.role mk.calls) (map (mark n (Done ri args)) s.held) i) [
        | inl o ↦ (let (d, m, p, q) = in_case g s.role mk.calls h o in
            let (j, child, f, z, u) = call_case n ri _ rule.children 1 _ d m in
            inr (inl (ap (λ (h : Held). home g (parent h.node)) q ∙ ap (home g) (ap parent z ∙ parent-below n ri (1 + j)))))
        | inr o ↦ (let (d, j, y) = member_unmap (mark n (Done ri args)) h s.held o in
            let (p, q, r) = marked n (Done ri args) d in
            same-work ms (home g n) d h (ap (λ (h : Held). h.node) y ∙ p) (ap (λ (h : Held). h.sort) y ∙ q) (ap (λ (h : Held). h.inherited) y ∙ r) (A d j))
      ]

  choose-works : (ms : List Message) (s : Site) (c : Choice) (o : Outcome Ref Ref) (x : Reaction) → choose_on g s c o ≡ Did x → AllWork ms (home g (node_of c)) s.held
      → AllWork ms (home g (node_of c)) x.site.held
  choose-works ms s c (Refused a) x e A = absurd cc
  choose-works ms s (Start st k) Starts x e A =
      let p : silently (start_site s st k) ≡ x = cc in
      subst (λ (x : Reaction). AllWork ms (home g (node_of (Start st k))) x.site.held) p
      (λ h i. elim (Member-insert_held h (root_held st k) s.held i) [ inl q ↦ inl (ap (λ (h : Held). has_steps h.node.steps) q) | inr o ↦ A h o ])
  choose-works ms s (Develop n ri args) Starts x e A = absurd cc
  choose-works ms s (Start st k) (Takes rule bound) x e A = absurd cc
  choose-works ms s (Develop n ri args) (Takes rule bound) x e A =
      let p : develop_site g s (Develop n ri args) n ri args (made n ri rule args bound) ≡ x = cc in
      subst (λ (x : Reaction). AllWork ms (home g n) x.site.held) p (develop-works ms s (Develop n ri args) n ri args rule bound A)

  -- a message
  called-works : (ms : List Message) (a : ℕ) (c : Call) (load : List Equation) (hs : List Held) (o : Option Held) → home g c.node ≡ a → Member (calls_at a c load) ms
      → AllWork ms a hs → AllWork ms a (add_held o c hs)
  called-works ms a c load hs (Some k) e m A h i = A h i
  called-works ms a c load hs None e m A h i = elim (Member-insert_held h (called_held c) hs i) [
    | inl q ↦ subst (IsItsWork g ms a) (sym q) (inr (inr (load, subst (λ b. Member (calls_at b c load) ms) (sym e) m)))
    | inr o ↦ A h o
  ]

  react-works : (ms : List Message) (s : Site) (m : Message) (k : Kind) → m.kind ≡ k → m.to ≡ s.role → about_ok g s.role k ≡ true → Member m ms
      → AllWork ms m.to s.held → AllWork ms m.to (react g s k).site.held
  react-works ms s m (Calls c load) e t mine i A =
      called-works ms m.to c load s.held (held_of c.node s.held) (eqb-true (home g c.node) s.role (and_parts (nat_eq (home g c.node) s.role) (none_mine g s.role load) mine).0 ∙ sym t)
      (subst (λ m. Member m ms) (λ j. record { to = m.to; kind = e j }) i) A
  react-works ms s m (Asks r from) e t mine i A = A
  react-works ms s m (Tells q load) e t mine i A = A

  receive-works : (ms : List Message) (s : Site) (m : Message) (x : Reaction) → receive g s m ≡ New x → Member m ms → AllWork ms m.to s.held → AllWork ms m.to x.site.held
  receive-works ms s m x e i A =
      let a = cond-new (not (message_ok g s.role m)) BadName _ x (λ z. absurd cc) e in
      let (mine, b) = mine-of (is_mine g s.role m) _ x a in
      let (here, about) = and_parts (nat_eq m.to s.role) (about_ok g s.role m.kind) mine in
      let p : react g s m.kind ≡ x = new-of (clash s m.kind) (is_repeat s m.kind) (react g s m.kind) x b in
      subst (λ (x : Reaction). AllWork ms m.to x.site.held) p (react-works ms s m m.kind refl (eqb-true m.to s.role here) about i A)

  -- worlds
  abbrev Works : World → Type 0
  Works w = (a : ℕ) → AllWork w.messages a (site_at w a).held

  site-cases : (w : World) (a : ℕ) (x : Reaction) (b : ℕ) → ((a ≡ b) × (site_at (with_site w a x) b ≡ x.site)) ⊎ (site_at (with_site w a x) b ≡ site_at w b)
  site-cases w a x b = elim (same_or_not a b) [
    | inr n ↦ inr (get-set_other (empty_site false b) w.sites a b x.site n)
    | inl p ↦ elim (cases_lt a (length w.sites)) [
      | inl l ↦ inl (p, subst (λ b. site_at (with_site w a x) b ≡ x.site) p (get-set (empty_site false a) w.sites a x.site l))
      | inr l ↦ inr (ap (λ (ss : List Site). get (empty_site false b) ss b) (set-short w.sites a x.site l))
    ]
  ]

  with-works : (w : World) (a : ℕ) (x : Reaction) → Works w → AllWork w.messages a x.site.held → Works (with_site w a x)
  with-works w a x A B b h i = elim (site-cases w a x b) [
    | inl c ↦ more-work w.messages x.sent b h (subst (λ b. IsItsWork g w.messages b h) c.0 (B h (subst (λ (s : Site). Member h s.held) c.1 i)))
    | inr e ↦ more-work w.messages x.sent b h (A b h (subst (λ (s : Site). Member h s.held) e i))
  ]

  chosen-works : (w : World) (c : Choice) (z : Chosen) → choose g (site_at w (home g (node_of c))) c ≡ z → Works w → Works (chosen_at w (home g (node_of c)) c z).world
  chosen-works w c (No q) e A = A
  chosen-works w c (Did x) e A =
      let s = site_at w (home g (node_of c)) in
      let B = with-works w (home g (node_of c)) x A (choose-works w.messages s c (outcome g s c) x e (A (home g (node_of c)))) in
      λ a h i. B a h i

  received-works : (w : World) (k : ℕ) (m : Message) (z : Received Reaction) → Member m w.messages → receive g (site_at w m.to) m ≡ z → Works w → Works (received_at w k m.to z).world
  received-works w k m Repeat i e A = A
  received-works w k m (Conflict a b) i e A = A
  received-works w k m NotMine i e A = A
  received-works w k m BadName i e A = A
  received-works w k m (New x) i e A =
      let B = with-works w m.to x A (receive-works w.messages (site_at w m.to) m x e i (A m.to)) in
      λ a h j. B a h j

  delivered-works : (w : World) (k : ℕ) (o : Option Message) → slice_get w.messages k ≡ o → Works w → Works (deliver_on g w k o).world
  delivered-works w k None e A = A
  delivered-works w k (Some m) e A = received-works w k m (receive g (site_at w m.to) m) (member_got w.messages k m e) refl A

  step-works : (w : World) (e : Move) → Works w → Works (step g w e).world
  step-works w (Chooses c) A = chosen-works w c (choose g (site_at w (home g (node_of c))) c) refl A
  step-works w (Delivers k) A = delivered-works w k (slice_get w.messages k) refl A

  run-works : (w : World) (es : List Move) → Works w → Works (run g w es)
  run-works w [] A = A
  run-works w (e ∷ es) A = run-works (step g w e).world es (step-works w e A)

  empty-works : (loads : Bool) (i n j r : ℕ) (h : Held) → Member h (get (empty_site false r) (map (empty_site loads) (upto i n)) j).held → Never
  empty-works loads i zero j r h m = m
  empty-works loads i (suc n) zero r h m = m
  empty-works loads i (suc n) (suc j) r h m = empty-works loads (suc i) n j r h m

  pub offices_work_by_call : OfficesWorkByCall g
  offices_work_by_call loads es may = run-works (empty_world g loads) es (λ a h i. never (empty-works loads 0 g.roles a a h i))
