-- A start that is taken at its home is taken in the joint configuration, and keeps the invariant.
use Rattle.std.specs.Prelude.{is_some, ◌⊎◌}
use Rattle.std.proofs.lemmas.List.{append-nil}
use Rattle.std.proofs.Common.{Bool, List, None, [], ap, inl, inr, refl, subst, sym, true, ℕ, ◌++◌, ◌<◌, ◌∙◌, ◌∷◌, ◌≡◌, ◌≤◌}
use Rattle.aw_list.specs.Members.{Member}
use Rattle.aw_list.proofs.Members.{member_got, never}
use Rattle.aw_term.specs.Choices.{Start}
use Rattle.aw_term.specs.Names.{Node, below, root}
use Rattle.aw_term.specs.Rules.{Grammar, sort_of}
use Rattle.aw_term.specs.Trees.{Never}
use Rattle.aw_term.specs.Held.{Held, held_of, insert_held}
use Rattle.aw_iograph.specs.Dependence.{HasNoCircle, IO}
use Rattle.aw_accept.specs.Acyclic.{IsGivenGrammar}
use Rattle.aw_accept.proofs.UndividedRuns.{root-below}
use Rattle.aw_apply.specs.Made.{Call}
use Rattle.aw_apply.specs.Messages.{Asks, Calls, Kind, Message, Tells}
use Rattle.aw_law_sites.specs.Joint.{Joint, called_held, root_held}
use Rattle.aw_law_sites.proofs.AnyOrders.{Member-insert_held, Member-inserted_held}
use Rattle.aw_law_sites.proofs.Entering.{VariablesEnter}
use Rattle.aw_law_sites.proofs.SameConfigs.{Fit}
use Rattle.aw_law_sites.specs.Homes.{home}
use Rattle.aw_law_sites.specs.Sites.{Site}
use Rattle.aw_law_worlds.proofs.Changes.{Change}
use Rattle.aw_law_worlds.proofs.Delivering.{held_of-none}
use Rattle.aw_law_worlds.proofs.HeldLookups.{not-there}
use Rattle.aw_law_worlds.proofs.HeldOrdering.{insert-ordered}
use Rattle.aw_law_worlds.proofs.Learning.{Keyed}
use Rattle.aw_law_worlds.proofs.Parts.{Inv, KindKin, Mark, Sound}

pub record IsHomed (g : Grammar) : Type 0 where
  pub few : g.roles ≤ 64
  pub within : (n : Node) → is_some (sort_of g n) ≡ true → home g n < g.roles

module _ (g : Grammar) (fit : IsGivenGrammar g) (enter : VariablesEnter g) (ok : HasNoCircle g (IO g)) (roles : IsHomed g) (loads : Bool)
    (S : ℕ → Site) (M : List Message) (D : ℕ → Type 0) (x : Joint) (I : Inv g loads S M D x) (F : Fit g fit enter ok x) (keyed : Keyed x.equations) where
  -- a node that a site has been called to has steps
  pub called_below : (m : Message) (q : Kind) (c : Call) → Member m M → m.kind ≡ q → KindKin q (Calls c []) → (h : Held) × Member h x.held
      × (h.node ≡ c.node) × ((p : Node) × (r : ℕ) × (k : ℕ) × (c.node ≡ below p r k))
  called_below m (Asks r b) c i e z = never z
  called_below m (Tells f l) c i e z = never z
  called_below m (Calls d l) c i e z =
      let s = subst (λ q. Sound g S x m.to q) e (I.sound m i) in
      let b : (p : Node) × (r : ℕ) × (k : ℕ) × (c.node ≡ below p r k) = (s.1.0, s.1.1, s.1.2, sym z ∙ s.1.3) in
      elim s.2 [
        | inl u ↦ (called_held d, u, z, b)
        | inr u ↦ (u.0, (I.held m.to u.0 u.1).0, u.2 ∙ z, b)
      ]

  module _ (a st k : ℕ) (at_home : home g (root st k) ≡ a) (starts : held_of (root st k) (S a).held ≡ None) where
    abbrev r0 : Held
    r0 = root_held st k

    abbrev s0 : Site
    s0 = record (S a) { held = insert_held r0 (S a).held; choices = (S a).choices ++ Start st k ∷ [] }

    abbrev y0 : Joint
    y0 = record x { held = insert_held r0 x.held }

    -- the root is nowhere
    pub no_root : (h : Held) → Member h x.held → h.node ≡ root st k → Never
    no_root h i e = elim (I.called h i) [
      | inl j ↦ held_of-none (root st k) (S a).held starts h (subst (λ b. Member h (S b).held) (ap (home g) e ∙ at_home) j) e
      | inr c ↦ (let (h', i', n', b) = called_below _ _ (record { node = h.node; sort = h.sort; inherited = h.inherited }) c.1 refl refl in root-below st k b.0 b.1 b.2 (sym e ∙ b.3))
    ]

    pub start_in : held_of (root st k) x.held ≡ None
    start_in = not-there x.held (root st k) no_root

    start_back : (q : Kind) (n : Message) → Member n M → n.kind ≡ q → Mark loads s0 q → Mark loads (S a) q ⊎ Never
    start_back (Calls c l) n i e (h, j, p) = elim (Member-insert_held h r0 (S a).held j) [
      | inl z ↦ (let (h', i', n', b) = called_below n (Calls c l) c i e refl in never (root-below st k b.0 b.1 b.2 (sym (ap (λ (h : Held). h.node) z) ∙ (p ∙ b.3))))
      | inr o ↦ inl (h, o, p)
    ]
    start_back (Asks r b) n i e m = inl m
    start_back (Tells q l) n i e m = inl m

    pub starting : is_some (sort_of g (root st k)) ≡ true → Change g loads S M x a s0 [] y0 (λ j. Never)
    starting named = record {
      role = I.roles a;
      within = subst (λ b. b < g.roles) at_home (roles.within (root st k) named);
      ordered = insert-ordered r0 (S a).held (λ p m e. held_of-none (root st k) (S a).held starts p m (sym e)) (I.ordered a);
      flag = I.flags a;
      parts = I.parts a;
      whole_kept = λ e n. n;
      find_kept = λ r b f. f;
      homes = λ r b e. inr e;
      held = λ h i. elim (Member-insert_held h r0 (S a).held i) [
        | inl z ↦ (Member-inserted_held h r0 x.held (inl z), ap (λ (h : Held). home g h.node) z ∙ at_home)
        | inr o ↦ (let (p, q) = I.held a h o in (Member-inserted_held h r0 x.held (inr p), q))
      ];
      held_other = λ h n i. Member-inserted_held h r0 x.held (inr i);
      held_kept = λ h i. (h, Member-inserted_held h r0 (S a).held (inr i), refl, refl, refl);
      stay = λ h i. inl (Member-inserted_held h r0 (S a).held (inr i));
      call_kept = λ c i. inl (Member-inserted_held (called_held c) r0 x.held (inr i));
      inherited_kept = λ h i. (h, Member-inserted_held h r0 x.held (inr i), refl);
      called = λ h i. elim (Member-insert_held h r0 x.held i) [
        | inl z ↦ inl (ap (λ (h : Held). home g h.node) z ∙ at_home, Member-inserted_held h r0 (S a).held (inl z))
        | inr o ↦ inr (inr (o, λ j. Member-inserted_held h r0 (S a).held (inr j)))
      ];
      settled = λ r n. I.settled a r (elim n [
        | inl e ↦ inl e
        | inr h ↦ elim (Member-insert_held h.0 r0 (S a).held h.1) [ inl z ↦ never (subst (λ (h : Held). Member r h.inherited) z h.2) | inr o ↦ inr (h.0, o, h.2) ]
      ]);
      asked_kept = λ r n. n;
      asked = λ r n. inl n;
      watched_kept = λ r to n. n;
      watched = λ r to n. inl n;
      tells = λ r to b n f. inl (I.tells a r to b n f);
      foreign = λ r b f. inr (inl f);
      away = λ m i. never i;
      sound = λ m i. never i;
      light = λ f m i. never i;
      senders = λ m i. never i;
      outbox = sym (append-nil (S a).outbox);
      from_here = λ m i. never i;
      no_mark = λ m i. never i;
      not_sent = λ m n i j. never j;
      apart = tt;
      now_before = λ k n. never n;
      now_effect = λ k m n. never n;
      back = λ j n f t i. start_back n.kind n (member_got M j n f) refl i;
    }
