-- The invariant that is proved gives the one in words.
use Rattle.std.specs.Prelude.{slice_get, ◌⊎◌}
use Rattle.std.proofs.Common.{ap, sym, Bool, None, Option, Some, false, inl, inr, refl, subst, true, ℕ, ◌∙◌, ◌∷◌, ◌≡◌}
use Rattle.aw_list.specs.Members.{Member}
use Rattle.aw_list.proofs.Members.{member_got, never}
use Rattle.aw_term.specs.Artifacts.{Words}
use Rattle.aw_term.specs.Rules.{Grammar}
use Rattle.aw_term.specs.Trees.{Never}
use Rattle.aw_term.specs.Held.{Held}
use Rattle.aw_iograph.specs.Dependence.{HasNoCircle, IO}
use Rattle.aw_accept.specs.Acyclic.{IsGivenGrammar}
use Rattle.aw_accept.proofs.Fitting.{each_member, given_of}
use Rattle.aw_store.specs.Equations.{Equation, find}
use Rattle.aw_apply.specs.Messages.{Asks, Calls, Kind, Message, Tells, carried}
use Rattle.aw_law_sites.specs.Joint.{Joint}
use Rattle.aw_law_sites.specs.Laws.{IsAccepted}
use Rattle.aw_law_sites.proofs.Entering.{VariablesEnter, variables_enter}
use Rattle.aw_law_sites.proofs.SameConfigs.{fit_of}
use Rattle.aw_law_sites.specs.Asking.{ask_message}
use Rattle.aw_law_sites.specs.Homes.{home}
use Rattle.aw_law_sites.specs.Sites.{Site}
use Rattle.aw_law_sites.specs.Worlds.{World, site_at}
use Rattle.aw_law_worlds.specs.Invariant.{IsInvariant, calls_at, IsSent, IsSentOnce, equation, sender, tell_message}
use Rattle.aw_law_worlds.proofs.Answering.{brought_told, one-place}
use Rattle.aw_law_worlds.proofs.Learning.{find-member}
use Rattle.aw_law_worlds.proofs.Parts.{Effect, Kin, KindKin, Sound}
use Rattle.aw_law_worlds.proofs.Runs.{IsWorld, to-within}
use Rattle.aw_law_worlds.proofs.Places.{member-get}

module _ (words : Words) (g : Grammar) (accepted : IsAccepted words g) (loads : Bool) where
  abbrev fit : IsGivenGrammar g
  fit = given_of words g accepted.0

  abbrev enter : VariablesEnter g
  enter = variables_enter words g accepted.0

  abbrev ok : HasNoCircle g (IO g)
  ok = accepted.1

  only : (w : World) (x : Joint) → IsWorld words g accepted loads w x → (m : Message) (k : ℕ) → IsSent w m k → IsSentOnce w m k
  only w x W m k e = (e, λ j f. one-place w.messages W.inv.apart j k m m f e (kin m) (kin m))
    where
      kind : (k : Kind) → KindKin k k
      kind (Calls c l) = refl
      kind (Asks r b) = (refl, refl)
      kind (Tells e l) = refl

      kin : (m : Message) → Kin m m
      kin m = (refl, kind m.kind)

  carried_held : (s : Site) (k : Kind) (e : Equation) → Effect s k → Member e (carried k) → find s.equations e.left ≡ Some e.body
  carried_held s (Calls c l) e f i = each_member (λ (e : Equation). find s.equations e.left ≡ Some e.body) l e f.1 i
  carried_held s (Asks r b) e f i = never i
  carried_held s (Tells d l) e f i = each_member (λ (e : Equation). find s.equations e.left ≡ Some e.body) (d ∷ l) e f i

  true_or_not : (o : Option Bool) → (o ≡ Some true) ⊎ (o ≡ Some true → Never)
  true_or_not None = inr (λ e. absurd cc)
  true_or_not (Some true) = inl refl
  true_or_not (Some false) = inr (λ e. absurd cc)

  carried_known : (w : World) (x : Joint) (to : ℕ) (k : Kind) → Sound g (site_at w) x to k → (e : Equation) → Member e (carried k) → Member e x.equations
  carried_known w x to (Calls c l) s e i = (each_member (λ (e : Equation). Member e x.equations × (home g e.left.node ≡ to → Never)) l e s.3 i).0
  carried_known w x to (Asks r b) s e i = never i
  carried_known w x to (Tells d l) s e i = (each_member (λ (e : Equation). Member e x.equations × (home g e.left.node ≡ to → Never)) (d ∷ l) e s.1 i).0

  pub in_words : (w : World) (x : Joint) → IsWorld words g accepted loads w x → IsInvariant g loads w x
  in_words w x W = record {
    taken = W.whole;
    sites = W.size;
    marks = W.marks;
    roles = W.inv.roles;
    valid = W.valid.0;
    keyed = W.keyed;
    known = λ a r b f. W.keyed (equation r b) (W.inv.parts a (equation r b) (find-member (site_at w a).equations r b f));
    homes = W.inv.homes;
    held = W.inv.held;
    called = λ h i. elim (W.inv.called h i) [
      | inl j ↦ inl j
      | inr c ↦ (let (k, e) = member-get w.messages _ c.1 in
          elim (true_or_not (slice_get w.delivered k)) [
            | inl d ↦ (let z = (W.inv.effect k _ e).0 d in
                let p = (fit_of g fit enter ok x W.fit_).apart z.0.0 h (W.inv.held (home g h.node) z.0.0 z.0.1).0 i z.0.2 in
                inl (subst (λ (u : Held). Member u (site_at w (home g h.node)).held) p z.0.1))
            | inr n ↦ inr (k, c.0, e, n)
          ])
    ];
    rooted = W.valid.1;
    asked = λ a r m. elim (W.inv.settled a r m) [ inl h ↦ inl (h ∙ W.inv.roles a) | inr z ↦ inr z ];
    asked_all = λ lf a r m. elim (W.inv.settled a r m) [
      | inl h ↦ inl (h ∙ W.inv.roles a)
      | inr z ↦ elim z [
        | inl i ↦ inr i
        | inr i ↦ elim (W.inv.foreign a r i.0 i.1) [
          | inl h ↦ inl h
          | inr q ↦ inr (W.inv.watched (home g r.node) r a (brought_told g loads (site_at w) w.messages _ x W.inv lf a r i.0 q)).1
        ]
      ]
    ];
    one_ask = λ a r m.
        let (k, e) = member-get w.messages (ask_message g a r) (W.inv.asked a r m).0 in
        let (p, q) = W.inv.effect k (ask_message g a r) e in
        (k, only w x W (ask_message g a r) k e, p, q);
    one_tell = λ a r to b m f.
        let (l, i) = W.inv.tells a r to b m f in
        let (k, e) = member-get w.messages _ i in
        (k, l, e, λ j d other p q. one-place w.messages W.inv.apart j k (tell_message to d other) (tell_message to (equation r b) l) q e (refl, p) (refl, sym p));
    told = λ k role e l q.
        let s = W.inv.sound (tell_message role e l) (member_got w.messages k (tell_message role e l) q) in
        (s.0, W.inv.homes e.left e.body (W.keyed e (carried_known w x role (Tells e l) s e (inl refl))));
    brought = λ a r b n. (
      (λ f. elim (W.inv.foreign a r b f) [ inl h ↦ never (n h) | inr z ↦ z ]),
      (λ z. let f = (W.inv.effect z.0 z.1 z.2).0 z.3 in
          subst (λ a. find (site_at w a).equations r ≡ Some b) z.4 (carried_held (site_at w z.1.to) z.1.kind (equation r b) f z.5)),
    );
    sender_has = λ k m e q i.
        let j = member_got w.messages k m e in
        let h = each_member (λ (e : Equation). home g e.left.node ≡ sender g m.kind) (carried m.kind) q (W.inv.senders m j) i in
        subst (λ b. find (site_at w b).equations q.left ≡ Some q.body) h (W.inv.homes q.left q.body (W.keyed q (carried_known w x m.to m.kind (W.inv.sound m j) q i)));
    boxes = W.inv.boxes;
    boxed = W.inv.boxed;
    addressed = λ m i. to-within words g accepted loads w x W m m.kind i refl;
    once = λ k m e. only w x W m k e;
    one_call = λ j k a b c d l other e f p.
        let s = W.inv.sound (calls_at a c l) (member_got w.messages j (calls_at a c l) e) in
        let t = W.inv.sound (calls_at b d other) (member_got w.messages k (calls_at b d other) f) in
        let q : a ≡ b = s.0 ∙ (ap (home g) p ∙ sym t.0) in
        one-place w.messages W.inv.apart j k (calls_at a c l) (calls_at b d other) e f (q, p) (sym q, sym p);
  }
