-- The invariant holds in every world.
use Rattle.std.specs.Prelude.{is_some, option_and_then, slice_get, slice_set, ◌⊎◌}
use Rattle.std.proofs.Common.{Bool, List, None, Option, Some, [], ap, arith, false, inl, inr, length, map, refl, subst, suc, sym, true, zero, ℕ, ◌++◌, ◌+◌, ◌<◌, ◌∙◌, ◌∷◌, ◌≡◌, ◌≤◌}
use Rattle.std.proofs.lemmas.Option.{same_Some, slice_get_within}
use Rattle.aw_list.specs.Members.{Member}
use Rattle.aw_list.proofs.Members.{member_got, member_unmap, never}
use Rattle.aw_list.proofs.Everyday.{length-slice_set as length-set, get-left}
use Rattle.aw_term.specs.Artifacts.{Words}
use Rattle.aw_term.specs.Choices.{Choice, Develop, Outcome, Refused, Start, Starts, Takes}
use Rattle.aw_term.specs.Names.{Ref, root}
use Rattle.aw_term.specs.Rules.{Grammar, get, sort_of, upto}
use Rattle.aw_term.specs.Trees.{Never}
use Rattle.aw_term.specs.WellFormed.{Each, Later}
use Rattle.aw_term.specs.Held.{Held, held_of}
use Rattle.aw_base.specs.ChoiceFits.{choice_ok, ref_ok, slot_ok}
use Rattle.aw_iograph.specs.Dependence.{HasNoCircle, IO}
use Rattle.aw_accept.specs.Acyclic.{IsGivenGrammar}
use Rattle.aw_accept.proofs.Fitting.{given_of}
use Rattle.aw_store.specs.Equations.{Equation, find}
use Rattle.aw_apply.specs.Messages.{Asks, Calls, Kind, Message, Tells}
use Rattle.aw_law_sites.specs.Joint.{Joint, by_root, called_held, empty_joint, joint_outcome, joint_run, joint_taken}
use Rattle.aw_law_sites.specs.Laws.{IsAccepted}
use Rattle.aw_law_sites.proofs.Entering.{VariablesEnter, variables_enter}
use Rattle.aw_law_sites.proofs.SameConfigs.{Fit, fit_empty, fit_of, keep}
use Rattle.aw_law_sites.specs.Choosing.{choose_on, outcome}
use Rattle.aw_law_sites.specs.Homes.{home}
use Rattle.aw_law_sites.specs.Reacting.{react, receive}
use Rattle.aw_law_sites.specs.Sites.{Reaction, Site, empty_site}
use Rattle.aw_law_sites.specs.Worlds.{Chooses, Delivers, Move, Stepped, World, chosen_at, deliver, deliver_on, empty_world, mark_delivered, node_of, received_at, run, site_at, step, with_site}
use Rattle.aw_law_worlds.specs.Invariant.{IsValid}
use Rattle.aw_law_worlds.specs.Laws.{MayCome, StaysIn}
use Rattle.aw_law_worlds.specs.Mentioned.{IsMentioned, IsRooted}
use Rattle.aw_law_worlds.proofs.Changes.{Change, Grows, get-append, grown, kept}
use Rattle.aw_law_worlds.proofs.Delivering.{mention-ok, received}
use Rattle.aw_law_worlds.proofs.Learning.{Keyed}
use Rattle.aw_law_worlds.proofs.Naming.{valid_kept}
use Rattle.aw_law_worlds.proofs.Parts.{Effect, HeldBefore, Inv, Sound}
use Rattle.aw_law_worlds.proofs.Rooted.{rooted_kept}
use Rattle.aw_law_worlds.proofs.Sorts.{choice_node, home_within}
use Rattle.aw_law_worlds.proofs.Starting.{IsHomed, start_in, starting}
use Rattle.aw_law_worlds.proofs.Taking.{developing, in_outcome, keyed_next}
use Rattle.aw_law_worlds.proofs.Places.{get-set, get-set_other, set-from, set-here, set-kept}

pub length-both : {A B : Type 0} (xs : List A) (ys : List B) (f : A → B) (zs : List A) → length ys ≡ length xs → length (ys ++ map f zs) ≡ length (xs ++ zs)
length-both [] [] f [] e = refl
length-both [] [] f (z ∷ zs) e = ap suc (length-both [] [] f zs e)
length-both [] (y ∷ ys) f zs e = absurd (omega arith)
length-both (x ∷ xs) [] f zs e = absurd (omega arith)
length-both (x ∷ xs) (y ∷ ys) f zs e = ap suc (length-both xs ys f zs (omega arith))

pub length-more : {A : Type 0} (xs ys : List A) → length xs ≤ length (xs ++ ys)
length-more [] ys = omega arith
length-more (x ∷ xs) ys = let i = length-more xs ys in omega (arith, i)

-- a repeat only notes that it was delivered
module _ (g : Grammar) (loads : Bool) (S : ℕ → Site) (M : List Message) (D D' : ℕ → Type 0) (x : Joint) (I : Inv g loads S M D x)
    (k : ℕ) (m : Message) (at : slice_get M k ≡ Some m) (has : Effect (S m.to) m.kind)
    (from_new : (j : ℕ) → D' j → D j ⊎ (j ≡ k)) (to_new : (j : ℕ) → D j ⊎ (j ≡ k) → D' j) where
  noted : Inv g loads S M D' x
  noted = record {
    roles = I.roles;
    ordered = I.ordered;
    flags = I.flags;
    parts = I.parts;
    homes = I.homes;
    held = I.held;
    called = I.called;
    settled = I.settled;
    asked = I.asked;
    range = I.range;
    watched = I.watched;
    tells = I.tells;
    foreign = λ a r b f. elim (I.foreign a r b f) [ inl h ↦ inl h | inr z ↦ inr (z.0, z.1, z.2, to_new z.0 (inl z.3), z.4, z.5) ];
    sound = I.sound;
    effect = λ j n e. (
      (λ d. elim (from_new j d) [
        | inl o ↦ (I.effect j n e).0 o
        | inr p ↦ (let q : m ≡ n = same_Some _ _ (sym at ∙ (ap (slice_get M) (sym p) ∙ e)) in subst (λ (m : Message). Effect (S m.to) m.kind) q has)
      ]),
      (λ f. to_new j (inl ((I.effect j n e).1 f))),
    );
    light = I.light;
    senders = I.senders;
    boxes = I.boxes;
    boxed = I.boxed;
    before = λ j d. elim (from_new j d) [ inl o ↦ I.before j o | inr p ↦ subst (λ j. j < length M) (sym p) (slice_get_within M k m at) ];
    apart = I.apart;
  }

module _ (words : Words) (g : Grammar) (accepted : IsAccepted words g) (loads : Bool) where
  abbrev fit : IsGivenGrammar g
  fit = given_of words g accepted.0

  abbrev enter : VariablesEnter g
  enter = variables_enter words g accepted.0

  abbrev ok : HasNoCircle g (IO g)
  ok = accepted.1

  abbrev pub homes : IsHomed g
  homes = record { few = (let a = accepted.0.roles in let b = accepted.0.few_roles in omega (arith, a, b)); within = home_within words g accepted.0 }

  pub record IsWorld (w : World) (x : Joint) : Type 0 where
    pub inv : Inv g loads (site_at w) w.messages (λ k. slice_get w.delivered k ≡ Some true) x
    pub whole : joint_run g empty_joint w.taken ≡ Some x
    pub fit_ : Fit g fit enter ok x
    pub keyed : Keyed x.equations
    pub valid : IsValid g x × IsRooted g x
    pub size : length w.sites ≡ g.roles
    pub marks : length w.delivered ≡ length w.messages

  site-set : (w : World) (a : ℕ) (r : Reaction) → length w.sites ≡ g.roles → a < g.roles → site_at (with_site w a r) a ≡ r.site
  site-set w a r e l = get-set (empty_site false a) w.sites a r.site (omega (arith, e, l))

  site-other : (w : World) (a : ℕ) (r : Reaction) (b : ℕ) → (a ≡ b → Never) → site_at (with_site w a r) b ≡ site_at w b
  site-other w a r b n = get-set_other (empty_site false b) w.sites a b r.site n

  no-true : (ms : List Message) → Member true (map (λ m. false) ms) → Never
  no-true ms i = let (m, j, p) = member_unmap (λ (m : Message). false) true ms i in absurd cc

  more-from : (ds : List Bool) (ms : List Message) (k : ℕ) → slice_get (ds ++ map (λ m. false) ms) k ≡ Some true → slice_get ds k ≡ Some true
  more-from ds ms k e = elim (get-append ds (map (λ m. false) ms) k true e) [ inl o ↦ o | inr n ↦ never (no-true ms n.0) ]

  whole-more : (v : Joint) (cs : List Choice) (x y : Joint) (c : Choice) → joint_run g v cs ≡ Some x → joint_taken x c (joint_outcome x g c) ≡ Some y → joint_run g v (cs ++ c ∷ []) ≡ Some y
  whole-more v [] x y c e t = let p : v ≡ x = same_Some _ _ e in ap (option_and_then (λ z. joint_run g z [])) (ap (λ v. joint_taken v c (joint_outcome v g c)) p ∙ t)
  whole-more v (d ∷ cs) x y c e t = go (joint_taken v d (joint_outcome v g d)) e (λ z f. whole-more z cs x y c f t)
    where
      go : (o : Option Joint) → option_and_then (λ z. joint_run g z cs) o ≡ Some x →
          ((z : Joint) → joint_run g z cs ≡ Some x → joint_run g z (cs ++ c ∷ []) ≡ Some y) → option_and_then (λ z. joint_run g z (cs ++ c ∷ [])) o ≡ Some y
      go None e f = absurd cc
      go (Some z) e f = f z e

  -- a choice that is taken
  took : (w : World) (x y : Joint) (W : IsWorld w x) (c : Choice) (a : ℕ) (r : Reaction) → choice_ok g c ≡ true → a < g.roles → joint_taken x c (joint_outcome x g c) ≡ Some y → Keyed y.equations
      → Change g loads (site_at w) w.messages x a r.site r.sent y (λ j. Never) → IsWorld (record (with_site w a r) { taken = w.taken ++ c ∷ [] }) y × Grows (site_at w) (site_at (with_site w a r))
  took w x y W c a r okc l t ky C = (
    record {
      inv = kept g loads (site_at w) (site_at (with_site w a r)) a (site-other w a r) w.messages r.sent
          (λ k. slice_get w.delivered k ≡ Some true) (λ k. slice_get (w.delivered ++ map (λ m. false) r.sent) k ≡ Some true) (λ j. Never) x y
          (λ k d. inl (more-from w.delivered r.sent k d)) (λ k d. elim d [ inl o ↦ get-left w.delivered (map (λ m. false) r.sent) k true o | inr n ↦ never n ])
          W.inv (subst (λ s. Change g loads (site_at w) w.messages x a s r.sent y (λ j. Never)) (sym (site-set w a r W.size l)) C);
      whole = whole-more (empty_joint) w.taken x y c W.whole t;
      fit_ = keep g fit enter ok x y c W.fit_ t;
      keyed = ky;
      valid = (valid_kept words g accepted x W.fit_ W.valid.0 y c okc t, rooted_kept g fit enter ok x y c W.fit_ W.valid.1 t);
      size = length-set w.sites a r.site ∙ W.size;
      marks = length-both w.messages w.delivered (λ m. false) r.sent W.marks;
    },
    grown g loads (site_at w) (site_at (with_site w a r)) a (site-other w a r) w.messages r.sent
        (λ k. slice_get w.delivered k ≡ Some true) (λ k. slice_get (w.delivered ++ map (λ m. false) r.sent) k ≡ Some true) (λ j. Never) x y
        (λ k d. inl (more-from w.delivered r.sent k d)) (λ k d. elim d [ inl o ↦ get-left w.delivered (map (λ m. false) r.sent) k true o | inr n ↦ never n ])
        W.inv (subst (λ s. Change g loads (site_at w) w.messages x a s r.sent y (λ j. Never)) (sym (site-set w a r W.size l)) C),
  )

  abbrev Goes : World → Stepped → Type 0
  Goes w z = (y : Joint) × IsWorld z.world y × Grows (site_at w) (site_at z.world)

  same_grows : (w : World) → Grows (site_at w) (site_at w)
  same_grows w = record { equations = λ a r b f. f; held = λ a h m. inl m }

  choose-on : (w : World) (x : Joint) → IsWorld w x → (c : Choice) → choice_ok g c ≡ true → (o : Outcome Ref Ref) →
      outcome g (site_at w (home g (node_of c))) c ≡ o → Goes w (chosen_at w (home g (node_of c)) c (choose_on g (site_at w (home g (node_of c))) c o))
  choose-on w x W c okc (Refused z) e = (x, W, same_grows w)
  choose-on w x W (Develop n ri args) okc Starts e = (x, W, same_grows w)
  choose-on w x W (Start st k) okc (Takes rule bound) e = (x, W, same_grows w)
  choose-on w x W (Start st k) okc Starts e =
      let none = starts_none (held_of (root st k) (site_at w (home g (root st k))).held) e in
      let p = start_in g fit enter ok homes loads (site_at w) w.messages _ x W.inv W.fit_ W.keyed (home g (root st k)) st k refl none in
      let z = took w x _ W (Start st k) (home g (root st k)) _ okc (homes.within (root st k) (choice_node g (Start st k) okc)) (ap (λ o. joint_taken x (Start st k) (by_root o)) p) W.keyed
      (starting g fit enter ok homes loads (site_at w) w.messages _ x W.inv W.fit_ W.keyed (home g (root st k)) st k refl none (choice_node g (Start st k) okc)) in
      (_, z.0, z.1)
    where
      starts_none : (o : Option Held) → by_root o ≡ Starts → o ≡ None
      starts_none None e = refl
      starts_none (Some h) e = absurd cc
  choose-on w x W (Develop n ri args) okc (Takes rule bound) e =
      let p = in_outcome g fit enter ok homes loads (site_at w) w.messages _ x W.inv W.fit_ W.keyed (home g n) n ri args rule bound refl e in
      let z = took w x _ W (Develop n ri args) (home g n) _ okc (homes.within n (choice_node g (Develop n ri args) okc)) (ap (joint_taken x (Develop n ri args)) p)
      (keyed_next g fit enter ok homes loads (site_at w) w.messages _ x W.inv W.fit_ W.keyed (home g n) n ri args rule bound refl e)
      (developing g fit enter ok homes loads (site_at w) w.messages _ x W.inv W.fit_ W.keyed (home g n) n ri args rule bound refl e (choice_node g (Develop n ri args) okc)) in
      (_, z.0, z.1)

  -- nodes and mentioned references are valid
  valid-node : (w : World) (x : Joint) → IsWorld w x → (h : Held) → Member h x.held → is_some (sort_of g h.node) ≡ true
  valid-node w x W h i = ap is_some (W.valid.0.sorts h i)

  valid-ref : (r : Ref) → ref_ok g r ≡ true → is_some (sort_of g r.node) ≡ true
  valid-ref r e = go (sort_of g r.node) e
    where
      go : (o : Option ℕ) → slot_ok g o r.slot ≡ true → is_some o ≡ true
      go None z = absurd cc
      go (Some s) z = refl

  -- a message goes to a role
  pub to-within : (w : World) (x : Joint) → IsWorld w x → (m : Message) (q : Kind) → Member m w.messages → m.kind ≡ q → m.to < g.roles
  to-within w x W m (Calls c l) i e =
      let s = subst (λ q. Sound g (site_at w) x m.to q) e (W.inv.sound m i) in
      let v : is_some (sort_of g c.node) ≡ true = elim s.2 [
        | inl u ↦ valid-node w x W (called_held c) u
        | inr u ↦ subst (λ n. is_some (sort_of g n) ≡ true) u.2 (valid-node w x W u.0 (W.inv.held m.to u.0 u.1).0)
      ] in
      subst (λ b. b < g.roles) (sym s.0) (homes.within c.node v)
  to-within w x W m (Asks r b) i e =
      let s = subst (λ q. Sound g (site_at w) x m.to q) e (W.inv.sound m i) in
      subst (λ b. b < g.roles) (sym s.0) (homes.within r.node (valid-ref r (mention-ok g x W.valid.0 r (W.inv.asked b r s.2).1)))
  to-within w x W m (Tells d l) i e =
      let s = subst (λ q. Sound g (site_at w) x m.to q) e (W.inv.sound m i) in
      W.inv.range m.to d.left (W.inv.watched (home g d.left.node) d.left m.to s.0).1

  deliver-on : (w : World) (x : Joint) → IsWorld w x → (k : ℕ) (m : Message) → slice_get w.messages k ≡ Some m →
      IsWorld (received_at w k m.to (receive g (site_at w m.to) m)).world x
      × Grows (site_at w) (site_at (received_at w k m.to (receive g (site_at w m.to) m)).world)
  deliver-on w x W k m at =
      let l = to-within w x W m m.kind (member_got w.messages k m at) refl in
      let b : k < length w.delivered = (let z = slice_get_within w.messages k m at in omega (arith, z, W.marks)) in
      elim (received g loads (site_at w) w.messages _ x W.inv W.keyed (fit_of g fit enter ok x W.fit_).apart W.valid.0 m.to k m at refl l) [
        | inl n ↦ subst (λ r. IsWorld (received_at w k m.to r).world x × Grows (site_at w) (site_at (received_at w k m.to r).world)) (sym n.0) (new_one l b n.1)
        | inr n ↦ subst (λ r. IsWorld (received_at w k m.to r).world x × Grows (site_at w) (site_at (received_at w k m.to r).world)) (sym n.0) (
          record {
            inv = noted g loads (site_at w) w.messages (λ k. slice_get w.delivered k ≡ Some true) (λ j. slice_get (slice_set w.delivered k true) j ≡ Some true) x W.inv k m at n.1
                (λ j d. set-from w.delivered k j d)
                (λ j d. elim d [
                  | inl o ↦ set-kept w.delivered k j o
                  | inr p ↦ subst (λ j. slice_get (slice_set w.delivered k true) j ≡ Some true)
                      (sym p) (set-here w.delivered k b)
                ]);
            whole = W.whole;
            fit_ = W.fit_;
            keyed = W.keyed;
            valid = W.valid;
            size = W.size;
            marks = length-set w.delivered k true ∙ W.marks;
          },
          same_grows w,
        )
      ]
    where
      new_one : m.to < g.roles → k < length w.delivered → Change g loads (site_at w) w.messages x m.to (react g (site_at w m.to) m.kind).site (react g (site_at w m.to) m.kind).sent x (λ j. j ≡ k)
          → IsWorld (mark_delivered k (with_site w m.to (react g (site_at w m.to) m.kind))) x × Grows (site_at w) (site_at (with_site w m.to (react g (site_at w m.to) m.kind)))
      new_one l b C =
          let r = react g (site_at w m.to) m.kind in (
            record {
              inv = kept g loads (site_at w) (site_at (with_site w m.to (react g (site_at w m.to) m.kind))) m.to
                  (site-other w m.to (react g (site_at w m.to) m.kind)) w.messages (react g (site_at w m.to) m.kind).sent
                  (λ k. slice_get w.delivered k ≡ Some true) (λ j. slice_get (slice_set (w.delivered ++ map (λ m. false) (react g (site_at w m.to) m.kind).sent) k true) j ≡ Some true) (λ j. j ≡ k) x x
                  (λ j d. elim (set-from (w.delivered ++ map (λ m. false) (react g (site_at w m.to) m.kind).sent) k j d)
                  [ inl o ↦ inl (more-from w.delivered (react g (site_at w m.to) m.kind).sent j o) | inr p ↦ inr p ])
                  (λ j d. elim d [
                    | inl o ↦ set-kept (w.delivered ++ map (λ m. false) (react g (site_at w m.to) m.kind).sent) k j
                        (get-left w.delivered (map (λ m. false) (react g (site_at w m.to) m.kind).sent) j true o)
                    | inr p ↦ subst (λ j. slice_get (slice_set (w.delivered ++ map (λ m. false) (react g (site_at w m.to) m.kind).sent) k true) j ≡ Some true) (sym p)
                        (set-here (w.delivered ++ map (λ m. false) (react g (site_at w m.to) m.kind).sent) k
                        (let z = length-more w.delivered (map (λ m. false) (react g (site_at w m.to) m.kind).sent) in omega (arith, z, b)))
                  ])
                  W.inv (subst (λ s. Change g loads (site_at w) w.messages x m.to s (react g (site_at w m.to) m.kind).sent x (λ j. j ≡ k))
                  (sym (site-set w m.to (react g (site_at w m.to) m.kind) W.size l)) C);
              whole = W.whole;
              fit_ = W.fit_;
              keyed = W.keyed;
              valid = W.valid;
              size = length-set w.sites m.to (react g (site_at w m.to) m.kind).site ∙ W.size;
              marks = length-set (w.delivered ++ map (λ m. false) (react g (site_at w m.to) m.kind).sent) k true ∙ length-both w.messages w.delivered
                  (λ m. false) (react g (site_at w m.to) m.kind).sent W.marks;
            },
            grown g loads (site_at w) (site_at (with_site w m.to (react g (site_at w m.to) m.kind))) m.to
                (site-other w m.to (react g (site_at w m.to) m.kind)) w.messages (react g (site_at w m.to) m.kind).sent
                (λ k. slice_get w.delivered k ≡ Some true) (λ j. slice_get (slice_set (w.delivered ++ map (λ m. false) (react g (site_at w m.to) m.kind).sent) k true) j ≡ Some true) (λ j. j ≡ k) x x
                (λ j d. elim (set-from (w.delivered ++ map (λ m. false) (react g (site_at w m.to) m.kind).sent) k j d)
                [ inl o ↦ inl (more-from w.delivered (react g (site_at w m.to) m.kind).sent j o) | inr p ↦ inr p ])
                (λ j d. elim d [
                  | inl o ↦ set-kept (w.delivered ++ map (λ m. false) (react g (site_at w m.to) m.kind).sent) k j
                      (get-left w.delivered (map (λ m. false) (react g (site_at w m.to) m.kind).sent) j true o)
                  | inr p ↦ subst (λ j. slice_get (slice_set (w.delivered ++ map (λ m. false) (react g (site_at w m.to) m.kind).sent) k true) j ≡ Some true) (sym p)
                      (set-here (w.delivered ++ map (λ m. false) (react g (site_at w m.to) m.kind).sent) k
                      (let z = length-more w.delivered (map (λ m. false) (react g (site_at w m.to) m.kind).sent) in omega (arith, z, b)))
                ])
                W.inv (subst (λ s. Change g loads (site_at w) w.messages x m.to s (react g (site_at w m.to) m.kind).sent x (λ j. j ≡ k))
                (sym (site-set w m.to (react g (site_at w m.to) m.kind) W.size l)) C),
          )

  deliver-both : (w : World) (x : Joint) → IsWorld w x → (k : ℕ) → IsWorld (deliver g w k).world x × Grows (site_at w) (site_at (deliver g w k).world)
  deliver-both w x W k = go (slice_get w.messages k) refl
    where
      go : (o : Option Message) → slice_get w.messages k ≡ o → IsWorld (deliver_on g w k o).world x × Grows (site_at w) (site_at (deliver_on g w k o).world)
      go None e = (W, same_grows w)
      go (Some m) e = deliver-on w x W k m e

  pub deliver-kept : (w : World) (x : Joint) → IsWorld w x → (k : ℕ) → IsWorld (deliver g w k).world x
  deliver-kept w x W k = (deliver-both w x W k).0

  pub step-both : (w : World) (x : Joint) → IsWorld w x → (e : Move) → MayCome g e → (y : Joint) × IsWorld (step g w e).world y × Grows (site_at w) (site_at (step g w e).world)
  step-both w x W (Chooses c) k = choose-on w x W c k (outcome g (site_at w (home g (node_of c))) c) refl
  step-both w x W (Delivers k) u = let z = deliver-both w x W k in (x, z.0, z.1)

  pub step-kept : (w : World) (x : Joint) → IsWorld w x → (e : Move) → MayCome g e → (y : Joint) × IsWorld (step g w e).world y
  step-kept w x W e k = let z = step-both w x W e k in (z.0, z.1)

  -- a node stays as it is, or is developed
  pub node-stays : (w : World) (x : Joint) → IsWorld w x → (e : Move) → MayCome g e → (a : ℕ) (h : Held) → Member h (site_at w a).held
      → StaysIn h (site_at (step g w e).world a).held
  node-stays w x W e k = (step-both w x W e k).2.held

  -- the empty_world world
  empty-get : (i n j : ℕ) (d : Site) → (get d (map (empty_site loads) (upto i n)) j ≡ empty_site loads (i + j)) ⊎ (get d (map (empty_site loads) (upto i n)) j ≡ d)
  empty-get i zero j d = inr refl
  empty-get i (suc n) zero d = let z : i ≡ i + 0 = omega arith in inl (ap (empty_site loads) z)
  empty-get i (suc n) (suc j) d = let z : suc i + j ≡ i + suc j = omega arith in elim (empty-get (suc i) n j d) [ inl a ↦ inl (a ∙ ap (empty_site loads) z) | inr a ↦ inr a ]

  empty-site : (a : ℕ) → (b : Bool) × (site_at (empty_world g loads) a ≡ empty_site b a) × (loads ≡ false → b ≡ false)
  empty-site a = elim (empty-get 0 g.roles a (empty_site false a)) [
    | inl p ↦ (let z : 0 + a ≡ a = omega arith in (loads, p ∙ ap (empty_site loads) z, λ e. e))
    | inr p ↦ (false, p, λ e. refl)
  ]

  by_empty : (P : ℕ → Site → Type 0) → ((a : ℕ) (b : Bool) → (loads ≡ false → b ≡ false) → P a (empty_site b a)) → (a : ℕ) → P a (site_at (empty_world g loads) a)
  by_empty P f a = let (b, p, q) = empty-site a in subst (P a) (sym p) (f a b q)

  empty-length : (i n : ℕ) → length (map (empty_site loads) (upto i n)) ≡ n
  empty-length i zero = refl
  empty-length i (suc n) = ap suc (empty-length (suc i) n)

  pub empty-world : IsWorld (empty_world g loads) (empty_joint)
  empty-world = record {
    inv = record {
      roles = by_empty (λ a s. s.role ≡ a) (λ a b q. refl);
      ordered = by_empty (λ a s. Later HeldBefore s.held) (λ a b q. tt);
      flags = by_empty (λ a s. loads ≡ false → s.loads ≡ false) (λ a b q. q);
      parts = by_empty (λ a s. (e : Equation) → Member e s.equations → Never) (λ a b q e m. m);
      homes = λ r b e. absurd cc;
      held = λ a h m. never (by_empty (λ a s. (h : Held) → Member h s.held → Never) (λ a b q h m. m) a h m);
      called = λ h m. never m;
      settled = λ a r m. never (by_empty (λ a s. (r : Ref) → IsMentioned r s.equations s.held → Never) (λ a b q r m. elim m [ inl z ↦ z.1 | inr z ↦ z.1 ]) a r m);
      asked = λ a r m. never (by_empty (λ a s. (r : Ref) → (s.asked r ≡ true) → Never) (λ a b q r m. absurd cc) a r m);
      range = λ a r m. never (by_empty (λ a s. (r : Ref) → (s.asked r ≡ true) → Never) (λ a b q r m. absurd cc) a r m);
      watched = λ a r to m. never (by_empty (λ a s. (r : Ref) (to : ℕ) → (s.watches r to ≡ true) → Never) (λ a b q r to m. absurd cc) a r to m);
      tells = λ a r to b m f. never (by_empty (λ a s. (r : Ref) (to : ℕ) → (s.watches r to ≡ true) → Never) (λ a b q r to m. absurd cc) a r to m);
      foreign = λ a r b f. never (by_empty (λ a s. find s.equations r ≡ Some b → Never) (λ a c q f. absurd cc) a f);
      sound = λ m i. never i;
      effect = λ k m e. absurd cc;
      light = λ f m i. never i;
      senders = λ m i. never i;
      boxes = λ a m i. never (by_empty (λ a s. (m : Message) → Member m s.outbox → Never) (λ a b q m i. i) a m i);
      boxed = λ m i. never i;
      before = λ k d. absurd cc;
      apart = tt;
    };
    whole = refl;
    fit_ = fit_empty g fit enter ok;
    keyed = λ e m. never m;
    valid = (record { held = λ h m. never m; sorts = λ h m. never m; equations = λ e m. never m }, λ r m. elim m [ inl z ↦ never z.1 | inr z ↦ never z.1 ]);
    size = empty-length 0 g.roles;
    marks = refl;
  }

  abbrev pub AllOk : List Move → Type 0
  AllOk es = Each (MayCome g) es

  pub run-kept : (w : World) (x : Joint) → IsWorld w x → (es : List Move) → AllOk es → (y : Joint) × IsWorld (run g w es) y
  run-kept w x W [] a = (x, W)
  run-kept w x W (e ∷ es) a = let (y, V) = step-kept w x W e a.0 in run-kept (step g w e).world y V es a.1

  -- the invariant holds, for every list of events
  pub invariant_holds : (es : List Move) → AllOk es → (x : Joint) × IsWorld (run g (empty_world g loads) es) x
  invariant_holds es a = run-kept (empty_world g loads) (empty_joint) empty-world es a
