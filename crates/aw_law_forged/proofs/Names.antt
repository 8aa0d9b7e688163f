-- Each name that a site holds or sends is valid, whatever it was told.
use Rattle.std.specs.Prelude.{◌&&◌, filter, is_some, nat_eq, nat_lt, not, slice_get}
use Rattle.std.specs.Option.{unwrap_or}
use Rattle.std.proofs.Common.{◌≡◌, ℕ, ◌+◌, ◌<◌, Bool, true, List, [], ◌∷◌, ◌++◌, map, Option, Some, None, refl, sym, ap, ◌∙◌, subst, inl, inr}
use Rattle.std.proofs.lemmas.Bool.{and_from, and_parts, eq-eqb, eqb-true, lt-ltb, ltb-true, not-true, or_cases}
use Rattle.aw_list.specs.Members.{Member}
use Rattle.aw_list.proofs.Members.{member_right, member_split, member_unmap, never}
use Rattle.aw_term.specs.Artifacts.{Words}
use Rattle.aw_term.specs.Choices.{Develop, Takes}
use Rattle.aw_term.specs.Configs.{Done}
use Rattle.aw_term.specs.Held.{Held, held_of, insert_all, mark}
use Rattle.aw_term.specs.Names.{Node, Ref, Slot, ref_eq}
use Rattle.aw_term.specs.Rules.{Grammar, Ground, Rule, sort_of}
use Rattle.aw_term.specs.Trees.{Never}
use Rattle.aw_term.specs.WellFormed.{Each, IsWellFormed}
use Rattle.aw_term.proofs.RefTests.{ref_eq-true}
use Rattle.aw_base.specs.ChoiceFits.{choice_ok, ref_ok, slot_ok}
use Rattle.aw_base.specs.NodeNames.{is_start}
use Rattle.aw_store.specs.Equations.{Body, Equation, find, mentions}
use Rattle.aw_apply.specs.Made.{Call, Making, made}
use Rattle.aw_apply.specs.Messages.{Kind, Calls, Asks, Tells, Message, carried}
use Rattle.aw_law_sites.specs.Asking.{all_inherited, all_mentions, ask_message, asking, is_wanted}
use Rattle.aw_law_sites.specs.Choosing.{develop_site, joint_of, outcome, start_site}
use Rattle.aw_law_sites.specs.Homes.{has_steps, home, parent}
use Rattle.aw_law_sites.specs.InOrder.{in_order}
use Rattle.aw_law_sites.specs.Joint.{Joint, called_held, root_held}
use Rattle.aw_law_sites.specs.Loads.{load_of}
use Rattle.aw_law_sites.specs.Reacting.{add_held, react}
use Rattle.aw_law_sites.specs.Receiving.{about_ok, add_all}
use Rattle.aw_law_sites.specs.SiteEvents.{SiteEvent, Chose, Got, site_step, site_run}
use Rattle.aw_law_sites.specs.Sites.{Site, empty_site}
use Rattle.aw_law_sites.specs.Telling.{calls_in, calls_out, tell_back, tells}
use Rattle.aw_law_sites.specs.ValidNames.{call_ok, equation_ok, equations_ok, names_ok, origin_ok, refs_ok, takes_as}
use Rattle.aw_law_sites.specs.Worlds.{node_of}
use Rattle.aw_law_sites.proofs.AnyOrders.{Member-all_held, Member-insert_all, Member-insert_held, marked}
use Rattle.aw_law_worlds.specs.Invariant.{IsValid, as_call}
use Rattle.aw_law_worlds.proofs.Answering.{load-own}
use Rattle.aw_law_worlds.proofs.Delivering.{has-end, mention-ok, each-ok as ok-all}
use Rattle.aw_law_worlds.proofs.HeldLookups.{of-inherited}
use Rattle.aw_law_worlds.proofs.Learning.{add-member, find-member, of-mentions}
use Rattle.aw_law_worlds.proofs.Lists.{Member-filtered, Member-of_order}
use Rattle.aw_law_worlds.proofs.SentLemmas.{call_case, in_case, out_case, tell_case}
use Rattle.aw_law_worlds.proofs.Sorts.{home_within, sort_of_root}
use Rattle.aw_law_forged.specs.Told.{HasItsSort, MayHappen}
use Rattle.aw_law_forged.proofs.Bringing.{kid-parent}
use Rattle.aw_law_forged.proofs.MadeNames.{equation-is, kid-is, start-takes, valid-call}
use Rattle.aw_law_forged.proofs.Steps.{chosen-case, received-case}

-- ---- tests over lists

ok-each : (g : Grammar) (es : List Equation) → equations_ok g es ≡ true → (e : Equation) → Member e es → equation_ok g e ≡ true
ok-each g [] f e m = never m
ok-each g (d ∷ es) f e (inl p) = subst (λ e. equation_ok g e ≡ true) (sym p) (and_parts (equation_ok g d) (equations_ok g es) f).0
ok-each g (d ∷ es) f e (inr m) = ok-each g es (and_parts (equation_ok g d) (equations_ok g es) f).1 e m

slot-some : (g : Grammar) (o : Option ℕ) (s : Slot) → slot_ok g o s ≡ true → is_some o ≡ true
slot-some g None s e = absurd cc
slot-some g (Some k) s e = refl

-- ---- what a site sends

-- what a message is about, and that it is of this role
abbrev pub About : Grammar → ℕ → ℕ → Kind → Type 0
About g role to (Calls c load) = (to ≡ home g c.node) × (has_steps c.node.steps ≡ true) × (home g (parent c.node) ≡ role)
About g role to (Asks r from) = (to ≡ home g r.node) × (from ≡ role)
About g role to (Tells e load) = Unit {0}

-- a message of this role with valid names, for another role that is declared, which carries equations of this role alone
pub record Fits (g : Grammar) (role : ℕ) (m : Message) : Type 0 where
  pub within : m.to < g.roles
  pub away : m.to ≡ role → Never
  pub names : names_ok g m.kind ≡ true
  pub own : (e : Equation) → Member e (carried m.kind) → home g e.left.node ≡ role
  pub about : About g role m.to m.kind

pub record Named (g : Grammar) (role : ℕ) (s : Site) : Type 0 where
  pub is : s.role ≡ role
  pub valid : IsValid g (joint_of s)
  pub watched : (r : Ref) (to : ℕ) → s.watches r to ≡ true → (home g r.node ≡ role) × (to ≡ role → Never) × (to < g.roles)
  pub sent : (m : Message) → Member m s.outbox → Fits g role m

module _ (w : Words) (g : Grammar) (formed : IsWellFormed w g) (role : ℕ) (declared : role < g.roles) where
  abbrev AllFit : List Message → Type 0
  AllFit xs = (m : Message) → Member m xs → Fits g role m

  both : (xs ys : List Message) → AllFit xs → AllFit ys → AllFit (xs ++ ys)
  both xs ys a b m i = elim (member_split m xs ys i) [ inl j ↦ a m j | inr j ↦ b m j ]

  -- a load
  load-ok : (t : Site) → IsValid g (joint_of t) → (seen rs : List Ref) → equations_ok g (load_of g t seen rs) ≡ true
  load-ok t V seen rs = ok-all g (load_of g t seen rs) (λ e m. V.equations e (find-member t.equations e.left e.body (load-own g t seen rs e m).0))

  -- an equation that is told with its load
  tell-fits : (t : Site) → t.role ≡ role → IsValid g (joint_of t) → (e : Equation) (to : ℕ) → equation_ok g e ≡ true → home g e.left.node ≡ role → (to ≡ role → Never) → to < g.roles
      → Fits g role (record { to = to; kind = Tells e (load_of g t (e.left ∷ []) (mentions e.body)) })
  tell-fits t is V e to ok h n l = record {
    within = l;
    away = n;
    names = and_from (equation_ok g e) (equations_ok g (load_of g t (e.left ∷ []) (mentions e.body))) ok (load-ok t V (e.left ∷ []) (mentions e.body));
    own = λ q m. elim m [
      | inl p ↦ ap (λ (e : Equation). home g e.left.node) p ∙ h
      | inr i ↦ (load-own g t (e.left ∷ []) (mentions e.body) q i).1 ∙ is
    ];
    about = tt;
  }

  -- questions
  ask-fits : (t : Site) → t.role ≡ role → (rs : List Ref) → ((r : Ref) → Member r rs → ref_ok g r ≡ true) → AllFit (map (ask_message g t.role) (filter (is_wanted g t) (in_order rs)))
  ask-fits t is rs ok m i =
      let (r, j, p) = member_unmap (ask_message g t.role) m (filter (is_wanted g t) (in_order rs)) i in
      let (k, q) = Member-filtered (is_wanted g t) r (in_order rs) j in
      let (u, v) = and_parts (not (nat_eq (home g r.node) t.role)) _ q in
      let fine = ok r (Member-of_order r rs k) in
      subst (Fits g role) (sym p) (record {
        within = home_within w g formed r.node (slot-some g (sort_of g r.node) r.slot fine);
        away = λ e. let f = not-true _ u in let h = eq-eqb (home g r.node) t.role (e ∙ sym is) in absurd cc;
        names = and_from (ref_ok g r) (nat_lt t.role g.roles) fine (lt-ltb t.role g.roles (subst (λ a. a < g.roles) (sym is) declared));
        own = λ e n. never n;
        about = (refl, is);
      })

  -- a site sends some messages and then asks
  asking-fits : (t : Site) → t.role ≡ role → (first : List Message) (rs : List Ref) → ((r : Ref) → Member r rs → ref_ok g r ≡ true) → AllFit t.outbox → AllFit first
      → AllFit (asking g t first rs).site.outbox
  asking-fits t is first rs ok old new =
      both t.outbox (first ++ map (ask_message g t.role) (filter (is_wanted g t) (in_order rs))) old
      (both first (map (ask_message g t.role) (filter (is_wanted g t) (in_order rs))) new (ask-fits t is rs ok))

  -- the nodes and equations of a call that came
  call-valid : (c : Call) (load : List Equation) → call_ok g c ≡ true → sort_of g c.node ≡ Some c.sort → equations_ok g load ≡ true → IsValid g (record { held = called_held c ∷ []; equations = load })
  call-valid c load a b f = record {
    held = λ h m. elim m [ inl p ↦ subst (λ (h : Held). call_ok g (as_call h) ≡ true) (sym p) a | inr z ↦ never z ];
    sorts = λ h m. elim m [ inl p ↦ subst (λ (h : Held). sort_of g h.node ≡ Some h.sort) (sym p) b | inr z ↦ never z ];
    equations = ok-each g load f;
  }

  -- a call says the sort of its node
  its-sort : (c : Call) → c.sort ≡ unwrap_or (sort_of g c.node) 0 → call_ok g c ≡ true → sort_of g c.node ≡ Some c.sort
  its-sort c e k = go (sort_of g c.node) refl e (and_parts _ (refs_ok g c.inherited) k).0
    where
      go : (o : Option ℕ) → sort_of g c.node ≡ o → c.sort ≡ unwrap_or o 0 → takes_as g o c.inherited ≡ true → sort_of g c.node ≡ Some c.sort
      go None f p t = absurd cc
      go (Some s) f p t = f ∙ ap Some (sym p)

  module _ (s : Site) (N : Named g role s) where
    abbrev x : Joint
    x = joint_of s

    -- ---- a start

    start-named : (st k : ℕ) → is_start (slice_get g.sorts st) ≡ true → Named g role (start_site s st k)
    start-named st k z = record {
      is = N.is;
      valid = record {
        held = λ h m. elim (Member-insert_held h (root_held st k) s.held m) [
          | inl p ↦ subst (λ (h : Held). call_ok g (as_call h) ≡ true) (sym p) (valid-call w g formed (as_call (root_held st k)) st (sort_of_root g st k z) (sym (start-takes w g formed st z)) refl)
          | inr o ↦ N.valid.held h o
        ];
        sorts =
            λ h m. elim (Member-insert_held h (root_held st k) s.held m) [ inl p ↦ subst (λ (h : Held). sort_of g h.node ≡ Some h.sort) (sym p) (sort_of_root g st k z) | inr o ↦ N.valid.sorts h o ];
        equations = N.valid.equations;
      };
      watched = N.watched;
      sent = N.sent;
    }

    -- ---- a rule

    module _ (n : Node) (r : ℕ) (args : List Ground) (rule : Rule) (bound : List Ref) (h : home g n ≡ role) (given : choice_ok g (Develop n r args) ≡ true)
        (e0 : outcome g s (Develop n r args) ≡ Takes rule bound) where
      abbrev mk : Making
      mk = made n r rule args bound

      abbrev own : List Held
      own = calls_in g s.role mk.calls

      abbrev t : Site
      t = record s { held = insert_all own (map (mark n (Done r args)) s.held); choices = s.choices ++ Develop n r args ∷ []; equations = s.equations ++ mk.equations }

      kid : (c : Call) → Member c mk.calls → (call_ok g c ≡ true) × (sort_of g c.node ≡ Some c.sort)
      kid c m = kid-is w g formed x N.valid n r args rule bound e0 given c m

      made-ok : (e : Equation) → Member e mk.equations → equation_ok g e ≡ true
      made-ok e m = equation-is w g formed x N.valid n r args rule bound e0 given e m

      now-valid : IsValid g (joint_of t)
      now-valid = record {
        held = λ k m. elim (Member-insert_all k own (map (mark n (Done r args)) s.held) m) [
          | inl o ↦ (let (c, j, q, p) = in_case g s.role mk.calls k o in subst (λ (h : Held). call_ok g (as_call h) ≡ true) (sym p) (kid c j).0)
          | inr o ↦ (let (d, j, p) = member_unmap (mark n (Done r args)) k s.held o in
              let (a, b, c) = marked n (Done r args) d in
              let same : as_call (mark n (Done r args) d) ≡ as_call d = λ i. record { node = a i; sort = b i; inherited = c i } in
              subst (λ (h : Held). call_ok g (as_call h) ≡ true) (sym p) (subst (λ c. call_ok g c ≡ true) (sym same) (N.valid.held d j)))
        ];
        sorts = λ k m. elim (Member-insert_all k own (map (mark n (Done r args)) s.held) m) [
          | inl o ↦ (let (c, j, q, p) = in_case g s.role mk.calls k o in subst (λ (h : Held). sort_of g h.node ≡ Some h.sort) (sym p) (kid c j).1)
          | inr o ↦ (let (d, j, p) = member_unmap (mark n (Done r args)) k s.held o in
              let (a, b, c) = marked n (Done r args) d in
              subst (λ (h : Held). sort_of g h.node ≡ Some h.sort) (sym p) (ap (sort_of g) a ∙ (N.valid.sorts d j ∙ ap Some (sym b))))
        ];
        equations = λ e m. elim (member_split e s.equations mk.equations m) [ inl o ↦ N.valid.equations e o | inr o ↦ made-ok e o ];
      }

      call-fits : (c : Call) → Member c mk.calls → (home g c.node ≡ s.role → Never) → Fits g role (record { to = home g c.node; kind = Calls c (load_of g t [] c.inherited) })
      call-fits c m away =
          let (ok, so) = kid c m in
          let (j, d, f, q, u) = call_case n r _ rule.children 1 _ c m in
          record {
            within = home_within w g formed c.node (ap is_some so);
            away = λ e. away (e ∙ sym N.is);
            names = and_from (call_ok g c) (equations_ok g (load_of g t [] c.inherited)) ok (load-ok t now-valid [] c.inherited);
            own = λ e i. (load-own g t [] c.inherited e i).1 ∙ N.is;
            about = (refl, ap (λ x. has_steps x.steps) q ∙ has-end n.steps (record { rule = r; child = 1 + j }), ap (home g) (kid-parent n r rule args bound c m) ∙ h);
          }

      told-fits : (e : Equation) → Member e mk.equations → (to : ℕ) → s.watches e.left to ≡ true → Fits g role (record { to = to; kind = Tells e (load_of g t (e.left ∷ []) (mentions e.body)) })
      told-fits e m to v =
          let (a, b, c) = N.watched e.left to v in
          tell-fits t N.is now-valid e to (made-ok e m) a b c

      now-mentioned : (q : Ref) → Member q (all_mentions mk.equations ++ all_inherited own) → ref_ok g q ≡ true
      now-mentioned q m = mention-ok g (joint_of t) now-valid q (elim (member_split q (all_mentions mk.equations) (all_inherited own) m) [
        | inl o ↦ (let (e, j, u) = of-mentions q mk.equations o in inl (e, member_right e s.equations mk.equations j, u))
        | inr o ↦ (let (k, j, u) = of-inherited q own o in inr (k, Member-all_held k own (map (mark n (Done r args)) s.held) (inl j), u))
      ])

      made-named : Named g role (develop_site g s (Develop n r args) n r args mk).site
      made-named = record {
        is = N.is;
        valid = now-valid;
        watched = N.watched;
        sent = asking-fits t N.is (calls_out g t mk.calls ++ tells g t mk.equations) (all_mentions mk.equations ++ all_inherited own) now-mentioned N.sent
            (both (calls_out g t mk.calls) (tells g t mk.equations)
            (λ m i. let (c, j, away, p) = out_case g t mk.calls m i in subst (Fits g role) (sym p) (call-fits c j away))
            (λ m i. let (e, j, to, v, p) = tell_case g t mk.equations m i in subst (Fits g role) (sym p) (told-fits e j to v)));
      }

    -- ---- a message

    -- equations that came are added
    added : (es : List Equation) → equations_ok g es ≡ true → (e : Equation) → Member e (add_all s.equations es) → equation_ok g e ≡ true
    added es f e m = elim (add-member s.equations es e m) [ inl o ↦ N.valid.equations e o | inr o ↦ ok-each g es f e o ]

    called-valid : (c : Call) (load : List Equation) → call_ok g c ≡ true → sort_of g c.node ≡ Some c.sort → equations_ok g load ≡ true → (o : Option Held)
        → IsValid g (record { held = add_held o c s.held; equations = add_all s.equations load })
    called-valid c load a b f (Some k) = record { held = N.valid.held; sorts = N.valid.sorts; equations = added load f }
    called-valid c load a b f None = record {
      held = λ h m. elim (Member-insert_held h (called_held c) s.held m) [ inl p ↦ subst (λ (h : Held). call_ok g (as_call h) ≡ true) (sym p) a | inr o ↦ N.valid.held h o ];
      sorts = λ h m. elim (Member-insert_held h (called_held c) s.held m) [ inl p ↦ subst (λ (h : Held). sort_of g h.node ≡ Some h.sort) (sym p) b | inr o ↦ N.valid.sorts h o ];
      equations = added load f;
    }

    back-fits : (r : Ref) (from : ℕ) → home g r.node ≡ role → (from ≡ role → Never) → from < g.roles → (o : Option Body) → find s.equations r ≡ o → AllFit (tell_back g s o r from)
    back-fits r from h n l None f m i = never i
    back-fits r from h n l (Some b) f m (inl p) =
        let e : Equation = record { left = r; body = b } in
        subst (Fits g role) (sym p) (tell-fits s N.is N.valid e from (N.valid.equations e (find-member s.equations r b f)) h n l)
    back-fits r from h n l (Some b) f m (inr i) = never i

    reacts-named : (k : Kind) → HasItsSort g k → names_ok g k ≡ true → origin_ok g s.role k ≡ true → about_ok g s.role k ≡ true → Named g role (react g s k).site
    reacts-named (Calls c load) u v o a =
        let (ok, fine) = and_parts (call_ok g c) (equations_ok g load) v in
        let so = its-sort c u ok in
        let came = call-valid c load ok so fine in
        let t : Site = record s { held = add_held (held_of c.node s.held) c s.held; equations = add_all s.equations load } in
        record {
          is = N.is;
          valid = called-valid c load ok so fine (held_of c.node s.held);
          watched = N.watched;
          sent = asking-fits t N.is [] (c.inherited ++ all_mentions load)
              (λ q m. mention-ok g (record { held = called_held c ∷ []; equations = load }) came q (elim (member_split q c.inherited (all_mentions load) m) [
                | inl j ↦ inr (called_held c, inl refl, j)
                | inr j ↦ (let (e, i, z) = of-mentions q load j in inl (e, i, z))
              ]))
              N.sent (λ m i. never i);
        }
    reacts-named (Asks r from) u v o a =
        let (ok, l) = and_parts (ref_ok g r) (nat_lt from g.roles) v in
        let here : home g r.node ≡ role = eqb-true (home g r.node) s.role a ∙ N.is in
        let gone : from ≡ role → Never = λ e. let f = not-true _ o in let h = eq-eqb from s.role (e ∙ sym N.is) in absurd cc in
        let low = ltb-true from g.roles l in
        record {
          is = N.is;
          valid = N.valid;
          watched = λ q to i. elim (or_cases (ref_eq r q && nat_eq from to) (s.watches q to) i) [
            | inl z ↦ (let (p, y) = and_parts (ref_eq r q) (nat_eq from to) z in
                let same = ref_eq-true r q p in
                let role_is = eqb-true from to y in
                (ap (λ (r : Ref). home g r.node) (sym same) ∙ here, λ e. gone (role_is ∙ e), subst (λ a. a < g.roles) role_is low))
            | inr z ↦ N.watched q to z
          ];
          sent = both s.outbox (tell_back g s (find s.equations r) r from) N.sent (back-fits r from here gone low (find s.equations r) refl);
        }
    reacts-named (Tells e load) u v o a =
        let t : Site = record s { equations = add_all s.equations (e ∷ load) } in
        let now : IsValid g (joint_of t) = record { held = N.valid.held; sorts = N.valid.sorts; equations = added (e ∷ load) v } in
        record {
          is = N.is;
          valid = now;
          watched = N.watched;
          sent = asking-fits t N.is [] (all_mentions (e ∷ load))
              (λ q m. let (d, i, z) = of-mentions q (e ∷ load) m in mention-ok g (record { held = []; equations = e ∷ load })
              (record { held = λ h m. never m; sorts = λ h m. never m; equations = ok-each g (e ∷ load) v }) q (inl (d, i, z)))
              N.sent (λ m i. never i);
        }

    step-named : (e : SiteEvent) → MayHappen g role e → Named g role (site_step g s e)
    step-named (Chose c) h =
        chosen-case g s (λ t ms. Named g role t) N c
        (λ st k q e. start-named st k (ap (choice_ok g) (sym q) ∙ h.1))
        (λ n r args rule bound q e. made-named n r args rule bound (ap (λ c. home g (node_of c)) (sym q) ∙ h.0) (ap (choice_ok g) (sym q) ∙ h.1) e)
    step-named (Got m) h =
        received-case g s (Named g role) N m (λ y e I.
        let (a, b) = and_parts (names_ok g m.kind) (origin_ok g s.role m.kind) (and_parts (nat_lt m.to g.roles) _ I.valid).1 in
        reacts-named m.kind h a b (and_parts (nat_eq m.to s.role) (about_ok g s.role m.kind) I.mine).1)

  run-named : (s : Site) → Named g role s → (es : List SiteEvent) → Each (MayHappen g role) es → Named g role (site_run g s es)
  run-named s N [] h = N
  run-named s N (e ∷ es) h = run-named (site_step g s e) (step-named s N e h.0) es h.1

  -- whatever comes
  pub named : (loads : Bool) (es : List SiteEvent) → Each (MayHappen g role) es → Named g role (site_run g (empty_site loads role) es)
  named loads es h =
      run-named (empty_site loads role)
      (record { is = refl; valid = record { held = λ h m. never m; sorts = λ h m. never m; equations = λ e m. never m }; watched = λ r to i. absurd cc; sent = λ m i. never i }) es h
