-- A message of some cases is answered the same where only these are kept, and one of another case changes nothing of them.
use Rattle.std.specs.Prelude.{filter, nat_eq, not, is_some, ◌&&◌, ◌||◌}
use Rattle.std.proofs.Common.{◌≡◌, ℕ, Bool, true, false, cond, List, [], ◌∷◌, ◌++◌, map, Option, Some, None, refl, sym, ap, ◌∙◌, subst, inl, inr, append-nil}
use Rattle.std.proofs.Math.Path.{fun_ext}
use Rattle.std.proofs.lemmas.Bool.{and_parts}
use Rattle.aw_list.specs.Members.{Member}
use Rattle.aw_list.proofs.Members.{never, member_unmap}
use Rattle.aw_term.specs.Choices.{Choice}
use Rattle.aw_term.specs.Held.{Held, held_of}
use Rattle.aw_term.specs.Names.{Ref, ref_eq}
use Rattle.aw_term.specs.Rules.{Grammar}
use Rattle.aw_term.specs.WellFormed.{Each}
use Rattle.aw_term.proofs.RefTests.{ref_eq-true}
use Rattle.aw_store.specs.Equations.{Body, Equation, Map, find, mentions}
use Rattle.aw_apply.specs.Made.{Call}
use Rattle.aw_apply.specs.Messages.{Kind, Calls, Asks, Tells, Message, Clash, Received, BadName, NotMine, Conflict, Repeat, New}
use Rattle.aw_law_sites.specs.Asking.{all_mentions, ask_message, asking}
use Rattle.aw_law_sites.specs.Joint.{called_held}
use Rattle.aw_law_sites.specs.Reacting.{add_held, react, receive, received_on}
use Rattle.aw_law_sites.specs.Receiving.{add_all, add_on, all_held, call_clash, clash, clash_on, first_clash, is_mine, is_repeat}
use Rattle.aw_law_sites.specs.SiteEvents.{SiteEvent, Chose, Got, after_choice, after_message, site_run, site_step}
use Rattle.aw_law_sites.specs.Sites.{Site, Reaction, silently}
use Rattle.aw_law_sites.specs.Telling.{tell, tell_back}
use Rattle.aw_law_sites.specs.ValidNames.{message_ok}
use Rattle.aw_law_sites.specs.Choosing.{Chosen, No, Did, choose}
use Rattle.aw_law_sites.proofs.AnyOrders.{Member-insert_held}
use Rattle.aw_law_worlds.proofs.Learning.{add-member}
use Rattle.aw_law_worlds.proofs.Growing.{new-of, cond-new}
use Rattle.aw_law_nodes.proofs.KeptNodes.{events-append}
use Rattle.aw_law_nodes.proofs.ListParts.{filter-append}
use Rattle.aw_law_cases.specs.Cases.{Cases, of_node, of_ref, of_equation, of_held, of_choice, of_kind, of_message, of_event, keep_site, AllOn}
use Rattle.aw_law_cases.specs.Cases.{AreParted, AreOn, IsParted, IsOneSided, IsOneSidedEvent, AreInOrder, SiteKeepsCases}
use Rattle.aw_law_cases.proofs.Keeping.{kept, find-kept, body-on, held-kept}
use Rattle.aw_law_cases.proofs.Making.{both-refs}
use Rattle.aw_law_cases.proofs.Sending.{keep_reaction, asking-kept, asking-other, insert-kept, insert-other, tell-kept, tell-on, up-inserted, with-true}
use Rattle.aw_law_cases.proofs.Choices.{mentions-on, keep_chosen, choose-kept, choose-unseen, choose-parted, IsUnseen}

-- one who watches a reference of these cases, or of others
watch-kept : (a b c : Bool) → (a ≡ true → c ≡ true) → (a || (b && c)) ≡ ((a || b) && c)
watch-kept true b c f = sym (f refl)
watch-kept false b c f = refl

watch-other : (a b c : Bool) → (a ≡ true → c ≡ false) → ((a || b) && c) ≡ (b && c)
watch-other true true c f = refl
watch-other true false c f = f refl
watch-other false b c f = refl

module _ (C : Cases) where
  same-case : (r x : Ref) (n m : ℕ) → (ref_eq r x && nat_eq n m) ≡ true → of_ref C r ≡ of_ref C x
  same-case r x n m e = ap (of_ref C) (ref_eq-true r x (and_parts (ref_eq r x) (nat_eq n m) e).0)

  -- equations that are added
  add-kept-by : (k : Map) (e : Equation) (o : Option Body) → of_equation C e ≡ true → kept C (add_on o k e) ≡ add_on o (kept C k) e
  add-kept-by k e None i = filter-append (of_equation C) k (e ∷ []) ∙ ap (λ b. kept C k ++ cond b (e ∷ []) []) i
  add-kept-by k e (Some b) i = refl

  add-one : (k : Map) (e : Equation) → of_equation C e ≡ true → kept C (add_on (find k e.left) k e) ≡ add_on (find (kept C k) e.left) (kept C k) e
  add-one k e i = add-kept-by k e (find k e.left) i ∙ ap (λ o. add_on o (kept C k) e) (sym (find-kept C k e.left i))

  add-kept : (k : Map) (es : List Equation) → ((e : Equation) → Member e es → of_equation C e ≡ true) → kept C (add_all k es) ≡ add_all (kept C k) es
  add-kept k [] on = refl
  add-kept k (e ∷ es) on = add-kept (add_on (find k e.left) k e) es (λ d m. on d (inr m)) ∙ ap (λ k. add_all k es) (add-one k e (on e (inl refl)))

  add-other-by : (k : Map) (e : Equation) (o : Option Body) → of_equation C e ≡ false → kept C (add_on o k e) ≡ kept C k
  add-other-by k e None i = filter-append (of_equation C) k (e ∷ []) ∙ (ap (λ b. kept C k ++ cond b (e ∷ []) []) i ∙ append-nil (kept C k))
  add-other-by k e (Some b) i = refl

  add-other : (k : Map) (es : List Equation) → ((e : Equation) → Member e es → of_equation C e ≡ false) → kept C (add_all k es) ≡ kept C k
  add-other k [] on = refl
  add-other k (e ∷ es) on = add-other (add_on (find k e.left) k e) es (λ d m. on d (inr m)) ∙ add-other-by k e (find k e.left) (on e (inl refl))

  clash-kept : (k : Map) (es : List Equation) → ((e : Equation) → Member e es → of_equation C e ≡ true) → first_clash (kept C k) es ≡ first_clash k es
  clash-kept k [] on = refl
  clash-kept k (e ∷ es) on =
      let i = on e (inl refl) in
      let here = find-kept C k e.left i in
      let later = ap (λ k. first_clash k es) (sym (add-one k e i)) ∙ clash-kept (add_on (find k e.left) k e) es (λ d m. on d (inr m)) in
      λ j. clash_on (here j) e.body (later j)

  held-all-kept : (k : Map) (es : List Equation) → ((e : Equation) → Member e es → of_equation C e ≡ true) → all_held (kept C k) es ≡ all_held k es
  held-all-kept k [] on = refl
  held-all-kept k (e ∷ es) on =
      let here = find-kept C k e.left (on e (inl refl)) in
      let later = held-all-kept k es (λ d m. on d (inr m)) in
      λ j. is_some (here j) && later j

  parted-all : (k : Map) (es : List Equation) (b : Bool) → AreParted C k → AreOn C b es → AreParted C (add_all k es)
  parted-all k es b p on e m = elim (add-member k es e m) [ inl i ↦ p e i | inr i ↦ (let (x, y) = on e i in λ u j. y u j ∙ sym x) ]

  module _ (g : Grammar) (s : Site) (P : IsParted C s) where
    -- a node that is added
    add-held-kept : (c : Call) (o : Option Held) → of_node C c.node ≡ true → filter (of_held C) (add_held o c s.held) ≡ add_held o c (filter (of_held C) s.held)
    add-held-kept c None i = insert-kept C (called_held c) s.held i P.ordered
    add-held-kept c (Some h) i = refl

    add-held-other : (c : Call) (o : Option Held) → of_node C c.node ≡ false → filter (of_held C) (add_held o c s.held) ≡ filter (of_held C) s.held
    add-held-other c None i = insert-other C (called_held c) s.held i
    add-held-other c (Some h) i = refl

    react-kept : (k : Kind) → IsOneSided C k → of_kind C k ≡ true → react g (keep_site C s) k ≡ keep_reaction C (react g s k)
    react-kept (Calls c load) one i =
        let on : (e : Equation) → Member e load → of_equation C e ≡ true = λ e m. (one.1 e m).0 ∙ i in
        let load_on : AreOn C true load = subst (λ b. AreOn C b load) i one.1 in
        let held = ap (λ o. add_held o c (filter (of_held C) s.held)) (held-kept C s.held c.node i) ∙ sym (add-held-kept c (held_of c.node s.held) i) in
        let equations = sym (add-kept s.equations load on) in
        let v : Site = record s { held = add_held (held_of c.node s.held) c s.held; equations = add_all s.equations load } in
        ap (λ w. asking g w [] (c.inherited ++ all_mentions load)) (λ j. record (keep_site C s) { held = held j; equations = equations j })
        ∙ asking-kept C g v [] [] (c.inherited ++ all_mentions load) refl (both-refs C true c.inherited (all_mentions load)
        (subst (λ b. AllOn C b c.inherited) i one.0) (mentions-on C g true load load_on))
    react-kept (Asks r from) one i =
        let watches : (react g (keep_site C s) (Asks r from)).site.watches ≡ (keep_site C (react g s (Asks r from)).site).watches =
        fun_ext (λ x. fun_ext (λ role. watch-kept (ref_eq r x && nat_eq from role) (s.watches x role) (of_ref C x) (λ e. sym (same-case r x from role e) ∙ i))) in
        let sent = ap (λ o. tell_back g (keep_site C s) o r from) (find-kept C s.equations r i) ∙ told (find s.equations r) refl i in
        let outbox = ap (λ xs. filter (of_message C) s.outbox ++ xs) sent ∙ sym (filter-append (of_message C) s.outbox (tell_back g s (find s.equations r) r from)) in
        λ j. record { site = record (keep_site C s) { watches = watches j; outbox = outbox j }; sent = sent j }
      where
        told : (o : Option Body) → find s.equations r ≡ o → of_ref C r ≡ true → tell_back g (keep_site C s) o r from ≡ filter (of_message C) (tell_back g s o r from)
        told None e i = refl
        told (Some body) e i =
            let q : Equation = record { left = r; body = body } in
            let f : AllOn C true (mentions body) = λ u m. body-on C s.equations P.equations r body e u m ∙ i in
            ap (λ m. m ∷ []) (tell-kept C g s P.equations q from i f) ∙ sym (ap (λ b. cond b (tell g s q from ∷ []) []) i)
    react-kept (Tells e load) one i =
        let on : (d : Equation) → Member d (e ∷ load) → of_equation C d ≡ true = λ d m. (one d m).0 ∙ i in
        let all_on : AreOn C true (e ∷ load) = subst (λ b. AreOn C b (e ∷ load)) i one in
        let equations = sym (add-kept s.equations (e ∷ load) on) in
        ap (λ w. asking g w [] (all_mentions (e ∷ load))) (λ j. record (keep_site C s) { equations = equations j })
        ∙ asking-kept C g (record s { equations = add_all s.equations (e ∷ load) }) [] [] (all_mentions (e ∷ load)) refl (mentions-on C g true (e ∷ load) all_on)

    react-other : (k : Kind) → IsOneSided C k → of_kind C k ≡ false → IsUnseen C g s (react g s k)
    react-other (Calls c load) one i =
        let on : (e : Equation) → Member e load → of_equation C e ≡ false = λ e m. (one.1 e m).0 ∙ i in
        let load_on : AreOn C false load = subst (λ b. AreOn C b load) i one.1 in
        let held = add-held-other c (held_of c.node s.held) i in
        let equations = add-other s.equations load on in
        let v : Site = record s { held = add_held (held_of c.node s.held) c s.held; equations = add_all s.equations load } in
        asking-other C g v [] (c.inherited ++ all_mentions load) refl (both-refs C false c.inherited (all_mentions load)
        (subst (λ b. AllOn C b c.inherited) i one.0) (mentions-on C g false load load_on))
        ∙ (λ j. silently (record (keep_site C s) { held = held j; equations = equations j }))
    react-other (Asks r from) one i =
        let watches : (keep_site C (react g s (Asks r from)).site).watches ≡ (keep_site C s).watches =
        fun_ext (λ x. fun_ext (λ role. watch-other (ref_eq r x && nat_eq from role) (s.watches x role) (of_ref C x) (λ e. sym (same-case r x from role e) ∙ i))) in
        let sent = told (find s.equations r) i in
        let outbox = filter-append (of_message C) s.outbox (tell_back g s (find s.equations r) r from)
        ∙ (ap (λ xs. filter (of_message C) s.outbox ++ xs) sent ∙ append-nil (filter (of_message C) s.outbox)) in
        λ j. record { site = record (keep_site C s) { watches = watches j; outbox = outbox j }; sent = sent j }
      where
        told : (o : Option Body) → of_ref C r ≡ false → filter (of_message C) (tell_back g s o r from) ≡ []
        told None i = refl
        told (Some body) i = ap (λ b. cond b (tell g s (record { left = r; body = body }) from ∷ []) []) i
    react-other (Tells e load) one i =
        let on : (d : Equation) → Member d (e ∷ load) → of_equation C d ≡ false = λ d m. (one d m).0 ∙ i in
        let all_on : AreOn C false (e ∷ load) = subst (λ b. AreOn C b (e ∷ load)) i one in
        let equations = add-other s.equations (e ∷ load) on in
        asking-other C g (record s { equations = add_all s.equations (e ∷ load) }) [] (all_mentions (e ∷ load)) refl (mentions-on C g false (e ∷ load) all_on)
        ∙ (λ j. silently (record (keep_site C s) { equations = equations j }))

    react-parted : (k : Kind) → IsOneSided C k → IsParted C (react g s k).site
    react-parted (Calls c load) one = record {
      equations = parted-all s.equations load (of_node C c.node) P.equations one.1;
      held = λ h m. by (held_of c.node s.held) h m;
      ordered = up (held_of c.node s.held);
    }
      where
        by : (o : Option Held) → (h : Held) → Member h (add_held o c s.held) → AllOn C (of_held C h) h.inherited
        by None h m = elim (Member-insert_held h (called_held c) s.held m) [ inl p ↦ subst (λ (h : Held). AllOn C (of_held C h) h.inherited) (sym p) one.0 | inr i ↦ P.held h i ]
        by (Some x) h m = P.held h m

        up : (o : Option Held) → AreInOrder (add_held o c s.held)
        up None = up-inserted C (called_held c) s.held P.ordered
        up (Some x) = P.ordered
    react-parted (Asks r from) one = record { equations = P.equations; held = P.held; ordered = P.ordered }
    react-parted (Tells e load) one = record { equations = parted-all s.equations (e ∷ load) (of_equation C e) P.equations one; held = P.held; ordered = P.ordered }

    -- what is sent is of one side
    asks-sided : (r : ℕ) (rs : List Ref) (m : Message) → Member m (map (ask_message g r) rs) → IsOneSided C m.kind
    asks-sided r rs m i = let (u, j, p) = member_unmap (ask_message g r) m rs i in subst (λ (m : Message). IsOneSided C m.kind) (sym p) tt

    react-sided : (k : Kind) → (m : Message) → Member m (react g s k).sent → IsOneSided C m.kind
    react-sided (Calls c load) m i = asks-sided s.role _ m i
    react-sided (Asks r from) m i = by (find s.equations r) refl i
      where
        by : (o : Option Body) → find s.equations r ≡ o → Member m (tell_back g s o r from) → IsOneSided C m.kind
        by None e i = never i
        by (Some body) e (inl p) =
            subst (λ (m : Message). IsOneSided C m.kind) (sym p)
            (tell-on C g s P.equations (of_ref C r) (record { left = r; body = body }) from refl (λ u n. body-on C s.equations P.equations r body e u n)).1
        by (Some body) e (inr n) = never n
    react-sided (Tells e load) m i = asks-sided s.role _ m i

    -- answers
    clash-same : (k : Kind) → IsOneSided C k → of_kind C k ≡ true → clash (keep_site C s) k ≡ clash s k
    clash-same (Calls c load) one i =
        let a = held-kept C s.held c.node i in
        let b = clash-kept s.equations load (λ e m. (one.1 e m).0 ∙ i) in
        λ j. call_clash (a j) c (b j)
    clash-same (Asks r from) one i = refl
    clash-same (Tells e load) one i = clash-kept s.equations (e ∷ load) (λ d m. (one d m).0 ∙ i)

    repeat-same : (k : Kind) → IsOneSided C k → of_kind C k ≡ true → is_repeat (keep_site C s) k ≡ is_repeat s k
    repeat-same (Calls c load) one i =
        let a = held-kept C s.held c.node i in
        let b = held-all-kept s.equations load (λ e m. (one.1 e m).0 ∙ i) in
        λ j. is_some (a j) && b j
    repeat-same (Asks r from) one i = with-true (s.watches r from) (of_ref C r) i
    repeat-same (Tells e load) one i = held-all-kept s.equations (e ∷ load) (λ d m. (one d m).0 ∙ i)

  abbrev pub keep_received : Received Reaction → Received Reaction
  keep_received BadName = BadName
  keep_received NotMine = NotMine
  keep_received (Conflict a b) = Conflict a b
  keep_received Repeat = Repeat
  keep_received (New x) = New (keep_reaction C x)

  keep-on : (o : Option Clash) (b : Bool) (x : Reaction) → received_on o b (keep_reaction C x) ≡ keep_received (received_on o b x)
  keep-on (Some c) b x = refl
  keep-on None true x = refl
  keep-on None false x = refl

  keep-cond : (b d : Bool) (z : Received Reaction) → cond b BadName (cond d NotMine (keep_received z)) ≡ keep_received (cond b BadName (cond d NotMine z))
  keep-cond true d z = refl
  keep-cond false true z = refl
  keep-cond false false z = refl

  module _ (g : Grammar) where
    pub receive-kept : (s : Site) → IsParted C s → (m : Message) → IsOneSided C m.kind → of_message C m ≡ true → receive g (keep_site C s) m ≡ keep_received (receive g s m)
    receive-kept s P m one i =
        let a = clash-same g s P m.kind one i in
        let b = repeat-same g s P m.kind one i in
        let x = react-kept g s P m.kind one i in
        (λ j. cond (not (message_ok g s.role m)) BadName (cond (not (is_mine g s.role m)) NotMine (received_on (a j) (b j) (x j))))
        ∙ (ap (λ z. cond (not (message_ok g s.role m)) BadName (cond (not (is_mine g s.role m)) NotMine z)) (keep-on (clash s m.kind) (is_repeat s m.kind) (react g s m.kind))
        ∙ keep-cond (not (message_ok g s.role m)) (not (is_mine g s.role m)) (received_on (clash s m.kind) (is_repeat s m.kind) (react g s m.kind)))

    reaction-is : (s : Site) (m : Message) (x : Reaction) → receive g s m ≡ New x → react g s m.kind ≡ x
    reaction-is s m x e =
        let a = cond-new (not (message_ok g s.role m)) BadName _ x (λ z. absurd cc) e in
        let b = cond-new (not (is_mine g s.role m)) NotMine _ x (λ z. absurd cc) a in
        new-of (clash s m.kind) (is_repeat s m.kind) (react g s m.kind) x b

    pub receive-unseen : (s : Site) → IsParted C s → (m : Message) → IsOneSided C m.kind → of_message C m ≡ false → (x : Reaction) → receive g s m ≡ New x → IsUnseen C g s x
    receive-unseen s P m one i x e = subst (IsUnseen C g s) (reaction-is s m x e) (react-other g s P m.kind one i)

    pub receive-parted : (s : Site) → IsParted C s → (m : Message) → IsOneSided C m.kind → (x : Reaction) → receive g s m ≡ New x → IsParted C x.site
        × ((n : Message) → Member n x.sent → IsOneSided C n.kind)
    receive-parted s P m one x e =
        subst (λ (x : Reaction). IsParted C x.site × ((n : Message) → Member n x.sent → IsOneSided C n.kind)) (reaction-is s m x e) (react-parted g s P m.kind one, react-sided g s P m.kind)

    -- one event
    chose-seen : (s : Site) (z : Chosen) → keep_site C (after_choice s z) ≡ after_choice (keep_site C s) (keep_chosen C g z)
    chose-seen s (No a) = refl
    chose-seen s (Did x) = refl

    chose-unseen : (s : Site) → IsParted C s → (c : Choice) → of_choice C c ≡ false → (z : Chosen) → choose g s c ≡ z → keep_site C (after_choice s z) ≡ keep_site C s
    chose-unseen s P c i (No a) e = refl
    chose-unseen s P c i (Did x) e = ap (λ (r : Reaction). r.site) (choose-unseen C g s P c i x e)

    got-seen : (s : Site) (z : Received Reaction) → keep_site C (after_message s z) ≡ after_message (keep_site C s) (keep_received z)
    got-seen s BadName = refl
    got-seen s NotMine = refl
    got-seen s (Conflict a b) = refl
    got-seen s Repeat = refl
    got-seen s (New x) = refl

    got-unseen : (s : Site) → IsParted C s → (m : Message) → IsOneSided C m.kind → of_message C m ≡ false → (z : Received Reaction) →
        receive g s m ≡ z → keep_site C (after_message s z) ≡ keep_site C s
    got-unseen s P m one i BadName e = refl
    got-unseen s P m one i NotMine e = refl
    got-unseen s P m one i (Conflict a b) e = refl
    got-unseen s P m one i Repeat e = refl
    got-unseen s P m one i (New x) e = ap (λ (r : Reaction). r.site) (receive-unseen s P m one i x e)

    got-parted : (s : Site) → IsParted C s → (m : Message) → IsOneSided C m.kind → (z : Received Reaction) → receive g s m ≡ z → IsParted C (after_message s z)
    got-parted s P m one BadName e = P
    got-parted s P m one NotMine e = P
    got-parted s P m one (Conflict a b) e = P
    got-parted s P m one Repeat e = P
    got-parted s P m one (New x) e = (receive-parted s P m one x e).0

    step-kept : (s : Site) → IsParted C s → (e : SiteEvent) → IsOneSidedEvent C e → (b : Bool) → of_event C e ≡ b → keep_site C (site_step g s e) ≡ site_run g (keep_site C s) (cond b (e ∷ []) [])
    step-kept s P (Chose c) one true i = chose-seen s (choose g s c) ∙ ap (after_choice (keep_site C s)) (sym (choose-kept C g s P c i))
    step-kept s P (Chose c) one false i = chose-unseen s P c i (choose g s c) refl
    step-kept s P (Got m) one true i = got-seen s (receive g s m) ∙ ap (after_message (keep_site C s)) (sym (receive-kept s P m one i))
    step-kept s P (Got m) one false i = got-unseen s P m one i (receive g s m) refl

    pub step-parted : (s : Site) → IsParted C s → (e : SiteEvent) → IsOneSidedEvent C e → IsParted C (site_step g s e)
    step-parted s P (Chose c) one = choose-parted C g s P c
    step-parted s P (Got m) one = got-parted s P m one (receive g s m) refl

    split-first : (b : Bool) (e : SiteEvent) (es : List SiteEvent) → cond b (e ∷ []) [] ++ es ≡ cond b (e ∷ es) es
    split-first true e es = refl
    split-first false e es = refl

    run-kept : (s : Site) (es : List SiteEvent) → IsParted C s → Each (IsOneSidedEvent C) es →
        (keep_site C (site_run g s es) ≡ site_run g (keep_site C s) (filter (of_event C) es)) × IsParted C (site_run g s es)
    run-kept s [] P one = (refl, P)
    run-kept s (e ∷ es) P one =
        let (later, Q) = run-kept (site_step g s e) es (step-parted s P e one.0) one.1 in (
          later
              ∙ (ap (λ t. site_run g t (filter (of_event C) es)) (step-kept s P e one.0 (of_event C e) refl)
              ∙ (sym (events-append g (keep_site C s) (cond (of_event C e) (e ∷ []) []) (filter (of_event C) es)) ∙ ap (site_run g (keep_site C s))
              (split-first (of_event C e) e (filter (of_event C) es)))),
          Q,
        )

pub site_keeps_cases : (g : Grammar) → SiteKeepsCases g
site_keeps_cases g C s es P one = run-kept C g s es P one
