-- What a site sends.
use Rattle.std.specs.Prelude.{filter, nat_eq, not}
use Rattle.std.proofs.Common.{◌≡◌, ℕ, Bool, true, false, cond, List, [], ◌∷◌, ◌++◌, map, Option, Some, None, refl, sym, ap, ◌∙◌, subst, inl, inr, append_assoc}
use Rattle.std.proofs.lemmas.Bool.{and_parts, eq-eqb, eqb-true}
use Rattle.aw_list.specs.Members.{Member}
use Rattle.aw_list.proofs.Members.{member_left, member_right, member_split, member_unmap, never}
use Rattle.aw_term.specs.Choices.{Choice, Start, Develop, Outcome, Refused, Starts, Takes}
use Rattle.aw_term.specs.Names.{Ref}
use Rattle.aw_term.specs.Rules.{Grammar}
use Rattle.aw_term.specs.WellFormed.{Each}
use Rattle.aw_term.specs.Held.{held_of, insert_all, mark}
use Rattle.aw_term.specs.Configs.{Done}
use Rattle.aw_term.proofs.Eaches.{each_map}
use Rattle.aw_store.specs.Equations.{Body, Equation, find, mentions}
use Rattle.aw_apply.specs.Made.{Call, Making, made}
use Rattle.aw_apply.specs.Messages.{Kind, Calls, Asks, Tells, Message, Received, BadName, NotMine, Conflict, Repeat, New}
use Rattle.aw_law_sites.specs.Asking.{all_inherited, all_mentions, ask_message, asking, is_wanted}
use Rattle.aw_law_sites.specs.Choosing.{choose_on, outcome}
use Rattle.aw_law_sites.specs.Homes.{home}
use Rattle.aw_law_sites.specs.InOrder.{in_order}
use Rattle.aw_law_sites.specs.Loads.{load_of}
use Rattle.aw_law_sites.specs.Reacting.{add_held, react, receive, received_on}
use Rattle.aw_law_sites.specs.Receiving.{about_ok, add_all, clash, is_mine, is_repeat}
use Rattle.aw_law_sites.specs.SiteEvents.{SiteEvent, Chose, Got, after_choice, after_message, site_step, site_run}
use Rattle.aw_law_sites.specs.Sites.{Site, Reaction, empty_site}
use Rattle.aw_law_sites.specs.Telling as telling
use Rattle.aw_law_sites.specs.Telling.{calls_out, tell, tell_back, tells}
use Rattle.aw_law_sites.specs.ValidNames.{message_ok}
use Rattle.aw_law_sites.specs.Worlds.{node_of}
use Rattle.aw_law_sites.proofs.Lists.{each_of}
use Rattle.aw_law_worlds.proofs.Answering.{load-own}
use Rattle.aw_law_worlds.proofs.Learning.{find-member}
use Rattle.aw_law_worlds.proofs.Lists.{Member-filter}
use Rattle.aw_law_worlds.proofs.SentLemmas.{out_case, tell_case}
use Rattle.aw_law_worlds.proofs.Growing.{new-of, cond-new}
use Rattle.aw_law_forged.specs.Forged.{IsAtHome, own_equations, making_of, makes, all_made, equations_in, calls_in, AreMade, IsOwnWord, SentIsOwnWord}
use Rattle.aw_law_forged.proofs.OwnEquations.{equations-append, chosen-own, step-own, step-role}

-- the children of what was made, one making behind the other
pub calls-append : (xs ys : List Making) → calls_in (xs ++ ys) ≡ calls_in xs ++ calls_in ys
calls-append [] ys = refl
calls-append (m ∷ xs) ys = ap (λ cs. m.calls ++ cs) (calls-append xs ys) ∙ sym (append_assoc m.calls (calls_in xs) (calls_in ys))

-- what was made before was made
made-more : (xs ys : List Making) (es : List Equation) → AreMade xs es → AreMade (xs ++ ys) es
made-more xs ys es k =
    each_map (λ (e : Equation). Member e (equations_in xs)) (λ (e : Equation). Member e (equations_in (xs ++ ys))) es
    (λ e i. subst (λ zs. Member e zs) (sym (equations-append xs ys)) (member_left e (equations_in xs) (equations_in ys) i)) k

more : (role : ℕ) (xs ys : List Making) (k : Kind) → IsOwnWord role xs k → IsOwnWord role (xs ++ ys) k
more role xs ys (Calls c load) (i, k) = (subst (λ zs. Member c zs) (sym (calls-append xs ys)) (member_left c (calls_in xs) (calls_in ys) i), made-more xs ys load k)
more role xs ys (Asks r from) e = e
more role xs ys (Tells e load) k = made-more xs ys (e ∷ load) k

-- so are the parts of the last making
last-equation : (xs : List Making) (m : Making) (e : Equation) → Member e m.equations → Member e (equations_in (xs ++ m ∷ []))
last-equation xs m e i =
    subst (λ zs. Member e zs) (sym (equations-append xs (m ∷ []))) (member_right e (equations_in xs) (m.equations ++ []) (member_left e m.equations [] i))

last-call : (xs : List Making) (m : Making) (c : Call) → Member c m.calls → Member c (calls_in (xs ++ m ∷ []))
last-call xs m c i = subst (λ zs. Member c zs) (sym (calls-append xs (m ∷ []))) (member_right c (calls_in xs) (m.calls ++ []) (member_left c m.calls [] i))

module _ (g : Grammar) (role : ℕ) where
  -- what a site holds of its own was made
  known : (s : Site) (ms : List Making) → s.role ≡ role → own_equations g role s.equations ≡ equations_in ms → (e : Equation)
      → (find s.equations e.left ≡ Some e.body) × (home g e.left.node ≡ s.role) → Member e (equations_in ms)
  known s ms is own e (f, h) =
      subst (λ xs. Member e xs) own
      (Member-filter (λ (e : Equation). nat_eq (home g e.left.node) role) e s.equations (find-member s.equations e.left e.body f) (eq-eqb (home g e.left.node) role (h ∙ is)))

  load-made : (s : Site) (ms : List Making) → s.role ≡ role → own_equations g role s.equations ≡ equations_in ms → (seen rs : List Ref) → AreMade ms (load_of g s seen rs)
  load-made s ms is own seen rs = each_of (λ (e : Equation). Member e (equations_in ms)) (load_of g s seen rs) (λ e i. known s ms is own e (load-own g s seen rs e i))

  -- a site sends some messages and then asks
  abbrev AreWords : List Making → List Message → Type 0
  AreWords ms xs = (m : Message) → Member m xs → IsOwnWord role ms m.kind

  both-words : (ms : List Making) (xs ys : List Message) → AreWords ms xs → AreWords ms ys → AreWords ms (xs ++ ys)
  both-words ms xs ys a b m i = elim (member_split m xs ys i) [ inl j ↦ a m j | inr j ↦ b m j ]

  asking-words : (s : Site) (ms : List Making) → s.role ≡ role → (first : List Message) (rs : List Ref) → AreWords ms first → AreWords ms (asking g s first rs).sent
  asking-words s ms is first rs a =
      let wanted = filter (is_wanted g s) (in_order rs) in
      both-words ms first (map (ask_message g s.role) wanted) a
      (λ m i. let (r, j, p) = member_unmap (ask_message g s.role) m wanted i in subst (λ (m : Message). IsOwnWord role ms m.kind) (sym p) is)

  module _ (s : Site) (is : s.role ≡ role) (ms : List Making) (own : own_equations g role s.equations ≡ equations_in ms) (words : AreWords ms s.outbox) where
    old : (ys : List Making) → AreWords (ms ++ ys) s.outbox
    old ys m i = more role ms ys m.kind (words m i)

    -- ---- a choice

    chosen-words : (c : Choice) → home g (node_of c) ≡ role → (o : Outcome Ref Ref) → AreWords (ms ++ making_of c o) (after_choice s (choose_on g s c o)).outbox
    chosen-words (Start st k) h (Refused a) = old []
    chosen-words (Start st k) h Starts = old []
    chosen-words (Start st k) h (Takes rule bound) = old []
    chosen-words (Develop n r args) h (Refused a) = old []
    chosen-words (Develop n r args) h Starts = old []
    chosen-words (Develop n r args) h (Takes rule bound) =
        let mk = made n r rule args bound in
        let ns = ms ++ mk ∷ [] in
        let inside = telling.calls_in g s.role mk.calls in
        let t : Site = record s { held = insert_all inside (map (mark n (Done r args)) s.held); choices = s.choices ++ Develop n r args ∷ []; equations = s.equations ++ mk.equations } in
        let now : own_equations g role t.equations ≡ equations_in ns =
        chosen-own g role s is (Develop n r args) h (Takes rule bound) ∙ ap (λ xs. xs ++ equations_in (mk ∷ [])) own ∙ sym (equations-append ms (mk ∷ [])) in
        let calls : AreWords ns (calls_out g t mk.calls) = λ m i.
        let (d, j, away, p) = out_case g t mk.calls m i in
        subst (λ (m : Message). IsOwnWord role ns m.kind) (sym p) (last-call ms mk d j, load-made t ns is now [] d.inherited) in
        let told : AreWords ns (tells g t mk.equations) = λ m i.
        let (e, j, to, v, p) = tell_case g t mk.equations m i in
        subst (λ (m : Message). IsOwnWord role ns m.kind) (sym p) (last-equation ms mk e j, load-made t ns is now (e.left ∷ []) (mentions e.body)) in
        let first = calls_out g t mk.calls ++ tells g t mk.equations in
        let rs = all_mentions mk.equations ++ all_inherited inside in
        both-words ns s.outbox (asking g t first rs).sent (old (mk ∷ [])) (asking-words t ns is first rs (both-words ns (calls_out g t mk.calls) (tells g t mk.equations) calls told))

    -- ---- a message

    back-words : (r : Ref) (from : ℕ) → home g r.node ≡ role → (o : Option Body) → find s.equations r ≡ o → AreWords ms (tell_back g s o r from)
    back-words r from h None e m i = never i
    back-words r from h (Some b) e m (inl p) =
        let q : Equation = record { left = r; body = b } in
        subst (λ (m : Message). IsOwnWord role ms m.kind) (sym p) (known s ms is own q (e, h ∙ sym is), load-made s ms is own (r ∷ []) (mentions b))
    back-words r from h (Some b) e m (inr i) = never i

    react-words : (k : Kind) → about_ok g s.role k ≡ true → AreWords ms (react g s k).site.outbox
    react-words (Calls c load) f =
        let t : Site = record s { held = add_held (held_of c.node s.held) c s.held; equations = add_all s.equations load } in
        let rs = c.inherited ++ all_mentions load in
        both-words ms s.outbox (asking g t [] rs).sent words (asking-words t ms is [] rs (λ m i. never i))
    react-words (Asks r from) f =
        both-words ms s.outbox (tell_back g s (find s.equations r) r from) words (back-words r from (eqb-true (home g r.node) s.role f ∙ is) (find s.equations r) refl)
    react-words (Tells e load) f =
        let t : Site = record s { equations = add_all s.equations (e ∷ load) } in
        let rs = all_mentions (e ∷ load) in
        both-words ms s.outbox (asking g t [] rs).sent words (asking-words t ms is [] rs (λ m i. never i))

    new-words : (m : Message) (y : Reaction) → receive g s m ≡ New y → AreWords ms y.site.outbox
    new-words m y e =
        let a = cond-new (not (message_ok g s.role m)) BadName _ y (λ z. absurd cc) e in
        go (is_mine g s.role m) refl a
      where
        go : (b : Bool) → is_mine g s.role m ≡ b → cond (not b) NotMine (received_on (clash s m.kind) (is_repeat s m.kind) (react g s m.kind)) ≡ New y → AreWords ms y.site.outbox
        go true i a = subst (λ (z : Reaction). AreWords ms z.site.outbox) (new-of (clash s m.kind) (is_repeat s m.kind) (react g s m.kind) y a) (react-words m.kind (and_parts _ _ i).1)
        go false i a = absurd cc

    received-words : (m : Message) (o : Received Reaction) → receive g s m ≡ o → AreWords ms (after_message s o).outbox
    received-words m (New y) e = new-words m y e
    received-words m BadName e = words
    received-words m NotMine e = words
    received-words m (Conflict a b) e = words
    received-words m Repeat e = words

    step-words : (e : SiteEvent) → IsAtHome g role e → AreWords (ms ++ makes g s e) (site_step g s e).outbox
    step-words (Chose c) h = chosen-words c h (outcome g s c)
    step-words (Got m) h = λ n i. more role ms [] n.kind (received-words m (receive g s m) refl n i)

  words-run : (s : Site) → s.role ≡ role → (ms : List Making) → own_equations g role s.equations ≡ equations_in ms → AreWords ms s.outbox → (es : List SiteEvent) → Each (IsAtHome g role) es →
      AreWords (ms ++ all_made g s es) (site_run g s es).outbox
  words-run s is ms own words [] h = λ m i. more role ms [] m.kind (words m i)
  words-run s is ms own words (e ∷ es) h =
      let t = site_step g s e in
      let now : own_equations g role t.equations ≡ equations_in (ms ++ makes g s e) =
      step-own g role s is e h.0 ∙ ap (λ xs. xs ++ equations_in (makes g s e)) own ∙ sym (equations-append ms (makes g s e)) in
      subst (λ xs. AreWords xs (site_run g t es).outbox) (append_assoc ms (makes g s e) (all_made g t es))
      (words-run t (step-role g s e ∙ is) (ms ++ makes g s e) now (step-words s is ms own words e h.0) es h.1)

-- whatever a site sends is its own word
pub sent_is_own_word : (g : Grammar) → SentIsOwnWord g
sent_is_own_word g loads role es h = words-run g role (empty_site loads role) refl [] refl (λ m i. never i) es h
