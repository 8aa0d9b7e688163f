-- No site says the same twice.
use Rattle.std.specs.Prelude.{◌&&◌, ◌⊎◌, nat_eq, not}
use Rattle.std.proofs.Common.{◌≡◌, ℕ, ◌+◌, Bool, true, false, cond, List, [], ◌∷◌, ◌++◌, map, Option, Some, None, refl, sym, ap, ◌∙◌, subst, inl, inr, append-nil}
use Rattle.std.proofs.lemmas.Bool.{and_from, and_parts, eq-eqb, eqb-true, or_left, or_right}
use Rattle.aw_list.specs.Members.{Member}
use Rattle.aw_list.proofs.Members.{member_map, member_split, member_unmap, never}
use Rattle.aw_name.specs.SameNodes.{node_self}
use Rattle.aw_term.specs.Choices.{Choice, Start, Develop, Outcome, Refused, Starts, Takes}
use Rattle.aw_term.specs.Configs.{Done, Pending, State}
use Rattle.aw_term.specs.Held.{Held, held_of, insert_all, insert_held, mark}
use Rattle.aw_term.specs.Names.{Node, Ref, below, node_eq, ref_eq, root}
use Rattle.aw_term.specs.Rules.{Grammar, Ground, Rule}
use Rattle.aw_term.specs.Trees.{Never}
use Rattle.aw_term.specs.WellFormed.{Each, Later}
use Rattle.aw_term.proofs.RefTests.{ref_eq-self}
use Rattle.aw_accept.proofs.Fitting.{each_member}
use Rattle.aw_store.specs.Equations.{Body, Equation, find, mentions}
use Rattle.aw_apply.specs.Made.{Call, Making, made}
use Rattle.aw_apply.specs.Messages.{Kind, Calls, Asks, Tells, Message, Clash, Received, BadName, NotMine, Conflict, Repeat, New}
use Rattle.aw_apply.proofs.Numbering.{made-apart}
use Rattle.aw_law_sites.specs.Asking.{all_inherited, all_mentions, asking}
use Rattle.aw_law_sites.specs.Choosing.{choose_on, develop_site, joint_of, outcome, start_site}
use Rattle.aw_law_sites.specs.Homes.{has_steps, home, parent}
use Rattle.aw_law_sites.specs.Joint.{by_root, called_held, root_held}
use Rattle.aw_law_sites.specs.Reacting.{add_held, react, receive, received_on}
use Rattle.aw_law_sites.specs.Receiving.{about_ok, add_all, clash, is_mine, is_repeat, none_mine}
use Rattle.aw_law_sites.specs.SiteEvents.{SiteEvent, Chose, Got, after_choice, after_message, site_step, site_run}
use Rattle.aw_law_sites.specs.Sites.{Site, Reaction, empty_site}
use Rattle.aw_law_sites.specs.Loads.{load_of}
use Rattle.aw_law_sites.specs.Telling.{call_out, calls_in, calls_out, tell_back, tells, watches_too}
use Rattle.aw_law_sites.specs.ValidNames.{message_ok, origin_ok}
use Rattle.aw_law_sites.specs.Worlds.{node_of}
use Rattle.aw_law_sites.proofs.AnyOrders.{Member-all_held, Member-insert_all, Member-insert_held, Member-inserted_held, Took, marked, takes}
use Rattle.aw_law_worlds.proofs.Answering.{one-place}
use Rattle.aw_law_worlds.proofs.Delivering.{has-end, parent-below}
use Rattle.aw_law_worlds.proofs.HeldOrdering.{all-ordered, insert-ordered, mark-ordered, ordered-differ, own-differ}
use Rattle.aw_law_worlds.proofs.Learning.{add-member, find-member}
use Rattle.aw_law_worlds.proofs.Lists.{later_both}
use Rattle.aw_law_worlds.proofs.Parts.{Apart, Kin, KindKin}
use Rattle.aw_law_worlds.proofs.SentLemmas.{call_case, calls_differ, in_case, out_apart, out_case, tell_case, tells_apart}
use Rattle.aw_law_worlds.proofs.Growing.{new-of}
use Rattle.aw_law_forged.specs.Forged.{IsAtHome, SameKind, SaysOnce}
use Rattle.aw_law_forged.proofs.OwnEquations.{made-left}
use Rattle.aw_law_forged.proofs.Traces.{AllSaid, Good, IsDone, Nodes, Said, asking-good, false-of, none-there, said-on, same-held}

module _ (g : Grammar) (role : ℕ) (s : Site) (G : Good g role s) where
  differ : Later (λ (a b : Held). a.node ≡ b.node → Never) s.held
  differ = ordered-differ s.held G.nodes.ordered

  -- ---- a start

  start-good : (st k : ℕ) → held_of (root st k) s.held ≡ None → Good g role (start_site s st k)
  start-good st k e =
      let h = root_held st k in
      let d : (x : Node) → IsDone x s.held → IsDone x (insert_held h s.held) = λ x z. (z.0, Member-inserted_held z.0 h s.held (inr z.1), z.2, z.3) in
      record {
        nodes = record {
          is = G.nodes.is;
          ordered = insert-ordered h s.held (λ p i q. none-there s.held differ (root st k) e p i (sym q)) G.nodes.ordered;
          developed = λ q i a. d q.left.node (G.nodes.developed q i a);
          children = λ q i w a. elim (Member-insert_held q h s.held i) [
            | inl p ↦ absurd (let no : false ≡ true = ap (λ (x : Held). has_steps x.node.steps) (sym p) ∙ w in cc no)
            | inr o ↦ d (parent q.node) (G.nodes.children q o w a)
          ];
        };
        said = λ m i. said-on s (start_site s st k) d (λ r j. j) (λ r b j. j) m.to m.kind (G.said m i);
        apart = G.apart;
      }

  -- ---- a rule

  module _ (n : Node) (ri : ℕ) (args : List Ground) (rule : Rule) (bound : List Ref) (at_home : home g n ≡ role) (e0 : outcome g s (Develop n ri args) ≡ Takes rule bound) where
    T : Took g (joint_of s) n ri args rule bound
    T = takes g (joint_of s) n ri args rule bound e0

    -- it was pending
    pub not_done : IsDone n s.held → Never
    not_done (d, i, q, w) = w (ap (λ (h : Held). h.state) (same-held s.held differ d T.held i T.is_held (q ∙ sym T.node)) ∙ T.open_)

    abbrev mk : Making
    mk = made n ri rule args bound

    abbrev stt : State
    stt = Done ri args

    abbrev own : List Held
    own = calls_in g s.role mk.calls

    abbrev t : Site
    t = record s { held = insert_all own (map (mark n stt) s.held); choices = s.choices ++ Develop n ri args ∷ []; equations = s.equations ++ mk.equations }

    still : (b : Bool) (h : Held) → (h.state ≡ Pending → Never) → (cond b (record h { state = stt }) h).state ≡ Pending → Never
    still true h w e = absurd cc
    still false h w e = w e

    becomes : (b : Bool) (h : Held) → b ≡ true → (cond b (record h { state = stt }) h).state ≡ Pending → Never
    becomes true h p e = absurd cc
    becomes false h p e = absurd cc

    mark_here : (h : Held) → Member h s.held → Member (mark n stt h) t.held
    mark_here h i = Member-all_held (mark n stt h) own (map (mark n stt) s.held) (inr (member_map (mark n stt) h s.held i))

    done_on : (x : Node) → IsDone x s.held → IsDone x t.held
    done_on x (h, i, q, w) = (mark n stt h, mark_here h i, (marked n stt h).0 ∙ q, still (node_eq n h.node) h w)

    now_done : IsDone n t.held
    now_done = (mark n stt T.held, mark_here T.held T.is_held, (marked n stt T.held).0 ∙ T.node, becomes (node_eq n T.held.node) T.held (subst (λ m. node_eq n m ≡ true) (sym T.node) (node_self n)))

    kid : (c : Call) → Member c mk.calls → (i : ℕ) × (c.node ≡ below n ri i)
    kid c m = let (j, d, f, q, w) = call_case n ri _ rule.children 1 _ c m in (1 + j, q)

    kid_parent : (c : Call) → Member c mk.calls → parent c.node ≡ n
    kid_parent c m = let (i, q) = kid c m in ap parent q ∙ parent-below n ri i

    -- none of its children is held
    no_kid : (h : Held) → Member h s.held → (c : Call) → Member c mk.calls → h.node ≡ c.node → Never
    no_kid h i c m e =
        let (j, q) = kid c m in
        let p : parent h.node ≡ n = ap parent e ∙ kid_parent c m in
        let steps : has_steps h.node.steps ≡ true = ap (λ x. has_steps x.steps) (e ∙ q) ∙ has-end n.steps _ in
        not_done (subst (λ x. IsDone x s.held) p (G.nodes.children h i steps (ap (home g) p ∙ at_home)))

    own_case : (h : Held) → Member h own → (c : Call) × Member c mk.calls × (h ≡ called_held c)
    own_case h i = let (c, m, p, q) = in_case g s.role mk.calls h i in (c, m, q)

    left_node : (e : Equation) → Member e mk.equations → e.left.node ≡ n
    left_node e i = each_member (λ (e : Equation). e.left.node ≡ n) mk.equations e (made-left n ri rule args bound) i

    nodes_then : Nodes g role t
    nodes_then = record {
      is = G.nodes.is;
      ordered = all-ordered own (map (mark n stt) s.held)
          (own-differ g s.role mk.calls (λ h cs m. let (d, i, q, p) = in_case g s.role cs h m in (d, i, p)) (calls_differ n ri _ rule.children 1 _))
          (λ h m p mp e. let (c, i, z) = own_case h m in let (d, j, y) = member_unmap (mark n stt) p s.held mp in
          no_kid d j c i (sym (marked n stt d).0 ∙ (sym (ap (λ (h : Held). h.node) y) ∙ (sym e ∙ ap (λ (h : Held). h.node) z))))
          (mark-ordered n stt s.held G.nodes.ordered);
      developed = λ e i a. elim (member_split e s.equations mk.equations i) [
        | inl o ↦ done_on e.left.node (G.nodes.developed e o a)
        | inr o ↦ subst (λ x. IsDone x t.held) (sym (left_node e o)) now_done
      ];
      children = λ h i w a. elim (Member-insert_all h own (map (mark n stt) s.held) i) [
        | inl o ↦ (let (c, m, z) = own_case h o in subst (λ x. IsDone x t.held) (sym (ap (λ (h : Held). parent h.node) z ∙ kid_parent c m)) now_done)
        | inr o ↦ (let (d, j, y) = member_unmap (mark n stt) h s.held o in
            let same : h.node ≡ d.node = ap (λ (h : Held). h.node) y ∙ (marked n stt d).0 in
            subst (λ x. IsDone (parent x) t.held) (sym same)
            (done_on (parent d.node) (G.nodes.children d j (ap (λ x. has_steps x.steps) (sym same) ∙ w) (ap (λ x. home g (parent x)) (sym same) ∙ a))))
      ];
    }

    abbrev first : List Message
    first = calls_out g t mk.calls ++ tells g t mk.equations

    first_case : (m : Message) → Member m first
        → ((c : Call) × Member c mk.calls × (m.kind ≡ Calls c (load_of g t [] c.inherited)))
        ⊎ ((e : Equation) × Member e mk.equations × (t.watches e.left m.to ≡ true) × (m.kind ≡ Tells e (load_of g t (e.left ∷ []) (mentions e.body))))
    first_case m i = elim (member_split m (calls_out g t mk.calls) (tells g t mk.equations) i) [
      | inl u ↦ (let (c, j, q, p) = out_case g t mk.calls m u in inl (c, j, ap (λ (m : Message). m.kind) p))
      | inr u ↦ (let (e, j, b, w, p) = tell_case g t mk.equations m u in inr (e, j, subst (λ x. t.watches e.left x ≡ true) (sym (ap (λ (m : Message). m.to) p)) w, ap (λ (m : Message). m.kind) p))
    ]

    first_said : AllSaid t first
    first_said m i = elim (first_case m i) [
      | inl (c, j, p) ↦ subst (λ k. Said t m.to k) (sym p) (subst (λ x. IsDone x t.held) (sym (kid_parent c j)) now_done)
      | inr (e, j, w, p) ↦ subst (λ k. Said t m.to k) (sym p) (w, subst (λ x. IsDone x t.held) (sym (left_node e j)) now_done)
    ]

    old_call : (to : ℕ) (k : Kind) (c : Call) (l : List Equation) → Said s to k → Member c mk.calls → KindKin k (Calls c l) → Never
    old_call to (Calls d l') c l i m z = not_done (subst (λ x. IsDone x s.held) (ap parent z ∙ kid_parent c m) i)
    old_call to (Asks r b) c l i m z = never z
    old_call to (Tells f l') c l i m z = never z

    old_tell : (to : ℕ) (k : Kind) (e : Equation) (l : List Equation) → Said s to k → Member e mk.equations → KindKin k (Tells e l) → Never
    old_tell to (Calls d l') e l i m z = never z
    old_tell to (Asks r b) e l i m z = never z
    old_tell to (Tells f l') e l i m z = not_done (subst (λ x. IsDone x s.held) (ap (λ (r : Ref). r.node) z ∙ left_node e m) i.1)

    first_apart : Later Apart first
    first_apart =
        let (z, A) = made-apart n ri rule args bound in
        later_both Apart (calls_out g t mk.calls) (tells g t mk.equations) (out_apart g t mk.calls (calls_differ n ri _ rule.children 1 _)) (tells_apart g t mk.equations A.differ)
        (λ m o i j k. let (c, ic, q, p) = out_case g t mk.calls m i in let (e, ie, b, w, u) = tell_case g t mk.equations o j in
        subst (λ (m : Message). Kin m o → Never) (sym p) (subst (λ (o : Message). Kin (call_out g t c) o → Never) (sym u) (λ k. k.1)) k)

    develop-good : Good g role (develop_site g s (Develop n ri args) n ri args mk).site
    develop-good =
        asking-good g role t nodes_then first
        (λ m i. elim (member_split m s.outbox first i) [
          | inl o ↦ said-on s t done_on (λ r j. j) (λ r b j. j) m.to m.kind (G.said m o)
          | inr o ↦ first_said m o
        ])
        (later_both Apart s.outbox first G.apart first_apart
        (λ m o i j k. elim (first_case o j) [
          | inl (c, ic, p) ↦ old_call m.to m.kind c _ (G.said m i) ic (subst (λ q. KindKin m.kind q) p k.1)
          | inr (e, ie, w, p) ↦ old_tell m.to m.kind e _ (G.said m i) ie (subst (λ q. KindKin m.kind q) p k.1)
        ]))
        (all_mentions mk.equations ++ all_inherited own)

  -- ---- a message

  -- an equation that was added is of another role
  others : (es : List Equation) → none_mine g role es ≡ true → (e : Equation) → Member e es → home g e.left.node ≡ role → Never
  others [] f e i a = never i
  others (d ∷ es) f e (inl p) a =
      let z = (and_parts (not (nat_eq (home g d.left.node) role)) (none_mine g role es) f).0 in
      let no : true ≡ false = sym (eq-eqb (home g d.left.node) role (ap (λ (e : Equation). home g e.left.node) (sym p) ∙ a)) ∙ false-of _ z in
      absurd (cc no)
  others (d ∷ es) f e (inr i) a = others es (and_parts (not (nat_eq (home g d.left.node) role)) (none_mine g role es) f).1 e i a

  -- the nodes and equations of a message that is new
  developed-then : (ks : List Held) → ((x : Node) → IsDone x s.held → IsDone x ks) → (es : List Equation) → none_mine g role es ≡ true → (e : Equation)
      → Member e (add_all s.equations es) → home g e.left.node ≡ role → IsDone e.left.node ks
  developed-then ks d es f e i a = elim (add-member s.equations es e i) [ inl o ↦ d e.left.node (G.nodes.developed e o a) | inr o ↦ never (others es f e o a) ]

  called-good : (c : Call) (load : List Equation) → none_mine g role load ≡ true → (home g (parent c.node) ≡ role → Never) → (o : Option Held) → held_of c.node s.held ≡ o →
      Good g role (asking g (record s { held = add_held o c s.held; equations = add_all s.equations load }) [] (c.inherited ++ all_mentions load)).site
  called-good c load f away None e =
      let h = called_held c in
      let d : (x : Node) → IsDone x s.held → IsDone x (insert_held h s.held) = λ x z. (z.0, Member-inserted_held z.0 h s.held (inr z.1), z.2, z.3) in
      let u : Site = record s { held = insert_held h s.held; equations = add_all s.equations load } in
      quietly u
      (record {
        is = G.nodes.is;
        ordered = insert-ordered h s.held (λ p i q. none-there s.held differ c.node e p i (sym q)) G.nodes.ordered;
        developed = developed-then u.held d load f;
        children = λ q i w a. elim (Member-insert_held q h s.held i) [
          | inl p ↦ never (away (ap (λ (x : Held). home g (parent x.node)) (sym p) ∙ a))
          | inr o ↦ d (parent q.node) (G.nodes.children q o w a)
        ];
      }) refl (λ m. said-on s u d (λ r j. j) (λ r b j. j) m.to m.kind) (c.inherited ++ all_mentions load)
    where
      quietly : (u : Site) → Nodes g role u → u.outbox ≡ s.outbox → ((m : Message) → Said s m.to m.kind → Said u m.to m.kind) → (rs : List Ref) → Good g role (asking g u [] rs).site
      quietly u N same on rs =
          let out : u.outbox ++ [] ≡ s.outbox = append-nil u.outbox ∙ same in
          asking-good g role u N [] (subst (λ xs. AllSaid u xs) (sym out) (λ m i. on m (G.said m i))) (subst (λ xs. Later Apart xs) (sym out) G.apart) rs
  called-good c load f away (Some h) e =
      let u : Site = record s { equations = add_all s.equations load } in
      asking-good g role u (record { is = G.nodes.is; ordered = G.nodes.ordered; developed = developed-then s.held (λ x d. d) load f; children = G.nodes.children }) []
      (subst (λ xs. AllSaid u xs) (sym (append-nil s.outbox)) (λ m i. said-on s u (λ x d. d) (λ r j. j) (λ r b j. j) m.to m.kind (G.said m i)))
      (subst (λ xs. Later Apart xs) (sym (append-nil s.outbox)) G.apart) (c.inherited ++ all_mentions load)

  told-good : (e : Equation) (load : List Equation) → none_mine g role (e ∷ load) ≡ true → Good g role (react g s (Tells e load)).site
  told-good e load f =
      let u : Site = record s { equations = add_all s.equations (e ∷ load) } in
      asking-good g role u (record { is = G.nodes.is; ordered = G.nodes.ordered; developed = developed-then s.held (λ x d. d) (e ∷ load) f; children = G.nodes.children }) []
      (subst (λ xs. AllSaid u xs) (sym (append-nil s.outbox)) (λ m i. said-on s u (λ x d. d) (λ r j. j) (λ r b j. j) m.to m.kind (G.said m i)))
      (subst (λ xs. Later Apart xs) (sym (append-nil s.outbox)) G.apart) (all_mentions (e ∷ load))

  -- a question that was noted is not asked again
  old_watch : (m : Message) (r : Ref) (b : Body) (l : List Equation) (from : ℕ) → s.watches r from ≡ false → (k : Kind) → Said s m.to k → m.to ≡ from
      → KindKin k (Tells (record { left = r; body = b }) l) → Never
  old_watch m r b l from f (Calls d l') i t z = never z
  old_watch m r b l from f (Asks q a) i t z = never z
  old_watch m r b l from f (Tells e l') i t z =
      let there : s.watches r from ≡ true = subst (λ (q : Ref). s.watches q from ≡ true) z (subst (λ x. s.watches e.left x ≡ true) t i.0) in
      let no : true ≡ false = sym there ∙ f in
      absurd (cc no)

  asked-good : (r : Ref) (from : ℕ) → home g r.node ≡ role → s.watches r from ≡ false → (o : Option Body) → find s.equations r ≡ o →
      Good g role (record s { watches = watches_too s.watches r from; outbox = s.outbox ++ tell_back g s o r from })
  asked-good r from a f o e =
      let u : Site = record s { watches = watches_too s.watches r from; outbox = s.outbox ++ tell_back g s o r from } in
      let on : (m : Message) → Said s m.to m.kind → Said u m.to m.kind = λ m. said-on s u (λ x d. d) (λ q j. j) (λ q b j. or_right (ref_eq r q && nat_eq from b) (s.watches q b) j) m.to m.kind in
      record {
        nodes = record { is = G.nodes.is; ordered = G.nodes.ordered; developed = G.nodes.developed; children = G.nodes.children };
        said = λ m i. elim (member_split m s.outbox (tell_back g s o r from) i) [ inl j ↦ on m (G.said m j) | inr j ↦ back o e m j ];
        apart = later_both Apart s.outbox (tell_back g s o r from) G.apart (alone o) (λ m n i j k. far o m n i j k);
      }
    where
      back : (o : Option Body) → find s.equations r ≡ o → (m : Message) → Member m (tell_back g s o r from)
          → Said (record s { watches = watches_too s.watches r from; outbox = s.outbox ++ tell_back g s o r from }) m.to m.kind
      back None e m i = never i
      back (Some b) e m (inl p) =
          subst (λ (m : Message). Said (record s { watches = watches_too s.watches r from; outbox = s.outbox ++ tell_back g s (Some b) r from }) m.to m.kind) (sym p)
          (or_left _ (s.watches r from) (and_from _ _ (ref_eq-self r) (eq-eqb from from refl)), G.nodes.developed (record { left = r; body = b }) (find-member s.equations r b e) a)
      back (Some b) e m (inr i) = never i

      alone : (o : Option Body) → Later Apart (tell_back g s o r from)
      alone None = tt
      alone (Some b) = (tt, tt)

      far : (o : Option Body) (m n : Message) → Member m s.outbox → Member n (tell_back g s o r from) → Kin m n → Never
      far None m n i j k = never j
      far (Some b) m n i (inl p) k =
          let q = subst (λ (n : Message). Kin m n) p k in
          old_watch m r b _ from f m.kind (G.said m i) q.0 q.1
      far (Some b) m n i (inr j) k = never j

  react-good : (k : Kind) → origin_ok g role k ≡ true → about_ok g role k ≡ true → is_repeat s k ≡ false → Good g role (react g s k).site
  react-good (Calls c load) o f r =
      called-good c load (and_parts _ _ f).1
      (λ a. let z = (and_parts (has_steps c.node.steps) _ o).1 in let no : true ≡ false = sym (eq-eqb (home g (parent c.node)) role a) ∙ false-of _ z in absurd (cc no))
      (held_of c.node s.held) refl
  react-good (Asks r from) o f w = asked-good r from (eqb-true (home g r.node) role f) w (find s.equations r) refl
  react-good (Tells e load) o f r = told-good e load f

  received-good : (m : Message) (x : Received Reaction) → receive g s m ≡ x → Good g role (after_message s x)
  received-good m (New y) e = go (message_ok g s.role m) (is_mine g s.role m) refl refl e
    where
      on : message_ok g s.role m ≡ true → is_mine g s.role m ≡ true → (b : Bool) → is_repeat s m.kind ≡ b → received_on (clash s m.kind) b (react g s m.kind) ≡ New y → Good g role y.site
      on a i true r e = never (none (clash s m.kind) e)
        where
          none : (o : Option Clash) → received_on o true (react g s m.kind) ≡ New y → Never
          none (Some c) e = absurd cc
          none None e = absurd cc
      on a i false r e =
          let names = (and_parts _ _ a).1 in
          subst (λ (z : Reaction). Good g role z.site) (new-of (clash s m.kind) false (react g s m.kind) y e)
          (react-good m.kind (subst (λ x. origin_ok g x m.kind ≡ true) G.nodes.is (and_parts _ _ names).1) (subst (λ x. about_ok g x m.kind ≡ true) G.nodes.is (and_parts _ _ i).1) r)

      go : (a b : Bool) → message_ok g s.role m ≡ a → is_mine g s.role m ≡ b
          → cond (not a) BadName (cond (not b) NotMine (received_on (clash s m.kind) (is_repeat s m.kind) (react g s m.kind))) ≡ New y → Good g role y.site
      go false b p q e = absurd cc
      go true false p q e = absurd cc
      go true true p q e = on p q (is_repeat s m.kind) refl e
  received-good m BadName e = G
  received-good m NotMine e = G
  received-good m (Conflict a b) e = G
  received-good m Repeat e = G

  chosen-good : (c : Choice) → home g (node_of c) ≡ role → (o : Outcome Ref Ref) → outcome g s c ≡ o → Good g role (after_choice s (choose_on g s c o))
  chosen-good (Start st k) h (Refused a) e = G
  chosen-good (Start st k) h Starts e = start-good st k (free (held_of (root st k) s.held) refl e)
    where
      free : (o : Option Held) → held_of (root st k) s.held ≡ o → by_root o ≡ Starts → held_of (root st k) s.held ≡ None
      free None p q = p
      free (Some x) p q = absurd cc
  chosen-good (Start st k) h (Takes rule bound) e = G
  chosen-good (Develop n r args) h (Refused a) e = G
  chosen-good (Develop n r args) h Starts e = G
  chosen-good (Develop n r args) h (Takes rule bound) e = develop-good n r args rule bound h e

  pub step-good : (e : SiteEvent) → IsAtHome g role e → Good g role (site_step g s e)
  step-good (Chose c) h = chosen-good c h (outcome g s c) refl
  step-good (Got m) h = received-good m (receive g s m) refl

run-good : (g : Grammar) (role : ℕ) (s : Site) → Good g role s → (es : List SiteEvent) → Each (IsAtHome g role) es → Good g role (site_run g s es)
run-good g role s G [] h = G
run-good g role s G (e ∷ es) h = run-good g role (site_step g s e) (step-good g role s G e h.0) es h.1

pub none-good : (g : Grammar) (loads : Bool) (role : ℕ) → Good g role (empty_site loads role)
none-good g loads role = record {
  nodes = record { is = refl; ordered = tt; developed = λ e i a. never i; children = λ h i w a. never i };
  said = λ m i. never i;
  apart = tt;
}

-- the same words are kin
as-kin : (k l : Kind) → SameKind k l → KindKin k l
as-kin (Calls c load) (Calls d load') z = z
as-kin (Asks r from) (Asks q from') z = z
as-kin (Tells e load) (Tells f load') z = z
as-kin (Calls c load) (Asks q a) z = never z
as-kin (Calls c load) (Tells f l) z = never z
as-kin (Asks r a) (Calls d l) z = never z
as-kin (Asks r a) (Tells f l) z = never z
as-kin (Tells e load) (Calls d l) z = never z
as-kin (Tells e load) (Asks q a) z = never z

kin-back : (k l : Kind) → SameKind k l → KindKin l k
kin-back (Calls c load) (Calls d load') z = sym z
kin-back (Asks r from) (Asks q from') z = (sym z.0, sym z.1)
kin-back (Tells e load) (Tells f load') z = sym z
kin-back (Calls c load) (Asks q a) z = never z
kin-back (Calls c load) (Tells f l) z = never z
kin-back (Asks r a) (Calls d l) z = never z
kin-back (Asks r a) (Tells f l) z = never z
kin-back (Tells e load) (Calls d l) z = never z
kin-back (Tells e load) (Asks q a) z = never z

-- no site says the same twice
pub says_once : (g : Grammar) → SaysOnce g
says_once g loads role es h j k m n a b z =
    let G = run-good g role (empty_site loads role) (none-good g loads role) es h in
    one-place (site_run g (empty_site loads role) es).outbox G.apart j k m n a b (z.0, as-kin m.kind n.kind z.1) (sym z.0, kin-back m.kind n.kind z.1)
