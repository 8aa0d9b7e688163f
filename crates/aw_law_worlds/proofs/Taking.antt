-- A rule that is taken at its home is taken in the joint configuration, and keeps the invariant.
use Rattle.std.specs.Prelude.{is_some, ◌⊎◌}
use Rattle.std.proofs.Common.{Bool, List, None, Option, Some, [], ap, arith, false, inl, inr, length, map, refl, subst, sym, true, ℕ, ◌++◌, ◌+◌, ◌<◌, ◌∙◌, ◌∷◌, ◌≡◌, cond}
use Rattle.aw_list.specs.Members.{Member}
use Rattle.aw_list.proofs.Members.{member_got, member_left, member_map, member_right, member_split, member_unmap, never}
use Rattle.aw_iograph.proofs.Relations.{io_closed}
use Rattle.aw_law_worlds.proofs.Lists.{later_both}
use Rattle.aw_term.specs.Choices.{outcome as plain_outcome, Develop, Outcome, Refused, Starts, Takes}
use Rattle.aw_term.specs.Configs.{Done, State, row_of}
use Rattle.aw_term.specs.Matching.{Yes}
use Rattle.aw_term.specs.Names.{Node, Ref, below, node_eq}
use Rattle.aw_term.specs.Rules.{Grammar, Ground, Rule, Value, sort_of}
use Rattle.aw_term.specs.Trees.{Never}
use Rattle.aw_term.specs.Held.{Held, held_of, insert_all, mark}
use Rattle.aw_name.specs.SameNodes.{node_self}
use Rattle.aw_iograph.specs.Dependence.{HasNoCircle, IO}
use Rattle.aw_accept.specs.Acyclic.{IsGivenGrammar}
use Rattle.aw_accept.proofs.Fitting.{each_member}
use Rattle.aw_accept.proofs.UndividedRuns.{decode_on, taking}
use Rattle.aw_store.specs.Equations.{Body, Equation, find, mentions}
use Rattle.aw_store.proofs.MoreEquations.{find-left_more, find-right_more, Holds}
use Rattle.aw_apply.specs.Guard.{guard_all}
use Rattle.aw_apply.specs.Made.{Call, Making, made}
use Rattle.aw_apply.specs.Messages.{Asks, Calls, Kind, Message, Tells}
use Rattle.aw_apply.proofs.Numbering.{Lies, made-apart}
use Rattle.aw_law_sites.specs.Joint.{Joint, add_made, by_held, called_held, joint_outcome}
use Rattle.aw_law_sites.proofs.AnyOrders.{Member-all_held, Member-insert_all, Took, held_of-found, marked, option_cases, takes, yes-kept}
use Rattle.aw_law_sites.proofs.Entering.{VariablesEnter}
use Rattle.aw_law_sites.proofs.Lockstep.{answers_agree}
use Rattle.aw_law_sites.proofs.OutcomesAlike.{OutLike}
use Rattle.aw_law_sites.proofs.SameConfigs.{Fit, fit_of, row_for}
use Rattle.aw_law_sites.specs.Asking.{all_inherited, all_mentions, ask_message, asking}
use Rattle.aw_law_sites.specs.Choosing.{develop_site, joint_of, outcome}
use Rattle.aw_law_sites.specs.Homes.{home, parent}
use Rattle.aw_law_sites.specs.Loads.{load_of}
use Rattle.aw_law_sites.specs.Sites.{Site}
use Rattle.aw_law_sites.specs.Telling.{call_out, calls_in, calls_out, tell, tells}
use Rattle.aw_law_worlds.specs.Invariant.{sender}
use Rattle.aw_law_worlds.proofs.Answering.{carries-own, load-none, load-own, own-sent}
use Rattle.aw_law_worlds.proofs.AskingLemmas.{ask_case, asked_cases, asked_more, asks, asks_apart, asks_away, asks_no_mark, asks_not_sent, asks_sound, settles}
use Rattle.aw_law_worlds.proofs.Changes.{Change, NewSound}
use Rattle.aw_law_worlds.proofs.Delivering.{parent-below}
use Rattle.aw_law_worlds.proofs.HeldLookups.{held_of-there, inherited-of, mark_other, node_cases, of-inherited, same_state}
use Rattle.aw_law_worlds.proofs.HeldOrdering.{all-ordered, mark-ordered, own-differ}
use Rattle.aw_law_worlds.proofs.Learning.{Keyed, find-member, member-found, mentions-of, of-mentions}
use Rattle.aw_law_worlds.proofs.Parts.{Apart, Inv, IsCalled, IsLight, Kin, KindKin, Mark, Sends_own, Sound}
use Rattle.aw_law_worlds.proofs.SentLemmas.{call_case, calls_differ, in_case, in_has, out_apart, out_case, out_has, tell_case, tell_has, tells_apart}
use Rattle.aw_law_worlds.proofs.Starting.{IsHomed, called_below}
use Rattle.aw_law_worlds.proofs.Places.{same_or_not}

module _ (g : Grammar) (fit : IsGivenGrammar g) (enter : VariablesEnter g) (ok : HasNoCircle g (IO g)) (roles : IsHomed g) (loads : Bool) (S : ℕ → Site) (M : List Message) (D : ℕ → Type 0) (x : Joint) (I : Inv g loads S M D x) (F : Fit g fit enter ok x) (keyed : Keyed x.equations) where
  one : (h h' : Held) → Member h x.held → Member h' x.held → h.node ≡ h'.node → h ≡ h'
  one = (fit_of g fit enter ok x F).apart

  module _ (a : ℕ) (n : Node) (ri : ℕ) (args : List Ground) (rule : Rule) (bound : List Ref) (at_home : home g n ≡ a) (e0 : outcome g (S a) (Develop n ri args) ≡ Takes rule bound) where
    T : Took g (joint_of (S a)) n ri args rule bound
    T = takes g (joint_of (S a)) n ri args rule bound e0

    extends : (r : Ref) (b : Body) → find (S a).equations r ≡ Some b → find x.equations r ≡ Some b
    extends r b f = keyed (record { left = r; body = b }) (I.parts a (record { left = r; body = b }) (find-member (S a).equations r b f))

    in_whole : Member T.held x.held
    in_whole = (I.held a T.held T.is_held).0

    -- the whole takes it too
    whole_on : (o : Option Held) → held_of n (S a).held ≡ o → by_held o g (S a).equations n ri args ≡ Takes rule bound → joint_outcome x g (Develop n ri args) ≡ Takes rule bound
    whole_on None f e = absurd cc
    whole_on (Some h) f e =
        let (i, nd) = held_of-found n (S a).held h f in
        let same : T.held ≡ h = one T.held h in_whole (I.held a h i).0 (T.node ∙ sym nd) in
        let p = held_of-there x.held h n nd (λ q j w. one q h j (I.held a h i).0 w) (I.held a h i).0 in
        let y = subst (λ (h : Held). guard_all (S a).equations 1 rule.patterns h.inherited ≡ Yes bound) same T.yes in
        let y' = yes-kept (S a).equations x.equations extends rule.patterns h.inherited bound y in
        ap (λ o. by_held o g x.equations n ri args) p ∙ (same_state g h.state x.equations (S a).equations n ri args h rule T.rule_is (y' ∙ sym y) ∙ e)

    pub in_outcome : joint_outcome x g (Develop n ri args) ≡ Takes rule bound
    in_outcome = whole_on (held_of n (S a).held) refl e0

    -- no child of it is anywhere
    fresh_on : (o : Outcome Value Ref) → plain_outcome g F.config (Develop n ri args) ≡ o → OutLike x.equations (Takes rule bound) o → (h : Held) → Member h x.held → (i : ℕ) → h.node ≡ below n ri i → Never
    fresh_on (Refused z) f l h m i e = never l
    fresh_on Starts f l h m i e = never l
    fresh_on (Takes rule' bs) f l h m i e =
        let Dd = decode_on g F.config (row_of n F.config) n ri args rule' bs refl f in
        let P = taking g fit (IO g) (io_closed g) ok F.config n ri args rule' bs F.joint.good Dd in
        let (q, mq, ag) = row_for g fit enter ok x.equations x.held F.config F.joint.pairs h m in
        P.fresh q mq i (sym ag.node ∙ (e ∙ ap (λ n. below n ri i) (sym Dd.node)))

    pub fresh : (h : Held) → Member h x.held → (i : ℕ) → h.node ≡ below n ri i → Never
    fresh = fresh_on (plain_outcome g F.config (Develop n ri args)) refl (subst (λ o. OutLike x.equations o (plain_outcome g F.config (Develop n ri args))) in_outcome (answers_agree g fit enter ok x F.config F.joint (Develop n ri args)))

    own_free : (r : Ref) → r.node ≡ n → find x.equations r ≡ None
    own_free r e = (fit_of g fit enter ok x F).open_free T.held in_whole T.open_ r (e ∙ sym T.node)

    abbrev mk : Making
    mk = made n ri rule args bound

    abbrev stt : State
    stt = Done ri args

    abbrev s : Site
    s = S a

    abbrev own : List Held
    own = calls_in g s.role mk.calls

    abbrev s1 : Site
    s1 = record (S a) { held = insert_all own (map (mark n stt) (S a).held); choices = (S a).choices ++ Develop n ri args ∷ []; equations = (S a).equations ++ mk.equations }

    abbrev first : List Message
    first = calls_out g s1 mk.calls ++ tells g s1 mk.equations

    abbrev rs : List Ref
    rs = all_mentions mk.equations ++ all_inherited own

    abbrev ask : List Message
    ask = asks g loads S M D x I a s1 rs (I.roles a) refl

    abbrev y1 : Joint
    y1 = add_made x n stt mk

    left_node : (e : Equation) → Member e mk.equations → e.left.node ≡ n
    left_node e i = let (z, A) = made-apart n ri rule args bound in (each_member (Lies n 1 z 1 (1 + length rule.results)) mk.equations e A.lie i).0

    kid : (c : Call) → Member c mk.calls → (i : ℕ) × (c.node ≡ below n ri i)
    kid c m = let (j, d, f, q, w) = call_case n ri _ rule.children 1 _ c m in (1 + j, q)

    no_kid : (h : Held) → Member h x.held → (c : Call) → Member c mk.calls → h.node ≡ c.node → Never
    no_kid h i c m e = let (j, q) = kid c m in fresh h i j (e ∙ q)

    gone : (r : Ref) → r.node ≡ n → find (S a).equations r ≡ None
    gone r e = go (find (S a).equations r) refl
      where
        go : (o : Option Body) → find (S a).equations r ≡ o → find (S a).equations r ≡ None
        go None f = f
        go (Some b) f = let z = extends r b f in let y = own_free r e in absurd cc

    holds_at : (es : List Equation) → Holds mk.equations es → (e : Equation) → Member e es → find mk.equations e.left ≡ Some e.body
    holds_at [] h e i = never i
    holds_at (d ∷ es) h e (inl p) = subst (λ (e : Equation). find mk.equations e.left ≡ Some e.body) (sym p) h.0
    holds_at (d ∷ es) h e (inr i) = holds_at es h.1 e i

    new_found : (e : Equation) → Member e mk.equations → find s1.equations e.left ≡ Some e.body
    new_found e i =
        let (z, A) = made-apart n ri rule args bound in
        find-right_more (S a).equations mk.equations e.left (gone e.left (left_node e i)) ∙ holds_at mk.equations A.hold e i

    pub keyed_next : Keyed (x.equations ++ mk.equations)
    keyed_next e m = elim (member_split e x.equations mk.equations m) [
      | inl o ↦ find-left_more x.equations mk.equations e.left e.body (keyed e o)
      | inr i ↦ (let (z, A) = made-apart n ri rule args bound in
          find-right_more x.equations mk.equations e.left (own_free e.left (left_node e i)) ∙ holds_at mk.equations A.hold e i)
    ]

    part_of : (e : Equation) → Member e s1.equations → Member e y1.equations
    part_of e i = elim (member_split e (S a).equations mk.equations i) [ inl o ↦ member_left e x.equations mk.equations (I.parts a e o) | inr o ↦ member_right e x.equations mk.equations o ]

    kid_held : (c : Call) → Member c mk.calls → Member (called_held c) y1.held
    kid_held c m = Member-all_held (called_held c) (map called_held mk.calls) (map (mark n stt) x.held) (inl (member_map called_held c mk.calls m))

    mark_in : (h : Held) → Member h x.held → Member (mark n stt h) y1.held
    mark_in h i = Member-all_held (mark n stt h) (map called_held mk.calls) (map (mark n stt) x.held) (inr (member_map (mark n stt) h x.held i))

    mark_here : (h : Held) → Member h (S a).held → Member (mark n stt h) s1.held
    mark_here h i = Member-all_held (mark n stt h) own (map (mark n stt) (S a).held) (inr (member_map (mark n stt) h (S a).held i))

    unmarked : (h : Held) → node_eq n h.node ≡ false → mark n stt h ≡ h
    unmarked h e = mark_other (node_eq n h.node) stt h e

    own_case : (h : Held) → Member h own → (c : Call) × Member c mk.calls × (home g c.node ≡ a) × (h ≡ called_held c)
    own_case h i = let (c, m, p, q) = in_case g s.role mk.calls h i in (c, m, p ∙ I.roles a, q)

    held_cases : (h : Held) → Member h s1.held → ((c : Call) × Member c mk.calls × (home g c.node ≡ a) × (h ≡ called_held c)) ⊎ ((d : Held) × Member d (S a).held × (h ≡ mark n stt d))
    held_cases h i = elim (Member-insert_all h own (map (mark n stt) (S a).held) i) [ inl o ↦ inl (own_case h o) | inr o ↦ inr (member_unmap (mark n stt) h (S a).held o) ]

    whole_cases : (h : Held) → Member h y1.held → ((c : Call) × Member c mk.calls × (h ≡ called_held c)) ⊎ ((d : Held) × Member d x.held × (h ≡ mark n stt d))
    whole_cases h i = elim (Member-insert_all h (map called_held mk.calls) (map (mark n stt) x.held) i) [ inl o ↦ inl (member_unmap called_held h mk.calls o) | inr o ↦ inr (member_unmap (mark n stt) h x.held o) ]

    -- the node itself is held here
    the_node : (d : Held) → Member d x.held → n ≡ d.node → Member d (S a).held
    the_node d i e = subst (λ (h : Held). Member h (S a).held) (one T.held d in_whole i (T.node ∙ e)) T.is_held

    sent_cases : (m : Message) → Member m (first ++ ask) → ((c : Call) × Member c mk.calls × (home g c.node ≡ a → Never) × (m ≡ call_out g s1 c)) ⊎ (((e : Equation) × Member e mk.equations × (b : ℕ) × ((S a).watches e.left b ≡ true) × (m ≡ tell g s1 e b)) ⊎ Member m ask)
    sent_cases m i = elim (member_split m first ask i) [
      | inl o ↦ elim (member_split m (calls_out g s1 mk.calls) (tells g s1 mk.equations) o) [
        | inl u ↦ (let (c, j, q, p) = out_case g s1 mk.calls m u in inl (c, j, (λ w. q (w ∙ sym (I.roles a))), p))
        | inr u ↦ inr (inl (tell_case g s1 mk.equations m u))
      ]
      | inr o ↦ inr (inr o)
    ]

    -- who watches a reference of this role is another role
    watcher_away : (r : Ref) (b : ℕ) → home g r.node ≡ a → ((S a).watches r b ≡ true) → b ≡ a → Never
    watcher_away r b h w e =
        let (p, q) = I.watched a r b w in
        (I.sound _ (I.asked b r q).0).1 (h ∙ sym e)

    home_left : (e : Equation) → Member e mk.equations → home g e.left.node ≡ a
    home_left e i = ap (home g) (left_node e i) ∙ at_home

    not_whole : (e : Equation) → Member e x.equations → e.left.node ≡ n → Never
    not_whole e i q = let (c, f) = member-found x.equations e i in let z = own_free e.left q in absurd cc

    kin_call : (m : Message) (q : Kind) (c : Call) (l : List Equation) → Member m M → m.kind ≡ q → KindKin q (Calls c l) → Member c mk.calls → Never
    kin_call m (Calls d l') c l i e z k = let (h, j, p, b) = called_below g fit enter ok roles loads S M D x I F keyed m (Calls d l') c i e z in no_kid h j c k p
    kin_call m (Asks r b) c l i e z k = never z
    kin_call m (Tells f l') c l i e z k = never z

    kin_tell : (m : Message) (q : Kind) (d : Equation) (l : List Equation) → Member m M → m.kind ≡ q → KindKin q (Tells d l) → Member d mk.equations → Never
    kin_tell m (Tells f l') d l i e z k = not_whole f (subst (λ q. Sound g S x m.to q) e (I.sound m i)).1.0.0 (ap (λ (r : Ref). r.node) z ∙ left_node d k)
    kin_tell m (Calls c l') d l i e z k = never z
    kin_tell m (Asks r b) d l i e z k = never z

    develop_back : (m : Message) (q : Kind) → Member m M → m.kind ≡ q → m.to ≡ a → Mark loads s1 q → Mark loads (S a) q ⊎ Never
    develop_back m (Calls c l) i e t (h, j, p) = elim (held_cases h j) [
      | inl z ↦ never (kin_call m (Calls c l) z.0 [] i e (sym p ∙ ap (λ (h : Held). h.node) z.3) z.1)
      | inr z ↦ inl (z.0, z.1, sym (marked n stt z.0).0 ∙ (sym (ap (λ (h : Held). h.node) z.2) ∙ p))
    ]
    develop_back m (Asks r b) i e t w = inl w
    develop_back m (Tells d l) i e t (lf, (b, f)) =
        elim (option_cases (S a).equations mk.equations d.left b (find (S a).equations d.left) refl f) [
          | inl o ↦ inl (lf, (b, o))
          | inr o ↦ never ((subst (λ q. Sound g S x m.to q) e (I.sound m i)).1.0.1 (home_left _ (find-member mk.equations d.left b o) ∙ sym t))
        ]

    pub developing : is_some (sort_of g n) ≡ true → Change g loads S M x a (develop_site g (S a) (Develop n ri args) n ri args mk).site (develop_site g (S a) (Develop n ri args) n ri args mk).sent y1 (λ j. Never)
    developing named = record {
      role = I.roles a;
      within = subst (λ b. b < g.roles) at_home (roles.within n named);
      ordered = all-ordered own (map (mark n stt) (S a).held)
          (own-differ g s.role mk.calls (λ h cs m. let (d, i, q, p) = in_case g s.role cs h m in (d, i, p)) (calls_differ n ri _ rule.children 1 _))
          (λ h m p mp e. let (c, i, q, z) = own_case h m in let (d, j, y) = member_unmap (mark n stt) p (S a).held mp in
          no_kid d (I.held a d j).0 c i (sym (marked n stt d).0 ∙ (sym (ap (λ (h : Held). h.node) y) ∙ (sym e ∙ ap (λ (h : Held). h.node) z))))
          (mark-ordered n stt (S a).held (I.ordered a));
      flag = I.flags a;
      parts = part_of;
      whole_kept = λ e i. member_left e x.equations mk.equations i;
      find_kept = find-left_more (S a).equations mk.equations;
      homes = λ r b f. elim (option_cases x.equations mk.equations r b (find x.equations r) refl f) [
        | inl o ↦ inr o
        | inr o ↦ (let i = find-member mk.equations r b o in inl (home_left _ i, new_found (record { left = r; body = b }) i))
      ];
      held = λ h i. elim (held_cases h i) [
        | inl z ↦ (subst (λ (h : Held). Member h y1.held) (sym z.3) (kid_held z.0 z.1), ap (λ (h : Held). home g h.node) z.3 ∙ z.2)
        | inr z ↦ (let (p, q) = I.held a z.0 z.1 in (subst (λ (h : Held). Member h y1.held) (sym z.2) (mark_in z.0 p), ap (λ (h : Held). home g h.node) z.2 ∙ (ap (home g) (marked n stt z.0).0 ∙ q)))
      ];
      held_other = λ h w i. elim (node_cases n h.node) [ inl q ↦ never (w (ap (home g) (sym q) ∙ at_home)) | inr q ↦ subst (λ (h : Held). Member h y1.held) (unmarked h q) (mark_in h i) ];
      held_kept = λ h i. let (p, q, w) = marked n stt h in (mark n stt h, mark_here h i, p, q, w);
      stay = λ h i. elim (node_cases n h.node) [
        | inl q ↦ inr (
          ap (λ (h : Held). h.state) (one h T.held (I.held a h i).0 in_whole (sym q ∙ sym T.node)) ∙ T.open_,
          ri,
          args,
          subst (λ (u : Held). Member u s1.held) (ap (λ b. cond b (record h { state = stt }) h) (subst (λ m. node_eq n m ≡ true) q (node_self n))) (mark_here h i),
        )
        | inr q ↦ inl (subst (λ (h : Held). Member h s1.held) (unmarked h q) (mark_here h i))
      ];
      call_kept = λ c i. elim (node_cases n c.node) [
        | inl q ↦ (let (u, v, w) = marked n stt (called_held c) in inr (ap (home g) (sym q) ∙ at_home, (mark n stt (called_held c), mark_here (called_held c) (the_node (called_held c) i q), u, v, w)))
        | inr q ↦ inl (subst (λ (h : Held). Member h y1.held) (unmarked (called_held c) q) (mark_in (called_held c) i))
      ];
      inherited_kept = λ h i. (mark n stt h, mark_in h i, (marked n stt h).2);
      called = λ h i. elim (whole_cases h i) [
        | inl z ↦ elim (same_or_not (home g z.0.node) a) [
          | inl q ↦ inl (ap (λ (h : Held). home g h.node) z.2 ∙ q, subst (λ (h : Held). Member h s1.held) (sym z.2) (Member-all_held (called_held z.0) own (map (mark n stt) (S a).held) (inl (in_has g s.role mk.calls z.0 z.1 (q ∙ sym (I.roles a))))))
          | inr q ↦ inr (inl (subst (λ (h : Held). IsCalled g h (first ++ ask)) (sym z.2)
              (load_of g s1 [] z.0.inherited, member_left _ first ask (member_left _ (calls_out g s1 mk.calls) (tells g s1 mk.equations) (out_has g s1 mk.calls z.0 z.1 (λ w. q (w ∙ I.roles a)))))))
        ]
        | inr z ↦ elim (node_cases n z.0.node) [
          | inl q ↦ inl (ap (λ (h : Held). home g h.node) z.2 ∙ (ap (home g) (marked n stt z.0).0 ∙ (ap (home g) (sym q) ∙ at_home)), subst (λ (h : Held). Member h s1.held) (sym z.2) (mark_here z.0 (the_node z.0 z.1 q)))
          | inr q ↦ (let p = z.2 ∙ unmarked z.0 q in inr (inr (subst (λ (h : Held). Member h x.held) (sym p) z.1, λ j. subst (λ (h : Held). Member h s1.held) (sym z.2) (mark_here z.0 (subst (λ (h : Held). Member h (S a).held) p j)))))
        ]
      ];
      settled = λ r m. settles g loads S M D x I a s1 rs (I.roles a) refl first (find-left_more (S a).equations mk.equations) r (elim m [
        | inl e ↦ elim (member_split e.0 (S a).equations mk.equations e.1) [
          | inl o ↦ inl (inl (e.0, o, e.2))
          | inr o ↦ inr (member_left r (all_mentions mk.equations) (all_inherited own) (mentions-of r mk.equations e.0 o e.2))
        ]
        | inr h ↦ elim (Member-insert_all h.0 own (map (mark n stt) (S a).held) h.1) [
          | inl o ↦ inr (member_right r (all_mentions mk.equations) (all_inherited own) (inherited-of r own h.0 o h.2))
          | inr o ↦ (let (d, j, q) = member_unmap (mark n stt) h.0 (S a).held o in inl (inr (d, j, subst (Member r) (ap (λ (h : Held). h.inherited) q ∙ (marked n stt d).2) h.2)))
        ]
      ]);
      asked_kept = asked_more g loads S M D x I a s1 rs (I.roles a) refl first;
      asked = λ r m. elim (asked_cases g loads S M D x I a s1 rs (I.roles a) refl first r m) [
        | inl o ↦ inl o
        | inr o ↦ inr (
          o.0,
          elim (member_split r (all_mentions mk.equations) (all_inherited own) o.1) [
            | inl u ↦ (let (e, i, w) = of-mentions r mk.equations u in inl (e, member_right e x.equations mk.equations i, w))
            | inr u ↦ (let (h, i, w) = of-inherited r own u in let (c, j, q, p) = own_case h i in inr (h, subst (λ (h : Held). Member h y1.held) (sym p) (kid_held c j), w))
          ],
        )
      ];
      watched_kept = λ r to i. i;
      watched = λ r to i. inl i;
      tells = λ r to b i f. elim (option_cases (S a).equations mk.equations r b (find (S a).equations r) refl f) [
        | inl o ↦ inl (I.tells a r to b i o)
        | inr o ↦ (let z = find-member mk.equations r b o in
            let l = I.range to r (I.watched a r to i).1 in
            inr (
              load_of g s1 (r ∷ []) (mentions b),
              member_left _ first ask (member_right _ (calls_out g s1 mk.calls) (tells g s1 mk.equations)
                  (tell_has g s1 mk.equations (record { left = r; body = b }) to z i (omega (arith, l, roles.few)))),
            ))
      ];
      foreign = λ r b f. elim (option_cases (S a).equations mk.equations r b (find (S a).equations r) refl f) [
        | inl o ↦ inr (inl o)
        | inr o ↦ inl (home_left _ (find-member mk.equations r b o))
      ];
      away = λ m i t. elim (sent_cases m i) [
        | inl z ↦ z.2 (sym (ap (λ (m : Message). m.to) z.3) ∙ t)
        | inr z ↦ elim z [
          | inl u ↦ watcher_away u.0.left u.2 (home_left u.0 u.1) u.3 (sym (ap (λ (m : Message). m.to) u.4) ∙ t)
          | inr u ↦ asks_away g loads S M D x I a s1 rs (I.roles a) refl m u t
        ]
      ];
      sound = λ m i. elim (sent_cases m i) [
        | inl z ↦ (let (j, q) = kid z.0 z.1 in
            subst (λ (m : Message). NewSound g loads a (asking g s1 first rs).site y1 m.to m.kind) (sym z.3) (
              refl,
              (n, ri, j, q, (λ w. z.2 (sym w ∙ at_home))),
              kid_held z.0 z.1,
              carries-own g s1 y1 a (home g z.0.node) (I.roles a) z.2 part_of (load_of g s1 [] z.0.inherited) (load-own g s1 [] z.0.inherited),
            ))
        | inr z ↦ elim z [
          | inl u ↦ subst (λ (m : Message). NewSound g loads a (asking g s1 first rs).site y1 m.to m.kind) (sym u.4) (
            home_left u.0 u.1,
            u.3,
            carries-own g s1 y1 a u.2 (I.roles a) (watcher_away u.0.left u.2 (home_left u.0 u.1) u.3) part_of (u.0 ∷ load_of g s1 (u.0.left ∷ []) (mentions u.0.body))
                (λ e j. elim j [
                  | inl q ↦ subst (λ (e : Equation). (find s1.equations e.left ≡ Some e.body) × (home g e.left.node ≡ s1.role)) (sym q) (new_found u.0 u.1, home_left u.0 u.1 ∙ sym (I.roles a))
                  | inr j ↦ load-own g s1 (u.0.left ∷ []) (mentions u.0.body) e j
                ]),
          )
          | inr u ↦ asks_sound g loads S M D x I a s1 rs (I.roles a) refl y1 first m u
        ]
      ];
      light = λ f m i. elim (sent_cases m i) [
        | inl z ↦ subst (λ (m : Message). IsLight m.kind) (sym z.3) (load-none g s1 [] z.0.inherited (I.flags a f))
        | inr z ↦ elim z [
          | inl u ↦ subst (λ (m : Message). IsLight m.kind) (sym u.4) (load-none g s1 (u.0.left ∷ []) (mentions u.0.body) (I.flags a f))
          | inr u ↦ (let (r, j, q) = ask_case g loads S M D x I a s1 rs (I.roles a) refl m u in subst (λ (m : Message). IsLight m.kind) (sym q) tt)
        ]
      ];
      outbox = refl;
      from_here = λ m i. elim (sent_cases m i) [
        | inl z ↦ (let (j, q) = kid z.0 z.1 in
            ap (λ (m : Message). sender g m.kind) z.3 ∙ (ap (λ nd. home g (parent nd)) q ∙ (ap (home g) (parent-below n ri j) ∙ at_home)))
        | inr z ↦ elim z [
          | inl u ↦ ap (λ (m : Message). sender g m.kind) u.4 ∙ home_left u.0 u.1
          | inr u ↦ (let (r, j, q) = ask_case g loads S M D x I a s1 rs (I.roles a) refl m u in ap (λ (m : Message). sender g m.kind) q)
        ]
      ];
      senders = λ m i. elim (sent_cases m i) [
        | inl z ↦ (let (j, q) = kid z.0 z.1 in
            subst (λ (m : Message). Sends_own g m.kind) (sym z.3)
            (own-sent g s1 (home g (parent z.0.node)) (I.roles a ∙ (sym at_home ∙ (ap (home g) (sym (parent-below n ri j)) ∙ ap (λ nd. home g (parent nd)) (sym q)))) (load_of g s1 [] z.0.inherited) (load-own g s1 [] z.0.inherited)))
        | inr z ↦ elim z [
          | inl u ↦ subst (λ (m : Message). Sends_own g m.kind) (sym u.4)
              (refl, own-sent g s1 (home g u.0.left.node) (I.roles a ∙ sym (home_left u.0 u.1)) (load_of g s1 (u.0.left ∷ []) (mentions u.0.body)) (load-own g s1 (u.0.left ∷ []) (mentions u.0.body)))
          | inr u ↦ (let (r, j, q) = ask_case g loads S M D x I a s1 rs (I.roles a) refl m u in subst (λ (m : Message). Sends_own g m.kind) (sym q) tt)
        ]
      ];
      no_mark = λ m i. elim (sent_cases m i) [
        | inl z ↦ subst (λ (m : Message). Mark loads (S m.to) m.kind → Never) (sym z.3) (λ w. no_kid w.0 (I.held (home g z.0.node) w.0 w.1).0 z.0 z.1 w.2)
        | inr z ↦ elim z [
          | inl u ↦ subst (λ (m : Message). Mark loads (S m.to) m.kind → Never) (sym u.4)
              (λ w. not_whole (record { left = u.0.left; body = w.1.0 }) (I.parts u.2 (record { left = u.0.left; body = w.1.0 }) (find-member (S u.2).equations u.0.left w.1.0 w.1.1)) (left_node u.0 u.1))
          | inr u ↦ asks_no_mark g loads S M D x I a s1 rs (I.roles a) refl m u
        ]
      ];
      not_sent = λ m o i j. elim (sent_cases o j) [
        | inl z ↦ subst (λ (o : Message). Kin m o → Never) (sym z.3) (λ k. kin_call m m.kind z.0 (load_of g s1 [] z.0.inherited) i refl k.1 z.1)
        | inr z ↦ elim z [
          | inl u ↦ subst (λ (o : Message). Kin m o → Never) (sym u.4) (λ k. kin_tell m m.kind u.0 (load_of g s1 (u.0.left ∷ []) (mentions u.0.body)) i refl k.1 u.1)
          | inr u ↦ asks_not_sent g loads S M D x I a s1 rs (I.roles a) refl m o i u
        ]
      ];
      apart = (let (z, A) = made-apart n ri rule args bound in
          later_both Apart first ask
          (later_both Apart (calls_out g s1 mk.calls) (tells g s1 mk.equations) (out_apart g s1 mk.calls (calls_differ n ri _ rule.children 1 _)) (tells_apart g s1 mk.equations A.differ)
          (λ m o i j k. let (c, ic, q, p) = out_case g s1 mk.calls m i in let (e, ie, b, w, u) = tell_case g s1 mk.equations o j in
          subst (λ (m : Message). Kin m o → Never) (sym p) (subst (λ (o : Message). Kin (call_out g s1 c) o → Never) (sym u) (λ k. k.1)) k))
          (asks_apart g loads S M D x I a s1 rs (I.roles a) refl)
          (λ m o i j. let (r, ir, q) = ask_case g loads S M D x I a s1 rs (I.roles a) refl o j in
          subst (λ (o : Message). Kin m o → Never) (sym q) (elim (member_split m (calls_out g s1 mk.calls) (tells g s1 mk.equations) i) [
            | inl v ↦ (let (c, ic, w, p) = out_case g s1 mk.calls m v in subst (λ (m : Message). Kin m (ask_message g a r) → Never) (sym p) (λ k. k.1))
            | inr v ↦ (let (e, ie, b, w, p) = tell_case g s1 mk.equations m v in subst (λ (m : Message). Kin m (ask_message g a r) → Never) (sym p) (λ k. k.1))
          ])));
      now_before = λ k n. never n;
      now_effect = λ k m n. never n;
      back = λ j m f t i. develop_back m m.kind (member_got M j m f) refl t i;
    }
