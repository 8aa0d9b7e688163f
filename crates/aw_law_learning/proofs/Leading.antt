-- What is learnt, asked and sent is what the tasks of a site lead to.
use Rattle.std.specs.Prelude.{filter, nat_eq, not, ◌&&◌, ◌⊎◌}
use Rattle.std.proofs.Common.{◌≡◌, ℕ, zero, suc, Bool, true, false, cond, List, [], ◌∷◌, ◌++◌, map, Option, Some, None, refl, sym, ap, ◌∙◌, subst, inl, inr}
use Rattle.std.proofs.lemmas.Bool.{and_from, and_parts, eq-eqb, eqb-true, or_cases, or_left, or_right}
use Rattle.aw_list.specs.Members.{Member}
use Rattle.aw_list.proofs.Members.{never, member_left, member_right, member_split, member_map, member_unmap}
use Rattle.aw_term.specs.Choices.{Choice, Start, Develop, Outcome, Refused, Starts, Takes}
use Rattle.aw_term.specs.Configs.{State, Done}
use Rattle.aw_term.specs.Held.{Held, held_of, insert_all, mark}
use Rattle.aw_term.specs.Names.{Node, Ref, node_eq, ref_eq}
use Rattle.aw_term.specs.Rules.{Ground, Rule, Grammar}
use Rattle.aw_term.specs.Trees.{Never}
use Rattle.aw_term.proofs.RefTests.{ref_eq-self, ref_eq-true}
use Rattle.aw_accept.proofs.Fitting.{each_member}
use Rattle.aw_store.specs.Equations.{Body, Equation, Map, find, mentions}
use Rattle.aw_apply.specs.Made.{Call, made}
use Rattle.aw_apply.specs.Messages.{Kind, Calls, Asks, Tells, Message, OfNode, Clash, BadName, NotMine, New, carried}
use Rattle.aw_apply.proofs.Numbering.{made-apart}
use Rattle.aw_law_sites.specs.Asking.{all_mentions, all_inherited, ask_message, asking, is_wanted}
use Rattle.aw_law_sites.specs.Choosing.{Did, choose, choose_on, develop_site, outcome, start_site}
use Rattle.aw_law_sites.specs.Homes.{home}
use Rattle.aw_law_sites.specs.InOrder.{has_ref, in_order}
use Rattle.aw_law_sites.specs.Joint.{called_held, root_held}
use Rattle.aw_law_sites.specs.Loads.{Given, given_on, load_of, may_give, next_given, walk}
use Rattle.aw_law_sites.specs.Reacting.{add_held, react, receive, received_on}
use Rattle.aw_law_sites.specs.Receiving.{add_all, add_on, call_clash, clash, first_clash, is_mine, is_repeat, refs_eq}
use Rattle.aw_law_sites.specs.Sites.{Site, Reaction, silently}
use Rattle.aw_law_sites.specs.Telling.{calls_in, calls_out, tell_back, tells}
use Rattle.aw_law_sites.specs.ValidNames.{message_ok}
use Rattle.aw_law_sites.specs.Worlds.{node_of}
use Rattle.aw_law_sites.proofs.AnyOrders.{Member-all_held, Member-inserted_held, held_of-found}
use Rattle.aw_law_worlds.specs.Mentioned.{IsMentioned}
use Rattle.aw_law_worlds.proofs.AskingLemmas.{has_ref-member}
use Rattle.aw_law_worlds.proofs.Learning.{add-member}
use Rattle.aw_law_worlds.proofs.Lists.{Member-filtered, Member-of_order, has_ref-true}
use Rattle.aw_law_worlds.proofs.SentLemmas.{out_case, tell_case}
use Rattle.aw_law_worlds.proofs.Growing.{new-of, cond-new}
use Rattle.aw_law_learning.specs.Learning.{IsLedTo, inherited, own, further}

refs-true : (rs ss : List Ref) → refs_eq rs ss ≡ true → rs ≡ ss
refs-true [] [] e = refl
refs-true [] (s ∷ ss) e = absurd cc
refs-true (r ∷ rs) [] e = absurd cc
refs-true (r ∷ rs) (s ∷ ss) e =
    let (a, b) = and_parts (ref_eq r s) (refs_eq rs ss) e in
    let p = ref_eq-true r s a in
    let q = refs-true rs ss b in
    λ i. p i ∷ q i

-- each left side of a load stands among these references, or in an equation before it
abbrev pub Chain : List Ref → List Equation → Type 0
Chain rs [] = Unit {0}
Chain rs (e ∷ es) = Member e.left rs × Chain (mentions e.body ++ rs) es

chain-wider : (rs ss : List Ref) → ((r : Ref) → Member r rs → Member r ss) → (es : List Equation) → Chain rs es → Chain ss es
chain-wider rs ss f [] c = tt
chain-wider rs ss f (e ∷ es) c = (
  f e.left c.0,
  chain-wider (mentions e.body ++ rs) (mentions e.body ++ ss) (λ r m. elim (member_split r (mentions e.body) rs m)
      [ inl i ↦ member_left r (mentions e.body) ss i | inr i ↦ member_right r (mentions e.body) ss (f r i) ]) es c.1,
)

module _ (g : Grammar) where
  -- loads
  module _ (s : Site) where
    abbrev GivenFrom : List Ref → Option Given → Type 0
    GivenFrom rs None = Unit {0}
    GivenFrom rs (Some d) = Member d.equation.left rs × ((r : Ref) → Member r d.rest → Member r rs)

    wider-given : (r : Ref) (rs : List Ref) (o : Option Given) → GivenFrom rs o → GivenFrom (r ∷ rs) o
    wider-given r rs None f = tt
    wider-given r rs (Some d) f = (inr f.0, λ u m. inr (f.1 u m))

    given-by : (x : Bool) (r : Ref) (o : Option Body) (rs : List Ref) (later : Option Given) → GivenFrom rs later → GivenFrom (r ∷ rs) (given_on x r o rs later)
    given-by true r (Some b) rs later f = (inl refl, λ u m. inr m)
    given-by true r None rs later f = wider-given r rs later f
    given-by false r o rs later f = wider-given r rs later f

    next-from : (seen rs : List Ref) → GivenFrom rs (next_given g s seen rs)
    next-from seen [] = tt
    next-from seen (r ∷ rs) = given-by (may_give g s seen r) r (find s.equations r) rs (next_given g s seen rs) (next-from seen rs)

    abbrev walk_by : ℕ → List Ref → Option Given → List Equation
    walk_by n seen None = []
    walk_by n seen (Some d) = d.equation ∷ walk n g s (d.equation.left ∷ seen) (mentions d.equation.body ++ d.rest)

    walk-by : (n : ℕ) (seen rs : List Ref) (o : Option Given) → GivenFrom rs o → ((seen rs : List Ref) → Chain rs (walk n g s seen rs)) → Chain rs (walk_by n seen o)
    walk-by n seen rs None f h = tt
    walk-by n seen rs (Some d) f h = (
      f.0,
      chain-wider (mentions d.equation.body ++ d.rest) (mentions d.equation.body ++ rs)
          (λ r m. elim (member_split r (mentions d.equation.body) d.rest m) [ inl i ↦ member_left r (mentions d.equation.body) rs i | inr i ↦ member_right r (mentions d.equation.body) rs (f.1 r i) ])
          (walk n g s (d.equation.left ∷ seen) (mentions d.equation.body ++ d.rest)) (h (d.equation.left ∷ seen) (mentions d.equation.body ++ d.rest)),
    )

    walk-chain : (n : ℕ) (seen rs : List Ref) → Chain rs (walk n g s seen rs)
    walk-chain zero seen rs = tt
    walk-chain (suc n) seen rs = walk-by n seen rs (next_given g s seen rs) (next-from seen rs) (λ seen rs. walk-chain n seen rs)

    load-chain : (seen rs : List Ref) → Chain rs (load_of g s seen rs)
    load-chain seen rs = by s.loads (walk-chain 64 seen rs)
      where
        by : (b : Bool) → Chain rs (walk 64 g s seen rs) → Chain rs (cond b (walk 64 g s seen rs) [])
        by true c = c
        by false c = tt

  -- a later site
  pub record Grown (s t : Site) : Type 0 where
    pub role : t.role ≡ s.role
    pub equations : (e : Equation) → Member e s.equations → Member e t.equations
    pub held : (h : Held) → Member h s.held → (k : Held) × Member k t.held × (k.inherited ≡ h.inherited)

  pub led-grown : (s t : Site) → Grown s t → {r : Ref} → IsLedTo g s r → IsLedTo g t r
  led-grown s t G (inherited {r = r} h m i) = let (k, n, p) = G.held h m in inherited k n (subst (λ rs. Member r rs) (sym p) i)
  led-grown s t G (own e m p i) = own e (G.equations e m) (p ∙ sym G.role) i
  led-grown s t G (further e l m i) = further e (led-grown s t G l) (G.equations e m) i

  pub led-mentioned : (s : Site) → {r : Ref} → IsLedTo g s r → IsMentioned r s.equations s.held
  led-mentioned s (inherited h m i) = inr (h, m, i)
  led-mentioned s (own e m p i) = inl (e, m, i)
  led-mentioned s (further e l m i) = inl (e, m, i)

  -- along a load
  pub chain-led : (t : Site) (rs : List Ref) (es : List Equation) → Chain rs es → ((r : Ref) → Member r rs → IsLedTo g t r) → ((e : Equation) → Member e es → Member e t.equations)
      → (e : Equation) → Member e es → IsLedTo g t e.left × ((r : Ref) → Member r (mentions e.body) → IsLedTo g t r)
  chain-led t rs [] c f h e m = never m
  chain-led t rs (d ∷ es) c f h e m =
      let here = f d.left c.0 in
      let body : (r : Ref) → Member r (mentions d.body) → IsLedTo g t r = λ r i. further d here (h d (inl refl)) i in
      elim m [
        | inl p ↦ subst (λ (e : Equation). IsLedTo g t e.left × ((r : Ref) → Member r (mentions e.body) → IsLedTo g t r)) (sym p) (here, body)
        | inr i ↦ chain-led t (mentions d.body ++ rs) es c.1 (λ r n. elim (member_split r (mentions d.body) rs n) [ inl j ↦ body r j | inr j ↦ f r j ]) (λ x n. h x (inr n)) e i
      ]

  -- what a reaction may send: a question that it asked, a call and its load, a tell to one who watches
  abbrev pub IsSentFrom : Site → Message → Kind → Type 0
  IsSentFrom t m (Calls c load) = Chain c.inherited load
  IsSentFrom t m (Asks r from) = (from ≡ t.role) × (t.asked r ≡ true)
  IsSentFrom t m (Tells e load) = (t.watches e.left m.to ≡ true) × Chain (mentions e.body) load

  -- what a reaction to its own choice or to a message keeps and adds
  pub record Learnt (s : Site) (x : Reaction) (new : Ref → ℕ → Type 0) : Type 0 where
    pub grown : Grown s x.site
    pub equations : (e : Equation) → Member e x.site.equations → Member e s.equations ⊎ ((home g e.left.node ≡ s.role) ⊎ IsLedTo g x.site e.left)
    pub asked : (r : Ref) → x.site.asked r ≡ true → (s.asked r ≡ true) ⊎ IsLedTo g x.site r
    pub asks : (r : Ref) → s.asked r ≡ true → x.site.asked r ≡ true
    pub watchers : (r : Ref) (to : ℕ) → x.site.watches r to ≡ true → (s.watches r to ≡ true) ⊎ new r to
    pub sent : (m : Message) → Member m x.sent → IsSentFrom x.site m m.kind

  -- a site that asks
  asks-sent : (v : Site) (first : List Message) (rs : List Ref) → ((m : Message) → Member m first → IsSentFrom (asking g v first rs).site m m.kind) →
      (m : Message) → Member m (asking g v first rs).sent → IsSentFrom (asking g v first rs).site m m.kind
  asks-sent v first rs f m i =
      let wanted = filter (is_wanted g v) (in_order rs) in
      elim (member_split m first (map (ask_message g v.role) wanted) i) [
        | inl j ↦ f m j
        | inr j ↦ (let (r, k, p) = member_unmap (ask_message g v.role) m wanted j in
            subst (λ (m : Message). IsSentFrom (asking g v first rs).site m m.kind) (sym p) (refl, or_right (v.asked r) (has_ref r wanted) (has_ref-member r wanted k)))
      ]

  asks-asked : (v : Site) (first : List Message) (rs : List Ref) → ((r : Ref) → Member r rs → IsLedTo g (asking g v first rs).site r) → (r : Ref) → (asking g v first rs).site.asked r ≡ true
      → (v.asked r ≡ true) ⊎ IsLedTo g (asking g v first rs).site r
  asks-asked v first rs f r m =
      let wanted = filter (is_wanted g v) (in_order rs) in
      elim (or_cases (v.asked r) (has_ref r wanted) m) [
        | inl i ↦ inl i
        | inr i ↦ inr (f r (Member-of_order r rs (Member-filtered (is_wanted g v) r (in_order rs) (has_ref-true r wanted i)).0))
      ]

  mention-of : (es : List Equation) (r : Ref) → Member r (all_mentions es) → (e : Equation) × Member e es × Member r (mentions e.body)
  mention-of [] r m = never m
  mention-of (e ∷ es) r m = elim (member_split r (mentions e.body) (all_mentions es) m) [ inl i ↦ (e, inl refl, i) | inr i ↦ (let (d, j, k) = mention-of es r i in (d, inr j, k)) ]

  inherited-of : (hs : List Held) (r : Ref) → Member r (all_inherited hs) → (h : Held) × Member h hs × Member r h.inherited
  inherited-of [] r m = never m
  inherited-of (h ∷ hs) r m = elim (member_split r h.inherited (all_inherited hs) m) [ inl i ↦ (h, inl refl, i) | inr i ↦ (let (d, j, k) = inherited-of hs r i in (d, inr j, k)) ]

  mark-refs : (s : State) (h : Held) (b : Bool) → (cond b (record h { state = s }) h).inherited ≡ h.inherited
  mark-refs s h true = refl
  mark-refs s h false = refl

  -- a choice
  abbrev Nothing : Ref → ℕ → Type 0
  Nothing r to = Never

  develop-learns : (s : Site) (c : Choice) (n : Node) (r : ℕ) (args : List Ground) (rule : Rule) (bound : List Ref) → home g n ≡ s.role →
      Learnt s (develop_site g s c n r args (made n r rule args bound)) Nothing
  develop-learns s c n r args rule bound at =
      let m = made n r rule args bound in
      let own_ = calls_in g s.role m.calls in
      let v : Site = record s { held = insert_all own_ (map (mark n (Done r args)) s.held); choices = s.choices ++ c ∷ []; equations = s.equations ++ m.equations } in
      let first = calls_out g v m.calls ++ tells g v m.equations in
      let rs = all_mentions m.equations ++ all_inherited own_ in
      let t = (asking g v first rs).site in
      let (k, apart) = made-apart n r rule args bound in
      let mine : (e : Equation) → Member e m.equations → home g e.left.node ≡ s.role = λ e i. ap (home g) (each_member _ m.equations e apart.lie i).0 ∙ at in
      record {
        grown = record {
          role = refl;
          equations = λ e i. member_left e s.equations m.equations i;
          held = λ h i. (
            mark n (Done r args) h,
            Member-all_held (mark n (Done r args) h) own_ (map (mark n (Done r args)) s.held)
                (inr (member_map (mark n (Done r args)) h s.held i)),
            mark-refs (Done r args) h (node_eq n h.node),
          );
        };
        equations = λ e i. elim (member_split e s.equations m.equations i) [ inl j ↦ inl j | inr j ↦ inr (inl (mine e j)) ];
        asked = asks-asked v first rs (λ u i. elim (member_split u (all_mentions m.equations) (all_inherited own_) i) [
          | inl j ↦ (let (e, k, l) = mention-of m.equations u j in own e (member_right e s.equations m.equations k) (mine e k) l)
          | inr j ↦ (let (h, k, l) = inherited-of own_ u j in inherited h (Member-all_held h own_ (map (mark n (Done r args)) s.held) (inl k)) l)
        ]);
        asks = λ u i. or_left (s.asked u) (has_ref u (filter (is_wanted g v) (in_order rs))) i;
        watchers = λ q to i. inl i;
        sent = asks-sent v first rs (λ x i. elim (member_split x (calls_out g v m.calls) (tells g v m.equations) i) [
          | inl j ↦ (let (d, a, b, p) = out_case g v m.calls x j in subst (λ (x : Message). IsSentFrom t x x.kind) (sym p) (load-chain v [] d.inherited))
          | inr j ↦ (let (e, a, to, b, p) = tell_case g v m.equations x j in subst (λ (x : Message). IsSentFrom t x x.kind) (sym p) (b, load-chain v (e.left ∷ []) (mentions e.body)))
        ]);
      }

  start-learns : (s : Site) (st k : ℕ) → Learnt s (silently (start_site s st k)) Nothing
  start-learns s st k = record {
    grown = record { role = refl; equations = λ e i. i; held = λ h i. (h, Member-inserted_held h (root_held st k) s.held (inr i), refl) };
    equations = λ e i. inl i;
    asked = λ r i. inl i;
    asks = λ r i. i;
    watchers = λ r to i. inl i;
    sent = λ m i. never i;
  }

  choose-by : (s : Site) (c : Choice) (o : Outcome Ref Ref) → home g (node_of c) ≡ s.role → (x : Reaction) → choose_on g s c o ≡ Did x → Learnt s x Nothing
  choose-by s c (Refused a) at x e = absurd cc
  choose-by s (Start st k) Starts at x e = let p : silently (start_site s st k) ≡ x = cc in subst (λ x. Learnt s x Nothing) p (start-learns s st k)
  choose-by s (Develop n r args) Starts at x e = absurd cc
  choose-by s (Start st k) (Takes rule bound) at x e = absurd cc
  choose-by s (Develop n r args) (Takes rule bound) at x e =
      let p : develop_site g s (Develop n r args) n r args (made n r rule args bound) ≡ x = cc in
      subst (λ x. Learnt s x Nothing) p (develop-learns s (Develop n r args) n r args rule bound at)

  pub choose-learns : (s : Site) (c : Choice) → home g (node_of c) ≡ s.role → (x : Reaction) → choose g s c ≡ Did x → Learnt s x Nothing
  choose-learns s c at x e = choose-by s c (outcome g s c) at x e

  -- a message
  add-old : (k : Map) (es : List Equation) (q : Equation) → Member q k → Member q (add_all k es)
  add-old k [] q m = m
  add-old k (e ∷ es) q m = add-old (add_on (find k e.left) k e) es q (by (find k e.left))
    where
      by : (o : Option Body) → Member q (add_on o k e)
      by None = member_left q k (e ∷ []) m
      by (Some b) = m

  abbrev pub NewWatch : Kind → Ref → ℕ → Type 0
  NewWatch (Calls c load) r to = Never
  NewWatch (Asks q from) r to = (r ≡ q) × (to ≡ from)
  NewWatch (Tells e load) r to = Never

  -- what makes a message fine where it comes
  abbrev pub ComesFine : Site → Kind → Type 0
  ComesFine s (Calls c load) = Chain c.inherited load
  ComesFine s (Asks r from) = Unit {0}
  ComesFine s (Tells e load) = IsLedTo g s e.left × Chain (mentions e.body) load

  same-by : (h : Held) (c : Call) (later : Option Clash) (b : Bool) (o : Clash) → refs_eq h.inherited c.inherited ≡ b → cond b later (Some o) ≡ None → h.inherited ≡ c.inherited
  same-by h c later true o p e = refs-true h.inherited c.inherited p
  same-by h c later false o p e = absurd cc

  same-refs : (h : Held) (c : Call) (later : Option Clash) → call_clash (Some h) c later ≡ None → h.inherited ≡ c.inherited
  same-refs h c later e = same-by h c later (refs_eq h.inherited c.inherited) (record { kept = OfNode h.inherited; came = OfNode c.inherited }) refl e

  call-root : (s : Site) (c : Call) (later : Option Clash) (o : Option Held) → held_of c.node s.held ≡ o → call_clash o c later ≡ None → (h : Held)
      × Member h (add_held o c s.held) × (h.inherited ≡ c.inherited)
  call-root s c later None e q = (called_held c, Member-inserted_held (called_held c) (called_held c) s.held (inl refl), refl)
  call-root s c later (Some h) e q = (h, (held_of-found c.node s.held h e).0, same-refs h c later q)

  add-held-old : (c : Call) (hs : List Held) (o : Option Held) (h : Held) → Member h hs → Member h (add_held o c hs)
  add-held-old c hs None h m = Member-inserted_held h (called_held c) hs (inr m)
  add-held-old c hs (Some k) h m = m

  react-learns : (s : Site) (k : Kind) → clash s k ≡ None → ComesFine s k → ((e : Equation) → Member e (carried k) → Member e (react g s k).site.equations) → Learnt s (react g s k) (NewWatch k)
  react-learns s (Calls c load) q fine has =
      let v : Site = record s { held = add_held (held_of c.node s.held) c s.held; equations = add_all s.equations load } in
      let rs = c.inherited ++ all_mentions load in
      let t = (asking g v [] rs).site in
      let (h, m, p) = call-root s c (first_clash s.equations load) (held_of c.node s.held) refl q in
      let root : (r : Ref) → Member r c.inherited → IsLedTo g t r = λ r i. inherited h m (subst (λ rs. Member r rs) (sym p) i) in
      let L = chain-led t c.inherited load fine root has in
      record {
        grown = record { role = refl; equations = λ e i. add-old s.equations load e i; held = λ h i. (h, add-held-old c s.held (held_of c.node s.held) h i, refl) };
        equations = λ e i. elim (add-member s.equations load e i) [ inl j ↦ inl j | inr j ↦ inr (inr (L e j).0) ];
        asked = asks-asked v [] rs (λ u i. elim (member_split u c.inherited (all_mentions load) i) [ inl j ↦ root u j | inr j ↦ (let (e, x, y) = mention-of load u j in (L e x).1 u y) ]);
        asks = λ u i. or_left (s.asked u) (has_ref u (filter (is_wanted g v) (in_order rs))) i;
        watchers = λ q to i. inl i;
        sent = asks-sent v [] rs (λ m i. never i);
      }
  react-learns s (Asks r from) q fine has =
      record {
        grown = record { role = refl; equations = λ e i. i; held = λ h i. (h, i, refl) };
        equations = λ e i. inl i;
        asked = λ u i. inl i;
        asks = λ u i. i;
        watchers = λ q to i. elim (or_cases (ref_eq r q && nat_eq from to) (s.watches q to) i) [
          | inl e ↦ inr (let (p, n) = and_parts (ref_eq r q) (nat_eq from to) e in (sym (ref_eq-true r q p), sym (eqb-true from to n)))
          | inr o ↦ inl o
        ];
        sent = λ m i. told (find s.equations r) m i;
      }
    where
      told : (o : Option Body) (m : Message) → Member m (tell_back g s o r from) → IsSentFrom (react g s (Asks r from)).site m m.kind
      told None m i = never i
      told (Some b) m (inl p) =
          subst (λ (m : Message). IsSentFrom (react g s (Asks r from)).site m m.kind) (sym p)
          (or_left _ (s.watches r from) (and_from _ _ (ref_eq-self r) (eq-eqb from from refl)), load-chain s (r ∷ []) (mentions b))
      told (Some b) m (inr n) = never n
  react-learns s (Tells e load) q fine has =
      let v : Site = record s { equations = add_all s.equations (e ∷ load) } in
      let rs = all_mentions (e ∷ load) in
      let t = (asking g v [] rs).site in
      let G : Grown s t = record { role = refl; equations = λ d i. add-old s.equations (e ∷ load) d i; held = λ h i. (h, i, refl) } in
      let chain : Chain (e.left ∷ []) (e ∷ load) = (inl refl, chain-wider (mentions e.body) (mentions e.body ++ e.left ∷ []) (λ r m. member_left r (mentions e.body) (e.left ∷ []) m) load fine.1) in
      let L = chain-led t (e.left ∷ []) (e ∷ load) chain (λ r i. elim i [ inl p ↦ subst (IsLedTo g t) (sym p) (led-grown s t G fine.0) | inr n ↦ never n ]) has in
      record {
        grown = G;
        equations = λ d i. elim (add-member s.equations (e ∷ load) d i) [ inl j ↦ inl j | inr j ↦ inr (inr (L d j).0) ];
        asked = asks-asked v [] rs (λ u i. let (d, x, y) = mention-of (e ∷ load) u i in (L d x).1 u y);
        asks = λ u i. or_left (s.asked u) (has_ref u (filter (is_wanted g v) (in_order rs))) i;
        watchers = λ q to i. inl i;
        sent = asks-sent v [] rs (λ m i. never i);
      }

  no-clash : (o : Option Clash) (b : Bool) (x y : Reaction) → received_on o b x ≡ New y → o ≡ None
  no-clash (Some c) b x y e = absurd cc
  no-clash None b x y e = refl

  pub receive-learns : (s : Site) (m : Message) (x : Reaction) → receive g s m ≡ New x → ComesFine s m.kind →
      ((e : Equation) → Member e (carried m.kind) → Member e x.site.equations) → Learnt s x (NewWatch m.kind)
  receive-learns s m x e fine has =
      let a = cond-new (not (message_ok g s.role m)) BadName _ x (λ z. absurd cc) e in
      let b = cond-new (not (is_mine g s.role m)) NotMine _ x (λ z. absurd cc) a in
      let p : react g s m.kind ≡ x = new-of (clash s m.kind) (is_repeat s m.kind) (react g s m.kind) x b in
      let q = no-clash (clash s m.kind) (is_repeat s m.kind) (react g s m.kind) x b in
      subst (λ x. Learnt s x (NewWatch m.kind)) p
      (react-learns s m.kind q fine (subst (λ (x : Reaction). (e : Equation) → Member e (carried m.kind) → Member e x.site.equations) (sym p) has))
