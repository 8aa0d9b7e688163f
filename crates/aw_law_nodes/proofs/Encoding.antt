-- A message of a world has bytes.
use Rattle.std.specs.Prelude.{slice_get, unwrap_or, nat_eq, nat_le, is_some}
use Rattle.std.proofs.Common.{◌≡◌, ℕ, zero, suc, ◌<◌, ◌≤◌, ◌^◌, Bool, true, cond, List, [], ◌∷◌, map, length, Option, Some, None, option_map, refl, sym, ap, ◌∙◌, subst, inl, inr, arith}
use Rattle.std.proofs.lemmas.Bool.{and_parts, eqb-true, leb-true}
use Rattle.std.proofs.lemmas.Option.{slice_get_within}
use Rattle.aw_list.specs.Members.{Member}
use Rattle.aw_list.proofs.Members.{member_got, never}
use Rattle.aw_term.specs.Artifacts.{Words}
use Rattle.aw_term.specs.Choices.{gives_of}
use Rattle.aw_term.specs.Held.{Held}
use Rattle.aw_term.specs.Names.{Step, Node, Slot, Result, Part, Ref}
use Rattle.aw_term.specs.Rules.{Child, Rule, Sort, Grammar, child_at, sort_of_step, sort_after, sort_of}
use Rattle.aw_term.specs.Trees.{Head, Con, Num, Text}
use Rattle.aw_term.specs.WellFormed.{Each, head_fits, takes_of, SortFits, RuleFits, IsWellFormed}
use Rattle.aw_term.proofs.Eaches.{each_push}
use Rattle.aw_term.proofs.LastSteps.{followed, mapped, where_true}
use Rattle.aw_term.specs.Limits.{most_children, most_results, most_inherited, most_node_parts, most_parts}
use Rattle.aw_accept.proofs.Fitting.{each_member}
use Rattle.aw_base.specs.ChoiceFits.{slot_ok, ref_ok}
use Rattle.aw_codec.specs.Ranges.{From1To, StepSized, StepInRange, NodeSized, NodeInRange, SlotSized, SlotInRange, RefSized, RefInRange, RefsSized, RefsInRange, HeadInRange, ChoiceSized}
use Rattle.aw_store.specs.Equations.{Body, Same, Is, Equation, mentions}
use Rattle.aw_store.specs.EquationView as view
use Rattle.aw_store.specs.declared.equation.Body as program
use Rattle.aw_store.specs.declared.equation.Body.TheVariants as body
use Rattle.aw_store.specs.declared.equation.Equation as declared
use Rattle.aw_apply.specs.Made.{Call}
use Rattle.aw_apply.specs.Messages.{Kind, Calls, Asks, Tells, Message}
use Rattle.aw_msg.specs.MessageRanges.{BodySized, BodyInRange, EquationSized, EquationInRange, LoadSized, LoadInRange}
use Rattle.aw_msg.specs.declared.message.MsgKind.TheVariants as kind
use Rattle.aw_law_sites.specs.Choosing.{Chosen, No, Did, choose}
use Rattle.aw_law_sites.specs.Homes.{home}
use Rattle.aw_law_sites.specs.Joint.{Joint, called_held}
use Rattle.aw_law_sites.specs.Laws.{IsAccepted}
use Rattle.aw_law_sites.specs.Worlds.{World, empty_world, site_at, chosen_at, node_of, Move, Chooses, Delivers, step, run}
use Rattle.aw_law_sites.specs.ValidNames.{refs_ok, body_ok, takes_as}
use Rattle.aw_law_worlds.specs.Invariant.{IsValid, as_call}
use Rattle.aw_law_worlds.specs.Laws.{world_after}
use Rattle.aw_law_worlds.specs.Mentioned.{IsMentioned, IsRooted}
use Rattle.aw_law_worlds.proofs.Delivering.{mention-ok}
use Rattle.aw_law_worlds.proofs.Parts.{Carries, Sound}
use Rattle.aw_law_worlds.proofs.Runs.{IsWorld, invariant_holds, to-within}
use Rattle.aw_law_worlds.proofs.Sorts.{some_sort}
use Rattle.aw_law_nodes.specs.Encodable.{IsEncodable, MessagesAreEncodable}
use Rattle.aw_law_nodes.specs.Sizes.{MoveSized}
use Rattle.aw_law_nodes.proofs.Ending.{delivered-same}
use Rattle.aw_law_nodes.proofs.LoadSizes.{FewLoad, loads_are_few}
use Rattle.aw_law_nodes.proofs.MadeSizes.{IsSmall, HeadFits, Sizes, all_sizes}

-- ---- names

module _ (w : Words) (g : Grammar) (formed : IsWellFormed w g) where
  numbered : (cs : List Child) (k : ℕ) (c : Child) → child_at cs k ≡ Some c → length cs ≤ most_children → From1To most_children k
  numbered cs zero c e few = absurd cc
  numbered cs (suc k) c e few = let within = slice_get_within cs k c e in (omega arith, omega (arith, within, few))

  step-fits : (s : ℕ) (step : Step) (t : ℕ) → sort_of_step g s step ≡ Some t → StepSized step × StepInRange step
  step-fits s step t e =
      let child = λ (r : Rule). option_map (λ (c : Child). c.sort) (child_at r.children step.child) in
      let (r, here, f) = followed (λ (r : Rule). cond (nat_eq r.sort s) (child r) None) (slice_get g.rules step.rule) t e in
      let (c, at, same) = mapped (λ (c : Child). c.sort) (child_at r.children step.child) t (where_true (nat_eq r.sort s) (child r) t f) in
      let k = numbered r.children step.child c at (each_member (RuleFits g) g.rules r formed.rules (member_got g.rules step.rule r here)).few_children in
      let k1 = k.1 in
      let l = slice_get_within g.rules step.rule r here in
      let all = formed.all_rules in
      let few = formed.few_rules in
      ((omega (arith, l, all, few), omega (arith, k1)), k)

  steps-fit : (s : ℕ) (steps : List Step) (t : ℕ) → sort_after g s steps ≡ Some t → Each StepSized steps × Each StepInRange steps
  steps-fit s [] t e = (tt, tt)
  steps-fit s (step ∷ steps) t e =
      let (u, f, h) = followed (λ t. sort_after g t steps) (sort_of_step g s step) t e in
      let a = step-fits s step u f in
      let b = steps-fit u steps t h in
      ((a.0, b.0), (a.1, b.1))

  node-fits : (n : Node) → is_some (sort_of g n) ≡ true → IsSmall n → NodeSized n × NodeInRange n
  node-fits n valid small =
      let (s, e) = some_sort g n valid in
      let (start, here, f) = followed (λ (s : Sort). cond s.start (sort_after g n.start n.steps) None) (slice_get g.sorts n.start) s e in
      let steps = steps-fit n.start n.steps s (where_true start.start (sort_after g n.start n.steps) s f) in
      let l = slice_get_within g.sorts n.start start here in
      let all = formed.all_sorts in
      let few = formed.few_sorts in
      ((omega (arith, l, all, few), small.0, steps.0), (small.1, steps.1))

  few-given : (sorts : List Sort) (s : ℕ) → Each (SortFits g.roles) sorts → gives_of (slice_get sorts s) ≤ most_results
  few-given [] s fits = omega arith
  few-given (x ∷ xs) zero fits = fits.0.few_gives
  few-given (x ∷ xs) (suc s) fits = few-given xs s fits.1

  few-taken : (sorts : List Sort) (s : ℕ) → Each (SortFits g.roles) sorts → takes_of (slice_get sorts s) ≤ most_inherited
  few-taken [] s fits = omega arith
  few-taken (x ∷ xs) zero fits = fits.0.few_takes
  few-taken (x ∷ xs) (suc s) fits = few-taken xs s fits.1

  slot-fits : (s : Option ℕ) (slot : Slot) → slot_ok g s slot ≡ true → SlotSized slot × SlotInRange slot
  slot-fits None slot e = absurd cc
  slot-fits (Some s) (Result j) e =
      let p = and_parts (nat_le 1 j) (nat_le j (gives_of (slice_get g.sorts s))) e in
      let a = leb-true 1 j p.0 in
      let b = leb-true j (gives_of (slice_get g.sorts s)) p.1 in
      let c = few-given g.sorts s formed.sorts in
      (omega (arith, b, c), (a, omega (arith, b, c)))
  slot-fits (Some s) (Part k) e =
      let p = and_parts (nat_le 1 k) (nat_le k most_node_parts) e in
      let a = leb-true 1 k p.0 in
      let b = leb-true k most_node_parts p.1 in
      (omega (arith, b), (a, b))

  has-sort : (s : Option ℕ) (slot : Slot) → slot_ok g s slot ≡ true → is_some s ≡ true
  has-sort None slot e = absurd cc
  has-sort (Some s) slot e = refl

  ref-fits : (r : Ref) → ref_ok g r ≡ true → IsSmall r.node → RefSized r × RefInRange r
  ref-fits r ok small =
      let n = node-fits r.node (has-sort (sort_of g r.node) r.slot ok) small in
      let s = slot-fits (sort_of g r.node) r.slot ok in
      ((n.0, s.0), (n.1, s.1))

  refs-fit : (rs : List Ref) → refs_ok g rs ≡ true → ((r : Ref) → Member r rs → IsSmall r.node) → Each RefSized rs × Each RefInRange rs
  refs-fit [] ok small = (tt, tt)
  refs-fit (r ∷ rs) ok small =
      let p = and_parts (ref_ok g r) (refs_ok g rs) ok in
      let a = ref-fits r p.0 (small r (inl refl)) in
      let b = refs-fit rs p.1 (λ s m. small s (inr m)) in
      ((a.0, b.0), (a.1, b.1))

  -- ---- equations

  few-parts : (arities : List ℕ) (c n : ℕ) → Each (λ m. m ≤ most_parts) arities → head_fits arities (Con c) n ≡ true → n ≤ most_parts
  few-parts [] c n few e = absurd cc
  few-parts (m ∷ ms) zero n few e = let a = few.0 in let b = eqb-true m n e in omega (arith, a, b)
  few-parts (m ∷ ms) (suc c) n few e = few-parts ms c n few.1 e

  head-fits : (h : Head) (n : ℕ) → head_fits g.arities h n ≡ true → HeadInRange h n
  head-fits (Con c) n e = few-parts g.arities c n formed.arities e
  head-fits (Num m) n e = eqb-true n 0 e
  head-fits (Text t) n e = let p = and_parts _ _ e in (eqb-true n 0 p.0, p.1)

  few-of : (h : Head) (n : ℕ) → HeadInRange h n → n ≤ most_parts
  few-of (Con c) n range = range
  few-of (Num m) n range = omega (arith, range)
  few-of (Text t) n range = let z = range.0 in omega (arith, z)

  body-fits : (b : Body) → body_ok g b ≡ true → HeadFits b → ((r : Ref) → Member r (mentions b) → IsSmall r.node) → BodySized b × BodyInRange b
  body-fits (Same r) ok fits small = ref-fits r ok (small r (inl refl))
  body-fits (Is h rs) ok fits small =
      let p = and_parts (head_fits g.arities h (length rs)) (refs_ok g rs) ok in
      let a = head-fits h (length rs) p.0 in
      let b = refs-fit rs p.1 small in
      ((fits, b.0), (a, (few-of h (length rs) a, b.1)))

  -- ---- what is known

  module _ (x : Joint) (V : IsValid g x) (rooted : IsRooted g x) (S : Sizes x) where
    mention-small : (r : Ref) → IsMentioned r x.equations x.held → IsSmall r.node
    mention-small r m = elim (rooted r m) [
      | inl z ↦ subst (λ (r : Ref). IsSmall r.node) z.2 (S.equations z.0 z.1).0
      | inr z ↦ subst (λ (r : Ref). IsSmall r.node) (sym z.6) (S.held z.0 z.2)
    ]

    mention-fits : (r : Ref) → IsMentioned r x.equations x.held → RefSized r × RefInRange r
    mention-fits r m = ref-fits r (mention-ok g x V r m) (mention-small r m)

    equation-fits : (e : Equation) → Member e x.equations → EquationSized e × EquationInRange e
    equation-fits e m =
        let p = and_parts (ref_ok g e.left) (body_ok g e.body) (V.equations e m) in
        let s = S.equations e m in
        let a = ref-fits e.left p.0 s.0 in
        let b = body-fits e.body p.1 s.1 (λ r n. mention-small r (inl (e, m, n))) in
        ((a.0, b.0), (a.1, b.1))

    load-fits : (to : ℕ) (es : List Equation) → Carries g x to es → Each EquationSized es × Each EquationInRange es
    load-fits to [] c = (tt, tt)
    load-fits to (e ∷ es) c =
        let a = equation-fits e c.0.0 in
        let b = load-fits to es c.1 in
        ((a.0, b.0), (a.1, b.1))

    -- the call of a node
    record CallFits (c : Call) : Type 0 where
      node : NodeSized c.node × NodeInRange c.node
      inherited : RefsSized c.inherited × RefsInRange c.inherited
      sort_is : sort_of g c.node ≡ Some c.sort

    call-fits : (h : Held) → Member h x.held → CallFits (as_call h)
    call-fits h m =
        let p = and_parts (takes_as g (sort_of g h.node) h.inherited) (refs_ok g h.inherited) (V.held h m) in
        let s = V.sorts h m in
        let b = refs-fit h.inherited p.1 (λ r n. mention-small r (inr (h, m, n))) in
        let taken = subst (λ o. takes_as g o h.inherited ≡ true) s p.0 in
        let many = eqb-true (length h.inherited) (takes_of (slice_get g.sorts h.sort)) taken in
        let few = few-taken g.sorts h.sort formed.sorts in
        record {
          node = node-fits h.node (ap is_some s) (S.held h m);
          inherited = (b.0, (omega (arith, many, few), b.1));
          sort_is = s;
        }

-- ---- as messages of the program

body-as : (b : Body) → BodyInRange b → (q : program.Body) × (view.body_of q ≡ b)
body-as (Same r) k = (body.Same r, refl)
body-as (Is (Con c) rs) k = (body.Con c rs, refl)
body-as (Is (Num n) []) k = (body.Num n, refl)
body-as (Is (Num n) (r ∷ rs)) k = absurd (let z = k.0 in omega (arith, z))
body-as (Is (Text t) []) k = (body.Text t, refl)
body-as (Is (Text t) (r ∷ rs)) k = absurd (let z = k.0.0 in omega (arith, z))

equation-as : (e : Equation) → EquationInRange e → (q : declared.Equation) × (view.equation_of q ≡ e)
equation-as e k = let (q, p) = body-as e.body k.1 in (record { left = e.left; body = q }, (λ i. record { left = e.left; body = p i }))

equations-as : (es : List Equation) → Each EquationInRange es → (qs : List declared.Equation) × (map view.equation_of qs ≡ es)
equations-as [] k = ([], refl)
equations-as (e ∷ es) k =
    let (q, p) = equation-as e k.0 in
    let (qs, ps) = equations-as es k.1 in
    (q ∷ qs, (λ i. p i ∷ ps i))

module _ (g : Grammar) where
  call-as : (to : ℕ) (c : Call) (load : List Equation) → to < 2 ^ 16 → sort_of g c.node ≡ Some c.sort → NodeSized c.node × NodeInRange c.node → RefsSized c.inherited × RefsInRange c.inherited
      → LoadSized load → LoadInRange load → IsEncodable g (record { to = to; kind = Calls c load })
  call-as to c load few s n r a b =
      let (qs, ps) = equations-as load b.1 in
      let sp = sym ps in
      let so = ap (λ o. unwrap_or o 0) (sym s) in (
        record { to = to; kind = kind.Call c.node c.inherited qs },
        (λ i. record { to = to; kind = Calls (record { node = c.node; sort = so i; inherited = c.inherited }) (sp i) }),
        (few, (n.0, (r.0, subst LoadSized (sym ps) a))),
        (n.1, (r.1, subst LoadInRange (sym ps) b)),
      )

  ask-as : (to : ℕ) (r : Ref) (from : ℕ) → to < 2 ^ 16 → from < 2 ^ 16 → RefSized r × RefInRange r → IsEncodable g (record { to = to; kind = Asks r from })
  ask-as to r from few l k = (record { to = to; kind = kind.Ask r from }, refl, (few, (k.0, l)), k.1)

  tell-as : (to : ℕ) (e : Equation) (load : List Equation) → to < 2 ^ 16 → EquationSized e → EquationInRange e → LoadSized load → LoadInRange load →
      IsEncodable g (record { to = to; kind = Tells e load })
  tell-as to e load few es er a b =
      let (q, p) = equation-as e er in
      let (qs, ps) = equations-as load b.1 in
      let sq = sym p in
      let sp = sym ps in (
        record { to = to; kind = kind.Tell q qs },
        (λ i. record { to = to; kind = Tells (sq i) (sp i) }),
        (few, (subst EquationSized (sym p) es, subst LoadSized (sym ps) a)),
        (subst EquationInRange (sym p) er, subst LoadInRange (sym ps) b),
      )

-- ---- a message of a world

module _ (words : Words) (g : Grammar) (accepted : IsAccepted words g) (loads : Bool) where
  module _ (w : World) (x : Joint) (W : IsWorld words g accepted loads w x) (S : Sizes x) where
    roles-few : g.roles ≤ 64
    roles-few = let a = accepted.0.roles in let b = accepted.0.few_roles in omega (arith, a, b)

    kind-as : (to : ℕ) (k : Kind) → to < g.roles → Sound g (site_at w) x to k → FewLoad k → IsEncodable g (record { to = to; kind = k })
    kind-as to (Calls c load) l s f =
        let few = roles-few in
        let ls = load-fits words g accepted.0 x W.valid.0 W.valid.1 S to load s.3 in
        elim s.2 [
          | inl m ↦
              (let k = call-fits words g accepted.0 x W.valid.0 W.valid.1 S (called_held c) m in
              call-as g to c load (omega (arith, l, few)) k.sort_is k.node k.inherited ls.0 (f, ls.1))
          | inr m ↦
              (let k = call-fits words g accepted.0 x W.valid.0 W.valid.1 S m.0 (W.inv.held to m.0 m.1).0 in
              call-as g to c load (omega (arith, l, few)) (ap (sort_of g) (sym m.2) ∙ (k.sort_is ∙ ap Some m.3)) (subst (λ n. NodeSized n × NodeInRange n) m.2 k.node)
              (subst (λ rs. RefsSized rs × RefsInRange rs) m.4 k.inherited) ls.0 (f, ls.1))
        ]
    kind-as to (Asks r b) l s f =
        let few = roles-few in
        let range = W.inv.range b r s.2 in
        ask-as g to r b (omega (arith, l, few)) (omega (arith, range, few)) (mention-fits words g accepted.0 x W.valid.0 W.valid.1 S r (W.inv.asked b r s.2).1)
    kind-as to (Tells e load) l s f =
        let few = roles-few in
        let es = equation-fits words g accepted.0 x W.valid.0 W.valid.1 S e s.1.0.0 in
        let ls = load-fits words g accepted.0 x W.valid.0 W.valid.1 S to load s.1.1 in
        tell-as g to e load (omega (arith, l, few)) es.0 es.1 ls.0 (f, ls.1)

    message-as : (m : Message) → Member m w.messages → FewLoad m.kind → IsEncodable g m
    message-as m i f = kind-as m.to m.kind (to-within words g accepted loads w x W m m.kind i refl) (W.inv.sound m i) f

-- the choices of such events
taken-sized : (g : Grammar) (es : List Move) (w : World) → Each MoveSized es → Each ChoiceSized w.taken → Each ChoiceSized (run g w es).taken
taken-sized g [] w s k = k
taken-sized g (Chooses c ∷ es) w s k = taken-sized g es (step g w (Chooses c)).world s.1 (go (choose g (site_at w (home g (node_of c))) c))
  where
    go : (z : Chosen) → Each ChoiceSized (chosen_at w (home g (node_of c)) c z).world.taken
    go (No a) = k
    go (Did y) = each_push ChoiceSized w.taken c k s.0
taken-sized g (Delivers n ∷ es) w s k = taken-sized g es (step g w (Delivers n)).world s.1 (subst (Each ChoiceSized) (sym (delivered-same g w n (slice_get w.messages n))) k)

pub messages_are_encodable : (words : Words) (g : Grammar) → IsAccepted words g → MessagesAreEncodable g
messages_are_encodable words g accepted sized loads es k s m i =
    let (x, W) = invariant_holds words g accepted loads es k in
    let S = all_sizes g sized (world_after g loads es).taken x (taken-sized g es (empty_world g loads) s tt) W.whole in
    message-as words g accepted loads (world_after g loads es) x W S m i (loads_are_few g es (empty_world g loads) (λ m i. never i) m i)
