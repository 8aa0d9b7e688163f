-- What a site asks, tells and calls of some cases it asks, tells and calls where only these are kept.
use Rattle.std.specs.Prelude.{filter, nat_eq, not, ◌&&◌, ◌||◌, is_none}
use Rattle.std.proofs.Common.{◌≡◌, ℕ, Bool, true, false, cond, List, [], ◌∷◌, ◌++◌, map, refl, sym, ap, ◌∙◌, subst, inl, inr, append-nil}
use Rattle.std.proofs.Math.Path.{fun_ext}
use Rattle.aw_list.specs.Members.{Member}
use Rattle.aw_list.proofs.Members.{never, member_unmap}
use Rattle.aw_term.specs.Held.{Held, insert_all, mark}
use Rattle.aw_term.specs.ByNode.{insert_by}
use Rattle.aw_term.specs.Configs.{State}
use Rattle.aw_term.specs.Names.{Node, Ref, node_eq, node_lt}
use Rattle.aw_term.specs.Rules.{Grammar}
use Rattle.aw_term.specs.Trees.{Never}
use Rattle.aw_term.proofs.NodeOrder.{node_order}
use Rattle.aw_name.specs.SameNodes.{node_is}
use Rattle.aw_store.specs.Equations.{Equation, mentions}
use Rattle.aw_apply.specs.Made.{Call}
use Rattle.aw_apply.specs.Messages.{Calls, Tells, Message}
use Rattle.aw_law_sites.specs.Asking.{asked_too, asking, ask_message, is_wanted}
use Rattle.aw_law_sites.specs.Homes.{home}
use Rattle.aw_law_sites.specs.InOrder.{has_ref, in_order}
use Rattle.aw_law_sites.specs.Sites.{Site, Reaction, silently}
use Rattle.aw_law_sites.proofs.AnyOrders.{Member-insert_held}
use Rattle.aw_law_sites.specs.Telling.{calls_out, tell, tells, watchers_from}
use Rattle.aw_law_worlds.proofs.Lists.{Member-filtered, Member-of_order, has_ref-true}
use Rattle.aw_law_worlds.proofs.SentLemmas.{out_case, tell_case}
use Rattle.aw_law_nodes.proofs.ListParts.{filter-append, filter-all, filter-none}
use Rattle.aw_law_cases.specs.Cases.{Cases, of_node, of_ref, of_equation, of_held, of_message, keep_site, AllOn, AreInOrder, AreParted, AreOn, IsOneSided}
use Rattle.aw_law_cases.proofs.Keeping.{find-kept}
use Rattle.aw_law_cases.proofs.Making.{CallsOn, load-kept, load-on}

filter-same : {A : Type 0} (p q : A → Bool) (xs : List A) → ((x : A) → Member x xs → p x ≡ q x) → filter p xs ≡ filter q xs
filter-same p q [] f = refl
filter-same p q (x ∷ xs) f =
    let here = f x (inl refl) in
    let later = filter-same p q xs (λ y m. f y (inr m)) in
    λ i. cond (here i) (x ∷ later i) (later i)

-- what holds of these cases, where the case is one of them
pub with-true : (a b : Bool) → b ≡ true → (a && b) ≡ a
with-true true b e = e
with-true false b e = refl

-- what is added is of these cases
added-kept : (a b c : Bool) → (b ≡ true → c ≡ true) → ((a && c) || b) ≡ ((a || b) && c)
added-kept true true true f = refl
added-kept true true false f = let z = f refl in absurd cc
added-kept true false true f = refl
added-kept true false false f = refl
added-kept false true c f = sym (f refl)
added-kept false false c f = refl

-- or of others
added-other : (a b c : Bool) → (b ≡ true → c ≡ false) → ((a || b) && c) ≡ (a && c)
added-other true b c f = refl
added-other false true c f = f refl
added-other false false c f = refl

module _ (C : Cases) where
  -- what a reaction keeps
  abbrev pub keep_reaction : Reaction → Reaction
  keep_reaction x = record { site = keep_site C x.site; sent = filter (of_message C) x.sent }

  -- held nodes, in order
  abbrev place : Held → Node
  place h = h.node

  abbrev AfterAll : Node → List Held → Type 0
  AfterAll n hs = (h : Held) → Member h hs → node_lt n h.node ≡ true

  insert-first : (h : Held) (hs : List Held) → AfterAll h.node hs → insert_by place h hs ≡ h ∷ hs
  insert-first h [] f = refl
  insert-first h (k ∷ hs) f = ap (λ b. cond b (h ∷ k ∷ hs) (k ∷ insert_by place h hs)) (f k (inl refl))

  insert-at : (h k : Held) (ks ls : List Held) (b d : Bool) → node_lt h.node k.node ≡ b → of_held C k ≡ d → of_held C h ≡ true →
      ls ≡ filter (of_held C) ks → (node_lt h.node k.node ≡ true → AfterAll h.node (k ∷ ks))
      → filter (of_held C) (insert_by place h ks) ≡ insert_by place h ls
      → filter (of_held C) (cond b (h ∷ k ∷ ks) (k ∷ insert_by place h ks)) ≡ insert_by place h (cond d (k ∷ ls) ls)
  insert-at h k ks ls true d p q i e up f =
      let after : AfterAll h.node (cond d (k ∷ ls) ls) = rest d in
      ap (λ b. cond b (h ∷ filter (of_held C) (k ∷ ks)) (filter (of_held C) (k ∷ ks))) i
      ∙ (ap (λ xs. h ∷ xs) ((λ j. cond (q j) (k ∷ filter (of_held C) ks) (filter (of_held C) ks)) ∙ ap (λ xs. cond d (k ∷ xs) xs) (sym e)) ∙ sym (insert-first h (cond d (k ∷ ls) ls) after))
    where
      inner : (x : Held) → Member x ls → node_lt h.node x.node ≡ true
      inner x m = up p x (inr (Member-filtered (of_held C) x ks (subst (λ xs. Member x xs) e m)).0)

      rest : (d : Bool) → AfterAll h.node (cond d (k ∷ ls) ls)
      rest true x (inl z) = up p x (inl z)
      rest true x (inr m) = inner x m
      rest false x m = inner x m
  insert-at h k ks ls false true p q i e up f =
      ap (λ b. cond b (k ∷ filter (of_held C) (insert_by place h ks)) (filter (of_held C) (insert_by place h ks))) q
      ∙ (ap (λ xs. k ∷ xs) f ∙ sym (ap (λ b. cond b (h ∷ k ∷ ls) (k ∷ insert_by place h ls)) p))
  insert-at h k ks ls false false p q i e up f = ap (λ b. cond b (k ∷ filter (of_held C) (insert_by place h ks)) (filter (of_held C) (insert_by place h ks))) q ∙ f

  after-first : (n : Node) (k : Held) (ks : List Held) → ((h : Held) → Member h ks → node_lt h.node k.node ≡ false) → node_lt n k.node ≡ true → AfterAll n (k ∷ ks)
  after-first n k ks up l x (inl p) = subst (λ (k : Held). node_lt n k.node ≡ true) (sym p) l
  after-first n k ks up l x (inr m) = by (node_lt n x.node) refl
    where
      by : (b : Bool) → node_lt n x.node ≡ b → node_lt n x.node ≡ true
      by true e = e
      by false e = let z : node_lt n k.node ≡ false = node_order.chain n x.node k.node e (up x m) in let y : true ≡ false = sym l ∙ z in absurd cc

  pub insert-kept : (h : Held) (ks : List Held) → of_held C h ≡ true → AreInOrder ks → filter (of_held C) (insert_by place h ks) ≡ insert_by place h (filter (of_held C) ks)
  insert-kept h [] i up = ap (λ b. cond b (h ∷ []) []) i
  insert-kept h (k ∷ ks) i up = insert-at h k ks (filter (of_held C) ks) (node_lt h.node k.node) (of_held C k) refl refl i refl (λ l. after-first h.node k ks up.0 l) (insert-kept h ks i up.1)

  other-insert-at : (h k : Held) (ks : List Held) (b : Bool) → of_held C h ≡ false → filter (of_held C) (insert_by place h ks) ≡ filter (of_held C)
      ks → filter (of_held C) (cond b (h ∷ k ∷ ks) (k ∷ insert_by place h ks)) ≡ filter (of_held C) (k ∷ ks)
  other-insert-at h k ks true i f = ap (λ b. cond b (h ∷ filter (of_held C) (k ∷ ks)) (filter (of_held C) (k ∷ ks))) i
  other-insert-at h k ks false i f = ap (λ xs. cond (of_held C k) (k ∷ xs) xs) f

  pub insert-other : (h : Held) (ks : List Held) → of_held C h ≡ false → filter (of_held C) (insert_by place h ks) ≡ filter (of_held C) ks
  insert-other h [] i = ap (λ b. cond b (h ∷ []) []) i
  insert-other h (k ∷ ks) i = other-insert-at h k ks (node_lt h.node k.node) i (insert-other h ks i)

  pub up-inserted : (h : Held) (ks : List Held) → AreInOrder ks → AreInOrder (insert_by place h ks)
  up-inserted h [] up = ((λ x m. never m), tt)
  up-inserted h (k ∷ ks) up = by (node_lt h.node k.node) refl (up-inserted h ks up.1)
    where
      before : node_lt h.node k.node ≡ true → (x : Held) → Member x (k ∷ ks) → node_lt x.node h.node ≡ false
      before l x m = node_order.one_way h.node x.node (after-first h.node k ks up.0 l x m)

      behind : node_lt h.node k.node ≡ false → (x : Held) → Member x (insert_by place h ks) → node_lt x.node k.node ≡ false
      behind l x m = elim (Member-insert_held x h ks m) [ inl p ↦ subst (λ (h : Held). node_lt h.node k.node ≡ false) (sym p) l | inr n ↦ up.0 x n ]

      by : (b : Bool) → node_lt h.node k.node ≡ b → AreInOrder (insert_by place h ks) → AreInOrder (cond b (h ∷ k ∷ ks) (k ∷ insert_by place h ks))
      by true l later = (before l, up)
      by false l later = (behind l, later)

  pub up-all-inserted : (hs ks : List Held) → AreInOrder ks → AreInOrder (insert_all hs ks)
  up-all-inserted [] ks up = up
  up-all-inserted (h ∷ hs) ks up = up-all-inserted hs (insert_by place h ks) (up-inserted h ks up)

  pub all-kept : (hs ks : List Held) → ((h : Held) → Member h hs → of_held C h ≡ true) → AreInOrder ks → filter (of_held C) (insert_all hs ks) ≡ insert_all hs (filter (of_held C) ks)
  all-kept [] ks on up = refl
  all-kept (h ∷ hs) ks on up = all-kept hs (insert_by place h ks) (λ x m. on x (inr m)) (up-inserted h ks up) ∙ ap (insert_all hs) (insert-kept h ks (on h (inl refl)) up)

  pub all-other : (hs ks : List Held) → ((h : Held) → Member h hs → of_held C h ≡ false) → filter (of_held C) (insert_all hs ks) ≡ filter (of_held C) ks
  all-other [] ks on = refl
  all-other (h ∷ hs) ks on = all-other hs (insert_by place h ks) (λ x m. on x (inr m)) ∙ insert-other h ks (on h (inl refl))

  -- a node that takes a state keeps its name and what it inherited
  mark-node : (n : Node) (s : State) (h : Held) (b : Bool) → (cond b (record h { state = s }) h).node ≡ h.node
  mark-node n s h true = refl
  mark-node n s h false = refl

  mark-refs : (n : Node) (s : State) (h : Held) (b : Bool) → (cond b (record h { state = s }) h).inherited ≡ h.inherited
  mark-refs n s h true = refl
  mark-refs n s h false = refl

  pub marked-node : (n : Node) (s : State) (h : Held) → (mark n s h).node ≡ h.node
  marked-node n s h = mark-node n s h (node_eq n h.node)

  pub marked-refs : (n : Node) (s : State) (h : Held) → (mark n s h).inherited ≡ h.inherited
  marked-refs n s h = mark-refs n s h (node_eq n h.node)

  pub mark-kept : (n : Node) (s : State) (hs : List Held) → filter (of_held C) (map (mark n s) hs) ≡ map (mark n s) (filter (of_held C) hs)
  mark-kept n s [] = refl
  mark-kept n s (h ∷ hs) =
      let here = ap (of_node C) (marked-node n s h) in
      let later = mark-kept n s hs in
      (λ i. cond (here i) (mark n s h ∷ later i) (later i)) ∙ by (of_held C h)
    where
      by : (b : Bool) → cond b (mark n s h ∷ map (mark n s) (filter (of_held C) hs)) (map (mark n s) (filter (of_held C) hs)) ≡ map (mark n s)
          (cond b (h ∷ filter (of_held C) hs) (filter (of_held C) hs))
      by true = refl
      by false = refl

  not-marked : (n : Node) (s : State) (h : Held) (b : Bool) → node_eq n h.node ≡ b → (n ≡ h.node → Never) → cond b (record h { state = s }) h ≡ h
  not-marked n s h true e f = never (f (node_is n h.node e))
  not-marked n s h false e f = refl

  -- of a node of another case nothing is seen
  mark-one : (n : Node) (s : State) (h : Held) (hs ls : List Held) (b : Bool) → of_held C h ≡ b → of_node C n ≡ false → map (mark n s) ls ≡ ls →
      map (mark n s) (cond b (h ∷ ls) ls) ≡ cond b (h ∷ ls) ls
  mark-one n s h hs ls true e i f =
      let here = not-marked n s h (node_eq n h.node) refl (λ p. let z : true ≡ false = sym e ∙ (ap (of_node C) (sym p) ∙ i) in absurd cc) in
      λ j. here j ∷ f j
  mark-one n s h hs ls false e i f = f

  mark-none : (n : Node) (s : State) (hs : List Held) → of_node C n ≡ false → map (mark n s) (filter (of_held C) hs) ≡ filter (of_held C) hs
  mark-none n s [] i = refl
  mark-none n s (h ∷ hs) i = mark-one n s h hs (filter (of_held C) hs) (of_held C h) refl i (mark-none n s hs i)

  pub mark-other : (n : Node) (s : State) (hs : List Held) → of_node C n ≡ false → filter (of_held C) (map (mark n s) hs) ≡ filter (of_held C) hs
  mark-other n s hs i = mark-kept n s hs ∙ mark-none n s hs i

  pub up-marked : (n : Node) (s : State) (hs : List Held) → AreInOrder hs → AreInOrder (map (mark n s) hs)
  up-marked n s [] up = tt
  up-marked n s (h ∷ hs) up = (
    (λ k m. let (x, i, p) = member_unmap (mark n s) k hs m in
        let a : k.node ≡ x.node = ap (λ (h : Held). h.node) p ∙ marked-node n s x in
        let b = marked-node n s h in
        (λ j. node_lt (a j) (b j)) ∙ up.0 x i),
    up-marked n s hs up.1,
  )

  -- questions
  pub ordered-on : (b : Bool) (rs : List Ref) → AllOn C b rs → AllOn C b (in_order rs)
  ordered-on b rs on r m = on r (Member-of_order r rs m)

  module _ (g : Grammar) (s : Site) where
    wanted-on : (b : Bool) (rs : List Ref) → AllOn C b rs → AllOn C b (filter (is_wanted g s) (in_order rs))
    wanted-on b rs on r m = ordered-on b rs on r (Member-filtered (is_wanted g s) r (in_order rs) m).0

    wanted-kept : (rs : List Ref) → AllOn C true rs → filter (is_wanted g (keep_site C s)) (in_order rs) ≡ filter (is_wanted g s) (in_order rs)
    wanted-kept rs on =
        filter-same (is_wanted g (keep_site C s)) (is_wanted g s) (in_order rs) (λ r m.
        let i = ordered-on true rs on r m in
        let a = find-kept C s.equations r i in
        let b = with-true (s.asked r) (of_ref C r) i in
        λ j. not (nat_eq (home g r.node) s.role) && (is_none (a j) && not (b j)))

    asks-on : (b : Bool) (rs : List Ref) → AllOn C b rs → (m : Message) → Member m (map (ask_message g s.role) rs) → of_message C m ≡ b
    asks-on b rs on m i = let (r, j, p) = member_unmap (ask_message g s.role) m rs i in ap (of_message C) p ∙ on r j

    pub asking-kept : (first rest : List Message) (rs : List Ref) → filter (of_message C) first ≡ rest → AllOn C true rs → asking g (keep_site C s) rest rs ≡ keep_reaction (asking g s first rs)
    asking-kept first rest rs e on =
        let wanted = filter (is_wanted g s) (in_order rs) in
        let w = wanted-kept rs on in
        let asks = filter-all (of_message C) (map (ask_message g s.role) wanted) (λ m i. asks-on true wanted (wanted-on true rs on) m i) in
        let a : (asking g (keep_site C s) rest rs).site.asked ≡ (keep_site C (asking g s first rs).site).asked =
        ap (asked_too (keep_site C s).asked) w
        ∙ fun_ext (λ r. added-kept (s.asked r) (has_ref r wanted) (of_ref C r) (λ h. wanted-on true rs on r (has_ref-true r wanted h))) in
        let q : rest ++ map (ask_message g s.role) (filter (is_wanted g (keep_site C s)) (in_order rs)) ≡ filter (of_message C) (first ++ map (ask_message g s.role) wanted) =
        (λ i. sym e i ++ map (ask_message g s.role) (w i)) ∙ (ap (λ xs. filter (of_message C) first ++ xs) (sym asks) ∙ sym (filter-append (of_message C) first (map (ask_message g s.role) wanted))) in
        let o = ap (λ xs. filter (of_message C) s.outbox ++ xs) q ∙ sym (filter-append (of_message C) s.outbox (first ++ map (ask_message g s.role) wanted)) in
        λ i. record { site = record (keep_site C s) { asked = a i; outbox = o i }; sent = q i }

    pub asking-other : (first : List Message) (rs : List Ref) → filter (of_message C) first ≡ [] → AllOn C false rs → keep_reaction (asking g s first rs) ≡ silently (keep_site C s)
    asking-other first rs e on =
        let wanted = filter (is_wanted g s) (in_order rs) in
        let asks = filter-none (of_message C) (map (ask_message g s.role) wanted) (λ m i. asks-on false wanted (wanted-on false rs on) m i) in
        let a : (keep_site C (asking g s first rs).site).asked ≡ (keep_site C s).asked =
        fun_ext (λ r. added-other (s.asked r) (has_ref r wanted) (of_ref C r) (λ h. wanted-on false rs on r (has_ref-true r wanted h))) in
        let q : filter (of_message C) (first ++ map (ask_message g s.role) wanted) ≡ [] = filter-append (of_message C) first (map (ask_message g s.role) wanted) ∙ (λ i. e i ++ asks i) in
        let o = filter-append (of_message C) s.outbox (first ++ map (ask_message g s.role) wanted)
        ∙ (ap (λ xs. filter (of_message C) s.outbox ++ xs) q ∙ append-nil (filter (of_message C) s.outbox)) in
        λ i. record { site = record (keep_site C s) { asked = a i; outbox = o i }; sent = q i }

    -- calls and tells
    module _ (p : AreParted C s.equations) where
      pub calls-kept : (cs : List Call) → CallsOn C true cs → calls_out g (keep_site C s) cs ≡ calls_out g s cs
      calls-kept [] on = refl
      calls-kept (c ∷ cs) on =
          let here = load-kept C g s p [] c.inherited (on c (inl refl)).1 in
          let later = calls-kept cs (λ d m. on d (inr m)) in
          λ i. cond (nat_eq (home g c.node) s.role) (later i) (record { to = home g c.node; kind = Calls c (here i) } ∷ later i)

      pub tell-kept : (e : Equation) (to : ℕ) → of_equation C e ≡ true → AllOn C true (mentions e.body) → tell g (keep_site C s) e to ≡ tell g s e to
      tell-kept e to i on = let here = load-kept C g s p (e.left ∷ []) (mentions e.body) on in λ j. record { to = to; kind = Tells e (here j) }

      pub tells-kept : (es : List Equation) → AreOn C true es → tells g (keep_site C s) es ≡ tells g s es
      tells-kept [] on = refl
      tells-kept (e ∷ es) on =
          let (i, f) = on e (inl refl) in
          let here = load-kept C g s p (e.left ∷ []) (mentions e.body) f in
          let same : (keep_site C s).watches e.left ≡ s.watches e.left = fun_ext (λ role. with-true (s.watches e.left role) (of_ref C e.left) i) in
          let who = ap (watchers_from 64 0) same in
          let later = tells-kept es (λ d m. on d (inr m)) in
          λ j. map (λ to. record { to = to; kind = Tells e (here j) }) (who j) ++ later j

      -- they are of one side
      pub calls-on : (b : Bool) (cs : List Call) → CallsOn C b cs → (m : Message) → Member m (calls_out g s cs) → (of_message C m ≡ b) × IsOneSided C m.kind
      calls-on b cs on m i =
          let (d, j, n, e) = out_case g s cs m i in
          let (o, f) = on d j in
          subst (λ (m : Message). (of_message C m ≡ b) × IsOneSided C m.kind) (sym e)
          (o, (λ r k. f r k ∙ sym o, λ q k. let (x, y) = load-on C g s p b [] d.inherited f q k in (x ∙ sym o, λ r l. y r l ∙ sym o)))

      pub tell-on : (b : Bool) (e : Equation) (to : ℕ) → of_equation C e ≡ b → AllOn C b (mentions e.body) → (of_message C (tell g s e to) ≡ b) × IsOneSided C (tell g s e to).kind
      tell-on b e to o f = (
        o,
        λ q k. elim k [
          | inl z ↦ subst (λ (q : Equation). (of_equation C q ≡ of_equation C e) × AllOn C (of_equation C e) (mentions q.body)) (sym z) (refl, λ r l. f r l ∙ sym o)
          | inr z ↦ (let (x, y) = load-on C g s p b (e.left ∷ []) (mentions e.body) f q z in (x ∙ sym o, λ r l. y r l ∙ sym o))
        ],
      )

      pub tells-on : (b : Bool) (es : List Equation) → AreOn C b es → (m : Message) → Member m (tells g s es) → (of_message C m ≡ b) × IsOneSided C m.kind
      tells-on b es on m i =
          let (e, j, n, w, q) = tell_case g s es m i in
          let (o, f) = on e j in
          subst (λ (m : Message). (of_message C m ≡ b) × IsOneSided C m.kind) (sym q) (tell-on b e n o f)
