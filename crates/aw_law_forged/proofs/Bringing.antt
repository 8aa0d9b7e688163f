-- With which message an equation of another role came, and who called a child.
use Rattle.std.specs.Prelude.{◌⊎◌}
use Rattle.std.proofs.Common.{◌≡◌, ℕ, ◌+◌, Bool, true, false, List, [], ◌∷◌, ◌++◌, map, Option, Some, None, refl, sym, ap, ◌∙◌, subst, inl, inr, append_assoc, append-nil}
use Rattle.std.proofs.lemmas.Bool.{and_parts, eqb-true}
use Rattle.aw_list.specs.Members.{Member}
use Rattle.aw_list.proofs.Members.{member_left, member_right, member_split, member_unmap, never}
use Rattle.aw_term.specs.Choices.{Develop}
use Rattle.aw_term.specs.Configs.{Done}
use Rattle.aw_term.specs.Held.{Held, held_of, insert_all, mark}
use Rattle.aw_term.specs.Names.{Node, Ref}
use Rattle.aw_term.specs.Rules.{Grammar, Ground, Rule}
use Rattle.aw_term.specs.Trees.{Never}
use Rattle.aw_term.specs.WellFormed.{Each}
use Rattle.aw_accept.proofs.Fitting.{each_member}
use Rattle.aw_store.specs.Equations.{Equation}
use Rattle.aw_apply.specs.Made.{Call, Making, made}
use Rattle.aw_apply.specs.Messages.{Kind, Calls, Asks, Tells, Message, carried}
use Rattle.aw_law_sites.specs.Choosing.{develop_site, start_site}
use Rattle.aw_law_sites.specs.Homes.{has_steps, home, parent}
use Rattle.aw_law_sites.specs.Joint.{called_held, root_held}
use Rattle.aw_law_sites.specs.Reacting.{add_held, react}
use Rattle.aw_law_sites.specs.SiteEvents.{SiteEvent, Chose, Got, site_step, site_run}
use Rattle.aw_law_sites.specs.Sites.{Site, empty_site}
use Rattle.aw_law_sites.specs.Telling as telling
use Rattle.aw_law_sites.specs.Worlds.{node_of}
use Rattle.aw_law_sites.proofs.AnyOrders.{Member-insert_all, Member-insert_held, marked}
use Rattle.aw_law_worlds.specs.Invariant.{as_call, calls_at}
use Rattle.aw_law_worlds.proofs.Delivering.{parent-below}
use Rattle.aw_law_worlds.proofs.Learning.{add-member}
use Rattle.aw_law_worlds.proofs.SentLemmas.{call_case, in_case}
use Rattle.aw_law_forged.specs.Forged.{IsAtHome, makes, all_made, calls_in}
use Rattle.aw_law_forged.specs.Told.{WasNew}
use Rattle.aw_law_forged.proofs.OwnEquations.{made-left, react-role}
use Rattle.aw_law_forged.proofs.OwnWords.{calls-append}
use Rattle.aw_law_forged.proofs.Steps.{IsNews, chosen-case, grows, made-more, received-case, run-more}

-- each child that a rule makes is below its node
pub kid-parent : (n : Node) (r : ℕ) (rule : Rule) (args : List Ground) (bound : List Ref) (c : Call) → Member c (made n r rule args bound).calls → parent c.node ≡ n
kid-parent n r rule args bound c m = let (j, d, f, q, w) = call_case n r _ rule.children 1 _ c m in ap parent q ∙ parent-below n r (1 + j)

-- what a new message adds
pub reacts-equations : (g : Grammar) (s : Site) (k : Kind) (e : Equation) → Member e (react g s k).site.equations → Member e s.equations ⊎ Member e (carried k)
reacts-equations g s (Calls c load) e i = add-member s.equations load e i
reacts-equations g s (Asks r from) e i = inl i
reacts-equations g s (Tells d load) e i = add-member s.equations (d ∷ load) e i

pub reacts-nodes : (g : Grammar) (s : Site) (k : Kind) (h : Held) → Member h (react g s k).site.held
    → Member h s.held ⊎ ((c : Call) × (load : List Equation) × (k ≡ Calls c load) × (h ≡ called_held c))
reacts-nodes g s (Calls c load) h i = go (held_of c.node s.held) i
  where
    go : (o : Option Held) → Member h (add_held o c s.held) → Member h s.held ⊎ ((d : Call) × (l : List Equation) × (Calls c load ≡ Calls d l) × (h ≡ called_held d))
    go None j = elim (Member-insert_held h (called_held c) s.held j) [ inl p ↦ inr (c, load, refl, p) | inr o ↦ inl o ]
    go (Some x) j = inl j
reacts-nodes g s (Asks r from) h i = inl i
reacts-nodes g s (Tells d load) h i = inl i

module _ (g : Grammar) (loads : Bool) (role : ℕ) where
  abbrev at : List SiteEvent → Site
  at xs = site_run g (empty_site loads role) xs

  abbrev makings : List SiteEvent → List Making
  makings xs = all_made g (empty_site loads role) xs

  abbrev New_at : List SiteEvent → Message → Type 0
  New_at xs m = WasNew g loads role xs m

  abbrev EquationsOf : List SiteEvent → Site → Type 0
  EquationsOf xs s = (e : Equation) → Member e s.equations → (home g e.left.node ≡ role → Never) → (m : Message) × New_at xs m × Member e (carried m.kind)

  abbrev NodesOf : List SiteEvent → Site → List Making → Type 0
  NodesOf xs s ms = (h : Held) → Member h s.held → has_steps h.node.steps ≡ true
      → ((home g (parent h.node) ≡ role) × Member (as_call h) (calls_in ms)) ⊎ ((load : List Equation) × New_at xs (calls_at role (as_call h) load))

  abbrev ParentsOf : List Making → Type 0
  ParentsOf ms = (c : Call) → Member c (calls_in ms) → home g (parent c.node) ≡ role

  pub record Traced (xs : List SiteEvent) (s : Site) (ms : List Making) : Type 0 where
    pub is : s.role ≡ role
    pub equations : EquationsOf xs s
    pub nodes : NodesOf xs s ms
    pub parents : ParentsOf ms

  module _ (xs : List SiteEvent) (T : Traced xs (at xs) (makings xs)) (x : SiteEvent) where
    abbrev zs : List SiteEvent
    zs = xs ++ x ∷ []

    on : (m : Message) → New_at xs m → New_at zs m
    on m (before, later, y, p, q) = (before, later ++ x ∷ [], y, ap (λ ys. ys ++ x ∷ []) p ∙ append_assoc before (Got m ∷ later) (x ∷ []), q)

    on-equations : EquationsOf zs (at xs)
    on-equations e i a = let (m, w, j) = T.equations e i a in (m, on m w, j)

    more-calls : (ms : List Making) (c : Call) → Member c (calls_in (makings xs)) → Member c (calls_in (makings xs ++ ms))
    more-calls ms c i = subst (λ cs. Member c cs) (sym (calls-append (makings xs) ms)) (member_left c (calls_in (makings xs)) (calls_in ms) i)

    on-nodes : (ms : List Making) → NodesOf zs (at xs) (makings xs ++ ms)
    on-nodes ms h i w = elim (T.nodes h i w) [ inl (p, j) ↦ inl (p, more-calls ms (as_call h) j) | inr (load, n) ↦ inr (load, on (calls_at role (as_call h) load) n) ]

    on-parents : ParentsOf (makings xs ++ [])
    on-parents c i = T.parents c (subst (λ ms. Member c (calls_in ms)) (append-nil (makings xs)) i)

    -- a choice
    module _ (n : Node) (r : ℕ) (args : List Ground) (rule : Rule) (bound : List Ref) (h : home g n ≡ role) where
      abbrev mk : Making
      mk = made n r rule args bound

      last-call : (c : Call) → Member c mk.calls → Member c (calls_in (makings xs ++ mk ∷ []))
      last-call c i = subst (λ cs. Member c cs) (sym (calls-append (makings xs) (mk ∷ []))) (member_right c (calls_in (makings xs)) (mk.calls ++ []) (member_left c mk.calls [] i))

      of-kid : (c : Call) → Member c mk.calls → home g (parent c.node) ≡ role
      of-kid c i = ap (home g) (kid-parent n r rule args bound c i) ∙ h

      made-equations : EquationsOf zs (record (at xs) { equations = (at xs).equations ++ mk.equations })
      made-equations e i a = elim (member_split e (at xs).equations mk.equations i) [
        | inl j ↦ on-equations e j a
        | inr j ↦ never (a (ap (home g) (each_member (λ (e : Equation). e.left.node ≡ n) mk.equations e (made-left n r rule args bound) j) ∙ h))
      ]

      made-nodes : (k : Held) → Member k (insert_all (telling.calls_in g (at xs).role mk.calls) (map (mark n (Done r args)) (at xs).held)) → has_steps k.node.steps ≡ true
          → ((home g (parent k.node) ≡ role) × Member (as_call k) (calls_in (makings xs ++ mk ∷ []))) ⊎ ((load : List Equation) × New_at zs (calls_at role (as_call k) load))
      made-nodes k i w = elim (Member-insert_all k (telling.calls_in g (at xs).role mk.calls) (map (mark n (Done r args)) (at xs).held) i) [
        | inl j ↦ (let (c, m, q, p) = in_case g (at xs).role mk.calls k j in
            inl (ap (λ (k : Held). home g (parent k.node)) p ∙ of-kid c m, subst (λ (k : Held). Member (as_call k) (calls_in (makings xs ++ mk ∷ []))) (sym p) (last-call c m)))
        | inr j ↦ (let (d, m, p) = member_unmap (mark n (Done r args)) k (at xs).held j in
            let (a, b, c) = marked n (Done r args) d in
            let nd : k.node ≡ d.node = ap (λ (k : Held). k.node) p ∙ a in
            let same : as_call k ≡ as_call d = λ i. record { node = nd i; sort = (ap (λ (k : Held). k.sort) p ∙ b) i; inherited = (ap (λ (k : Held). k.inherited) p ∙ c) i } in
            elim (on-nodes (mk ∷ []) d m (subst (λ n. has_steps n.steps ≡ true) nd w)) [
              | inl (q, u) ↦ inl (ap (λ n. home g (parent n)) nd ∙ q, subst (λ c. Member c (calls_in (makings xs ++ mk ∷ []))) (sym same) u)
              | inr (load, u) ↦ inr (load, subst (λ c. New_at zs (calls_at role c load)) (sym same) u)
            ])
      ]

      made-parents : ParentsOf (makings xs ++ mk ∷ [])
      made-parents c i = elim (member_split c (calls_in (makings xs)) (mk.calls ++ []) (subst (λ cs. Member c cs) (calls-append (makings xs) (mk ∷ [])) i)) [
        | inl j ↦ T.parents c j
        | inr j ↦ of-kid c (subst (λ cs. Member c cs) (append-nil mk.calls) j)
      ]

    -- a message
    module _ (m : Message) (news : New_at zs m) (N : IsNews g (at xs) m) where
      to-role : m.to ≡ role
      to-role = eqb-true m.to (at xs).role (and_parts _ _ N.mine).0 ∙ T.is

      got-equations : EquationsOf zs (react g (at xs) m.kind).site
      got-equations e i a = elim (reacts-equations g (at xs) m.kind e i) [ inl j ↦ on-equations e j a | inr j ↦ (m, news, j) ]

      got-nodes : NodesOf zs (react g (at xs) m.kind).site (makings xs ++ [])
      got-nodes h i w = elim (reacts-nodes g (at xs) m.kind h i) [
        | inl j ↦ on-nodes [] h j w
        | inr (c, load, k, p) ↦ (let q : m ≡ calls_at role c load = λ i. record { to = to-role i; kind = k i } in
            inr (load, subst (λ (h : Held). New_at zs (calls_at role (as_call h) load)) (sym p) (subst (New_at zs) q news)))
      ]

      got-traced : Traced zs (react g (at xs) m.kind).site (makings xs ++ [])
      got-traced = record { is = react-role g (at xs) m.kind ∙ T.is; equations = got-equations; nodes = got-nodes; parents = on-parents }

    same-traced : Traced zs (at xs) (makings xs ++ [])
    same-traced = record { is = T.is; equations = on-equations; nodes = on-nodes []; parents = on-parents }

    start-traced : (st k : ℕ) → Traced zs (start_site (at xs) st k) (makings xs ++ [])
    start-traced st k = record {
      is = T.is;
      equations = on-equations;
      nodes = λ h i w. elim (Member-insert_held h (root_held st k) (at xs).held i) [
        | inl p ↦ absurd (let no : false ≡ true = ap (λ (h : Held). has_steps h.node.steps) (sym p) ∙ w in cc no)
        | inr j ↦ on-nodes [] h j w
      ];
      parents = on-parents;
    }

    made-traced : (n : Node) (r : ℕ) (args : List Ground) (rule : Rule) (bound : List Ref) → home g n ≡ role
        → Traced zs (develop_site g (at xs) (Develop n r args) n r args (made n r rule args bound)).site (makings xs ++ made n r rule args bound ∷ [])
    made-traced n r args rule bound h = record { is = T.is; equations = made-equations n r args rule bound h; nodes = made-nodes n r args rule bound h; parents = made-parents n r args rule bound h }

  after : (xs : List SiteEvent) (x : SiteEvent) → Traced xs (at xs) (makings xs) → IsAtHome g role x → Traced (xs ++ x ∷ []) (site_step g (at xs) x) (makings xs ++ makes g (at xs) x)
  after xs (Chose c) T h =
      chosen-case g (at xs) (λ s ms. Traced (xs ++ Chose c ∷ []) s (makings xs ++ ms)) (same-traced xs T (Chose c)) c
      (λ st k q e. start-traced xs T (Chose c) st k)
      (λ n r args rule bound q e. made-traced xs T (Chose c) n r args rule bound (ap (λ c. home g (node_of c)) (sym q) ∙ h))
  after xs (Got m) T h =
      received-case g (at xs) (λ s. Traced (xs ++ Got m ∷ []) s (makings xs ++ [])) (same-traced xs T (Got m)) m
      (λ y e N. got-traced xs T (Got m) m (xs, [], y, refl, e) N)

  none : Traced [] (at []) (makings [])
  none = record { is = refl; equations = λ e i a. never i; nodes = λ h i w. never i; parents = λ c i. never i }

  -- whatever comes
  pub traced : (es : List SiteEvent) → Each (IsAtHome g role) es → Traced es (at es) (makings es)
  traced es h =
      grows (λ xs. Traced xs (at xs) (makings xs)) (IsAtHome g role)
      (λ xs x T h. subst (λ s. Traced (xs ++ x ∷ []) s (makings (xs ++ x ∷ []))) (sym (run-more g (empty_site loads role) xs x))
      (subst (λ ms. Traced (xs ++ x ∷ []) (site_step g (at xs) x) ms) (sym (made-more g (empty_site loads role) xs x)) (after xs x T h)))
      none es h
