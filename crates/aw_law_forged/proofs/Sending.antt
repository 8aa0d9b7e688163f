-- A site holds what it sends, as it sends it.
use Rattle.std.specs.Prelude.{filter}
use Rattle.std.proofs.Common.{◌≡◌, ℕ, Bool, List, [], ◌∷◌, ◌++◌, map, Option, Some, None, refl, sym, ap, ◌∙◌, subst, inl, inr}
use Rattle.aw_list.specs.Members.{Member}
use Rattle.aw_list.proofs.Members.{member_split, member_unmap, never}
use Rattle.aw_term.specs.Choices.{Develop, Takes}
use Rattle.aw_term.specs.Configs.{Done}
use Rattle.aw_term.specs.Held.{held_of, insert_all, mark}
use Rattle.aw_term.specs.Names.{Node, Ref}
use Rattle.aw_term.specs.Rules.{Grammar, Ground, Rule}
use Rattle.aw_term.specs.WellFormed.{Each}
use Rattle.aw_accept.proofs.Fitting.{each_member}
use Rattle.aw_store.specs.Equations.{Body, Equation, Map, find, mentions}
use Rattle.aw_store.proofs.MoreEquations.{Holds, find-left_more, find-right_more}
use Rattle.aw_apply.specs.Made.{made}
use Rattle.aw_apply.specs.Messages.{Kind, Calls, Asks, Tells, Message, carried}
use Rattle.aw_apply.proofs.Numbering.{made-apart}
use Rattle.aw_law_sites.specs.Asking.{all_inherited, all_mentions, ask_message, asking, is_wanted}
use Rattle.aw_law_sites.specs.Choosing.{develop_site, outcome}
use Rattle.aw_law_sites.specs.Homes.{home}
use Rattle.aw_law_sites.specs.InOrder.{in_order}
use Rattle.aw_law_sites.specs.Loads.{load_of}
use Rattle.aw_law_sites.specs.Reacting.{add_held, react}
use Rattle.aw_law_sites.specs.Receiving.{add_all}
use Rattle.aw_law_sites.specs.SiteEvents.{SiteEvent, Chose, Got, site_step, site_run}
use Rattle.aw_law_sites.specs.Sites.{Site, empty_site}
use Rattle.aw_law_sites.specs.Telling.{calls_in, calls_out, tell_back, tells}
use Rattle.aw_law_sites.specs.Worlds.{node_of}
use Rattle.aw_law_worlds.proofs.Answering.{load-own}
use Rattle.aw_law_worlds.proofs.Learning.{add-kept, find-member}
use Rattle.aw_law_worlds.proofs.SentLemmas.{out_case, tell_case}
use Rattle.aw_law_forged.specs.Forged.{IsAtHome}
use Rattle.aw_law_forged.proofs.OwnEquations.{made-left}
use Rattle.aw_law_forged.proofs.Once.{none-good, not_done, step-good}
use Rattle.aw_law_forged.proofs.Traces.{Good, IsDone}
use Rattle.aw_law_forged.proofs.Steps.{chosen-case, received-case}

-- each equation of a making is the only one of its left side in it
holds-at : (k : Map) (es : List Equation) → Holds k es → (e : Equation) → Member e es → find k e.left ≡ Some e.body
holds-at k [] h e i = never i
holds-at k (d ∷ es) h e (inl p) = subst (λ (e : Equation). find k e.left ≡ Some e.body) (sym p) h.0
holds-at k (d ∷ es) h e (inr i) = holds-at k es h.1 e i

-- the site holds each equation that these messages carry
abbrev pub HasAll : Site → List Message → Type 0
HasAll t xs = (m : Message) → Member m xs → (e : Equation) → Member e (carried m.kind) → find t.equations e.left ≡ Some e.body

both : (t : Site) (xs ys : List Message) → HasAll t xs → HasAll t ys → HasAll t (xs ++ ys)
both t xs ys a b m i = elim (member_split m xs ys i) [ inl j ↦ a m j | inr j ↦ b m j ]

-- what an equation and its load carry
one-load : (g : Grammar) (t : Site) (e : Equation) (seen rs : List Ref) → find t.equations e.left ≡ Some e.body → (q : Equation) → Member q (e ∷ load_of g t seen rs)
    → find t.equations q.left ≡ Some q.body
one-load g t e seen rs f q (inl p) = subst (λ (q : Equation). find t.equations q.left ≡ Some q.body) (sym p) f
one-load g t e seen rs f q (inr i) = (load-own g t seen rs q i).0

-- a site sends some messages and then asks
asking-has : (g : Grammar) (t : Site) (first : List Message) (rs : List Ref) → HasAll t t.outbox → HasAll t first → HasAll t (asking g t first rs).site.outbox
asking-has g t first rs old new =
    both t t.outbox (first ++ map (ask_message g t.role) (filter (is_wanted g t) (in_order rs))) old
    (both t first (map (ask_message g t.role) (filter (is_wanted g t) (in_order rs))) new
    (λ m i e j. let (r, k, p) = member_unmap (ask_message g t.role) m (filter (is_wanted g t) (in_order rs)) i in never (subst (λ (m : Message). Member e (carried m.kind)) p j)))

abbrev pub Has : Site → Type 0
Has t = HasAll t t.outbox

module _ (g : Grammar) (role : ℕ) (s : Site) (G : Good g role s) (H : Has s) where
  -- what was sent before
  old : (t : Site) → ((r : Ref) (b : Body) → find s.equations r ≡ Some b → find t.equations r ≡ Some b) → HasAll t s.outbox
  old t f m i e j = f e.left e.body (H m i e j)

  made-has : (n : Node) (r : ℕ) (args : List Ground) (rule : Rule) (bound : List Ref) → home g n ≡ role → outcome g s (Develop n r args) ≡ Takes rule bound
      → Has (develop_site g s (Develop n r args) n r args (made n r rule args bound)).site
  made-has n r args rule bound h e0 =
      let mk = made n r rule args bound in
      let own = calls_in g s.role mk.calls in
      let t : Site = record s { held = insert_all own (map (mark n (Done r args)) s.held); choices = s.choices ++ Develop n r args ∷ []; equations = s.equations ++ mk.equations } in
      let (z, A) = made-apart n r rule args bound in
      let fresh : (e : Equation) → Member e mk.equations → find s.equations e.left ≡ None = λ e i.
      gone e (each_member (λ (e : Equation). e.left.node ≡ n) mk.equations e (made-left n r rule args bound) i) (find s.equations e.left) refl in
      let now : (e : Equation) → Member e mk.equations → find t.equations e.left ≡ Some e.body = λ e i.
      find-right_more s.equations mk.equations e.left (fresh e i) ∙ holds-at mk.equations mk.equations A.hold e i in
      asking-has g t (calls_out g t mk.calls ++ tells g t mk.equations) (all_mentions mk.equations ++ all_inherited own)
      (old t (find-left_more s.equations mk.equations))
      (both t (calls_out g t mk.calls) (tells g t mk.equations)
      (λ m i e j. let (c, ic, away, p) = out_case g t mk.calls m i in (load-own g t [] c.inherited e (subst (λ (m : Message). Member e (carried m.kind)) p j)).0)
      (λ m i e j. let (q, iq, to, w, p) = tell_case g t mk.equations m i in
      one-load g t q (q.left ∷ []) (mentions q.body) (now q iq) e (subst (λ (m : Message). Member e (carried m.kind)) p j)))
    where
      gone : (e : Equation) → e.left.node ≡ n → (o : Option Body) → find s.equations e.left ≡ o → find s.equations e.left ≡ None
      gone e p None f = f
      gone e p (Some b) f =
          never (not_done g role s G n r args rule bound h e0
          (subst (λ x. IsDone x s.held) p (G.nodes.developed (record { left = e.left; body = b }) (find-member s.equations e.left b f) (ap (home g) p ∙ h))))

  back-has : (r : Ref) (from : ℕ) (o : Option Body) → find s.equations r ≡ o → HasAll s (tell_back g s o r from)
  back-has r from None f m i e j = never i
  back-has r from (Some b) f m (inl p) e j = one-load g s (record { left = r; body = b }) (r ∷ []) (mentions b) f e (subst (λ (m : Message). Member e (carried m.kind)) p j)
  back-has r from (Some b) f m (inr i) e j = never i

  reacts-has : (k : Kind) → Has (react g s k).site
  reacts-has (Calls c load) =
      let t : Site = record s { held = add_held (held_of c.node s.held) c s.held; equations = add_all s.equations load } in
      asking-has g t [] (c.inherited ++ all_mentions load) (old t (add-kept s.equations load)) (λ m i. never i)
  reacts-has (Asks r from) = both s s.outbox (tell_back g s (find s.equations r) r from) H (back-has r from (find s.equations r) refl)
  reacts-has (Tells e load) =
      let t : Site = record s { equations = add_all s.equations (e ∷ load) } in
      asking-has g t [] (all_mentions (e ∷ load)) (old t (add-kept s.equations (e ∷ load))) (λ m i. never i)

  step-has : (e : SiteEvent) → IsAtHome g role e → Has (site_step g s e)
  step-has (Chose c) h =
      chosen-case g s (λ t ms. Has t) H c (λ st k q e. H) (λ n r args rule bound q e. made-has n r args rule bound (ap (λ c. home g (node_of c)) (sym q) ∙ h) e)
  step-has (Got m) h = received-case g s Has H m (λ y e N. reacts-has m.kind)

run-has : (g : Grammar) (role : ℕ) (s : Site) → Good g role s → Has s → (es : List SiteEvent) → Each (IsAtHome g role) es → Has (site_run g s es)
run-has g role s G H [] h = H
run-has g role s G H (e ∷ es) h = run-has g role (site_step g s e) (step-good g role s G e h.0) (step-has g role s G H e h.0) es h.1

-- whatever comes, what a site sent it holds
pub sent-has : (g : Grammar) (loads : Bool) (role : ℕ) (es : List SiteEvent) → Each (IsAtHome g role) es → Has (site_run g (empty_site loads role) es)
sent-has g loads role es h = run-has g role (empty_site loads role) (none-good g loads role) (λ m i. never i) es h
