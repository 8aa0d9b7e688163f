-- Two still worlds in which the same choices were taken hold the same.
use Rattle.std.specs.Prelude.{◌⊎◌}
use Rattle.std.proofs.Common.{◌≡◌, ℕ, Bool, false, List, [], ◌∷◌, ◌++◌, map, Option, Some, None, refl, sym, ap, ◌∙◌, subst, inl, inr}
use Rattle.aw_list.specs.Members.{Member}
use Rattle.aw_term.specs.Artifacts.{Words}
use Rattle.aw_term.specs.Choices.{Choice, answer}
use Rattle.aw_term.specs.Configs.{State}
use Rattle.aw_term.specs.Held.{Held}
use Rattle.aw_term.specs.Names.{Ref}
use Rattle.aw_term.specs.Rules.{Grammar, get}
use Rattle.aw_term.specs.Runs.{worklist}
use Rattle.aw_term.specs.Trees.{Never}
use Rattle.aw_term.specs.WellFormed.{Each}
use Rattle.aw_term.proofs.Eaches.{each_append}
use Rattle.aw_iograph.specs.Dependence.{HasNoCircle, IO}
use Rattle.aw_accept.specs.Acyclic.{IsGivenGrammar}
use Rattle.aw_accept.proofs.Fitting.{given_of}
use Rattle.aw_store.specs.Equations.{Body, Equation, find, mentions}
use Rattle.aw_law_sites.specs.Homes.{home}
use Rattle.aw_law_sites.specs.Joint.{Joint, empty_joint, joint_run}
use Rattle.aw_law_sites.specs.Laws.{IsAccepted, SameChoices}
use Rattle.aw_law_sites.specs.Sites.{Site, empty_site}
use Rattle.aw_law_sites.specs.Worklists.{site_worklist}
use Rattle.aw_law_sites.specs.Worlds.{World, empty_world, site_at, Move, Delivers, run, IsQuiet, MayCome, world_after}
use Rattle.aw_law_sites.proofs.AnyOrders.{Goes_on, any_order}
use Rattle.aw_law_sites.proofs.Entering.{VariablesEnter, variables_enter}
use Rattle.aw_law_sites.proofs.SameConfigs.{Fit, fit_of, keep, fit_empty, same_configuration}
use Rattle.aw_law_worlds.specs.Laws.{HomesAreRoles}
use Rattle.aw_law_worlds.specs.Mentioned.{IsMentioned}
use Rattle.aw_law_worlds.specs.ReadRows.{IsPrinted}
use Rattle.aw_law_worlds.proofs.HeldOrdering.{same_held}
use Rattle.aw_law_worlds.proofs.Learning.{find-member}
use Rattle.aw_law_worlds.proofs.Places.{same_or_not}
use Rattle.aw_law_worlds.proofs.Quieting.{at_home, has_it, knows}
use Rattle.aw_law_worlds.proofs.Runs.{IsWorld, invariant_holds}
use Rattle.aw_law_worlds.proofs.Settling.{run_both}
use Rattle.aw_law_settling.specs.Still.{IsStill, StillBecomesQuiet, StillAnswers, StillWorklists, StillArtifacts}
use Rattle.aw_law_learning.specs.Learning.{IsLedTo, inherited, own, further, OfficesLearnTheirOwn}
use Rattle.aw_law_lateness.specs.Lateness.{LatenessLeavesNoTrace}
use Rattle.aw_law_lateness.proofs.SameMaps.{worklist-same}
use Rattle.aw_law_lateness.proofs.Taking.{choices-same}

module _ (words : Words) (g : Grammar) (accepted : IsAccepted words g) where
  abbrev fit : IsGivenGrammar g
  fit = given_of words g accepted.0

  abbrev enter : VariablesEnter g
  enter = variables_enter words g accepted.0

  abbrev ok : HasNoCircle g (IO g)
  ok = accepted.1

  both : (s t : State) → Goes_on s t → Goes_on t s → s ≡ t
  both s t (inl a) (inl b) = a ∙ sym b
  both s t (inl a) (inr b) = sym b
  both s t (inr a) b = a

  -- the nodes of the one are those of the other
  joint-held : (cs ds : List Choice) (x y : Joint) → SameChoices cs ds → joint_run g empty_joint cs ≡ Some x → joint_run g empty_joint ds ≡ Some y →
      Fit g fit enter ok x → (h : Held) → Member h x.held → Member h y.held
  joint-held cs ds x y same e f F h i =
      let xy = any_order g (Fit g fit enter ok) (fit_of g fit enter ok) (keep g fit enter ok) (fit_empty g fit enter ok) ds cs y x same.0 f e in
      let yx = any_order g (Fit g fit enter ok) (fit_of g fit enter ok) (keep g fit enter ok) (fit_empty g fit enter ok) cs ds x y same.1 e f in
      let (h1, m1, e1, s1, r1, t1) = xy.held h i in
      let (h2, m2, e2, s2, r2, t2) = yx.held h1 m1 in
      let back : h2 ≡ h = (fit_of g fit enter ok x F).apart h2 h m2 i (sym e2 ∙ sym e1) in
      let st = both h.state h1.state t1 (subst (λ (u : Held). Goes_on h1.state u.state) back t2) in
      subst (λ (u : Held). Member u y.held) (sym (λ z. record { node = e1 z; sort = s1 z; inherited = r1 z; state = st z })) m1

  joint-equations : (cs ds : List Choice) (x y : Joint) → SameChoices cs ds → joint_run g empty_joint cs ≡ Some x → joint_run g empty_joint ds ≡ Some
      y → (r : Ref) (b : Body) → find x.equations r ≡ Some b → find y.equations r ≡ Some b
  joint-equations cs ds x y same e f = (any_order g (Fit g fit enter ok) (fit_of g fit enter ok) (keep g fit enter ok) (fit_empty g fit enter ok) ds cs y x same.0 f e).equations

  pub same-back : (cs ds : List Choice) → SameChoices cs ds → SameChoices ds cs
  same-back cs ds (a, b) = (b, a)

  -- ---- quiet worlds
  module _ (loads other : Bool) (w v : World) (x y : Joint) (W : IsWorld words g accepted loads w x) (V : IsWorld words g accepted other v y)
      (quiet : IsQuiet v) (same : SameChoices w.taken v.taken) where
    pub held-there : (a : ℕ) (h : Held) → Member h (site_at w a).held → Member h (site_at v a).held
    held-there a h i =
        let (j, at) = W.inv.held a h i in
        subst (λ b. Member h (site_at v b).held) at (at_home words g accepted other v y V quiet h (joint-held w.taken v.taken x y same W.whole V.whole W.fit_ h j))

    -- where a site is led, the other one is too
    abbrev IsKnown : ℕ → Ref → Type 0
    IsKnown a r = (home g r.node ≡ a) ⊎ IsMentioned r (site_at v a).equations (site_at v a).held

    step-known : (a : ℕ) (e : Equation) → Member e (site_at w a).equations → IsKnown a e.left → (r : Ref) → Member r (mentions e.body) → IsKnown a r
    step-known a e i k r j =
        let there = joint-equations w.taken v.taken x y same W.whole V.whole e.left e.body (W.keyed e (W.inv.parts a e i)) in
        inr (inl (record { left = e.left; body = e.body }, find-member (site_at v a).equations e.left e.body (has_it words g accepted other v y V quiet a e.left e.body k there), j))

    led-known : (a : ℕ) (r : Ref) → IsLedTo g (site_at w a) r → IsKnown a r
    led-known a r (inherited h m i) = inr (inr (h, held-there a h m, i))
    led-known a r (own e m at i) = step-known a e m (inl (at ∙ W.inv.roles a)) r i
    led-known a r (further e l m i) = step-known a e m (led-known a e.left l) r i

    pub equation-there : ((a : ℕ) (r : Ref) (b : Body) → find (site_at w a).equations r ≡ Some b → (home g r.node ≡ a → Never) →
        IsLedTo g (site_at w a) r) → (a : ℕ) (r : Ref) (b : Body) → find (site_at w a).equations r ≡ Some b → find (site_at v a).equations r ≡ Some b
    equation-there learns a r b e =
        has_it words g accepted other v y V quiet a r b (known (same_or_not (home g r.node) a))
        (joint-equations w.taken v.taken x y same W.whole V.whole r b (knows words g accepted loads w x W a r b e))
      where
        known : (home g r.node ≡ a) ⊎ (home g r.node ≡ a → Never) → IsKnown a r
        known (inl h) = inl h
        known (inr n) = led-known a r (learns a r b e n)

  option-same : {A : Type 0} (o p : Option A) → ((b : A) → o ≡ Some b → p ≡ Some b) → ((b : A) → p ≡ Some b → o ≡ Some b) → o ≡ p
  option-same None None f k = refl
  option-same None (Some b) f k = k b refl
  option-same (Some a) p f k = sym (f a refl)

  module _ (learns : OfficesLearnTheirOwn g) (becomes : StillBecomesQuiet g) where
    may-deliver : (ks : List ℕ) → Each (MayCome g) (map Delivers ks)
    may-deliver [] = tt
    may-deliver (k ∷ ks) = (tt, may-deliver ks)

    -- a quiet world with the sites and choices of a still one
    pub record IsQuietOf (loads : Bool) (w : World) : Type 0 where
      pub moves : List Move
      pub may : Each (MayCome g) moves
      pub quiet : IsQuiet (world_after g loads moves)
      pub sites : (world_after g loads moves).sites ≡ w.sites
      pub taken : (world_after g loads moves).taken ≡ w.taken

    pub quiet-of : (loads : Bool) (es : List Move) → Each (MayCome g) es → IsStill g (world_after g loads es) → IsQuietOf loads (world_after g loads es)
    quiet-of loads es may still =
        let (ks, q, s, t) = becomes loads es may still in
        let e : world_after g loads (es ++ map Delivers ks) ≡ run g (world_after g loads es) (map Delivers ks) = run_both g (empty_world g loads) es (map Delivers ks) in
        record {
          moves = es ++ map Delivers ks;
          may = each_append (MayCome g) es (map Delivers ks) may (may-deliver ks);
          quiet = subst IsQuiet (sym e) q;
          sites = ap (λ (w : World). w.sites) e ∙ s;
          taken = ap (λ (w : World). w.taken) e ∙ t;
        }

    module _ (loads other : Bool) (w v : World) (Q : IsQuietOf loads w) (P : IsQuietOf other v) (same : SameChoices w.taken v.taken) where
      abbrev wq : World
      wq = world_after g loads Q.moves

      abbrev vq : World
      vq = world_after g other P.moves

      same-quiet : SameChoices wq.taken vq.taken
      same-quiet = subst (λ cs. SameChoices cs vq.taken) (sym Q.taken) (subst (SameChoices w.taken) (sym P.taken) same)

      abbrev W : (x : Joint) × IsWorld words g accepted loads wq x
      W = invariant_holds words g accepted loads Q.moves Q.may

      abbrev V : (x : Joint) × IsWorld words g accepted other vq x
      V = invariant_holds words g accepted other P.moves P.may

      pub quiet-held : (a : ℕ) → (site_at wq a).held ≡ (site_at vq a).held
      quiet-held a = same_held (site_at wq a).held (site_at vq a).held (W.1.inv.ordered a) (V.1.inv.ordered a)
          (held-there loads other wq vq W.0 V.0 W.1 V.1 P.quiet same-quiet a)
          (held-there other loads vq wq V.0 W.0 V.1 W.1 Q.quiet (same-back wq.taken vq.taken same-quiet) a)

      pub quiet-equations : (a : ℕ) (r : Ref) → find (site_at wq a).equations r ≡ find (site_at vq a).equations r
      quiet-equations a r = option-same (find (site_at wq a).equations r) (find (site_at vq a).equations r)
          (equation-there loads other wq vq W.0 V.0 W.1 V.1 P.quiet same-quiet (λ a r b e n. (learns loads Q.moves Q.may a r b e n).0) a r)
          (equation-there other loads vq wq V.0 W.0 V.1 W.1 Q.quiet (same-back wq.taken vq.taken same-quiet) (λ a r b e n. (learns other P.moves P.may a r b e n).0) a r)

      pub at-w : (a : ℕ) → site_at wq a ≡ site_at w a
      at-w a = ap (λ (ss : List Site). get (empty_site false a) ss a) Q.sites

      pub at-v : (a : ℕ) → site_at vq a ≡ site_at v a
      at-v a = ap (λ (ss : List Site). get (empty_site false a) ss a) P.sites

      pub tasks-same : (a : ℕ) → (site_at w a).held ≡ (site_at v a).held
      tasks-same a = ap (λ (s : Site). s.held) (sym (at-w a)) ∙ (quiet-held a ∙ ap (λ (s : Site). s.held) (at-v a))

      pub equations-same : (a : ℕ) (r : Ref) → find (site_at w a).equations r ≡ find (site_at v a).equations r
      equations-same a r = ap (λ (s : Site). find s.equations r) (sym (at-w a)) ∙ (quiet-equations a r ∙ ap (λ (s : Site). find s.equations r) (at-v a))

    pub lateness_leaves_no_trace : HomesAreRoles g → StillAnswers g → StillWorklists g → StillArtifacts words g → LatenessLeavesNoTrace words g
    lateness_leaves_no_trace homes answers worklists artifacts loads other es fs may might still rests same =
        let w = world_after g loads es in
        let v = world_after g other fs in
        let Q = quiet-of loads es may still in
        let P = quiet-of other fs might rests in
        let (c, e, f) = answers loads es may in
        let (d, u, h) = answers other fs might in
        let (c2, e2, f2) = worklists loads es may in
        let (d2, u2, h2) = worklists other fs might in
        let one : c ≡ d = same_configuration g fit enter ok w.taken v.taken same.0 same.1 c d e u in
        let two : c2 ≡ d2 = same_configuration g fit enter ok w.taken v.taken same.0 same.1 c2 d2 e2 u2 in
        record {
          tasks = tasks-same loads other w v Q P same;
          choices = choices-same g homes loads other es fs may might same;
          equations = equations-same loads other w v Q P same;
          answers = λ z. f still z ∙ (ap (λ c. answer g c z) one ∙ sym (h rests z));
          worklist = λ a. worklist-same (site_at w a).equations (site_at v a).equations (equations-same loads other w v Q P same a) g (site_at w a).held
              ∙ ap (site_worklist g (site_at v a).equations) (tasks-same loads other w v Q P same a);
          worklists = f2 still ∙ (ap (worklist g) two ∙ sym (h2 rests));
          printed = λ text p.
              let it = (artifacts loads es may still w.taken ((λ z i. i), (λ z i. i)) c e).1 text p in
              subst (IsPrinted words g v) (sym it) (artifacts other fs might rests w.taken (same-back w.taken v.taken same) c e).0;
        }
