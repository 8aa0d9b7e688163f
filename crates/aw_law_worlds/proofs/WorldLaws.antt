-- The laws of worlds, as they are stated.
use Rattle.std.specs.Prelude.{◌⊎◌}
use Rattle.std.proofs.Common.{◌≤◌, length, Bool, List, None, Option, Some, [], false, inl, inr, map, refl, subst, suc, sym, zero, ℕ, ◌∙◌, ◌∷◌, ◌≡◌}
use Rattle.aw_list.proofs.Members.{member_got}
use Rattle.aw_iograph.proofs.Relations.{io_closed}
use Rattle.aw_term.specs.Artifacts.{Words, artifact_text}
use Rattle.aw_term.specs.Rules.{Grammar}
use Rattle.aw_term.specs.WellFormed.{Each}
use Rattle.aw_iograph.specs.Dependence.{HasNoCircle, IO}
use Rattle.aw_accept.specs.Acyclic.{IsGivenGrammar}
use Rattle.aw_accept.proofs.Fitting.{given_of}
use Rattle.aw_accept.proofs.UndividedRuns.{empty_good, undivided-acyclic, undivided-good}
use Rattle.aw_apply.specs.Messages.{Asks, Calls, Kind, Tells, New, Received, Repeat}
use Rattle.aw_law_sites.specs.Joint.{Joint}
use Rattle.aw_law_sites.specs.Laws.{IsAccepted}
use Rattle.aw_law_sites.proofs.Agreement.{acyclic_law}
use Rattle.aw_law_sites.proofs.Entering.{VariablesEnter, variables_enter}
use Rattle.aw_law_sites.proofs.FlatSteps.{es}
use Rattle.aw_law_sites.proofs.SameConfigs.{fit_of, same_configuration}
use Rattle.aw_law_sites.specs.Homes.{home}
use Rattle.aw_law_sites.specs.Bounds.{bound_on}
use Rattle.aw_law_sites.specs.Reacting.{react}
use Rattle.aw_law_sites.specs.Sites.{Reaction, Site}
use Rattle.aw_law_sites.specs.Worlds.{IsQuiet, Delivers, node_of, Move, World, deliver, run, settle, site_at, undelivered, gather}
use Rattle.aw_law_worlds.specs.Invariant.{equation}
use Rattle.aw_law_worlds.specs.Laws.{Artifacts, Headline, HoldsConfig, HomesAreRoles, InvariantHolds, Knowledge, MayCome, MessagesAreBounded, NoCircle}
use Rattle.aw_law_worlds.specs.Laws.{QuietHolds, Repeats, RuleStaysEnabled, SettlingIsDelivering, StartStaysEnabled, Stays, world_after}
use Rattle.aw_law_worlds.specs.Laws.{ValuesAreFinite, PrintsOne, QuietAnswers, OneRole}
use Rattle.aw_law_worlds.proofs.QuietAnswers.{quiet_answer, no_messages, always_quiet}
use Rattle.aw_law_worlds.proofs.Learning.{find-member}
use Rattle.aw_law_worlds.proofs.PartValues.{part_acyclic, rows_of_values}
use Rattle.aw_law_worlds.proofs.Bounding.{bounded, settled}
use Rattle.aw_law_worlds.proofs.Delivering.{received, repeats}
use Rattle.aw_law_worlds.proofs.Enabled.{one_each, rule_stays, run-both, start_stays_on}
use Rattle.aw_law_worlds.proofs.Growing.{equations_stay}
use Rattle.aw_law_worlds.proofs.InWords.{in_words}
use Rattle.aw_law_worlds.proofs.NoCircles.{choice_circle}
use Rattle.aw_law_worlds.proofs.Parts.{Effect, Mark}
use Rattle.aw_law_worlds.proofs.Quieting.{is_undivided, never_circle, quiet_pairs}
use Rattle.aw_law_worlds.proofs.Reading.{printed, printed_only, read_only}
use Rattle.aw_law_worlds.proofs.Runs.{IsWorld, homes, invariant_holds, to-within}
use Rattle.aw_law_worlds.proofs.Sorts.{choice_node}

module _ (words : Words) (g : Grammar) (accepted : IsAccepted words g) where
  abbrev fit : IsGivenGrammar g
  fit = given_of words g accepted.0

  abbrev enter : VariablesEnter g
  enter = variables_enter words g accepted.0

  abbrev ok : HasNoCircle g (IO g)
  ok = accepted.1

  at_end : (loads : Bool) (es : List Move) → Each (MayCome g) es → (x : Joint) × IsWorld words g accepted loads (world_after g loads es) x
  at_end loads es a = invariant_holds words g accepted loads es a

  pub invariant_law : InvariantHolds g
  invariant_law loads es a = let (x, W) = at_end loads es a in (x, in_words words g accepted loads (world_after g loads es) x W)

  pub homes_law : HomesAreRoles g
  homes_law c e = (homes words g accepted false).within (node_of c) (choice_node g c e)

  pub knowledge_law : Knowledge g
  knowledge_law loads es a k m e =
      let (x, W) = at_end loads es a in
      let w = world_after g loads es in
      elim (received g loads (site_at (world_after g loads es)) (world_after g loads es).messages _ x W.inv W.keyed (fit_of g fit enter ok x W.fit_).apart W.valid.0 m.to k m e refl
      (to-within words g accepted loads (world_after g loads es) x W m m.kind (member_got (world_after g loads es).messages k m e) refl)) [
        | inl z ↦ inr (react g (site_at (world_after g loads es) m.to) m.kind, z.0)
        | inr z ↦ inl z.0
      ]

  without-loads : (loads : Bool) (s : Site) (k : Kind) → loads ≡ false → Effect s k → Mark loads s k
  without-loads loads s (Calls c l) f z = (z.0.0, z.0.1, z.0.2)
  without-loads loads s (Asks r b) f z = z
  without-loads loads s (Tells e l) f z = (f, (e.body, z.0))

  new-or-known : (x : Received Reaction) (y : Reaction) (P Q : Type 0) → ((x ≡ New y) × P) ⊎ ((x ≡ Repeat) × Q) → x ≡ Repeat → Q
  new-or-known x y P Q (inl z) e = let p : New y ≡ Repeat = sym z.0 ∙ e in absurd cc
  new-or-known x y P Q (inr z) e = z.1

  pub repeats_law : Repeats g
  repeats_law loads es a k m e =
      let (x, W) = at_end loads es a in
      let l = to-within words g accepted loads (world_after g loads es) x W m m.kind (member_got (world_after g loads es).messages k m e) refl in (
        (λ d. repeats g loads (site_at (world_after g loads es)) (world_after g loads es).messages _ x W.inv W.keyed
            (fit_of g fit enter ok x W.fit_).apart W.valid.0 m.to k m e refl l ((W.inv.effect k m e).0 d)),
        (λ f r. (W.inv.effect k m e).1 (without-loads loads (site_at (world_after g loads es) m.to) m.kind f
            (new-or-known _ _ _ _ (received g loads (site_at (world_after g loads es)) (world_after g loads es).messages _ x W.inv W.keyed
            (fit_of g fit enter ok x W.fit_).apart W.valid.0 m.to k m e refl l) r))),
      )

  pub circle_law : NoCircle g
  circle_law loads es a =
      let (x, W) = at_end loads es a in (
        (λ b h i n ps r e. never_circle words g accepted loads (world_after g loads es) x W b h i n ps r e),
        (λ b c r e. choice_circle g (site_at (world_after g loads es) b) (λ h i n ps r e. never_circle words g accepted loads (world_after g loads es) x W b h i n ps r e) c r e),
      )

  pub stays_law : Stays g
  stays_law loads es a later k b =
      let (x, W) = at_end loads es a in
      let (y, V, G) = run-both words g accepted loads later (world_after g loads es) x W k in
      (equations_stay (site_at (world_after g loads es) b) (site_at (run g (world_after g loads es) later) b) (G.equations b), G.held b)

  pub rule_law : RuleStaysEnabled g
  rule_law loads es a later k b n r args rule bound f =
      let (x, W) = at_end loads es a in
      let (y, V, G) = run-both words g accepted loads later (world_after g loads es) x W k in
      rule_stays g (site_at (world_after g loads es) b) (site_at (run g (world_after g loads es) later) b) (G.equations b) (G.held b)
      (one_each words g accepted loads (run g (world_after g loads es) later) y V b) n r args rule bound f

  pub start_law : StartStaysEnabled g
  start_law loads es a later k s l f n = let (x, W) = at_end loads es a in start_stays_on words g accepted loads later (world_after g loads es) x W k s l f n

  pub quiet_law : QuietHolds g
  quiet_law loads es a =
      let (x, W) = at_end loads es a in
      let (c, e, A) = is_undivided words g accepted loads (world_after g loads es) x W in
      (c, e, λ quiet. let (p, q) = quiet_pairs words g accepted loads (world_after g loads es) x W quiet c A in record { agree = p; at_home = q })

  pub answers_law : QuietAnswers g
  answers_law loads es a =
      let (x, W) = at_end loads es a in
      let (c, e, A) = is_undivided words g accepted loads (world_after g loads es) x W in
      (c, e, λ quiet y. quiet_answer words g accepted loads (world_after g loads es) x W quiet c e A y)

  pub one_role_law : OneRole g
  one_role_law one loads es a =
      let (x, W) = at_end loads es a in
      (no_messages words g accepted loads (world_after g loads es) x W one, always_quiet words g accepted loads (world_after g loads es) x W one)

  pub headline : Headline g
  headline loads es a =
      let (c, e, f) = quiet_law loads es a in (
        c,
        e,
        (undivided-acyclic g fit (IO g) (io_closed g) ok (world_after g loads es).taken c e).1,
        λ quiet ds s d u. subst (HoldsConfig g (world_after g loads es)) (same_configuration g fit enter ok (world_after g loads es).taken ds s.0 s.1 c d e u) (f quiet),
      )

  pub artifacts_law : Artifacts words g
  artifacts_law loads es a quiet ds s d u =
      let (c, e, i, f) = headline loads es a in
      let z = f quiet ds s d u in
      let t = (undivided-good g fit (IO g) (io_closed g) ok [] ds d (empty_good g fit (IO g) (io_closed g) ok) u).0 in
      (printed words g (world_after g loads es) d t z.agree, printed_only words g (world_after g loads es) d t z.agree)

  pub values_law : ValuesAreFinite g
  values_law loads es a b =
      let (x, W) = at_end loads es a in
      part_acyclic x.equations (site_at (world_after g loads es) b).equations
      (λ r c f. W.keyed (equation r c) (W.inv.parts b (equation r c) (find-member (site_at (world_after g loads es) b).equations r c f)))
      (acyclic_law words g accepted (world_after g loads es).taken x W.whole)

  pub printed_law : PrintsOne words g
  printed_law loads es a =
      let (rows, r) = rows_of_values g (λ h. (site_at (world_after g loads es) (home g h.node)).equations)
      (λ h s. (values_law loads es a (home g h.node)).values s) (gather (world_after g loads es).sites) in
      (artifact_text words rows, (rows, r, refl), λ other p. read_only words g (world_after g loads es) rows r other p)

  pub bound_law : MessagesAreBounded g
  bound_law loads es a =
      let (x, W) = at_end loads es a in
      let w = world_after g loads es in (
        subst (λ o. length w.messages ≤ bound_on g o) (sym W.whole) (bounded words g accepted loads w x W),
        subst (λ o. IsQuiet (settle (bound_on g o) g w)) (sym W.whole) (settled words g accepted loads w x W),
      )

settle_on : (g : Grammar) (n : ℕ) (w : World) → ((v : World) → (ks : List ℕ) × (settle n g v ≡ run g v (map Delivers ks))) → (o : Option ℕ)
    → (ks : List ℕ) × ((elim o [ None ↦ w | Some k ↦ settle n g (deliver g w k).world ]) ≡ run g w (map Delivers ks))
settle_on g n w f None = ([], refl)
settle_on g n w f (Some k) = let (ks, e) = f (deliver g w k).world in (k ∷ ks, e)

pub settle_law : (g : Grammar) → SettlingIsDelivering g
settle_law g zero w = ([], refl)
settle_law g (suc n) w = settle_on g n w (settle_law g n) (undelivered w)
