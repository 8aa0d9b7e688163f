-- Messages that were refused or known do nothing, and messages that sites sent tie no cases.
use Rattle.std.specs.Prelude.{nat_eq}
use Rattle.std.proofs.Common.{◌≡◌, ℕ, Bool, true, false, cond, List, [], ◌∷◌, ◌++◌, refl, sym, ap, ◌∙◌, subst, inl, inr}
use Rattle.std.proofs.lemmas.Bool.{eqb-true}
use Rattle.aw_list.specs.Members.{Member}
use Rattle.aw_list.proofs.Members.{never, member_split}
use Rattle.aw_term.specs.Choices.{Choice}
use Rattle.aw_term.specs.Rules.{Grammar}
use Rattle.aw_term.specs.WellFormed.{Each}
use Rattle.aw_apply.specs.Messages.{Message, Received, BadName, NotMine, Conflict, Repeat, New}
use Rattle.aw_law_sites.specs.Choosing.{Chosen, No, Did, choose}
use Rattle.aw_law_sites.specs.Reacting.{receive}
use Rattle.aw_law_sites.specs.SiteEvents.{SiteEvent, Chose, Got, after_choice, after_message, site_run, site_step}
use Rattle.aw_law_sites.specs.Sites.{Site, Reaction, empty_site}
use Rattle.aw_law_nodes.proofs.Following.{choose-boxes, receive-boxes}
use Rattle.aw_law_cases.specs.Cases.{Cases, keep_site, IsParted, IsOneSided, IsOneSidedEvent}
use Rattle.aw_law_cases.specs.Ties.{is_new, counts, counted, SendsOneSided, OnlyNewOnesTie, RoleEvent, events_at, sites_after, TiesNone, NoneTies, OnlyForgedOnesTie}
use Rattle.aw_law_cases.proofs.Choices.{choose-sided}
use Rattle.aw_law_cases.proofs.CaseWorlds.{empty-parted-one}
use Rattle.aw_law_cases.proofs.Receiving.{receive-parted, step-parted, site_keeps_cases}

module _ (g : Grammar) where
  -- what does not count changes nothing
  same-got : (s : Site) (z : Received Reaction) → is_new z ≡ false → after_message s z ≡ s
  same-got s BadName i = refl
  same-got s NotMine i = refl
  same-got s (Conflict a b) i = refl
  same-got s Repeat i = refl
  same-got s (New x) i = absurd cc

  same-step : (s : Site) (e : SiteEvent) → counts g s e ≡ false → site_step g s e ≡ s
  same-step s (Chose c) i = absurd cc
  same-step s (Got m) i = same-got s (receive g s m) i

  counted-by : (s : Site) (e : SiteEvent) (es fs : List SiteEvent) (b : Bool) → counts g s e ≡ b → site_run g (site_step g s e) es ≡ site_run g
      (site_step g s e) fs → site_run g s (cond b (e ∷ es) es) ≡ site_run g (site_step g s e) fs
  counted-by s e es fs true i h = h
  counted-by s e es fs false i h = ap (λ t. site_run g t es) (sym (same-step s e i)) ∙ h

  counted-run : (s : Site) (es : List SiteEvent) → site_run g s (counted g s es) ≡ site_run g s es
  counted-run s [] = refl
  counted-run s (e ∷ es) = counted-by s e (counted g (site_step g s e) es) es (counts g s e) refl (counted-run (site_step g s e) es)

  module _ (C : Cases) where
    -- what a site sends
    more-sent : (s t : Site) (sent : List Message) → t.outbox ≡ s.outbox ++ sent → SendsOneSided C s → ((m : Message) → Member m sent → IsOneSided C m.kind) → SendsOneSided C t
    more-sent s t sent e p q = λ m i. elim (member_split m s.outbox sent (subst (λ ms. Member m ms) e i)) [ inl j ↦ p m j | inr j ↦ q m j ]

    chose-sends : (s : Site) → IsParted C s → (c : Choice) (z : Chosen) → choose g s c ≡ z → SendsOneSided C s → SendsOneSided C (after_choice s z)
    chose-sends s P c (No a) e p = p
    chose-sends s P c (Did x) e p = more-sent s x.site x.sent (choose-boxes g s c x e) p (choose-sided C g s P c x e)

    got-sends : (s : Site) → IsParted C s → (m : Message) → IsOneSided C m.kind → (z : Received Reaction) → receive g s m ≡ z → SendsOneSided C s → SendsOneSided C (after_message s z)
    got-sends s P m one BadName e p = p
    got-sends s P m one NotMine e p = p
    got-sends s P m one (Conflict a b) e p = p
    got-sends s P m one Repeat e p = p
    got-sends s P m one (New x) e p = more-sent s x.site x.sent (receive-boxes g s m x e) p (receive-parted C g s P m one x e).1

    step-sends : (s : Site) → IsParted C s → (e : SiteEvent) → IsOneSidedEvent C e → SendsOneSided C s → SendsOneSided C (site_step g s e)
    step-sends s P (Chose c) one p = chose-sends s P c (choose g s c) refl p
    step-sends s P (Got m) one p = got-sends s P m one (receive g s m) refl p

    run-sends : (s : Site) (es : List SiteEvent) → IsParted C s → Each (IsOneSidedEvent C) es → SendsOneSided C s → SendsOneSided C (site_run g s es)
    run-sends s [] P one p = p
    run-sends s (e ∷ es) P one p = run-sends (site_step g s e) es (step-parted C g s P e one.0) one.1 (step-sends s P e one.0 p)

    -- what holds of each site of all roles
    abbrev IsApart : Site → Type 0
    IsApart s = IsParted C s × SendsOneSided C s

    step-apart : (s : Site) (e : SiteEvent) → IsApart s → (counts g s e ≡ true → IsOneSidedEvent C e) → (b : Bool) → counts g s e ≡ b → IsApart (site_step g s e)
    step-apart s e (P, p) one true i = (step-parted C g s P e (one i), step-sends s P e (one i) p)
    step-apart s e (P, p) one false i = subst IsApart (sym (same-step s e i)) (P, p)

    one-sided : (sites : ℕ → Site) → ((a : ℕ) → IsApart (sites a)) → (r : ℕ) (e : SiteEvent) → TiesNone C g sites r e → counts g (sites r) e ≡ true → IsOneSidedEvent C e
    one-sided sites A r (Chose c) t i = tt
    one-sided sites A r (Got m) t i = elim (t i) [ inl s ↦ (A s.0).1 m s.1 | inr o ↦ o ]

    -- the same of the role at which an event came
    one-at : (sites : ℕ → Site) → ((a : ℕ) → IsApart (sites a)) → (x : RoleEvent) → TiesNone C g sites x.role x.event → (r : ℕ) →
        nat_eq x.role r ≡ true → counts g (sites r) x.event ≡ true → IsOneSidedEvent C x.event
    one-at sites A x t r e = subst (λ (a : ℕ). counts g (sites a) x.event ≡ true → IsOneSidedEvent C x.event) (eqb-true x.role r e) (one-sided sites A x.role x.event t)

    apart-by : (sites : ℕ → Site) → ((a : ℕ) → IsApart (sites a)) → (x : RoleEvent) → TiesNone C g sites x.role x.event → (r : ℕ) (b : Bool) →
        nat_eq x.role r ≡ b → IsApart (cond b (site_step g (sites r) x.event) (sites r))
    apart-by sites A x t r false e = A r
    apart-by sites A x t r true e = step-apart (sites r) x.event (A r) (one-at sites A x t r e) (counts g (sites r) x.event) refl

    each-by : (s : Site) (e : SiteEvent) (es : List SiteEvent) → (counts g s e ≡ true → IsOneSidedEvent C e) → Each (IsOneSidedEvent C) es →
        (b : Bool) → counts g s e ≡ b → Each (IsOneSidedEvent C) (cond b (e ∷ es) es)
    each-by s e es one later true i = (one i, later)
    each-by s e es one later false i = later

    came-by : (sites : ℕ → Site) → ((a : ℕ) → IsApart (sites a)) → (x : RoleEvent) → TiesNone C g sites x.role x.event → (r : ℕ) (es : List SiteEvent)
        (b : Bool) → nat_eq x.role r ≡ b → Each (IsOneSidedEvent C) (counted g (cond b (site_step g (sites r) x.event) (sites r)) es) →
        Each (IsOneSidedEvent C) (counted g (sites r) (cond b (x.event ∷ es) es))
    came-by sites A x t r es false e later = later
    came-by sites A x t r es true e later = each-by (sites r) x.event (counted g (site_step g (sites r) x.event) es) (one-at sites A x t r e) later (counts g (sites r) x.event) refl

    all-one-sided : (sites : ℕ → Site) → ((a : ℕ) → IsApart (sites a)) → (xs : List RoleEvent) → NoneTies C g sites xs → (r : ℕ) → Each (IsOneSidedEvent C) (counted g (sites r) (events_at r xs))
    all-one-sided sites A [] t r = tt
    all-one-sided sites A (x ∷ xs) t r =
        let later = all-one-sided (sites_after g sites x) (λ a. apart-by sites A x t.0 a (nat_eq x.role a) refl) xs t.1 r in
        came-by sites A x t.0 r (events_at r xs) (nat_eq x.role r) refl later

pub only_new_ones_tie : (g : Grammar) → OnlyNewOnesTie g
only_new_ones_tie g C s es P one =
    let whole = counted-run g s es in
    (ap (keep_site C) (sym whole) ∙ (site_keeps_cases g C s (counted g s es) P one).0, λ p. subst (SendsOneSided C) whole (run-sends g C s (counted g s es) P one p))

pub only_forged_ones_tie : (g : Grammar) → OnlyForgedOnesTie g
only_forged_ones_tie g C loads xs t r =
    let nothing : (a : ℕ) → IsParted C (empty_site loads a) × SendsOneSided C (empty_site loads a) = λ a. (empty-parted-one C g loads a, λ m i. never i) in
    (only_new_ones_tie g C (empty_site loads r) (events_at r xs) (empty-parted-one C g loads r) (all-one-sided g C (empty_site loads) nothing xs t r)).0
