-- What a node keeps of a frame: nothing, a choice that is taken, or a message that is new; and what a reply hands over.
use Rattle.std.specs.Prelude.{not, nat_eq, slice_get}
use Rattle.std.proofs.Common.{◌≡◌, ℕ, Bool, true, false, cond, List, [], ◌∷◌, length, Option, Some, None, refl, sym, ap, subst, inl, inr}
use Rattle.std.proofs.lemmas.Bool.{eqb-true}
use Rattle.aw_list.specs.Members.{Member}
use Rattle.aw_list.proofs.Members.{never, member_got}
use Rattle.aw_term.specs.Choices.{Choice, Answer, Taken}
use Rattle.aw_term.specs.Names.{Ref}
use Rattle.aw_term.specs.Rules.{Grammar}
use Rattle.aw_term.specs.Trees.{Never}
use Rattle.aw_base.specs.ChoiceFits.{choice_ok}
use Rattle.aw_apply.specs.Messages.{Message, Received, New, Repeat, Conflict, NotMine, BadName}
use Rattle.aw_law_sites.specs.Choosing.{Chosen, No, Did, choose}
use Rattle.aw_law_sites.specs.Homes.{home}
use Rattle.aw_law_sites.specs.Reacting.{receive}
use Rattle.aw_law_sites.specs.Receiving.{is_mine}
use Rattle.aw_law_sites.specs.SiteEvents.{SiteEvent, Chose, Got}
use Rattle.aw_law_sites.specs.Sites.{Site, Reaction}
use Rattle.aw_law_sites.specs.ValidNames.{message_ok}
use Rattle.aw_law_sites.specs.Worklists.{site_worklist}
use Rattle.aw_law_sites.specs.Worlds.{node_of}
use Rattle.aw_law_worlds.specs.Laws.{RefusalsAreNotTaken}
use Rattle.aw_law_worlds.proofs.Growing.{cond-new}
use Rattle.aw_law_nodes.specs.Crashes.{kept_choice, kept_message, kept_frame}
use Rattle.aw_law_nodes.specs.Nodes.{Frame, Push, Choose, Pull, Listed, Response, Answers, NotValid, NotForMe, Sends, Shows, received, chosen, at_place, handle}
use Rattle.aw_law_system.specs.Systems.{message_in}

-- what a site makes of a frame
pub data Makes (g : Grammar) (s : Site) (f : Frame) : Type 0 where
  nothing : kept_frame g s f ≡ [] → (handle g s f).site ≡ s → Makes g s f
  choosing : (c : Choice) (x : Reaction) → f ≡ Choose c → choice_ok g c ≡ true → home g (node_of c) ≡ s.role → choose g s c ≡ Did x
      → kept_frame g s f ≡ Chose c ∷ [] → (handle g s f).site ≡ x.site → (handle g s f).response ≡ Answers Taken → Makes g s f
  getting : (m : Message) (x : Reaction) → f ≡ Push m → receive g s m ≡ New x → kept_frame g s f ≡ Got m ∷ [] → (handle g s f).site ≡ x.site → Makes g s f

module _ (g : Grammar) (s : Site) where
  push-makes : (m : Message) (z : Received Reaction) → receive g s m ≡ z → Makes g s (Push m)
  push-makes m (New x) e = getting m x refl e (ap (kept_message m) e) (ap (λ (z : Received Reaction). (received s z).site) e)
  push-makes m Repeat e = nothing (ap (kept_message m) e) (ap (λ (z : Received Reaction). (received s z).site) e)
  push-makes m (Conflict a b) e = nothing (ap (kept_message m) e) (ap (λ (z : Received Reaction). (received s z).site) e)
  push-makes m NotMine e = nothing (ap (kept_message m) e) (ap (λ (z : Received Reaction). (received s z).site) e)
  push-makes m BadName e = nothing (ap (kept_message m) e) (ap (λ (z : Received Reaction). (received s z).site) e)

  -- a choice that may be asked, at its home or not
  abbrev kept_by : Choice → Bool → Bool → Chosen → List SiteEvent
  kept_by c a b z = cond (not a) [] (cond (not b) [] (kept_choice c z))

  abbrev site_by : Bool → Bool → Chosen → Site
  site_by a b z = (cond (not a) (record { site = s; response = NotValid }) (cond (not b) (record { site = s; response = NotForMe }) (chosen s z))).site

  abbrev told_by : Bool → Bool → Chosen → Response
  told_by a b z = (cond (not a) (record { site = s; response = NotValid }) (cond (not b) (record { site = s; response = NotForMe }) (chosen s z))).response

  choose-makes : (c : Choice) (a b : Bool) (z : Chosen) → choice_ok g c ≡ a → nat_eq (home g (node_of c)) s.role ≡ b → choose g s c ≡ z → Makes g s (Choose c)
  choose-makes c true true (Did x) p q e =
      choosing c x refl p (eqb-true (home g (node_of c)) s.role q) e (λ i. kept_by c (p i) (q i) (e i)) (λ i. site_by (p i) (q i) (e i)) (λ i. told_by (p i) (q i) (e i))
  choose-makes c true true (No a) p q e = nothing (λ i. kept_by c (p i) (q i) (e i)) (λ i. site_by (p i) (q i) (e i))
  choose-makes c true false z p q e = nothing (λ i. kept_by c (p i) (q i) (e i)) (λ i. site_by (p i) (q i) (e i))
  choose-makes c false b z p q e = nothing (λ i. kept_by c (p i) (q i) (e i)) (λ i. site_by (p i) (q i) (e i))

  pub makes : (f : Frame) → Makes g s f
  makes (Push m) = push-makes m (receive g s m) refl
  makes (Choose c) = choose-makes c (choice_ok g c) (nat_eq (home g (node_of c)) s.role) (choose g s c) refl refl refl
  makes (Pull k) = nothing refl refl
  makes (Listed k) = nothing refl refl

  -- a reply hands over nothing but what stands in the outbox
  push-hands : (m n : Message) (z : Received Reaction) → Member n (message_in (received s z).response) → Never
  push-hands m n (New x) i = i
  push-hands m n Repeat i = i
  push-hands m n (Conflict a b) i = i
  push-hands m n NotMine i = i
  push-hands m n BadName i = i

  choose-hands : (n : Message) (a b : Bool) (z : Chosen)
      → Member n (message_in (cond (not a) (record { site = s; response = NotValid }) (cond (not b) (record { site = s; response = NotForMe }) (chosen s z))).response) → Never
  choose-hands n true true (No a) i = i
  choose-hands n true true (Did x) i = i
  choose-hands n true false z i = i
  choose-hands n false b z i = i

  pull-hands : (n : Message) (k l : ℕ) (o : Option Message) → slice_get s.outbox k ≡ o → Member n (message_in (at_place Sends l o)) → Member n s.outbox
  pull-hands n k l None e i = never i
  pull-hands n k l (Some m) e (inl p) = subst (λ m. Member m s.outbox) (sym p) (member_got s.outbox k m e)
  pull-hands n k l (Some m) e (inr i) = never i

  list-hands : {A : Type 0} (n : Message) (h : A → Response) (l : ℕ) (o : Option A) → ((x : A) → message_in (h x) ≡ []) → Member n (message_in (at_place h l o)) → Never
  list-hands n h l None f i = i
  list-hands n h l (Some x) f i = subst (Member n) (f x) i

  pub hands-over : (f : Frame) (n : Message) → Member n (message_in (handle g s f).response) → Member n s.outbox
  hands-over (Push m) n i = never (push-hands m n (receive g s m) i)
  hands-over (Choose c) n i = never (choose-hands n (choice_ok g c) (nat_eq (home g (node_of c)) s.role) (choose g s c) i)
  hands-over (Pull k) n i = pull-hands n k (length s.outbox) (slice_get s.outbox k) refl i
  hands-over (Listed k) n i = never (list-hands n Shows (length (site_worklist g s.equations s.held)) (slice_get (site_worklist g s.equations s.held) k) (λ x. refl) i)

  -- only a message for this role is new
  mine-to : (m : Message) (b : Bool) → nat_eq m.to s.role ≡ b → (is_mine g s.role m ≡ true) → m.to ≡ s.role
  mine-to m true e h = eqb-true m.to s.role e
  mine-to m false e h = absurd cc

  is-true : (b : Bool) (z o : Received Reaction) (y : Reaction) → (z ≡ New y → Never) → cond (not b) z o ≡ New y → b ≡ true
  is-true true z o y f e = refl
  is-true false z o y f e = never (f e)

  pub new-here : (m : Message) (y : Reaction) → receive g s m ≡ New y → m.to ≡ s.role
  new-here m y e =
      let a = cond-new (not (message_ok g s.role m)) BadName _ y (λ z. absurd cc) e in
      mine-to m (nat_eq m.to s.role) refl (is-true (is_mine g s.role m) NotMine _ y (λ z. absurd cc) a)

  -- a choice of which is answered that it was taken is kept
  answer-of : {a b : Answer Ref} → Answers a ≡ Answers b → a ≡ b
  answer-of e = cc

  taken-by : RefusalsAreNotTaken g → (c : Choice) (a b : Bool) (z : Chosen) → choice_ok g c ≡ a → nat_eq (home g (node_of c)) s.role ≡ b → choose g s c ≡ z
      → (cond (not a) (record { site = s; response = NotValid }) (cond (not b) (record { site = s; response = NotForMe }) (chosen s z))).response ≡ Answers Taken
      → (kept_by c a b z ≡ Chose c ∷ []) × (home g (node_of c) ≡ s.role)
  taken-by refusals c true true (Did x) p q e h = (refl, eqb-true (home g (node_of c)) s.role q)
  taken-by refusals c true true (No a) p q e h = never (refusals s c a e (answer-of h))
  taken-by refusals c true false z p q e h = absurd cc
  taken-by refusals c false b z p q e h = absurd cc

  pub taken-kept : RefusalsAreNotTaken g → (c : Choice) → (handle g s (Choose c)).response ≡ Answers Taken → (kept_frame g s (Choose c) ≡ Chose c ∷ []) × (home g (node_of c) ≡ s.role)
  taken-kept refusals c h = taken-by refusals c (choice_ok g c) (nat_eq (home g (node_of c)) s.role) (choose g s c) refl refl refl h
