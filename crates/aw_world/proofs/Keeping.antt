-- What every step of a world keeps at its sites.
use Rattle.std.proofs.Common.{◌≡◌, ℕ, zero, suc, false, List, [], ◌∷◌, ap, sym, refl, subst, inl, inr, ◌⊎◌}
use Rattle.std.specs.Prelude.{slice_get, slice_set, Option, Some, None}
use Rattle.aw_list.specs.Members.{Member}
use Rattle.aw_term.specs.Rules.{Ground, Grammar, get}
use Rattle.aw_term.specs.Configs.{Done}
use Rattle.aw_term.specs.Choices.{Choice}
use Rattle.aw_term.specs.Held.{Held}
use Rattle.aw_apply.specs.Messages.{Message, Received, BadName, NotMine, Conflict, Repeat, New}
use Rattle.aw_law_sites.specs.Homes.{home}
use Rattle.aw_law_sites.specs.Sites.{Site, Reaction, empty_site}
use Rattle.aw_law_sites.specs.Choosing.{Chosen, No, Did, choose}
use Rattle.aw_law_sites.specs.Reacting.{receive}
use Rattle.aw_law_sites.specs.SiteEvents.{Chose, Got, after_choice, after_message}
use Rattle.aw_law_sites.specs.Worlds.{World, Move, Chooses, Delivers, site_at, node_of, chosen_at, received_at, deliver_on, step}
use Rattle.aw_law_worlds.specs.Laws.{EquationsStay}
use Rattle.aw_law_worlds.proofs.Growing.{site_stays}
use Rattle.aw_world.specs.Staying.{KeepsSites}

-- a site keeps this of another
record Keeps (s t : Site) : Type 0 where
  equations : EquationsStay s.equations t.equations
  nodes : (h : Held) → Member h s.held → Member h t.held ⊎ ((r : ℕ) × (args : List Ground) × Member (record h { state = Done r args }) t.held)

keeps_itself : (g : Grammar) (s : Site) → Keeps s s
keeps_itself g s = record { equations = (site_stays g).equations s []; nodes = (site_stays g).nodes s [] }

keeps_choice : (g : Grammar) (s : Site) (c : Choice) → Keeps s (after_choice s (choose g s c))
keeps_choice g s c = record { equations = (site_stays g).equations s (Chose c ∷ []); nodes = (site_stays g).nodes s (Chose c ∷ []) }

keeps_message : (g : Grammar) (s : Site) (m : Message) → Keeps s (after_message s (receive g s m))
keeps_message g s m = record { equations = (site_stays g).equations s (Got m ∷ []); nodes = (site_stays g).nodes s (Got m ∷ []) }

get_put : (d : Site) (xs : List Site) (i a : ℕ) (y : Site) → (get d (slice_set xs i y) a ≡ get d xs a) ⊎ ((a ≡ i) × (get d (slice_set xs i y) a ≡ y))
get_put d [] i a y = inl refl
get_put d (x ∷ xs) zero zero y = inr (refl, refl)
get_put d (x ∷ xs) zero (suc a) y = inl refl
get_put d (x ∷ xs) (suc i) zero y = inl refl
get_put d (x ∷ xs) (suc i) (suc a) y = elim (get_put d xs i a y) [ inl e ↦ inl e | inr e ↦ inr (ap suc e.0, e.1) ]

keeps_all : (v w : World) → ((a : ℕ) → Keeps (site_at v a) (site_at w a)) → KeepsSites v w
keeps_all v w f = record { equations = λ a. (f a).equations; nodes = λ a. (f a).nodes }

-- one site changes
keeps_put : (g : Grammar) (v w : World) (to : ℕ) (t : Site) → w.sites ≡ slice_set v.sites to t → Keeps (site_at v to) t → KeepsSites v w
keeps_put g v w to t e k = keeps_all v w (λ a. subst (λ ss. Keeps (site_at v a) (get (empty_site false a) ss a)) (sym e) (elim (get_put (empty_site false a) v.sites to a t) [
  | inl same ↦ subst (λ s. Keeps (site_at v a) s) (sym same) (keeps_itself g (site_at v a))
  | inr here ↦ subst (λ s. Keeps (site_at v a) s) (sym here.1) (subst (λ i. Keeps (site_at v i) t) (sym here.0) k)
]))

-- none changes
keeps_same : (g : Grammar) (v w : World) → w.sites ≡ v.sites → KeepsSites v w
keeps_same g v w e = keeps_all v w (λ a. subst (λ ss. Keeps (site_at v a) (get (empty_site false a) ss a)) (sym e) (keeps_itself g (site_at v a)))

choice_keeps : (g : Grammar) (v : World) (role : ℕ) (c : Choice) (x : Chosen) → Keeps (site_at v role) (after_choice (site_at v role) x) → KeepsSites v (chosen_at v role c x).world
choice_keeps g v role c (No a) k = keeps_same g v v refl
choice_keeps g v role c (Did y) k = keeps_put g v (chosen_at v role c (Did y)).world role y.site refl k

message_keeps : (g : Grammar) (v : World) (k to : ℕ) (x : Received Reaction) → Keeps (site_at v to) (after_message (site_at v to) x) → KeepsSites v (received_at v k to x).world
message_keeps g v k to BadName s = keeps_same g v (received_at v k to BadName).world refl
message_keeps g v k to NotMine s = keeps_same g v (received_at v k to NotMine).world refl
message_keeps g v k to (Conflict a b) s = keeps_same g v (received_at v k to (Conflict a b)).world refl
message_keeps g v k to Repeat s = keeps_same g v (received_at v k to Repeat).world refl
message_keeps g v k to (New y) s = keeps_put g v (received_at v k to (New y)).world to y.site refl s

delivery_keeps : (g : Grammar) (v : World) (k : ℕ) (o : Option Message) → KeepsSites v (deliver_on g v k o).world
delivery_keeps g v k None = keeps_same g v v refl
delivery_keeps g v k (Some m) = message_keeps g v k m.to (receive g (site_at v m.to) m) (keeps_message g (site_at v m.to) m)

pub step_keeps : (g : Grammar) (v : World) (e : Move) → KeepsSites v (step g v e).world
step_keeps g v (Chooses c) = choice_keeps g v (home g (node_of c)) c (choose g (site_at v (home g (node_of c))) c) (keeps_choice g (site_at v (home g (node_of c))) c)
step_keeps g v (Delivers k) = delivery_keeps g v k (slice_get v.messages k)
