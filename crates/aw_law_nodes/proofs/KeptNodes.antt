-- A node is what the events that it keeps make of it.
use Rattle.std.specs.Prelude.{not, nat_eq}
use Rattle.std.proofs.Common.{◌≡◌, Bool, true, false, cond, List, [], ◌∷◌, ◌++◌, refl, sym, ap, ◌∙◌}
use Rattle.aw_term.specs.Choices.{Choice}
use Rattle.aw_term.specs.Rules.{Grammar}
use Rattle.aw_base.specs.ChoiceFits.{choice_ok}
use Rattle.aw_apply.specs.Messages.{Message, Received, New, Repeat, Conflict, NotMine, BadName}
use Rattle.aw_law_sites.specs.Choosing.{Chosen, No, Did, choose}
use Rattle.aw_law_sites.specs.Homes.{home}
use Rattle.aw_law_sites.specs.Reacting.{receive}
use Rattle.aw_law_sites.specs.SiteEvents.{SiteEvent, after_choice, after_message, site_step, site_run}
use Rattle.aw_law_sites.specs.Sites.{Site, Reaction}
use Rattle.aw_law_sites.specs.Worlds.{node_of}
use Rattle.aw_law_nodes.specs.Crashes.{kept_choice, kept_message, kept_frame, kept_frames}
use Rattle.aw_law_nodes.specs.Nodes.{Frame, Push, Choose, Pull, Listed, NotValid, NotForMe, received, chosen, handle, site_after}

-- a kept node
pub events-append : (g : Grammar) (s : Site) (hs is : List SiteEvent) → site_run g s (hs ++ is) ≡ site_run g (site_run g s hs) is
events-append g s [] is = refl
events-append g s (h ∷ hs) is = events-append g (site_step g s h) hs is

pub kept-chosen : (g : Grammar) (s : Site) (c : Choice) (z : Chosen) → choose g s c ≡ z → (chosen s z).site ≡ site_run g s (kept_choice c z)
kept-chosen g s c (No a) e = refl
kept-chosen g s c (Did x) e = sym (ap (after_choice s) e)

pub kept-got : (g : Grammar) (s : Site) (m : Message) (z : Received Reaction) → receive g s m ≡ z → (received s z).site ≡ site_run g s (kept_message m z)
kept-got g s m (New x) e = sym (ap (after_message s) e)
kept-got g s m Repeat e = refl
kept-got g s m (Conflict a b) e = refl
kept-got g s m NotMine e = refl
kept-got g s m BadName e = refl

pub kept-choose : (g : Grammar) (s : Site) (c : Choice) (a b : Bool)
    → (cond (not a) (record { site = s; response = NotValid }) (cond (not b) (record { site = s; response = NotForMe }) (chosen s (choose g s c)))).site
    ≡ site_run g s (cond (not a) [] (cond (not b) [] (kept_choice c (choose g s c))))
kept-choose g s c true true = kept-chosen g s c (choose g s c) refl
kept-choose g s c true false = refl
kept-choose g s c false b = refl

pub kept-frame : (g : Grammar) (s : Site) (f : Frame) → (handle g s f).site ≡ site_run g s (kept_frame g s f)
kept-frame g s (Push m) = kept-got g s m (receive g s m) refl
kept-frame g s (Choose c) = kept-choose g s c (choice_ok g c) (nat_eq (home g (node_of c)) s.role)
kept-frame g s (Pull k) = refl
kept-frame g s (Listed k) = refl

pub kept_events : (g : Grammar) (s : Site) (fs : List Frame) → site_after g s fs ≡ site_run g s (kept_frames g s fs)
kept_events g s [] = refl
kept_events g s (f ∷ fs) =
    kept_events g (handle g s f).site fs
    ∙ (ap (λ t. site_run g t (kept_frames g (handle g s f).site fs)) (kept-frame g s f) ∙ sym (events-append g s (kept_frame g s f) (kept_frames g (handle g s f).site fs)))
