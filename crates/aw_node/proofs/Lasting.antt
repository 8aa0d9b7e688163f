-- What happens at a typed node, and so what stays.
use Rattle.std.proofs.Common.{◌≡◌, Bool, true, false, cond, List, [], ◌∷◌, ◌++◌, refl, ap, sym, ◌∙◌, subst}
use Rattle.std.specs.Prelude.{◌&&◌, not, nat_eq}
use Rattle.aw_list.specs.Members.{Member}
use Rattle.aw_term.specs.Choices.{Choice}
use Rattle.aw_base.specs.ChoiceFits.{choice_ok}
use Rattle.aw_typed.specs.TypeFaults.{arg_ok}
use Rattle.aw_apply.specs.Messages.{Received, New, Repeat, Conflict, NotMine, BadName}
use Rattle.aw_law_sites.specs.Choosing.{Chosen, No, Did, choose}
use Rattle.aw_law_sites.specs.Homes.{home}
use Rattle.aw_law_sites.specs.Reacting.{receive}
use Rattle.aw_law_sites.specs.SiteEvents.{SiteEvent, Chose, Got, after_choice, after_message, site_run}
use Rattle.aw_law_sites.specs.Sites.{Site, Reaction}
use Rattle.aw_law_sites.specs.Worlds.{node_of}
use Rattle.aw_law_worlds.specs.Laws.{EquationsStay, SiteStays}
use Rattle.aw_law_nodes.proofs.KeptNodes.{events-append}
use Rattle.aw_law_nodes.specs.Nodes as N
use Rattle.aw_msg.specs.Frames as F
use Rattle.aw_msg.specs.MessageView.{message_of}
use Rattle.aw_node.specs.Staying.{IsStillHeld, NodeStays}
use Rattle.aw_node.specs.TypedNodes.{Rules, handle, site_after}

-- what holds of the site in either case
either : (P : Site → Type 0) (b : Bool) (x y : N.Handled) → P x.site → P y.site → P (cond b x y).site
either P true x y p q = p
either P false x y p q = q

-- a message changes the site as its event does
pub push-site : (s : Site) (o : Received Reaction) → (N.received s o).site ≡ after_message s o
push-site s (New x) = refl
push-site s Repeat = refl
push-site s (Conflict a b) = refl
push-site s NotMine = refl
push-site s BadName = refl

-- and so does a choice that is answered
pub chosen-site : (s : Site) (o : Chosen) → (N.chosen s o).site ≡ after_choice s o
chosen-site s (No a) = refl
chosen-site s (Did x) = refl

-- what holds of the site as it is, and of the one after a choice, holds after the frame
choice-or-none : (P : Site → Type 0) (r : Rules) (s : Site) (c : Choice) → P s → P (after_choice s (choose r.grammar s c)) → P (handle r s (F.Choose c)).site
choice-or-none P r s c same did =
    let after = N.chosen s (choose r.grammar s c) in
    let invalid : N.Handled = record { site = s; response = N.NotValid } in
    let foreign : N.Handled = record { site = s; response = N.NotForMe } in
    either P (choice_ok r.grammar c && arg_ok r.types r.grammar c) (N.handle r.grammar s (N.Choose c)) invalid
    (either P (not (choice_ok r.grammar c)) invalid (cond (not (nat_eq (home r.grammar (node_of c)) s.role)) foreign after) same
    (either P (not (nat_eq (home r.grammar (node_of c)) s.role)) foreign after same (subst P (sym (chosen-site s (choose r.grammar s c))) did)))
    same

-- the events that a frame is, of which there is one or none
frame-events : (r : Rules) (s : Site) (f : F.Frame) → (es : List SiteEvent) × ((handle r s f).site ≡ site_run r.grammar s es)
frame-events r s (F.Push m) = (Got (message_of r.grammar m) ∷ [], push-site s (receive r.grammar s (message_of r.grammar m)))
frame-events r s (F.Choose c) = choice-or-none (λ t. (es : List SiteEvent) × (t ≡ site_run r.grammar s es)) r s c ([], refl) (Chose c ∷ [], refl)
frame-events r s (F.Pull place) = ([], refl)
frame-events r s (F.Listed place) = ([], refl)

-- and those of a list of frames
all-events : (r : Rules) (s : Site) (fs : List F.Frame) → (es : List SiteEvent) × (site_after r s fs ≡ site_run r.grammar s es)
all-events r s [] = ([], refl)
all-events r s (f ∷ fs) =
    let (es, first) = frame-events r s f in
    let (ds, later) = all-events r (handle r s f).site fs in
    (es ++ ds, later ∙ ap (λ (t : Site). site_run r.grammar t ds) first ∙ sym (events-append r.grammar s es ds))

pub node-stays : (r : Rules) → SiteStays r.grammar → NodeStays r
node-stays r law = record {
  equations = λ s fs. let (es, e) = all-events r s fs in subst (λ (t : Site). EquationsStay s.equations t.equations) (sym e) (law.equations s es);
  nodes = λ s fs h i. let (es, e) = all-events r s fs in subst (λ (t : Site). IsStillHeld h t.held) (sym e) (law.nodes s es h i);
  message = λ s m h i. subst (λ (t : Site). Member h t.held) (sym (push-site s (receive r.grammar s (message_of r.grammar m)))) (law.message s (message_of r.grammar m) h i);
  choice = λ s c h i other. choice-or-none (λ t. Member h t.held) r s c i (law.choice s c h i other);
}
