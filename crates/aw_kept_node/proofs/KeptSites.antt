-- A site is what its events make of the first one.
use Rattle.std.specs.Prelude.{not, nat_eq, ◌&&◌}
use Rattle.std.proofs.Common.{◌≡◌, Bool, true, false, cond, List, [], ◌∷◌, ◌++◌, Option, None, Some, refl, sym, ap, ◌∙◌, subst}
use Rattle.aw_base.specs.ChoiceFits.{choice_ok}
use Rattle.aw_typed.specs.TypeFaults.{arg_ok}
use Rattle.aw_apply.specs.Messages.{Received, New, Repeat, Conflict, NotMine, BadName}
use Rattle.aw_law_sites.specs.Choosing.{Chosen, No, Did, choose}
use Rattle.aw_law_sites.specs.Homes.{home}
use Rattle.aw_law_sites.specs.Reacting.{receive}
use Rattle.aw_law_sites.specs.Sites.{Site, Reaction}
use Rattle.aw_law_sites.specs.Worlds.{node_of}
use Rattle.aw_law_nodes.specs.Nodes as N
use Rattle.aw_msg.specs.Frames as F
use Rattle.aw_msg.specs.MessageView.{message_of}
use Rattle.aw_journal.specs.Events.{Event, Took, Got}
use Rattle.aw_law_nodes.specs.Told.{told}
use Rattle.aw_node.specs.TypedNodes.{Rules, handle}
use Rattle.aw_kept_append.specs.News.{is_news, asked}
use Rattle.aw_kept_node.specs.KeptEvents.{kept_of, frame_for, is_kept, after_event, site_by, AreKept}
use Rattle.aw_kept_node.specs.KeptSites.{KeptSite, with_event, IsMadeOf}

-- ---- what is no news changes nothing

got-same : (s : Site) (x : Received Reaction) → is_news (told (N.received s x).response) ≡ false → (N.received s x).site ≡ s
got-same s (New x) h = absurd (cc h)
got-same s Repeat h = refl
got-same s (Conflict a b) h = refl
got-same s NotMine h = refl
got-same s BadName h = refl

took-same : (s : Site) (x : Chosen) → is_news (told (N.chosen s x).response) ≡ false → (N.chosen s x).site ≡ s
took-same s (No a) h = refl
took-same s (Did x) h = absurd (cc h)

-- a choice that may not fit, or not belong here
abbrev pub chosen-by : Site → Chosen → Bool → Bool → Bool → N.Handled
chosen-by s x fits ok here =
    cond fits (cond (not ok) (record { site = s; response = N.NotValid }) (cond (not here) (record { site = s; response = N.NotForMe }) (N.chosen s x))) (record { site = s; response = N.NotValid })

choice-same : (s : Site) (x : Chosen) (fits ok here : Bool) → is_news (told (chosen-by s x fits ok here).response) ≡ false → (chosen-by s x fits ok here).site ≡ s
choice-same s x false ok here h = refl
choice-same s x true false here h = refl
choice-same s x true true false h = refl
choice-same s x true true true h = took-same s x h

pub no-news : (r : Rules) (s : Site) (f : F.Frame) → is_news (told (handle r s f).response) ≡ false → (handle r s f).site ≡ s
no-news r s (F.Push m) h = got-same s (receive r.grammar s (message_of r.grammar m)) h
no-news r s (F.Choose c) h = choice-same s (choose r.grammar s c) (choice_ok r.grammar c && arg_ok r.types r.grammar c) (choice_ok r.grammar c) (nat_eq (home r.grammar (node_of c)) s.role) h
no-news r s (F.Pull place) h = refl
no-news r s (F.Listed place) h = refl

-- ---- what a frame was

-- a frame that is no event changes nothing
unasked : (r : Rules) (s : Site) (f : F.Frame) → asked f ≡ None → (handle r s f).site ≡ s
unasked r s (F.Push m) h = absurd (cc h)
unasked r s (F.Choose c) h = absurd (cc h)
unasked r s (F.Pull place) h = refl
unasked r s (F.Listed place) h = refl

-- an event asks for itself
asked-by : (f : F.Frame) (e : Event) → asked f ≡ Some e → frame_for e ≡ f
asked-by (F.Push m) e h = let same : e ≡ Got m = cc h in ap frame_for same
asked-by (F.Choose c) e h = let same : e ≡ Took c = cc h in ap frame_for same
asked-by (F.Pull place) e h = absurd (cc h)
asked-by (F.Listed place) e h = absurd (cc h)

pub kept-none : (r : Rules) (s : Site) (f : F.Frame) → kept_of r s f ≡ None → (handle r s f).site ≡ s
kept-none r s f h = go (is_news (told (handle r s f).response)) refl
  where
    go : (b : Bool) → is_news (told (handle r s f).response) ≡ b → (handle r s f).site ≡ s
    go false e = no-news r s f e
    go true e = unasked r s f (sym (ap (λ (b : Bool). cond b (asked f) None) e) ∙ h)

pub kept-some : (r : Rules) (s : Site) (f : F.Frame) (e : Event) → kept_of r s f ≡ Some e → (frame_for e ≡ f) × (is_kept r s e ≡ true)
kept-some r s f e h = go (is_news (told (handle r s f).response)) refl
  where
    go : (b : Bool) → is_news (told (handle r s f).response) ≡ b → (frame_for e ≡ f) × (is_kept r s e ≡ true)
    go false news = absurd (cc (sym (ap (λ (b : Bool). cond b (asked f) None) news) ∙ h))
    go true news =
        let same = asked-by f e (sym (ap (λ (b : Bool). cond b (asked f) None) news) ∙ h) in
        (same, ap (λ (x : F.Frame). is_news (told (handle r s x).response)) same ∙ news)

-- ---- one event more

pub kept-push : (r : Rules) (s : Site) (es : List Event) (e : Event) → AreKept r s es → is_kept r (site_by r s es) e ≡ true → AreKept r s (es ++ e ∷ [])
kept-push r s [] e h k = (k, tt)
kept-push r s (x ∷ es) e h k = (h.0, kept-push r (after_event r s x) es e h.1 k)

pub by-push : (r : Rules) (s : Site) (es : List Event) (e : Event) → site_by r s (es ++ e ∷ []) ≡ after_event r (site_by r s es) e
by-push r s [] e = refl
by-push r s (x ∷ es) e = by-push r (after_event r s x) es e

-- the site behind a frame, with the event that the frame was
pub made-with : (r : Rules) (s : Site) (k : KeptSite) (f : F.Frame) (event : Option Event) → IsMadeOf r s k → kept_of r k.site f ≡ event →
    IsMadeOf r s (record { site = (handle r k.site f).site; events = with_event k.events event })
made-with r s k f None h is = record { kept = h.kept; made = kept-none r k.site f is ∙ h.made }
made-with r s k f (Some e) h is =
    let one = kept-some r k.site f e is in
    record {
      kept = kept-push r s k.events e h.kept (subst (λ (x : Site). is_kept r x e ≡ true) h.made one.1);
      made = ap (λ (x : F.Frame). (handle r k.site x).site) (sym one.0) ∙ (ap (λ (x : Site). after_event r x e) h.made ∙ sym (by-push r s k.events e));
    }
