-- A site by its events is a site of a world that may crash.
use Rattle.std.specs.Prelude.{nat_eq, ◌&&◌}
use Rattle.std.proofs.Common.{◌≡◌, zero, suc, Bool, true, false, [], ◌∷◌, map, refl, ap, ◌∙◌}
use Rattle.aw_base.specs.ChoiceFits.{choice_ok}
use Rattle.aw_typed.specs.TypeFaults.{arg_ok}
use Rattle.aw_law_sites.specs.Choosing.{Chosen, choose}
use Rattle.aw_law_sites.specs.Homes.{home}
use Rattle.aw_law_sites.specs.Reacting.{receive}
use Rattle.aw_law_sites.specs.SiteEvents.{after_choice, site_step, site_run}
use Rattle.aw_law_sites.specs.Sites.{Site}
use Rattle.aw_law_sites.specs.Worlds.{node_of}
use Rattle.aw_msg.specs.MessageView.{message_of}
use Rattle.aw_journal.specs.Events.{Event, Took, Got}
use Rattle.aw_law_nodes.specs.Told.{told}
use Rattle.aw_node.specs.TypedNodes.{Rules}
use Rattle.aw_node.proofs.Lasting.{push-site as got-run, chosen-site as took-run}
use Rattle.aw_kept_append.specs.News.{is_news}
use Rattle.aw_kept_node.specs.KeptEvents.{is_kept, after_event}
use Rattle.aw_kept_node.specs.Laws.{site_event, SitesAreRuns, FirstAreKept}
use Rattle.aw_kept_node.proofs.KeptSites.{chosen-by}

choice-run : (s : Site) (x : Chosen) (fits ok here : Bool) → is_news (told (chosen-by s x fits ok here).response) ≡ true → (chosen-by s x fits ok here).site ≡ after_choice s x
choice-run s x false ok here h = absurd (cc h)
choice-run s x true false here h = absurd (cc h)
choice-run s x true true false h = absurd (cc h)
choice-run s x true true true h = took-run s x

event-run : (r : Rules) (s : Site) (e : Event) → is_kept r s e ≡ true → after_event r s e ≡ site_step r.grammar s (site_event r e)
event-run r s (Took c) h = choice-run s (choose r.grammar s c) (choice_ok r.grammar c && arg_ok r.types r.grammar c) (choice_ok r.grammar c) (nat_eq (home r.grammar (node_of c)) s.role) h
event-run r s (Got m) h = got-run s (receive r.grammar s (message_of r.grammar m))

pub sites-are-runs : (r : Rules) → SitesAreRuns r
sites-are-runs r s [] h = refl
sites-are-runs r s (e ∷ es) h =
    sites-are-runs r (after_event r s e) es h.1 ∙ ap (λ (x : Site). site_run r.grammar x (map (site_event r) es)) (event-run r s e h.0)

pub first-are-kept : (r : Rules) → FirstAreKept r
first-are-kept r s [] zero h = tt
first-are-kept r s [] (suc n) h = tt
first-are-kept r s (e ∷ es) zero h = tt
first-are-kept r s (e ∷ es) (suc n) h = (h.0, first-are-kept r (after_event r s e) es n h.1)
