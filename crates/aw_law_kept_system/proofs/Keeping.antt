-- A frame of the program does in a system what it does at a kept node.
use Rattle.std.specs.Prelude.{not, nat_eq, ◌&&◌}
use Rattle.std.proofs.Common.{◌≡◌, Bool, true, false, cond, List, [], ◌∷◌, ◌++◌, map, Option, Some, None, refl, sym, ap, ◌∙◌}
use Rattle.std.proofs.lemmas.List.{append-nil, map-append}
use Rattle.aw_list.proofs.Members.{never}
use Rattle.aw_term.specs.Choices.{Choice, Answer, Known, NotHere, Developed, NotItsRule, Arguments, WaitsFor, Mismatch, CircleAt, TooDeep, Taken}
use Rattle.aw_term.specs.Names.{Ref}
use Rattle.aw_term.specs.Trees.{Never}
use Rattle.aw_base.specs.ChoiceFits.{choice_ok}
use Rattle.aw_typed.specs.TypeFaults.{arg_ok}
use Rattle.aw_apply.specs.Messages.{Received, New, Repeat, Conflict, NotMine, BadName}
use Rattle.aw_law_sites.specs.Choosing.{Chosen, No, Did, choose}
use Rattle.aw_law_sites.specs.Homes.{home}
use Rattle.aw_law_sites.specs.Reacting.{receive}
use Rattle.aw_law_sites.specs.Sites.{Site, Reaction}
use Rattle.aw_law_sites.specs.Worlds.{node_of}
use Rattle.aw_law_worlds.specs.Laws.{RefusalsAreNotTaken}
use Rattle.aw_law_nodes.specs.Crashes.{kept_choice, kept_message, kept_frame}
use Rattle.aw_law_nodes.specs.Nodes as nodes
use Rattle.aw_law_nodes.specs.Told.{told}
use Rattle.aw_law_system.specs.Systems.{after_frame}
use Rattle.aw_msg.specs.Frames.{Frame, Push, Choose, Pull, Listed}
use Rattle.aw_msg.specs.MessageView.{message_of}
use Rattle.aw_msg.specs.declared.message.Message.{Message as Sent}
use Rattle.aw_msg.specs.Responses as R
use Rattle.aw_journal.specs.Events.{Event}
use Rattle.aw_node.specs.TypedNodes.{Rules, handle}
use Rattle.aw_kept_append.specs.News.{is_news, asked, event_by}
use Rattle.aw_kept_node.specs.KeptEvents.{kept_of}
use Rattle.aw_kept_node.specs.KeptSites as kept
use Rattle.aw_kept_node.specs.KeptSites.{KeptSite, with_event}
use Rattle.aw_kept_node.specs.Laws.{site_event}
use Rattle.aw_law_kept_system.specs.KeptSystems.{frame_in, node_in}

module _ (r : Rules) (refusals : RefusalsAreNotTaken r.grammar) where
  -- the site and the event of a frame
  abbrev IsSame : Site → Frame → Type 0
  IsSame s f = ((nodes.handle r.grammar s (frame_in r f)).site ≡ (handle r s f).site) × (kept_frame r.grammar s (frame_in r f) ≡ map (site_event r) (with_event [] (kept_of r s f)))

  push-same : (m : Sent) (s : Site) (z : Received Reaction) → kept_message (message_of r.grammar m) z ≡ map (site_event r) (with_event [] (event_by (Push m) (told (nodes.received s z).response)))
  push-same m s (New x) = refl
  push-same m s Repeat = refl
  push-same m s (Conflict a b) = refl
  push-same m s NotMine = refl
  push-same m s BadName = refl

  -- a refusal is no news
  not-news : (a : Answer Ref) → (a ≡ Taken → Never) → is_news (R.Answers a) ≡ false
  not-news Known f = refl
  not-news NotHere f = refl
  not-news Developed f = refl
  not-news NotItsRule f = refl
  not-news Arguments f = refl
  not-news (WaitsFor x) f = refl
  not-news (Mismatch p) f = refl
  not-news (CircleAt x) f = refl
  not-news TooDeep f = refl
  not-news Taken f = never (f refl)

  chosen-same : (c : Choice) (s : Site) (ok here : Bool) (z : Chosen) → choose r.grammar s c ≡ z
      → cond (not ok) [] (cond (not here) [] (kept_choice c z))
      ≡ map (site_event r)
      (with_event [] (event_by (Choose c) (told (cond (not ok) (record { site = s; response = nodes.NotValid })
      (cond (not here) (record { site = s; response = nodes.NotForMe }) (nodes.chosen s z))).response)))
  chosen-same c s false here z e = refl
  chosen-same c s true false z e = refl
  chosen-same c s true true (Did x) e = refl
  chosen-same c s true true (No a) e = ap (λ b. map (site_event r) (with_event [] (cond b (asked (Choose c)) None))) (sym (not-news a (λ t. refusals s c a e t)))

  choice-same : (c : Choice) (s : Site) (b : Bool)
      → ((nodes.handle r.grammar s (cond b (nodes.Choose c) (nodes.Listed 0))).site ≡ (cond b (nodes.handle r.grammar s (nodes.Choose c)) (record { site = s; response = nodes.NotValid })).site)
      × (kept_frame r.grammar s (cond b (nodes.Choose c) (nodes.Listed 0))
      ≡ map (site_event r) (with_event [] (event_by (Choose c) (told (cond b (nodes.handle r.grammar s (nodes.Choose c)) (record { site = s; response = nodes.NotValid })).response))))
  choice-same c s false = (refl, refl)
  choice-same c s true = (refl, chosen-same c s (choice_ok r.grammar c) (nat_eq (home r.grammar (node_of c)) s.role) (choose r.grammar s c) refl)

  -- a question is no event, whatever its reply
  no-event : (b : Bool) → [] ≡ map (site_event r) (with_event [] (cond b None None))
  no-event true = refl
  no-event false = refl

  same-frame : (s : Site) (f : Frame) → IsSame s f
  same-frame s (Push m) = (refl, push-same m s (receive r.grammar s (message_of r.grammar m)))
  same-frame s (Choose c) = choice-same c s (choice_ok r.grammar c && arg_ok r.types r.grammar c)
  same-frame s (Pull k) = (refl, no-event (is_news (told (handle r s (Pull k)).response)))
  same-frame s (Listed k) = (refl, no-event (is_news (told (handle r s (Listed k)).response)))

  with-append : (es : List Event) (x : Option Event) → map (site_event r) es ++ map (site_event r) (with_event [] x) ≡ map (site_event r) (with_event es x)
  with-append es None = append-nil (map (site_event r) es)
  with-append es (Some e) = sym (map-append (site_event r) es (e ∷ []))

  -- so it leads from a node to the same node
  pub node-after : (k : KeptSite) (f : Frame) → after_frame r.grammar (node_in r k) (frame_in r f) ≡ node_in r (kept.after_frame r k f)
  node-after k f =
      let z = same-frame k.site f in
      λ i. record { site = z.0 i; events = (ap (λ hs. map (site_event r) k.events ++ hs) z.1 ∙ with-append k.events (kept_of r k.site f)) i }
