-- The parts of a site of the program show the plain site that they are, and no other.
use Rattle.std.proofs.Common.{◌≡◌, Bool, List, [], Result, Ok, Err, refl, ap, sym}
use Rattle.std.specs.Prelude.{IfOk, OnOk, OnErr}
use Rattle.std.proofs.Math.Path.{fun_ext}
use Rattle.aw_store.specs.declared.facts.Facts.{Ghosts}
use Rattle.aw_subs.specs.declared.subs.Subs.{Subs}
use Rattle.aw_msg.specs.declared.message.Message.{Message}
use Rattle.aw_law_sites.specs.Sites.{Site}
use Rattle.aw_space.specs.declared.space.Space.{Space}
use Rattle.aw_space.specs.Spaces as S
use Rattle.aw_site.specs.PartsSeen.{parts_seen}
use Rattle.aw_site.specs.Shown.{HoldsAs, Shows}

pub shows_seen : {F : Type 0} (f : Ghosts F) (space : Space F f) (subs : Subs) (outbox : List Message) (loads : Bool) → Shows f space subs outbox loads (parts_seen f space subs outbox loads)
shows_seen f space subs outbox loads = record {
  holds = record { role = refl; flag = refl; holds = refl; asked = λ r. refl; watchers = λ r role. refl };
  sent = refl;
}

-- some plain site holds what they hold
pub held_seen : {F : Type 0} (f : Ghosts F) (space : Space F f) (subs : Subs) (loads : Bool) → (s : Site) × HoldsAs f space subs loads s
held_seen f space subs loads = (parts_seen f space subs [] loads, (shows_seen f space subs [] loads).holds)

pub seen_shown : {F : Type 0} (f : Ghosts F) (space : Space F f) (subs : Subs) (outbox : List Message) (loads : Bool) (s : Site) →
    Shows f space subs outbox loads s → parts_seen f space subs outbox loads ≡ s
seen_shown f space subs outbox loads s h =
    let asked = fun_ext (λ r. sym (h.holds.asked r)) in
    let watches = fun_ext (λ r. fun_ext (λ role. sym (h.holds.watchers r role))) in
    λ i. record {
      role = sym h.holds.role i;
      loads = sym h.holds.flag i;
      held = ap (λ (x : S.Space). x.held) (sym h.holds.holds) i;
      choices = ap (λ (x : S.Space). x.choices) (sym h.holds.holds) i;
      equations = ap (λ (x : S.Space). x.equations) (sym h.holds.holds) i;
      asked = asked i;
      watches = watches i;
      outbox = sym h.sent i;
    }

-- what holds for each plain site that the parts show holds for the one that they are
module _ {F : Type 0} (f : Ghosts F) (old new : Space F f) (subs subs' : Subs) (outbox outbox' : List Message) (loads : Bool) where
  abbrev before : Site
  before = parts_seen f old subs outbox loads

  abbrev after : Site
  after = parts_seen f new subs' outbox' loads

  pub if_seen : {A E : Type 0} (r : Result A E) (P : Site → A → Type 0) → IfOk r (λ x. (s : Site) → Shows f old subs outbox loads s → P s x) → IfOk r (P before)
  if_seen (Ok x) P p = p before (shows_seen f old subs outbox loads)
  if_seen (Err e) P p = tt

  pub on_seen : {A E : Type 0} (r : Result A E) (P : Site → Type 0) → OnOk r ((s : Site) → Shows f old subs outbox loads s → P s) → OnOk r (P before)
  on_seen (Ok x) P p = p before (shows_seen f old subs outbox loads)
  on_seen (Err e) P p = tt

  -- the plain site that they are, behind an event and behind an error
  pub done_seen : {A E : Type 0} (r : Result A E) (t : Site → Site) → OnOk r ((s : Site) → Shows f old subs outbox loads s → Shows f new subs' outbox' loads (t s)) → OnOk r (after ≡ t before)
  done_seen (Ok x) t p = seen_shown f new subs' outbox' loads (t before) (p before (shows_seen f old subs outbox loads))
  done_seen (Err e) t p = tt

  pub kept_seen : {A E : Type 0} (r : Result A E) → OnErr r ((s : Site) → Shows f old subs outbox loads s → Shows f new subs' outbox' loads s) → OnErr r (after ≡ before)
  kept_seen (Ok x) p = tt
  kept_seen (Err e) p = seen_shown f new subs' outbox' loads before (p before (shows_seen f old subs outbox loads))
