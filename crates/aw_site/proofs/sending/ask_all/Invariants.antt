use Rattle.std.proofs.Common.{◌≡◌, ℕ, take, Bool, true}
use Rattle.aw_term.specs.Names.{Ref}
use Rattle.aw_law_sites.specs.Asking.{asked_too}
use Rattle.aw_subs.specs.Entries.{is_ready}
use Rattle.aw_site_repeat.specs.Holders.{ShowsAsked, ShowsWatchers}
use Rattle.aw_site.proofs.sending.ask_all.Given as goal

abbrev pub invariant-loop-r : goal.invariant-loop-r
invariant-loop-r l = record {
  asked : (asked : Ref → Bool) → ShowsAsked l.fn.subs asked → ShowsAsked l.subs (asked_too asked (take l.r-index l.wanted));
  watched : (ws : Ref → ℕ → Bool) → ShowsWatchers l.fn.subs ws → ShowsWatchers l.subs ws;
  ready : (x : Ref) → is_ready l.fn.subs.subs x ≡ true → is_ready l.subs.subs x ≡ true;
}
