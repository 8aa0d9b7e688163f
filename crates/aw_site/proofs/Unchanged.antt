-- A site whose nodes, choices, equations and messages are as they were, and which still shows what was asked for and who watches, shows
-- what it showed.
use Rattle.std.proofs.Common.{◌≡◌, ℕ, Bool, List, Result, Ok, Err, OnErr, map, sym, refl, ◌∙◌}
use Rattle.aw_term.specs.Names.{Ref}
use Rattle.aw_grammar.specs.GrammarOf.{grammar_of}
use Rattle.aw_store.specs.declared.facts.Facts.{Ghosts}
use Rattle.aw_subs.specs.declared.subs.Subs.{Subs}
use Rattle.aw_subs.specs.Entries.{entry_of, watchers_in, has_bit}
use Rattle.aw_msg.specs.declared.message.Message.{Message}
use Rattle.aw_msg.specs.MessageView.{message_of}
use Rattle.aw_law_sites.specs.Sites.{Site}
use Rattle.aw_space.specs.declared.space.Space.{Space}
use Rattle.aw_space.specs.Seen.{IsUnchanged}
use Rattle.aw_space.specs.SpaceView.{space_of}
use Rattle.aw_site_repeat.specs.Holders.{ShowsAsked, ShowsWatchers}
use Rattle.aw_site.specs.Shown.{Shows}

-- what holds anyway holds where there is an error
pub if_err : {A E P : Type 0} (r : Result A E) → P → OnErr r P
if_err (Ok a) p = tt
if_err (Err e) p = p

-- who watches, where each entry is as it was
pub watched_same : (old new : Subs) (ws : Ref → ℕ → Bool) → ((x : Ref) → entry_of new.subs x ≡ entry_of old.subs x) → ShowsWatchers old ws → ShowsWatchers new ws
watched_same old new ws same shows x role = shows x role ∙ (λ i. has_bit (watchers_in (sym (same x) i)) role)

pub as_it_was : {F : Type 0} (f : Ghosts F) (space : Space F f) → IsUnchanged f space space
as_it_was f space = record { nodes = refl; choices = refl; equations = refl }

module _ {F : Type 0} (f : Ghosts F) (old new : Space F f) (before after : Subs) (boxed boxed' : List Message) (loads : Bool) where
  pub still_shown : new.accepted.now.grammar ≡ old.accepted.now.grammar → new.role ≡ old.role → IsUnchanged f old new
      → ((asked : Ref → Bool) → ShowsAsked before asked → ShowsAsked after asked)
      → ((ws : Ref → ℕ → Bool) → ShowsWatchers before ws → ShowsWatchers after ws)
      → boxed' ≡ boxed → (s : Site) → Shows f old before boxed loads s → Shows f new after boxed' loads s
  still_shown grammar role same asked watchers sent s shows = record {
    holds = record {
      role = shows.holds.role ∙ sym role;
      flag = shows.holds.flag;
      holds = shows.holds.holds ∙ (λ i. space_of (grammar_of (sym grammar i)) (sym same.nodes i) (sym same.choices i) (sym same.equations i));
      asked = asked s.asked shows.holds.asked;
      watchers = watchers s.watches shows.holds.watchers;
    };
    sent = shows.sent ∙ (λ i. map (message_of (grammar_of (sym grammar i))) (sym sent i));
  }
