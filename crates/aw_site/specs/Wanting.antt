-- References that are put among those that a site is to ask for.
use Rattle.std.specs.Prelude.{◌≡◌, true, List, [], ◌∷◌, filter}
use Rattle.aw_term.specs.Names.{Ref}
use Rattle.aw_grammar.specs.GrammarOf.{grammar_of}
use Rattle.aw_store.specs.declared.facts.Facts.{Ghosts}
use Rattle.aw_law_sites.specs.Asking.{is_wanted}
use Rattle.aw_law_sites.specs.InOrder.{insert_ref}
use Rattle.aw_law_sites.specs.Sites.{Site}
use Rattle.aw_law_sites.specs.ValidNames.{refs_ok}
use Rattle.aw_subs.specs.declared.subs.Subs.{Subs}
use Rattle.aw_site_repeat.specs.Holders.{ShowsAsked}
use Rattle.aw_site.specs.Ordered.{AreInOrder}
use Rattle.aw_site.specs.Senders.{SendsAs}
use Rattle.aw_site.specs.declared.sender.Sender.{Sender}

-- each of some references, the last one first, put among others
abbrev pub insert_each : List Ref → List Ref → List Ref
insert_each [] out = out
insert_each (r ∷ rs) out = insert_ref r (insert_each rs out)

-- The references are in order, and are the older ones among which each of these was put that is wanted, at whatever plain site sends as this.
-- Where the older ones are valid, so are they.
pub record PutsWanted {F : Type 0} (f : Ghosts F) (sender : Sender F f) (subs : Subs) (rs old new : List Ref) : Type 0 where
  pub ordered : AreInOrder new
  pub put : (s : Site) → SendsAs f sender s → ShowsAsked subs s.asked → new ≡ insert_each (filter (is_wanted (grammar_of sender.grammar.now) s) rs) old
  pub names : refs_ok (grammar_of sender.grammar.now) old ≡ true → refs_ok (grammar_of sender.grammar.now) new ≡ true
