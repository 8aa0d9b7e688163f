-- A worklist that is kept beside its site.
use Rattle.std.specs.Prelude.{◌≡◌, List, Option, None, Some, map, ⊤}
use Rattle.std.specs.Coded.{Coded, Coded-set, codes, Unit-prop}
use Rattle.aw_choice.specs.ChoiceView.{item_of}
use Rattle.aw_choice.specs.declared.choice.Item.{Item}
use Rattle.aw_site.specs.Seen.{worklist_at}
use Rattle.aw_site.specs.declared.site.Site.{Site}
use Rattle.aw_store.specs.declared.facts.Facts.{Ghosts}
use Rattle.aw_term.specs.Artifacts as A

-- these items, if any, are the worklist of the site
abbrev pub IsListed : {F : Type 0} (f : Ghosts F) → Site F f → Option (List Item) → Type 0
IsListed f site None = ⊤
IsListed f site (Some items) = map item_of items ≡ worklist_at f site.space.accepted.now.grammar site

-- an item has a code
coded_items : Coded (List A.Item)
coded_items = Prim.hlevel codes

-- there is at most one proof of that
pub IsListed-prop : {F : Type 0} (f : Ghosts F) (site : Site F f) (items : Option (List Item)) → IsProp (IsListed f site items)
IsListed-prop f site None = Unit-prop
IsListed-prop f site (Some items) = Coded-set coded_items _ _
