-- What counts of a site where a message is tested: its nodes, its equations, and who watches.
use Rattle.std.specs.Prelude.{◌≡◌, ℕ, ◌<◌, Bool, false, List}
use Rattle.aw_term.specs.Names.{Ref}
use Rattle.aw_term.specs.Held.{Held}
use Rattle.aw_term.specs.Limits.{most_roles}
use Rattle.aw_store.specs.Equations.{Map}
use Rattle.aw_apply.specs.Messages.{Kind, Calls, Asks, Tells}
use Rattle.aw_law_sites.specs.Sites.{Site, empty_site}
use Rattle.aw_subs.specs.declared.subs.Subs.{Subs}
use Rattle.aw_subs.specs.Entries.{is_asked, watches}

-- a site of which nothing else counts
abbrev pub holder : List Held → Map → (Ref → ℕ → Bool) → Site
holder hs k watches = record (empty_site false 0) { held = hs; equations = k; watches = watches }

-- no role watches
abbrev pub nobody : Ref → ℕ → Bool
nobody r role = false

-- what was asked for
abbrev pub ShowsAsked : Subs → (Ref → Bool) → Type 0
ShowsAsked subs asked = (r : Ref) → asked r ≡ is_asked subs.subs r

-- who watches
abbrev pub ShowsWatchers : Subs → (Ref → ℕ → Bool) → Type 0
ShowsWatchers subs watching = (r : Ref) (role : ℕ) → watching r role ≡ watches subs.subs r role

-- a question is of a role
abbrev pub IsOfRole : Kind → Type 0
IsOfRole (Calls c load) = Unit {0}
IsOfRole (Asks r from) = from < most_roles
IsOfRole (Tells e load) = Unit {0}
