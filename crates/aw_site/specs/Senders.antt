-- What counts of a site where it sends: its role, whether its messages carry loads, and what its equations say.
use Rattle.std.specs.Prelude.{◌≡◌, ◌++◌, map}
use Rattle.aw_term.specs.Names.{Ref}
use Rattle.aw_store.specs.Equations.{find}
use Rattle.aw_store.specs.EquationView.{equation_of}
use Rattle.aw_store.specs.declared.facts.Facts.{Ghosts}
use Rattle.aw_law_sites.specs.Sites.{Site}
use Rattle.aw_site.specs.declared.sender.Sender.{Sender}

-- The plain site sends as this: it has the role, and sends loads where this does; and its equations say of each reference what the store and the
-- equations behind it say.
pub record SendsAs {F : Type 0} (f : Ghosts F) (sender : Sender F f) (s : Site) : Type 0 where
  pub role : s.role ≡ sender.role
  pub loads : s.loads ≡ sender.loads
  pub equations : (r : Ref) → find s.equations r ≡ find (f.map sender.facts.now ++ map equation_of sender.more.now) r
