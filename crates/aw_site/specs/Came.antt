-- What a site does where a call, if there is one, and equations came, something of which is new, and where a role asks.
use Rattle.std.specs.Prelude.{ℕ, List, [], ◌++◌, Option, None, Some}
use Rattle.aw_term.specs.Names.{Ref}
use Rattle.aw_term.specs.Rules.{Grammar}
use Rattle.aw_store.specs.Equations.{Equation}
use Rattle.aw_apply.specs.Made.{Call}
use Rattle.aw_law_sites.specs.Asking.{all_mentions, asking}
use Rattle.aw_law_sites.specs.Receiving.{add_all}
use Rattle.aw_law_sites.specs.Sites.{Site, Reaction}
use Rattle.aw_law_sites.specs.Telling.{watches_too}
use Rattle.aw_space.specs.Spaces.{with_call}

-- the references of a call, if there is one
abbrev pub inherited_by : Option Call → List Ref
inherited_by None = []
inherited_by (Some c) = c.inherited

-- the site holds them too
abbrev pub holding : Site → Option Call → List Equation → Site
holding s c es = record s { held = with_call c s.held; equations = add_all s.equations es }

-- they are added, and then what is wanted is asked for
abbrev pub came : Grammar → Site → Option Call → List Equation → Reaction
came g s c es = asking g (holding s c es) [] (inherited_by c ++ all_mentions es)

-- the role watches the reference, too
abbrev pub watching : Site → Ref → ℕ → Site
watching s r from = record s { watches = watches_too s.watches r from }
