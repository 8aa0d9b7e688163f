-- A workspace that was made again from the events of a journal.
use Rattle.std.specs.Prelude.{◌≡◌, ℕ, Bool, true, false, List, [], ◌∷◌, ◌++◌}
use Rattle.aw_cells.specs.contracts.cells.CellFactsFacts.TheImpl as cells
use Rattle.aw_grammar.specs.GrammarOf.{grammar_of}
use Rattle.aw_journal.specs.Events.{Event}
use Rattle.aw_kept_node.specs.KeptEvents.{is_kept, site_by, AreKept}
use Rattle.aw_law_sites.specs.Sites.{Site, empty_site}
use Rattle.aw_node.specs.TypedNodes.{Rules, rules_of}
use Rattle.aw_site.specs.Seen.{IsShown}
use Rattle.aw_typed.specs.Typing.{IsMadeFor}
use Rattle.aw_book_join.specs.declared.replica.Replica.{Replica}

-- what its node stands on
abbrev pub rules_in : Replica → Rules
rules_in x = rules_of x.accepted.now.grammar x.typed.now

-- the site that these events of a node of this role make
abbrev pub site_of : Rules → ℕ → List Event → Site
site_of r role events = site_by r (empty_site true role) events

-- it works by the grammar and the types that it was made for
pub record IsUsable (x : Replica) : Type 0 where
  pub grammar : x.site.space.accepted.now.grammar ≡ x.accepted.now.grammar
  pub types : IsMadeFor (grammar_of x.accepted.now.grammar) x.typed.now

-- it is the workspace that these events made at a node of this role, each of them one when it came
pub record IsReplica (x : Replica) (role : ℕ) (events : List Event) : Type 0 where
  pub kept : AreKept (rules_in x) (empty_site true role) events
  pub shown : IsShown cells.ghosts x.site (site_of (rules_in x) role events)

-- the event is one behind these and was done again; or it is none and nothing was done
abbrev pub Follows : Replica → ℕ → List Event → Event → Bool → Type 0
Follows x role events e true = IsReplica x role (events ++ e ∷ [])
Follows x role events e false = (is_kept (rules_in x) (site_of (rules_in x) role events) e ≡ false) × IsReplica x role events
