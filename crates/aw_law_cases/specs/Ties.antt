-- What ties cases together where anything is forged: a forged message that names cases of both sides and was new, and nothing else.
use Rattle.std.specs.Prelude.{◌≡◌, ◌⊎◌, ℕ, Bool, true, false, List, [], ◌∷◌, filter, nat_eq, if◌then◌else◌}
use Rattle.aw_list.specs.Members.{Member}
use Rattle.aw_term.specs.Rules.{Grammar}
use Rattle.aw_term.specs.WellFormed.{Each}
use Rattle.aw_apply.specs.Messages.{Message, Received, BadName, NotMine, Conflict, Repeat, New}
use Rattle.aw_law_sites.specs.Reacting.{receive}
use Rattle.aw_law_sites.specs.SiteEvents.{SiteEvent, Chose, Got, site_run, site_step}
use Rattle.aw_law_sites.specs.Sites.{Site, Reaction, empty_site}
use Rattle.aw_law_cases.specs.Cases.{Cases, of_event, keep_site, IsParted, IsOneSided, IsOneSidedEvent}

-- whether a message was new
abbrev pub is_new : Received Reaction → Bool
is_new (New x) = true
is_new BadName = false
is_new NotMine = false
is_new (Conflict kept came) = false
is_new Repeat = false

-- an event counts where it is a choice, or a message that is new when it comes
abbrev pub counts : Grammar → Site → SiteEvent → Bool
counts g s (Chose c) = true
counts g s (Got m) = is_new (receive g s m)

-- these events without the messages that were refused or known when they came
abbrev pub counted : Grammar → Site → List SiteEvent → List SiteEvent
counted g s [] = []
counted g s (e ∷ es) = if counts g s e then e ∷ counted g (site_step g s e) es else counted g (site_step g s e) es

-- whatever a site sent names cases of one side
abbrev pub SendsOneSided : Cases → Site → Type 0
SendsOneSided C s = (m : Message) → Member m s.outbox → IsOneSided C m.kind

-- A message that was refused or known does nothing, whatever it names: where none that was new names cases of both sides, what a site holds of some cases
-- is what the events of these cases make of it that count. And what it sends names no cases of both sides either.
abbrev pub OnlyNewOnesTie : Grammar → Type 0
OnlyNewOnesTie g = (C : Cases) (s : Site) (es : List SiteEvent) → IsParted C s → Each (IsOneSidedEvent C) (counted g s es) →
    (keep_site C (site_run g s es) ≡ site_run g (keep_site C s) (filter (of_event C) (counted g s es)))
    × (SendsOneSided C s → SendsOneSided C (site_run g s es))

-- ---- sites of all roles

-- an event, and the role at whose site it came
pub record RoleEvent : Type 0 where
  pub role : ℕ
  pub event : SiteEvent

-- those of one role, in their order
abbrev pub events_at : ℕ → List RoleEvent → List SiteEvent
events_at r [] = []
events_at r (x ∷ xs) = if nat_eq x.role r then x.event ∷ events_at r xs else events_at r xs

-- the sites of all roles after one event
abbrev pub sites_after : Grammar → (ℕ → Site) → RoleEvent → ℕ → Site
sites_after g sites x r = if nat_eq x.role r then site_step g (sites r) x.event else sites r

-- some site sent it
abbrev pub WasSent : (ℕ → Site) → Message → Type 0
WasSent sites m = (a : ℕ) × Member m (sites a).outbox

-- a message that is new was sent by some site, or names cases of one side
abbrev pub TiesNone : Cases → Grammar → (ℕ → Site) → ℕ → SiteEvent → Type 0
TiesNone C g sites r (Chose c) = Unit {0}
TiesNone C g sites r (Got m) = is_new (receive g (sites r) m) ≡ true → WasSent sites m ⊎ IsOneSided C m.kind

-- and so does each when it comes
abbrev pub NoneTies : Cases → Grammar → (ℕ → Site) → List RoleEvent → Type 0
NoneTies C g sites [] = Unit {0}
NoneTies C g sites (x ∷ xs) = TiesNone C g sites x.role x.event × NoneTies C g (sites_after g sites x) xs

-- Messages that workspaces sent tie no cases: whatever was forged at whichever roles, where none of it that was new names cases of both sides, each site
-- holds of some cases what the events of these cases make of it there.
abbrev pub OnlyForgedOnesTie : Grammar → Type 0
OnlyForgedOnesTie g = (C : Cases) (loads : Bool) (xs : List RoleEvent) → NoneTies C g (empty_site loads) xs → (r : ℕ) →
    keep_site C (site_run g (empty_site loads r) (events_at r xs))
    ≡ site_run g (empty_site loads r) (filter (of_event C) (counted g (empty_site loads r) (events_at r xs)))
