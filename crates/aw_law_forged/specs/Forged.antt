-- What a site answers for itself, whatever messages come to it, honest or forged.
use Rattle.std.specs.Prelude.{◌≡◌, ℕ, Bool, List, [], ◌∷◌, ◌++◌, Some, nat_eq, filter, slice_get}
use Rattle.aw_list.specs.Members.{Member}
use Rattle.aw_term.specs.Choices.{Choice, Start, Develop, Outcome, Refused, Starts, Takes}
use Rattle.aw_term.specs.Names.{Ref}
use Rattle.aw_term.specs.Rules.{Grammar}
use Rattle.aw_term.specs.Trees.{Never}
use Rattle.aw_term.specs.WellFormed.{Each}
use Rattle.aw_store.specs.Equations.{Equation}
use Rattle.aw_apply.specs.Made.{Call, Making, made}
use Rattle.aw_apply.specs.Messages.{Kind, Calls, Asks, Tells, Message}
use Rattle.aw_law_sites.specs.Choosing.{outcome}
use Rattle.aw_law_sites.specs.Homes.{home}
use Rattle.aw_law_sites.specs.SiteEvents.{SiteEvent, Chose, Got, site_step, site_run}
use Rattle.aw_law_sites.specs.Sites.{Site, empty_site}
use Rattle.aw_law_sites.specs.Worlds.{node_of}

-- a choice is made at the home of its node; a message may be any
abbrev pub IsAtHome : Grammar → ℕ → SiteEvent → Type 0
IsAtHome g role (Chose c) = home g (node_of c) ≡ role
IsAtHome g role (Got m) = Unit {0}

-- the equations of references of this role
abbrev pub own_equations : Grammar → ℕ → List Equation → List Equation
own_equations g role es = filter (λ (e : Equation). nat_eq (home g e.left.node) role) es

-- what a choice makes, where it takes a rule
abbrev pub making_of : Choice → Outcome Ref Ref → List Making
making_of (Start st k) o = []
making_of (Develop n r args) (Refused a) = []
making_of (Develop n r args) Starts = []
making_of (Develop n r args) (Takes rule bound) = made n r rule args bound ∷ []

-- a message makes nothing
abbrev pub makes : Grammar → Site → SiteEvent → List Making
makes g s (Chose c) = making_of c (outcome g s c)
makes g s (Got m) = []

-- what these events make at a site, one after the other
abbrev pub all_made : Grammar → Site → List SiteEvent → List Making
all_made g s [] = []
all_made g s (e ∷ es) = makes g s e ++ all_made g (site_step g s e) es

-- all equations of what was made
abbrev pub equations_in : List Making → List Equation
equations_in [] = []
equations_in (m ∷ ms) = m.equations ++ equations_in ms

-- and all children
abbrev pub calls_in : List Making → List Call
calls_in [] = []
calls_in (m ∷ ms) = m.calls ++ calls_in ms

-- Of its own references a site holds just the equations that its own taken choices made, in their order: no message brings one or takes one away.
abbrev pub OwnEquationsAreMade : Grammar → Type 0
OwnEquationsAreMade g = (loads : Bool) (role : ℕ) (es : List SiteEvent) → Each (IsAtHome g role) es →
    own_equations g role (site_run g (empty_site loads role) es).equations ≡ equations_in (all_made g (empty_site loads role) es)

-- each of these equations was made
abbrev pub AreMade : List Making → List Equation → Type 0
AreMade made es = Each (λ (e : Equation). Member e (equations_in made)) es

-- The word of a role whose choices made this: a child that they called, a question of the role, or an equation that they made; and so are the equations
-- of its load.
abbrev pub IsOwnWord : ℕ → List Making → Kind → Type 0
IsOwnWord role made (Calls c load) = Member c (calls_in made) × AreMade made load
IsOwnWord role made (Asks r from) = from ≡ role
IsOwnWord role made (Tells e load) = AreMade made (e ∷ load)

-- whatever a site sends is its own word
abbrev pub SentIsOwnWord : Grammar → Type 0
SentIsOwnWord g = (loads : Bool) (role : ℕ) (es : List SiteEvent) → Each (IsAtHome g role) es →
    (m : Message) → Member m (site_run g (empty_site loads role) es).outbox → IsOwnWord role (all_made g (empty_site loads role) es) m.kind

-- one child, one question of one role, or one reference
abbrev pub SameKind : Kind → Kind → Type 0
SameKind (Calls c load) (Calls d load') = c.node ≡ d.node
SameKind (Asks r from) (Asks s from') = (r ≡ s) × (from ≡ from')
SameKind (Tells e load) (Tells f load') = e.left ≡ f.left
SameKind k l = Never

-- they say the same to one role, whatever their loads are
abbrev pub SameWord : Message → Message → Type 0
SameWord m n = (m.to ≡ n.to) × SameKind m.kind n.kind

-- No site says the same twice: it calls each child once, asks for each reference once, and tells each reference to each role once.
abbrev pub SaysOnce : Grammar → Type 0
SaysOnce g = (loads : Bool) (role : ℕ) (es : List SiteEvent) → Each (IsAtHome g role) es → (j k : ℕ) (m n : Message) →
    slice_get (site_run g (empty_site loads role) es).outbox j ≡ Some m → slice_get (site_run g (empty_site loads role) es).outbox k ≡ Some n → SameWord m n → j ≡ k
