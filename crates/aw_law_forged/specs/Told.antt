-- What a site knows of others, and which messages it refuses, where anybody may have been told forged messages.
use Rattle.std.specs.Prelude.{◌≡◌, ◌⊎◌, ℕ, ◌<◌, Bool, true, List, ◌∷◌, ◌++◌, Some}
use Rattle.std.specs.Option.{unwrap_or}
use Rattle.aw_list.specs.Members.{Member}
use Rattle.aw_term.specs.Names.{Ref}
use Rattle.aw_term.specs.Rules.{Grammar, sort_of}
use Rattle.aw_term.specs.Trees.{Never}
use Rattle.aw_term.specs.WellFormed.{Each}
use Rattle.aw_term.specs.Held.{Held}
use Rattle.aw_base.specs.ChoiceFits.{choice_ok}
use Rattle.aw_store.specs.Equations.{Body, find}
use Rattle.aw_apply.specs.Made.{Making}
use Rattle.aw_apply.specs.Messages.{Kind, Calls, Asks, Tells, Message, Content, carried, Received, Conflict, Repeat, New}
use Rattle.aw_law_sites.specs.Homes.{has_steps, home, parent}
use Rattle.aw_law_sites.specs.Reacting.{receive}
use Rattle.aw_law_sites.specs.SiteEvents.{SiteEvent, Chose, Got, site_run}
use Rattle.aw_law_sites.specs.Sites.{Site, Reaction, empty_site}
use Rattle.aw_law_sites.specs.Worlds.{node_of}
use Rattle.aw_law_worlds.specs.Invariant.{as_call, equation}
use Rattle.aw_law_forged.specs.Forged.{IsAtHome, all_made, calls_in}

-- Each role has its events: choices that were made there, and messages that came, in any order and from anybody. No order between roles is given.

-- the site that the events of a role make
abbrev pub site_of : Grammar → Bool → (ℕ → List SiteEvent) → ℕ → Site
site_of g loads es role = site_run g (empty_site loads role) (es role)

-- what its choices made
abbrev pub made_at : Grammar → Bool → (ℕ → List SiteEvent) → ℕ → List Making
made_at g loads es role = all_made g (empty_site loads role) (es role)

-- the workspace of a declared role sent it, with just this load, sooner or later
abbrev pub IsSent : Grammar → Bool → (ℕ → List SiteEvent) → Message → Type 0
IsSent g loads es m = (a : ℕ) × (a < g.roles) × Member m (site_of g loads es a).outbox

-- it was new when it came
abbrev pub WasNew : Grammar → Bool → ℕ → List SiteEvent → Message → Type 0
WasNew g loads role es m =
    (before : List SiteEvent) × (later : List SiteEvent) × (y : Reaction) × (es ≡ before ++ Got m ∷ later)
    × (receive g (site_run g (empty_site loads role) before) m ≡ New y)

-- each message that was new to the role is one that a workspace sent
abbrev pub IsToldTruth : Grammar → Bool → (ℕ → List SiteEvent) → ℕ → Type 0
IsToldTruth g loads es role = (m : Message) → WasNew g loads role (es role) m → IsSent g loads es m

-- P holds whatever happened: choices at the home of their node, and any messages
abbrev pub WhateverComes : Grammar → (Bool → (ℕ → List SiteEvent) → Type 0) → Type 0
WhateverComes g P = (loads : Bool) (es : ℕ → List SiteEvent) → ((a : ℕ) → Each (IsAtHome g a) (es a)) → P loads es

-- What a site knows of a reference of another role came with a message that was new; and where a workspace sent that, it is so at the reference's home.
abbrev pub EquationsAreBrought : Grammar → Type 0
EquationsAreBrought g = WhateverComes g (λ loads es.
    (b : ℕ) (r : Ref) (x : Body) → (home g r.node ≡ b → Never) → find (site_of g loads es b).equations r ≡ Some x →
    (m : Message) × WasNew g loads b (es b) m × Member (equation r x) (carried m.kind)
    × (IsSent g loads es m → find (site_of g loads es (home g r.node)).equations r ≡ Some x))

-- Each child that a site works on was made by its own choice, or a message that was new called it; and where a workspace sent that, a choice at the home
-- of its parent made it, with these references.
abbrev pub ChildrenAreCalled : Grammar → Type 0
ChildrenAreCalled g = WhateverComes g (λ loads es.
    (b : ℕ) (h : Held) → Member h (site_of g loads es b).held → has_steps h.node.steps ≡ true →
    ((home g (parent h.node) ≡ b) × Member (as_call h) (calls_in (made_at g loads es b)))
    ⊎ ((m : Message) × WasNew g loads b (es b) m
    × (IsSent g loads es m → Member (as_call h) (calls_in (made_at g loads es (home g (parent h.node)))))))

-- A site to which nothing forged was new agrees with all homes, whatever these were told: what it knows of any reference is so at its home, and each child that
-- it works on was made by a choice at the home of its parent, with these references.
abbrev pub TruthAgrees : Grammar → Type 0
TruthAgrees g = WhateverComes g (λ loads es. (b : ℕ) → IsToldTruth g loads es b →
    ((r : Ref) (x : Body) → find (site_of g loads es b).equations r ≡ Some x → find (site_of g loads es (home g r.node)).equations r ≡ Some x)
    × ((h : Held) → Member h (site_of g loads es b).held → has_steps h.node.steps ≡ true →
    Member (as_call h) (calls_in (made_at g loads es (home g (parent h.node))))))

-- a message does not say the sort of a called node: its name does, and where that is not valid it is 0
abbrev pub HasItsSort : Grammar → Kind → Type 0
HasItsSort g (Calls c load) = c.sort ≡ unwrap_or (sort_of g c.node) 0
HasItsSort g (Asks r from) = Unit {0}
HasItsSort g (Tells e load) = Unit {0}

-- a choice that may be asked of the grammar, at the home of its node; or any message that can be read
abbrev pub MayHappen : Grammar → ℕ → SiteEvent → Type 0
MayHappen g role (Chose c) = (home g (node_of c) ≡ role) × (choice_ok g c ≡ true)
MayHappen g role (Got m) = HasItsSort g m.kind

-- the same where choices are asked as nodes ask for them, and messages are read from bytes
abbrev pub WhateverIsRead : Grammar → (Bool → (ℕ → List SiteEvent) → Type 0) → Type 0
WhateverIsRead g P = (loads : Bool) (es : ℕ → List SiteEvent) → ((a : ℕ) → Each (MayHappen g a) (es a)) → P loads es

-- it contradicts what is held
abbrev pub IsConflict : Received Reaction → Type 0
IsConflict x = (kept : Content) × (came : Content) × (x ≡ Conflict kept came)

-- it is known, or taken in
abbrev pub IsTakenIn : Received Reaction → Type 0
IsTakenIn x = (x ≡ Repeat) ⊎ ((y : Reaction) × (x ≡ New y))

-- A message that a workspace sent is never refused for its names, or as not for this role: where it is not taken in, it contradicts what is held.
abbrev pub SentIsValid : Grammar → Type 0
SentIsValid g = WhateverIsRead g (λ loads es. (m : Message) → IsSent g loads es m →
    IsTakenIn (receive g (site_of g loads es m.to) m) ⊎ IsConflict (receive g (site_of g loads es m.to) m))

-- a site to which nothing forged was new takes in each message that a workspace sent it, whatever the others were told
abbrev pub TruthIsTakenIn : Grammar → Type 0
TruthIsTakenIn g = WhateverIsRead g (λ loads es. (m : Message) → IsSent g loads es m → IsToldTruth g loads es m.to →
    IsTakenIn (receive g (site_of g loads es m.to) m))
