-- What holds of journals of all roles, however they were picked up.
use Rattle.std.specs.Prelude.{◌≡◌, ℕ, ◌<◌, ◌≤◌, true, List, take, length, suc, Some, slice_get, ◌⊎◌}
use Rattle.aw_list.specs.Members.{Member}
use Rattle.aw_term.specs.Trees.{Never}
use Rattle.aw_term.specs.Rules.{Grammar, get}
use Rattle.aw_typed.specs.Types.{Types}
use Rattle.aw_apply.specs.Messages.{Message}
use Rattle.aw_law_sites.specs.Laws.{SameChoices}
use Rattle.aw_law_sites.specs.Sites.{empty_site}
use Rattle.aw_law_sites.specs.SiteEvents.{SiteEvent, Got, site_run}
use Rattle.aw_law_sites.specs.Worlds.{World, world_after, site_at, Move}
use Rattle.aw_law_worlds.specs.Invariant.{sender}
use Rattle.aw_law_journals.specs.Journals.{journal_at, IsJoint, firsts, IsReach, AreWhole, NobodySends}
use Rattle.aw_law_journals.specs.Driving.{joined}

-- in a world of all events each site is that of its journal
abbrev pub SitesAreJournals : Types → Grammar → Type 0
SitesAreJournals t g = (js : List (List SiteEvent)) (es : List Move) → IsJoint t g js es → (r : ℕ) → r < g.roles →
    site_at (world_after g true es) r ≡ site_run g (empty_site true r) (journal_at js r)

-- no order of first events goes further in any journal than where nothing more is allowed
abbrev pub ReachIsGreatest : Types → Grammar → Type 0
ReachIsGreatest t g = (js : List (List SiteEvent)) (ns ms : List ℕ) (es fs : List Move) → IsReach t g js ns es → IsJoint t g (firsts ms js) fs →
    (r : ℕ) → length (take (get 0 ms r) (journal_at js r)) ≤ get 0 ns r

-- so whichever events are picked, it ends at the same ones
abbrev pub ReachIsUnique : Types → Grammar → Type 0
ReachIsUnique t g = (js : List (List SiteEvent)) (ns ms : List ℕ) (es fs : List Move) → IsReach t g js ns es → IsReach t g js ms fs →
    (r : ℕ) → get 0 ns r ≡ get 0 ms r

-- the greedy join goes as far as the journals fit
abbrev pub JoinReaches : Types → Grammar → Type 0
JoinReaches t g = (js : List (List SiteEvent)) → IsReach t g js (joined t g js).counts (joined t g js).moves

-- where all events came they have this order, and where they have any order they all come
pub record JoinIsExact (t : Types) (g : Grammar) : Type 0 where
  pub found : (js : List (List SiteEvent)) (ns : List ℕ) (es : List Move) → IsReach t g js ns es → AreWhole ns js → IsJoint t g js es
  pub complete : (js : List (List SiteEvent)) (ns : List ℕ) (es fs : List Move) → IsReach t g js ns es → IsJoint t g js fs → AreWhole ns js

-- no order reaches a message that its sender's whole journal does not send
abbrev pub ForgedIsNotReached : Types → Grammar → Type 0
ForgedIsNotReached t g = (js : List (List SiteEvent)) (ms : List ℕ) (fs : List Move) → IsJoint t g (firsts ms js) fs →
    (r n : ℕ) (m : Message) → slice_get (journal_at js r) n ≡ Some (Got m) → NobodySends g js m → get 0 ms r ≤ n

-- two worlds with the same sites, choices and messages
pub record SameButForOrder (w v : World) : Type 0 where
  pub sites : w.sites ≡ v.sites
  pub taken : SameChoices w.taken v.taken
  pub messages : (m : Message) → (Member m w.messages → Member m v.messages) × (Member m v.messages → Member m w.messages)

-- whichever order is taken, the world is the same but for the order
abbrev pub OrderLeavesNoTrace : Types → Grammar → Type 0
OrderLeavesNoTrace t g = (js : List (List SiteEvent)) (es fs : List Move) → IsJoint t g js es → IsJoint t g js fs →
    SameButForOrder (world_after g true es) (world_after g true fs)

-- the sender's workspace sends the message with its event of this number, counted from 0
abbrev pub SendsAt : Grammar → List (List SiteEvent) → ℕ → ℕ → Message → Type 0
SendsAt g js b n m =
    (Member m (site_run g (empty_site true b) (take n (journal_at js b))).outbox → Never)
    × Member m (site_run g (empty_site true b) (take (suc n) (journal_at js b))).outbox

-- Why a message is not allowed next, where so many first events of each journal came: it was sent and is for another role or nothing new there, nobody
-- sends it, or its sender sends it with an event that did not come either.
abbrev pub Cause : Grammar → List (List SiteEvent) → List ℕ → World → Message → Type 0
Cause g js ns w m =
    Member m w.messages
    ⊎ (NobodySends g js m
    ⊎ ((n : ℕ) × (get 0 ns (sender g m.kind) ≤ n) × (n < length (journal_at js (sender g m.kind))) × SendsAt g js (sender g m.kind) n m))

-- each journal that does not fit whole ends before a choice that is refused, or before a message of which a cause can be told
abbrev pub MessagesHaveCauses : Types → Grammar → Type 0
MessagesHaveCauses t g = (js : List (List SiteEvent)) (ns : List ℕ) (es : List Move) → IsReach t g js ns es →
    (r : ℕ) (m : Message) → slice_get (journal_at js r) (get 0 ns r) ≡ Some (Got m) → Cause g js ns (world_after g true es) m
