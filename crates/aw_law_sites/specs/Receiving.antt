-- Tests of a message at a site: what it is about, what contradicts, what is known already.
use Rattle.std.specs.Prelude.{ℕ, Bool, true, false, not, ◌&&◌, List, [], ◌∷◌, ◌++◌, Option, None, Some, nat_eq, is_some, if◌then◌else◌}
use Rattle.aw_term.specs.Trees.{head_eq}
use Rattle.aw_term.specs.Names.{Ref, ref_eq}
use Rattle.aw_term.specs.Rules.{Grammar}
use Rattle.aw_term.specs.Held.{Held, held_of}
use Rattle.aw_store.specs.Equations.{Body, Same, Is, Equation, Map, find}
use Rattle.aw_apply.specs.Made.{Call}
use Rattle.aw_apply.specs.Messages.{Kind, Calls, Asks, Tells, Message, OfNode, OfReference, Clash}
use Rattle.aw_law_sites.specs.Homes.{home}
use Rattle.aw_law_sites.specs.Sites.{Site}

-- no left side is of this role
abbrev pub none_mine : Grammar → ℕ → List Equation → Bool
none_mine g role [] = true
none_mine g role (e ∷ es) = not (nat_eq (home g e.left.node) role) && none_mine g role es

-- a call of a node of this role, a question for a reference of this role, and equations of other roles
abbrev pub about_ok : Grammar → ℕ → Kind → Bool
about_ok g role (Calls c load) = nat_eq (home g c.node) role && none_mine g role load
about_ok g role (Asks r from) = nat_eq (home g r.node) role
about_ok g role (Tells e load) = none_mine g role (e ∷ load)

-- it is for this role
abbrev pub is_mine : Grammar → ℕ → Message → Bool
is_mine g role m = nat_eq m.to role && about_ok g role m.kind

-- the same references in the same order
abbrev pub refs_eq : List Ref → List Ref → Bool
refs_eq [] [] = true
refs_eq (r ∷ rs) (s ∷ ss) = ref_eq r s && refs_eq rs ss
refs_eq _ _ = false

-- one body
abbrev pub body_eq : Body → Body → Bool
body_eq (Same r) (Same s) = ref_eq r s
body_eq (Is h rs) (Is k ss) = head_eq h k && refs_eq rs ss
body_eq _ _ = false

-- an equation is added where its left side has none
abbrev pub add_on : Option Body → Map → Equation → Map
add_on None k e = k ++ e ∷ []
add_on (Some b) k e = k

-- each of these equations in turn
abbrev pub add_all : Map → List Equation → Map
add_all k [] = k
add_all k (e ∷ es) = add_all (add_on (find k e.left) k e) es

-- another body than the one that is held, or a clash that comes later
abbrev pub clash_on : Option Body → Body → Option Clash → Option Clash
clash_on None b later = later
clash_on (Some a) b later = if body_eq a b then later else Some (record { kept = OfReference a; came = OfReference b })

-- the first of these equations whose left side has another body, here or in an equation before it
abbrev pub first_clash : Map → List Equation → Option Clash
first_clash k [] = None
first_clash k (e ∷ es) = clash_on (find k e.left) e.body (first_clash (add_on (find k e.left) k e) es)

-- the node is held with other references, or a clash that comes later
abbrev pub call_clash : Option Held → Call → Option Clash → Option Clash
call_clash None c later = later
call_clash (Some h) c later = if refs_eq h.inherited c.inherited then later else Some (record { kept = OfNode h.inherited; came = OfNode c.inherited })

-- the first contradiction between a message and what the site holds
abbrev pub clash : Site → Kind → Option Clash
clash s (Calls c load) = call_clash (held_of c.node s.held) c (first_clash s.equations load)
clash s (Asks r from) = None
clash s (Tells e load) = first_clash s.equations (e ∷ load)

-- each left side has an equation here
abbrev pub all_held : Map → List Equation → Bool
all_held k [] = true
all_held k (e ∷ es) = is_some (find k e.left) && all_held k es

-- nothing of it is new
abbrev pub is_repeat : Site → Kind → Bool
is_repeat s (Calls c load) = is_some (held_of c.node s.held) && all_held s.equations load
is_repeat s (Asks r from) = s.watches r from
is_repeat s (Tells e load) = all_held s.equations (e ∷ load)
