-- Typed nodes one beside the other, one for each role, asked by frames in any order.
use Rattle.std.specs.Prelude.{◌≡◌, ℕ, Bool, List, [], ◌∷◌, map, slice_set}
use Rattle.aw_list.specs.Members.{Member}
use Rattle.aw_term.specs.Choices.{Answer}
use Rattle.aw_term.specs.Names.{Ref}
use Rattle.aw_term.specs.Rules.{Grammar}
use Rattle.aw_term.specs.Trees.{Never}
use Rattle.aw_term.specs.WellFormed.{Each}
use Rattle.aw_law_sites.specs.Sites.{Site}
use Rattle.aw_law_sites.specs.Worlds.{empty_world, Move}
use Rattle.aw_law_worlds.specs.Laws.{MayCome, world_after}
use Rattle.aw_law_nodes.specs.Nodes as N
use Rattle.aw_law_nodes.specs.Nodes.{site_of}
use Rattle.aw_msg.specs.Frames as F
use Rattle.aw_msg.specs.MessageView.{message_of}
use Rattle.aw_session.specs.Frames.{AreAnswered}
use Rattle.aw_node.specs.TypedNodes.{Rules, handle, answers, replies, site_after}

-- ---- one node

-- Frames that are answered one by one get the replies to the list of them, and the node is then the one behind that list.
abbrev pub InTurn : Rules → Type 0
InTurn r = (s t : Site) (fs : List F.Frame) (xs : List (List ℕ)) → AreAnswered (answers r) s fs xs t → (xs ≡ replies r s fs) × (t ≡ site_after r s fs)

-- ---- all nodes

-- a frame that was asked of the node of a role
pub record Asked : Type 0 where
  pub role : ℕ
  pub frame : F.Frame

-- the frame, with the sorts of called nodes
abbrev pub plain_frame : Grammar → F.Frame → N.Frame
plain_frame g (F.Push m) = N.Push (message_of g m)
plain_frame g (F.Choose c) = N.Choose c
plain_frame g (F.Pull place) = N.Pull place
plain_frame g (F.Listed place) = N.Listed place

-- what was asked of a role, with the sorts of called nodes
abbrev pub plain_asked : Grammar → Asked → N.Asked
plain_asked g a = record { role = a.role; frame = plain_frame g a.frame }

-- a frame asked of the node of its role
abbrev pub handled : Rules → List Site → Asked → N.Handled
handled r ss a = handle r (site_of ss a.role) a.frame

-- the sites of all nodes after one frame, and after frames in the order in which they were answered
abbrev pub ask : Rules → List Site → Asked → List Site
ask r ss a = slice_set ss a.role (handled r ss a).site

-- the sites of all nodes after frames, in the order in which these were answered
abbrev pub sites_after : Rules → List Site → List Asked → List Site
sites_after r ss [] = ss
sites_after r ss (a ∷ as_) = sites_after r (ask r ss a) as_

-- a pushed message stands in the outbox of another role and is for this one; a choice gets an answer
abbrev pub IsHonestFrame : Rules → List Site → ℕ → F.Frame → Type 0
IsHonestFrame r ss role (F.Push m) = ((message_of r.grammar m).to ≡ role) × ((b : ℕ) × (b ≡ role → Never) × Member (message_of r.grammar m) (site_of ss b).outbox)
IsHonestFrame r ss role (F.Choose c) = (x : Answer Ref) × ((handle r (site_of ss role) (F.Choose c)).response ≡ N.Answers x)
IsHonestFrame r ss role (F.Pull k) = Unit {0}
IsHonestFrame r ss role (F.Listed k) = Unit {0}

-- each frame is honest when it is asked
abbrev pub AreHonest : Rules → List Site → List Asked → Type 0
AreHonest r ss [] = Unit {0}
AreHonest r ss (a ∷ as_) = IsHonestFrame r ss a.role a.frame × AreHonest r (ask r ss a) as_

-- Honest frames, in the order in which they were answered, are events of one world, whose sites the nodes then have.
abbrev pub AreOneWorld : Rules → Type 0
AreOneWorld r = (loads : Bool) (as_ : List Asked) → AreHonest r (empty_world r.grammar loads).sites as_ →
    (es : List Move) × N.ReadAs r.grammar (empty_world r.grammar loads) (N.happenings (map (plain_asked r.grammar) as_)) es × Each (MayCome r.grammar) es
    × ((world_after r.grammar loads es).sites ≡ sites_after r (empty_world r.grammar loads).sites as_)
