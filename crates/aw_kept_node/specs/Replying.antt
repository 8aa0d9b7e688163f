-- The moments of the disk on which replies rest.
use Rattle.std.specs.Prelude.{◌≡◌, ℕ, ◌≤◌, List, IsTrue, None}
use Rattle.aw_msg.specs.Frames.{Frame}
use Rattle.aw_disk.specs.declared.edge.Disk.{Ghosts}
use Rattle.aw_journal.specs.Events.{Event}
use Rattle.aw_node.specs.TypedNodes.{Rules}
use Rattle.aw_kept_node.specs.Exits.{Origin, IsBetween}
use Rattle.aw_kept_node.specs.KeptEvents.{kept_of}
use Rattle.aw_kept_node.specs.KeptSites.{Standing, keeps}

-- From this moment on, up to this disk of the end, no crash loses these events: whatever it leaves has them, behind the journal's own head, and no others
-- than the last ones.
pub record IsSafeSince {D : Type 0} (d : Ghosts D) (o : Origin D) (end : D) (last : List Event) (moment : ℕ) (events : List Event) : Type 0 where
  pub passed : moment ≤ d.moment end
  pub left : (c : List ℕ) → d.left_since end moment c → IsBetween o.role o.text events last c

-- What a node does for a frame that it answers: the bytes are those of the reply of its site, the site keeps what the frame was, and from this moment on no
-- crash loses the event of the frame, nor one from before it.
pub record RepliesSafely {D : Type 0} (d : Ghosts D) (o : Origin D) (end : D) (last : List Event) (s : Standing) (f : Frame) (x : List ℕ) (t : Standing) : Type 0 where
  pub replied : keeps o.rules s.kept f x t.kept
  pub none_in_hand : t.in_hand ≡ None
  pub later : IsTrue (d.tells o.disk) → s.moment ≤ t.moment
  pub safe : IsTrue (d.tells o.disk) → IsSafeSince d o end last t.moment t.kept.events

-- a frame that gets no reply leaves the site as it was, with what the frame is there in hand
abbrev pub LeavesInHand : {F : Type 0} → Rules → Standing → Frame → F → Standing → Type 0
LeavesInHand {F} r s f fault t = t ≡ record { kept = s.kept; in_hand = kept_of r s.kept.site f; moment = s.moment }
