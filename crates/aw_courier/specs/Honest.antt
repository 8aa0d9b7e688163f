-- An honest wire, and what the answers of a courier mean over it.
use Rattle.std.specs.Prelude.{◌≡◌, ℕ, ◌*◌, ◌≤◌, Bool, List, [], ◌∷◌, ◌++◌, map, Option}
use Rattle.aw_term.specs.Artifacts.{Words}
use Rattle.aw_term.specs.Choices.{Choice}
use Rattle.aw_term.specs.Rules.{Grammar}
use Rattle.aw_term.specs.WellFormed.{Each}
use Rattle.aw_law_sites.specs.Bounds.{bound_of}
use Rattle.aw_law_sites.specs.Sites.{Site}
use Rattle.aw_law_sites.specs.Worlds as world
use Rattle.aw_law_sites.specs.Worlds.{Move}
use Rattle.aw_law_worlds.specs.Laws.{MayCome, world_after}
use Rattle.aw_msg.specs.Replies.{spelled_reply}
use Rattle.aw_session.specs.Frames.{joined}
use Rattle.aw_law_nodes.specs.Couriers as C
use Rattle.aw_law_nodes.specs.Couriers.{flat, IsPrefix, choice_frames, session_frames, visit_frames, NoChoice, NoneLater, ChoicesOk}
use Rattle.aw_law_nodes.specs.Sizes.{MoveSized, ChoicesSized}
use Rattle.aw_law_nodes.specs.Nodes.{Response, sites_after, all_replies, happenings, ReadAs}
use Rattle.aw_law_nodes.specs.Told.{told}
use Rattle.aw_out.specs.Wires.{Content}
use Rattle.aw_courier.specs.Carrying.{IsQuiet, IsSpent}
use Rattle.aw_courier.specs.Turns.{Turn}
use Rattle.aw_courier.specs.declared.carrying.Carried.{Carried}
use Rattle.aw_courier.specs.declared.carrying.Carried.TheVariants.{Quiet, RoundsSpent}

-- the bytes of a site's reply
abbrev pub reply_bytes : Words → Response → List ℕ
reply_bytes w x = spelled_reply w (told x)

-- a turn, and the choices that are made at the sites before it is dialed
pub record Visit : Type 0 where
  pub choices : List Choice
  pub turn : Turn

-- the turn alone
abbrev pub turn_of : Visit → Turn
turn_of v = v.turn

-- without the bytes
abbrev pub visit_of : Visit → C.Visit
visit_of v = record { choices = v.choices; session = v.turn.session }

-- The bytes that were read in each turn begin the bytes of the replies of these sites to what was written in it, with the choices between the turns.
abbrev pub IsHonest : Words → Grammar → List Site → List Visit → Type 0
IsHonest w g ss [] = Unit {0}
IsHonest w g ss (v ∷ vs) =
    IsPrefix (joined v.turn.replies) (joined (map (reply_bytes w) (all_replies g (sites_after g ss (choice_frames g (visit_of v))) (session_frames (visit_of v)))))
    × IsHonest w g (sites_after g (sites_after g ss (choice_frames g (visit_of v))) (session_frames (visit_of v))) vs

-- After these events of a world the turns were made at its sites, over a wire that was honest for it and these choices, none of which came after the
-- first turn of the last round was dialed; and each number in the choices has its size. Then what happened is events of that world, which is quiet after
-- them.
abbrev pub QuietOverHonest : Words → Grammar → List (List Turn) → List Turn → Type 0
QuietOverHonest w g before last = (loads : Bool) (es : List Move) → Each (MayCome g) es → Each MoveSized es → (rounds : List (List Visit)) (end : List Visit) →
    map (map turn_of) rounds ≡ before → map turn_of end ≡ last → Each (ChoicesOk g) (map visit_of (flat rounds ++ end)) → Each ChoicesSized (map visit_of (flat rounds ++ end)) →
    NoneLater (map visit_of end) →
    IsHonest w g (world_after g loads es).sites (flat rounds ++ end) →
    (fs : List Move) × ReadAs g (world_after g loads es) (happenings (visit_frames g (map visit_of (flat rounds ++ end)))) fs × Each (MayCome g) fs
    × ((world_after g loads (es ++ fs)).sites ≡ sites_after g (world_after g loads es).sites (visit_frames g (map visit_of (flat rounds ++ end))))
    × world.IsQuiet (world_after g loads (es ++ fs))

-- rounds with a move, a last one without, and what that means over an honest wire
pub record IsQuietWorld {W' : Type 0} (w : Words) (g : Grammar) (content : W' → Option Content) (faults failed_openings : W' → ℕ) (rounds : ℕ) (u v : W') : Type 0 where
  pub quiet : IsQuiet g content faults failed_openings rounds u v
  pub world : QuietOverHonest w g quiet.before quiet.last

-- After these events of a world the turns of these rounds were made at its sites, over a wire that was honest for it, and no choice came meanwhile; and
-- each number in the choices of that world has its size. Then so many rounds are at most twice as many as the bound on its messages.
abbrev pub BoundOverHonest : Words → Grammar → List (List Turn) → ℕ → Type 0
BoundOverHonest w g before made = (loads : Bool) (es : List Move) → Each (MayCome g) es → Each MoveSized es → (rounds : List (List Visit)) →
    map (map turn_of) rounds ≡ before → Each NoChoice (map visit_of (flat rounds)) → IsHonest w g (world_after g loads es).sites (flat rounds) →
    made ≤ 2 * bound_of g (world_after g loads es).taken

-- rounds that each had a move, and how many they can be over an honest wire
pub record IsSpentWorld {W' : Type 0} (w : Words) (g : Grammar) (content : W' → Option Content) (faults failed_openings : W' → ℕ) (rounds : ℕ) (u v : W') : Type 0 where
  pub spent : IsSpent g content faults failed_openings rounds u v
  pub world : BoundOverHonest w g spent.before rounds

-- Quiet means a quiet world; and so many rounds are never spent where they are more than twice as many as there may be messages
abbrev pub MeansOverHonest : {W' : Type 0} → Words → Grammar → (W' → Option Content) → (W' → ℕ) → (W' → ℕ) → ℕ → W' → W' → Carried → Type 0
MeansOverHonest {W'} w g content faults failed_openings rounds u v Quiet = IsQuietWorld w g content faults failed_openings rounds u v
MeansOverHonest {W'} w g content faults failed_openings rounds u v RoundsSpent = IsSpentWorld w g content faults failed_openings rounds u v
