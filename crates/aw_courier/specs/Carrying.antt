-- What a courier does over a wire, and when it answers what.
use Rattle.std.specs.Prelude.{◌≡◌, ℕ, ◌<◌, ◌≤◌, nat_lt, List, ◌++◌, map, length, Bool, Option, option_to_list}
use Rattle.aw_out.specs.Wires as W
use Rattle.aw_out.specs.Wires.{Content, Both}
use Rattle.aw_term.specs.Rules.{Grammar, upto}
use Rattle.aw_term.specs.WellFormed.{Each}
use Rattle.aw_session.specs.Sessions.{Follow}
use Rattle.aw_session.specs.Talking.{Counts}
use Rattle.aw_law_nodes.specs.Couriers.{Session, Courier, new_courier, after_all, flat, AreTurns, round_moves, IsQuietCall, IsSpentCall}
use Rattle.aw_courier.specs.Asking.{is_net}
use Rattle.aw_courier.specs.Frames.{size}
use Rattle.aw_courier.specs.Mails.{Mailed, Shows}
use Rattle.aw_courier.specs.Turns.{Turn, session_of, IsHeard, told_as, CutFits}
use Rattle.aw_courier.specs.declared.broken.Broken.{Broken}
use Rattle.aw_courier.specs.declared.broken.Broken.TheVariants.{Net, Reply, NoMemory}
use Rattle.aw_courier.specs.declared.carrying.Carried.{Carried}
use Rattle.aw_courier.specs.declared.carrying.Carried.TheVariants.{Quiet, RoundsSpent}
use Rattle.aw_courier.specs.declared.carrying.CarryFault.{CarryFault}
use Rattle.aw_courier.specs.declared.carrying.CarryFault.TheVariants as fault

-- the sessions of some turns
abbrev pub sessions_of : List Turn → List Session
sessions_of ts = map session_of ts

-- These turns were made, one behind the other. Where the wire tells, they are the sessions that came to `passed`, and no call failed.
pub record AreMade {W' : Type 0} (g : Grammar) (content : W' → Option Content) (faults failed_openings : W' → ℕ) (c : Courier) (u v : W') (turns : List Turn) : Type 0 where
  pub ordered : AreTurns size g c (sessions_of turns)
  pub heard : Each (IsHeard g) turns
  pub told : Both (Follow (map told_as turns)) (content u) (content v)
  pub counts : faults v ≡ faults u
  pub openings : failed_openings v ≡ failed_openings u

-- turns at the first n roles were made from courier c on, and whether something moved
pub record IsRoundMade {W' : Type 0} (g : Grammar) (content : W' → Option Content) (faults failed_openings : W' → ℕ) (c : Courier) (n : ℕ) (u v : W') (m : Mailed) (moved : Bool) : Type 0 where
  pub turns : List Turn
  pub made : AreMade g content faults failed_openings c u v turns
  pub roles : map (λ (s : Session). s.role) (sessions_of turns) ≡ upto 0 n
  pub shows : Shows g m (after_all c (sessions_of turns))
  pub moved_is : moved ≡ nat_lt 0 (round_moves (sessions_of turns))

-- how a fault is told, where it came at this role
abbrev pub fault_at : ℕ → Broken → CarryFault
fault_at role Net = fault.NetFault role
fault_at role Reply = fault.BadReply role
fault_at role NoMemory = fault.NoMemory

-- Whole turns of a round, from courier c on, and then one that broke off, or that could not be dialed. The count of faults rose exactly where a call failed.
pub record IsRoundBroken {W' : Type 0} (g : Grammar) (content : W' → Option Content) (faults : W' → ℕ) (c : Courier) (u v : W') (told_fault : CarryFault) : Type 0 where
  pub turns : List Turn
  pub role : ℕ
  pub why : Broken
  pub cut : Option W.Session
  pub is : told_fault ≡ fault_at role why
  pub begun : map (λ (s : Session). s.role) (sessions_of turns) ≡ upto 0 role
  pub made : AreTurns size g c (sessions_of turns)
  pub heard : Each (IsHeard g) turns
  pub fits : CutFits g (after_all c (sessions_of turns)) role (content v) why cut
  pub told : Both (Follow (map told_as turns ++ option_to_list cut)) (content u) (content v)
  pub counts : Counts (is_net why) (faults u) (faults v)

-- ---- the answers

-- Rounds with a move, and a last one without.
pub record IsQuiet {W' : Type 0} (g : Grammar) (content : W' → Option Content) (faults failed_openings : W' → ℕ) (rounds : ℕ) (u v : W') : Type 0 where
  pub before : List (List Turn)
  pub last : List Turn
  pub call : IsQuietCall size g (map sessions_of before) (sessions_of last)
  pub made : AreMade g content faults failed_openings (new_courier g) u v (flat before ++ last)
  pub few : length before < rounds

-- So many rounds, each with a move.
pub record IsSpent {W' : Type 0} (g : Grammar) (content : W' → Option Content) (faults failed_openings : W' → ℕ) (rounds : ℕ) (u v : W') : Type 0 where
  pub before : List (List Turn)
  pub call : IsSpentCall size g (map sessions_of before)
  pub made : AreMade g content faults failed_openings (new_courier g) u v (flat before)
  pub all : length before ≡ rounds

-- what was carried
abbrev pub Carries : {W' : Type 0} → Grammar → (W' → Option Content) → (W' → ℕ) → (W' → ℕ) → ℕ → W' → W' → Carried → Type 0
Carries {W'} g content faults failed_openings rounds u v Quiet = IsQuiet g content faults failed_openings rounds u v
Carries {W'} g content faults failed_openings rounds u v RoundsSpent = IsSpent g content faults failed_openings rounds u v

-- the rounds before one that broke off are fewer than were given; memory may run out before the first
abbrev pub AreBefore : Broken → ℕ → ℕ → Type 0
AreBefore Net n rounds = n < rounds
AreBefore Reply n rounds = n < rounds
AreBefore NoMemory n rounds = n ≤ rounds

-- Rounds with a move, then whole turns of the next one, and then a turn that broke off, or that could not be dialed. The count of faults rose exactly where
-- a call failed.
pub record IsBrokenOff {W' : Type 0} (g : Grammar) (content : W' → Option Content) (faults : W' → ℕ) (rounds : ℕ) (u v : W') (told_fault : CarryFault) : Type 0 where
  pub before : List (List Turn)
  pub turns : List Turn
  pub role : ℕ
  pub why : Broken
  pub cut : Option W.Session
  pub is : told_fault ≡ fault_at role why
  pub few : AreBefore why (length before) rounds
  pub call : IsSpentCall size g (map sessions_of before)
  pub begun : map (λ (s : Session). s.role) (sessions_of turns) ≡ upto 0 role
  pub made : AreTurns size g (new_courier g) (sessions_of (flat before ++ turns))
  pub heard : Each (IsHeard g) (flat before ++ turns)
  pub fits : CutFits g (after_all (new_courier g) (sessions_of (flat before ++ turns))) role (content v) why cut
  pub told : Both (Follow (map told_as (flat before ++ turns) ++ option_to_list cut)) (content u) (content v)
  pub counts : Counts (is_net why) (faults u) (faults v)
