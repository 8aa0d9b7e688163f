-- What a courier over the sites of a world leaves, where it answers that all is quiet, or that its rounds are spent.
use Rattle.std.specs.Prelude.{ℕ, ◌*◌, ◌≤◌, Bool, List, ◌++◌, map, Option}
use Rattle.aw_grammar.specs.GrammarOf.{grammar_of}
use Rattle.aw_grammar.specs.declared.grammar.Grammar as declared
use Rattle.aw_term.specs.WellFormed.{Each}
use Rattle.aw_typed.specs.declared.data.Typed.{Typed}
use Rattle.aw_law_sites.specs.Bounds.{bound_of}
use Rattle.aw_law_sites.specs.Worlds as world
use Rattle.aw_law_sites.specs.Worlds.{Move}
use Rattle.aw_law_worlds.specs.Laws.{MayCome, world_after}
use Rattle.aw_law_nodes.specs.Couriers.{flat, visit_frames}
use Rattle.aw_law_nodes.specs.Nodes.{happenings, ReadAs}
use Rattle.aw_law_nodes.specs.Sizes.{MoveSized}
use Rattle.aw_node.specs.TypedNodes.{Rules, rules_of}
use Rattle.aw_out.specs.Wires.{Content}
use Rattle.aw_courier.specs.Carrying.{IsQuiet, IsSpent}
use Rattle.aw_courier.specs.Honest.{IsHonest}
use Rattle.aw_courier.specs.Turns.{Turn, told_as}
use Rattle.aw_courier.specs.declared.carrying.Carried.{Carried}
use Rattle.aw_courier.specs.declared.carrying.Carried.TheVariants.{Quiet, RoundsSpent}
use Rattle.aw_desk_wire.specs.Alike.{AllAre}
use Rattle.aw_desk_wire.specs.Honest.{AreHonest}
use Rattle.aw_desk_wire.specs.Quiet.{alone, all_alone}
use Rattle.aw_desk_wire.specs.Shown.{ShowsBy, OfficeAnswers}
use Rattle.aw_desk_wire.specs.declared.office.Office.{Office}

-- The turns were honest for this world. What they pushed is some events of it, none of them a choice, behind which these offices show its sites, and it
-- is quiet.
pub record IsQuietThen (r : Rules) (loads : Bool) (es : List Move) (turns : List Turn) (us : List Office) : Type 0 where
  pub honest : IsHonest r.words r.grammar (world_after r.grammar loads es).sites (map alone turns)
  pub events : List Move
  pub pushed : ReadAs r.grammar (world_after r.grammar loads es) (happenings (visit_frames r.grammar (all_alone turns))) events
  pub may_come : Each (MayCome r.grammar) events
  pub shown : AllAre (ShowsBy r) us (world_after r.grammar loads (es ++ events)).sites
  pub quiet : world.IsQuiet (world_after r.grammar loads (es ++ events))

-- the turns were honest for this world, and so many rounds are at most twice as many as the bound on its messages
pub record IsSpentThen (r : Rules) (loads : Bool) (es : List Move) (turns : List Turn) (made : ℕ) : Type 0 where
  pub honest : IsHonest r.words r.grammar (world_after r.grammar loads es).sites (map alone turns)
  pub few : made ≤ 2 * bound_of r.grammar (world_after r.grammar loads es).taken

-- this holds of each world whose sites the offices show, and all of whose choices have their sizes
abbrev pub OfEachWorld : Rules → List Office → (Bool → List Move → Type 0) → Type 0
OfEachWorld r os P = (loads : Bool) (es : List Move) → Each (MayCome r.grammar) es → Each MoveSized es → AllAre (ShowsBy r) os (world_after r.grammar loads es).sites → P loads es

-- Rounds with a move, and a last one without. The offices answered all of it, whatever types they judge by.
pub record IsQuietAtSites {W' : Type 0} (g : declared.Grammar) (content : W' → Option Content) (faults failed_openings : W' → ℕ) (rounds : ℕ) (u v : W') (os us : List Office) : Type 0 where
  pub quiet : IsQuiet (grammar_of g) content faults failed_openings rounds u v
  pub answered : AreHonest OfficeAnswers os us (map told_as (flat quiet.before ++ quiet.last))
  pub world : (t : Typed) → OfEachWorld (rules_of g t) os (λ loads es. IsQuietThen (rules_of g t) loads es (flat quiet.before ++ quiet.last) us)

-- so many rounds, each with a move
pub record IsSpentAtSites {W' : Type 0} (g : declared.Grammar) (content : W' → Option Content) (faults failed_openings : W' → ℕ) (rounds : ℕ) (u v : W') (os us : List Office) : Type 0 where
  pub spent : IsSpent (grammar_of g) content faults failed_openings rounds u v
  pub answered : AreHonest OfficeAnswers os us (map told_as (flat spent.before))
  pub world : (t : Typed) → OfEachWorld (rules_of g t) os (λ loads es. IsSpentThen (rules_of g t) loads es (flat spent.before) rounds)

-- what was carried, and what that means for the sites
abbrev pub MeansAtSites : {W' : Type 0} → declared.Grammar → (W' → Option Content) → (W' → ℕ) → (W' → ℕ) → ℕ → W' → W' → List Office → List Office → Carried → Type 0
MeansAtSites {W'} g content faults failed_openings rounds u v os us Quiet = IsQuietAtSites g content faults failed_openings rounds u v os us
MeansAtSites {W'} g content faults failed_openings rounds u v os us RoundsSpent = IsSpentAtSites g content faults failed_openings rounds u v os us
