-- What a courier did over a wire it did over each that tells the same.
use Rattle.std.proofs.Common.{◌≡◌, ℕ, List, ◌++◌, map, Option, Result, Ok, Err, sym, subst, ◌∙◌}
use Rattle.std.specs.Prelude.{option_to_list, IfOk, IfErr}
use Rattle.aw_term.specs.Artifacts.{Words}
use Rattle.aw_term.specs.Rules.{Grammar}
use Rattle.aw_out.specs.Wires.{Content, Both}
use Rattle.aw_session.specs.Sessions.{Follow}
use Rattle.aw_session.specs.Talking.{Counts}
use Rattle.aw_law_nodes.specs.Couriers.{Courier, new_courier, after_all, flat}
use Rattle.aw_courier.specs.Asking.{is_net}
use Rattle.aw_courier.specs.Carrying.{AreMade, IsQuiet, IsSpent, Carries, IsBrokenOff, sessions_of}
use Rattle.aw_courier.specs.Honest.{MeansOverHonest}
use Rattle.aw_courier.specs.Turns.{Turn, told_as, CutFits}
use Rattle.aw_courier.specs.declared.carrying.Carried.{Carried}
use Rattle.aw_courier.specs.declared.carrying.Carried.TheVariants.{Quiet, RoundsSpent}
use Rattle.aw_courier.specs.declared.carrying.CarryFault.{CarryFault}

module _
    {W X : Type 0}
    (content : W → Option Content)
    (faults : W → ℕ)
    (content' : X → Option Content)
    (faults' : X → ℕ)
    (u v : W)
    (x y : X)
    (told : content u ≡ content' x)
    (told_then : content v ≡ content' y)
    (counts : faults u ≡ faults' x)
    (counts_then : faults v ≡ faults' y)
    (g : Grammar)
  where
    abbrev both-as : (R : Content → Content → Type 0) → Both R (content u) (content v) → Both R (content' x) (content' y)
    both-as R h = subst (λ a. Both R a (content' y)) told (subst (λ b. Both R (content u) b) told_then h)

    broken-one : (rounds : ℕ) (fault : CarryFault) → IsBrokenOff g content faults rounds u v fault → IsBrokenOff g content' faults' rounds x y fault
    broken-one rounds fault h = record {
      before = h.before;
      turns = h.turns;
      role = h.role;
      why = h.why;
      cut = h.cut;
      is = h.is;
      few = h.few;
      call = h.call;
      begun = h.begun;
      made = h.made;
      heard = h.heard;
      fits = subst (λ a. CutFits g (after_all (new_courier g) (sessions_of (flat h.before ++ h.turns))) h.role a h.why h.cut) told_then h.fits;
      told = both-as (Follow (map told_as (flat h.before ++ h.turns) ++ option_to_list h.cut)) h.told;
      counts = subst (λ n. Counts (is_net h.why) n (faults' y)) counts (subst (λ n. Counts (is_net h.why) (faults u) n) counts_then h.counts);
    }

    pub broken-as : (rounds : ℕ) (r : Result Carried CarryFault) → IfErr r (IsBrokenOff g content faults rounds u v) → IfErr r (IsBrokenOff g content' faults' rounds x y)
    broken-as rounds (Ok c) h = tt
    broken-as rounds (Err e) h = broken-one rounds e h

    module _ (failed_openings : W → ℕ) (failed_openings' : X → ℕ) (openings : failed_openings u ≡ failed_openings' x) (openings_then : failed_openings v ≡ failed_openings' y) where
      abbrev made-as : (c : Courier) (ts : List Turn) → AreMade g content faults failed_openings c u v ts → AreMade g content' faults' failed_openings' c x y ts
      made-as c ts h = record {
        ordered = h.ordered;
        heard = h.heard;
        told = both-as (Follow (map told_as ts)) h.told;
        counts = sym counts_then ∙ h.counts ∙ counts;
        openings = sym openings_then ∙ h.openings ∙ openings;
      }

      abbrev quiet-as : (rounds : ℕ) → IsQuiet g content faults failed_openings rounds u v → IsQuiet g content' faults' failed_openings' rounds x y
      quiet-as rounds h = record { before = h.before; last = h.last; call = h.call; made = made-as (new_courier g) (flat h.before ++ h.last) h.made; few = h.few }

      abbrev spent-as : (rounds : ℕ) → IsSpent g content faults failed_openings rounds u v → IsSpent g content' faults' failed_openings' rounds x y
      spent-as rounds h = record { before = h.before; call = h.call; made = made-as (new_courier g) (flat h.before) h.made; all = h.all }

      pub carries-as : (rounds : ℕ) (r : Result Carried CarryFault) → IfOk r (Carries g content faults failed_openings rounds u v) → IfOk r (Carries g content' faults' failed_openings' rounds x y)
      carries-as rounds (Ok Quiet) h = quiet-as rounds h
      carries-as rounds (Ok RoundsSpent) h = spent-as rounds h
      carries-as rounds (Err e) h = tt

      pub means-as : (w : Words) (rounds : ℕ) (r : Result Carried CarryFault) → IfOk r (MeansOverHonest w g content faults failed_openings rounds u
          v) → IfOk r (MeansOverHonest w g content' faults' failed_openings' rounds x y)
      means-as w rounds (Ok Quiet) h = record { quiet = quiet-as rounds h.quiet; world = h.world }
      means-as w rounds (Ok RoundsSpent) h = record { spent = spent-as rounds h.spent; world = h.world }
      means-as w rounds (Err e) h = tt
