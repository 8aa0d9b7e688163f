-- How the answering stopped, where it is known.
use Rattle.std.proofs.Common.{◌≡◌, ℕ, List, Bool, subst}
use Rattle.aw_msg.specs.Frames.{Frame}
use Rattle.aw_session.specs.Steps.{IsStoppedStretch}
use Rattle.aw_session.specs.declared.answering.Stop.{Stop}

pub stops-at : {S : Type 0} (answers : S → Frame → List ℕ → S → Type 0) (talks : List ℕ → Bool → Type 0) (s t : S) (from to : List ℕ) (n : ℕ)
    (w v : Stop) → w ≡ v → IsStoppedStretch answers talks s t from to n w → IsStoppedStretch answers talks s t from to n v
stops-at {S} answers talks s t from to n w v e h = subst (λ (x : Stop). IsStoppedStretch answers talks s t from to n x) e h
