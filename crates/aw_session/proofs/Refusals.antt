-- What holds where a call gives an error.
use Rattle.std.proofs.Common.{◌≡◌, ℕ, List, Result, Ok, Err, refl, sym, subst}
use Rattle.std.specs.Result.{IfErr, IsErrAnd}
use Rattle.aw_msg.specs.Frames.{Frame, frame}
use Rattle.aw_session.specs.Broken.{StopsAt, Reading, Replying}

-- of the error that was passed on
pub err-passed : {A F : Type 0} (r : Result A F) (f : F) (P : F → Type 0) → IsErrAnd r (λ e. e ≡ f) → P f → IfErr r P
err-passed (Ok x) f P h p = tt
err-passed (Err e) f P h p = subst P (sym h) p

-- where reading came to a stop
pub err-reading : {S A F : Type 0} (breaks : S → Frame → F → S → Type 0) (rest : List ℕ) (m : S) (T : Type 0) (r : Result A F) → T → IfErr r (λ f. StopsAt breaks rest m f m × T)
err-reading {S} {A} {F} breaks rest m T (Ok x) t = tt
err-reading {S} {A} {F} breaks rest m T (Err f) t = (Reading refl, t)

-- where a frame that stands next got no reply
pub err-replying : {S A F : Type 0} (breaks : S → Frame → F → S → Type 0) (rest : List ℕ) (m t : S) (f : Frame) (behind : List ℕ) (T : Type 0) (r : Result A F) → frame rest ≡ Ok (f, behind) →
    IfErr r (λ e. breaks m f e t × T) → IfErr r (λ e. StopsAt breaks rest m e t × T)
err-replying {S} {A} {F} breaks rest m t f behind T (Ok x) taken p = tt
err-replying {S} {A} {F} breaks rest m t f behind T (Err e) taken p = (Replying f behind taken p.0, p.1)
