-- The bytes of a reply.
use Rattle.std.proofs.Common.{◌≡◌, ℕ, List, Result, Ok, Err, ap, ◌∙◌}
use Rattle.std.specs.Result.{IfOk, OnOk, IfErr}
use Rattle.aw_law_sites.specs.Sites.{Site}
use Rattle.aw_msg.specs.Frames as F
use Rattle.aw_msg.specs.Replies.{spelled_reply}
use Rattle.aw_msg.specs.Responses as R
use Rattle.aw_node.specs.TypedNodes.{Rules, HandlesAs, AnswersAs}

-- what holds anyway holds where a call did not fail
pub ok-any : {A E T : Type 0} (r : Result A E) → T → OnOk r T
ok-any (Ok x) t = t
ok-any (Err e) t = tt

-- nothing is said where it failed
pub err-anyhow : {A E : Type 0} (r : Result A E) → IfErr r (λ e. Unit {0})
err-anyhow (Ok x) = tt
err-anyhow (Err e) = tt

-- the bytes of a reply that is as each site replies
pub bytes-of : {E T U : Type 0} (r : Rules) (f : F.Frame) (old new : Site → Type 0) (response : R.Response) (result : Result (List ℕ) E) →
    IfOk result (λ text. text ≡ spelled_reply r.words response) → HandlesAs r f old new response → T → U →
    IfOk result (λ text. AnswersAs r f old new text × T × U)
bytes-of r f old new response (Ok text) e h t u = ((λ s shown. let one = h s shown in (e ∙ ap (spelled_reply r.words) one.0, one.1)), t, u)
bytes-of r f old new response (Err fault) e h t u = tt
