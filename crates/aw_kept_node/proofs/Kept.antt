-- What it is that a frame was answered and its event kept, or that the event could not be kept.
use Rattle.std.proofs.Common.{◌≡◌, ℕ, List, Option, None, Some, Result, Ok, Err, inl, inr, refl, ap, ◌∙◌, subst}
use Rattle.std.specs.Result.{IfOk, OnOk, IfErr}
use Rattle.aw_law_sites.specs.Sites.{Site}
use Rattle.aw_msg.specs.Frames.{Frame}
use Rattle.aw_msg.specs.Replies.{spelled_reply}
use Rattle.aw_msg.specs.Responses.{Response}
use Rattle.aw_disk.specs.declared.edge.Disk.{Ghosts}
use Rattle.aw_journal.specs.Events.{Event}
use Rattle.aw_journal.specs.Journal.{Kept}
use Rattle.aw_journal.specs.declared.journal.AppendFault.{AppendFault}
use Rattle.aw_journal.specs.declared.journal.AppendFault.TheVariants.{NoMemory}
use Rattle.aw_node.specs.TypedNodes.{Rules, HandlesAs}
use Rattle.aw_kept_append.specs.Appending.{Appends, Fails}
use Rattle.aw_kept_append.specs.News.{event_by}
use Rattle.aw_kept_node.specs.Answering.{AnswersAndKeeps, FailsAsSeen}

module _ {D : Type 0} (d : Ghosts D) where
  -- what was done as the reply says was done as each site says that was shown
  pub fails-as : (r : Rules) (f : Frame) (shows after : Site → Type 0) (x : Response) (j : Kept) (old new : D) (fault : AppendFault) →
      HandlesAs r f shows after x → Fails d (event_by f x) j old new fault → FailsAsSeen d r f shows j old new fault
  fails-as r f shows after x j old new fault h p s shown = subst (λ (y : Response). Fails d (event_by f y) j old new fault) (h s shown).0 p

  -- there was no memory for the reply
  pub fails-behind : (event : Option Event) (j k : Kept) (old new : D) → Appends d event j k old new → Fails d event j old new NoMemory
  fails-behind None j k old new p = (inl p.1, tt)
  fails-behind (Some e) j k old new p = (inr (e, refl, p.writes, p.within), tt)

  -- the same of a result
  pub all-fail-as : (r : Rules) (f : Frame) (shows after : Site → Type 0) (x : Response) (j : Kept) (old new : D)
      (result : Result (List ℕ) AppendFault) → HandlesAs r f shows after x → IfErr result (Fails d (event_by f x) j old new) →
      IfErr result (FailsAsSeen d r f shows j old new)
  all-fail-as r f shows after x j old new (Ok text) h p = tt
  all-fail-as r f shows after x j old new (Err fault) h p = fails-as r f shows after x j old new fault h p

  -- these are the bytes of the reply, and what the frame was by its reply is appended
  pub answers-as : (r : Rules) (f : Frame) (shows after : Site → Type 0) (x : Response) (j k : Kept) (old new : D)
      (result : Result (List ℕ) AppendFault) → HandlesAs r f shows after x → IfOk result (λ text. text ≡ spelled_reply r.words x) →
      OnOk result (Appends d (event_by f x) j k old new) → IfOk result (AnswersAndKeeps d r f shows after j k old new)
  answers-as r f shows after x j k old new (Ok text) h e p =
      ((λ s shown. (e ∙ ap (spelled_reply r.words) (h s shown).0, (h s shown).1)), λ s shown. subst (λ (y : Response). Appends d (event_by f y) j k old new) (h s shown).0 p)
  answers-as r f shows after x j k old new (Err fault) h e p = tt
