-- What is printed behind all events.
use Rattle.std.proofs.Common.{◌≡◌, ℕ, [], ◌++◌, length, map, codes, ap, sym, ◌∙◌, refl, subst, append_assoc, Some, None}
use Rattle.std.specs.Prelude.{Option, Result}
use Rattle.std.specs.Fmt.{decimal}
use Rattle.std.proofs.Math.Logic.{∥∥₁_elim}
use mathlib.Core.HLevel.{⊥_prop}
use Rattle.aw_term.specs.Artifacts.{Words, artifact_text}
use Rattle.aw_term.specs.Choices.{undivided}
use Rattle.aw_term.specs.Configs.{Config}
use Rattle.aw_term.specs.Runs.{artifacts}
use Rattle.aw_choice.specs.ChoiceView.{choice_of}
use Rattle.aw_out.specs.declared.error.PrintFault.{PrintFault}
use Rattle.aw_out.specs.Report.{Bounded, Prints}
use Rattle.aw_law_sites.specs.Outputs.{artifacts_on, ending_on}
use Rattle.aw_law_sites.specs.Worlds as V
use Rattle.aw_world.specs.declared.workspace.Workspace.{Ghosts}
use Rattle.aw_world.specs.declared.world.World.{World}
use Rattle.aw_world.specs.Marks.{marks}
use Rattle.aw_world.specs.Shown.{first_open}
use Rattle.aw_world.specs.WorldView.{plain_of, named_by}
use Rattle.aw_world.proofs.WorldFacts.{reached_configured}
use Rattle.aw_replay.specs.Telling.{undelivered_line, artifacts_line, PrintsEnding, PrintsQuiet}

pub artifacts_split : (w : Words) (c : Config) (n : ℕ) → n ≡ length c → artifacts w c ≡ artifacts_line n ++ artifact_text w c
artifacts_split w c n e =
    ap (λ m. codes "artifacts " ++ (decimal m ++ (codes "\n" ++ artifact_text w c))) (sym e)
    ∙ ap (λ t. codes "artifacts " ++ t) (sym (append_assoc (decimal n) (codes "\n") (artifact_text w c)))
    ∙ sym (append_assoc (codes "artifacts ") (decimal n ++ codes "\n") (artifact_text w c))

module _ {W : Type 0} (f : Ghosts W) (w : World W f) (old new : Bounded) (r : Result Unit PrintFault) where
  -- a message was not delivered
  pub ending_open : (k : ℕ) → first_open w ≡ Some k → Prints (undelivered_line (V.count_open (marks w.messages w.marks.delivered.items))) old new r → PrintsEnding f w old new r
  ending_open k first prints v S =
      let u : V.undelivered v ≡ Some k = ap V.undelivered (sym S) ∙ first in
      subst (λ t. Prints t old new r) (sym (ap (ending_on (named_by w) (plain_of w) v) u ∙ ap (λ (u : V.World). undelivered_line (V.count_open u.delivered)) (sym S))) prints

  configured : undivided (plain_of w) [] (map choice_of w.taken.items) ≡ None → ⊥
  configured none = ∥∥₁_elim (reached_configured f w.accepted.now w.loads w.sites.items w.messages w.marks.delivered.items w.taken.items w.reached) ⊥_prop
      (λ h. let e = h.1 in let z : None ≡ Some h.0 = sym none ∙ e in absurd cc)

  quiet_cases : PrintsQuiet f w old new r → (o : Option Config) → undivided (plain_of w) [] (map choice_of w.taken.items) ≡ o → Prints (artifacts_on (named_by w) o) old new r
  quiet_cases prints None e = absurd (configured e)
  quiet_cases prints (Some c) e = prints c e

  -- every message was delivered
  pub ending_quiet : first_open w ≡ None → PrintsQuiet f w old new r → PrintsEnding f w old new r
  ending_quiet quiet prints v S =
      let u : V.undelivered v ≡ None = ap V.undelivered (sym S) ∙ quiet in
      subst (λ t. Prints t old new r) (sym (ap (ending_on (named_by w) (plain_of w) v) u ∙ ap (λ (u : V.World). artifacts_on (named_by w) (undivided (plain_of w) [] u.taken)) (sym S)))
      (quiet_cases prints (undivided (plain_of w) [] (map choice_of w.taken.items)) refl)
