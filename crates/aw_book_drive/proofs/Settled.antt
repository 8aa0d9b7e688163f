-- A joined world, once all messages came.
use Rattle.std.proofs.Common.{◌≡◌, [], map, Some, Result, sym, ap, ◌∙◌, subst}
use Rattle.aw_accept.specs.declared.accepted.Accepted.{Accepted}
use Rattle.aw_choice.specs.ChoiceView.{choice_of}
use Rattle.aw_grammar.specs.GrammarOf.{grammar_of, words_of}
use Rattle.aw_law_sites.specs.Bounds.{bound_of, settled}
use Rattle.aw_law_sites.specs.Worlds as V
use Rattle.aw_law_worlds.proofs.Settling.{settle_taken}
use Rattle.aw_out.specs.Report.{Bounded, Prints}
use Rattle.aw_out.specs.declared.error.PrintFault.{PrintFault}
use Rattle.aw_term.specs.Artifacts.{artifact_text}
use Rattle.aw_term.specs.Choices.{undivided}
use Rattle.aw_world.specs.Reactions.{PrintsArtifacts}
use Rattle.aw_world.specs.Shown.{Shows}
use Rattle.aw_world.specs.declared.workspace.Workspace.{Ghosts}
use Rattle.aw_world.specs.declared.world.World.{World}
use Rattle.aw_book_drive.specs.Cases.{PrintsCases}
use Rattle.aw_book_drive.specs.Driving.{Nearly}

-- what is printed of the settled world are the artifacts of the choices that were taken before
pub prints-cases : {W : Type 0} (f : Ghosts W) (old new : World W f) (v : V.World) (before after : Bounded) (r : Result Unit PrintFault) → new.accepted.now ≡ old.accepted.now →
    ((v : V.World) → Shows f old v → Shows f new (settled (grammar_of old.accepted.now.grammar) v)) → Nearly f old v → PrintsArtifacts new.accepted.now.grammar new.taken.items before after r →
    PrintsCases old.accepted.now.grammar v before after r
prints-cases f old new v before after r same settles near prints c e =
    let g = grammar_of old.accepted.now.grammar in
    let (flags, s) = near in
    let w : V.World = record v { delivered = flags } in
    let taken : v.taken ≡ map choice_of new.taken.items = sym (settle_taken g (bound_of g w.taken) w) ∙ sym (ap (λ (u : V.World). u.taken) (settles w s)) in
    let there : undivided (grammar_of new.accepted.now.grammar) [] (map choice_of new.taken.items) ≡ Some c =
    ap (λ (a : Accepted). undivided (grammar_of a.grammar) [] (map choice_of new.taken.items)) same ∙ (ap (undivided g []) (sym taken) ∙ e) in
    subst (λ (a : Accepted). Prints (artifact_text (words_of a.grammar) c) before after r) same (prints c there)
