use Rattle.std.proofs.Common.{rules, ◌≡◌, ◌++◌, length, ap, sym, ◌∙◌, arith}
use Rattle.aw_grammar.specs.GrammarOf.{words_of}
use Rattle.aw_term.specs.Artifacts.{artifact_text}
use Rattle.aw_term.specs.Runs.{artifacts}
use Rattle.aw_world.proofs.Lines.{stops, goes_on}
use Rattle.aw_replay.proofs.Endings.{artifacts_split}
use Rattle.aw_replay.proofs.ending.print_artifacts.Goals as goal

pub returns-in_err-push : goal.returns-in_err-push
returns-in_err-push g c = λ cfg e.
    let w = words_of c.args.world.now.accepted.now.grammar in
    let n : c.len.result ≡ length cfg = omega (arith, c.len.ensures, c.in_ok-spots.spots.ok.0, c.in_ok-spots.ensures.quiet c.requires cfg e) in
    let whole : artifacts w cfg ≡ c.as_slice.result.now ++ artifact_text w cfg =
    artifacts_split w cfg c.len.result n ∙ ap (λ t. t ++ artifact_text w cfg) (sym (c.as_slice.ensures ∙ c.in_ok-line.ensures)) in
    stops (artifacts w cfg) c.as_slice.result.now (artifact_text w cfg) c.args.report.now c.push.new.self c.push.result
    c.from_residual-in_err-push.result _ whole c.in_err-push.was (search rules) c.push.ensures.prints

pub returns : goal.returns
returns g c = λ cfg e.
    let w = words_of c.args.world.now.accepted.now.grammar in
    let n : c.len.result ≡ length cfg = omega (arith, c.len.ensures, c.in_ok-spots.spots.ok.0, c.in_ok-spots.ensures.quiet c.requires cfg e) in
    let whole : artifacts w cfg ≡ c.as_slice.result.now ++ artifact_text w cfg =
    artifacts_split w cfg c.len.result n ∙ ap (λ t. t ++ artifact_text w cfg) (sym (c.as_slice.ensures ∙ c.in_ok-line.ensures)) in
    goes_on (artifacts w cfg) c.as_slice.result.now (artifact_text w cfg) c.args.report.now c.push.new.self c.print_rows.new.report c.push.result
    c.print_rows.result whole c.in_ok-push.was c.push.ensures.prints
    (c.print_rows.ensures.quiet c.requires cfg e)
