use Rattle.std.proofs.Common.{◌≡◌, ◌∙◌, ◌++◌, sym, ap, take, drop, arith}
use Rattle.std.proofs.lemmas.List.{take-take, take-append-drop, take_rest}
use Rattle.aw_base.proofs.ReadFronts.{fronts_kept, last_kept}
use Rattle.aw_base.proofs.node_reader.ReadName.turn_to.Goals as goal

pub returns-clause-read : goal.returns-clause-read
returns-clause-read c w g h =
    let old = c.args.self.now in
    let text = c.args.text.now in
    let kept = fronts_kept w g old.text.items text old.start old.case old.steps.items old.fronts.items c.args.common c.args.kept h c.requires.few c.requires.last (sym c.requires.same) in
    let same : c.extend_from_slice.new.self.items ≡ text =
    c.in_ok-extend_from_slice.ensures.items ∙ ap (λ t. c.truncate-3.new.self.items ++ t) (take_rest text c.args.common)
    ∙ ap (λ t. t ++ drop c.args.common text) (c.truncate-3.ensures.items ∙ c.requires.same) ∙ take-append-drop c.args.common text in
    rw (same, c.truncate.ensures.items, c.truncate-2.ensures.items, c.saturating_sub.ensures) kept

pub returns-clause-stands : goal.returns-clause-stands
returns-clause-stands c w g h =
    let old = c.args.self.now in
    let text = c.args.text.now in
    let kept = last_kept w g old.text.items text old.start old.case old.steps.items old.fronts.items c.args.common c.args.kept h c.requires.few
    c.requires.last (sym c.requires.same) c.requires.within in
    let same : c.extend_from_slice.new.self.items ≡ text =
    c.in_ok-extend_from_slice.ensures.items ∙ ap (λ t. c.truncate-3.new.self.items ++ t) (take_rest text c.args.common)
    ∙ ap (λ t. t ++ drop c.args.common text) (c.truncate-3.ensures.items ∙ c.requires.same) ∙ take-append-drop c.args.common text in
    rw (same, c.truncate.ensures.items, c.truncate-2.ensures.items, c.saturating_sub.ensures) kept

pub returns-in_err-extend_from_slice-clause-read : goal.returns-in_err-extend_from_slice-clause-read
returns-in_err-extend_from_slice-clause-read c w g h =
    let old = c.args.self.now in
    let kept = fronts_kept w g old.text.items (take c.args.common old.text.items) old.start old.case old.steps.items old.fronts.items c.args.common c.args.kept h c.requires.few c.requires.last
    (take-take c.args.common c.args.common old.text.items (omega arith)) in
    rw (c.in_err-extend_from_slice.ensures.items, c.truncate-3.ensures.items, c.truncate.ensures.items, c.truncate-2.ensures.items, c.saturating_sub.ensures) kept
