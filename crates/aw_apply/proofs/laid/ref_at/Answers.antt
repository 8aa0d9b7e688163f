use Rattle.std.proofs.Common.{◌≡◌, ap, ◌∙◌}
use Rattle.std.proofs.lemmas.Result.{IfOk-weaker}
use Rattle.aw_term.specs.Names.{Ref}
use Rattle.aw_term.specs.Rules.{get}
use Rattle.aw_apply.specs.Made.{no_ref}
use Rattle.aw_apply.proofs.LayLemmas.{got_at, past_all}
use Rattle.aw_apply.proofs.laid.ref_at.Goals as goal

pub returns-in-Some : goal.returns-in-Some
returns-in-Some c =
    let d = no_ref c.args.node.now in
    let rs = c.args.refs.now in
    IfOk-weaker c.copy_ref.result _ (λ (r : Ref). r ≡ get d rs c.args.variable)
    (λ r w. w ∙ got_at d rs c.from.result c.in-Some.r.now c.in-Some.ensures.lookup.3.0 c.in-Some.ensures.lookup.1 ∙ ap (get d rs) c.from.ensures)
    c.copy_ref.ensures

pub returns-in-None : goal.returns-in-None
returns-in-None c =
    let d = no_ref c.args.node.now in
    let rs = c.args.refs.now in
    IfOk-weaker c.part_of.result _ (λ (r : Ref). r ≡ get d rs c.args.variable)
    (λ r w. w ∙ past_all d rs c.from.result c.in-None.ensures.lookup.3 ∙ ap (get d rs) c.from.ensures)
    c.part_of.ensures
