use Rattle.std.proofs.Common.{◌≡◌, ◌∷◌, ◌++◌, [], ap, sym, ◌∙◌, arith}
use Rattle.aw_term.specs.Configs.{put}
use Rattle.aw_plain_rows.specs.declared.put.Job.TheVariants.{Visit, Make}
use Rattle.aw_plain_rows.specs.TreeView.{values_of}
use Rattle.aw_plain_rows.specs.Jobs.{finish, work}
use Rattle.aw_plain_rows.proofs.JobLemmas.{finish_push, work_push}
use Rattle.aw_plain_rows.proofs.put.put_all.Goals as goal

pub loop-job-smaller-in-Continue-branch-2 : goal.loop-job-smaller-in-Continue-branch-2
loop-job-smaller-in-Continue-branch-2 c =
    let rest = c.pop.new.self.items in
    let e : c.loop-job.todo.items ≡ rest ++ Visit c.in-Visit.part ∷ [] = c.in-Some.ensures.items ∙ ap (λ j. rest ++ j ∷ []) c.in-Visit.is in
    omega (arith, ap work e, work_push, c.in_ok-begin_put-in-Visit.ensures.work)

pub loop-job-preserved-in-Continue-branch-2 : goal.loop-job-preserved-in-Continue-branch-2
loop-job-preserved-in-Continue-branch-2 c =
    let f = (put c.args.node.now (values_of c.args.results.now)) in
    let rest = c.pop.new.self.items in
    let vs = values_of c.loop-job.values.items in
    let e : c.loop-job.todo.items ≡ rest ++ Visit c.in-Visit.part ∷ [] = c.in-Some.ensures.items ∙ ap (λ j. rest ++ j ∷ []) c.in-Visit.is in
    c.in_ok-begin_put-in-Visit.ensures.finish ∙ sym (finish_push f rest (Visit c.in-Visit.part) vs) ∙ ap (λ js. finish f js vs) (sym e) ∙ c.loop-job.invariant

pub loop-job-smaller : goal.loop-job-smaller
loop-job-smaller c =
    let rest = c.pop.new.self.items in
    let e : c.loop-job.todo.items ≡ rest ++ Make c.in-Make.con c.in-Make.n ∷ [] = c.in-Some.ensures.items ∙ ap (λ j. rest ++ j ∷ []) c.in-Make.is in
    omega (arith, ap work e, work_push)

pub loop-job-preserved : goal.loop-job-preserved
loop-job-preserved c =
    let f = (put c.args.node.now (values_of c.args.results.now)) in
    let rest = c.pop.new.self.items in
    let vs = values_of c.loop-job.values.items in
    let e : c.loop-job.todo.items ≡ rest ++ Make c.in-Make.con c.in-Make.n ∷ [] = c.in-Some.ensures.items ∙ ap (λ j. rest ++ j ∷ []) c.in-Make.is in
    ap (finish f rest) c.in_ok-make-in-Make.ensures ∙ sym (finish_push f rest (Make c.in-Make.con c.in-Make.n) vs) ∙ ap (λ js. finish f js vs) (sym e) ∙ c.loop-job.invariant
