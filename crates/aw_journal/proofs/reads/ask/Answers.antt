use Rattle.std.specs.Prelude.{◌≡◌, drop, length}
use Rattle.std.proofs.Common.{refl, ◌∙◌, arith, length-drop}
use Rattle.aw_journal.proofs.Reading.{taken_all}
use Rattle.aw_journal.proofs.reads.ask.Goals as goal

pub returns-then-not-branch-clause-asked : goal.returns-then-not-branch-clause-asked
returns-then-not-branch-clause-asked g c file h =
    let was = c.loop-reader.invariant in
    let asked = c.loop-reader.reader.asked.items in
    let same : c.reach.new.reader.asked.items ≡ asked = rw c.reach.ensures.asked.0 refl in
    let ended = c.in_ok-reach.ensures.ended file (was.reads file h) c.if-not-branch.true in
    let long : length asked ≡ c.len-in-loop-reader.result = omega (arith, c.len-in-loop-reader.ensures, c.loop-reader.reader.asked.ok.0) in
    same ∙ was.asked file h ∙ taken_all (drop c.args.at file) (length asked) c.args.count (omega (arith, length-drop c.args.at file, ended, long)) was.most
