use Rattle.std.specs.Prelude.{◌≡◌, drop, length}
use Rattle.std.proofs.Common.{refl, ◌∙◌, arith, length-drop}
use Rattle.aw_journal.proofs.Reading.{taken_all}
use Rattle.aw_journal.proofs.Readings.{holds_same, passed_out, read_ok, read_then, room_same}
use Rattle.aw_journal.proofs.pieces.ask.Goals as goal

pub loop-reader-preserved : goal.loop-reader-preserved
loop-reader-preserved g c =
    let was = c.loop-reader.invariant in
    let mid = c.reach.new.reader in
    let new = c.take_held.new.reader in
    let same = c.take_held.ensures.unmoved in
    record {
      room = room_same mid new same.0 same.1 same.2 same.3 c.reach.ensures.room;
      end = same.3 ∙ c.reach.ensures.asked.1 ∙ was.end;
      most = c.take_held.ensures.most;
      only = read_ok g.P.Pages _ _ _ _ (read_then g.P.Pages g.met.P.Pages.read_on _ _ _ _ _ was.only c.in_ok-reach.ensures.only);
      holds = λ file told h. holds_same mid new same.0 same.1 same.2 same.3 file (c.in_ok-reach.ensures.holds file (was.only.same_bytes ∙ told) (was.holds file told h));
      asked = λ file told h. c.in_ok-take_held.ensures.same file (c.in_ok-reach.ensures.holds file (was.only.same_bytes ∙ told)
          (was.holds file told h)).same (rw c.reach.ensures.asked.0 (was.asked file told h));
    }

pub returns-in_err-take_held-clause-only : goal.returns-in_err-take_held-clause-only
returns-in_err-take_held-clause-only g c =
    passed_out g.P.Pages _ _ _ _ c.from_residual-in_err-take_held.ensures.1 (read_then g.P.Pages g.met.P.Pages.read_on _ _ _ _ _ c.loop-reader.invariant.only c.in_ok-reach.ensures.only)

pub returns-then-not-branch-clause-asked : goal.returns-then-not-branch-clause-asked
returns-then-not-branch-clause-asked g c file told h =
    let was = c.loop-reader.invariant in
    let asked = c.loop-reader.reader.asked.items in
    let same : c.reach.new.reader.asked.items ≡ asked = rw c.reach.ensures.asked.0 refl in
    let ended = c.in_ok-reach.ensures.ended file (was.only.same_bytes ∙ told) (was.holds file told h) c.if-not-branch.true in
    let long : length asked ≡ c.len-in-loop-reader.result = omega (arith, c.len-in-loop-reader.ensures, c.loop-reader.reader.asked.ok.0) in
    same ∙ was.asked file told h ∙ taken_all (drop c.args.at file) (length asked) c.args.count (omega (arith, length-drop c.args.at file, ended, long)) was.most
