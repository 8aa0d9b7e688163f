use Rattle.std.specs.Prelude.{IsTrue, length}
use Rattle.std.proofs.Common.{refl, sym, ◌∙◌, ap, subst, arith}
use Rattle.aw_journal.proofs.Quiets.{quiet_none, quiet_more}
use Rattle.aw_journal.proofs.reads.begin.Goals as goal

pub returns-in-Failed-clause-only : goal.returns-in-Failed-clause-only
returns-in-Failed-clause-only g c =
    let D = g.D.Disk in
    let L = g.met.D.Disk in
    let old = c.args.disk.now in
    record {
      quiet = quiet_more D.tells D.seen D.may_leave D.moment D.left_since L.counts_now L.only_now old old c.size.new.self
          (quiet_none D.tells D.seen D.may_leave D.moment D.left_since L.counts_now L.only_now old) c.size.ensures.tells c.size.ensures.seen
          c.size.ensures.crash c.size.ensures.time;
      never_falls = c.size.ensures.never_falls;
      cause = c.in-Failed.ensures.cause refl;
      kept = tt;
    }

pub returns-clause-reads : goal.returns-clause-reads
returns-clause-reads g c file told is = record {
  told = subst IsTrue (sym c.size.ensures.tells) told;
  seen_is = c.size.ensures.seen ∙ is;
  size_is = c.in-Bytes.ensures.size c.in-Bytes.size refl told ∙ ap length is;
  within = omega arith;
  same = refl;
}

pub returns-clause-only : goal.returns-clause-only
returns-clause-only g c =
    let D = g.D.Disk in
    let L = g.met.D.Disk in
    let old = c.args.disk.now in
    record {
      quiet = quiet_more D.tells D.seen D.may_leave D.moment D.left_since L.counts_now L.only_now old old c.size.new.self
          (quiet_none D.tells D.seen D.may_leave D.moment D.left_since L.counts_now L.only_now old) c.size.ensures.tells c.size.ensures.seen
          c.size.ensures.crash c.size.ensures.time;
      never_falls = c.size.ensures.never_falls;
      cause = tt;
      kept = c.in-Bytes.ensures.kept (λ e. cc);
    }
