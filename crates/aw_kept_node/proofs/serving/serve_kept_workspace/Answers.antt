use Rattle.std.proofs.Common.{◌∙◌, IsTrue, subst}
use Rattle.aw_node.specs.TypedNodes.{rules_of}
use Rattle.aw_kept_node.specs.Serving.{WasReopened}
use Rattle.aw_kept_node.proofs.Opening.{synced-by}
use Rattle.aw_kept_node.proofs.serving.serve_kept_workspace.Goals as goal

pub serve_reopened-served-requires-clause-settled : goal.serve_reopened-served-requires-clause-settled
serve_reopened-served-requires-clause-settled g c told = c.in_ok-journal.ensures.settled (subst IsTrue c.reopen.ensures.tells told)

pub returns-clause-served : goal.returns-clause-served
returns-clause-served g c s shown =
    let h = c.in_ok-journal.ensures in
    let was : WasReopened g.D.Disk c.args.role c.args.text.now c.args.disk.now c.reopen.new.disk c.in_ok-journal.journal = record {
      opened = record { are_read = h.ok; own_head = h.good_head; head_fits = h.not_full };
      same_role = h.made.0;
      same_text = h.made.1;
      same_limit = h.made.2;
      settled = h.settled;
      moments = c.reopen.ensures.any_moment;
      first_sync = λ told. synced-by g.W.Wire g.D.Disk (rules_of c.args.g.now.grammar c.args.t.now) c.args.role c.args.text.now s c.args.disk.now
          g.met.D.Disk.only_now c.reopen.new.disk c.in_ok-journal.journal
          (c.reopen.ensures.any_moment told) (c.reopen.ensures.first_sync told) (h.settled told) (c.reopen.ensures.reads_same told);
      images = c.reopen.ensures.images;
      reads = c.reopen.ensures.reads_same;
      tells = c.reopen.ensures.tells;
      never_falls = c.reopen.ensures.never_falls;
    } in
    c.serve_reopened-served.ensures.served c.args.text.now c.args.disk.now s was shown

pub returns-clause-stopped : goal.returns-clause-stopped
returns-clause-stopped g c s shown =
    let h = c.in_ok-journal.ensures in
    let was : WasReopened g.D.Disk c.args.role c.args.text.now c.args.disk.now c.reopen.new.disk c.in_ok-journal.journal = record {
      opened = record { are_read = h.ok; own_head = h.good_head; head_fits = h.not_full };
      same_role = h.made.0;
      same_text = h.made.1;
      same_limit = h.made.2;
      settled = h.settled;
      moments = c.reopen.ensures.any_moment;
      first_sync = λ told. synced-by g.W.Wire g.D.Disk (rules_of c.args.g.now.grammar c.args.t.now) c.args.role c.args.text.now s c.args.disk.now
          g.met.D.Disk.only_now c.reopen.new.disk c.in_ok-journal.journal
          (c.reopen.ensures.any_moment told) (c.reopen.ensures.first_sync told) (h.settled told) (c.reopen.ensures.reads_same told);
      images = c.reopen.ensures.images;
      reads = c.reopen.ensures.reads_same;
      tells = c.reopen.ensures.tells;
      never_falls = c.reopen.ensures.never_falls;
    } in
    c.serve_reopened-served.ensures.stopped c.args.text.now c.args.disk.now s was shown

pub returns-clause-kept : goal.returns-clause-kept
returns-clause-kept g c other = c.serve_reopened-served.ensures.kept other ∙ c.in_ok-journal.ensures.kept (λ is. cc is)

pub returns-in_err-journal-clause-stays : goal.returns-in_err-journal-clause-stays
returns-in_err-journal-clause-stays g c = c.served_nodes.ensures.stays (rules_of c.args.g.now.grammar c.args.t.now)

pub returns-clause-stays : goal.returns-clause-stays
returns-clause-stays g c = c.served_nodes.ensures.stays (rules_of c.args.g.now.grammar c.args.t.now)
