use Rattle.std.proofs.Common.{◌≡◌, rules, inr, refl, sym, ap, ◌∙◌, subst, Err}
use Rattle.aw_journal.specs.EventView.{events_seen}
use Rattle.aw_node.specs.TypedNodes.{rules_of}
use Rattle.aw_node.proofs.NodeLemmas.{rules-same}
use Rattle.aw_kept_node.specs.Faults.{of_append}
use Rattle.aw_kept_node.specs.KeptSites.{reopened}
use Rattle.aw_kept_node.specs.Serving.{begun_at, IsReopened, IsKeptServing, IsKeptUnopened, StopsKept}
use Rattle.aw_kept_node.proofs.CutOffs.{err-passed}
use Rattle.aw_kept_node.proofs.Opening.{not-redone, stands-first, stands-here, kept-serving, kept-unopened, kept-stopped}
use Rattle.aw_kept_node.proofs.serving.serve_reopened.Goals as goal

pub returns-in_err-redo_all-clause-stopped : goal.returns-in_err-redo_all-clause-stopped
returns-in_err-redo_all-clause-stopped g c head before s was shown =
    err-passed _ c.from_residual.result _ (search rules)
    (not-redone g.W.Wire g.D.Disk (rules_of c.args.g.now.grammar c.args.t.now) c.args.role head s before c.args.wire.now c.args.disk.now (events_seen c.events.result.now) _
    (c.in_err-redo_all.ensures.err s shown)
    (record { same = refl; moments = was.moments; first_sync = λ told. inr (was.first_sync told); images = was.images; reads = was.reads })
    (subst (λ es. IsReopened g.D.Disk c.args.role head before (events_seen es)) (sym c.events.ensures.events) was.opened))

pub returns-in-Ok-clause-served : goal.returns-in-Ok-clause-served
returns-in-Ok-clause-served g c head before s was shown =
    let r = rules_of c.args.g.now.grammar c.args.t.now in
    let j = c.args.journal.now in
    let events = events_seen j.events in
    let shows = g.P.NodeWorkspace.shows c.redo_all.new.site in
    let redone = rw c.events.ensures.events at c.in_ok-redo_all.ensures.ok s shown in
    let first = stands-first g.W.Wire g.D.Disk r c.args.role head s before c.args.disk.now shows j redone was in
    let n = c.new-node.ensures in
    let stands = stands-here g.D.Disk (begun_at r s c.args.role head events before) g.P.NodeWorkspace.shows c.new-node.result.site.now c.redo_all.new.site
    c.new-node.result.journal.now j c.new-node.result.disk.now c.args.disk.now (reopened r s events) n.site n.journal n.disk first in
    let same : c.serve_node.new.node.disk.now ≡ c.in-Ok.disk-1-own.given.0 = sym (c.in-Ok.disk-1-own.given.1 (sym (c.serve_node.ensures.same_disk ∙ n.same_disk))) in
    subst (λ x. IsKeptServing g.W.Wire g.D.Disk r c.args.role head s c.args.wire.now c.serve_node.new.wire before x c.in-Ok.log) same
    (kept-serving g.W.Wire g.D.Disk r c.args.role head s before g.met.D.Disk.reads_an_outcome g.met.D.Disk.counts_now _ _ _ _ events _ shows _ _
    was.opened redone
    (c.in-Ok.ensures.served (begun_at r s c.args.role head events before) (reopened r s events) refl (sym (rules-same _ _ _ _ n.accepted n.typed)) stands))

pub returns-in-Err-NetFault-clause-stopped : goal.returns-in-Err-NetFault-clause-stopped
returns-in-Err-NetFault-clause-stopped g c head before s was shown =
    let r = rules_of c.args.g.now.grammar c.args.t.now in
    let j = c.args.journal.now in
    let events = events_seen j.events in
    let shows = g.P.NodeWorkspace.shows c.redo_all.new.site in
    let redone = rw c.events.ensures.events at c.in_ok-redo_all.ensures.ok s shown in
    let first = stands-first g.W.Wire g.D.Disk r c.args.role head s before c.args.disk.now shows j redone was in
    let n = c.new-node.ensures in
    let stands = stands-here g.D.Disk (begun_at r s c.args.role head events before) g.P.NodeWorkspace.shows c.new-node.result.site.now c.redo_all.new.site
    c.new-node.result.journal.now j c.new-node.result.disk.now c.args.disk.now (reopened r s events) n.site n.journal n.disk first in
    let same : c.serve_node.new.node.disk.now ≡ c.disk-in-Err-NetFault-1.given.0 = sym (c.disk-in-Err-NetFault-1.given.1 (sym (c.serve_node.ensures.same_disk ∙ n.same_disk))) in
    subst (λ x. IsKeptUnopened g.W.Wire g.D.Disk r c.args.role head s c.args.wire.now c.serve_node.new.wire before x) same
    (kept-unopened g.W.Wire g.D.Disk r c.args.role head s before g.met.D.Disk.reads_an_outcome g.met.D.Disk.counts_now _ _ _ _ events _ shows _ _ _ c.in-Err-NetFault.field-0-is
    was.opened redone
    (c.in-Err-NetFault.ensures.stopped (begun_at r s c.args.role head events before) (reopened r s events) refl (sym (rules-same _ _ _ _ n.accepted n.typed)) stands))

pub returns-in-Err-Node-clause-stopped : goal.returns-in-Err-Node-clause-stopped
returns-in-Err-Node-clause-stopped g c head before s was shown =
    let r = rules_of c.args.g.now.grammar c.args.t.now in
    let j = c.args.journal.now in
    let events = events_seen j.events in
    let shows = g.P.NodeWorkspace.shows c.redo_all.new.site in
    let redone = rw c.events.ensures.events at c.in_ok-redo_all.ensures.ok s shown in
    let first = stands-first g.W.Wire g.D.Disk r c.args.role head s before c.args.disk.now shows j redone was in
    let n = c.new-node.ensures in
    let stands = stands-here g.D.Disk (begun_at r s c.args.role head events before) g.P.NodeWorkspace.shows c.new-node.result.site.now c.redo_all.new.site
    c.new-node.result.journal.now j c.new-node.result.disk.now c.args.disk.now (reopened r s events) n.site n.journal n.disk first in
    let same : c.serve_node.new.node.disk.now ≡ c.disk-in-Err-Node-1.given.0 = sym (c.disk-in-Err-Node-1.given.1 (sym (c.serve_node.ensures.same_disk ∙ n.same_disk))) in
    subst (λ x. StopsKept g.W.Wire g.D.Disk r c.args.role head s c.args.wire.now c.serve_node.new.wire before x c.from.result) same
    (kept-stopped g.W.Wire g.D.Disk r c.args.role head s before g.met.D.Disk.reads_an_outcome g.met.D.Disk.counts_now _ _ _ _ events _ shows _ _ _ _ _ c.in-Err-Node.field-0-is c.from.ensures
    was.opened redone
    (c.in-Err-Node.ensures.stopped (begun_at r s c.args.role head events before) (reopened r s events) refl (sym (rules-same _ _ _ _ n.accepted n.typed)) stands))

pub returns-in-Ok-clause-kept : goal.returns-in-Ok-clause-kept
returns-in-Ok-clause-kept g c other =
    let n = c.new-node.ensures in
    let same : c.serve_node.new.node.disk.now ≡ c.in-Ok.disk-1-own.given.0 = sym (c.in-Ok.disk-1-own.given.1 (sym (c.serve_node.ensures.same_disk ∙ n.same_disk))) in
    ap g.D.Disk.faults (sym same) ∙ (c.in-Ok.ensures.kept ∙ ap g.D.Disk.faults n.disk)

pub returns-in-Err-NetFault-clause-kept : goal.returns-in-Err-NetFault-clause-kept
returns-in-Err-NetFault-clause-kept g c other =
    let n = c.new-node.ensures in
    let same : c.serve_node.new.node.disk.now ≡ c.disk-in-Err-NetFault-1.given.0 = sym (c.disk-in-Err-NetFault-1.given.1 (sym (c.serve_node.ensures.same_disk ∙ n.same_disk))) in
    ap g.D.Disk.faults (sym same) ∙ (c.in-Err-NetFault.ensures.kept_unopened (ap Err c.in-Err-NetFault.field-0-is) ∙ ap g.D.Disk.faults n.disk)

pub returns-in-Err-Node-clause-kept : goal.returns-in-Err-Node-clause-kept
returns-in-Err-Node-clause-kept g c other =
    let n = c.new-node.ensures in
    let same : c.serve_node.new.node.disk.now ≡ c.disk-in-Err-Node-1.given.0 = sym (c.disk-in-Err-Node-1.given.1 (sym (c.serve_node.ensures.same_disk ∙ n.same_disk))) in
    ap g.D.Disk.faults (sym same) ∙ (c.serve_node.ensures.kept_stopped (λ is. other (ap Err (c.from.ensures ∙ ap of_append is))) ∙ ap g.D.Disk.faults n.disk)
