use Rattle.std.proofs.Common.{sym}
use Rattle.aw_node.specs.TypedNodes.{rules_of}
use Rattle.aw_node.proofs.NodeLemmas.{rules-same}
use Rattle.aw_kept_node.proofs.CutOffs.{ok-map, err-map, err-of, in-either}
use Rattle.aw_kept_node.proofs.Nodes.{named-served, named-stopped, counted-served, counted-unopened, counted-stopped, goes-on, stops-node}
use Rattle.aw_kept_node.proofs.serving.serve_node.Goals as goal

pub returns-clause-same_disk : goal.returns-clause-same_disk
returns-clause-same_disk g c =
    in-either c.serve_sessions.result c.serve_sessions.ensures.ok c.serve_sessions.ensures.err
    (λ log h. named-served g.W.Wire g.D.Disk g.met.D.Disk.reads_an_outcome g.met.D.Disk.counts_now g.met.D.Disk.only_now
    (λ n. g.P.NodeWorkspace.shows n.site.now) (λ n. rules_of n.accepted.now.grammar n.typed.now) (λ n. n.journal.now) (λ n. n.disk.now) (λ n. n.reason) (λ n. n.disk.ghost_name)
    _ (λ n m f x a. (a.0, rules-same _ _ _ _ a.1 a.2, a.3, a.4, a.5)) _ (λ n m f e b. b) _ _ _ _ _ log h)
    (λ why h. named-stopped g.W.Wire g.D.Disk g.met.D.Disk.reads_an_outcome g.met.D.Disk.counts_now g.met.D.Disk.only_now
    (λ n. g.P.NodeWorkspace.shows n.site.now) (λ n. rules_of n.accepted.now.grammar n.typed.now) (λ n. n.journal.now) (λ n. n.disk.now) (λ n. n.reason) (λ n. n.disk.ghost_name)
    _ (λ n m f x a. (a.0, rules-same _ _ _ _ a.1 a.2, a.3, a.4, a.5)) _ (λ n m f e b. b) _ _ _ _ _ why h)

pub returns-clause-served : goal.returns-clause-served
returns-clause-served g c o k role rules st =
    ok-map c.serve_sessions.result c.serve_sessions.ensures.ok
    (λ log h. goes-on g.W.Wire g.D.Disk g.met.D.Disk.reads_an_outcome g.met.D.Disk.counts_now g.met.D.Disk.only_now
    (λ n. g.P.NodeWorkspace.shows n.site.now) (λ n. rules_of n.accepted.now.grammar n.typed.now) (λ n. n.journal.now) (λ n. n.disk.now) (λ n. n.reason) (λ n. n.disk.ghost_name)
    _ (λ n m f x a. (a.0, rules-same _ _ _ _ a.1 a.2, a.3, a.4, a.5)) _ (λ n m f e b. b) o _ _ _ k _ _ log role h (st, sym rules, c.requires.reason))

pub returns-clause-stopped : goal.returns-clause-stopped
returns-clause-stopped g c o k role rules st =
    err-map c.serve_sessions.result c.serve_sessions.ensures.err
    (λ why h. stops-node g.W.Wire g.D.Disk g.met.D.Disk.reads_an_outcome g.met.D.Disk.counts_now g.met.D.Disk.only_now
    (λ n. g.P.NodeWorkspace.shows n.site.now) (λ n. rules_of n.accepted.now.grammar n.typed.now) (λ n. n.journal.now) (λ n. n.disk.now) (λ n. n.reason) (λ n. n.disk.ghost_name)
    _ (λ n m f x a. (a.0, rules-same _ _ _ _ a.1 a.2, a.3, a.4, a.5)) _ (λ n m f e b. b) o _ _ _ k _ _ why role h (st, sym rules, c.requires.reason))

pub returns-clause-kept : goal.returns-clause-kept
returns-clause-kept g c =
    ok-map c.serve_sessions.result c.serve_sessions.ensures.ok
    (λ log h. counted-served g.W.Wire g.D.Disk g.met.D.Disk.reads_an_outcome g.met.D.Disk.counts_now g.met.D.Disk.only_now
    (λ n. g.P.NodeWorkspace.shows n.site.now) (λ n. rules_of n.accepted.now.grammar n.typed.now) (λ n. n.journal.now) (λ n. n.disk.now) (λ n. n.reason) (λ n. n.disk.ghost_name)
    _ (λ n m f x a. (a.0, rules-same _ _ _ _ a.1 a.2, a.3, a.4, a.5)) _ (λ n m f e b. b) _ _ _ _ _ log h)

pub returns-clause-kept_unopened : goal.returns-clause-kept_unopened
returns-clause-kept_unopened g c is =
    err-of c.serve_sessions.result _ c.serve_sessions.ensures.err is
    (λ why h. counted-unopened g.W.Wire g.D.Disk g.met.D.Disk.reads_an_outcome g.met.D.Disk.counts_now g.met.D.Disk.only_now
    (λ n. g.P.NodeWorkspace.shows n.site.now) (λ n. rules_of n.accepted.now.grammar n.typed.now) (λ n. n.journal.now) (λ n. n.disk.now) (λ n. n.reason) (λ n. n.disk.ghost_name)
    _ (λ n m f x a. (a.0, rules-same _ _ _ _ a.1 a.2, a.3, a.4, a.5)) _ (λ n m f e b. b) _ _ _ _ _ why h)

pub returns-clause-kept_stopped : goal.returns-clause-kept_stopped
returns-clause-kept_stopped g c other =
    in-either c.serve_sessions.result c.serve_sessions.ensures.ok c.serve_sessions.ensures.err
    (λ log h. counted-served g.W.Wire g.D.Disk g.met.D.Disk.reads_an_outcome g.met.D.Disk.counts_now g.met.D.Disk.only_now
    (λ n. g.P.NodeWorkspace.shows n.site.now) (λ n. rules_of n.accepted.now.grammar n.typed.now) (λ n. n.journal.now) (λ n. n.disk.now) (λ n. n.reason) (λ n. n.disk.ghost_name)
    _ (λ n m f x a. (a.0, rules-same _ _ _ _ a.1 a.2, a.3, a.4, a.5)) _ (λ n m f e b. b) _ _ _ _ _ log h)
    (λ why h. counted-stopped g.W.Wire g.D.Disk g.met.D.Disk.reads_an_outcome g.met.D.Disk.counts_now g.met.D.Disk.only_now
    (λ n. g.P.NodeWorkspace.shows n.site.now) (λ n. rules_of n.accepted.now.grammar n.typed.now) (λ n. n.journal.now) (λ n. n.disk.now) (λ n. n.reason) (λ n. n.disk.ghost_name)
    _ (λ n m f x a. (a.0, rules-same _ _ _ _ a.1 a.2, a.3, a.4, a.5)) _ (λ n m f e b. b) _ _ _ _ _ why h other)
