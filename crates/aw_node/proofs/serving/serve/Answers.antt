use Rattle.std.proofs.Common.{true, arith}
use Rattle.aw_law_sites.specs.Sites.{empty_site}
use Rattle.aw_node.proofs.SiteReplies.{few_roles}
use Rattle.aw_node.proofs.serving.serve.Goals as goal

pub serve_workspace-requires-clause-role : goal.serve_workspace-requires-clause-role
serve_workspace-requires-clause-role g c =
    let few = few_roles c.args.g.now.grammar in
    omega (arith, few, c.requires.role)

pub returns-clause-stopped : goal.returns-clause-stopped
returns-clause-stopped g c = c.serve_workspace.ensures.stopped (empty_site true c.args.role) (rw c.new-2.ensures.site c.new-site.ensures.site)

pub returns-clause-served : goal.returns-clause-served
returns-clause-served g c = c.serve_workspace.ensures.served (empty_site true c.args.role) (rw c.new-2.ensures.site c.new-site.ensures.site)
