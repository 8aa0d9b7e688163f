use Rattle.std.proofs.Common.{rules, ◌≡◌, ◌∙◌}
use Rattle.std.specs.HashMap.{get}
use Rattle.aw_name.specs.contracts.node.RefPartialEq.TheImpl as reference
use Rattle.aw_subs.proofs.EntryLemmas.{entry_derived}
use Rattle.aw_subs.proofs.subs.noted.Goals as goal

pub returns : goal.returns
returns c =
    let found : c.copied.result ≡ get (reference.ghosts).eq c.args.subs.now c.args.r.now = search rules in
    found ∙ entry_derived c.args.subs.now c.args.r.now
