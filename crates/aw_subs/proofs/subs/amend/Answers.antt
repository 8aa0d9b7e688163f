use Rattle.std.proofs.Common.{rules, ◌≡◌, ◌∙◌, Some}
use Rattle.std.specs.HashMap.{get}
use Rattle.aw_name.specs.contracts.node.RefPartialEq.TheImpl as reference
use Rattle.aw_subs.specs.Entries.{amended}
use Rattle.aw_subs.proofs.EntryLemmas.{WritesDerived, writes_derived, entry_derived}
use Rattle.aw_subs.proofs.subs.amend.Goals as goal

pub returns-in_err-entry-clause-was : goal.returns-in_err-entry-clause-was
returns-in_err-entry-clause-was c =
    let found : c.from_residual.result ≡ get (reference.ghosts).eq c.args.subs.now c.args.r.now = search rules in
    found ∙ entry_derived c.args.subs.now c.args.r.now

pub returns-clause-was : goal.returns-clause-was
returns-clause-was c =
    let found : Some c.in_ok-entry.entry.now ≡ get (reference.ghosts).eq c.args.subs.now c.args.r.now = search rules in
    found ∙ entry_derived c.args.subs.now c.args.r.now

pub returns-clause-written : goal.returns-clause-written
returns-clause-written c =
    let now = amended c.in_ok-entry.entry.now c.args.asked c.args.watchers in
    let written : WritesDerived c.args.subs.now (c.get_mut.follows.lender now) c.args.r.now now = search rules in
    writes_derived c.args.subs.now (c.get_mut.follows.lender now) c.args.r.now now written
