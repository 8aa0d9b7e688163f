use Rattle.std.proofs.Common.{◌++◌}
use Rattle.aw_list.proofs.Fronts.{on_err_held}
use Rattle.aw_desk_wire.specs.Calls.{role_in}
use Rattle.aw_desk_wire.proofs.AskLemmas.{starved-none}
use Rattle.aw_desk_wire.proofs.wire.DeskWire.answer.Goals as goal

pub returns-in_err-feed-clause-starves : goal.returns-in_err-feed-clause-starves
returns-in_err-feed-clause-starves g c =
    on_err_held c.from_residual.result (starved-none _ _ (role_in c.args.self.now.calls.last) c.args.self.now.desks.items (c.args.self.now.reader.bytes ++ c.args.bytes.now))
