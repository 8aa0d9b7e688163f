use Rattle.std.specs.Prelude.{[], get_or}
use Rattle.std.proofs.Common.{◌∙◌}
use Rattle.aw_journal.proofs.Reading.{one_byte}
use Rattle.aw_journal.proofs.journal.is_open.Goals as goal

pub returns-clause-open : goal.returns-clause-open
returns-clause-open g c file h within =
    c.begins_open.ensures (get_or file c.args.gate 0) [] (c.deref.ensures.value ∙ c.in_ok-ask.ensures.asked file h ∙ one_byte file c.args.gate within)
