use Rattle.std.proofs.Common.{◌∙◌, arith}
use Rattle.aw_grammar.specs.Written.{written_of}
use Rattle.aw_sched.proofs.KnownGrounds.{none_is, past_is}
use Rattle.aw_sched.proofs.ground.args_are_past.Goals as goal

pub returns-else-len-gt-MOST_ARGUMENTS : goal.returns-else-len-gt-MOST_ARGUMENTS
returns-else-len-gt-MOST_ARGUMENTS c =
    none_is c.room_after_all.result c.is_none.result c.is_none.ensures
    ∙ past_is written_of c.args.args.now c.room_after_all.result (omega arith) c.room_after_all.ensures
