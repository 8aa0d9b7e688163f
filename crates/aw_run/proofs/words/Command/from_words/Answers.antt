use Rattle.std.proofs.Common.{◌∙◌}
use Rattle.aw_run.proofs.Four.{four-words}
use Rattle.aw_run.proofs.words.Command.from_words.Goals as goal

pub returns-in-len4 : goal.returns-in-len4
returns-in-len4 c =
    c.from_kept.ensures
    ∙ four-words c.args.words.now _ _ _ _ _ _ c.in-len4.len_at_least c.in-len4.len_below c.word-item-then-words-lt5.is c.sessions-item-then-words-lt5.is c.last-item.is
    c.as_bytes-in-len4.ensures c.as_bytes-in-len4-2.ensures c.as_bytes-in-len4-3.ensures
