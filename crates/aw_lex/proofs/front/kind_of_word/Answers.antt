use Rattle.std.proofs.Common.{◌∙◌, sym}
use Rattle.aw_lex.proofs.Words.{all_plain, not_all_plain}
use Rattle.aw_lex.proofs.front.kind_of_word.Goals as goal

pub kind_of_plain-requires : goal.kind_of_plain-requires
kind_of_plain-requires c = all_plain c.args.word.now (sym c.requires ∙ c.if-name-word.true)

pub kind_of_joined-requires : goal.kind_of_joined-requires
kind_of_joined-requires c = not_all_plain c.args.word.now (λ e. c.if-name-word.false (c.requires ∙ e))
