use Rattle.std.proofs.Common.{◌∙◌, sym}
use Rattle.aw_spelling.proofs.Numbers.{short_number}
use Rattle.aw_spelling.proofs.number.is_number.Goals as goal

pub returns : goal.returns
returns c = c.is_numeral.ensures ∙ sym (short_number c.args.b.now c.if-len-gt-SURE_DIGITS.false)
