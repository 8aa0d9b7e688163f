use Rattle.std.proofs.Common.{◌∙◌, ◌*◌, ◌+◌, ◌-◌, sym, ap, get_or, drop}
use Rattle.aw_spelling.specs.Spelling.{if_word}
use Rattle.aw_spelling.proofs.Numbers.{le_value_after, no_word_above, value_at_end, value_one_more}
use Rattle.aw_spelling.proofs.number.number_value.Goals as goal

pub returns-in_err-value : goal.returns-in_err-value
returns-in_err-value c =
    let l = c.loop-digit in
    let bs = c.args.b.now in
    let next = l.value * 10 + (get_or bs l.digit-index 0 - 48) in
    let none = sym c.with_digit.ensures ∙ c.in_err-value.was in
    let above = no_word_above next _ none (le_value_after next (drop (l.digit-index + 1) bs)) in
    c.from_residual.ensures ∙ sym above ∙ ap if_word (value_one_more l.value l.digit-index bs c.loop-digit-test.true) ∙ l.invariant.rest

pub returns : goal.returns
returns c =
    let l = c.loop-digit in
    sym l.invariant.word ∙ ap if_word (sym (value_at_end l.value l.digit-index c.args.b.now c.loop-digit-test.false)) ∙ l.invariant.rest
